-- Where a run rests with a trusted disk left, nothing goes on and nothing is due.
use Rattle.std.proofs.Common.{◌≡◌, ℕ, zero, suc, ◌+◌, ◌<◌, ◌||◌, ◌&&◌, not, Bool, true, false, List, [], ◌∷◌, length, refl, ap, sym, ◌∙◌, subst, arith, Option, Some, None, inl, inr}
use Rattle.std.specs.Prelude.{filter, slice_get}
use Rattle.std.specs.List.{range_with_len}
use Rattle.device_log.specs.Log.{Call}
use Rattle.array_machine.specs.Setting.{Edit, Setting}
use Rattle.array_machine.specs.Numbers.{has, first_of, is_empty}
use Rattle.array_machine.specs.Volumes.{Volume, volume_at}
use Rattle.array_machine.specs.Rounds.{Ended, OfRound, OfSpare, Phase, Rest, Going, GoesOn, lives, ending, expects, has_target}
use Rattle.array_machine.specs.Managers.{AskState, IsUnposted, IsPosted, IsApplied, IsSettled, Update}
use Rattle.array_machine.specs.Control.{Control}
use Rattle.array_machine.specs.Turns.{Turn, may_call, call_if, calling}
use Rattle.array_machine.specs.Updates.{Verdict, Refuses, EditsBook, WritesSpare, apply_verdict, apply_if, verdict_of}
use Rattle.array_machine.specs.MonitorTurns.{Deed, Nothing, ReadiesVolume, LetsWrites, UnblocksDisk, CleansVolume, BeginsRound, choose, deed_of, rest_changes, monitor_at, volumes_where, is_unready, may_activate, may_clean, unblockable, is_recorded, failed_now, has_edits, due_edits, is_due}
use Rattle.array_machine.specs.ManagerTurns.{activation, first_unposted, to_post, posts, manages_by, managing, living}
use Rattle.array_machine.specs.ClientTurns.{are_settled}
use Rattle.array_machine.specs.Machine.{Actor, Monitor, Manager as TheManager}
use Rattle.array_base.specs.Premises.{Premises}
use Rattle.array_base.specs.Base.{ledger, disks_by, IsTrusted, Goes, Base}
use Rattle.array_base.proofs.Targets.{or_neither, left_first, passes_has}
use Rattle.array_rest.specs.Between.{IsQueued, Kept, TurnIsOver}
use Rattle.array_rest.specs.Round.{RoundStands, PhaseStands, IsOfRound}
use Rattle.array_rest.specs.Rests.{IsStill, IsAtRest, NothingIsDue}
use Rattle.array_rest.proofs.Begun.{trusted_target}
use Rattle.array_rest.proofs.Parts.{not_true}

-- LISTS

-- where none of some numbers passes a test, each fails it
pub none_passes : (test : ℕ → Bool) (n d : ℕ) → first_of (filter test (range_with_len 0 n)) ≡ None → d < n
    → test d ≡ false
none_passes test n d none lt =
    not_true (test d) (λ is. empty (filter test (range_with_len 0 n)) none
    (passes_has test 0 n d (omega arith) (omega (arith, lt)) is))
  where
    empty : (ds : List ℕ) → first_of ds ≡ None → has d ds ≡ true → ⊥
    empty [] none is = cc is
    empty (e ∷ es) none is = cc none

-- a volume that was started is there
pub started_below : (xs : List Volume) (v : ℕ) → (volume_at xs v).started ≡ true → v < length xs
started_below [] v is = absurd (cc is)
started_below (x ∷ xs) zero is = omega arith
started_below (x ∷ xs) (suc v) is = let lt = started_below xs v is in omega (arith, lt)

-- so of a test on volumes
pub no_volume_passes : (test : ℕ → Volume → Bool) (xs : List Volume) (v : ℕ) → first_of (volumes_where test xs) ≡ None
    → (volume_at xs v).started ≡ true → test v (volume_at xs v) ≡ false
no_volume_passes test xs v none started =
    none_passes (λ w. test w (volume_at xs w)) (length xs) v none (started_below xs v started)

-- ASKS

none_unposted : (asks : List AskState) (n i : ℕ) → first_unposted n asks ≡ None → slice_get asks i ≡ Some IsUnposted → ⊥
none_unposted [] n i none is = cc is
none_unposted (IsUnposted ∷ more) n i none is = cc none
none_unposted (IsPosted ∷ more) n zero none is = cc is
none_unposted (IsApplied ∷ more) n zero none is = cc is
none_unposted (IsSettled ∷ more) n zero none is = cc is
none_unposted (IsPosted ∷ more) n (suc i) none is = none_unposted more (n + 1) i none is
none_unposted (IsApplied ∷ more) n (suc i) none is = none_unposted more (n + 1) i none is
none_unposted (IsSettled ∷ more) n (suc i) none is = none_unposted more (n + 1) i none is

all_settled : (asks : List AskState) → ((i : ℕ) → slice_get asks i ≡ Some IsUnposted → ⊥)
    → ((i : ℕ) → slice_get asks i ≡ Some IsPosted → ⊥) → ((i : ℕ) → slice_get asks i ≡ Some IsApplied → ⊥)
    → are_settled asks ≡ true
all_settled [] a b c = refl
all_settled (IsUnposted ∷ more) a b c = absurd (a 0 refl)
all_settled (IsPosted ∷ more) a b c = absurd (b 0 refl)
all_settled (IsApplied ∷ more) a b c = absurd (c 0 refl)
all_settled (IsSettled ∷ more) a b c = all_settled more (λ i. a (suc i)) (λ i. b (suc i)) (λ i. c (suc i))

-- DEEDS

-- no rule holds
pub record NoDeed (unready active unblock clean : Option ℕ) (target due : Bool) : Type 0 where
  pub none_unready : unready ≡ None
  pub none_active : active ≡ None
  pub none_blocked : unblock ≡ None
  pub none_idle : clean ≡ None
  pub not_due : target ≡ true → due ≡ false

no_deed : (unready active unblock clean : Option ℕ) (target due : Bool)
    → choose unready active unblock clean target due ≡ Nothing → NoDeed unready active unblock clean target due
no_deed (Some v) b u d target due is = absurd (cc is)
no_deed None (Some v) u d target due is = absurd (cc is)
no_deed None None (Some x) d target due is = absurd (cc is)
no_deed None None None (Some v) target due is = absurd (cc is)
no_deed None None None None true true is = absurd (cc is)
no_deed None None None None true false is = record {
  none_unready = refl;
  none_active = refl;
  none_blocked = refl;
  none_idle = refl;
  not_due = λ target. refl;
}
no_deed None None None None false due is = record {
  none_unready = refl;
  none_active = refl;
  none_blocked = refl;
  none_idle = refl;
  not_due = λ target. absurd cc;
}

module _ (S : Setting) (c : Control) (ends : Actor → Ended) (rest : IsAtRest S c ends) where
  -- THE MONITOR

  monitor_still : IsStill (monitor_at S c (ends Monitor) c.round.phase)
  monitor_still = subst (λ life. IsStill (living S c (ends Monitor) life)) rest.lives (rest.still Monitor tt)

  module _ (over : TurnIsOver S c) (stands : RoundStands S c.round) where
    pub rest_phase : c.round.phase ≡ Rest
    rest_phase = at c.round.phase over.goes_on stands.phase monitor_still
      where
        calls : (d : ℕ) (t : Turn) (call : Call) → t.call ≡ Some call → may_call S c.round d ≡ true
            → IsStill (call_if (may_call S c.round d) t) → ⊥
        calls d t call is may still =
            let none = sym (ap (λ b. (call_if b t).call) may) ∙ still.calls in cc (is, none)

        at : (phase : Phase) → ending phase ≡ GoesOn → PhaseStands S c.round.faults phase
            → IsStill (monitor_at S c (ends Monitor) phase) → phase ≡ Rest
        at Rest goes stand still = refl
        at (Going OfRound m step [] [] true) goes stand still = absurd (cc goes)
        at (Going (OfSpare x) m step [] [] true) goes stand still = absurd (cc goes)
        at (Going aim m step [] (e ∷ es) true) goes stand still = absurd (let bad = stand.in_turn refl refl in cc bad)
        at (Going aim m step [] [] false) goes stand still = absurd (cc goes)
        at (Going aim m step [] (e ∷ es) false) goes stand still = absurd (cc goes)
        at (Going aim m step (d ∷ ds) late done) goes stand still =
            absurd (calls d (calling d _ (ends Monitor) _) _ refl (stand.callable d (left_first S d ds late)) still)

    deed_none : (deed_of S c ≡ Nothing) × (apply_if S c (has_target S c.round) c.manager.queue ≡ [])
    deed_none =
        at (deed_of S c) (subst (λ p. IsStill (monitor_at S c (ends Monitor) p)) rest_phase monitor_still).changes
      where
        at : (deed : Deed) → rest_changes S c deed ≡ []
            → (deed ≡ Nothing) × (apply_if S c (has_target S c.round) c.manager.queue ≡ [])
        at Nothing none = (refl, none)
        at (ReadiesVolume v) none = absurd (cc none)
        at (LetsWrites v) none = absurd (cc none)
        at (UnblocksDisk d) none = absurd (cc none)
        at (CleansVolume v) none = absurd (cc none)
        at BeginsRound none = absurd (cc none)

    pub rules : NoDeed (first_of (volumes_where (is_unready c.round) c.volumes))
        (first_of (volumes_where (may_activate S c.round) c.volumes)) (first_of (unblockable S c.round))
        (first_of (volumes_where may_clean c.volumes)) (has_target S c.round) (is_due S c)
    rules = no_deed _ _ _ _ _ _ deed_none.0

  -- THE MANAGER

  manager_still : manages_by S c c.manager.returned ≡ []
  manager_still =
      (subst (λ b. IsStill (managing S c b)) (ap lives rest.lives) (rest.still TheManager tt)).changes

  no_post : to_post S c (first_unposted 0 c.manager.asks) c.manager.queue ≡ None
  no_post = at c.manager.returned manager_still
    where
      post : (want : Option _) → posts S c want ≡ [] → want ≡ None
      post None none = refl
      post (Some w) none = absurd (cc none)

      at : (n : ℕ) → manages_by S c n ≡ [] → to_post S c (first_unposted 0 c.manager.asks) c.manager.queue ≡ None
      at zero none = post _ none
      at (suc n) none = absurd (cc none)

  -- WITH A TRUSTED DISK

  module _ (P : Premises S) (log : List Call) (base : Base S P log c) (kept : Kept S c) (over : TurnIsOver S c)
      (stands : RoundStands S c.round) (d : ℕ) (trusted : IsTrusted S (ledger c.round) d) where
    abbrev in_book : expects S c.round.book d ≡ true
    in_book = (base.core.working d trusted).in_book

    pub targets_there : has_target S c.round ≡ true
    targets_there =
        trusted_target S c.round d (P.named c.round.book d base.core.hand.book.form in_book) in_book trusted

    record DueParts : Type 0 where
      fresh : c.round.fresh ≡ false
      failed : is_empty (failed_now S c.round) ≡ true
      edits : has_edits (due_edits S c) ≡ false

    due_parts : DueParts
    due_parts =
        let none = (rules over stands).not_due targets_there in
        let outer = or_neither (c.round.fresh || not (is_empty (failed_now S c.round))) (has_edits (due_edits S c)) none in
        let inner = or_neither c.round.fresh (not (is_empty (failed_now S c.round))) outer.0 in
        record { fresh = inner.0; failed = flips (is_empty (failed_now S c.round)) inner.1; edits = outer.1 }
      where
        flips : (b : Bool) → not b ≡ false → b ≡ true
        flips true h = refl
        flips false h = absurd (cc h)

    pub no_edits : due_edits S c ≡ []
    no_edits = at (due_edits S c) due_parts.edits
      where
        at : (es : List Edit) → has_edits es ≡ false → es ≡ []
        at [] none = refl
        at (e ∷ es) none = absurd (cc none)

    has_ended : c.round.ended ≡ true
    has_ended = elim (stands.begun (ap lives rest.lives) due_parts.fresh) [
      | inl ended ↦ ended
      | inr (inl goes) ↦ absurd (subst (IsOfRound S) (rest_phase over stands) goes)
      | inr (inr none) ↦ absurd (none d trusted)
    ]

    settled : (c.round.note ≡ S.start.words.generation c.round.last.anchor) × (c.round.book ≡ c.round.last)
    settled =
        subst (Goes S (disks_by S log) (ledger c.round)) (rest_phase over stands) base.goes has_ended d trusted

    is_recorded_now : (e : ℕ) → has e c.round.faults ≡ true → expects S c.round.last e ≡ false
    is_recorded_now e failed =
        ap (λ m. expects S m e) (sym settled.1)
        ∙ not_true (expects S c.round.book e) (λ is.
        empty (failed_now S c.round) due_parts.failed
        (passes_has (λ x. has x c.round.faults && expects S c.round.book x) 0 S.start.disks.count e (omega arith)
        (let lt = stands.there e failed in omega (arith, lt)) (rw (failed, is) refl)))
      where
        empty : (ds : List ℕ) → is_empty ds ≡ true → has e ds ≡ true → ⊥
        empty [] none is = cc is
        empty (x ∷ xs) none is = cc none

    none_blocked : (e : ℕ) → has e c.round.blocked ≡ false
    none_blocked e = not_true (has e c.round.blocked) (λ is.
        let failed = stands.blocked e is in
        let recorded = is_recorded_now e failed in
        let ended = has_ended in
        let fails = none_passes (λ x. has x c.round.blocked && is_recorded S c.round x) S.start.disks.count e
        (rules over stands).none_blocked (stands.there e failed) in
        let passes : (has e c.round.blocked && is_recorded S c.round e) ≡ true = rw (is, recorded, ended) refl in
        cc (fails, passes))

    no_update : c.manager.queue ≡ []
    no_update = at c.manager.queue (subst (λ b. apply_if S c b c.manager.queue ≡ []) targets_there (deed_none over stands).1)
      where
        verdict : (u : Update) (us : List Update) (v : Verdict) → apply_verdict S c u us v ≡ [] → ⊥
        verdict u us (Refuses kind) none = cc none
        verdict u us (EditsBook edits) none = cc none
        verdict u us (WritesSpare x) none = cc none

        at : (queue : List Update) → apply_if S c true queue ≡ [] → queue ≡ []
        at [] none = refl
        at (u ∷ us) none = absurd (verdict u us (verdict_of S c u.seen u.want) none)

    no_ask : (first_unposted 0 c.manager.asks ≡ None) × (activation S c ≡ None)
    no_ask =
        at (first_unposted 0 c.manager.asks)
        (subst (λ queue. to_post S c (first_unposted 0 c.manager.asks) queue ≡ None) no_update no_post)
      where
        at : (first : Option ℕ) → to_post S c first [] ≡ None → (first ≡ None) × (activation S c ≡ None)
        at None none = (refl, none)
        at (Some i) none = absurd (cc none)

    pub nothing_is_due : NothingIsDue S c
    nothing_is_due = record {
      phase = rest_phase over stands;
      deed = (deed_none over stands).0;
      ended = has_ended;
      book = settled.1;
      note = settled.0;
      recorded = is_recorded_now;
      unblocked = none_blocked;
      queue = no_update;
      asks = all_settled c.manager.asks (λ i is. none_unposted c.manager.asks 0 i no_ask.0 is)
          (λ i is. subst (IsQueued i) no_update (kept.queued i is))
          (λ i is. over.applied (rest_phase over stands) i is);
      activation = no_ask.1;
      owes = no_edits;
    }
