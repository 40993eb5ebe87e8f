-- Slots come to have the disks that the last finished round's block gives them, through each effect.
use Rattle.std.proofs.Common.{◌≡◌, ℕ, zero, suc, ◌+◌, ◌||◌, ◌&&◌, not, Bool, true, false, cond, List, [], ◌∷◌, ◌++◌, slice_set, refl, ap, sym, ◌∙◌, subst, arith, Option, Some, None, ◌⊎◌, inl, inr}
use Rattle.std.proofs.lemmas.Bool.Decides.{nat_tests}
use Rattle.units.specs.declared.disk.Sector.{Sector}
use Rattle.device_log.specs.Log.{Call, What}
use Rattle.array_model.specs.Blocks.{Laid, SlotWords}
use Rattle.array_machine.specs.Setting.{Setting}
use Rattle.array_machine.specs.States.{StateWord, ToReady, ToPending, ToActive, ToActiveAgain, ToIdle, ToClean, state_after}
use Rattle.array_machine.specs.Volumes.{Slot, same_disk, has_disk, Pass, Volume, volume_at}
use Rattle.array_machine.specs.Rounds.{Ended, Round}
use Rattle.array_machine.specs.RoundEnds.{all_in_sync, seat_of, is_other, has_other, seated_if, seated, PassRun, all_runs, volume_ended, volumes_ended}
use Rattle.array_machine.specs.Faults.{round_without, breaks, volumes_without, volume_lost}
use Rattle.array_machine.specs.Control.{Control}
use Rattle.array_machine.specs.Changes.{Change, RoundEnds, DiskFails, StateGoes, PassMoves, PassWord, GoesOnQuietly}
use Rattle.array_machine.specs.Puts.{put}
use Rattle.array_machine.specs.TakeoverTurns.{has_all}
use Rattle.array_paths.specs.InTurn.{InTurn}
use Rattle.array_paths.specs.Comes.{Comes, begins, begins_spare, ends, ends_spare, lapses, fails, unblocks, readies, pends, activates, again, idles, cleans, client, pass, manages, kills, takes_over, resumes, dies}
use Rattle.array_paths.specs.PassMove.{slots_of, PassMove, opens, seats, reaches, closes, comes_to_its_end, loses, pass_after}
use Rattle.array_paths.specs.AtRows.{AtRows, by_client, by_pass, by_monitor, after_read}
use Rattle.array_paths.specs.Effects.{Effect, quiet, row, row_fails, steps, step_fails}
use Rattle.array_paths.proofs.ClientPaths.{slots_kept}
use Rattle.array_base.proofs.Slots.{volume_set}
use Rattle.array_form.specs.Behind.{Behind}
use Rattle.array_units.specs.Seats.{Seats, WillBeSeated}

-- a volume that is started and is set is what it is set to
pub set_there : (xs : List Volume) (v : ℕ) (y : Volume) → (volume_at xs v).started ≡ true
    → volume_at (slice_set xs v y) v ≡ y
set_there [] v y is = absurd cc
set_there (x ∷ xs) zero y is = refl
set_there (x ∷ xs) (suc v) y is = set_there xs v y is

-- a failure starts no volume
started_kept : (S : Setting) (d : ℕ) (r : Round) (n : ℕ) (xs : List Volume) (u : ℕ)
    → (volume_at (volumes_without S d r n xs) u).started ≡ (volume_at xs u).started
started_kept S d r n [] u = refl
started_kept S d r n (x ∷ xs) zero = at (x.started && has_disk d x.slots)
  where
    at : (b : Bool) → (cond b (volume_lost S d n (x.broken || breaks S r n x.slots) x) x).started ≡ x.started
    at true = refl
    at false = refl
started_kept S d r n (x ∷ xs) (suc u) = started_kept S d r (n + 1) xs u

or_both : (a b : Bool) → a ≡ false → b ≡ false → (a || b) ≡ false
or_both true b first second = absurd cc
or_both false b first second = second

pub same_own : (d : ℕ) → same_disk (Some d) (Some d) ≡ true
same_own d = grind (arith, nat_tests)

module _ (S : Setting) where
  -- SLOTS

  -- what a block has given it gives no more
  own_seat : (seat : Option ℕ) (s : Slot) → is_other seat (seated_if (is_other seat s.disk) seat s).disk ≡ false
  own_seat None s = refl
  own_seat (Some d) s = at (same_disk (Some d) s.disk) refl
    where
      at : (b : Bool) → same_disk (Some d) s.disk ≡ b
          → is_other (Some d) (seated_if (not b) (Some d) s).disk ≡ false
      at true same = rw same refl
      at false other = let same = same_own d in rw same refl

  pub seated_has : (ws : List SlotWords) (slots : List Slot) → has_other S ws (seated S ws slots) ≡ false
  seated_has [] slots = refl
  seated_has (w ∷ ws) [] = refl
  seated_has (w ∷ ws) (s ∷ ss) =
      or_both (is_other (seat_of S w) (seated_if (is_other (seat_of S w) s.disk) (seat_of S w) s).disk) _
      (own_seat (seat_of S w) s) (seated_has ws ss)

  synced_has : (faults : List ℕ) (ws : List SlotWords) (slots : List Slot)
      → has_other S ws (all_in_sync faults slots) ≡ has_other S ws slots
  synced_has faults [] slots = refl
  synced_has faults (w ∷ ws) [] = refl
  synced_has faults (w ∷ ws) (s ∷ ss) =
      ap (λ b. is_other (seat_of S w) s.disk || b) (synced_has faults ws ss)

  -- a pass's change leaves slots that have their disks so
  move_has : (t : InTurn) (c : Control) (v : ℕ) (slots : List Slot) (new : Option Pass) (word : PassWord)
      → PassMove S t c v slots new word → has_other S (S.start.words.slots c.round.last v) (slots_of c v) ≡ false
      → has_other S (S.start.words.slots c.round.last v) slots ≡ false
  move_has t c v _ _ _ (opens kind started was is has) h = h
  move_has t c v _ _ _ (seats now started other) h = seated_has (S.start.words.slots c.round.last v) (slots_of c v)
  move_has t c v _ _ _ (reaches was is now started before after above) h = h
  move_has t c v _ _ _ (closes was now started before after) h =
      synced_has c.round.faults (S.start.words.slots c.round.last v) (slots_of c v) ∙ h
  move_has t c v _ _ _ (comes_to_its_end p goes over) h = h
  move_has t c v _ _ _ (loses d p need what stored call is) h = h

  -- A ROUND'S END

  seats_later : (m : Laid) (u : ℕ) (xs ys : List PassRun) → Seats S m u (all_runs ys)
      → Seats S m u (all_runs (xs ++ ys))
  seats_later m u [] ys h = h
  seats_later m u (x ∷ xs) ys h = inr (seats_later m u xs ys h)

  seats_first : (m : Laid) (u : ℕ) (xs ys : List PassRun) → Seats S m u (all_runs xs)
      → Seats S m u (all_runs (xs ++ ys))
  seats_first m u [] ys h = absurd h
  seats_first m u (x ∷ xs) ys (inl here) = inl here
  seats_first m u (x ∷ xs) ys (inr later) = inr (seats_first m u xs ys later)

  one_seats : (faults : List ℕ) (last m : Laid) (v : ℕ) (x : Volume) → x.started ≡ true
      → has_other S (S.start.words.slots m v) x.slots ≡ true
      → Seats S m v (all_runs (volume_ended S faults last m v x))
  one_seats faults last m v x started other =
      rw (started, other) (inl (refl, seated_has (S.start.words.slots m v) x.slots))

  all_seat : (faults : List ℕ) (last m : Laid) (n : ℕ) (xs : List Volume) (w : ℕ) → (volume_at xs w).started ≡ true
      → has_other S (S.start.words.slots m (n + w)) (volume_at xs w).slots ≡ true
      → Seats S m (n + w) (all_runs (volumes_ended S faults last m n xs))
  all_seat faults last m n [] w started other = absurd cc
  all_seat faults last m n (x ∷ xs) zero started other =
      let here : n + 0 ≡ n = omega arith in
      subst (λ v. Seats S m v (all_runs (volumes_ended S faults last m n (x ∷ xs)))) (sym here)
      (seats_first m n (volume_ended S faults last m n x) (volumes_ended S faults last m (n + 1) xs)
      (one_seats faults last m n x started
      (subst (λ v. has_other S (S.start.words.slots m v) x.slots ≡ true) here other)))
  all_seat faults last m n (x ∷ xs) (suc w) started other =
      let there : n + suc w ≡ n + 1 + w = omega arith in
      seats_later m (n + suc w) (volume_ended S faults last m n x) (volumes_ended S faults last m (n + 1) xs)
      (subst (λ v. Seats S m v (all_runs (volumes_ended S faults last m (n + 1) xs))) (sym there)
      (all_seat faults last m (n + 1) xs w started
      (subst (λ v. has_other S (S.start.words.slots m v) (volume_at xs w).slots ≡ true) there other)))

  end_seats : (c : Control) (m : Laid) (more : List Change)
      → more ≡ all_runs (volumes_ended S c.round.faults c.round.last m 0 c.volumes)
      → WillBeSeated S (put S (RoundEnds m) c) more
  end_seats c m more is u started = at (has_other S (S.start.words.slots m u) (slots_of c u)) refl
    where
      none : 0 + u ≡ u
      none = omega arith

      at : (b : Bool) → has_other S (S.start.words.slots m u) (slots_of c u) ≡ b
          → (has_other S (S.start.words.slots m u) (slots_of c u) ≡ false) ⊎ Seats S m u more
      at false own = inl own
      at true other =
          inr (subst (Seats S m u) (sym is)
          (subst (λ v. Seats S m v (all_runs (volumes_ended S c.round.faults c.round.last m 0 c.volumes))) none
          (all_seat c.round.faults c.round.last m 0 c.volumes u started
          (subst (λ v. has_other S (S.start.words.slots m v) (slots_of c u) ≡ true) (sym none) other))))

  -- OTHER CHANGES

  module _ (t : InTurn) (c : Control) (more : List Change) where
    -- slots and started volumes stay, and the change moves no pass
    same_seats : (a : Change) → ((u : ℕ) → Seats S c.round.last u (a ∷ more) → Seats S c.round.last u more)
        → (new : Control) → new.round.last ≡ c.round.last
        → ((u : ℕ) → (volume_at new.volumes u).started ≡ (volume_at c.volumes u).started)
        → ((u : ℕ) → slots_of new u ≡ slots_of c u) → WillBeSeated S c (a ∷ more) → WillBeSeated S new more
    same_seats a on new last started slots had u is =
        subst (λ l. (has_other S (S.start.words.slots l u) (slots_of new u) ≡ false) ⊎ Seats S l u more) (sym last)
        (subst (λ ss. (has_other S (S.start.words.slots c.round.last u) ss ≡ false) ⊎ Seats S c.round.last u more)
        (sym (slots u)) (elim (had u (sym (started u) ∙ is)) [
          | inl own ↦ inl own
          | inr later ↦ inr (on u later)
        ]))

    state_seats : (v : ℕ) (word : StateWord) → WillBeSeated S c (StateGoes v word ∷ more)
        → WillBeSeated S (put S (StateGoes v word) c) more
    state_seats v word =
        let y = record (volume_at c.volumes v) { state = state_after word } in
        same_seats (StateGoes v word) (λ u h. h) (put S (StateGoes v word) c) refl
        (λ u. elim (volume_set c.volumes v y u) [
          | inl here ↦
              ap (λ (z : Volume). z.started) here.1 ∙ ap (λ k. (volume_at c.volumes k).started) here.0
          | inr other ↦ ap (λ (z : Volume). z.started) other
        ])
        (λ u. elim (volume_set c.volumes v y u) [
          | inl here ↦ ap (λ (z : Volume). z.slots) here.1 ∙ ap (λ k. (volume_at c.volumes k).slots) here.0
          | inr other ↦ ap (λ (z : Volume). z.slots) other
        ])

    pass_seats : (v : ℕ) (slots : List Slot) (new : Option Pass) (word : PassWord)
        → (has_other S (S.start.words.slots c.round.last v) (slots_of c v) ≡ false
        → has_other S (S.start.words.slots c.round.last v) slots ≡ false)
        → WillBeSeated S c (PassMoves v slots new word ∷ more)
        → WillBeSeated S (put S (PassMoves v slots new word) c) more
    pass_seats v slots new word keeps had u is =
        let y = record (volume_at c.volumes v) { slots = slots; pass = new } in
        elim (volume_set c.volumes v y u) [
          | inl here ↦
              let same : slots_of (put S (PassMoves v slots new word) c) u ≡ slots =
              ap (λ (z : Volume). z.slots) here.1 in
              let begun : (volume_at c.volumes u).started ≡ true =
              ap (λ k. (volume_at c.volumes k).started) (sym here.0) ∙ sym (ap (λ (z : Volume). z.started) here.1)
              ∙ is in
              subst (λ ss. (has_other S (S.start.words.slots c.round.last u) ss ≡ false)
              ⊎ Seats S c.round.last u more) (sym same) (elim (had u begun) [
                | inl own ↦
                    inl (subst (λ k. has_other S (S.start.words.slots c.round.last k) slots ≡ false) here.0
                    (keeps (subst (λ k. has_other S (S.start.words.slots c.round.last k) (slots_of c k) ≡ false)
                    (sym here.0) own)))
                | inr later ↦ elim later [
                  | inl now ↦ inl now.1
                  | inr on ↦ inr on
                ]
              ])
          | inr other ↦
              let same : slots_of (put S (PassMoves v slots new word) c) u ≡ slots_of c u =
              ap (λ (z : Volume). z.slots) other in
              subst (λ ss. (has_other S (S.start.words.slots c.round.last u) ss ≡ false)
              ⊎ Seats S c.round.last u more) (sym same)
              (elim (had u (sym (ap (λ (z : Volume). z.started) other) ∙ is)) [
                | inl own ↦ inl own
                | inr later ↦ elim later [
                  | inl now ↦
                      inl (by_now u now.0 now.1 (sym (ap (λ (z : Volume). z.started) other) ∙ is) other)
                  | inr on ↦ inr on
                ]
              ])
        ]
      where
        by_now : (u : ℕ) → v ≡ u → has_other S (S.start.words.slots c.round.last u) slots ≡ false
            → (volume_at c.volumes u).started ≡ true
            → volume_at (slice_set c.volumes v (record (volume_at c.volumes v) { slots = slots; pass = new })) u
            ≡ volume_at c.volumes u
            → has_other S (S.start.words.slots c.round.last u) (slots_of c u) ≡ false
        by_now u same own begun other =
            let y = record (volume_at c.volumes v) { slots = slots; pass = new } in
            let there : volume_at (slice_set c.volumes v y) v ≡ y =
            set_there c.volumes v y (ap (λ k. (volume_at c.volumes k).started) same ∙ begun) in
            let here : volume_at (slice_set c.volumes v y) u ≡ y =
            ap (λ k. volume_at (slice_set c.volumes v y) k) (sym same) ∙ there in
            let kept : slots_of c u ≡ slots = ap (λ (z : Volume). z.slots) (sym other ∙ here) in
            subst (λ ss. has_other S (S.start.words.slots c.round.last u) ss ≡ false) (sym kept) own

    fault_seats : (d : ℕ) → WillBeSeated S c (DiskFails d ∷ more) → WillBeSeated S (put S (DiskFails d) c) more
    fault_seats d =
        same_seats (DiskFails d) (λ u h. h) (put S (DiskFails d) c) refl
        (λ u. (volumes_go_by d u)) (λ u. slots_kept S d (round_without S d c.round) 0 c.volumes u)
      where
        volumes_go_by : (d u : ℕ) → (volume_at (put S (DiskFails d) c).volumes u).started
            ≡ (volume_at c.volumes u).started
        volumes_go_by d u = started_kept S d (round_without S d c.round) 0 c.volumes u

  -- ANY EFFECT

  plain_seats : (t : InTurn) (c new : Control) (a : Change) (more : List Change) → new.volumes ≡ c.volumes
      → new.round.last ≡ c.round.last → ((u : ℕ) → Seats S c.round.last u (a ∷ more) → Seats S c.round.last u more)
      → WillBeSeated S c (a ∷ more) → WillBeSeated S new more
  plain_seats t c new a more volumes last on had =
      same_seats t c more a on new last (λ u. ap (λ vs. (volume_at vs u).started) volumes)
      (λ u. ap (λ vs. (volume_at vs u).slots) volumes) had

  seats_comes : (t : InTurn) (c : Control) (a : Change) (prev : Option Change) (more : List Change)
      → Comes S t c a → Behind S t.before c prev more a → WillBeSeated S c (a ∷ more)
      → WillBeSeated S (put S a c) more
  seats_comes t c _ prev more (ends m step is) behind had = end_seats c m more behind.then_passes
  seats_comes t c _ prev more (fails d who may) behind had = fault_seats t c more d had
  seats_comes t c _ prev more (pass v slots new word move) behind had =
      pass_seats t c more v slots new word (move_has t c v slots new word move) had
  seats_comes t c _ prev more (readies v started state rest ended) behind had = state_seats t c more v ToReady had
  seats_comes t c _ prev more (pends v sound state submitted) behind had = state_seats t c more v ToPending had
  seats_comes t c _ prev more (activates v runs state rest ended dirty) behind had = state_seats t c more v ToActive had
  seats_comes t c _ prev more (again v sound state submitted) behind had = state_seats t c more v ToActiveAgain had
  seats_comes t c _ prev more (idles v who runs state none) behind had = state_seats t c more v ToIdle had
  seats_comes t c _ prev more (cleans v runs state rest) behind had = state_seats t c more v ToClean had
  seats_comes t c a prev more (begins m life rest target next) behind had =
      plain_seats t c (put S a c) a more refl refl (λ u h. h) had
  seats_comes t c a prev more (begins_spare d m life rest target may is unlisted room) behind had =
      plain_seats t c (put S a c) a more refl refl (λ u h. h) had
  seats_comes t c a prev more (ends_spare d m step is) behind had =
      plain_seats t c (put S a c) a more refl refl (λ u h. h) had
  seats_comes t c a prev more (lapses aim m step late is) behind had =
      plain_seats t c (put S a c) a more refl refl (λ u h. h) had
  seats_comes t c a prev more (unblocks d rest blocked ended unexpected) behind had =
      plain_seats t c (put S a c) a more refl refl (λ u h. h) had
  seats_comes t c a prev more (client k new word move) behind had =
      plain_seats t c (put S a c) a more refl refl (λ u h. h) had
  seats_comes t c a prev more (manages new word move) behind had =
      plain_seats t c (put S a c) a more refl refl (λ u h. h) had
  seats_comes t c a prev more (kills who awake) behind had =
      plain_seats t c (put S a c) a more refl refl (λ u h. h) had
  seats_comes t c a prev more (takes_over who life) behind had =
      plain_seats t c (put S a c) a more refl refl (λ u h. h) had
  seats_comes t c a prev more (resumes d taking young) behind had =
      plain_seats t c (put S a c) a more refl refl (λ u h. h) had
  seats_comes t c a prev more (dies taking) behind had =
      plain_seats t c (put S a c) a more refl refl (λ u h. h) had

  seats_read : (t : InTurn) (c : Control) (more : List Change) (d : ℕ) (left : List ℕ) (seen : List Sector)
      (found : List ℕ) (all : Bool) → WillBeSeated S c (after_read S c d left seen found all ∷ more)
      → WillBeSeated S (put S (after_read S c d left seen found all) c) more
  seats_read t c more d left seen found true had =
      let a = after_read S c d left seen found true in
      plain_seats t c (put S a c) a more refl refl (λ u h. h) had
  seats_read t c more d left seen found false had =
      let a = after_read S c d left seen found false in
      plain_seats t c (put S a c) a more refl refl (λ u h. h) had

  seats_rows : (t : InTurn) (c : Control) (more : List Change) (d : ℕ) (what : What) (x : Ended) (a : Change)
      → AtRows S c d what x a → WillBeSeated S c (a ∷ more) → WillBeSeated S (put S a c) more
  seats_rows t c more d _ x a (by_client k i r need _ _ call) had =
      plain_seats t c (put S a c) a more refl refl (λ u h. h) had
  seats_rows t c more d _ x _ (by_pass v p need _ _ call) had =
      pass_seats t c more v (slots_of c v) (Some (pass_after S c v p need x)) GoesOnQuietly (λ h. h) had
  seats_rows t c more d _ x _ (by_monitor left seen found _ life) had =
      seats_read t c more d left (seen ++ x.got ∷ []) found (has_all S (seen ++ x.got ∷ [])) had

  pub seats_effect : (t : InTurn) (c : Control) (prev : Option Change) (more : List Change) {call : Option Call}
      {x : Ended} {a : Change} → Effect S t c call x a → Behind S t.before c prev more a → WillBeSeated S c (a ∷ more)
      → WillBeSeated S (put S a c) more
  seats_effect t c prev more (quiet x a comes) behind had = seats_comes t c a prev more comes behind had
  seats_effect t c prev more (row d what x a may calls went at) behind had = seats_rows t c more d what x a at had
  seats_effect t c prev more (row_fails d what x may calls failed lost) behind had = fault_seats t c more d had
  seats_effect t c prev more {a = a} (steps d m step x target went) behind had =
      plain_seats t c (put S a c) a more refl refl (λ u h. h) had
  seats_effect t c prev more (step_fails d m step x target failed) behind had = fault_seats t c more d had
