-- Where a run rests, a job that holds its row, on a volume that isn't broken, was outrun: any other one has a call to
-- make, or an answer.
use Rattle.std.proofs.Common.{◌≡◌, ℕ, suc, ◌+◌, ◌==◌, ◌||◌, ◌&&◌, not, Bool, true, false, List, [], ◌∷◌, refl, ap, sym, ◌∙◌, subst, arith, Option, Some, None, ◌⊎◌, inl, inr, eq-eqb}
use Rattle.std.specs.Option.{option_map_or}
use Rattle.array_model.specs.declared.script.OpKind.{OpKind}
use Rattle.array_model.specs.declared.script.OpKind.TheVariants.{Write as OpWrite, Read as OpRead, Whole as OpWhole}
use Rattle.array_model.specs.declared.journal.Answer.{Answer}
use Rattle.array_model.specs.declared.journal.Answer.TheVariants.{Done}
use Rattle.array_model.specs.Script.{kind_at}
use Rattle.array_machine.specs.Setting.{Setting}
use Rattle.array_machine.specs.Numbers.{has}
use Rattle.array_machine.specs.Volumes.{slot_at, disk_in, Member, member_at, member_of, Volume, volume_at, source_if, source_in}
use Rattle.array_machine.specs.Operations.{volume_of, shape_of, place_at, the_place, is_write}
use Rattle.array_machine.specs.Clients.{Row, Busy, Client, client_at}
use Rattle.array_machine.specs.Rounds.{Ended}
use Rattle.array_machine.specs.Control.{Control}
use Rattle.array_machine.specs.Locks.{holds, locked_from, is_locked}
use Rattle.array_machine.specs.RowJobs.{seen_as, pair_of, targets_in, any_blocked, planned, plan_or, unread, unwritten, unsynced, Need, Reads, Writes, Syncs, read_or, write_or, sync_or, answer_if, after_reads, need_by, got_slots}
use Rattle.array_machine.specs.Turns.{may_call, call_if, calling}
use Rattle.array_machine.specs.ClientTurns.{the_volume, members_now, row_tried, is_held, need_unless, need_what, job_changes, on_disk, meet, busy_kind, busy_unless, client_by}
use Rattle.array_machine.specs.Machine.{Actor, Client as ClientOf}
use Rattle.array_paths.specs.InTurn.{job_of}
use Rattle.array_paths.specs.ClientMove.{fits_kind, fits_op}
use Rattle.array_base.proofs.Targets.{has_passes}
use Rattle.array_rest.specs.Between.{LocksAreApart, Kept}
use Rattle.array_rest.specs.Jobs.{may_use, sees, IsOutrun, PlanStands}
use Rattle.array_rest.specs.Seats.{RunsOn, HasSlots}
use Rattle.array_rest.specs.Rests.{IsStill, IsAtRest, NothingIsDue}
use Rattle.array_rest.proofs.Failures.{filter_has}
use Rattle.array_rest.proofs.JobRows.{inside}
use Rattle.array_rest.proofs.Parts.{not_true}
use Rattle.array_rest.proofs.Plans.{seen_member, planned_may}
use Rattle.array_rest.proofs.Runnable.{usable_disk}

-- LOCKS

-- no other client holds a row
none_locks : (S : Setting) (v row k from : ℕ) (clients : List Client)
    → ((l : ℕ) → ((from + l) == k) ≡ false → holds S v row (client_at clients l).job ≡ false)
    → locked_from S v row k from clients ≡ false
none_locks S v row k from [] none = refl
none_locks S v row k from (x ∷ xs) none =
    let same : from + 0 ≡ from = omega arith in
    both (from == k) (λ other. none 0 (ap (λ n. n == k) same ∙ other))
    (none_locks S v row k (from + 1) xs (λ l other.
    let eq : from + suc l ≡ from + 1 + l = omega arith in none (suc l) (ap (λ n. n == k) eq ∙ other)))
  where
    both : (here : Bool) → (here ≡ false → holds S v row x.job ≡ false) → locked_from S v row k (from + 1) xs ≡ false
        → ((not here && holds S v row x.job) || locked_from S v row k (from + 1) xs) ≡ false
    both true free more = more
    both false free more = let held = free refl in rw (held, more) refl

module _ (S : Setting) (c : Control) where
  -- a job that holds its row is alone in it
  pub begun_free : LocksAreApart S c.volumes c.clients → (k i : ℕ) (r : Row) → job_of c k ≡ Busy i r → r.begun ≡ true
      → is_locked S c (volume_of S i) (the_place S i).row k ≡ false
  begun_free apart k i r is begun =
      let v = volume_of S i in
      let row = (the_place S i).row in
      let same : (v == v) ≡ true = eq-eqb v v refl in
      let at_row : (row == row) ≡ true = eq-eqb row row refl in
      let held : holds S v row (client_at c.clients k).job ≡ true
      = ap (holds S v row) is ∙ (rw (begun, same, at_row) refl) in
      let others = none_locks S v row k 0 c.clients (λ l other.
      not_true (holds S v row (client_at c.clients l).job) (λ holds_it.
      let one = apart.one v row l k holds_it held in
      let eq : 0 + l ≡ l = omega arith in
      let yes_it : (l == k) ≡ true = eq-eqb l k one in
      let bad = ap (λ n. n == k) (sym eq) ∙ other in
      cc (yes_it, bad))) in
      let pass = apart.pass v row k held in
      rw (others, pass) refl

  module _ (ends : Actor → Ended) (rest : IsAtRest S c ends) (due : NothingIsDue S c) (kept : Kept S c) where
    -- a slot of a disk without a fault can be called
    callable : (v s : ℕ) (d : ℕ) → disk_in (volume_at c.volumes v).slots s ≡ Some d → has d c.round.faults ≡ false
        → may_call S c.round d ≡ true
    callable v s d is sound = let there = kept.there v s d is in rw (there, sound) refl

    module _ (k i : ℕ) (r : Row) (has_it : job_of c k ≡ Busy i r) (started : (the_volume S c i).started ≡ true)
        (sound : (the_volume S c i).broken ≡ false) (able : RunsOn S c.round.faults (volume_of S i) (the_volume S c i))
        (slots : HasSlots S (volume_of S i) (the_volume S c i)) (fits : fits_op S i ≡ true)
        (plan : PlanStands c.round.faults (the_volume S c i) r) where
      abbrev x : Ended
      x = ends (ClientOf k)

      abbrev left : List ℕ
      left = (client_at c.clients k).left

      abbrev y : Volume
      y = the_volume S c i

      abbrev view : List Member
      view = members_now S c i r

      abbrev Outrun : Type 0
      Outrun = IsOutrun c.round.faults y.slots r

      still : IsStill (busy_kind S c k left i r x (kind_at S.asked.ops i))
      still =
          subst (λ b. IsStill (busy_unless S c k left i r x b)) sound
          (subst (λ job. IsStill (client_by S c k x left job)) has_it (rest.still (ClientOf k) tt))

      -- a call on a disk that may be called is no rest
      no_call : (need : Need) (disk : Option ℕ) (d : ℕ) → disk ≡ Some d → may_call S c.round d ≡ true
          → IsStill (on_disk S c k left i (row_tried S c i r) x need disk) → ⊥
      no_call need disk d is may still =
          let now = subst (λ o. IsStill (on_disk S c k left i (row_tried S c i r) x need o)) is still in
          let made = subst (λ b. IsStill (call_if b (calling d (need_what S i (row_tried S c i r) x need) x
          (job_changes S c k left i (row_tried S c i r) x need d x.went)))) may now in
          let none = made.calls in cc none

      -- READS

      may_source : (s : ℕ) → may_use c.round.faults y.slots s ≡ true
          → IsStill (on_disk S c k left i (row_tried S c i r) x (Reads s) (source_in y s)) → ⊥
      may_source s may =
          let d = usable_disk c.round.faults [] (slot_at y.slots s) may in
          let synced = d.in_sync in
          no_call (Reads s) (source_in y s) d.disk
          (ap (λ b. source_if b (disk_in y.slots s)) (let both : (y.started && (slot_at y.slots s).in_sync) ≡ true = rw (started, synced) refl in both) ∙ d.is)
          (callable (volume_of S i) s d.disk d.is d.sound)

      -- WRITES

      working_disk : (s : ℕ) → (member_at view s).working ≡ true
          → (d : ℕ) × (disk_in y.slots s ≡ Some d) × (has d c.round.faults ≡ false)
      working_disk s is =
          at (sees r s (slot_at y.slots s))
          (sym (ap (λ (m : Member). m.working) (seen_member r c.round.faults c.round.blocked y.slots s)) ∙ is)
        where
          flips : (b : Bool) → not b ≡ true → b ≡ false
          flips true h = absurd (cc h)
          flips false h = refl

          disk : (o : Option ℕ) → disk_in y.slots s ≡ o → option_map_or (λ d. not (has d c.round.faults)) o false ≡ true
              → (d : ℕ) × (disk_in y.slots s ≡ Some d) × (has d c.round.faults ≡ false)
          disk None none h = absurd (cc h)
          disk (Some d) has_disk h = (d, has_disk, flips (has d c.round.faults) h)

          at : (b : Bool)
              → (seen_as b (member_of c.round.faults c.round.blocked (slot_at y.slots s))).working ≡ true
              → (d : ℕ) × (disk_in y.slots s ≡ Some d) × (has d c.round.faults ≡ false)
          at true h = disk (disk_in y.slots s) refl h
          at false h = absurd (cc h)

      may_target : (need : Need) (s : ℕ) → (member_at view s).working ≡ true
          → IsStill (on_disk S c k left i (row_tried S c i r) x need (disk_in y.slots s)) → ⊥
      may_target need s works =
          let d = working_disk s works in
          no_call need (disk_in y.slots s) d.0 d.1 (callable (volume_of S i) s d.0 d.1 d.2)

      -- ANSWERS

      none_blocked : (ss : List ℕ) → any_blocked view ss ≡ false
      none_blocked [] = refl
      none_blocked (s ∷ ss) =
          let here : (member_at view s).blocked ≡ false
          = ap (λ (m : Member). m.blocked) (seen_member r c.round.faults c.round.blocked y.slots s)
          ∙ at (sees r s (slot_at y.slots s)) in
          let more = none_blocked ss in
          rw (here, more) refl
        where
          disk : (o : Option ℕ) → option_map_or (λ d. has d c.round.blocked) o false ≡ false
          disk None = refl
          disk (Some d) = due.unblocked d

          at : (b : Bool)
              → (seen_as b (member_of c.round.faults c.round.blocked (slot_at y.slots s))).blocked ≡ false
          at true = disk (disk_in y.slots s)
          at false = disk (disk_in y.slots s)

      -- WHAT THE JOB NEEDS

      abbrev Meets : Need → Type 0
      Meets need = IsStill (meet S c k left i r x need)

      answered : (answer : Answer) → Meets (answer_if (any_blocked view (pair_of (the_place S i))) answer) → ⊥
      answered answer still =
          let now = subst (λ b. Meets (answer_if b answer)) (none_blocked (pair_of (the_place S i))) still in
          let none = now.changes in cc none

      written : Meets (after_reads S view (pair_of (the_place S i)) true r) → ⊥
      written = at (unwritten view (pair_of (the_place S i)) r) refl
        where
          synced : (ss : List ℕ) → unsynced view (pair_of (the_place S i)) r ≡ ss
              → Meets (sync_or ss (answer_if (any_blocked view (pair_of (the_place S i))) Done)) → ⊥
          synced [] is still = answered Done still
          synced (s ∷ ss) is still =
              let there : has s (unsynced view (pair_of (the_place S i)) r) ≡ true
              = ap (has s) is ∙ (let here : (s == s) ≡ true = eq-eqb s s refl in rw here refl) in
              may_target (Syncs s) s
              (has_passes (λ t. (member_at view t).working) (pair_of (the_place S i)) s
              (filter_has (λ t. has t r.written && not (has t r.synced)) (targets_in view (pair_of (the_place S i))) s there))
              still

          at : (ss : List ℕ) → unwritten view (pair_of (the_place S i)) r ≡ ss
              → Meets (write_or ss (sync_or (unsynced view (pair_of (the_place S i)) r)
              (answer_if (any_blocked view (pair_of (the_place S i))) Done)))
              → ⊥
          at [] is still = synced (unsynced view (pair_of (the_place S i)) r) refl still
          at (s ∷ ss) is still =
              let there : has s (unwritten view (pair_of (the_place S i)) r) ≡ true
              = ap (has s) is ∙ (let here : (s == s) ≡ true = eq-eqb s s refl in rw here refl) in
              may_target (Writes s) s
              (has_passes (λ t. (member_at view t).working) (pair_of (the_place S i)) s
              (filter_has (λ t. not (has t r.written)) (targets_in view (pair_of (the_place S i))) s there))
              still

      after : (writes : Bool) → Meets (after_reads S view (pair_of (the_place S i)) writes r) → ⊥
      after true still = written still
      after false still = answered _ still

      needs : (place_at S i ≡ None → ⊥)
          → Meets (need_by S (shape_of S (volume_of S i)) (the_place S i) (is_write S i) view r) → Outrun
      needs some = at (unread (plan_or r.plan plans) r.got) refl
        where
          plans : List ℕ
          plans = planned (shape_of S (volume_of S i)) (the_place S i) (is_write S i) view

          may : (s : ℕ) → has s (unread (plan_or r.plan plans) r.got) ≡ true
              → (may_use c.round.faults y.slots s ≡ true) ⊎ Outrun
          may s there = by r.plan refl
            where
              by : (o : Option (List ℕ)) → r.plan ≡ o → (may_use c.round.faults y.slots s ≡ true) ⊎ Outrun
              by (Some q) is = plan q is s (ap (λ p. has s (unread (plan_or p plans) r.got)) (sym is) ∙ there)
              by None is =
                  planned_may c.round.faults c.round.blocked y.slots r (shape_of S (volume_of S i)).level
                  (shape_of S (volume_of S i)) (the_place S i) (is_write S i) refl able slots.count
                  (inside S c i fits some) s
                  (filter_has (λ e. not (has e (got_slots r.got))) plans s
                  (ap (λ p. has s (unread (plan_or p plans) r.got)) (sym is) ∙ there))

          at : (ss : List ℕ) → unread (plan_or r.plan plans) r.got ≡ ss
              → Meets (read_or ss (after_reads S view (pair_of (the_place S i)) (is_write S i) r)) → Outrun
          at [] is still = absurd (after (is_write S i) still)
          at (s ∷ ss) is still =
              elim (may s (ap (has s) is ∙ (let here : (s == s) ≡ true = eq-eqb s s refl in rw here refl))) [
                | inl usable ↦ absurd (may_source s usable still)
                | inr out ↦ out
              ]

      -- a write or a read that isn't held was outrun
      pub row_outrun : (kind : OpKind) → kind_at S.asked.ops i ≡ Some kind → fits_kind None (Some kind) ≡ false
          → is_held S c k i ≡ false → Outrun
      row_outrun kind is never free =
          needs (λ none.
          let bad : fits_kind None (Some kind) ≡ true
          = ap (fits_kind None) (sym is) ∙ ap (λ p. fits_kind p (kind_at S.asked.ops i)) (sym none) ∙ fits in
          cc (never, bad))
          (at kind never (subst (λ o. IsStill (busy_kind S c k left i r x o)) is still))
        where
          unheld : IsStill (meet S c k left i r x (need_unless S c i r (is_held S c k i)))
              → Meets (need_by S (shape_of S (volume_of S i)) (the_place S i) (is_write S i) view r)
          unheld still = subst (λ b. Meets (need_unless S c i r b)) free still

          at : (kind : OpKind) → fits_kind None (Some kind) ≡ false → IsStill (busy_kind S c k left i r x (Some kind))
              → Meets (need_by S (shape_of S (volume_of S i)) (the_place S i) (is_write S i) view r)
          at (OpWrite v s value) never still = unheld still
          at (OpRead v s) never still = unheld still
          at (OpWhole v) never still = absurd (cc never)
