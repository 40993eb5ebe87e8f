-- Where a run rests, the pass of a volume that isn't broken is over, or a job holds its row.
use Rattle.std.proofs.Common.{◌≡◌, ℕ, suc, ◌+◌, ◌==◌, ◌||◌, ◌&&◌, not, nat_lt, Bool, true, false, List, [], ◌∷◌, refl, ap, sym, ◌∙◌, subst, Option, Some, None, inl, inr, cond, eqb-true, eq-eqb}
use Rattle.std.specs.List.{list_any}
use Rattle.std.specs.Option.{option_map_or}
use Rattle.std.proofs.lemmas.Bool.{and_parts}
use Rattle.units.specs.declared.bounds.TheConstants.{CLIENTS}
use Rattle.array_machine.specs.Setting.{Setting}
use Rattle.array_machine.specs.Numbers.{has}
use Rattle.array_machine.specs.Volumes.{Slot, slot_at, disk_in, Member, is_usable, members_of, Pass, Volume, volume_at, source_if, source_in}
use Rattle.array_machine.specs.Operations.{volume_of, shape_of, the_place}
use Rattle.array_machine.specs.Clients.{Row, Job, NoJob, Submitted, Busy, Client, client_at}
use Rattle.array_machine.specs.Rounds.{Ended}
use Rattle.array_machine.specs.Control.{Control}
use Rattle.array_machine.specs.Locks.{holds, locked_from}
use Rattle.array_machine.specs.RowJobs.{Need, NoNeed, Reads, Writes, Syncs, sync_or}
use Rattle.array_machine.specs.SyncTurns.{Work, row_work, work_by, settled, need_sets, pass_need, pass_what, pass_changes, pass_on, pass_meets, is_free_row, pass_at, all_written}
use Rattle.array_machine.specs.Changes.{PassMoves, GoesOnQuietly}
use Rattle.array_machine.specs.Turns.{idle, quietly, may_call, call_if, calling}
use Rattle.array_machine.specs.Machine.{Actor, Sync}
use Rattle.array_paths.specs.InTurn.{job_of}
use Rattle.array_base.proofs.Targets.{or_cases}
use Rattle.array_rest.specs.Between.{PassStands, Kept}
use Rattle.array_rest.specs.Rests.{IsStill, IsAtRest, NothingIsDue}
use Rattle.array_rest.proofs.Parts.{member_is}
use Rattle.array_rest.proofs.PassSteps.{work_is, settled_stands}
use Rattle.array_rest.proofs.PassWork.{SettlesTo, is_over, is_syncing, in_row, settles, row_can, Asks, reads_one, writes_one, asks, none_written}
use Rattle.array_rest.proofs.Runnable.{usable_disk}

module _ (S : Setting) where
  -- WHO HOLDS A ROW

  pub record Holder (c : Control) (v : ℕ) : Type 0 where
    pub client : ℕ
    pub op : ℕ
    pub row : Row
    pub is : job_of c client ≡ Busy op row
    pub begun : row.begun ≡ true
    pub on : volume_of S op ≡ v

  pub holder_of : (c : Control) (v row l : ℕ) → holds S v row (job_of c l) ≡ true → Holder c v
  holder_of c v row l held = at (job_of c l) refl held
    where
      at : (job : Job) → job_of c l ≡ job → holds S v row job ≡ true → Holder c v
      at NoJob is h = absurd (cc h)
      at (Submitted i) is h = absurd (cc h)
      at (Busy i r) is h =
          let outer = and_parts (r.begun && (volume_of S i == v)) ((the_place S i).row == row) h in
          let inner = and_parts r.begun (volume_of S i == v) outer.0 in
          record {
            client = l;
            op = i;
            row = r;
            is = is;
            begun = inner.0;
            on = eqb-true (volume_of S i) v inner.1;
          }

  pub some_holds : (v row k from : ℕ) (clients : List Client) → locked_from S v row k from clients ≡ true
      → (l : ℕ) × (holds S v row (client_at clients l).job ≡ true)
  some_holds v row k from [] is = absurd (cc is)
  some_holds v row k from (x ∷ xs) is =
      elim (or_cases (not (from == k) && holds S v row x.job) (locked_from S v row k (from + 1) xs) is) [
        | inl here ↦ (0, (and_parts (not (from == k)) (holds S v row x.job) here).1)
        | inr later ↦ let more = some_holds v row k (from + 1) xs later in (suc more.0, more.1)
      ]

  -- AT REST

  module _ (c : Control) (ends : Actor → Ended) (rest : IsAtRest S c ends) (due : NothingIsDue S c) (kept : Kept S c)
      (v : ℕ) (sound : (volume_at c.volumes v).broken ≡ false) (p : Pass) (has_it : (volume_at c.volumes v).pass ≡ Some p)
      (goes : p.over ≡ false) where
    abbrev y : Volume
    y = volume_at c.volumes v

    abbrev x : Ended
    x = ends (Sync v)

    abbrev members : List Member
    members = members_of c.round.faults c.round.blocked y.slots

    abbrev q : Pass
    q = settled (shape_of S v) members p

    abbrev work : List Work
    work = row_work (shape_of S v) members q.row

    started : y.started ≡ true
    started = at y.started refl
      where
        at : (b : Bool) → y.started ≡ b → b ≡ true
        at true is = refl
        at false is = absurd (let none = kept.started v is in cc (none, has_it))

    none_blocked : (slots : List Slot) → list_any (λ (m : Member). m.blocked) (members_of c.round.faults c.round.blocked slots) ≡ false
    none_blocked [] = refl
    none_blocked (s ∷ ss) = let here = disk s.disk in let more = none_blocked ss in rw (here, more) refl
      where
        disk : (o : Option ℕ) → option_map_or (λ d. has d c.round.blocked) o false ≡ false
        disk None = refl
        disk (Some d) = due.unblocked d

    still : IsStill (pass_meets S c v y q work x (is_free_row S c v q.row) (pass_need q work q.over q.syncing))
    still =
        subst (λ b. IsStill (pass_at S c v y x b (Some p))) stops
        (subst (λ o. IsStill (pass_at S c v y x (y.broken || option_map_or (λ z. z.over) o false
        || list_any (λ (m : Member). m.blocked) members) o)) has_it (rest.still (Sync v) tt))
      where
        stops : (y.broken || option_map_or (λ (z : Pass). z.over) (Some p) false
            || list_any (λ (m : Member). m.blocked) members) ≡ false
        stops = let none = none_blocked y.slots in rw (sound, goes, none) refl

    stands : PassStands S c.round.faults y.slots v q
    stands = settled_stands S c.round.faults y.slots v members p (kept.passes v p has_it)

    -- a call on a disk that may be called is no rest
    no_call : (need : Need) (disk : Option ℕ) (d : ℕ) → disk ≡ Some d → may_call S c.round d ≡ true
        → IsStill (pass_on S c v y q work x need disk) → ⊥
    no_call need disk d is may still =
        let now = subst (λ o. IsStill (pass_on S c v y q work x need o)) is still in
        let made = subst (λ b. IsStill (call_if b (calling d (pass_what S v q work x need) x
        (pass_changes S c v y q work x need d x.went)))) may now in
        let none = made.calls in cc none

    callable : (s d : ℕ) → disk_in y.slots s ≡ Some d → has d c.round.faults ≡ false → may_call S c.round d ≡ true
    callable s d is sound = let there = kept.there v s d is in rw (there, sound) refl

    flips : (b : Bool) → not b ≡ true → b ≡ false
    flips true h = absurd (cc h)
    flips false h = refl

    -- a row is read and written
    asked : (need : Need) → Asks members need → (free : Bool)
        → IsStill (pass_meets S c v y q work x free need) → free ≡ false
    asked need a false still = refl
    asked _ (reads_one s usable) true still =
        let d = usable_disk c.round.faults c.round.blocked (slot_at y.slots s)
        (sym (ap is_usable (member_is c.round.faults c.round.blocked y.slots s)) ∙ usable) in
        let synced = d.in_sync in
        let both : (y.started && (slot_at y.slots s).in_sync) ≡ true = let on = started in rw (on, synced) refl in
        absurd (no_call (Reads s) (source_in y s) d.disk (ap (λ b. source_if b (disk_in y.slots s)) both ∙ d.is)
        (callable s d.disk d.is d.sound) still)
    asked _ (writes_one s works) true still =
        absurd (disk (disk_in y.slots s) refl
        (sym (ap (λ (m : Member). m.working) (member_is c.round.faults c.round.blocked y.slots s)) ∙ works))
      where
        disk : (o : Option ℕ) → disk_in y.slots s ≡ o → option_map_or (λ d. not (has d c.round.faults)) o false ≡ true
            → ⊥
        disk None none h = cc h
        disk (Some d) is h =
            no_call (Writes s) (disk_in y.slots s) d is (callable s d is (flips (has d c.round.faults) h)) still

    -- the row of a pass that isn't free has a holder
    held : (work ≡ [] → ⊥) → is_free_row S c v q.row ≡ false → Holder c v
    held some taken = at (nat_lt q.row (shape_of S v).rows) refl
        (locked_from S v q.row CLIENTS 0 c.clients) refl taken
      where
        at : (b : Bool) → nat_lt q.row (shape_of S v).rows ≡ b → (l : Bool)
            → locked_from S v q.row CLIENTS 0 c.clients ≡ l → (b && not l) ≡ false → Holder c v
        at false past l is h =
            absurd (some (ap (λ b. cond b (work_by (shape_of S v).level (shape_of S v) q.row members) []) past))
        at true inside true is h =
            let one = some_holds v q.row CLIENTS 0 c.clients is in holder_of c v q.row one.0 one.1
        at true inside false is h = absurd (cc h)

    -- something of its row is left to write
    left_over : (work ≡ [] → ⊥) → all_written q.written work ≡ false
    left_over some = elim stands.left [
      | inl none ↦
          ap (λ ws. all_written ws work) none ∙ none_written members work (row_can members (shape_of S v) q.row) some
      | inr more ↦
          ap (all_written q.written) (work_is S c.round.faults c.round.blocked y.slots v q.row) ∙ more
    ]

    pub pass_rests : Holder c v
    pass_rests = by (settles (shape_of S v) members p)
      where
        over_still : q.over ≡ true → ⊥
        over_still over =
            let now = subst (λ b. IsStill (pass_meets S c v y q work x (is_free_row S c v q.row)
            (pass_need q work b q.syncing))) over still in
            let moved = ended q.syncing now in
            let none = subst (λ b. IsStill (cond b (quietly (PassMoves v y.slots (Some q) GoesOnQuietly ∷ [])) idle)) over moved in
            let bad = none.changes in cc bad
          where
            ended : (b : Bool) → IsStill (pass_meets S c v y q work x (is_free_row S c v q.row) (pass_need q work true b))
                → IsStill (pass_meets S c v y q work x (is_free_row S c v q.row) NoNeed)
            ended true h = h
            ended false h = h

        syncs_still : q.over ≡ false → q.syncing ≡ true → (ts : List ℕ) → q.touched ≡ ts → (ts ≡ [] → ⊥) → ⊥
        syncs_still on syncs [] is some = some refl
        syncs_still on syncs (s ∷ ss) is some =
            let can = stands.touched s (ap (has s) is ∙ (let here : (s == s) ≡ true = eq-eqb s s refl in rw here refl)) in
            let now = subst (λ b. IsStill (pass_meets S c v y q work x (is_free_row S c v q.row)
            (pass_need q work b true))) on
            (subst (λ b. IsStill (pass_meets S c v y q work x (is_free_row S c v q.row) (pass_need q work q.over b)))
            syncs still) in
            let first = subst (λ ts. IsStill (pass_meets S c v y q work x (is_free_row S c v q.row) (sync_or ts NoNeed)))
            is now in
            no_call (Syncs s) (disk_in y.slots s) can.number can.is can.may (any (is_free_row S c v q.row) first)
          where
            any : (free : Bool) → IsStill (pass_meets S c v y q work x free (Syncs s))
                → IsStill (pass_on S c v y q work x (Syncs s) (disk_in y.slots s))
            any true h = h
            any false h = h

        row_still : q.over ≡ false → q.syncing ≡ false → (work ≡ [] → ⊥) → Holder c v
        row_still on quiet some =
            let now = subst (λ b. IsStill (pass_meets S c v y q work x (is_free_row S c v q.row)
            (pass_need q work b false))) on
            (subst (λ b. IsStill (pass_meets S c v y q work x (is_free_row S c v q.row) (pass_need q work q.over b)))
            quiet still) in
            held some
            (asked (need_sets q work) (asks members q work (row_can members (shape_of S v) q.row) (left_over some))
            (is_free_row S c v q.row) now)

        by : SettlesTo (shape_of S v) members q → Holder c v
        by (is_over over) = absurd (over_still over)
        by (is_syncing syncs some) = absurd (at q.over refl)
          where
            at : (b : Bool) → q.over ≡ b → ⊥
            at true over = over_still over
            at false on = syncs_still on syncs q.touched refl some
        by (in_row on quiet some) = row_still on quiet some
