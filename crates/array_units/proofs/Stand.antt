-- Each pass stands where its checkpoints say, through each effect.
use Rattle.std.proofs.Common.{◌≡◌, ℕ, zero, suc, ◌+◌, ◌<◌, ◌||◌, ◌&&◌, nat_lt, Bool, true, false, cond, List, [], ◌∷◌, ◌++◌, slice_set, refl, ap, sym, ◌∙◌, subst, arith, Option, Some, None, inl, inr}
use Rattle.std.specs.Option.{option_map}
use Rattle.std.proofs.lemmas.Bool.Decides.{nat_tests}
use Rattle.units.specs.declared.disk.Sector.{Sector}
use Rattle.device_log.specs.Log.{Call, What}
use Rattle.array_machine.specs.Setting.{Setting}
use Rattle.array_machine.specs.States.{StateWord, ToReady, ToPending, ToActive, ToActiveAgain, ToIdle, ToClean, state_after}
use Rattle.array_machine.specs.Volumes.{Slot, has_disk, Pass, Volume, volume_at}
use Rattle.array_machine.specs.Operations.{shape_of}
use Rattle.array_machine.specs.RowJobs.{Need}
use Rattle.array_machine.specs.Rounds.{Ended, Round}
use Rattle.array_machine.specs.Faults.{round_without, breaks, volume_without, volumes_without, volume_lost, pass_without}
use Rattle.array_machine.specs.SyncTurns.{is_free_row}
use Rattle.array_machine.specs.Control.{Control}
use Rattle.array_machine.specs.Changes.{Change, DiskFails, StateGoes, PassMoves, PassWord, GoesOnQuietly}
use Rattle.array_machine.specs.Puts.{put}
use Rattle.array_machine.specs.TakeoverTurns.{has_all}
use Rattle.array_paths.specs.InTurn.{InTurn, is_broken}
use Rattle.array_paths.specs.Comes.{Comes, begins, begins_spare, ends, ends_spare, lapses, fails, unblocks, readies, pends, activates, again, idles, cleans, client, pass, manages, kills, takes_over, resumes, dies}
use Rattle.array_paths.specs.PassMove.{slots_of, members_at, work_at, GoesOn, PassCall, reads, writes, syncs, pass_after, pass_lost, PassMove, opens, seats, reaches, closes, comes_to_its_end, loses}
use Rattle.array_paths.specs.AtRows.{AtRows, by_client, by_pass, by_monitor, after_read}
use Rattle.array_paths.specs.Effects.{Effect, quiet, row, row_fails, steps, step_fails}
use Rattle.array_base.proofs.Slots.{volume_set}
use Rattle.array_units.specs.Passes.{StandsAt}
use Rattle.array_units.specs.Counted.{PassesStand}
use Rattle.array_units.proofs.Passes.{Moved, settled_moved, writes_row, read_moved, write_moved, sync_moved, lock_moved, lost_moved, begun_stands}

-- a row that is free is one of the volume's
first_of : (a b : Bool) → (a && b) ≡ true → a ≡ true
first_of true b h = refl
first_of false b h = cc h

module _ (S : Setting) where
  abbrev Stands : ℕ → Pass → Type 0
  Stands v p = StandsAt (shape_of S v).rows p

  -- PASSES THAT GO ON

  -- the pass that is at hand comes from the one that the volume has
  pub goes_moved : (c : Control) (v : ℕ) (p : Pass) (g : GoesOn S c v p) → PassesStand S c
      → Moved (shape_of S v) g.had p
  goes_moved c v p g stand =
      subst (Moved (shape_of S v) g.had) (sym g.settles)
      (settled_moved (shape_of S v) (members_at c v) g.had (stand v g.had g.is))

  -- the pass that a call is of
  abbrev pub had_by : (c : Control) (v d : ℕ) (p : Pass) (need : Need) (what : What) (stored : ℕ)
      → PassCall S c v d p need what stored → GoesOn S c v p
  had_by c v d _ _ _ _ (reads p s stored needs free on) = needs.goes_on
  had_by c v d _ _ _ _ (writes p s stored needs free on) = needs.goes_on
  had_by c v d _ _ _ _ (syncs p s stored needs on) = needs.goes_on

  pub row_below : (c : Control) (v n : ℕ) → is_free_row S c v n ≡ true → n < (shape_of S v).rows
  row_below c v n free =
      let less : nat_lt n (shape_of S v).rows ≡ true = first_of _ _ free in grind (arith, nat_tests, less)

  pub call_moved : (c : Control) (v d : ℕ) (p : Pass) (need : Need) (what : What) (stored : ℕ) (x : Ended)
      → PassCall S c v d p need what stored → Stands v p → Moved (shape_of S v) p (pass_after S c v p need x)
  call_moved c v d _ _ _ _ x (reads p s stored needs free on) stands =
      read_moved (shape_of S v) p (work_at S c v p.row) s x.got p.row stands
  call_moved c v d _ _ _ _ x (writes p s stored needs free on) stands =
      write_moved (shape_of S v) p (work_at S c v p.row) s x.got stands
      (writes_row (shape_of S v) p (work_at S c v p.row) s needs.is) (row_below c v p.row free)
  call_moved c v d _ _ _ _ x (syncs p s stored needs on) stands =
      sync_moved (shape_of S v) p (work_at S c v p.row) s x.got p.row stands

  -- VOLUMES IN A LIST

  set_stands : (c : Control) (v : ℕ) (y : Volume) → ((p : Pass) → y.pass ≡ Some p → Stands v p) → PassesStand S c
      → (u : ℕ) (p : Pass) → (volume_at (slice_set c.volumes v y) u).pass ≡ Some p → Stands u p
  set_stands c v y new stand u p is = elim (volume_set c.volumes v y u) [
    | inl here ↦
        subst (λ w. Stands w p) here.0 (new p (ap (λ (z : Volume). z.pass) (sym here.1) ∙ is))
    | inr other ↦ stand u p (ap (λ (z : Volume). z.pass) (sym other) ∙ is)
  ]

  state_stands : (c : Control) (v : ℕ) (word : StateWord) → PassesStand S c
      → PassesStand S (put S (StateGoes v word) c)
  state_stands c v word stand u p is =
      set_stands c v (record (volume_at c.volumes v) { state = state_after word }) (λ q at. stand v q at) stand u p is

  move_stands : (c : Control) (v : ℕ) (slots : List Slot) (new : Option Pass) (word : PassWord)
      → ((p : Pass) → new ≡ Some p → Stands v p) → PassesStand S c
      → PassesStand S (put S (PassMoves v slots new word) c)
  move_stands c v slots new word at stand u p is =
      set_stands c v (record (volume_at c.volumes v) { slots = slots; pass = new }) at stand u p is

  -- A DISK FAILS

  lost_stands : (d v : ℕ) (slots : List Slot) (broken : Bool) (pass : Option Pass)
      → ((p : Pass) → pass ≡ Some p → Stands v p) → (p : Pass)
      → option_map (pass_without (shape_of S v) d slots broken) pass ≡ Some p → Stands v p
  lost_stands d v slots broken None stand p is = absurd cc
  lost_stands d v slots broken (Some q) stand p is =
      let same : pass_without (shape_of S v) d slots broken q ≡ p = cc is in
      subst (Stands v) same (lost_moved (shape_of S v) d slots broken q (stand q refl)).stands

  volume_stands : (d : ℕ) (r : Round) (v : ℕ) (x : Volume) → ((p : Pass) → x.pass ≡ Some p → Stands v p) → (p : Pass)
      → (volume_without S d r v x).pass ≡ Some p → Stands v p
  volume_stands d r v x stand = at (x.started && has_disk d x.slots)
    where
      broken : Bool
      broken = x.broken || breaks S r v x.slots

      at : (b : Bool) → (p : Pass) → (cond b (volume_lost S d v (x.broken || breaks S r v x.slots) x) x).pass ≡ Some p
          → Stands v p
      at true = lost_stands d v x.slots (x.broken || breaks S r v x.slots) x.pass stand
      at false = stand

  fail_stands : (d : ℕ) (r : Round) (n : ℕ) (xs : List Volume)
      → ((w : ℕ) (p : Pass) → (volume_at xs w).pass ≡ Some p → Stands (n + w) p) → (w : ℕ) (p : Pass)
      → (volume_at (volumes_without S d r n xs) w).pass ≡ Some p → Stands (n + w) p
  fail_stands d r n [] stand w p is = stand w p is
  fail_stands d r n (x ∷ xs) stand zero p is =
      let here : n + 0 ≡ n = omega arith in
      subst (λ v. Stands v p) (sym here)
      (volume_stands d r n x (λ q at. subst (λ v. Stands v q) here (stand 0 q at)) p is)
  fail_stands d r n (x ∷ xs) stand (suc w) p is =
      let there : n + 1 + w ≡ n + suc w = omega arith in
      subst (λ v. Stands v p) there
      (fail_stands d r (n + 1) xs (λ u q at.
      let on : n + suc u ≡ n + 1 + u = omega arith in subst (λ v. Stands v q) on (stand (suc u) q at)) w p is)

  fault_stands : (c : Control) (d : ℕ) → PassesStand S c → PassesStand S (put S (DiskFails d) c)
  fault_stands c d stand u p is =
      let none : (w : ℕ) → 0 + w ≡ w = λ w. omega arith in
      subst (λ v. Stands v p) (none u)
      (fail_stands d (round_without S d c.round) 0 c.volumes
      (λ w q at. subst (λ v. Stands v q) (sym (none w)) (stand w q at)) u p is)

  -- ANY CHANGE

  module _ (t : InTurn) (c : Control) (before : PassesStand S t.before) (stand : PassesStand S c) where
    one_is : (v : ℕ) (q : Pass) → Stands v q → (p : Pass) → Some q ≡ Some p → Stands v p
    one_is v q stands p is = let same : q ≡ p = cc is in subst (Stands v) same stands

    lost_by : (v d : ℕ) (p : Pass) (need : Need) (what : What) (stored : ℕ)
        → PassCall S t.before v d p need what stored → Stands v (pass_lost S c v d p need)
    lost_by v d p need what stored call =
        let g = had_by t.before v d p need what stored call in
        let stands = (goes_moved t.before v p g before).stands in
        let lost = pass_without (shape_of S v) d (slots_of c v) (is_broken c v) p in
        (lock_moved (shape_of S v) p lost need p.row
        (lost_moved (shape_of S v) d (slots_of c v) (is_broken c v) p stands)).stands

    new_stands : (v : ℕ) (slots : List Slot) (new : Option Pass) (word : PassWord) → PassMove S t c v slots new word
        → (p : Pass) → new ≡ Some p → Stands v p
    new_stands v _ _ _ (opens kind started was is has) = one_is v _ (begun_stands (shape_of S v) _)
    new_stands v _ _ _ (seats now started other) = one_is v _ (begun_stands (shape_of S v) 0)
    new_stands v _ _ _ (reaches was is now started before after above) = λ p is. stand v p is
    new_stands v _ _ _ (closes was now started before after) = λ p is. absurd cc
    new_stands v _ _ _ (comes_to_its_end p goes over) = one_is v p (goes_moved c v p goes stand).stands
    new_stands v _ _ _ (loses d p need what stored call is) = one_is v _ (lost_by v d p need what stored call)

    stands_comes : (a : Change) → Comes S t c a → PassesStand S (put S a c)
    stands_comes _ (fails d who may) = fault_stands c d stand
    stands_comes _ (readies v started state rest ended) = state_stands c v ToReady stand
    stands_comes _ (pends v sound state submitted) = state_stands c v ToPending stand
    stands_comes _ (activates v runs state rest ended dirty) = state_stands c v ToActive stand
    stands_comes _ (again v sound state submitted) = state_stands c v ToActiveAgain stand
    stands_comes _ (idles v who runs state none) = state_stands c v ToIdle stand
    stands_comes _ (cleans v runs state rest) = state_stands c v ToClean stand
    stands_comes _ (pass v slots new word move) =
        move_stands c v slots new word (new_stands v slots new word move) stand
    stands_comes _ (begins m life rest target next) = stand
    stands_comes _ (begins_spare d m life rest target may is unlisted room) = stand
    stands_comes _ (ends m step is) = stand
    stands_comes _ (ends_spare d m step is) = stand
    stands_comes _ (lapses aim m step late is) = stand
    stands_comes _ (unblocks d rest blocked ended unexpected) = stand
    stands_comes _ (client k new word move) = stand
    stands_comes _ (manages new word move) = stand
    stands_comes _ (kills who awake) = stand
    stands_comes _ (takes_over who life) = stand
    stands_comes _ (resumes d taking young) = stand
    stands_comes _ (dies taking) = stand

    stands_read : (d : ℕ) (left : List ℕ) (seen : List Sector) (found : List ℕ) (all : Bool)
        → PassesStand S (put S (after_read S c d left seen found all) c)
    stands_read d left seen found true = stand
    stands_read d left seen found false = stand

    stands_rows : (d : ℕ) (what : What) (x : Ended) (a : Change) → AtRows S c d what x a → PassesStand S (put S a c)
    stands_rows d _ x _ (by_client k i r need _ _ call) = stand
    stands_rows d _ x _ (by_pass v p need what _ call) =
        let g = had_by c v d p need what 1 call in
        let moved = call_moved c v d p need what 1 x call (goes_moved c v p g stand).stands in
        move_stands c v (slots_of c v) (Some (pass_after S c v p need x)) GoesOnQuietly (one_is v _ moved.stands) stand
    stands_rows d _ x _ (by_monitor left seen found _ life) =
        stands_read d left (seen ++ x.got ∷ []) found (has_all S (seen ++ x.got ∷ []))

    pub stands_effect : {call : Option Call} {x : Ended} {a : Change} → Effect S t c call x a
        → PassesStand S (put S a c)
    stands_effect (quiet x a comes) = stands_comes a comes
    stands_effect (row d what x a may calls went at) = stands_rows d what x a at
    stands_effect (row_fails d what x may calls failed lost) = fault_stands c d stand
    stands_effect (steps d m step x target went) = stand
    stands_effect (step_fails d m step x target failed) = fault_stands c d stand
