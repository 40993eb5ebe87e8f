-- What the monitor makes of the update in hand is a path.
use Rattle.std.proofs.Common.{◌≡◌, ℕ, ◌+◌, ◌≤◌, ◌&&◌, not, nat_lt, nat_le, Bool, true, false, cond, List, [], ◌∷◌, ◌++◌, refl, arith, Option, Some, None, slice_get, inr}
use Rattle.std.specs.Prelude.{⊤}
use Rattle.std.specs.List.{AllByRecursion}
use Rattle.std.proofs.lemmas.Bool.{and_parts}
use Rattle.std.proofs.lemmas.Bool.Decides.{nat_tests}
use Rattle.units.specs.declared.bounds.TheConstants.{METADATA_SECTORS}
use Rattle.array_model.specs.declared.script.Ask.{Ask}
use Rattle.array_model.specs.declared.script.Ask.TheVariants.{Add, Rename, Remove}
use Rattle.array_model.specs.Renewal.{FitsGeneration}
use Rattle.array_machine.specs.Numbers.{has}
use Rattle.array_machine.specs.Setting.{Setting, TakesGeneration, ActivatesDisk, RemovesDisk, NamesVolume}
use Rattle.array_machine.specs.EditWords.{AreApt}
use Rattle.array_machine.specs.EditFacts.{facts_of}
use Rattle.array_machine.specs.Rounds.{Ended, Rest, Lives, has_target}
use Rattle.array_machine.specs.Managers.{IsApplied, IsSettled, Want, OfAsk, OfSpareDisk, Update}
use Rattle.array_machine.specs.Control.{Control}
use Rattle.array_machine.specs.Changes.{Applies, Declines, ManagerMoves}
use Rattle.array_machine.specs.Puts.{put}
use Rattle.array_machine.specs.Turns.{may_call}
use Rattle.array_machine.specs.MonitorTurns.{is_due}
use Rattle.array_machine.specs.Updates.{Verdict, Refuses, EditsBook, WritesSpare, Refusal, unless, is_free, need_for, activation_refusals, activation_verdict, add_refusals, add_verdict, rename_refusals, rename_verdict, remove_refusals, remove_verdict, ask_verdict, verdict_of, taken, apply_verdict, apply_if}
use Rattle.array_paths.specs.InTurn.{InTurn}
use Rattle.array_paths.specs.MayEdit.{MayEdit, IsUpdate}
use Rattle.array_paths.specs.Comes.{MayFail, begins, begins_spare, manages}
use Rattle.array_paths.specs.Effects.{Path, quiet, ends_here, goes_on}
use Rattle.array_paths.proofs.Tests.{is_false, may_fail}
use Rattle.array_paths.proofs.RoundPaths.{lone}

-- WHAT A VERDICT RESTS ON

not_false : (b : Bool) → not b ≡ false → b ≡ true
not_false true h = refl
not_false false h = absurd cc

not_less : (a b : ℕ) → nat_lt a b ≡ false → b ≤ a
not_less a b h = grind (arith, nat_tests, h)

-- behind an update that edits the book, whose round is to begin
abbrev pub edits_next : Setting → Control → Update → List Update → Control
edits_next S c u rest =
    put S (ManagerMoves (taken c.manager u rest IsApplied (Some (c.round.note + 1))) (Applies u.number)) c

-- behind an update that makes a disk a spare, whose block is to be written
abbrev pub spare_next : Setting → Control → Update → List Update → Control
spare_next S c u rest =
    let generation = S.start.words.generation c.round.book.anchor in
    put S (ManagerMoves (taken c.manager u rest IsApplied (Some generation)) (Applies u.number)) c

-- The edits of an update may be made, and they fit; a disk that becomes a spare is there, unknown, and large enough.
abbrev MayMake : Setting → Control → Update → List Update → Verdict → Type 0
MayMake S c u rest (Refuses kind) = ⊤
MayMake S c u rest (EditsBook edits) =
    AllByRecursion (MayEdit S (edits_next S c u rest)) edits × IsUpdate edits
    × (FitsGeneration (c.round.note + 1)
    → AreApt S (facts_of S c) c.round.book (edits ++ TakesGeneration (c.round.note + 1) ∷ []))
MayMake S c u rest (WritesSpare d) =
    MayFail S c d × (S.start.words.has_record c.round.book (S.start.disks.serial d) ≡ false)
    × (nat_le METADATA_SECTORS (S.start.disks.sectors d) ≡ true)

-- no cause to decline holds
abbrev Passes : List Refusal → Type 0
Passes rs = AllByRecursion (λ r. r.holds ≡ false) rs

module _ (S : Setting) (c : Control) (u : Update) (rest : List Update) where
  may_unless : (rs : List Refusal) (done : Verdict) → (Passes rs → MayMake S c u rest done)
      → MayMake S c u rest (unless rs done)
  may_unless [] done may = may tt
  may_unless (r ∷ rs) done may = at r.holds refl (λ holds. may_unless rs done (λ passes. may (holds, passes)))
    where
      at : (b : Bool) → r.holds ≡ b → (r.holds ≡ false → MayMake S c u rest (unless rs done))
          → MayMake S c u rest (cond b (Refuses r.kind) (unless rs done))
      at true holds more = tt
      at false holds more = more holds

  may_activate : (seen d i : ℕ) → MayMake S c u rest (activation_verdict S c seen d i)
  may_activate seen d i =
      may_unless (activation_refusals S c seen d i) (EditsBook (ActivatesDisk (S.start.disks.serial d) i ∷ []))
      (λ passes.
      let free = not_false (is_free S c d) passes.1.0 in
      let small = passes.1.1.1.0 in
      let large = not_less (S.start.disks.sectors d) (need_for S c.round.book i 0 c.volumes) small in
      let room = not_false (S.start.words.has_room c.round.book) passes.1.1.1.1.1.0 in
      let both = and_parts (may_call S c.round d && has d c.manager.spares) _ free in
      let unknown = is_false (S.start.words.has_record c.round.book (S.start.disks.serial d)) both.1 in
      let may = may_fail S c d (and_parts (may_call S c.round d) (has d c.manager.spares) both.0).0 in (
        (record { disk = d; is = refl; below = may.there; free = free; large = large; room = room }, tt),
        tt,
        (λ fits. ((room, unknown, record { disk = d; is = refl; below = may.there }), (fits, tt))),
      ))

  may_add : (d : ℕ) → MayMake S c u rest (add_verdict S c d)
  may_add d =
      may_unless (add_refusals S c d) (WritesSpare d)
      (λ passes.
      let may = may_fail S c d (not_false (may_call S c.round d) passes.0) in
      let large : METADATA_SECTORS ≤ S.start.disks.sectors d =
      not_less (S.start.disks.sectors d) METADATA_SECTORS passes.1.1.0 in
      let enough : nat_le METADATA_SECTORS (S.start.disks.sectors d) ≡ true = grind (arith, nat_tests, large) in
      (may, passes.1.0, enough))

  may_rename : (v : ℕ) (name : List ℕ) → MayMake S c u rest (rename_verdict S c v name)
  may_rename v name =
      may_unless (rename_refusals S c v name) (EditsBook (NamesVolume v name ∷ []))
      (λ passes.
      let there = not_false (nat_lt v (S.start.words.volumes c.round.book)) passes.0 in
      ((there, tt), tt, (λ fits. (there, (fits, tt)))))

  may_remove : (d : ℕ) → MayMake S c u rest (remove_verdict S c d)
  may_remove d =
      may_unless (remove_refusals S c d) (EditsBook (RemovesDisk (S.start.disks.serial d) ∷ []))
      (λ passes.
      let known = S.start.words.has_record c.round.book (S.start.disks.serial d) in
      let there = not_false (nat_lt d S.start.disks.count && known) passes.0 in
      let both = and_parts (nat_lt d S.start.disks.count) known there in
      let failed = passes.1.0 in
      (((both.1, failed), tt), tt, (λ fits. ((both.1, failed), (fits, tt)))))

  may_ask : (ask : Option Ask) → MayMake S c u rest (ask_verdict S c ask)
  may_ask None = tt
  may_ask (Some (Add d)) = may_add d
  may_ask (Some (Rename v name)) = may_rename v name
  may_ask (Some (Remove d)) = may_remove d

  may_make : (seen : ℕ) (want : Want) → MayMake S c u rest (verdict_of S c seen want)
  may_make seen (OfAsk i) = may_ask (slice_get S.asked.asks i)
  may_make seen (OfSpareDisk d i) = may_activate seen d i

-- APPLYING

module _ (S : Setting) (t : InTurn) (x : Ended) (fits : FitsGeneration (t.before.round.note + 1))
    (alive : t.before.round.life ≡ Lives) (rests : t.before.round.phase ≡ Rest)
    (target : has_target S t.before.round ≡ true) (none : is_due S t.before ≡ false) where
  verdict_path : (u : Update) (rest : List Update) → t.before.manager.queue ≡ u ∷ rest → (verdict : Verdict)
      → MayMake S t.before u rest verdict → Path S t t.before None x (apply_verdict S t.before u rest verdict)
  verdict_path u rest queue (Refuses kind) may =
      lone S t t.before x _
      (manages (taken t.before.manager u rest IsSettled t.before.manager.applied) (Declines u.number kind)
      (record { rests = rests; posted = refl; update = u; first = queue; number = refl }))
  verdict_path u rest queue (EditsBook edits) may =
      goes_on
      (quiet x _
      (manages (taken t.before.manager u rest IsApplied (Some (t.before.round.note + 1))) (Applies u.number)
      (record { rests = rests; posted = refl; update = u; first = queue; number = refl })))
      (lone S t (edits_next S t.before u rest) x _
      (begins _ alive rests target
      (record {
        edits = edits;
        may = may.0;
        order = inr (may.1, none);
        apt = may.2 fits;
        is = refl;
        asked = inr (u, queue);
      })))
  verdict_path u rest queue (WritesSpare d) may =
      goes_on
      (quiet x _
      (manages (taken t.before.manager u rest IsApplied (Some (S.start.words.generation t.before.round.book.anchor)))
      (Applies u.number)
      (record { rests = rests; posted = refl; update = u; first = queue; number = refl })))
      (lone S t (spare_next S t.before u rest) x _
      (begins_spare d _ alive rests target (record { there = may.0.there; sound = may.0.sound }) refl may.1 may.2))

-- the update in hand, if a target exists and nothing is due
pub update_path : (S : Setting) (t : InTurn) (x : Ended) → FitsGeneration (t.before.round.note + 1)
    → t.before.round.life ≡ Lives → t.before.round.phase ≡ Rest → (target : Bool)
    → has_target S t.before.round ≡ target → (target ≡ true → is_due S t.before ≡ false) → (queue : List Update)
    → t.before.manager.queue ≡ queue → Path S t t.before None x (apply_if S t.before target queue)
update_path S t x fits alive rests false has none queue is = ends_here x
update_path S t x fits alive rests true has none [] is = ends_here x
update_path S t x fits alive rests true has none (u ∷ rest) is =
    verdict_path S t x fits alive rests has (none refl) u rest is _ (may_make S t.before u rest u.seen u.want)
