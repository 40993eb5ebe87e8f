-- A call at rows keeps all that holds of the disks, whoever makes it.
use Rattle.std.proofs.Common.{ℕ, ◌+◌, ◌≤◌, Bool, List, [], ◌∷◌, length, ap, sym, ◌∙◌, subst, arith}
use Rattle.units.specs.declared.disk.Sector.{Sector}
use Rattle.units.specs.declared.bounds.TheConstants.{METADATA_SECTORS}
use Rattle.device_log.specs.Log.{Call, What}
use Rattle.array_model.specs.Blocks.{Laid}
use Rattle.array_model.specs.Candidates.{Disk}
use Rattle.array_disks.specs.Calls.{behind, after_call, RowCall, FitsEnd, at_rows}
use Rattle.array_disks.proofs.Logs.{each_disk}
use Rattle.array_disks.proofs.Rows.{row_ready, row_standing}
use Rattle.array_disks.proofs.Steps.{account_step, narrows_row}
use Rattle.array_machine.specs.Setting.{Setting}
use Rattle.array_machine.specs.Rounds.{Step, AtExtended, AtAnchor, AtSync, OfRound, OfSpare, Phase, Rest, Going}
use Rattle.array_base.specs.Premises.{MayBeBook, IsSpareBlock, Premises}
use Rattle.array_base.specs.Base.{Ledger, disks_by, RoundGoes, SpareGoes, Goes, Awaits, NextAwaits, Core, BaseFact}
use Rattle.array_base.proofs.Narrowed.{core_narrows, goes_narrows}
use Rattle.array_base.proofs.Targets.{left_first}

module _ (S : Setting) (P : Premises S) where
  -- WHAT IS WRITTEN FITS ITS DISK

  pub round_is_book : (ks : ℕ → Disk) (l : Ledger) (m : Laid) (left late : List ℕ) (done : Bool) → Core S P ks l
      → RoundGoes S ks l m left late done → MayBeBook S P.edits.formed m
  round_is_book ks l m left late done core g = subst (MayBeBook S P.edits.formed) g.book core.hand.book

  pub round_room : (ks : ℕ → Disk) (l : Ledger) (m : Laid) (d : ℕ) (ds late : List ℕ) (done : Bool) → Core S P ks l
      → RoundGoes S ks l m (d ∷ ds) late done → METADATA_SECTORS ≤ S.start.disks.sectors d
  round_room ks l m d ds late done core g =
      let book = round_is_book ks l m (d ∷ ds) late done core g in
      P.room (S.start.disks.serial d) (S.start.disks.sectors d) m (book.whole d (g.targets d (left_first S d ds late)))

  pub spare_fits : (x : ℕ) (m : Laid) → IsSpareBlock S x m → FitsEnd S.start.words m
  spare_fits x m block = record {
    extra = block.extra ∙ sym (ap (λ (xs : List Sector). length xs) block.alone);
    few = subst (λ (xs : List Sector). length xs + 2 ≤ METADATA_SECTORS) (sym block.alone) (omega arith);
  }

  pub spare_room : (ks : ℕ → Disk) (l : Ledger) (x : ℕ) (m : Laid) (d : ℕ) (ds late : List ℕ) (done : Bool)
      → SpareGoes S ks l x m (d ∷ ds) late done → METADATA_SECTORS ≤ S.start.disks.sectors d
  spare_room ks l x m d ds late done g =
      subst (λ z. METADATA_SECTORS ≤ S.start.disks.sectors z) (sym (g.only d (left_first S d ds late)))
      (P.room (S.start.disks.serial x) (S.start.disks.sectors x) m g.block.whole)

  module _ (log : List Call) (d : ℕ) (what : What) (went : Bool) (row : RowCall (S.start.disks.sectors d) what) where
    abbrev ks : ℕ → Disk
    ks = disks_by S log

    abbrev ls : ℕ → Disk
    ls = after_call S.start.words S.start.disks log d what went

    -- what the next call of a block's write awaits stays, on the disk that is called
    awaits_here : (k : Disk) (m : Laid) (step : Step) → METADATA_SECTORS ≤ S.start.disks.sectors d
        → FitsEnd S.start.words m → Awaits S d k m step
        → Awaits S d (behind S.start.words S.start.disks d k what went) m step
    awaits_here k m AtExtended room fits is = tt
    awaits_here k m AtAnchor room fits is = row_ready S.start.words S.start.disks d k what went row m room fits is
    awaits_here k m AtSync room fits is = row_standing S.start.words S.start.disks d k what went row m room fits is

    -- and on each
    awaits_row : (e : ℕ) (m : Laid) (step : Step) → METADATA_SECTORS ≤ S.start.disks.sectors e
        → FitsEnd S.start.words m → Awaits S e (ks e) m step → Awaits S e (ls e) m step
    awaits_row e m step room fits is =
        each_disk S.start.words S.start.disks
        (λ x k l. METADATA_SECTORS ≤ S.start.disks.sectors x → Awaits S x k m step → Awaits S x l m step) log d what
        went
        (λ room is. awaits_here (disks_by S log d) m step room fits is) (λ x k room is. is) e room is

    next_row : (l : Ledger) → Core S P ks l → (phase : Phase) → Goes S ks l phase → NextAwaits S ks phase
        → NextAwaits S ls phase
    next_row l core Rest g next = tt
    next_row l core (Going aim m step [] late done) g next = tt
    next_row l core (Going OfRound m step (e ∷ es) late done) g next =
        let book = round_is_book (disks_by S log) l m (e ∷ es) late done core g in
        awaits_row e m step (round_room (disks_by S log) l m e es late done core g) (P.fits m book.form) next
    next_row l core (Going (OfSpare x) m step (e ∷ es) late done) g next =
        awaits_row e m step (spare_room (disks_by S log) l x m e es late done g) (spare_fits x m g.block) next

    pub base_row : (l : Ledger) (phase : Phase) → BaseFact S P (disks_by S log) l phase
        → BaseFact S P (after_call S.start.words S.start.disks log d what went) l phase
    base_row l phase base =
        let account = base.core.known.account in
        let narrows = narrows_row S.start.words S.start.disks log d what went row (account d) in
        record {
          core = core_narrows S (disks_by S log) ls narrows l P
              (account_step S.start.words S.start.disks log d what went (at_rows what row) account) base.core;
          goes = goes_narrows S (disks_by S log) ls narrows l phase base.goes;
          next = next_row l base.core phase base.goes base.next;
        }
