-- The calls of a round and of a spare's write: what they keep, and what is certain once one went through.
use Rattle.std.proofs.Common.{◌≡◌, ℕ, ◌≤◌, Bool, true, if◌then◌else◌, List, ◌∷◌, length, ap, sym, subst, arith}
use Rattle.units.specs.declared.bounds.TheConstants.{METADATA_SECTORS}
use Rattle.device_log.specs.Log.{Call, Sync}
use Rattle.array_model.specs.Blocks.{Laid}
use Rattle.array_model.specs.Candidates.{Disk}
use Rattle.array_disks.specs.Held.{IsReady, IsStanding, IsSole, AccountForEnd}
use Rattle.array_disks.specs.Calls.{behind, after_call, row_sync, FitsEnd, extended_write, anchor_write, at_rows, of_extended, of_anchor}
use Rattle.array_disks.proofs.Logs.{here_changes}
use Rattle.array_disks.proofs.Blocks.{extended_ready, anchor_stands}
use Rattle.array_disks.proofs.Syncs.{sync_sole}
use Rattle.array_disks.proofs.Steps.{account_step, narrows_row, narrows_extended, adds_anchor}
use Rattle.array_machine.specs.Setting.{Setting}
use Rattle.array_machine.specs.Rounds.{Ended, stored_of, Step, AtExtended, AtAnchor, AtSync, OfRound, OfSpare, Phase, Going, what_of}
use Rattle.array_base.specs.Premises.{IsWholeAt, IsBlock, MayBeBook, Premises}
use Rattle.array_base.specs.Base.{Ledger, disks_by, is_left, RoundGoes, SpareGoes, Goes, Awaits, Core, Between}
use Rattle.array_base.proofs.Targets.{left_first}
use Rattle.array_base.proofs.Narrowed.{core_narrows, goes_narrows}
use Rattle.array_base.proofs.Added.{round_fresh, core_adds, round_adds, spare_fresh, core_spare, spare_adds}
use Rattle.array_base.proofs.RowCalls.{round_is_book, round_room, spare_fits, spare_room}

-- a write that went through stored all its sectors
all_stored : (x : Ended) (n : ℕ) → x.went ≡ true → stored_of x n ≡ n
all_stored x n went = ap (λ b. if b then n else x.stored) went

module _ (S : Setting) (log : List Call) (d : ℕ) (m : Laid) where
  -- the disks behind the call of a step
  abbrev pub behind_step : Step → Ended → Bool → ℕ → Disk
  behind_step step x went = after_call S.start.words S.start.disks log d (what_of S x m step d) went

  -- a block of these sizes, whole on the disk
  pub record IsAimedAt : Type 0 where
    pub room : METADATA_SECTORS ≤ S.start.disks.sectors d
    pub fits : FitsEnd S.start.words m
    pub whole : IsWholeAt S d m

  pub aimed_block : IsAimedAt → IsBlock S m
  aimed_block aimed = record {
    extra = aimed.fits.extra;
    serial = S.start.disks.serial d;
    sectors = S.start.disks.sectors d;
    whole = aimed.whole;
  }

  -- WHAT IS CERTAIN

  -- once the step's call went through
  abbrev pub Certain : Step → Disk → Type 0
  Certain AtExtended k = IsReady (S.start.disks.sectors d) k m
  Certain AtAnchor k = IsStanding S.start.words (S.start.disks.sectors d) k m
  Certain AtSync k = IsSole k m

  here : (step : Step) (x : Ended) (went : Bool)
      → Certain step (behind S.start.words S.start.disks d (disks_by S log d) (what_of S x m step d) went)
      → Certain step (behind_step step x went d)
  here step x went is =
      subst (Certain step) (sym (here_changes S.start.words S.start.disks log d (what_of S x m step d) went)) is

  pub certain : IsAimedAt → (step : Step) (x : Ended) → x.went ≡ true → Awaits S d (disks_by S log d) m step
      → Certain step (behind_step step x true d)
  certain aimed AtExtended x went awaits =
      let all = all_stored x (length m.extended) went in
      here AtExtended x true
      (extended_ready S.start.words S.start.disks d m aimed.room aimed.fits (disks_by S log d)
      (stored_of x (length m.extended)) true (omega (arith, all)))
  certain aimed AtAnchor x went awaits =
      let all = all_stored x 1 went in
      here AtAnchor x true
      (anchor_stands S.start.words S.start.disks d m aimed.room aimed.fits (disks_by S log d) (stored_of x 1) true
      (omega (arith, all)) awaits)
  certain aimed AtSync x went awaits =
      here AtSync x true (sync_sole S.start.words S.start.disks d (disks_by S log d) m awaits aimed.whole)

  module _ (P : Premises S) (l : Ledger) (core : Core S P (disks_by S log) l) where
    account : (e : ℕ) → AccountForEnd (S.start.disks.sectors e) (disks_by S log e)
    account = core.known.account

    -- CALLS THAT BRING NO BLOCK

    between_extended : IsAimedAt → (x : Ended) (went : Bool) (phase : Phase) → Goes S (disks_by S log) l phase
        → Between S P (behind_step AtExtended x went) l phase
    between_extended aimed x went phase goes =
        let stored = stored_of x (length m.extended) in
        let narrows = narrows_extended S.start.words S.start.disks log d m aimed.room aimed.fits stored went in
        record {
          core = core_narrows S (disks_by S log) (behind_step AtExtended x went) narrows l P
              (account_step S.start.words S.start.disks log d (extended_write (S.start.disks.sectors d) m stored) went
              (of_extended m stored aimed.room aimed.fits) account) core;
          goes = goes_narrows S (disks_by S log) (behind_step AtExtended x went) narrows l phase goes;
        }

    between_sync : (x : Ended) (went : Bool) (phase : Phase) → Goes S (disks_by S log) l phase
        → Between S P (behind_step AtSync x went) l phase
    between_sync x went phase goes =
        let narrows = narrows_row S.start.words S.start.disks log d Sync went row_sync (account d) in
        record {
          core = core_narrows S (disks_by S log) (behind_step AtSync x went) narrows l P
              (account_step S.start.words S.start.disks log d Sync went (at_rows Sync row_sync) account) core;
          goes = goes_narrows S (disks_by S log) (behind_step AtSync x went) narrows l phase goes;
        }

    -- A ROUND

    module _ (ds late : List ℕ) (done : Bool) (g : RoundGoes S (disks_by S log) l m (d ∷ ds) late done) where
      book : MayBeBook S P.edits.formed m
      book = round_is_book S P (disks_by S log) l m (d ∷ ds) late done core g

      pub round_aimed : IsAimedAt
      round_aimed = record {
        room = round_room S P (disks_by S log) l m d ds late done core g;
        fits = P.fits m book.form;
        whole = book.whole d (g.targets d (left_first S d ds late));
      }

      pub round_call : (step : Step) (x : Ended) (went : Bool) → Awaits S d (disks_by S log d) m step
          → Between S P (behind_step step x went) l (Going OfRound m step (d ∷ ds) late done)
      round_call AtExtended x went awaits =
          between_extended round_aimed x went (Going OfRound m AtExtended (d ∷ ds) late done) g
      round_call AtSync x went awaits = between_sync x went (Going OfRound m AtSync (d ∷ ds) late done) g
      round_call AtAnchor x went awaits =
          let stored = stored_of x 1 in
          let aimed = round_aimed in
          let adds = adds_anchor S.start.words S.start.disks log d m aimed.room aimed.fits stored went awaits.pending in
          let block = aimed_block aimed in
          let ls = behind_step AtAnchor x went in
          let fresh = round_fresh S P (disks_by S log) ls d m adds l core (d ∷ ds) late done block book.container g d in
          record {
            core = core_adds S P (disks_by S log) ls d m adds l core (d ∷ ds) late done block
                book.container g
                (account_step S.start.words S.start.disks log d (anchor_write (S.start.disks.sectors d) m stored) went
                (of_anchor m stored aimed.room aimed.fits awaits.pending fresh) account);
            goes = round_adds S P (disks_by S log) ls d m adds l core (d ∷ ds) late done block
                book.container g;
          }

    -- A SPARE'S WRITE

    module _ (y : ℕ) (ds late : List ℕ) (done : Bool) (g : SpareGoes S (disks_by S log) l y m (d ∷ ds) late done) where
      is_first : is_left S (d ∷ ds) late d ≡ true
      is_first = left_first S d ds late

      pub spare_aimed : IsAimedAt
      spare_aimed = record {
        room = spare_room S P (disks_by S log) l y m d ds late done g;
        fits = spare_fits S P y m g.block;
        whole = subst (λ z. IsWholeAt S z m) (sym (g.only d is_first)) g.block.whole;
      }

      pub spare_call : (step : Step) (x : Ended) (went : Bool) → Awaits S d (disks_by S log d) m step
          → Between S P (behind_step step x went) l (Going (OfSpare y) m step (d ∷ ds) late done)
      spare_call AtExtended x went awaits =
          between_extended spare_aimed x went (Going (OfSpare y) m AtExtended (d ∷ ds) late done) g
      spare_call AtSync x went awaits = between_sync x went (Going (OfSpare y) m AtSync (d ∷ ds) late done) g
      spare_call AtAnchor x went awaits =
          let stored = stored_of x 1 in
          let aimed = spare_aimed in
          let adds = adds_anchor S.start.words S.start.disks log d m aimed.room aimed.fits stored went awaits.pending in
          let block = aimed_block aimed in
          let ls = behind_step AtAnchor x went in
          let fresh = spare_fresh S P (disks_by S log) ls d m adds l core y (d ∷ ds) late done block is_first g d in
          record {
            core = core_spare S P (disks_by S log) ls d m adds l core y (d ∷ ds) late done block
                is_first g
                (account_step S.start.words S.start.disks log d (anchor_write (S.start.disks.sectors d) m stored) went
                (of_anchor m stored aimed.room aimed.fits awaits.pending fresh) account);
            goes = spare_adds S P (disks_by S log) ls d m adds l core y (d ∷ ds) late done block
                is_first g;
          }
