-- What a law reads off the base fact where it knows what goes on.
use Rattle.std.proofs.Common.{◌≡◌, ℕ, Bool, true, List, subst}
use Rattle.device_log.specs.Log.{Call}
use Rattle.array_model.specs.Blocks.{Laid}
use Rattle.array_machine.specs.Setting.{Setting}
use Rattle.array_machine.specs.Rounds.{Step, OfRound, OfSpare, Phase, Rest, Going}
use Rattle.array_machine.specs.Control.{Control}
use Rattle.array_base.specs.Premises.{generation_of, MayBeBook, Premises}
use Rattle.array_base.specs.Base.{ledger, disks_by, IsTrusted, RoundGoes, IsSettled, SpareGoes, Goes, Base, BaseAfterCall}
use Rattle.array_base.proofs.RowCalls.{round_is_book}

module _ (S : Setting) (P : Premises S) (log : List Call) (c : Control) where
  -- of the phase that it is, also between a call and its change
  goes_between : (phase : Phase) → c.round.phase ≡ phase → BaseAfterCall S P log c
      → Goes S (disks_by S log) (ledger c.round) phase
  goes_between phase is base = subst (Goes S (disks_by S log) (ledger c.round)) is base.goes

  pub round_between : (m : Laid) (step : Step) (left late : List ℕ) (done : Bool)
      → c.round.phase ≡ Going OfRound m step left late done → BaseAfterCall S P log c
      → RoundGoes S (disks_by S log) (ledger c.round) m left late done
  round_between m step left late done is base = goes_between (Going OfRound m step left late done) is base

  pub spare_between : (x : ℕ) (m : Laid) (step : Step) (left late : List ℕ) (done : Bool)
      → c.round.phase ≡ Going (OfSpare x) m step left late done → BaseAfterCall S P log c
      → SpareGoes S (disks_by S log) (ledger c.round) x m left late done
  spare_between x m step left late done is base = goes_between (Going (OfSpare x) m step left late done) is base

  pub rest_between : c.round.phase ≡ Rest → BaseAfterCall S P log c → IsSettled S (ledger c.round)
  rest_between is base = goes_between Rest is base

  pub between : Base S P log c → BaseAfterCall S P log c
  between base = record { core = base.core; goes = base.goes }

  -- the block of a round that goes on may be the book
  pub round_book : (m : Laid) (step : Step) (left late : List ℕ) (done : Bool)
      → c.round.phase ≡ Going OfRound m step left late done → BaseAfterCall S P log c → MayBeBook S P.edits.formed m
  round_book m step left late done is base =
      round_is_book S P (disks_by S log) (ledger c.round) m left late done base.core
      (round_between m step left late done is base)

  -- at rest, behind a round that ended, the book is the last finished round's block while a disk is trusted
  pub rest_book : (d : ℕ) → c.round.phase ≡ Rest → c.round.ended ≡ true → IsTrusted S (ledger c.round) d
      → BaseAfterCall S P log c
      → (c.round.note ≡ generation_of S c.round.last) × (c.round.book ≡ c.round.last)
  rest_book d is ended trusted base = rest_between is base ended d trusted
