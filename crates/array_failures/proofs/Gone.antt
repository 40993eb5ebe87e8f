-- A disk that is gone stays so, through each effect. A disk is gone where a round ends whose block calls it failed.
use Rattle.std.proofs.Common.{◌≡◌, ℕ, ◌==◌, Bool, true, false, List, [], ◌∷◌, ◌++◌, refl, Option}
use Rattle.units.specs.declared.disk.Sector.{Sector}
use Rattle.device_log.specs.Log.{Call, What}
use Rattle.array_model.specs.Blocks.{Laid}
use Rattle.array_model.specs.Candidates.{Disk}
use Rattle.array_machine.specs.Setting.{Setting}
use Rattle.array_machine.specs.Numbers.{has}
use Rattle.array_machine.specs.Rounds.{Ended, Step, OfRound, Going, expects}
use Rattle.array_machine.specs.Control.{Control}
use Rattle.array_machine.specs.Changes.{Change, DiskFails, RoundEnds}
use Rattle.array_machine.specs.Puts.{put}
use Rattle.array_machine.specs.Machine.{World, log_after}
use Rattle.array_machine.specs.TakeoverTurns.{has_all}
use Rattle.array_paths.specs.InTurn.{InTurn}
use Rattle.array_paths.specs.Comes.{Comes, begins, begins_spare, ends, ends_spare, lapses, fails, unblocks, readies, pends, activates, again, idles, cleans, client, pass, manages, kills, takes_over, resumes, dies}
use Rattle.array_paths.specs.AtRows.{AtRows, by_client, by_pass, by_monitor, after_read}
use Rattle.array_paths.specs.Effects.{Effect, quiet, row, row_fails, steps, step_fails}
use Rattle.array_base.specs.Premises.{Premises}
use Rattle.array_base.specs.Laws.{OverBase}
use Rattle.array_base.specs.Base.{ledger, disks_by, Between}
use Rattle.array_base.proofs.Targets.{or_second}
use Rattle.array_failures.specs.Recorded.{FailuresAreKept, IsGone}
use Rattle.array_failures.proofs.Edited.{unexpected_next}
use Rattle.array_failures.proofs.Current.{current_call, current_ends, current_resumes}

module _ (S : Setting) (P : Premises S) (ks : ℕ → Disk) (c : Control)
    (b : Between S P ks (ledger c.round) c.round.phase)
    (k : FailuresAreKept S c) (d : ℕ) where
  abbrev Unexpected : Laid → Type 0
  Unexpected m = expects S m d ≡ false

  module _ (g : IsGone S ks c d) where
    gone_fault : (e : ℕ) → IsGone S ks (put S (DiskFails e) c) d
    gone_fault e = record { failed = or_second (e == d) (has d c.round.faults) g.failed; blocks = g.blocks }

    gone_comes : (t : InTurn) (a : Change) → Comes S t c a → IsGone S ks (put S a c) d
    gone_comes t _ (begins m life rest target next) = record {
      failed = g.failed;
      blocks = record {
        of_book = unexpected_next S P c t m next b.core.hand.book (S.start.disks.serial d)
            (record { disk = d; is = refl; below = k.there d g.failed; failed = g.failed }) g.blocks.of_book;
        of_known = g.blocks.of_known;
      };
    }
    gone_comes t _ (ends m step is) =
        record { failed = g.failed; blocks = current_ends S P c Unexpected ks b m step is g.blocks.of_book }
    gone_comes t _ (fails e who may) = gone_fault e
    gone_comes t _ (resumes e taking young) =
        record { failed = g.failed; blocks = current_resumes S P c Unexpected ks b e young g.blocks }
    gone_comes t _ (begins_spare e m life rest target may is unlisted room) =
        record { failed = g.failed; blocks = g.blocks }
    gone_comes t _ (ends_spare e m step is) = record { failed = g.failed; blocks = g.blocks }
    gone_comes t _ (lapses aim m step late is) = record { failed = g.failed; blocks = g.blocks }
    gone_comes t _ (unblocks e rest blocked ended unexpected) = record { failed = g.failed; blocks = g.blocks }
    gone_comes t _ (readies v started state rest ended) = record { failed = g.failed; blocks = g.blocks }
    gone_comes t _ (pends v sound state submitted) = record { failed = g.failed; blocks = g.blocks }
    gone_comes t _ (activates v runs state rest ended dirty) = record { failed = g.failed; blocks = g.blocks }
    gone_comes t _ (again v sound state submitted) = record { failed = g.failed; blocks = g.blocks }
    gone_comes t _ (idles v who runs state none) = record { failed = g.failed; blocks = g.blocks }
    gone_comes t _ (cleans v runs state rest) = record { failed = g.failed; blocks = g.blocks }
    gone_comes t _ (client j new word move) = record { failed = g.failed; blocks = g.blocks }
    gone_comes t _ (pass v slots new word move) = record { failed = g.failed; blocks = g.blocks }
    gone_comes t _ (manages new word move) = record { failed = g.failed; blocks = g.blocks }
    gone_comes t _ (kills who awake) = record { failed = g.failed; blocks = g.blocks }
    gone_comes t _ (takes_over who life) = record { failed = g.failed; blocks = g.blocks }
    gone_comes t _ (dies taking) = record { failed = g.failed; blocks = g.blocks }

    gone_read : (e : ℕ) (left : List ℕ) (seen : List Sector) (found : List ℕ) (all : Bool)
        → IsGone S ks (put S (after_read S c e left seen found all) c) d
    gone_read e left seen found true = record { failed = g.failed; blocks = g.blocks }
    gone_read e left seen found false = record { failed = g.failed; blocks = g.blocks }

    gone_rows : (e : ℕ) (what : What) (x : Ended) (a : Change) → AtRows S c e what x a → IsGone S ks (put S a c) d
    gone_rows e _ x _ (by_client j i r need _ _ call) = record { failed = g.failed; blocks = g.blocks }
    gone_rows e _ x _ (by_pass v p need _ _ call) = record { failed = g.failed; blocks = g.blocks }
    gone_rows e _ x _ (by_monitor left seen found _ life) =
        gone_read e left (seen ++ x.got ∷ []) found (has_all S (seen ++ x.got ∷ []))

    gone_change : (t : InTurn) {call : Option Call} {x : Ended} {a : Change} → Effect S t c call x a
        → IsGone S ks (put S a c) d
    gone_change t (quiet x a comes) = gone_comes t a comes
    gone_change t (row e what x a may calls went at) = gone_rows e what x a at
    gone_change t (row_fails e what x may calls failed lost) = gone_fault e
    gone_change t (steps e m step x target went) = record { failed = g.failed; blocks = g.blocks }
    gone_change t (step_fails e m step x target failed) = gone_fault e

module _ (S : Setting) (P : Premises S) where
  -- a round ends whose block calls the disk failed
  pub gone_now : (ks : ℕ → Disk) (c : Control) → Between S P ks (ledger c.round) c.round.phase → (m : Laid)
      (step : Step) → c.round.phase ≡ Going OfRound m step [] [] true → (d : ℕ) → has d c.round.faults ≡ true
      → expects S c.round.book d ≡ false → IsGone S ks (put S (RoundEnds m) c) d
  gone_now ks c b m step is d failed none = record {
    failed = failed;
    blocks = current_ends S P c (λ n. expects S n d ≡ false) ks b m step is none;
  }

  -- through an effect
  pub gone_effect : (t : InTurn) (w : World) (call : Option Call) (x : Ended) (a : Change) → OverBase S P t w call x a
      → FailuresAreKept S w.control → (d : ℕ) → IsGone S (disks_by S w.log) w.control d
      → IsGone S (disks_by S (log_after w.log call)) (put S a w.control) d
  gone_effect t w call x a o k d g =
      gone_change S P (disks_by S (log_after w.log call)) w.control o.between k d (record {
        failed = g.failed;
        blocks = current_call S P w.control (λ m. expects S m d ≡ false) (disks_by S w.log)
            (disks_by S (log_after w.log call)) o.does o.before.goes g.blocks;
      }) t o.effect
