-- A turn of the monitor is a path: while it lives, and while it reads after a kill.
use Rattle.std.proofs.Common.{◌≡◌, ℕ, ◌+◌, nat_le, Bool, true, false, cond, List, [], ◌∷◌, ◌++◌, refl, sym, subst, Some, None}
use Rattle.units.specs.declared.disk.Sector.{Sector}
use Rattle.device_log.specs.Log.{Read}
use Rattle.array_model.specs.Renewal.{FitsGeneration}
use Rattle.array_disks.specs.Calls.{call_on, row_read}
use Rattle.array_machine.specs.Setting.{Setting}
use Rattle.array_machine.specs.Rounds.{Ended, Life, Lives, Killed, Takes, Dead}
use Rattle.array_machine.specs.Control.{Control}
use Rattle.array_machine.specs.Changes.{Change, DiskFails, TakeoverReads}
use Rattle.array_machine.specs.Puts.{put}
use Rattle.array_machine.specs.Turns.{no_call, calling}
use Rattle.array_machine.specs.TakeoverTurns.{given_generation, best_of, resume_if, resumes, resumes_now, and_resumed, read_place, has_all, found_with, read_changes, taking}
use Rattle.array_machine.specs.ManagerTurns.{living}
use Rattle.array_paths.specs.InTurn.{InTurn}
use Rattle.array_paths.specs.Comes.{MayFail, IsTaking, resumes as resumes_from, dies}
use Rattle.array_paths.specs.AtRows.{after_read, AtRows, by_monitor, of_monitor}
use Rattle.array_paths.specs.Effects.{row, row_fails, Path, ends_here, goes_on}
use Rattle.array_paths.specs.Ready.{Ready}
use Rattle.array_paths.proofs.Tests.{PathOf, call_path}
use Rattle.array_paths.proofs.RoundPaths.{lone}
use Rattle.array_paths.proofs.MonitorPaths.{monitor_path}

-- WHAT COMES OF WHAT WAS READ

-- the block of the best of the disks found isn't below the last finished round's
abbrev is_best_new : Setting → Control → ℕ → List ℕ → Bool
is_best_new S c d ds =
    let best = given_generation S c.round (best_of S c.round d ds) in
    nat_le (S.start.words.generation c.round.last.anchor) best

-- what the monitor makes of the disks that it found
pub resumes_path : (S : Setting) (t : InTurn) (x : Ended) (c : Control) → IsTaking c.round.life → (found : List ℕ)
    → Path S t c None x (resumes S c.round found)
resumes_path S t x c takes [] = lone S t c x _ (dies takes)
resumes_path S t x c takes (d ∷ ds) = at (is_best_new S c d ds) refl
  where
    at : (b : Bool) → is_best_new S c d ds ≡ b → Path S t c None x (resume_if (best_of S c.round d ds) b ∷ [])
    at true is = lone S t c x _ (resumes_from (best_of S c.round d ds) takes is)
    at false is = lone S t c x _ (dies takes)

-- the end of a takeover that has no disk left to read
pub resumed_path : (S : Setting) (t : InTurn) (x : Ended) (c : Control) (life : Life) → c.round.life ≡ life
    → Path S t c None x (resumes_now S c.round life)
resumed_path S t x c Lives is = ends_here x
resumed_path S t x c Killed is = ends_here x
resumed_path S t x c (Takes [] seen found) is = resumes_path S t x c (subst IsTaking (sym is) tt) found
resumed_path S t x c (Takes (d ∷ ds) seen found) is = ends_here x
resumed_path S t x c Dead is = ends_here x

-- READS

module _ (S : Setting) (t : InTurn) (x : Ended) (d : ℕ) (left : List ℕ) (seen : List Sector) (found : List ℕ)
    (is : t.before.round.life ≡ Takes (d ∷ left) seen found) (may : MayFail S t.before d) where
  -- what was read of the disk by now
  abbrev more : List Sector
  more = seen ++ x.got ∷ []

  -- the changes where that was all of its block, or not all
  abbrev read_by : Bool → List Change
  read_by b =
      cond b (and_resumed S t.before (TakeoverReads left [] (found_with S t.before.round d more found)))
      (TakeoverReads (d ∷ left) more found ∷ [])

  read_path : (went : Bool) → x.went ≡ went
      → Path S t t.before (Some (call_on d (Read (read_place S d seen)) went)) x
      (read_changes S t.before went d left more found)
  read_path true went = at (has_all S more) (by_monitor left seen found x is)
    where
      at : (b : Bool)
          → AtRows S t.before d (Read (read_place S d seen)) x (after_read S t.before d left more found b)
          → Path S t t.before (Some (call_on d (Read (read_place S d seen)) true)) x (read_by b)
      at true rows = goes_on (row d _ x _ may (row_read _) went rows) (resumed_path S t x _ _ refl)
      at false rows = goes_on (row d _ x _ may (row_read _) went rows) (ends_here x)
  read_path false went =
      goes_on (row_fails d _ x may (row_read _) went (of_monitor left seen found is))
      (resumed_path S t x (put S (DiskFails d) t.before) _ refl)

-- the monitor's turn while it reads after a kill
pub taking_path : (S : Setting) (t : InTurn) (x : Ended) (left : List ℕ) (seen : List Sector) (found : List ℕ)
    → t.before.round.life ≡ Takes left seen found → PathOf S t t.before (taking S t.before x left seen found)
taking_path S t x [] seen found is = resumes_path S t no_call t.before (subst IsTaking (sym is) tt) found
taking_path S t x (d ∷ left) seen found is =
    call_path S t t.before d
    (calling d (Read (read_place S d seen)) x (read_changes S t.before x.went d left (seen ++ x.got ∷ []) found))
    (λ may. read_path S t x d left seen found is may x.went refl)

-- the monitor's turn
pub living_path : (S : Setting) (t : InTurn) → Ready S t.before → FitsGeneration (t.before.round.note + 1)
    → (x : Ended) (life : Life) → t.before.round.life ≡ life → PathOf S t t.before (living S t.before x life)
living_path S t ready fits x Lives is = monitor_path S t ready fits is x t.before.round.phase refl
living_path S t ready fits x Killed is = ends_here no_call
living_path S t ready fits x (Takes left seen found) is = taking_path S t x left seen found is
living_path S t ready fits x Dead is = ends_here no_call
