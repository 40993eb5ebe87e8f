-- Whose call at rows it is, and what comes of it: one of a client's job, of a pass, or of the monitor that reads after
-- a kill. Source: this project's own.
use Rattle.std.specs.Prelude.{◌≡◌, ℕ, Bool, true, false, List, [], ◌∷◌, ◌++◌, Some}
use Rattle.units.specs.declared.disk.Sector.{Sector}
use Rattle.device_log.specs.Log.{What, Read}
use Rattle.array_machine.specs.Setting.{Setting}
use Rattle.array_machine.specs.Volumes.{Pass}
use Rattle.array_machine.specs.Clients.{Row}
use Rattle.array_machine.specs.RowJobs.{Need}
use Rattle.array_machine.specs.Rounds.{Ended, Takes}
use Rattle.array_machine.specs.Control.{Control}
use Rattle.array_machine.specs.Changes.{Change, PassMoves, GoesOnQuietly, TakeoverReads}
use Rattle.array_machine.specs.TakeoverTurns.{read_place, has_all, found_with}
use Rattle.array_paths.specs.ClientMove.{ClientCall, client_went}
use Rattle.array_paths.specs.PassMove.{slots_of, PassCall, pass_after}

-- what is read of disk d, the first of those left: more of its sectors, or the last one of its block
abbrev pub after_read : Setting → Control → (d : ℕ) → (left : List ℕ) → (seen : List Sector) → (found : List ℕ) → Bool
    → Change
after_read S c d left seen found false = TakeoverReads (d ∷ left) seen found
after_read S c d left seen found true = TakeoverReads left [] (found_with S c.round d seen found)

-- it went through
pub data AtRows (S : Setting) (c : Control) (d : ℕ) : What → Ended → Change → Type 0 where
  by_client : (k i : ℕ) (r : Row) (need : Need) (what : What) (x : Ended) → ClientCall S c k d i r need what 1
      → AtRows S c d what x (client_went S c k i r need x)
  by_pass : (v : ℕ) (p : Pass) (need : Need) (what : What) (x : Ended) → PassCall S c v d p need what 1
      → AtRows S c d what x (PassMoves v (slots_of c v) (Some (pass_after S c v p need x)) GoesOnQuietly)
  by_monitor : (left : List ℕ) (seen : List Sector) (found : List ℕ) (x : Ended)
      → c.round.life ≡ Takes (d ∷ left) seen found
      → AtRows S c d (Read (read_place S d seen)) x
      (after_read S c d left (seen ++ x.got ∷ []) found (has_all S (seen ++ x.got ∷ [])))

-- it failed, and a write stored so many of its sectors
pub data LostAtRows (S : Setting) (c : Control) (d : ℕ) : What → Type 0 where
  of_client : (k i : ℕ) (r : Row) (need : Need) (what : What) (stored : ℕ) → ClientCall S c k d i r need what stored
      → LostAtRows S c d what
  of_pass : (v : ℕ) (p : Pass) (need : Need) (what : What) (stored : ℕ) → PassCall S c v d p need what stored
      → LostAtRows S c d what
  of_monitor : (left : List ℕ) (seen : List Sector) (found : List ℕ) → c.round.life ≡ Takes (d ∷ left) seen found
      → LostAtRows S c d (Read (read_place S d seen))
