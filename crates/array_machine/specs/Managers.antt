-- The manager, and the updates that are on their way from it to the monitor. Source: mdadm's managemon.c and the update
-- queue of monitor.c; that at most four are on their way is this project's own.
use Rattle.std.specs.Prelude.{ℕ, List, Option}

-- where an ask of the script stands
pub data AskState : Type 0 where
  IsUnposted : AskState
  IsPosted : AskState
  IsApplied : AskState
  IsSettled : AskState

-- what an update is of: an ask, or a spare that takes the place of a failed index
pub data Want : Type 0 where
  OfAsk : (i : ℕ) → Want
  OfSpareDisk : (disk index : ℕ) → Want

-- an update on its way: its number, the generation of the book that it was prepared over, and what it is of
pub record Update : Type 0 where
  pub number : ℕ
  pub seen : ℕ
  pub want : Want

-- The asks; the updates on their way, four at most, of which the monitor has the first in hand; the boxes that it gave
-- back; how many numbers were posted; the generation of the book after the last update applied; the spares.
pub record Manager : Type 0 where
  pub asks : List AskState
  pub queue : List Update
  pub returned : ℕ
  pub posted : ℕ
  pub applied : Option ℕ
  pub spares : List ℕ
