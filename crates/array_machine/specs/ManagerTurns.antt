-- Turns of the manager, which posts updates and takes their boxes back; and the monitor's turn by its life.
-- Source: manage_member, add_disk_to_container and handle_message of mdadm's managemon.c, and imsm_activate_spare of
-- super-intel.c; that a spare is activated alone, for the least failed index, is this project's own.
use Rattle.std.specs.Prelude.{ℕ, zero, suc, ◌+◌, ◌&&◌, not, nat_lt, nat_le, min, Bool, true, false, List, [], ◌∷◌, ◌++◌, filter, map, flat_map, length, Option, Some, None, if◌then◌else◌}
use Rattle.array_model.specs.Blocks.{Laid, SlotWords}
use Rattle.array_machine.specs.Numbers.{first_of}
use Rattle.array_machine.specs.Setting.{Setting}
use Rattle.array_machine.specs.Volumes.{Volume}
use Rattle.array_machine.specs.Rounds.{Ended, Life, Lives, Takes, all_disks}
use Rattle.array_machine.specs.Managers.{AskState, IsUnposted, IsPosted, Want, OfAsk, OfSpareDisk, Update, Manager}
use Rattle.array_machine.specs.Control.{Control}
use Rattle.array_machine.specs.Changes.{SaysNothing, Posts, Change, ManagerMoves}
use Rattle.array_machine.specs.Turns.{Turn, idle, quietly}
use Rattle.array_machine.specs.EditFacts.{is_sound}
use Rattle.array_machine.specs.Updates.{is_free, need_for}
use Rattle.array_machine.specs.MonitorTurns.{volumes_where, monitor_at}
use Rattle.array_machine.specs.TakeoverTurns.{taking}
use Rattle.array_machine.specs.Puts.{set_ask}

-- WHICH SPARE IS ACTIVATED

-- the indices of a volume's slots whose records aren't expected
abbrev pub failed_indices : List SlotWords → List ℕ
failed_indices slots = map (λ w. w.index) (filter (λ w. not w.is_expected) slots)

abbrev pub least_of : List ℕ → Option ℕ
least_of [] = None
least_of (i ∷ is) = Some (least_with i is)
  where
    least_with : ℕ → List ℕ → ℕ
    least_with i [] = i
    least_with i (j ∷ js) = least_with (min i j) js

-- the least failed index that a sound volume has in a slot
abbrev pub least_failed : Setting → Laid → List Volume → Option ℕ
least_failed S book volumes =
    least_of (flat_map (λ v. failed_indices (S.start.words.slots book v)) (volumes_where (λ v x. is_sound x) volumes))

-- the least spare with so many sectors
abbrev pub spare_for : Setting → Control → ℕ → Option ℕ
spare_for S c need =
    first_of (filter (λ d. is_free S c d && nat_le need (S.start.disks.sectors d)) (all_disks S))

abbrev pub activation_by : Option ℕ → ℕ → Option Want
activation_by None i = None
activation_by (Some d) i = Some (OfSpareDisk d i)

abbrev pub activation_at : Setting → Control → (room : Bool) → Option ℕ → Option Want
activation_at S c true (Some i) = activation_by (spare_for S c (need_for S c.round.book i 0 c.volumes)) i
activation_at S c _ _ = None

-- the activation that is due: for the least failed index alone, where a spare is large enough and the book has room
abbrev pub activation : Setting → Control → Option Want
activation S c =
    activation_at S c (S.start.words.has_room c.round.book && not (S.tests.is_full c.round.book))
    (least_failed S c.round.book c.volumes)

-- A TURN

-- the first ask that isn't posted, of those from number i on
abbrev pub first_unposted : ℕ → List AskState → Option ℕ
first_unposted i [] = None
first_unposted i (IsUnposted ∷ more) = Some i
first_unposted i (_ ∷ more) = first_unposted (i + 1) more

-- At most four updates are on their way. An activation comes where no ask is left to post, and alone.
abbrev pub to_post : Setting → Control → Option ℕ → List Update → Option Want
to_post S c (Some i) queue = if nat_lt (length queue) 4 then Some (OfAsk i) else None
to_post S c None (u ∷ us) = None
to_post S c None [] = activation S c

-- an update goes on its way, with the next number and the generation of the book that it was prepared over
abbrev pub posted_with : Setting → Control → Want → Manager
posted_with S c want =
    let m = c.manager in
    record m {
      asks = set_ask m.asks want IsPosted;
      queue = m.queue
          ++ record { number = m.posted; seen = S.start.words.generation c.round.book.anchor; want = want } ∷ [];
      posted = m.posted + 1;
    }

abbrev pub posts : Setting → Control → Option Want → List Change
posts S c None = []
posts S c (Some want) = ManagerMoves (posted_with S c want) (Posts c.manager.posted) ∷ []

-- by the boxes given back: one is taken back, of which nothing is said; where there is none, an update is posted
abbrev pub manages_by : Setting → Control → (returned : ℕ) → List Change
manages_by S c zero = posts S c (to_post S c (first_unposted 0 c.manager.asks) c.manager.queue)
manages_by S c (suc n) = ManagerMoves (record c.manager { returned = n }) SaysNothing ∷ []

-- the manager's turn: it waits while the monitor doesn't live
abbrev pub managing : Setting → Control → (lives : Bool) → Turn
managing S c true = quietly (manages_by S c c.manager.returned)
managing S c false = idle

-- the monitor's turn
abbrev pub living : Setting → Control → Ended → Life → Turn
living S c x Lives = monitor_at S c x c.round.phase
living S c x (Takes left seen found) = taking S c x left seen found
living S c x _ = idle
