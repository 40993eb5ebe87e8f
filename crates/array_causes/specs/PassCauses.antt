-- The causes of entries on passes: where in a turn they stand. Source: the order of imsm_set_array_state and
-- imsm_process_update of super-intel.c and of mdadm's monitor.c; that an activation takes effect at the end of its
-- round is this project's own.
use Rattle.std.specs.Prelude.{⊤, ◌≡◌, ℕ, List, ◌⊎◌}
use Rattle.array_model.specs.declared.journal.Entry.{Entry}
use Rattle.array_model.specs.declared.journal.Event.{Event}
use Rattle.array_model.specs.declared.journal.Event.TheVariants.{Ready, Pass, Point, PassEnd}
use Rattle.array_model.specs.Events.{AtEach}
use Rattle.array_causes.specs.Before.{IsRightBehind, IsBehindEnd}

-- A pass opens from row 0 behind the end of a round, or right behind its volume's ready. That a checkpoint or the end
-- of a pass is recorded is said behind the end of the round that records it.
abbrev pub PassCause : List Entry → (stamp : ℕ) → Event → Type 0
PassCause front stamp (Pass v row) =
    ((row ≡ 0) × IsBehindEnd front stamp) ⊎ IsRightBehind front stamp (Ready v)
PassCause front stamp (Point v unit) = IsBehindEnd front stamp
PassCause front stamp (PassEnd v) = IsBehindEnd front stamp
PassCause front stamp _ = ⊤

-- The law: each entry on a pass stands in the turn of its cause.
abbrev pub PassCauses : List Entry → Type 0
PassCauses journal = AtEach (λ front e. PassCause front e.stamp e.event) journal
