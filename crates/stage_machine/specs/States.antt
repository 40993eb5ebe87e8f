-- The machine's array states and what the monitor does where no round is going on. Source: the array states of the
-- kernel's md.rst, and mdmon-design.txt; the order of the monitor's rules is this project's own.
use Rattle.std.specs.Prelude.{Bool, true, false, not, List, [], ◌∷◌}
use Rattle.units.specs.declared.volume.VolNo.{VolNo}
use Rattle.array_model.specs.declared.journal.Event.{Event}
use Rattle.array_model.specs.declared.journal.Event.TheVariants.{Ready, Active, Clean, Pending}

pub data State : Type 0 where
  IsReadonly : State
  IsReadAuto : State
  IsClean : State
  IsPending : State
  IsActive : State
  IsIdle : State

abbrev pub is_readonly : State → Bool
is_readonly IsReadonly = true
is_readonly IsReadAuto = false
is_readonly IsClean = false
is_readonly IsPending = false
is_readonly IsActive = false
is_readonly IsIdle = false

abbrev pub is_pending_state : State → Bool
is_pending_state IsReadonly = false
is_pending_state IsReadAuto = false
is_pending_state IsClean = false
is_pending_state IsPending = true
is_pending_state IsActive = false
is_pending_state IsIdle = false

abbrev pub the_volume : VolNo
the_volume = record { 0 = 0 }

-- the state after a write is asked for, and what is entered
abbrev pub asked_state : State → State
asked_state IsReadonly = IsReadonly
asked_state IsReadAuto = IsPending
asked_state IsClean = IsPending
asked_state IsPending = IsPending
asked_state IsActive = IsActive
asked_state IsIdle = IsActive

abbrev pub asked_events : State → List Event
asked_events IsReadonly = []
asked_events IsReadAuto = Pending the_volume ∷ []
asked_events IsClean = Pending the_volume ∷ []
asked_events IsPending = []
asked_events IsActive = []
asked_events IsIdle = []

-- a round is due where none has ended yet, where the volume is write-pending and clean in the book, and where it is
-- read-auto or clean and dirty in the book
abbrev pub is_due : State → Bool → Bool
is_due IsReadonly dirty = false
is_due IsReadAuto dirty = dirty
is_due IsClean dirty = dirty
is_due IsPending dirty = not dirty
is_due IsActive dirty = false
is_due IsIdle dirty = false

-- the dirty bit of a round that begins
abbrev pub next_dirty : State → Bool
next_dirty IsReadonly = false
next_dirty IsReadAuto = false
next_dirty IsClean = false
next_dirty IsPending = true
next_dirty IsActive = true
next_dirty IsIdle = true

pub data Move : Type 0 where
  Nothing : Move
  Starts : Move
  Makes : (to : State) → (event : Event) → Move

abbrev pub starts_if : Bool → Move
starts_if true = Starts
starts_if false = Nothing

-- by the state, once a round has ended; `recorded` is the dirty bit of the last finished round, `dirty` the book's
abbrev pub decide_started : State → Bool → Bool → Move
decide_started IsReadonly recorded dirty = Makes IsReadAuto (Ready the_volume)
decide_started IsReadAuto recorded dirty = starts_if (is_due IsReadAuto dirty)
decide_started IsClean recorded dirty = starts_if (is_due IsClean dirty)
decide_started IsPending true dirty = Makes IsActive (Active the_volume)
decide_started IsPending false dirty = starts_if (is_due IsPending dirty)
decide_started IsActive recorded dirty = Nothing
decide_started IsIdle recorded dirty = Makes IsClean (Clean the_volume)

abbrev pub decide : Bool → State → Bool → Bool → Move
decide false state recorded dirty = Starts
decide true state recorded dirty = decide_started state recorded dirty
