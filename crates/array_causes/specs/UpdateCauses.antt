-- The causes of entries on updates and spares. Source: managemon.c and the update queue of mdadm's monitor.c, which
-- looks at updates where nothing else is to be done; that a disk becomes a spare by an ask alone is this project's own.
use Rattle.std.specs.Prelude.{⊤, ◌≡◌, ℕ, false, List, [], ◌∷◌, slice_get, Option, Some, None}
use Rattle.array_model.specs.declared.script.Ask.{Ask}
use Rattle.array_model.specs.declared.journal.Entry.{Entry}
use Rattle.array_model.specs.declared.journal.Event.{Event}
use Rattle.array_model.specs.declared.journal.Event.TheVariants.{Begin, Spare, Posted, Applied, Declined, Kill}
use Rattle.array_model.specs.Events.{AtEach}
use Rattle.array_causes.specs.Links.{AsksToAdd}
use Rattle.array_causes.specs.Failures.{is_down}
use Rattle.array_causes.specs.RoundCauses.{going_of}

-- the update that was applied last, where no round began and no spare was made since, and no kill came
abbrev pub adding_at : Option ℕ → Event → Option ℕ
adding_at adding (Applied n) = Some n
adding_at adding (Begin g) = None
adding_at adding (Spare d) = None
adding_at adding Kill = None
adding_at adding _ = adding

abbrev pub adding_from : Option ℕ → List Entry → Option ℕ
adding_from adding [] = adding
adding_from adding (e ∷ es) = adding_from (adding_at adding e.event) es

abbrev pub adding_of : List Entry → Option ℕ
adding_of journal = adding_from None journal

-- the monitor isn't killed, and no round goes on
pub record IsAtRest (front : List Entry) : Type 0 where
  pub lives : is_down front ≡ false
  pub alone : going_of front ≡ None

-- an update was applied whose spare isn't made yet, and the script asks for disk d to become one
pub record SpareCause (asks : List Ask) (front : List Entry) (d : ℕ) : Type 0 where
  pub update : ℕ
  pub applied : adding_of front ≡ Some update
  pub ask : ℕ
  pub adds : AsksToAdd d (slice_get asks ask)

-- the manager posts while the monitor isn't killed, and the monitor takes an update while nothing goes on
abbrev pub UpdateCause : List Ask → List Entry → Event → Type 0
UpdateCause asks front (Posted n) = is_down front ≡ false
UpdateCause asks front (Applied n) = IsAtRest front
UpdateCause asks front (Declined n kind) = IsAtRest front
UpdateCause asks front (Spare d) = SpareCause asks front d.0
UpdateCause asks front _ = ⊤

-- The law: each entry on an update or a spare has its cause.
abbrev pub UpdateCauses : List Ask → List Entry → Type 0
UpdateCauses asks journal = AtEach (λ front e. UpdateCause asks front e.event) journal
