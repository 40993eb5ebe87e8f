-- The lines of a script. Source: this project's own.
use Rattle.std.specs.Prelude.{ℕ, ◌==◌, nat_lt, not, Bool, true, List, [], ◌∷◌, codes, Option, Some, None, Result, Ok, Err, if◌then◌else◌}
use Rattle.std.specs.List.{slice_split}
use Rattle.units.specs.declared.bounds.TheConstants.{MAX_VOLUMES}
use Rattle.units.specs.declared.volume.VolNo.{VolNo}
use Rattle.array_model.specs.declared.script.OpKind.TheVariants.{Write, Read}
use Rattle.array_model.specs.declared.script.Turn.{Turn}
use Rattle.array_model.specs.declared.script.Turn.TheVariants.{Monitor, Manager, Sync, Quiet}
use Rattle.run_script.specs.declared.order.Order.{Order}
use Rattle.run_script.specs.declared.order.Order.TheVariants.{Operation, Turns, ClientTurns}
use Rattle.run_script.specs.declared.fault.LineKind.{LineKind}
use Rattle.run_script.specs.declared.fault.LineKind.TheVariants as kinds
use Rattle.run_script.specs.Forms.{Form, Ends, Keyword, Numeral, Digits, Wrong, reading}

-- a number, without any bound but that of 64 bits: a client, a sector
abbrev pub number : (ℕ → Form) → Form
number next = Numeral (λ n. true) next

-- the number of a volume, 0 or 1
abbrev pub volume : (VolNo → Form) → Form
volume next = Numeral (λ n. nat_lt n MAX_VOLUMES) (λ n. next (record { 0 = n }))

-- how many times, at least once
abbrev pub count : (ℕ → Form) → Form
count next = Numeral (λ n. not (n == 0)) next

abbrev pub write_form : ℕ → Form
write_form client = volume (λ v. number (λ sector. Digits (λ value. Ends (Operation client (Write v sector value)))))

abbrev pub read_form : ℕ → Form
read_form client = volume (λ v. number (λ sector. Ends (Operation client (Read v sector))))

abbrev pub operation_form : ℕ → Form
operation_form client =
    Keyword (codes "write") (write_form client) (
    Keyword (codes "read") (read_form client) (
    Wrong kinds.Word))

-- client C write V S X, client C read V S
abbrev pub client_form : Form
client_form = number (λ client. operation_form client)

abbrev pub turns_form : Turn → Form
turns_form turn = count (λ n. Ends (Turns turn n))

abbrev pub sync_form : Form
sync_form = volume (λ v. turns_form (Sync v))

abbrev pub client_turns_form : Form
client_turns_form = number (λ client. count (λ n. Ends (ClientTurns client n)))

abbrev pub quiet_form : Form
quiet_form = volume (λ v. Ends (Turns (Quiet v) 1))

-- turn m N, turn g N, turn s V N, turn c C N, turn q V
abbrev pub turn_form : Form
turn_form =
    Keyword (codes "m") (turns_form Monitor) (
    Keyword (codes "g") (turns_form Manager) (
    Keyword (codes "s") sync_form (
    Keyword (codes "c") client_turns_form (
    Keyword (codes "q") quiet_form (
    Wrong kinds.Word)))))

-- a line, where turns are taken or not
abbrev pub line_form : Bool → Form
line_form turns =
    Keyword (codes "client") client_form (
    Keyword (codes "turn") (if turns then turn_form else Wrong kinds.Turns) (
    Wrong kinds.Word))

-- the lines of a text end with a line feed, and words are split by one space
abbrev pub lines_of : List ℕ → List (List ℕ)
lines_of text = slice_split (λ c. c == 0x0a) text

abbrev pub words_of : List ℕ → List (List ℕ)
words_of line = slice_split (λ c. c == 0x20) line

-- an empty line and one that begins with # ask for nothing
abbrev pub is_skipped : List ℕ → Bool
is_skipped [] = true
is_skipped (c ∷ cs) = c == 0x23

abbrev pub if_read : Result Order LineKind → Result (Option Order) LineKind
if_read (Ok order) = Ok (Some order)
if_read (Err kind) = Err kind

-- what a line asks for, if anything, or what is wrong with its first wrong word
abbrev pub asked_by : Bool → List ℕ → Result (Option Order) LineKind
asked_by turns line = if is_skipped line then Ok None else if_read (reading (line_form turns) (words_of line))
