-- What a text asks for, and the first line of it that is wrong. Source: this project's own.
use Rattle.std.specs.Prelude.{◌≡◌, ℕ, ◌+◌, ◌<◌, Bool, List, [], ◌∷◌, ◌++◌, take, replicate, Option, Some, None, slice_get, Result, Ok, Err, ⊤}
use Rattle.std.specs.List.{filter_map, flat_map}
use Rattle.array_model.specs.Kept.{ScriptState}
use Rattle.array_model.specs.declared.script.Op.{Op}
use Rattle.array_model.specs.declared.script.Turn.{Turn}
use Rattle.array_model.specs.declared.script.Turn.TheVariants as turn
use Rattle.run_script.specs.declared.order.Order.{Order}
use Rattle.run_script.specs.declared.order.Order.TheVariants.{Operation, Turns, ClientTurns}
use Rattle.run_script.specs.declared.fault.LineKind.{LineKind}
use Rattle.run_script.specs.declared.fault.ScriptFault.{ScriptFault}
use Rattle.run_script.specs.declared.fault.ScriptFault.TheVariants.{Memory, Line, Limit}
use Rattle.run_script.specs.Grammar.{asked_by}
use Rattle.run_script.specs.Limits.{limit_of}

-- the operation and the turns that an order is
abbrev pub operation_of : Order → Option Op
operation_of (Operation c k) = Some (record { client = c; kind = k })
operation_of (Turns turn count) = None
operation_of (ClientTurns client count) = None

abbrev pub turns_of : Order → List Turn
turns_of (Operation client kind) = []
turns_of (Turns turn count) = replicate count turn
turns_of (ClientTurns client count) = replicate count (turn.Client client)

-- the script that orders make, one after the other
abbrev pub script_of : List Order → ScriptState
script_of orders = record { ops = filter_map operation_of orders; asks = []; turns = flat_map turns_of orders }

abbrev pub order_in : Result (Option Order) LineKind → Option Order
order_in (Ok asked) = asked
order_in (Err kind) = None

-- the orders of lines, each in its place
abbrev pub orders_in : Bool → List (List ℕ) → List Order
orders_in turns lines = filter_map (λ line. order_in (asked_by turns line)) lines

-- what is wrong with a line of this number, behind a script: its first wrong word, and else the limit that it passes
abbrev pub wrong_with : ScriptState → ℕ → Result (Option Order) LineKind → Option ScriptFault
wrong_with before number (Err kind) = Some (Line number kind)
wrong_with before number (Ok None) = None
wrong_with before number (Ok (Some order)) = limit_of before order

abbrev pub wrong_in : Bool → List (List ℕ) → ℕ → Option (List ℕ) → Option ScriptFault
wrong_in turns lines k None = None
wrong_in turns lines k (Some line) =
    wrong_with (script_of (orders_in turns (take k lines))) (k + 1) (asked_by turns line)

-- what is wrong with line k, counted from 0
abbrev pub wrong_at : Bool → List (List ℕ) → ℕ → Option ScriptFault
wrong_at turns lines k = wrong_in turns lines k (slice_get lines k)

-- nothing is wrong with the first lines
abbrev pub AreRight : Bool → List (List ℕ) → ℕ → Type 0
AreRight turns lines count = (k : ℕ) → k < count → wrong_at turns lines k ≡ None

-- some line is the first with which something is wrong, and this is
pub record IsFirstWrong (turns : Bool) (lines : List (List ℕ)) (fault : ScriptFault) : Type 0 where
  pub line : ℕ
  pub wrong : wrong_at turns lines line ≡ Some fault
  pub right : AreRight turns lines line

-- the cause of a fault; want of memory has none
abbrev pub IsCause : Bool → List (List ℕ) → ScriptFault → Type 0
IsCause turns lines Memory = ⊤
IsCause turns lines (Line number kind) = IsFirstWrong turns lines (Line number kind)
IsCause turns lines (Limit kind number) = IsFirstWrong turns lines (Limit kind number)

-- a script with one more order
abbrev pub with_order : ScriptState → Order → ScriptState
with_order s (Operation c k) = record s { ops = s.ops ++ record { client = c; kind = k } ∷ [] }
with_order s (Turns turn count) = record s { turns = s.turns ++ replicate count turn }
with_order s (ClientTurns client count) = record s { turns = s.turns ++ replicate count (turn.Client client) }

-- a script with what one more line asks for
abbrev pub with_line : ScriptState → Result (Option Order) LineKind → ScriptState
with_line s (Err kind) = s
with_line s (Ok None) = s
with_line s (Ok (Some order)) = with_order s order
