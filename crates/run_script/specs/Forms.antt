-- Forms of a line, and how its words are read by one: the first word that the form doesn't allow decides.
-- Source: this project's own.
use Rattle.std.specs.Prelude.{◌≡◌, ℕ, Bool, List, [], ◌∷◌, Option, Some, None, Result, Ok, Err, if◌then◌else◌}
use Rattle.std.specs.Borrow.{Bor}
use Rattle.std.specs.Str.{bytes_eq}
use Rattle.run_script.specs.declared.order.Order.{Order}
use Rattle.run_script.specs.declared.fault.LineKind.{LineKind}
use Rattle.run_script.specs.declared.fault.LineKind.TheVariants.{Word, Missing, Number, Value}
use Rattle.run_script.specs.Numbers.{number_of, value_of}

-- what a line may go on with
pub data Form : Type 0 where
  -- no more words: the line asks for this
  Ends : Order → Form
  -- this word and what follows it, or else another
  Keyword : List ℕ → Form → Form → Form
  -- a number that passes the test, and what follows it
  Numeral : (ℕ → Bool) → (ℕ → Form) → Form
  -- a value, and what follows it
  Digits : (ℕ → Form) → Form
  -- nothing: the word is wrong
  Wrong : LineKind → Form

abbrev pub passing : (ℕ → Bool) → Option ℕ → Option ℕ
passing test None = None
passing test (Some n) = if test n then Some n else None

abbrev pub or_wrong : LineKind → Option ℕ → (ℕ → Result Order LineKind) → Result Order LineKind
or_wrong kind None next = Err kind
or_wrong kind (Some n) next = next n

-- what the words ask for, or what is wrong with the first wrong one
abbrev pub reading : Form → List (List ℕ) → Result Order LineKind
reading (Ends order) [] = Ok order
reading (Ends order) (w ∷ ws) = Err Word
reading (Keyword word next other) [] = Err Missing
reading (Keyword word next other) (w ∷ ws) = if bytes_eq w word then reading next ws else reading other (w ∷ ws)
reading (Numeral test next) [] = Err Missing
reading (Numeral test next) (w ∷ ws) = or_wrong Number (passing test (number_of w)) (λ n. reading (next n) ws)
reading (Digits next) [] = Err Missing
reading (Digits next) (w ∷ ws) = or_wrong Value (value_of w) (λ x. reading (next x) ws)
reading (Wrong kind) ws = Err kind

-- A step of the reading, whatever follows: it gives what the form wants next, and leaves the words after it, or it
-- gives what is wrong.
abbrev pub Reads : {X : Type 0} → ((X → Form) → Form) → Result X LineKind → List (List ℕ) → List (List ℕ) → Type 0
Reads {X = X} form (Ok x) old new = (next : X → Form) → reading (form next) old ≡ reading (next x) new
Reads {X = X} form (Err kind) old new = (next : X → Form) → reading (form next) old ≡ Err kind

-- the next word, or that it is missing
abbrev pub ReadsWord : Result (Bor (List ℕ)) LineKind → List (List ℕ) → List (List ℕ) → Type 0
ReadsWord (Ok word) old new = old ≡ word.now ∷ new
ReadsWord (Err kind) old new = (old ≡ []) × (kind ≡ Missing)
