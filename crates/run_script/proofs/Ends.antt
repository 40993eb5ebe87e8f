-- What holds of every order that a form ends in holds of what is read by it.
use Rattle.std.proofs.Common.{◌≡◌, ◌<◌, ℕ, List, [], ◌∷◌, Bool, true, false, arith, refl, subst, Some, None, Option, Ok, Err, Result}
use Rattle.std.specs.Prelude.{nat_lt, if◌then◌else◌, ⊤}
use Rattle.std.specs.Str.{bytes_eq}
use Rattle.std.proofs.lemmas.Bool.Decides.{nat_tests}
use Rattle.units.specs.declared.bounds.TheConstants.{MAX_VOLUMES}
use Rattle.run_script.specs.declared.order.Order.{Order}
use Rattle.run_script.specs.declared.order.Order.TheVariants.{Operation, Turns, ClientTurns}
use Rattle.run_script.specs.declared.fault.LineKind.{LineKind}
use Rattle.run_script.specs.Forms.{Form, Ends, Keyword, Numeral, Digits, Wrong, or_wrong, passing, reading}
use Rattle.run_script.specs.Grammar.{asked_by, client_form, turn_form, if_read, is_skipped, line_form, words_of}
use Rattle.run_script.specs.Numbers.{number_of, value_of}
use Rattle.run_script.specs.Within.{IsTurn, NamesRow}

abbrev pub EndsIn : (Order → Type 0) → Form → Type 0
EndsIn P (Ends order) = P order
EndsIn P (Keyword word next other) = EndsIn P next × EndsIn P other
EndsIn P (Numeral test next) = (n : ℕ) → test n ≡ true → EndsIn P (next n)
EndsIn P (Digits next) = (x : ℕ) → EndsIn P (next x)
EndsIn P (Wrong kind) = ⊤

no_order : {Q : Type 0} (kind : LineKind) (order : Order) → Err kind ≡ Ok order → Q
no_order kind order is = absurd (cc)

either : {Q : Type 0} (b : Bool) (one other : Result Order LineKind) (order : Order) → (if b then one else other) ≡ Ok order
    → (one ≡ Ok order → Q) → (other ≡ Ok order → Q) → Q
either true one other order is first second = first is
either false one other order is first second = second is

passed : (P : Order → Type 0) (test : ℕ → Bool) (found : Option ℕ) (kind : LineKind) (next : ℕ → Result Order LineKind) (order : Order)
    → or_wrong kind (passing test found) next ≡ Ok order → ((n : ℕ) → test n ≡ true → next n ≡ Ok order → P order) → P order
passed P test None kind next order is each = no_order kind order is
passed P test (Some n) kind next order is each = at (test n) refl is where
  at : (b : Bool) → test n ≡ b → or_wrong kind (if b then Some n else None) next ≡ Ok order → P order
  at true passes read = each n passes read
  at false fails read = no_order kind order read

spelled : (P : Order → Type 0) (found : Option ℕ) (kind : LineKind) (next : ℕ → Result Order LineKind) (order : Order)
    → or_wrong kind found next ≡ Ok order → ((x : ℕ) → next x ≡ Ok order → P order) → P order
spelled P None kind next order is each = no_order kind order is
spelled P (Some x) kind next order is each = each x is

pub read_ends : (P : Order → Type 0) (form : Form) (words : List (List ℕ)) (order : Order) → EndsIn P form → reading form words ≡ Ok order → P order
read_ends P (Ends end) [] order ends is = let same : end ≡ order = cc in subst P same ends
read_ends P (Ends end) (w ∷ ws) order ends is = no_order _ order is
read_ends P (Keyword word next other) [] order ends is = no_order _ order is
read_ends P (Keyword word next other) (w ∷ ws) order ends is =
    either (bytes_eq w word) (reading next ws) (reading other (w ∷ ws)) order is
    (λ read. read_ends P next ws order ends.0 read) (λ read. read_ends P other (w ∷ ws) order ends.1 read)
read_ends P (Numeral test next) [] order ends is = no_order _ order is
read_ends P (Numeral test next) (w ∷ ws) order ends is =
    passed P test (number_of w) _ (λ n. reading (next n) ws) order is (λ n yes read. read_ends P (next n) ws order (ends n yes) read)
read_ends P (Digits next) [] order ends is = no_order _ order is
read_ends P (Digits next) (w ∷ ws) order ends is =
    spelled P (value_of w) _ (λ x. reading (next x) ws) order is (λ x read. read_ends P (next x) ws order (ends x) read)
read_ends P (Wrong kind) words order ends is = no_order kind order is

-- an order of the grammar names a volume that there may be
abbrev pub IsOrder : Order → Type 0
IsOrder (Operation client kind) = NamesRow kind
IsOrder (Turns turn count) = IsTurn turn
IsOrder (ClientTurns client count) = ⊤

is_volume : (n : ℕ) → nat_lt n MAX_VOLUMES ≡ true → n < MAX_VOLUMES
is_volume n low = grind (arith, nat_tests)

client_ends : EndsIn IsOrder client_form
client_ends client any = (λ v low sector free value. is_volume v low, (λ v low sector free. is_volume v low, tt))

turn_ends : EndsIn IsOrder turn_form
turn_ends = (
  λ n some. tt,
  (
    λ n some. tt,
    (
      λ v low n some. is_volume v low,
      (
        λ client any n some. tt,
        (
          λ v low. is_volume v low,
          tt,
        ),
      ),
    ),
  ),
)

line_ends : (turns : Bool) → EndsIn IsOrder (line_form turns)
line_ends true = (client_ends, (turn_ends, tt))
line_ends false = (client_ends, (tt, tt))

pub asked_order : (turns : Bool) (line : List ℕ) (order : Order) → asked_by turns line ≡ Ok (Some order) → IsOrder order
asked_order turns line order is = at (is_skipped line) (reading (line_form turns) (words_of line)) (read_ends IsOrder (line_form turns) (words_of line) order (line_ends turns)) is where
  at : (b : Bool) (read : Result Order LineKind) → (read ≡ Ok order → IsOrder order) → (if b then Ok None else if_read read) ≡ Ok (Some order) → IsOrder order
  at true read each asked = absurd (cc)
  at false (Ok found) each asked = each (cc)
  at false (Err kind) each asked = absurd (cc)
