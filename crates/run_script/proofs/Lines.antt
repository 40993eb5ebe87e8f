-- One more line of a text.
use Rattle.std.proofs.Common.{◌≡◌, ◌<◌, ◌≤◌, ◌+◌, ℕ, suc, List, [], ◌∷◌, ◌++◌, length, take, drop, get_or, refl, sym, ◌∙◌, ap, arith, add-one, drop-cons, Some, None, Option, Ok, Err, Result, ◌⊎◌, inl, inr, Bool}
use Rattle.std.specs.Prelude.{◌==◌, slice_get, replicate}
use Rattle.std.specs.List.{filter_map, flat_map, cons_option}
use Rattle.std.proofs.lemmas.Grind.{flat_map-append}
use Rattle.std.proofs.lemmas.List.{append-nil, take_more}
use Rattle.std.proofs.lemmas.List.Splits.{length-slice_split}
use Rattle.std.proofs.lemmas.List.Sums.{count_by-le-length}
use Rattle.std.proofs.lemmas.List.Elements.{filter_map-append}
use Rattle.std.proofs.lemmas.Option.{slice_get-get_or}
use Rattle.array_model.specs.Kept.{ScriptState}
use Rattle.array_model.specs.declared.script.Turn.TheVariants as turn
use Rattle.run_script.specs.declared.order.Order.{Order}
use Rattle.run_script.specs.declared.order.Order.TheVariants.{Operation, Turns, ClientTurns}
use Rattle.run_script.specs.declared.fault.LineKind.{LineKind}
use Rattle.run_script.specs.declared.fault.ScriptFault.{ScriptFault}
use Rattle.run_script.specs.declared.fault.ScriptFault.TheVariants.{Memory, Line, Limit}
use Rattle.run_script.specs.Grammar.{asked_by, lines_of}
use Rattle.run_script.specs.Limits.{Refuses}
use Rattle.run_script.specs.Scripts.{AreRight, IsCause, operation_of, order_in, orders_in, script_of, turns_of, with_line, with_order, wrong_at, wrong_in, wrong_with}

-- there is one line more than line feeds
pub few_lines : (text : List ℕ) → length (lines_of text) ≤ length text + 1
few_lines text = omega (arith, length-slice_split (λ (c : ℕ). c == 0x0a) text, count_by-le-length (λ (c : ℕ). c == 0x0a) text)

one_shorter : (old : List (List ℕ)) (line : List ℕ) (rest : List (List ℕ)) → old ≡ line ∷ rest → length old ≡ length rest + 1
one_shorter old line rest is = rw is (sym (add-one (length rest)))

-- the next line, where it stands, and what is left behind it
pub record Next (lines : List (List ℕ)) (n : ℕ) (line : List ℕ) (rest : List (List ℕ)) : Type 0 where
  pub at : slice_get lines n ≡ Some line
  pub front : take (n + 1) lines ≡ take n lines ++ line ∷ []
  pub left : rest ≡ drop (n + 1) lines
  pub count : n + 1 + length rest ≡ length lines

pub next_line : (lines : List (List ℕ)) (n : ℕ) (old : List (List ℕ)) (line : List ℕ) (rest : List (List ℕ))
    → n + length old ≡ length lines → old ≡ drop n lines → old ≡ line ∷ rest → Next lines n line rest
next_line lines n old line rest count left taken =
    let shorter : length old ≡ length rest + 1 = one_shorter old line rest taken in
    let within : n < length lines = omega (arith, shorter, count) in
    let cut : get_or lines n [] ∷ drop (suc n) lines ≡ line ∷ rest = sym (drop-cons lines n [] within) ∙ sym left ∙ taken in
    let here : get_or lines n [] ≡ line = cc in
    let behind : drop (suc n) lines ≡ rest = cc in
    record {
      at = slice_get-get_or lines n [] within ∙ ap (λ (l : List ℕ). Some l) here;
      front = take_more lines n [] within ∙ ap (λ (l : List ℕ). take n lines ++ l ∷ []) here;
      left = sym (ap (λ (k : ℕ). drop k lines) (add-one n) ∙ behind);
      count = omega (arith, shorter, count);
    }

one_order : (orders : List Order) (order : Order) → script_of (orders ++ order ∷ []) ≡ with_order (script_of orders) order
one_order orders (Operation c k) =
    rw (filter_map-append operation_of orders (Operation c k ∷ []), flat_map-append turns_of orders (Operation c k ∷ []), append-nil (flat_map turns_of orders)) refl
one_order orders (Turns t n) =
    rw (filter_map-append operation_of orders (Turns t n ∷ []), flat_map-append turns_of orders (Turns t n ∷ []), append-nil (filter_map operation_of orders), append-nil (replicate n t)) refl
one_order orders (ClientTurns c n) =
    rw (filter_map-append operation_of orders (ClientTurns c n ∷ []), flat_map-append turns_of orders (ClientTurns c n ∷ []), append-nil (filter_map operation_of orders), append-nil (replicate n (turn.Client c))) refl

more_orders : (orders : List Order) (asked : Result (Option Order) LineKind)
    → script_of (orders ++ cons_option (order_in asked) []) ≡ with_line (script_of orders) asked
more_orders orders (Err kind) = rw (append-nil orders) refl
more_orders orders (Ok None) = rw (append-nil orders) refl
more_orders orders (Ok (Some order)) = one_order orders order

-- the script that the lines make, with one more
pub script_more : (turns : Bool) (front : List (List ℕ)) (line : List ℕ)
    → script_of (orders_in turns (front ++ line ∷ [])) ≡ with_line (script_of (orders_in turns front)) (asked_by turns line)
script_more turns front line =
    ap script_of (filter_map-append (λ (l : List ℕ). order_in (asked_by turns l)) front (line ∷ [])) ∙ more_orders (orders_in turns front) (asked_by turns line)

below_or_at : (k n : ℕ) → k < n + 1 → (k < n) ⊎ (k ≡ n)
below_or_at k n below = grind arith

pub right_more : (turns : Bool) (lines : List (List ℕ)) (n : ℕ) → AreRight turns lines n → wrong_at turns lines n ≡ None → AreRight turns lines (n + 1)
right_more turns lines n right here k below = at (below_or_at k n below) where
  at : (k < n) ⊎ (k ≡ n) → wrong_at turns lines k ≡ None
  at (inl before) = right k before
  at (inr same) = rw same here

-- what is wrong with the next line
pub wrong_next : (turns : Bool) (lines : List (List ℕ)) (n : ℕ) (line : List ℕ) (before : ScriptState) → slice_get lines n ≡ Some line
    → before ≡ script_of (orders_in turns (take n lines)) → wrong_at turns lines n ≡ wrong_with before (n + 1) (asked_by turns line)
wrong_next turns lines n line before at script = rw (script) (ap (wrong_in turns lines n) at)

pub cause : (turns : Bool) (lines : List (List ℕ)) (n : ℕ) (limit : Option ScriptFault) (fault : ScriptFault) → wrong_at turns lines n ≡ limit
    → AreRight turns lines n → Refuses limit fault → IsCause turns lines fault
cause turns lines n limit Memory at right refused = refused
cause turns lines n limit (Line number kind) at right refused = record { line = n; wrong = at ∙ refused; right = right }
cause turns lines n limit (Limit kind number) at right refused = record { line = n; wrong = at ∙ refused; right = right }
