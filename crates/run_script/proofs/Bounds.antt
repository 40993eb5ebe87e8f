-- A script within the limits stays so with one more line that is right.
use Rattle.std.proofs.Common.{◌≡◌, ◌≤◌, ◌+◌, ℕ, List, [], ◌∷◌, ◌++◌, Bool, true, false, length, arith, refl, Some, None, Option, Ok, Err, Result, length-append}
use Rattle.std.specs.Prelude.{nat_lt, replicate, if◌then◌else◌}
use Rattle.std.proofs.lemmas.Bool.Decides.{nat_tests}
use Rattle.std.proofs.lemmas.List.{length-replicate}
use Rattle.std.proofs.lemmas.List.Elements.{recursion_from_All, All-replicate}
use Rattle.array_model.specs.Kept.{ScriptState}
use Rattle.array_model.specs.declared.script.Op.{Op}
use Rattle.array_model.specs.declared.script.Turn.{Turn}
use Rattle.array_model.specs.declared.script.Turn.TheVariants as turn
use Rattle.run_script.specs.declared.order.Order.{Order}
use Rattle.run_script.specs.declared.order.Order.TheVariants.{Operation, Turns, ClientTurns}
use Rattle.run_script.specs.declared.fault.LineKind.{LineKind}
use Rattle.run_script.specs.declared.fault.ScriptFault.{ScriptFault}
use Rattle.run_script.specs.declared.limits.TheConstants.{MAX_OPS, MAX_TURNS, MAX_CLIENT}
use Rattle.run_script.specs.Limits.{client_limit, limit_of, ops_limit, or_else, turns_limit}
use Rattle.run_script.specs.Grammar.{asked_by}
use Rattle.run_script.specs.Scripts.{with_line, with_order, wrong_with}
use Rattle.run_script.specs.Within.{IsOperation, IsTurn, IsWithin}
use Rattle.run_script.proofs.Ends.{IsOrder, asked_order}
use Rattle.array_model.proofs.Journals.{all-append}

not_past : (past : Bool) (fault : ScriptFault) → (if past then Some fault else None) ≡ None → past ≡ false
not_past true fault is = absurd (cc)
not_past false fault is = refl

neither : (one other : Option ScriptFault) → or_else one other ≡ None → (one ≡ None) × (other ≡ None)
neither (Some fault) other is = absurd (cc)
neither None other is = (refl, is)

few_ops : (count : ℕ) → ops_limit count ≡ None → count ≤ MAX_OPS
few_ops count is = let within : nat_lt MAX_OPS count ≡ false = not_past _ _ is in grind (arith, nat_tests)

low_client : (client : ℕ) → client_limit client ≡ None → client ≤ MAX_CLIENT
low_client client is = let within : nat_lt MAX_CLIENT client ≡ false = not_past _ _ is in grind (arith, nat_tests)

few_turns : (count : ℕ) → turns_limit count ≡ None → count ≤ MAX_TURNS
few_turns count is = let within : nat_lt MAX_TURNS count ≡ false = not_past _ _ is in grind (arith, nat_tests)

more_turns : (s : ScriptState) (t : Turn) (count : ℕ) → IsWithin s → turns_limit (length s.turns + count) ≡ None → IsTurn t
    → IsWithin (record s { turns = s.turns ++ replicate count t })
more_turns s t count is within named = record {
  few_ops = is.few_ops;
  few_turns = omega (arith, length-append s.turns (replicate count t), length-replicate count t, few_turns _ within);
  ops = is.ops;
  turns = all-append IsTurn s.turns (replicate count t) is.turns (recursion_from_All IsTurn _ (All-replicate IsTurn count t named));
}

more_orders : (s : ScriptState) (order : Order) → IsWithin s → IsOrder order → limit_of s order ≡ None → IsWithin (with_order s order)
more_orders s (Operation c k) is named within =
    let op : Op = record { client = c; kind = k } in
    let both = neither (ops_limit (length s.ops + 1)) (client_limit c) within in
    record {
      few_ops = omega (arith, length-append s.ops (op ∷ []), few_ops _ both.0);
      few_turns = is.few_turns;
      ops = all-append IsOperation s.ops (op ∷ []) is.ops (record { client = low_client c both.1; row = named }, tt);
      turns = is.turns;
    }
more_orders s (Turns t count) is named within = more_turns s t count is within named
more_orders s (ClientTurns c count) is named within =
    let both = neither (client_limit c) (turns_limit (length s.turns + count)) within in
    more_turns s (turn.Client c) count is both.1 (low_client c both.0)

pub within_more : (s : ScriptState) (number : ℕ) (turns : Bool) (line : List ℕ) → IsWithin s → wrong_with s number (asked_by turns line) ≡ None
    → IsWithin (with_line s (asked_by turns line))
within_more s number turns line is right = at (asked_by turns line) (asked_order turns line) right where
  at : (asked : Result (Option Order) LineKind) → ((order : Order) → asked ≡ Ok (Some order) → IsOrder order) → wrong_with s number asked ≡ None → IsWithin (with_line s asked)
  at (Err kind) named none = absurd (cc)
  at (Ok None) named none = is
  at (Ok (Some order)) named none = more_orders s order is (named order refl) none
