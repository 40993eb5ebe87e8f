-- A script that was taken, and names the first volume alone, is one that a run takes.
use Rattle.std.proofs.Common.{◌≡◌, ℕ, ◌<◌, ◌≤◌, ◌==◌, ◌&&◌, nat_lt, Bool, true, false, List, [], ◌∷◌, refl, arith}
use Rattle.std.specs.List.{AllByRecursion, list_all}
use Rattle.std.proofs.lemmas.Bool.Decides.{nat_tests}
use Rattle.std.proofs.lemmas.Bool.{or_parts}
use Rattle.array_model.specs.declared.script.Op.{Op}
use Rattle.array_model.specs.declared.script.OpKind.{OpKind}
use Rattle.array_model.specs.declared.script.OpKind.TheVariants.{Write, Read, Whole}
use Rattle.run_script.specs.Within.{NamesRow, IsOperation}
use Rattle.rest_law.specs.Rest.{is_whole}
use Rattle.first_opening.specs.Opened.{is_first_op, is_in_first}
use Rattle.stage_law.specs.Runs.{AsksRows}
use Rattle.image_replay.specs.Ends.{volume_named, asks_second}

row_kind : (kind : OpKind) → NamesRow kind → is_whole kind ≡ false
row_kind (Write v s value) named = refl
row_kind (Read v s) named = refl
row_kind (Whole v) named = absurd named

pub asks_rows : (ops : List Op) → AllByRecursion IsOperation ops → AsksRows ops
asks_rows [] each = tt
asks_rows (op ∷ ops) each = (row_kind op.kind each.0.row, asks_rows ops each.1)

zero_of : (n : ℕ) → n < 2 → (n == 1) ≡ false → (n == 0) ≡ true
zero_of n below other = grind (arith, nat_tests, below, other)

first_kind : (kind : OpKind) → NamesRow kind → (volume_named kind == 1) ≡ false → is_in_first kind ≡ true
first_kind (Write v s value) named other = zero_of v.0 named other
first_kind (Read v s) named other = zero_of v.0 named other
first_kind (Whole v) named other = absurd named

low_client : (n : ℕ) → n ≤ 15 → nat_lt n 16 ≡ true
low_client n low = grind (arith, nat_tests, low)

both : (a b c : Bool) → a ≡ true → b ≡ true → c ≡ true → ((a && b) && c) ≡ true
both true true true x y z = refl
both true true false x y z = absurd (cc z)
both true false c x y z = absurd (cc y)
both false b c x y z = absurd (cc x)

pub asks_first : (ops : List Op) → AllByRecursion IsOperation ops → asks_second ops ≡ false → list_all is_first_op ops ≡ true
asks_first [] each none = refl
asks_first (op ∷ ops) each none =
    let apart = or_parts (volume_named op.kind == 1) (asks_second ops) none in
    both (nat_lt op.client 16) (is_in_first op.kind) (list_all is_first_op ops) (low_client op.client each.0.client) (first_kind op.kind each.0.row apart.0) (asks_first ops each.1 apart.1)
