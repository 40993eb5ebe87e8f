use Rattle.std.proofs.Common.{◌≡◌, ◌≤◌, ℕ, length, take, sym, subst, List, refl, arith}
use Rattle.std.proofs.lemmas.Result.{err_from_is_err_and}
use Rattle.std.proofs.lemmas.List.{length-take}
use Rattle.units.specs.declared.bounds.TheConstants.{MAX_BLOCK_BYTES}
use Rattle.imsm_base.specs.Whole.{IsWholeBlock}
use Rattle.imsm_base.specs.Parts.{block_in}
use Rattle.imsm_codec.specs.Given.{size_in, given_block, IsGiven}
use Rattle.imsm_codec.specs.Laid.{IsLaid}
use Rattle.imsm_codec.specs.Checked.{IsChecked, HasBlockFault}
use Rattle.imsm_codec.proofs.Wholeness.{whole_from_checks, laid_from_checks}
use Rattle.imsm_codec.proofs.Faulty.{front_not_whole, block_not_whole, at_error}
use Rattle.imsm_codec.proofs.Exact.{found_front, found_block, exact_error, exact_ok}
use Rattle.imsm_codec.specs.declared.fault.MpbFault.{MpbFault}
use Rattle.imsm_codec.proofs.checks.check.Goals as goal

-- what is said of the first n bytes holds of the block, where n is its size
of_block : (P : List ℕ → Type 0) (n m : ℕ) (bytes : List ℕ) → n ≡ m → P (take n bytes) → P (take m bytes)
of_block P n m bytes e p = subst (λ (i : ℕ). P (take i bytes)) e p

taken_short : (n : ℕ) (bytes : List ℕ) → n ≡ size_in bytes → IsGiven bytes → length (take n bytes) ≤ MAX_BLOCK_BYTES
taken_short n bytes is given = let most = given.sized.sized.most in omega (arith, length-take n bytes)

pub returns-in_err-check_front-clause-ok : goal.returns-in_err-check_front-clause-ok
returns-in_err-check_front-clause-ok c =
    at_error c.from_residual.result c.from_residual.ensures.0 (front_not_whole c.args.bytes.now c.in_err-check_front.field-0.0 (c.in_err-check_front.ensures))

pub returns-in_err-check_parts-clause-ok : goal.returns-in_err-check_parts-clause-ok
returns-in_err-check_parts-clause-ok c =
    let fault = c.in_err-check_parts.field-0.0 in
    at_error c.from_residual-in_err-check_parts.result c.from_residual-in_err-check_parts.ensures.0
    (block_not_whole c.args.bytes.now fault
    (of_block (λ (x : List ℕ). HasBlockFault x fault) _ _ c.args.bytes.now c.get_u32.ensures (c.in_err-check_parts.ensures)))

pub invariant_of-result : goal.invariant_of-result
invariant_of-result c = record {
  laid = of_block IsLaid _ _ c.args.bytes.now (sym c.get_u32.ensures)
      (laid_from_checks c.args.bytes.now c.in_ok-check_front.ensures (of_block IsChecked _ _ c.args.bytes.now c.get_u32.ensures (c.in_ok-check_parts.ensures)));
  short = taken_short c.get_u32.result c.args.bytes.now c.get_u32.ensures c.in_ok-check_front.ensures;
}

pub returns-clause-whole : goal.returns-clause-whole
returns-clause-whole c =
    of_block (λ (x : List ℕ). IsWholeBlock x (block_in x)) _ _ c.args.bytes.now (sym c.get_u32.ensures)
    (whole_from_checks c.args.bytes.now c.in_ok-check_front.ensures (of_block IsChecked _ _ c.args.bytes.now c.get_u32.ensures (c.in_ok-check_parts.ensures)))

pub returns-clause-ok : goal.returns-clause-ok
returns-clause-ok c = (
  λ ok. (
    block_in (given_block c.args.bytes.now),
    whole_from_checks c.args.bytes.now c.in_ok-check_front.ensures (of_block IsChecked _ _ c.args.bytes.now c.get_u32.ensures (c.in_ok-check_parts.ensures)),
  ),
  λ w. refl,
)

pub returns-in_err-check_front-clause-fault : goal.returns-in_err-check_front-clause-fault
returns-in_err-check_front-clause-fault c =
    let found : MpbFault = c.in_err-check_front.field-0.0 in
    let p = err_from_is_err_and c.from_residual.result c.from_residual.ensures.1 in
    λ e. exact_error c.args.bytes.now c.from_residual.result found e (rw (p.1, p.2) refl)
    (found_front c.args.bytes.now found c.in_err-check_front.ensures)

pub returns-in_err-check_parts-clause-fault : goal.returns-in_err-check_parts-clause-fault
returns-in_err-check_parts-clause-fault c =
    let found : MpbFault = c.in_err-check_parts.field-0.0 in
    let p = err_from_is_err_and c.from_residual-in_err-check_parts.result c.from_residual-in_err-check_parts.ensures.1 in
    λ e. exact_error c.args.bytes.now c.from_residual-in_err-check_parts.result found e (rw (p.1, p.2) refl)
    (found_block c.args.bytes.now found c.in_ok-check_front.ensures
    (of_block (λ (x : List ℕ). HasBlockFault x found) _ _ c.args.bytes.now c.get_u32.ensures c.in_err-check_parts.ensures))

pub returns-clause-fault : goal.returns-clause-fault
returns-clause-fault c =
    λ e. exact_ok c.args.bytes.now _ e c.in_ok-check_front.ensures (of_block IsChecked _ _ c.args.bytes.now c.get_u32.ensures c.in_ok-check_parts.ensures)
