-- How steps of a reading come together.
use Rattle.std.proofs.Common.{◌≡◌, Result, Ok, Err, sym}
use Rattle.std.specs.Result.{IsErrAnd}
use Rattle.run_script.specs.declared.order.Order.{Order}
use Rattle.run_script.specs.declared.fault.LineKind.{LineKind}

-- what the exit of a step returns
pub exit : (kind : LineKind) (r read : Result Order LineKind) → IsErrAnd r (λ y. y ≡ kind) → read ≡ Err kind → r ≡ read
exit kind (Ok x) read same wrong = absurd same
exit kind (Err y) read same wrong = rw same (sym wrong)
