use Rattle.std.proofs.Common.{◌≤◌, arith}
use Rattle.array_form.proofs.example_of_the_form.Goals as goal

pub returns-clause-twice_ready : goal.returns-clause-twice_ready
returns-clause-twice_ready c h = let twice : 2 ≤ 1 = (h 0).ready in omega (arith, twice)

pub returns-clause-twice_failed : goal.returns-clause-twice_failed
returns-clause-twice_failed c h = let twice : 2 ≤ 1 = (h.disks 1).fault in omega (arith, twice)

pub returns-clause-twice_passed : goal.returns-clause-twice_passed
returns-clause-twice_passed c h = let twice : 2 ≤ 1 = h 0 in omega (arith, twice)

pub returns-clause-twice_told : goal.returns-clause-twice_told
returns-clause-twice_told c h = let twice : 2 ≤ 1 = h 0 in omega (arith, twice)
