use Rattle.std.proofs.Common.{◌+◌, ◌≤◌, take}
use Rattle.std.specs.Prelude.{All}
use Rattle.image_create.proofs.room.first_small.Given as goal

abbrev pub invariant-loop-d : goal.invariant-loop-d
invariant-loop-d g l = All (λ n. l.rows + 18 ≤ n) (take l.d (g.B.Bank.sizes l.bank))
