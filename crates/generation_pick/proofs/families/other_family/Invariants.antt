use Rattle.std.proofs.Common.{◌≡◌, take}
use Rattle.std.specs.Prelude.{All}
use Rattle.generation_pick.specs.Found.{family_at}
use Rattle.generation_pick.proofs.families.other_family.Given as goal

abbrev pub invariant-loop-entry : goal.invariant-loop-entry
invariant-loop-entry l = All (λ f. family_at f ≡ l.family) (take l.entry-index l.list)
