use Rattle.std.proofs.Common.{◌≡◌, ◌++◌}
use Rattle.std.specs.Prelude.{replicate}
use Rattle.run_script.proofs.limits.push_all.Given as goal

abbrev pub invariant-loop : goal.invariant-loop
invariant-loop l = l.script ≡ record l.fn.script { turns = l.fn.script.turns ++ replicate l.counter l.turn }
