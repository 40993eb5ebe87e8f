use Rattle.std.proofs.Common.{◌≡◌, ◌+◌, length, take, drop}
use Rattle.run_script.specs.Grammar.{lines_of}
use Rattle.run_script.specs.Scripts.{AreRight, orders_in, script_of}
use Rattle.run_script.specs.Within.{IsWithin}
use Rattle.run_script.proofs.parse.parse_script.Given as goal

abbrev pub invariant-loop-line : goal.invariant-loop-line
invariant-loop-line l =
    let lines = lines_of l.text in
    record {
      count : l.number + length l.lines ≡ length lines;
      left : l.lines ≡ drop l.number lines;
      script : l.script ≡ script_of (orders_in l.turns (take l.number lines));
      within : IsWithin l.script;
      right : AreRight l.turns lines l.number;
    }

abbrev pub decreases-loop-line : goal.decreases-loop-line
decreases-loop-line l = length l.lines
