use Rattle.std.proofs.Common.{sym, ◌∙◌}
use Rattle.run_script.proofs.Cuts.{cut_at, cut_none}
use Rattle.run_script.proofs.pieces.cut.Goals as goal

pub returns-in-Some : goal.returns-in-Some
returns-in-Some c = cut_at _ c.args.bytes.now c.in-Some.at (sym c.place_of.ensures ∙ c.in-Some.is)

pub returns-in-None : goal.returns-in-None
returns-in-None c = cut_none _ c.args.bytes.now (sym c.place_of.ensures ∙ c.in-None.is)
