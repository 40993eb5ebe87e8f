use Rattle.std.proofs.Common.{◌≡◌, true, false, [], refl, inl}
use Rattle.array_model.specs.Blocks.{Laid}
use Rattle.array_model.specs.Causes.{GoesOn, Over}
use Rattle.array_model.specs.Small.{block}
use Rattle.refused_runs.proofs.hasty_writes_are_refused.Goals as goal

pub returns-clause-early : goal.returns-clause-early
returns-clause-early c ended limit calls admitted = c.example_of_the_write_gate.ensures.early admitted.kept.gate

pub returns-clause-undirtied : goal.returns-clause-undirtied
returns-clause-undirtied c ended limit calls admitted =
    let second : Laid = record { anchor = block 3 0 0; extended = [] } in
    let durable = admitted.kept.gate.at_active.1.1.1.1.1.1.1.0 second (4, refl, record { disk = 0; written = inl refl; generation = refl; container = refl }) 0 (record { expected = refl; sound = refl }) in
    let dirty : false ≡ true = durable.each.0 in
    cc dirty

pub returns-clause-going : goal.returns-clause-going
returns-clause-going c ended limit calls admitted = let over : GoesOn 3 ≡ Over = admitted.form.causes.1.1.1.1.1.1.0.1 in cc over
