use Rattle.std.proofs.Common.{◌+◌, [], ◌∷◌, sym, ap, ◌∙◌}
use Rattle.array_model.specs.declared.journal.Event.TheVariants.{Begin}
use Rattle.array_model.specs.Blocks.{Laid}
use Rattle.block_meaning.specs.Renewed.{renewed}
use Rattle.stage_machine.specs.Rounds as machine
use Rattle.control_state.specs.Book.{laid_at}
use Rattle.control_state.specs.Rounds.{round_of}
use Rattle.control_state.specs.Seen.{numbers}
use Rattle.control_state.proofs.Members.{drop_member, drop_past}
use Rattle.control_state.proofs.Rounded.{begin_some, begin_none}
use Rattle.control_state.proofs.round.Round.begin.Goals as goal

pub returns-in-Some : goal.returns-in-Some
returns-in-Some c =
    let r = round_of c.args.plan.now c.args.self.now in
    let targets = c.args.plan.now.targets.items in
    ap (λ (m : Laid). record { round = record r { note = r.note + 1; phase = machine.Going m machine.AtAnchor (numbers targets) }; events = Begin (r.note + 1) ∷ [] }) c.renew.ensures
    ∙ begin_some r (renewed (laid_at c.args.self.now.book.anchor) (c.args.self.now.note + 1) c.args.dirty) (numbers targets) _ _
    (drop_member targets 0 c.in-Some.field-0 (sym c.in-Some.is ∙ c.target_at.ensures.target))

pub returns-in-None : goal.returns-in-None
returns-in-None c =
    let r = round_of c.args.plan.now c.args.self.now in
    begin_none r (renewed (laid_at c.args.self.now.book.anchor) (c.args.self.now.note + 1) c.args.dirty) (numbers c.args.plan.now.targets.items)
    (drop_past c.args.plan.now.targets.items 0 (sym c.in-None.is ∙ c.target_at.ensures.target))
