use Rattle.std.proofs.Common.{rules}
use Rattle.array_model.specs.declared.script.Turn.TheVariants.{Monitor}
use Rattle.stage.specs.declared.turned.Turned.TheVariants.{JournalFull, Member}
use Rattle.stage.proofs.Driven.{follows_on}
use Rattle.stage.proofs.Kept.{bank_on}
use Rattle.stage.proofs.Driving.{made_next, stopped_at, went_on}
use Rattle.stage.proofs.stage.Stage.drive.Goals as goal

pub returns-in-JournalFull-clause-drove : goal.returns-in-JournalFull-clause-drove
returns-in-JournalFull-clause-drove g c =
    stopped_at c.args.self.now c.loop-turn.self c.turn.new.self c.args.turns.now c.loop-turn.turn-index Monitor c.turn.result JournalFull c.loop-turn-test.true c.loop-turn.invariant.made c.turn.ensures.made c.in-JournalFull.is

pub returns-in-Member-clause-drove : goal.returns-in-Member-clause-drove
returns-in-Member-clause-drove g c =
    stopped_at c.args.self.now c.loop-turn.self c.turn.new.self c.args.turns.now c.loop-turn.turn-index Monitor c.turn.result (Member c.in-Member.disk) c.loop-turn-test.true c.loop-turn.invariant.made c.turn.ensures.made c.in-Member.is

pub loop-turn-preserved : goal.loop-turn-preserved
loop-turn-preserved g c =
    let inv = c.loop-turn.invariant in
    record {
      made = made_next c.args.self.now c.loop-turn.self c.turn.new.self c.args.turns.now c.loop-turn.turn-index Monitor c.turn.result c.loop-turn-test.true inv.made c.turn.ensures.made (went_on c.turn.result c.in-Moved.is);
      follows = follows_on c.args.self.now c.loop-turn.self c.turn.new.self inv.follows c.turn.ensures.follows;
      opening = λ told is. inv.opening told (c.turn.ensures.opening told is);
      bank = search (rules, bank_on);
    }
