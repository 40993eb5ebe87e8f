use Rattle.image_verdict.specs.Reports.{first_block}
use Rattle.image_verdict.proofs.Held.{first_other_at}
use Rattle.image_verdict.proofs.verdict.report_on.Goals as goal

pub returns-in_default : goal.returns-in_default
returns-in_default c = first_other_at (first_block c.args.images.now) c.args.images.now 0 _ c.requires.some tt (c.in_default.ensures.none (first_block c.args.images.now))
