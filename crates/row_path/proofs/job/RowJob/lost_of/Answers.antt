use Rattle.std.proofs.Common.{subst, ap, sym, ◌∙◌}
use Rattle.std.specs.Option.{option_map}
use Rattle.row_path.specs.Plans.{slots_of, number_of}
use Rattle.row_path.specs.Jobs.{StandsFor, shape_for, place_for}
use Rattle.row_path.proofs.Losses.{lost_some, lost_none}
use Rattle.row_path.proofs.job.RowJob.lost_of.Goals as goal

pub returns-in-Some-clause-row : goal.returns-in-Some-clause-row
returns-in-Some-clause-row c S r stands =
    let job = c.args.self.now in
    let plan_is = stands.plan ∙ ap (option_map (slots_of (shape_for job) (place_for job))) c.requires in
    let is = lost_some job.read.marks r _ _ plan_is stands.read
    (sym c.next_read.ensures.slot ∙ ap (option_map number_of) c.in-Some.is) in
    subst (StandsFor S c.read_anew.new.self) (sym is) (c.read_anew.ensures.row S r stands)

pub returns-in-None-clause-row : goal.returns-in-None-clause-row
returns-in-None-clause-row c S r stands =
    let job = c.args.self.now in
    let plan_is = stands.plan ∙ ap (option_map (slots_of (shape_for job) (place_for job))) c.requires in
    let is = lost_none job.read.marks r _ plan_is stands.read
    (sym c.next_read.ensures.slot ∙ ap (option_map number_of) c.in-None.is) in
    subst (StandsFor S job) (sym is) stands
