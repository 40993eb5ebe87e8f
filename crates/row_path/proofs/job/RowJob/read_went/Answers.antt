use Rattle.std.proofs.Common.{refl, subst, sym, ◌∙◌}
use Rattle.row_path.specs.Jobs.{StandsFor, need_of, row_tried}
use Rattle.row_path.proofs.Needs.{fed_read, fed_no_read}
use Rattle.row_path.proofs.job.RowJob.read_went.Goals as goal

pub returns-in-Read-clause-row : goal.returns-in-Read-clause-row
returns-in-Read-clause-row c S slots r adds stands =
    let job = c.args.self.now in
    let begun = row_tried job c.args.members.now slots r in
    let is = fed_read c.args.x.now (need_of S job c.args.members.now r) c.in-Read.slot begun r
    (sym c.in-Read.is ∙ c.need.ensures.need S r stands) in
    subst (StandsFor S c.took.new.self) (sym is)
    (c.took.ensures.row S begun adds (c.called.ensures.row S slots r stands))

pub returns-in_default : goal.returns-in_default
returns-in_default c = record {
  row = λ S slots r adds stands.
      let n = need_of S c.args.self.now c.args.members.now r in
      let is = fed_no_read c.args.x.now n (row_tried c.args.self.now c.args.members.now slots r) r
      (λ slot e. c.in_default.not-Read slot (c.need.ensures.need S r stands ∙ e)) in
      subst (StandsFor S c.args.self.now) (sym is) stands;
  same = record { kind = refl; geometry = refl; place = refl };
}
