use Rattle.std.proofs.Common.{refl, subst, sym, ◌∙◌}
use Rattle.row_path.specs.Jobs.{StandsFor, need_of, row_tried}
use Rattle.row_path.proofs.Needs.{fed_write, fed_sync, fed_no_call}
use Rattle.row_path.proofs.job.RowJob.call_went.Goals as goal

pub returns-in-Write-clause-row : goal.returns-in-Write-clause-row
returns-in-Write-clause-row c S slots r stands =
    let job = c.args.self.now in
    let begun = row_tried job c.args.members.now slots r in
    let is = fed_write (need_of S job c.args.members.now r) c.in-Write.slot begun r
    (sym c.in-Write.is ∙ c.need.ensures.need S r stands) in
    subst (StandsFor S c.wrote.new.self) (sym is) (c.wrote.ensures.row S begun (c.called.ensures.row S slots r stands))

pub returns-in-Sync-clause-row : goal.returns-in-Sync-clause-row
returns-in-Sync-clause-row c S slots r stands =
    let job = c.args.self.now in
    let begun = row_tried job c.args.members.now slots r in
    let is = fed_sync (need_of S job c.args.members.now r) c.in-Sync.slot begun r
    (sym c.in-Sync.is ∙ c.need.ensures.need S r stands) in
    subst (StandsFor S c.synced.new.self) (sym is)
    (c.synced.ensures.row S begun (c.called-in-Sync.ensures.row S slots r stands))

pub returns-in_default : goal.returns-in_default
returns-in_default c = record {
  row = λ S slots r stands.
      let n = need_of S c.args.self.now c.args.members.now r in
      let is = fed_no_call n (row_tried c.args.self.now c.args.members.now slots r) r
      (λ slot e. c.in_default.not-Write slot (c.need.ensures.need S r stands ∙ e))
      (λ slot e. c.in_default.not-Sync slot (c.need.ensures.need S r stands ∙ e)) in
      subst (StandsFor S c.args.self.now) (sym is) stands;
  same = record { kind = refl; geometry = refl; place = refl };
}
