use Rattle.std.proofs.Common.{List, Option, if◌then◌else◌, sym, ◌∙◌, ap}
use Rattle.std.specs.Prelude.{is_some}
use Rattle.imsm_base.specs.Layout.{Block, Volume}
use Rattle.imsm_base.specs.EditsOfTables.{with_volume}
use Rattle.imsm_buffer.specs.Buffer.{parts_of}
use Rattle.imsm_buffer.proofs.Replaced.{unchanged_at}
use Rattle.imsm_view.specs.declared.volume.Volume.{Volume as View}
use Rattle.imsm_edit.specs.Failures.{volume_failed}
use Rattle.imsm_edit.proofs.failures.fail_seen.Goals as goal

pub returns-in-None-clause-block : goal.returns-in-None-clause-block
returns-in-None-clause-block c =
    let b : Block = parts_of c.args.book.now in
    sym (ap (λ (view : Option View). with_volume c.args.v.0 (λ x. if is_some view then volume_failed b c.args.i c.args.facts.now c.args.v.0 x else x) b) c.in-None.is
    ∙ ap (λ (vs : List Volume). record b { volumes = vs }) (unchanged_at c.args.v.0 b.volumes))
