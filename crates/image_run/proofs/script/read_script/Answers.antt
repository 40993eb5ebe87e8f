use Rattle.image_outside.specs.Views.{source_told}
use Rattle.image_run.proofs.Taken.{all_some, front_some}
use Rattle.image_run.proofs.script.read_script.Goals as goal

pub returns-in-Ok-parse_script-clause-some : goal.returns-in-Ok-parse_script-clause-some
returns-in-Ok-parse_script-clause-some g c =
    all_some (source_told g.S.Source c.args.source.now) (source_told g.S.Source c.read_all.new.source) _ c.in-Ok.ensures.all c.in-Ok.ensures.few

pub returns-in-Err-Memory-parse_script-clause-some : goal.returns-in-Err-Memory-parse_script-clause-some
returns-in-Err-Memory-parse_script-clause-some g c =
    all_some (source_told g.S.Source c.args.source.now) (source_told g.S.Source c.read_all.new.source) _ c.in-Ok.ensures.all c.in-Ok.ensures.few

pub returns-in-Err-Line-clause-some : goal.returns-in-Err-Line-clause-some
returns-in-Err-Line-clause-some g c =
    all_some (source_told g.S.Source c.args.source.now) (source_told g.S.Source c.read_all.new.source) _ c.in-Ok.ensures.all c.in-Ok.ensures.few

pub returns-clause-some : goal.returns-clause-some
returns-clause-some g c =
    all_some (source_told g.S.Source c.args.source.now) (source_told g.S.Source c.read_all.new.source) _ c.in-Ok.ensures.all c.in-Ok.ensures.few

pub returns-in-Err-Memory-clause-some : goal.returns-in-Err-Memory-clause-some
returns-in-Err-Memory-clause-some g c =
    front_some (source_told g.S.Source c.args.source.now) (source_told g.S.Source c.read_all.new.source) c.in-Err-Memory.ensures.front

pub returns-in-Err-Failed-clause-some : goal.returns-in-Err-Failed-clause-some
returns-in-Err-Failed-clause-some g c =
    front_some (source_told g.S.Source c.args.source.now) (source_told g.S.Source c.read_all.new.source) c.in-Err-Failed.ensures.front

pub returns-in-Err-Bytes-clause-some : goal.returns-in-Err-Bytes-clause-some
returns-in-Err-Bytes-clause-some g c =
    front_some (source_told g.S.Source c.args.source.now) (source_told g.S.Source c.read_all.new.source) c.in-Err-Bytes.ensures.front
