use Rattle.std.proofs.Common.{Err, ap, arith, inl, ◌∙◌}
use Rattle.image_outside.specs.Views.{shelf_told, sink_told}
use Rattle.image_outside.proofs.Ended.{ends_as}
use Rattle.image_words.specs.Args.{words_of}
use Rattle.image_run.specs.Lines.{open_line}
use Rattle.image_run.specs.Openings.{OpensNot}
use Rattle.image_run.proofs.Opened.{opens_not}
use Rattle.image_run.proofs.opening.open_images.Goals as goal

pub offset_bounds-images-i : goal.offset_bounds-images-i
offset_bounds-images-i g c =
    let failed = c.open_all.ensures.failed c.in-Err-Failed.i (c.in-Err-Failed.is ∙ ap Err c.in-Err-Failed.field-0-is) in
    omega (arith, failed.0, c.requires.few)

pub bounds-images-i : goal.bounds-images-i
bounds-images-i g c = (c.open_all.ensures.failed c.in-Err-Failed.i (c.in-Err-Failed.is ∙ ap Err c.in-Err-Failed.field-0-is)).0

pub returns-in-Err-Failed-clause-ends : goal.returns-in-Err-Failed-clause-ends
returns-in-Err-Failed-clause-ends g c =
    let old = shelf_told g.H.Shelf g.H.Held.Bank c.args.shelf.now in
    let new = shelf_told g.H.Shelf g.H.Held.Bank c.open_all.new.shelf in
    let images = c.args.images.now in
    let failed = c.open_all.ensures.failed c.in-Err-Failed.i (c.in-Err-Failed.is ∙ ap Err c.in-Err-Failed.field-0-is) in
    let name = c.as_bytes.result.now in
    inl (ends_as (sink_told g.K.Sink c.args.sink.now) (sink_told g.K.Sink c.end_line.new.sink) (open_line name) 7 (OpensNot (words_of images) old new) c.end_line.result.0
    (opens_not images c.in-Err-Failed.i _ name old new failed.0 c.as_bytes.ensures.value failed.1 failed.2)
    c.end_line.ensures)
