use Rattle.std.proofs.Common.{ap, arith, refl}
use Rattle.std.specs.Option.{option_map}
use Rattle.image_outside.specs.Told.{bank_told}
use Rattle.image_outside.specs.Views.{shelf_told}
use Rattle.image_words.specs.Args.{words_of}
use Rattle.image_run.proofs.Opened.{short_name, arg_at, is_new, more_told, new_held, one_more_opened, unfed_front}
use Rattle.image_run.proofs.opening.open_all.Goals as goal

pub serial-requires : goal.serial-requires
serial-requires g c = short_name _ (arg_at c.args.images.now c.loop-i.i _ c.requires.each c.loop-i-test.true).named

pub open-requires-clause-new : goal.open-requires-clause-new
open-requires-clause-new g c =
    new_held g.H.Held.Bank (g.H.Shelf.held c.loop-i.shelf) c.serial.result
    (is_new (shelf_told g.H.Shelf g.H.Held.Bank c.loop-i.shelf).bank c.args.images.now c.loop-i.i _ c.serial.result
    c.requires.each c.requires.distinct c.loop-i-test.true c.serial.ensures c.loop-i.invariant.opens.bank)

pub loop-i-preserved : goal.loop-i-preserved
loop-i-preserved g c = record {
  opens = one_more_opened (shelf_told g.H.Shelf g.H.Held.Bank c.args.shelf.now) (shelf_told g.H.Shelf g.H.Held.Bank c.loop-i.shelf) (shelf_told g.H.Shelf g.H.Held.Bank c.open.new.self)
      c.args.images.now c.loop-i.i _ c.serial.result _ c.loop-i-test.true c.serial.ensures refl c.loop-i.invariant.opens c.in-Ok.ensures.path
      (more_told g.H.Held.Bank (g.H.Shelf.held c.loop-i.shelf) (g.H.Shelf.held c.open.new.self) c.serial.result c.in-Ok.ensures.opened);
  later = omega (arith, c.loop-i.invariant.later, c.open.ensures.later);
}

pub returns-in-Err-Memory-clause-front : goal.returns-in-Err-Memory-clause-front
returns-in-Err-Memory-clause-front g c =
    let told = shelf_told g.H.Shelf g.H.Held.Bank in
    unfed_front (words_of c.args.images.now) c.loop-i.i (told c.args.shelf.now) (told c.loop-i.shelf) (told c.open.new.self) c.loop-i.invariant.opens
    (ap (option_map (bank_told g.H.Held.Bank)) c.in-Err-Memory.ensures.refused) c.in-Err-Memory.ensures.unlisted

pub returns-in-Err-Failed-clause-front : goal.returns-in-Err-Failed-clause-front
returns-in-Err-Failed-clause-front g c =
    let told = shelf_told g.H.Shelf g.H.Held.Bank in
    unfed_front (words_of c.args.images.now) c.loop-i.i (told c.args.shelf.now) (told c.loop-i.shelf) (told c.open.new.self) c.loop-i.invariant.opens
    (ap (option_map (bank_told g.H.Held.Bank)) c.in-Err-Failed.ensures.refused) c.in-Err-Failed.ensures.unlisted
