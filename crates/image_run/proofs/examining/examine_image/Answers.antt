use Rattle.std.proofs.Common.{inl, inr, ap, ◌∙◌}
use Rattle.std.specs.Option.{option_map}
use Rattle.image_outside.specs.Told.{bank_told}
use Rattle.image_outside.specs.Views.{shelf_told, sink_told}
use Rattle.image_words.specs.Args.{words_of}
use Rattle.image_examine.specs.Endings.{Examines, HasLookedOrNot}
use Rattle.image_run.proofs.Carried.{ends_on, ends_unopened, handed_back}
use Rattle.image_run.proofs.examining.examine_image.Goals as goal

pub returns-in-Err-clause-ends : goal.returns-in-Err-clause-ends
returns-in-Err-clause-ends g c =
    let shelf = shelf_told g.H.Shelf g.H.Held.Bank in
    let sink = sink_told g.K.Sink in
    ends_unopened (words_of c.args.images.now) (shelf c.args.shelf.now) (shelf c.open_images.new.shelf) Examines (sink c.args.sink.now) (sink c.open_images.new.sink) c.in-Err.status.0 c.in-Err.ensures.ends

pub returns-clause-ends : goal.returns-clause-ends
returns-clause-ends g c =
    let told = bank_told g.H.Held.Bank in
    let shelf = shelf_told g.H.Shelf g.H.Held.Bank in
    let sink = sink_told g.K.Sink in
    ends_on (words_of c.args.images.now) (shelf c.args.shelf.now) (shelf c.open_images.new.shelf) (shelf c.hand_back.new.self) (told c.lend-bank.result) (told c.examine-status.new.bank) Examines
    (sink c.args.sink.now) (sink c.open_images.new.sink) (sink c.examine-status.new.sink) c.examine-status.result.0 c.in_default.ensures.ok (ap (option_map told) c.lend-bank.ensures.bank)
    (c.hand_back.ensures.paths ∙ c.lend-bank.ensures.paths) (ap (option_map told) c.hand_back.ensures.bank) c.examine-status.ensures.serials (ap sink c.in_default.ensures.silent) c.examine-status.ensures.ends

pub returns-in-Err-clause-leaves : goal.returns-in-Err-clause-leaves
returns-in-Err-clause-leaves g c = inl c.in-Err.ensures.front

pub returns-clause-leaves : goal.returns-clause-leaves
returns-clause-leaves g c =
    let told = bank_told g.H.Held.Bank in
    let shelf = shelf_told g.H.Shelf g.H.Held.Bank in
    inr (handed_back (words_of c.args.images.now) (shelf c.args.shelf.now) (shelf c.open_images.new.shelf) (shelf c.hand_back.new.self) (told c.lend-bank.result) (told c.examine-status.new.bank) HasLookedOrNot
    c.in_default.ensures.ok (ap (option_map told) c.lend-bank.ensures.bank) (c.hand_back.ensures.paths ∙ c.lend-bank.ensures.paths) (ap (option_map told) c.hand_back.ensures.bank)
    c.examine-status.ensures.serials c.examine-status.ensures.looked)
