use Rattle.std.proofs.Common.{ap, subst, sym, ◌∙◌}
use Rattle.std.specs.Option.{option_map}
use Rattle.image_outside.specs.Told.{BankTold, bank_told}
use Rattle.image_outside.specs.Shelves.{IsFresh}
use Rattle.image_outside.specs.Views.{shelf_told, sink_told}
use Rattle.image_words.specs.Args.{words_of}
use Rattle.image_words.specs.Words.{serials_named}
use Rattle.image_create.specs.Creates.{CreatesBy}
use Rattle.image_run.proofs.Opened.{opens_all}
use Rattle.image_run.proofs.Carried.{ends_on, ends_unopened, handed_back, lent_fresh}
use Rattle.image_run.proofs.creating.create_images.Goals as goal

pub returns-in-Err-clause-ends : goal.returns-in-Err-clause-ends
returns-in-Err-clause-ends g c =
    let shelf = shelf_told g.H.Shelf g.H.Held.Bank in
    let sink = sink_told g.K.Sink in
    ends_unopened (words_of c.args.images.now) (shelf c.args.shelf.now) (shelf c.open_images.new.shelf) (CreatesBy c.args.made.now) (sink c.args.sink.now) (sink c.open_images.new.sink) c.in-Err.status.0 c.in-Err.ensures.ends

pub returns-clause-ends : goal.returns-clause-ends
returns-clause-ends g c =
    let told = bank_told g.H.Held.Bank in
    let shelf = shelf_told g.H.Shelf g.H.Held.Bank in
    let sink = sink_told g.K.Sink in
    ends_on (words_of c.args.images.now) (shelf c.args.shelf.now) (shelf c.open_images.new.shelf) (shelf c.hand_back.new.self) (told c.lend-bank.result) (told c.create-status.new.bank) (CreatesBy c.args.made.now)
    (sink c.args.sink.now) (sink c.open_images.new.sink) (sink c.create-status.new.sink) c.create-status.result.0 c.in_default.ensures.ok (ap (option_map told) c.lend-bank.ensures.bank)
    (c.hand_back.ensures.paths ∙ c.lend-bank.ensures.paths) (ap (option_map told) c.hand_back.ensures.bank) c.create-status.ensures.serials (ap sink c.in_default.ensures.silent) c.create-status.ensures.ends

pub returns-in-Err-clause-unmade : goal.returns-in-Err-clause-unmade
returns-in-Err-clause-unmade g c nine = c.in-Err.ensures.front

pub returns-clause-unmade : goal.returns-clause-unmade
returns-clause-unmade g c nine =
    let told = bank_told g.H.Held.Bank in
    let old = shelf_told g.H.Shelf g.H.Held.Bank c.args.shelf.now in
    let mid = shelf_told g.H.Shelf g.H.Held.Bank c.open_images.new.shelf in
    let new = shelf_told g.H.Shelf g.H.Held.Bank c.hand_back.new.self in
    let images = words_of c.args.images.now in
    let lent = told c.lend-bank.result in
    let now = told c.create-status.new.bank in
    let held = ap (option_map told) c.lend-bank.ensures.bank in
    let fresh = subst (λ (bank : BankTold). IsFresh (serials_named images) bank) (sym (ap told (c.create-status.ensures.untouched nine)))
    (lent_fresh images old mid lent c.in_default.ensures.ok held) in
    opens_all images old new
    (handed_back images old mid new lent now (IsFresh (serials_named images)) c.in_default.ensures.ok held
    (c.hand_back.ensures.paths ∙ c.lend-bank.ensures.paths) (ap (option_map told) c.hand_back.ensures.bank) c.create-status.ensures.serials fresh)
