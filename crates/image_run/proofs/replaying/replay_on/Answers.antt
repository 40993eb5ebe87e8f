use Rattle.std.proofs.Common.{◌≡◌, ap, ◌∙◌}
use Rattle.std.specs.Option.{IsSomeAnd, option_map}
use Rattle.image_outside.specs.Told.{bank_told}
use Rattle.image_outside.specs.Views.{shelf_told, sink_told}
use Rattle.image_outside.proofs.Ended.{ends_map}
use Rattle.image_words.specs.Args.{words_of}
use Rattle.image_words.specs.Words.{serials_named}
use Rattle.image_verdict.specs.Images.{HasReadFirst}
use Rattle.image_replay.specs.Replays.{ReplaysBy}
use Rattle.image_run.proofs.Carried.{held_back, held_fresh}
use Rattle.image_run.proofs.replaying.replay_on.Goals as goal

pub returns-clause-ends : goal.returns-clause-ends
returns-clause-ends g c =
    let told = bank_told g.H.Held.Bank in
    let names = serials_named (words_of c.args.images.now) in
    let old = shelf_told g.H.Shelf g.H.Held.Bank c.args.shelf.now in
    let new = shelf_told g.H.Shelf g.H.Held.Bank c.hand_back.new.self in
    let fresh = held_fresh old.bank (told c.lend.result) names (ap (option_map told) c.lend.ensures.bank) c.requires.fresh in
    let now = told c.replay-bank.result.0 in
    ends_map (sink_told g.K.Sink c.args.sink.now) (sink_told g.K.Sink c.replay-bank.new.sink) (ReplaysBy c.args.script.now c.args.limit now)
    (λ lines status. IsSomeAnd new.bank (λ bank. (bank.serials ≡ names) × ReplaysBy c.args.script.now c.args.limit bank lines status)) c.replay-bank.result.1.0
    (λ lines status so. held_back new.bank now names (λ bank. ReplaysBy c.args.script.now c.args.limit bank lines status) (ap (option_map told) c.hand_back.ensures.bank)
    (c.replay-bank.ensures.serials ∙ fresh.named) so)
    c.replay-bank.ensures.ends

pub returns-clause-unrun : goal.returns-clause-unrun
returns-clause-unrun g c nine =
    let told = bank_told g.H.Held.Bank in
    let names = serials_named (words_of c.args.images.now) in
    let old = shelf_told g.H.Shelf g.H.Held.Bank c.args.shelf.now in
    let new = shelf_told g.H.Shelf g.H.Held.Bank c.hand_back.new.self in
    let fresh = held_fresh old.bank (told c.lend.result) names (ap (option_map told) c.lend.ensures.bank) c.requires.fresh in
    held_back new.bank (told c.replay-bank.result.0) names HasReadFirst (ap (option_map told) c.hand_back.ensures.bank)
    (c.replay-bank.ensures.serials ∙ fresh.named) (c.replay-bank.ensures.unrun nine)
