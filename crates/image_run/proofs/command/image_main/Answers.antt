use Rattle.std.proofs.Common.{Err, ap, arith, refl, subst}
use Rattle.std.specs.Fmt.{digits}
use Rattle.image_words.specs.Args.{words_of}
use Rattle.image_words.specs.Words.{texts}
use Rattle.image_run.specs.Lines.{images_limit_line, words_line}
use Rattle.image_run.specs.Outside.{outside_told}
use Rattle.image_run.specs.Requests.{Request, NotWords, TooManyImages}
use Rattle.image_run.specs.Runs.{Carries}
use Rattle.image_run.proofs.Carried.{asks_nothing, asks_too_many, carries_line, one_request, runs_unmade}
use Rattle.image_words.proofs.Grammar.{length-words}
use Rattle.image_run.proofs.command.image_main.Goals as goal

pub returns-in-Ok : goal.returns-in-Ok
returns-in-Ok g c request asked =
    let outside = outside_told g.H.Shelf g.H.Held.Bank g.S.Source g.K.Sink in
    let done = c.carry_out in
    let before = outside c.args.shelf.now c.args.source.now c.args.sink.now in
    let after = outside done.new.shelf done.new.source done.new.sink in
    let command = c.in-Ok.command in
    subst (λ (r : Request). Carries r before after done.result.0)
    (one_request (texts c.args.words.now) command.verb (words_of command.images.items) c.in-Ok.ensures.found (omega (arith, length-words command.images.items, c.in-Ok.ensures.few)) c.in-Ok.ensures.only c.in-Ok.ensures.within request asked)
    done.ensures

pub returns-in-Err-Words : goal.returns-in-Err-Words
returns-in-Err-Words g c =
    let outside = outside_told g.H.Shelf g.H.Held.Bank g.S.Source g.K.Sink in
    let before = outside c.args.shelf.now c.args.source.now c.args.sink.now in
    let after = outside c.args.shelf.now c.args.source.now c.end.new.sink in
    asks_nothing (texts c.args.words.now) before after c.end.result.0 (c.in-Err-Words.ensures.refused (ap Err c.in-Err-Words.field-0-is))
    (carries_line NotWords before after words_line 1 c.end.result.0 (λ told s printed. (record { shelf = refl; source = refl }, printed)) c.end.ensures)

pub returns-in-Err-Images : goal.returns-in-Err-Images
unfolding digits
returns-in-Err-Images g c =
    let outside = outside_told g.H.Shelf g.H.Held.Bank g.S.Source g.K.Sink in
    let before = outside c.args.shelf.now c.args.source.now c.args.sink.now in
    let after = outside c.args.shelf.now c.args.source.now c.end-in-Err-Images.new.sink in
    let is = ap Err c.in-Err-Images.field-0-is in
    asks_too_many (texts c.args.words.now) before after c.end-in-Err-Images.result.0 (c.in-Err-Images.ensures.past is) (c.in-Err-Images.ensures.past_alone is)
    (carries_line TooManyImages before after images_limit_line 10 c.end-in-Err-Images.result.0 (λ told s printed. (record { shelf = refl; source = refl }, printed)) c.end-in-Err-Images.ensures)

pub returns-in-Err-Memory : goal.returns-in-Err-Memory
returns-in-Err-Memory g c =
    let outside = outside_told g.H.Shelf g.H.Held.Bank g.S.Source g.K.Sink in
    let before = outside c.args.shelf.now c.args.source.now c.args.sink.now in
    let after = outside c.args.shelf.now c.args.source.now c.end_without_memory.new.sink in
    runs_unmade (texts c.args.words.now) before after c.end_without_memory.result.0 c.requires.unused refl refl c.end_without_memory.ensures.status c.end_without_memory.ensures.line
