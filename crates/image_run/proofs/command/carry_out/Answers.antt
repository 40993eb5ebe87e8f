use Rattle.std.proofs.Common.{ap, refl, subst, sym}
use Rattle.image_words.specs.Args.{words_of}
use Rattle.image_words.specs.declared.verbs.Verb.TheVariants as verbs
use Rattle.image_create.specs.Creates.{CreatesBy}
use Rattle.image_examine.specs.Endings.{Examines}
use Rattle.image_assemble.specs.Endings.{Assembles}
use Rattle.image_incremental.specs.Endings.{Arrives}
use Rattle.image_run.specs.Does.{OnImages, ReplayEnds}
use Rattle.image_run.specs.Outside.{outside_told}
use Rattle.image_run.specs.Requests.{Request, Assemble, Create, Examine, Incremental, Replay}
use Rattle.image_run.specs.Runs.{Carries}
use Rattle.image_run.proofs.Carried.{carries, same}
use Rattle.image_run.proofs.command.carry_out.Goals as goal

pub returns-in-Assemble : goal.returns-in-Assemble
returns-in-Assemble g c =
    let outside = outside_told g.H.Shelf g.H.Held.Bank g.S.Source g.K.Sink in
    let done = c.assemble_images in
    let before = outside c.args.shelf.now c.args.source.now c.args.sink.now in
    let after = outside done.new.shelf c.args.source.now done.new.sink in
    let images = words_of c.as_slice.result.now in
    let run = c.in-Assemble.run' in
    subst (λ (r : Request). Carries r before after done.result.0)
    (sym (same c.args.command.verb (words_of c.args.command.images.items) (verbs.Assemble run) images (c.in-Assemble.is, sym (ap words_of c.as_slice.ensures.value))))
    (carries (Assemble run images) before after (OnImages images before.shelf after.shelf (Assembles run)) done.result.0 (λ lines s so. (refl, so)) (λ is. (refl, done.ensures.leaves)) done.ensures.ends)

pub returns-in-Incremental : goal.returns-in-Incremental
returns-in-Incremental g c =
    let outside = outside_told g.H.Shelf g.H.Held.Bank g.S.Source g.K.Sink in
    let done = c.arrive_images in
    let before = outside c.args.shelf.now c.args.source.now c.args.sink.now in
    let after = outside done.new.shelf c.args.source.now done.new.sink in
    let images = words_of c.as_slice-in-Incremental.result.now in
    let run = c.in-Incremental.run' in
    subst (λ (r : Request). Carries r before after done.result.0)
    (sym (same c.args.command.verb (words_of c.args.command.images.items) (verbs.Incremental run) images (c.in-Incremental.is, sym (ap words_of c.as_slice-in-Incremental.ensures.value))))
    (carries (Incremental run images) before after (OnImages images before.shelf after.shelf (Arrives run)) done.result.0 (λ lines s so. (refl, so)) (λ is. (refl, done.ensures.leaves)) done.ensures.ends)

pub returns-in-Examine : goal.returns-in-Examine
returns-in-Examine g c =
    let outside = outside_told g.H.Shelf g.H.Held.Bank g.S.Source g.K.Sink in
    let done = c.examine_image in
    let before = outside c.args.shelf.now c.args.source.now c.args.sink.now in
    let after = outside done.new.shelf c.args.source.now done.new.sink in
    let images = words_of c.as_slice-in-Examine.result.now in
    subst (λ (r : Request). Carries r before after done.result.0)
    (sym (same c.args.command.verb (words_of c.args.command.images.items) verbs.Examine images (c.in-Examine.is, sym (ap words_of c.as_slice-in-Examine.ensures.value))))
    (carries (Examine images) before after (OnImages images before.shelf after.shelf Examines) done.result.0 (λ lines s so. (refl, so)) (λ is. (refl, done.ensures.leaves)) done.ensures.ends)

pub returns-in-Create : goal.returns-in-Create
returns-in-Create g c =
    let outside = outside_told g.H.Shelf g.H.Held.Bank g.S.Source g.K.Sink in
    let done = c.create_images in
    let before = outside c.args.shelf.now c.args.source.now c.args.sink.now in
    let after = outside done.new.shelf c.args.source.now done.new.sink in
    let images = words_of c.as_slice-in-Create.result.now in
    let made = c.in-Create.made in
    subst (λ (r : Request). Carries r before after done.result.0)
    (sym (same c.args.command.verb (words_of c.args.command.images.items) (verbs.Create made) images (c.in-Create.is, sym (ap words_of c.as_slice-in-Create.ensures.value))))
    (carries (Create made images) before after (OnImages images before.shelf after.shelf (CreatesBy made)) done.result.0 (λ lines s so. (refl, so)) (λ is. (refl, done.ensures.unmade is)) done.ensures.ends)

pub returns : goal.returns
returns g c =
    let outside = outside_told g.H.Shelf g.H.Held.Bank g.S.Source g.K.Sink in
    let done = c.replay_images in
    let before = outside c.args.shelf.now c.args.source.now c.args.sink.now in
    let after = outside done.new.shelf done.new.source done.new.sink in
    let images = words_of c.as_slice-in-Replay.result.now in
    let limit = c.in-Replay.limit in
    subst (λ (r : Request). Carries r before after done.result.0)
    (sym (same c.args.command.verb (words_of c.args.command.images.items) (verbs.Replay limit) images (c.in-Replay.is, sym (ap words_of c.as_slice-in-Replay.ensures.value))))
    (carries (Replay limit images) before after (ReplayEnds limit images before after) done.result.0 (λ lines s so. so) (λ is. done.ensures.unrun is) done.ensures.ends)
