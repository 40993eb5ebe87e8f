use Rattle.std.proofs.Common.{◌≡◌, inl, inr, ap, refl, subst, ◌∙◌}
use Rattle.std.specs.Option.{IsSomeAnd}
use Rattle.image_outside.specs.Told.{SinkTold}
use Rattle.image_outside.specs.Views.{sink_told}
use Rattle.image_outside.specs.Endings.{EndsIfMemory, Prints}
use Rattle.image_outside.proofs.Ended.{ends_map}
use Rattle.image_words.specs.Args.{words_of}
use Rattle.image_words.specs.Words.{serials_named}
use Rattle.image_verdict.proofs.Reading.{none_read}
use Rattle.image_replay.specs.Replays.{ReplaysBy}
use Rattle.image_run.specs.Does.{ReplayEnds}
use Rattle.image_run.specs.Openings.{OpensNot}
use Rattle.image_run.specs.Outside.{outside_told}
use Rattle.image_run.specs.Scripts.{IsStopped, stop_line, stop_status}
use Rattle.image_run.proofs.Opened.{opens_weaker}
use Rattle.image_run.proofs.replaying.replay_images.Goals as goal

pub returns-in-Ok-clause-ends : goal.returns-in-Ok-clause-ends
returns-in-Ok-clause-ends g c =
    let outside = outside_told g.H.Shelf g.H.Held.Bank g.S.Source g.K.Sink in
    let before = outside c.args.shelf.now c.args.source.now c.args.sink.now in
    let after = outside c.replay_on.new.shelf c.read_script.new.source c.replay_on.new.sink in
    let images = words_of c.args.images.now in
    let opens = c.in_default.ensures.ok in
    subst (λ (sink : SinkTold). EndsIfMemory sink after.sink (ReplayEnds c.args.limit images before after) c.replay_on.result.0) (ap (sink_told g.K.Sink) c.in_default.ensures.silent)
    (ends_map (sink_told g.K.Sink c.open_images.new.sink) after.sink
    (λ lines status. IsSomeAnd after.shelf.bank (λ bank. (bank.serials ≡ serials_named images) × ReplaysBy c.in-Ok.script c.args.limit bank lines status))
    (ReplayEnds c.args.limit images before after) c.replay_on.result.0
    (λ lines status so. inr (inr (record {
      script = c.in-Ok.script;
      taken = c.in-Ok.ensures.taken;
      opened = record { paths = c.replay_on.ensures.paths ∙ opens.paths; bank = so };
    })))
    c.replay_on.ensures.ends)

pub returns-in-Err-read_script-clause-ends : goal.returns-in-Err-read_script-clause-ends
returns-in-Err-read_script-clause-ends g c =
    let outside = outside_told g.H.Shelf g.H.Held.Bank g.S.Source g.K.Sink in
    let before = outside c.args.shelf.now c.args.source.now c.args.sink.now in
    let after = outside c.open_images.new.shelf c.read_script.new.source c.end_stopped.new.sink in
    let images = words_of c.args.images.now in
    let stop = c.in-Err-read_script.stop in
    subst (λ (sink : SinkTold). EndsIfMemory sink after.sink (ReplayEnds c.args.limit images before after) c.end_stopped.result.0) (ap (sink_told g.K.Sink) c.in_default.ensures.silent)
    (ends_map (sink_told g.K.Sink c.open_images.new.sink) after.sink (λ lines status. IsStopped status × Prints (stop_line stop) (stop_status stop) lines status)
    (ReplayEnds c.args.limit images before after) c.end_stopped.result.0
    (λ lines status so. inr (inl (record {
      opened = opens_weaker (λ bank fresh. fresh.fresh) c.in_default.ensures.ok;
      stop = stop;
      cause = c.in-Err-read_script.ensures.stopped;
      stopped = so.0;
      prints = so.1;
    })))
    c.end_stopped.ensures)

pub returns-in-Err-clause-ends : goal.returns-in-Err-clause-ends
returns-in-Err-clause-ends g c =
    let outside = outside_told g.H.Shelf g.H.Held.Bank g.S.Source g.K.Sink in
    let before = outside c.args.shelf.now c.args.source.now c.args.sink.now in
    let after = outside c.open_images.new.shelf c.args.source.now c.open_images.new.sink in
    let images = words_of c.args.images.now in
    ends_map before.sink after.sink (OpensNot images before.shelf after.shelf) (ReplayEnds c.args.limit images before after) c.in-Err.status.0
    (λ lines status not. inl (refl, not)) c.in-Err.ensures.ends

pub returns-in-Err-clause-unrun : goal.returns-in-Err-clause-unrun
returns-in-Err-clause-unrun g c nine = inl (refl, c.in-Err.ensures.front)

pub returns-in-Ok-clause-unrun : goal.returns-in-Ok-clause-unrun
returns-in-Ok-clause-unrun g c nine =
    inr (c.read_script.ensures.some, record { paths = c.replay_on.ensures.paths ∙ c.in_default.ensures.ok.paths; bank = c.replay_on.ensures.unrun nine })

pub returns-in-Err-read_script-clause-unrun : goal.returns-in-Err-read_script-clause-unrun
returns-in-Err-read_script-clause-unrun g c nine =
    inr (c.read_script.ensures.some, opens_weaker (λ bank fresh. none_read bank fresh.fresh) c.in_default.ensures.ok)
