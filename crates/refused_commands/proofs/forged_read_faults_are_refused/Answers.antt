use Rattle.std.proofs.Common.{◌≡◌, true, inl, inr}
use Rattle.image_outside.specs.Told.{SourceTold}
use Rattle.image_run.specs.declared.script.ScriptStop.{ScriptStop}
use Rattle.image_run.specs.declared.script.ScriptStop.TheVariants.{Memory, Read, Bytes, Line, Limit}
use Rattle.image_run.specs.Scripts.{StopsBy, stop_status}
use Rattle.image_replay.specs.Replays.{ReplaysBy}
use Rattle.refused_commands.specs.Wrong.{StandsStill}
use Rattle.refused_commands.proofs.Rises.{cannot_rise}
use Rattle.refused_commands.proofs.Statuses.{is_plain, opens_not_plain, opens_plain, replays_plain}
use Rattle.refused_commands.proofs.forged_read_faults_are_refused.Goals as goal

-- only a read that failed stops a command with this status
cannot_stop : (old new : SourceTold) → StandsStill old.faults new.faults → (stop : ScriptStop) → StopsBy old new stop → 5 ≡ stop_status stop → ⊥
cannot_stop old new still Memory cause is = cc is
cannot_stop old new still Read cause is = cannot_rise old.faults new.faults still cause
cannot_stop old new still Bytes cause is = cc is
cannot_stop old new still (Line number kind) cause is = cc is
cannot_stop old new still (Limit kind number) cause is = cc is

not_plain : is_plain 5 ≡ true → ⊥
not_plain plain = cc plain

pub returns-clause-faultless : goal.returns-clause-faultless
returns-clause-faultless c limit images before after lines still done = elim done [
  | inl fails ↦ not_plain (opens_not_plain images before.shelf after.shelf lines 5 fails.1)
  | inr behind ↦ elim behind [
    | inl stops ↦ cannot_stop before.source after.source still stops.stop stops.cause stops.prints.status_is
    | inr replays ↦ not_plain (opens_plain images before.shelf after.shelf 5 (λ bank. ReplaysBy replays.script limit bank lines 5) (λ bank. replays_plain replays.script limit bank lines 5) replays.opened)
  ]
]

pub returns-clause-greedy : goal.returns-clause-greedy
returns-clause-greedy c run images before after lines status differs done = differs done.0

pub returns-clause-greedy_arrival : goal.returns-clause-greedy_arrival
returns-clause-greedy_arrival c run images before after lines status differs done = differs done.0
