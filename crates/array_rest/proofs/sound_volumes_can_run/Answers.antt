use Rattle.array_rest.proofs.SeatRuns.{each_seated, sound_is_trusted}
use Rattle.array_rest.proofs.sound_volumes_can_run.Goals as goal

pub returns : goal.returns
returns c = record {
  runs = λ S P volumes spares o able w run. (each_seated S P volumes spares o w run).run able;
  trusted = λ S P volumes spares o able w run v is.
      sound_is_trusted S P volumes spares o able w run v is.started is.sound;
}
