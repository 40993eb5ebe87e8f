use Rattle.array_openings.proofs.NewVolumes.{new_sound}
use Rattle.array_openings.proofs.EditedVolumes.{edited_sound}
use Rattle.array_openings.proofs.law.new_and_edited_volumes_are_sound.Goals as goal

pub returns : goal.returns
returns c = record {
  made = new_sound;
  edited = λ k f es rest can sound runs. edited_sound k f rest es can sound runs;
}
