-- Volumes that open as they should can run.
use Rattle.std.proofs.Common.{◌≡◌, ℕ, true, List}
use Rattle.array_machine.specs.Setting.{Setting}
use Rattle.array_machine.specs.Volumes.{Volume, volume_at}
use Rattle.array_rest.specs.Seats.{OpensAble}
use Rattle.array_openings.specs.Sound.{OpensSound}

pub opens_able : (S : Setting) (volumes : List Volume) → OpensSound S volumes
    → ((v : ℕ) → (volume_at volumes v).started ≡ true → S.start.is_started v ≡ true) → OpensAble S volumes
opens_able S volumes sound is = record {
  runs = λ v started. sound.runs v (is v started);
  slots = λ v started. record { count = sound.count v (is v started); some = sound.some v (is v started) };
}
