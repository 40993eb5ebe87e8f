-- A stage over disks that hold a container runs as the machine does over these disks.
use Rattle.std.proofs.Common.{◌≡◌, ℕ, Bool, false, if◌then◌else◌, nat_lt, [], Some, None, refl, ap, sym}
use Rattle.units.specs.declared.disk.Sector.{Sector}
use Rattle.units.specs.declared.volume.Level.TheVariants.{One}
use Rattle.array_model.specs.Script.{Asked}
use Rattle.array_model.specs.Placement.{Shape, placement_by, placement_of}
use Rattle.array_model.specs.Start.{disks_of}
use Rattle.stage_machine.specs.Setting.{Setting}
use Rattle.stage_machine.specs.Machine.{World, Reached, Honest}
use Rattle.stage_machine.specs.Jobs.{the_shape}
use Rattle.stage_machine.proofs.Alike.{Alike, reached_alike, honest_alike}
use Rattle.first_opening.specs.Opened.{Opened, IsOpening, setting_of}
use Rattle.first_opening.proofs.Volume.{first-volume}
use Rattle.control_state.specs.Seen.{no_sector}
use Rattle.stage.specs.Stages as stages
use Rattle.stage.specs.Runs.{holding}
use Rattle.stage_law.specs.Runs.{given_on, shape_on}
use Rattle.stage_law.proofs.Agreement.{alike}

-- the shape that a stage has of the volume
abbrev pub mirror_shape : Opened → Shape
mirror_shape o = record { level = Some One; members = 2; size = (shape_on o).size; strip = 0; pba = (shape_on o).pba; rows = (shape_on o).size }

same_place : (k : Shape) → k.level ≡ Some One → (s : ℕ) → (if nat_lt s k.size then Some (record { main = 0; other = 1; row = s }) else None) ≡ placement_of k s
same_place k one s = sym (ap (λ l. placement_by l k s) one)

module _ (o : Opened) (asked : Asked) (content : ℕ → ℕ → Sector) (unsure : ℕ → ℕ → Bool) (opens : IsOpening o) where
  abbrev pub T : Setting
  T = setting_of o asked content unsure

  places : (s : ℕ) → placement_of (mirror_shape o) s ≡ placement_of (the_shape T) s
  places s = same_place (shape_on o) (first-volume o asked content unsure opens).level s

  -- a stage takes the same turns as the machine over the disks
  pub alike_on : Alike (stages.setting_of (given_on o asked.ops)) T
  alike_on = alike T (λ m v. mirror_shape o) (disks_of [] o.sizes []) (λ v. false) (λ v. None) (λ d. false) (λ v s. no_sector) (λ v s. false) [] (λ d. refl) refl places

  pub reached_on : (w : World) → Reached (stages.setting_of (given_on o asked.ops)) w → Reached T w
  reached_on = reached_alike (stages.setting_of (given_on o asked.ops)) T alike_on

  -- so is an honest run, where the disks held what they are said to hold
  pub honest_on : (w : World) → Honest (holding (stages.setting_of (given_on o asked.ops)) o.contents) w → Honest T w
  honest_on = honest_alike (holding (stages.setting_of (given_on o asked.ops)) o.contents) T
      (alike T (λ m v. mirror_shape o) (holding (stages.setting_of (given_on o asked.ops)) o.contents).start.disks (λ v. false) (λ v. None) (λ d. false) (λ v s. no_sector) (λ v s. false) [] (λ d. refl) refl places)
      (λ d p. refl)
