-- Which disks and volumes the entries of a journal name. Source: this project's own.
use Rattle.std.specs.Prelude.{⊤, ◌≡◌, ℕ, ◌<◌, true, List}
use Rattle.std.specs.List.{AllByRecursion}
use Rattle.array_model.specs.declared.journal.Entry.{Entry}
use Rattle.array_model.specs.declared.journal.Event.{Event}
use Rattle.array_model.specs.declared.journal.Event.TheVariants.{Spare, Ready, Pass, Point, PassEnd, Active, Clean, Unblock, Pending, Idle, Fault}
use Rattle.array_model.specs.Start.{Start}
use Rattle.array_machine.specs.Setting.{Setting}
use Rattle.array_machine.specs.Numbers.{has}
use Rattle.array_machine.specs.States.{IsReadonly}
use Rattle.array_machine.specs.Rounds.{OfSpare, Phase, Going}
use Rattle.array_machine.specs.Control.{Control}
use Rattle.array_paths.specs.InTurn.{state_of}

-- THE LAW

-- a disk that fails, is let go or becomes a spare is one of the bank; a volume was started at opening
abbrev pub NamesThere : Start → Event → Type 0
NamesThere start (Fault d) = d.0 < start.disks.count
NamesThere start (Unblock d) = d.0 < start.disks.count
NamesThere start (Spare d) = d.0 < start.disks.count
NamesThere start (Ready v) = start.is_started v.0 ≡ true
NamesThere start (Pass v first) = start.is_started v.0 ≡ true
NamesThere start (Point v unit) = start.is_started v.0 ≡ true
NamesThere start (PassEnd v) = start.is_started v.0 ≡ true
NamesThere start (Pending v) = start.is_started v.0 ≡ true
NamesThere start (Active v) = start.is_started v.0 ≡ true
NamesThere start (Idle v) = start.is_started v.0 ≡ true
NamesThere start (Clean v) = start.is_started v.0 ≡ true
NamesThere start _ = ⊤

abbrev pub NamesWhatIsThere : Start → List Entry → Type 0
NamesWhatIsThere start journal = AllByRecursion (λ e. NamesThere start e.event) journal

-- WHAT A RUN KEEPS

-- the disk that is to become a spare
abbrev pub SpareIsThere : (count : ℕ) → Phase → Type 0
SpareIsThere count (Going (OfSpare d) m step left late done) = d < count
SpareIsThere count _ = ⊤

-- blocked disks and the one that is to become a spare are there, and a volume that isn't read-only was started
pub record NamesSo (S : Setting) (c : Control) (journal : List Entry) : Type 0 where
  pub law : NamesWhatIsThere S.start journal
  pub blocked : (d : ℕ) → has d c.round.blocked ≡ true → d < S.start.disks.count
  pub spare : SpareIsThere S.start.disks.count c.round.phase
  pub states : (v : ℕ) → (state_of c v ≡ IsReadonly → ⊥) → S.start.is_started v ≡ true
