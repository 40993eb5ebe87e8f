-- Which journals are short: what the length that is said to be enough rests on. Source: this project's own.
use Rattle.std.specs.Prelude.{⊤, ◌≡◌, ℕ, ◌<◌, ◌≤◌, true, List, is_some, ◌⊎◌}
use Rattle.std.specs.List.{AllByRecursion}
use Rattle.array_model.specs.declared.journal.Entry.{Entry}
use Rattle.array_model.specs.declared.journal.Event.{Event}
use Rattle.array_model.specs.declared.journal.Event.TheVariants.{Pass}
use Rattle.array_model.specs.Script.{Asked}
use Rattle.array_model.specs.AnswerLaw.{IsInOrder}
use Rattle.array_model.specs.Start.{Start}
use Rattle.array_model.specs.Form.{NamesOp}
use Rattle.array_model.specs.Counts.{KeepsCounts, has_spare}
use Rattle.array_form.specs.Names.{NamesWhatIsThere}

-- two volumes at most, and each that was started is one of them
pub record HasFewVolumes (start : Start) : Type 0 where
  pub few : start.words.volumes start.newest ≤ 2
  pub started : (v : ℕ) → start.is_started v ≡ true → v < start.words.volumes start.newest

-- a pass begins only where the opening gives its volume a row, or there is a spare
abbrev pub PassHasRoom : Start → Asked → Event → Type 0
PassHasRoom start asked (Pass v first) =
    (is_some (start.pass_from v.0) ≡ true) ⊎ (has_spare start asked ≡ true)
PassHasRoom start asked _ = ⊤

-- the journal keeps its counts, names what is there, and has each operation's submit and answer in order
pub record KeepsToRoom (start : Start) (asked : Asked) (journal : List Entry) : Type 0 where
  pub few : HasFewVolumes start
  pub counts : KeepsCounts start asked journal
  pub there : NamesWhatIsThere start journal
  pub named : AllByRecursion (λ e. NamesOp asked.ops e.event) journal
  pub order : (c : ℕ) → IsInOrder asked.ops journal c
  pub passes : AllByRecursion (λ e. PassHasRoom start asked e.event) journal
