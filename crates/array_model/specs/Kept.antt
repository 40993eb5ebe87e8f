-- What contracts see of a script and of a journal. Source: this project's own.
use Rattle.std.specs.Prelude.{ℕ, List}
use Rattle.array_model.specs.declared.script.Op.{Op}
use Rattle.array_model.specs.declared.script.Ask.{Ask}
use Rattle.array_model.specs.declared.script.Turn.{Turn}
use Rattle.array_model.specs.declared.journal.Entry.{Entry}
use Rattle.array_model.specs.Script.{Asked}

-- the operations, the asks and the turns
pub record ScriptState : Type 0 where
  pub ops : List Op
  pub asks : List Ask
  pub turns : List Turn

-- what a script asks for, but for its turns
abbrev pub asked_by : ScriptState → Asked
asked_by s = record { ops = s.ops; asks = s.asks }

-- the entries, and how many there can be
pub record JournalState : Type 0 where
  pub entries : List Entry
  pub room : ℕ
