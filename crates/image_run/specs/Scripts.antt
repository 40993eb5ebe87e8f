-- The script of a command: the text of a source, or why there is none and the line that says so. Source: this project's
-- own.
use Rattle.std.specs.Prelude.{◌≡◌, ℕ, ◌+◌, ◌≤◌, ◌⊎◌, true, List, [], ◌∷◌, length, codes, ⊤}
use Rattle.std.specs.Fmt.{decimal}
use Rattle.array_model.specs.Kept.{ScriptState}
use Rattle.member_bank.specs.Faults.{Rose}
use Rattle.run_script.specs.declared.fault.LineKind.{LineKind}
use Rattle.run_script.specs.declared.fault.LineKind.TheVariants.{Word, Missing, Number, Value, Name, Turns}
use Rattle.run_script.specs.declared.fault.LimitKind.{LimitKind}
use Rattle.run_script.specs.declared.fault.LimitKind.TheVariants as limits
use Rattle.run_script.specs.declared.fault.ScriptFault.{ScriptFault}
use Rattle.run_script.specs.declared.fault.ScriptFault.TheVariants as faults
use Rattle.run_script.specs.Grammar.{lines_of}
use Rattle.run_script.specs.Scripts.{AreRight, IsFirstWrong, orders_in, script_of}
use Rattle.image_outside.specs.declared.source.TheConstants.{MAX_SOURCE_BYTES}
use Rattle.image_outside.specs.declared.status.TheConstants.Status.{LIMIT, MEMORY, READ_FAULT, SCRIPT}
use Rattle.image_outside.specs.Outside.{TakesAll, TakesFront}
use Rattle.image_outside.specs.Endings.{memory_line}
use Rattle.image_outside.specs.Told.{SourceTold}
use Rattle.imsm_text.specs.Text.{line}
use Rattle.image_run.specs.Lines.{limit_line}
use Rattle.image_run.specs.declared.script.ScriptStop.{ScriptStop}
use Rattle.image_run.specs.declared.script.ScriptStop.TheVariants.{Memory, Read, Bytes, Line, Limit}

-- a text is a script of operations and turns
pub record IsScript (text : List ℕ) (script : ScriptState) : Type 0 where
  pub right : AreRight true (lines_of text) (length (lines_of text))
  pub script_is : script ≡ script_of (orders_in true (lines_of text))

-- a source was read to its end, and this is what was left of it, no more than is read of a source
pub record TakesText (old new : SourceTold) (text : List ℕ) : Type 0 where
  pub taken : TakesAll old.left new.left text
  pub few : length text ≤ MAX_SOURCE_BYTES

-- what was left of a source is a script
pub record TakesScript (old new : SourceTold) (script : ScriptState) : Type 0 where
  pub text : List ℕ
  pub taken : TakesText old new text
  pub is : IsScript text script

-- this is what is wrong first with what was left of a source
pub record TakesFault (old new : SourceTold) (fault : ScriptFault) : Type 0 where
  pub text : List ℕ
  pub taken : TakesText old new text
  pub wrong : IsFirstWrong true (lines_of text) fault

-- some first bytes of what was left of a source were read, and at most one past its limit
pub record TakesSome (old new : SourceTold) : Type 0 where
  pub count : ℕ
  pub few : count ≤ MAX_SOURCE_BYTES + 1
  pub taken : TakesFront old.left new.left count

-- the cause of a stop; want of memory has none
abbrev pub StopsBy : (old new : SourceTold) → ScriptStop → Type 0
StopsBy old new Memory = ⊤
StopsBy old new Read = Rose old.faults new.faults
StopsBy old new Bytes = TakesFront old.left new.left (MAX_SOURCE_BYTES + 1)
StopsBy old new (Line number kind) = TakesFault old new (faults.Line number kind)
StopsBy old new (Limit kind number) = TakesFault old new (faults.Limit kind number)

abbrev pub kind_word : LineKind → List ℕ
kind_word Word = codes "word"
kind_word Missing = codes "missing"
kind_word Number = codes "number"
kind_word Value = codes "value"
kind_word Name = codes "name"
kind_word Turns = codes "turns"

abbrev pub limit_word : LimitKind → List ℕ
limit_word limits.Images = codes "images"
limit_word limits.Bytes = codes "bytes"
limit_word limits.Ops = codes "ops"
limit_word limits.Asks = codes "asks"
limit_word limits.Turns = codes "turns"
limit_word limits.Clients = codes "clients"

-- the number of the line, from 1, and what is wrong with its first wrong word
abbrev pub script_line : ℕ → LineKind → List ℕ
script_line number kind = line (codes "script") (decimal number ∷ kind_word kind ∷ [])

abbrev pub stop_line : ScriptStop → List ℕ
stop_line Memory = memory_line
stop_line Read = line (codes "read") (codes "fault" ∷ [])
stop_line Bytes = limit_line (codes "bytes") (MAX_SOURCE_BYTES + 1)
stop_line (Line number kind) = script_line number kind
stop_line (Limit kind number) = limit_line (limit_word kind) number

abbrev pub stop_status : ScriptStop → ℕ
stop_status Memory = MEMORY.0
stop_status Read = READ_FAULT.0
stop_status Bytes = LIMIT.0
stop_status (Line number kind) = SCRIPT.0
stop_status (Limit kind number) = LIMIT.0

-- a status without a script: a line is wrong, the source fails, or a limit is passed
abbrev pub IsStopped : ℕ → Type 0
IsStopped status = (status ≡ SCRIPT.0) ⊎ (status ≡ READ_FAULT.0) ⊎ (status ≡ LIMIT.0)
