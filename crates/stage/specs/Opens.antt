-- What a stage takes as given when it is opened. Source: this project's own.
use Rattle.std.specs.Prelude.{◌≡◌, ℕ, List, []}
use Rattle.array_model.specs.Kept.{ScriptState}
use Rattle.control_state.specs.Book.{laid_at}
use Rattle.control_state.specs.Seen.{numbers}
use Rattle.stage_machine.specs.Machine.{begins_at}
use Rattle.stage.specs.declared.open.Opening.{Opening}
use Rattle.stage.specs.Stages.{Given, Seen, setting_of}

abbrev pub given_by : Opening → ScriptState → List ℕ → Given
given_by o script sizes = record {
  ops = script.ops;
  targets = numbers o.targets.items;
  members = numbers o.members.items;
  pba = o.pba;
  size = o.size;
  newest = laid_at o.newest;
  sizes = sizes;
}

-- a stage at its opening: the machine begins, no call was made, and the journal is empty
pub record IsOpened {B : Type 0} (s : Seen B) (bank : B) (given : Given) (limit : ℕ) : Type 0 where
  pub bank_kept : s.bank ≡ bank
  pub takes : s.given ≡ given
  pub begins : s.control ≡ (begins_at (setting_of given)).control
  pub no_calls : s.calls ≡ 0
  pub empty : s.journal ≡ []
  pub room : s.room ≡ limit
