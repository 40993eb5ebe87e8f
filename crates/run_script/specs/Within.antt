-- What every script that is taken keeps to. Source: this project's own.
use Rattle.std.specs.Prelude.{◌<◌, ◌≤◌, length, ⊤}
use Rattle.std.specs.List.{AllByRecursion}
use Rattle.units.specs.declared.bounds.TheConstants.{MAX_DISKS, MAX_VOLUMES}
use Rattle.array_model.specs.Kept.{ScriptState}
use Rattle.array_model.specs.declared.script.Op.{Op}
use Rattle.array_model.specs.declared.script.OpKind.{OpKind}
use Rattle.array_model.specs.declared.script.OpKind.TheVariants.{Write, Read, Whole}
use Rattle.array_model.specs.declared.script.Turn.{Turn}
use Rattle.array_model.specs.declared.script.Turn.TheVariants.{Monitor, Manager, Sync, Client, Quiet, Fail, Kill, Takeover}
use Rattle.run_script.specs.declared.limits.TheConstants.{MAX_OPS, MAX_TURNS, MAX_CLIENT}

-- it reads or writes a row of a volume that there may be; no line asks for anything else yet
abbrev pub NamesRow : OpKind → Type 0
NamesRow (Write v sector value) = v.0 < MAX_VOLUMES
NamesRow (Read v sector) = v.0 < MAX_VOLUMES
NamesRow (Whole v) = ⊥

-- an operation of a client, on a row of a volume, that there may be
pub record IsOperation (op : Op) : Type 0 where
  pub client : op.client ≤ MAX_CLIENT
  pub row : NamesRow op.kind

-- a turn of a client, on a volume, of a disk, that there may be
abbrev pub IsTurn : Turn → Type 0
IsTurn Monitor = ⊤
IsTurn Manager = ⊤
IsTurn (Sync v) = v.0 < MAX_VOLUMES
IsTurn (Client client) = client ≤ MAX_CLIENT
IsTurn (Quiet v) = v.0 < MAX_VOLUMES
IsTurn (Fail d) = d.0 < MAX_DISKS
IsTurn Kill = ⊤
IsTurn Takeover = ⊤

pub record IsWithin (s : ScriptState) : Type 0 where
  pub few_ops : length s.ops ≤ MAX_OPS
  pub few_turns : length s.turns ≤ MAX_TURNS
  pub ops : AllByRecursion IsOperation s.ops
  pub turns : AllByRecursion IsTurn s.turns
