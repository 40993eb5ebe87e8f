-- The control state of a run: all that turns look at and change, without the disks. Source: this project's own.
use Rattle.std.specs.Prelude.{List}
use Rattle.array_machine.specs.Volumes.{Volume}
use Rattle.array_machine.specs.Clients.{Client}
use Rattle.array_machine.specs.Rounds.{Round}
use Rattle.array_machine.specs.Managers.{Manager}

pub record Control : Type 0 where
  pub round : Round
  pub volumes : List Volume
  pub clients : List Client
  pub manager : Manager
