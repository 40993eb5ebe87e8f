-- Where a run begins. Source: this project's own.
use Rattle.std.specs.Prelude.{false, None}
use Rattle.array_model.specs.Blocks.{Laid}
use Rattle.block_meaning.specs.Reading.{block_words}
use Rattle.stage_machine.specs.Rounds as rounds
use Rattle.stage_machine.specs.States as states
use Rattle.stage_machine.specs.Machine.{Control, clients_of}
use Rattle.control_state.specs.declared.plan.Plan.{Plan}
use Rattle.control_state.specs.Seen.{plan_setting, numbers}

-- no round has ended, the volume is readonly, and each client has all its operations left
abbrev pub begins_at : Plan → Laid → Control
begins_at p newest = record {
  round = record {
    book = newest;
    last = newest;
    note = block_words.generation newest.anchor;
    started = false;
    working = numbers p.targets.items;
    phase = rounds.Rest;
  };
  state = states.IsReadonly;
  clients = clients_of (plan_setting p);
  failed = None;
}
