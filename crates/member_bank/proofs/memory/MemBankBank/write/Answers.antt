use Rattle.std.specs.Prelude.{is_ok, length}
use Rattle.member_bank.specs.Memory.{kept_next, stored_of}
use Rattle.member_bank.proofs.Showing.{logs_written, sizes_written}
use Rattle.member_bank.proofs.memory.MemBankBank.write.Goals as goal

pub returns-clause-logs : goal.returns-clause-logs
returns-clause-logs c = (
  stored_of (kept_next c.args.self.now) (length c.args.from.now),
  logs_written c.args.self.now c.store.new.self c.args.d.0 c.args.place c.args.from.now (is_ok c.store.result) c.store.ensures.answer c.store.ensures.written,
)

pub returns-clause-sizes : goal.returns-clause-sizes
returns-clause-sizes c =
    sizes_written c.args.self.now c.store.new.self c.args.d.0 c.args.place c.args.from.now (is_ok c.store.result) c.store.ensures.written c.requires.place
