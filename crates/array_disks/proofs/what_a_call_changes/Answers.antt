use Rattle.array_disks.proofs.Logs.{disk_after_call, other_stays}
use Rattle.array_disks.proofs.Openings.{account_opened}
use Rattle.array_disks.proofs.Steps.{same_blocks, account_step, changes_step}
use Rattle.array_disks.proofs.what_a_call_changes.Goals as goal

pub returns : goal.returns
returns c = record {
  here = λ W disks log call d. disk_after_call W disks d log call;
  elsewhere = λ W disks log call d other. other_stays W disks d log call other;
  rows = same_blocks;
  opened = account_opened;
  accounts = account_step;
  changes = λ W disks log d what went call account. changes_step W disks log d what went call (account d);
}
