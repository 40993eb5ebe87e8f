-- Members as the machine has them, seen in the code's types. Source: this project's own.
use Rattle.std.specs.Prelude.{List, map}
use Rattle.array_machine.specs.Volumes.{Member}
use Rattle.row_path.specs.declared.members.MemberFact.{MemberFact}
use Rattle.row_path.specs.declared.members.Members.{Members}

abbrev pub member_seen : MemberFact → Member
member_seen m = record { working = m.working; in_sync = m.in_sync; blocked = m.blocked }

abbrev pub members_seen : Members → List Member
members_seen m = map member_seen m.slots.items
