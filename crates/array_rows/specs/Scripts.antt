-- The scripts of the worked rows: operations, asks and turns. Source: this project's own.
use Rattle.std.specs.Prelude.{ℕ, ◌+◌, List, [], ◌∷◌, ◌++◌}
use Rattle.std.specs.List.{repeat}
use Rattle.units.specs.declared.volume.VolNo.{VolNo}
use Rattle.units.specs.declared.disk.DiskNo.{DiskNo}
use Rattle.units.specs.declared.disk.Sector.{Sector}
use Rattle.array_model.specs.declared.script.Op.{Op}
use Rattle.array_model.specs.declared.script.OpKind.TheVariants.{Write, Read, Whole}
use Rattle.array_model.specs.declared.script.Ask.{Ask}
use Rattle.array_model.specs.declared.script.Ask.TheVariants.{Add}
use Rattle.array_model.specs.declared.journal.Entry.{Entry}
use Rattle.array_model.specs.declared.journal.Event.{Event}
use Rattle.array_machine.specs.Machine.{Actor, Monitor, Client, Fail, Kill, Takeover}
use Rattle.array_rows.specs.SmallBlocks.{SmallBlock, lay, size_of, read_block}
use Rattle.array_rows.specs.SmallSettings.{Small}
use Rattle.array_rows.specs.Runs.{Bounds, left_by}
use Rattle.array_rows.specs.Containers.{mirror, mirror_behind, parity, two_mirrors}

-- OPERATIONS, AND LINES OF A JOURNAL

abbrev pub the_value : ℕ
the_value = 0x1122334455667788

abbrev pub volume : ℕ → VolNo
volume v = record { 0 = v }

abbrev pub disk : ℕ → DiskNo
disk d = record { 0 = d }

abbrev pub writes : (client v sector : ℕ) → Op
writes k v sector = record { client = k; kind = Write (volume v) sector the_value }

abbrev pub reads : (client v sector : ℕ) → Op
reads k v sector = record { client = k; kind = Read (volume v) sector }

abbrev pub waits : (client v : ℕ) → Op
waits k v = record { client = k; kind = Whole (volume v) }

abbrev pub at : ℕ → Event → Entry
at stamp event = record { stamp = stamp; event = event }

-- the anchor sector of a block, and what stands in the anchor's place of a disk behind a run
abbrev pub anchor_of : SmallBlock → Sector
anchor_of b = (lay b).anchor

abbrev pub anchor_left : Small → Bounds → List Actor → (d : ℕ) → Sector
anchor_left s b turns d = left_by s b turns d 4094

-- the size of the block that stands on a disk behind a run, in bytes
abbrev pub size_left : Small → Bounds → List Actor → (d : ℕ) → ℕ
size_left s b turns d = size_of (read_block (anchor_left s b turns d).0)

-- WITH OPERATIONS

-- with these operations, asks, and so many disks more
abbrev pub with_ops : List Op → Small → Small
with_ops ops s = record s { ops = ops }

abbrev pub with_asks : List Ask → Small → Small
with_asks asks s = record s { asks = asks }

abbrev pub with_disk : Small → Small
with_disk s = record s { disks = s.disks + 1 }

-- a mirror of so many sectors, and a write to sector 5
abbrev pub written_mirror : ℕ → Small
written_mirror size = with_ops (writes 0 0 5 ∷ []) (mirror size)

-- parity over three members, and a write to sector 0
abbrev pub written_parity : Small
written_parity = with_ops (writes 0 0 0 ∷ []) (parity 3 8 32)

-- two volumes, and a write to the second
abbrev pub second_written : Small
second_written = with_ops (writes 0 1 0 ∷ []) two_mirrors

-- a mirror and a blank disk, which is to become a spare; a client waits until the volume is whole
abbrev pub asking_for_spare : ℕ → Small
asking_for_spare size = with_ops (waits 0 0 ∷ []) (with_asks (Add 2 ∷ []) (with_disk (mirror size)))

-- the same where the blank disk is the first: the members are the second and the third
abbrev pub asking_for_first : Small
asking_for_first = with_ops (waits 0 0 ∷ []) (with_asks (Add 0 ∷ []) mirror_behind)

-- TURNS

-- so many turns of the monitor
abbrev pub monitors : ℕ → List Actor
monitors n = repeat n (Monitor ∷ [])

-- the second member fails when the first one's data sector was written
abbrev pub fails_in_write : List Actor
fails_in_write = monitors 6 ++ (Client 0 ∷ (monitors 6 ++ Client 0 ∷ Fail 1 ∷ []))

-- a member fails before anything is written
abbrev pub fails_before : ℕ → ℕ → List Actor
fails_before turns d = monitors turns ++ Fail d ∷ []

-- a kill when the first member has the dirty round's block, and a takeover
abbrev pub killed_in_round : List Actor
killed_in_round = monitors 6 ++ (Client 0 ∷ (monitors 3 ++ Kill ∷ Takeover ∷ []))

-- with one member left, a kill between the extended sector and the anchor of its block, and a takeover
abbrev pub killed_in_block : List Actor
killed_in_block = monitors 9 ++ (Fail 1 ∷ (monitors 5 ++ (Client 0 ∷ (monitors 2 ++ Kill ∷ Takeover ∷ []))))
