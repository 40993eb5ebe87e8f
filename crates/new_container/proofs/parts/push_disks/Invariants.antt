use Rattle.std.proofs.Common.{◌≡◌, ℕ, ◌<◌, ◌++◌, map, take, get_or}
use Rattle.std.specs.List.{concat, flat_map}
use Rattle.new_container.specs.declared.disk.NewDisk.{NewDisk}
use Rattle.new_container.specs.Created.{IsDisk, disk_part}
use Rattle.new_container.proofs.parts.push_disks.Given as goal

abbrev pub invariant-loop-disk : goal.invariant-loop-disk
invariant-loop-disk l =
    (l.bytes.items ≡ l.fn.bytes.items ++ flat_map concat (map disk_part (take l.disk-index l.disks)))
    × ((k : ℕ) (d : NewDisk) → k < l.disk-index → IsDisk (get_or l.disks k d))
