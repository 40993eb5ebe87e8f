-- A bank over whose two disks of 4,096 sectors the mirror of `Example` of new_container was made, whatever they held.
-- Source: this project's own.
use Rattle.std.specs.Prelude.{List, map, Some}
use Rattle.units.specs.declared.disk.Sector.{Sector}
use Rattle.new_container.specs.declared.disk.NewDisk.{NewDisk}
use Rattle.new_container.specs.Created.{created_bytes}
use Rattle.new_container.specs.Example.{mirror, mirror_disks}
use Rattle.image_outside.specs.Told.{BankTold}
use Rattle.image_create.specs.Calls.{create_calls}

abbrev pub mirror_bank : (opening : List (List Sector)) → BankTold
mirror_bank opening = record {
  serials = map (λ (d : NewDisk). d.serial) mirror_disks;
  sizes = map (λ (d : NewDisk). d.sectors) mirror_disks;
  opening = Some opening;
  log = Some (create_calls (map (λ (d : NewDisk). d.sectors) mirror_disks) 1024 (created_bytes mirror mirror_disks));
  faults = λ d. 0;
}
