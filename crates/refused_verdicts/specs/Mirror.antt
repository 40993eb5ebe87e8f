-- A bank of the two disks of a mirror that has just been made, and of the first of them alone. Source: this project's
-- own, over the block of `Vector` in imsm_base.
use Rattle.std.specs.Prelude.{ℕ, true, List, [], ◌∷◌, ◌++◌, codes, replicate, Some}
use Rattle.units.specs.declared.disk.Sector.{Sector}
use Rattle.units.specs.declared.disk.Serial.{Serial}
use Rattle.imsm_base.specs.Vector.{mirror_bytes}
use Rattle.imsm_text.specs.Text.{line}
use Rattle.device_log.specs.Log.{Call}
use Rattle.mpb_store.specs.Banks.{blank_sector, read_of}
use Rattle.mpb_store.specs.Sectors.{block_sector}
use Rattle.image_outside.specs.Told.{BankTold}

abbrev pub disk_a : Serial
disk_a = record { 0 = 65 ∷ replicate 15 0 }

abbrev pub disk_b : Serial
disk_b = record { 0 = 66 ∷ replicate 15 0 }

-- 4,096 sectors of zeros, but for the block in the second to last
abbrev pub mirror_disk : List Sector
mirror_disk = replicate 4094 blank_sector ++ block_sector mirror_bytes 0 ∷ blank_sector ∷ []

-- the anchor of a disk is read
abbrev pub anchor_read : ℕ → Call
anchor_read d = read_of d true 4094

-- both disks, each looked at
abbrev pub both_disks : BankTold
both_disks = record {
  serials = disk_a ∷ disk_b ∷ [];
  sizes = 4096 ∷ 4096 ∷ [];
  opening = Some (mirror_disk ∷ mirror_disk ∷ []);
  log = Some (anchor_read 0 ∷ anchor_read 1 ∷ []);
  faults = λ d. 0;
}

-- the first disk alone
abbrev pub first_disk : BankTold
first_disk = record {
  serials = disk_a ∷ [];
  sizes = 4096 ∷ [];
  opening = Some (mirror_disk ∷ []);
  log = Some (anchor_read 0 ∷ []);
  faults = λ d. 0;
}

-- what is said of both, and of the first alone
abbrev pub mirror_family : List ℕ
mirror_family = line (codes "family") (codes "6d257059" ∷ codes "generation" ∷ codes "1" ∷ [])

abbrev pub both_lines : List ℕ
both_lines =
    mirror_family
    ++ (line (codes "volume") (codes "0" ∷ codes "started" ∷ [])
    ++ (line (codes "disk") (codes "A" ∷ codes "member" ∷ []) ++ line (codes "disk") (codes "B" ∷ codes "member" ∷ [])))

abbrev pub first_lines : List ℕ
first_lines = mirror_family ++ line (codes "waiting") (codes "B" ∷ codes "absent" ∷ [])

-- what is said where both arrive
abbrev pub arrived_lines : List ℕ
arrived_lines =
    line (codes "arrive") (codes "A" ∷ []) ++ (first_lines ++ (line (codes "arrive") (codes "B" ∷ []) ++ both_lines))

-- both disks, of which the first alone was looked at; on the second stands whatever there is
abbrev pub first_of_both : List Sector → BankTold
first_of_both second = record {
  serials = disk_a ∷ disk_b ∷ [];
  sizes = 4096 ∷ 4096 ∷ [];
  opening = Some (mirror_disk ∷ second ∷ []);
  log = Some (anchor_read 0 ∷ []);
  faults = λ d. 0;
}

-- what is said where the first starts alone
abbrev pub early_lines : List ℕ
early_lines =
    line (codes "arrive") (codes "A" ∷ [])
    ++ ((mirror_family
    ++ (line (codes "volume") (codes "0" ∷ codes "degraded" ∷ codes "pass" ∷ codes "0" ∷ [])
    ++ line (codes "disk") (codes "A" ∷ codes "member" ∷ [])))
    ++ line (codes "late") (codes "B" ∷ []))
