-- What contracts see of a bank over files. Source: this project's own.
use Rattle.std.specs.Prelude.{◌≡◌, ◌≢◌, ◌≤◌, ◌<◌, ℕ, ◌*◌, ◌^◌, List, [], ◌∷◌, ◌++◌, length, map, All, AllPairs}
use Rattle.units.specs.declared.bounds.TheConstants.{MAX_DISKS, SECTOR_BYTES}
use Rattle.units.specs.declared.disk.Sector.{Sector}
use Rattle.units.specs.declared.disk.Serial.{Serial}

-- each disk's serial, its sectors, and how often it failed
pub record FileState : Type 0 where
  pub serials : List Serial
  pub sizes : List ℕ
  pub faults : List ℕ

-- a bank with one more file
abbrev pub with_file : FileState → Serial → ℕ → FileState
with_file b serial sectors = record {
  serials = b.serials ++ serial ∷ [];
  sizes = b.sizes ++ sectors ∷ [];
  faults = b.faults ++ 0 ∷ [];
}

-- there are so many files, and each place of a file has an offset in bytes
pub record IsFiles (files : ℕ) (serials : List Serial) (sizes faults : List ℕ) : Type 0 where
  pub few : files ≤ MAX_DISKS
  pub named : length serials ≡ files
  pub sized : length sizes ≡ files
  pub counted : length faults ≡ files
  pub distinct : AllPairs (λ a b. a ≢ b) serials
  pub offsets : All (λ n. n * SECTOR_BYTES < 2 ^ 64) sizes

-- the bytes of each sector
abbrev pub bytes_of : List Sector → List (List ℕ)
bytes_of sectors = map (λ (s : Sector). s.0) sectors
