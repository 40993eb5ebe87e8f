-- What contracts see of the outside in memory. Source: this project's own.
use Rattle.std.specs.Prelude.{ℕ, ◌-◌, ◌==◌, ◌&&◌, ◌||◌, nat_lt, Bool, List, [], ◌∷◌, ◌++◌, length, map, take, drop, slice_index, if◌then◌else◌, Option, Some, None, String, string_bytes}
use Rattle.std.specs.List.{list_any, find}
use Rattle.std.specs.Str.{bytes_eq}
use Rattle.std.specs.Option.{option_map}
use Rattle.units.specs.declared.disk.Sector.{Sector}
use Rattle.units.specs.declared.disk.Serial.{Serial}
use Rattle.member_bank.specs.Faults.{next_count}
use Rattle.member_bank.specs.Contents.{sizes_of}
use Rattle.member_bank.specs.Memory.{MemState}
use Rattle.image_outside.specs.Told.{BankTold}
use Rattle.image_outside.specs.declared.shelf.MemFile.{MemFile}

-- the bytes that are left, the numbers of the calls that fail, and the calls and the faults so far
pub record SourceState : Type 0 where
  pub left : List ℕ
  pub fails : List ℕ
  pub calls : ℕ
  pub faults : ℕ

-- the next read fails: its number is listed
abbrev pub fails_next : SourceState → Bool
fails_next s = list_any (λ n. n == next_count s.calls) s.fails

-- the source after a read into a piece of so many bytes, which takes what fits, and after one that failed
abbrev pub read_by : SourceState → ℕ → SourceState
read_by s room = record s { calls = next_count s.calls; left = drop room s.left }

abbrev pub unread : SourceState → SourceState
unread s = record s { calls = next_count s.calls; faults = next_count s.faults }

-- the bytes written, the numbers of the calls that fail, the calls and the faults so far, and the room for bytes
pub record SinkState : Type 0 where
  pub written : List ℕ
  pub fails : List ℕ
  pub calls : ℕ
  pub faults : ℕ
  pub room : ℕ

-- the next write fails: its number is listed, or no byte of the piece finds room
abbrev pub is_refused : SinkState → ℕ → Bool
is_refused s bytes = list_any (λ n. n == next_count s.calls) s.fails || (nat_lt 0 bytes && (length s.written == s.room))

-- the sink after a write of a piece: it takes what fits
abbrev pub written_to : SinkState → List ℕ → SinkState
written_to s piece =
    record s { calls = next_count s.calls; written = s.written ++ take (s.room - length s.written) piece }

abbrev pub refused_by : SinkState → SinkState
refused_by s = record s { calls = next_count s.calls; faults = next_count s.faults }

-- what a bank in memory tells
abbrev pub mem_told : MemState → BankTold
mem_told b = record {
  serials = b.serials;
  sizes = sizes_of b.present;
  opening = Some b.opening;
  log = b.log;
  faults = λ d. slice_index b.faults d;
}

-- the files, the bank but while it is lent, the paths of its disks, the numbers of the opens that fail, and the opens
-- and the faults so far
pub record ShelfState : Type 0 where
  pub files : List MemFile
  pub bank : Option MemState
  pub paths : List (List ℕ)
  pub fails : List ℕ
  pub opens : ℕ
  pub faults : ℕ

-- the sectors of the first file of a name
abbrev pub file_of : List MemFile → List ℕ → Option (List Sector)
file_of files name =
    option_map (λ (f : MemFile). f.sectors.items) (find (λ (f : MemFile). bytes_eq (string_bytes f.name) name) files)

-- what an open of this number finds: the file, unless the number is listed
abbrev pub found_at : List MemFile → List ℕ → ℕ → List ℕ → Option (List Sector)
found_at files fails number name = if list_any (λ n. n == number) fails then None else file_of files name

abbrev pub found_by : ShelfState → List ℕ → Option (List Sector)
found_by s name = found_at s.files s.fails (next_count s.opens) name

-- a bank with one more disk of these sectors
abbrev pub with_sectors : Serial → List Sector → MemState → MemState
with_sectors serial sectors b = record b {
  serials = b.serials ++ serial ∷ [];
  opening = b.opening ++ sectors ∷ [];
  present = b.present ++ sectors ∷ [];
  faults = b.faults ++ 0 ∷ [];
}

-- the shelf after an open that went through, that failed, and that found no memory
abbrev pub with_file : ShelfState → Serial → List ℕ → List Sector → ShelfState
with_file s serial path sectors = record s {
  opens = next_count s.opens;
  bank = option_map (with_sectors serial sectors) s.bank;
  paths = s.paths ++ path ∷ [];
}

-- paths by their bytes
abbrev pub paths_of : {A : Type 0} → List (String A) → List (List ℕ)
paths_of {A} paths = map (λ (p : String A). string_bytes p) paths

abbrev pub unopened : ShelfState → ShelfState
unopened s = record s { opens = next_count s.opens; faults = next_count s.faults }

abbrev pub unfed : ShelfState → ShelfState
unfed s = record s { opens = next_count s.opens }
