-- What was seen of the disks of a container that are there. Source: this project's own.
use Rattle.std.specs.Prelude.{◌≡◌, ◌≢◌, ℕ, ◌<◌, ◌==◌, if◌then◌else◌, List, [], ◌∷◌, map, Contains, ⊤}
use Rattle.std.specs.List.{AllByRecursion, AllPairs, flat_map}
use Rattle.units.specs.declared.disk.Serial.{Serial}
use Rattle.imsm_base.specs.Layout.{volume_count_of}
use Rattle.imsm_base.specs.Whole.{IsWholeBlock}
use Rattle.imsm_codec.specs.Mpb.{block_bytes}
use Rattle.imsm_buffer.specs.Buffer.{Buffer, parts_of}
use Rattle.generation_pick.specs.declared.found.FoundAt.{FoundAt}
use Rattle.container.specs.declared.seen.Seen.{Seen}
use Rattle.container.specs.declared.seen.SeenAs.{SeenAs}
use Rattle.container.specs.declared.seen.SeenAs.TheVariants.{Whole, Blank, Torn, Unread}

-- blocks that are seen as whole are
abbrev pub IsSound : SeenAs → Type 0
IsSound (Whole block) = IsWholeBlock block.bytes (parts_of block)
IsSound Blank = ⊤
IsSound (Torn fault) = ⊤
IsSound Unread = ⊤

abbrev pub AreSound : List Seen → Type 0
AreSound seen = AllByRecursion (λ (s : Seen). IsSound s.holds) seen

-- a whole block is a container's where it has a volume, and else a spare's
pub record IsContainer (holds : SeenAs) : Type 0 where
  pub block : Buffer
  pub whole : holds ≡ Whole block
  pub volume : 0 < volume_count_of (parts_of block)

pub record IsSpare (holds : SeenAs) : Type 0 where
  pub block : Buffer
  pub whole : holds ≡ Whole block
  pub none : volume_count_of (parts_of block) ≡ 0

-- one of the disks has this serial, and this holds of it
pub record HasDisk (seen : List Seen) (serial : List ℕ) (P : Seen → Type 0) : Type 0 where
  pub disk : Seen
  pub there : Contains seen disk
  pub named : disk.serial.0 ≡ serial
  pub holds : P disk

-- no two have one serial
abbrev pub HaveOwnSerials : List Seen → Type 0
HaveOwnSerials seen = AllPairs (λ (a b : Serial). a ≢ b) (map (λ (s : Seen). s.serial) seen)

-- THE BLOCKS OF CONTAINERS

-- a block that is a container's, with the number of its disk
pub record Container : Type 0 where
  pub disk : ℕ
  pub bytes : List ℕ

abbrev pub container_by : ℕ → SeenAs → List Container
container_by d (Whole block) =
    if volume_count_of (parts_of block) == 0 then [] else record { disk = d; bytes = block.bytes } ∷ []
container_by d Blank = []
container_by d (Torn fault) = []
container_by d Unread = []

abbrev pub containers_of : List Seen → List Container
containers_of seen = flat_map (λ (s : Seen). container_by s.disk.0 s.holds) seen

-- the block of an entry, and entries of just these blocks
abbrev pub found_of : List FoundAt → List Container
found_of list = map (λ (f : FoundAt). record { disk = f.disk.0; bytes = block_bytes f.mpb }) list

abbrev pub AreOf : List FoundAt → List Container → Type 0
AreOf list containers = found_of list ≡ containers
