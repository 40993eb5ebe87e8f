-- How a run of the machine opens: the first form of a container, of one clean volume of two copies. Source: this
-- project's own.
use Rattle.std.specs.Prelude.{◌≡◌, ℕ, ◌+◌, ◌<◌, ◌≤◌, true, false, List, [], length, Some, ⊤}
use Rattle.std.specs.List.{AllByRecursion}
use Rattle.units.specs.declared.bounds.TheConstants.{METADATA_SECTORS}
use Rattle.units.specs.declared.volume.Level.TheVariants.{One}
use Rattle.device_log.specs.Cells.{resting}
use Rattle.array_model.specs.declared.script.OpKind.{OpKind}
use Rattle.array_model.specs.declared.script.OpKind.TheVariants.{Write as OpWrite, Read as OpRead, Whole as OpWhole}
use Rattle.array_model.specs.Blocks.{Laid, Words, is_container}
use Rattle.array_model.specs.Candidates.{standing}
use Rattle.array_model.specs.FailureLaw.{HasInSlot}
use Rattle.array_model.specs.Renewal.{SaysSame}
use Rattle.stage_machine.specs.Setting.{Setting, has_disk}
use Rattle.stage_machine.specs.Jobs.{the_shape}

-- it reads or writes volume 0
abbrev pub IsInFirst : OpKind → Type 0
IsInFirst (OpWrite v s value) = v.0 ≡ 0
IsInFirst (OpRead v s) = v.0 ≡ 0
IsInFirst (OpWhole v) = ⊤

-- the script: clients 0 to 15, and volume 0
pub record AsksFirst (S : Setting) : Type 0 where
  pub clients : AllByRecursion (λ op. op.client < 16) S.asked.ops
  pub volumes : AllByRecursion (λ op. IsInFirst op.kind) S.asked.ops

-- A block says all that another says to a run: of members and volumes, of dirty bits, of its generation, of how many
-- sectors it has, and of where it is whole. The bytes behind its end are none of this.
pub record SaysAll (W : Words) (a b : Laid) : Type 0 where
  pub extra : W.extra a.anchor ≡ W.extra b.anchor
  pub generation : W.generation a.anchor ≡ W.generation b.anchor
  pub dirty : (v : ℕ) → W.is_dirty a v ≡ W.is_dirty b v
  pub same : SaysSame W a b
  pub whole : (serial : List ℕ) (sectors : ℕ) → W.is_whole serial sectors a ≡ W.is_whole serial sectors b

-- The newest block is a container's and has one sector. On each disk that it expects it is whole, and what stands there
-- says all that it says, each with bytes of its own behind.
pub record StandsOnAll (S : Setting) : Type 0 where
  pub container : is_container S.start.words S.start.newest ≡ true
  pub alone : S.start.words.extra S.start.newest.anchor ≡ 0
  pub short : S.start.newest.extended ≡ []
  pub expected : (d : ℕ) → S.start.words.expects S.start.newest (S.start.disks.serial d) ≡ has_disk d S.targets
  pub stands : (d : ℕ) → has_disk d S.targets ≡ true
      → SaysAll S.start.words (standing S.start.words (S.start.disks.sectors d)
      (λ p. resting (S.start.disks.opening d p))) S.start.newest
  pub whole : (d : ℕ) → has_disk d S.targets ≡ true
      → S.start.words.is_whole (S.start.disks.serial d) (S.start.disks.sectors d) S.start.newest ≡ true

-- a slot of the volume, in sync in the newest block
pub record IsMember (S : Setting) (d : ℕ) : Type 0 where
  pub target : has_disk d S.targets ≡ true
  pub slot : ℕ
  pub member : HasInSlot S.start S.start.newest 0 slot d
  pub in_sync : member.words.is_in_sync ≡ true

-- the volume is of two copies, started and clean, its members are the disks of its two slots, and its rows end before
-- the sectors that are kept for metadata
pub record IsFirstVolume (S : Setting) : Type 0 where
  pub level : (the_shape S).level ≡ Some One
  pub two : length (S.start.words.slots S.start.newest 0) ≡ 2
  pub rows : (the_shape S).size ≤ (the_shape S).rows
  pub started : S.start.is_started 0 ≡ true
  pub members : (d : ℕ) → has_disk d S.members ≡ true → IsMember S d
  pub each_slot : (slot d : ℕ) → HasInSlot S.start S.start.newest 0 slot d → has_disk d S.members ≡ true
  pub room : (d : ℕ) → has_disk d S.targets ≡ true
      → (the_shape S).pba + (the_shape S).rows + METADATA_SECTORS ≤ S.start.disks.sectors d

-- no other volume is started
abbrev pub StartsFirstAlone : Setting → Type 0
StartsFirstAlone S = (v : ℕ) → S.start.is_started v ≡ true → v ≡ 0

-- each member holds the content of each sector that isn't unsure
abbrev pub HoldsContent : Setting → Type 0
HoldsContent S =
    (s d : ℕ) → s < (the_shape S).size → S.start.unsure 0 s ≡ false → has_disk d S.members ≡ true
    → S.start.disks.opening d ((the_shape S).pba + s) ≡ S.start.content 0 s
