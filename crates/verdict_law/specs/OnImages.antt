-- What is seen of disks where it is what stands on images, and what an opening says in the words of its block. Source:
-- this project's own.
use Rattle.std.specs.Prelude.{◌≡◌, ◌≢◌, ◌↔◌, ℕ, ◌⊎◌, true, List, [], ◌∷◌, length, slice_get, Option, Some, ⊤}
use Rattle.units.specs.declared.bounds.TheConstants.{SECTOR_BYTES}
use Rattle.mpb_store.specs.declared.answer.Found.TheVariants as found
use Rattle.mpb_store.specs.Banks.{IsAnswerOn}
use Rattle.array_model.specs.Blocks.{Laid, Words}
use Rattle.block_meaning.specs.Meaning.{bytes_of_laid}
use Rattle.container.specs.declared.seen.Seen.{Seen}
use Rattle.container.specs.declared.verdict.Opening.{Opening}
use Rattle.container.specs.declared.volume.VolumeVerdict.{VolumeVerdict}
use Rattle.container.specs.declared.volume.VolumeVerdict.TheVariants.{Degraded, Started}
use Rattle.assembly.specs.Seen.{bytes_of, found_of}
use Rattle.sound_images.specs.Images.{Image}
use Rattle.sound_images.specs.Volumes.{StartsFrom, verdict_in_words}

-- A disk was seen as it stands on an image: with its serial and its sectors, each of which has all its bytes. No read
-- failed, and what was found is what stands there, with its block.
pub record IsSeenOn (i : Image) (s : Seen) : Type 0 where
  pub serial : s.serial.0 ≡ i.serial
  pub sectors : s.sectors ≡ i.sectors
  pub full : (place : ℕ) → length (i.at place).0 ≡ SECTOR_BYTES
  pub read : found_of s.holds ≢ found.Unread
  pub stands : IsAnswerOn i.serial i.sectors i.at (found_of s.holds) (bytes_of s.holds)

-- each disk as it stands on its image
abbrev pub AreSeenOn : List Image → List Seen → Type 0
AreSeenOn [] [] = ⊤
AreSeenOn [] (s ∷ seen) = ⊥
AreSeenOn (i ∷ images) [] = ⊥
AreSeenOn (i ∷ images) (s ∷ seen) = IsSeenOn i s × AreSeenOn images seen

-- an opening says of a volume that it starts, degraded or not, with a pass from this row, if any
abbrev pub SaysStart : Opening → ℕ → Option ℕ → Type 0
SaysStart o v pass =
    (slice_get o.volumes.items v ≡ Some (Started pass)) ⊎ (slice_get o.volumes.items v ≡ Some (Degraded pass))

-- An opening says what a block says: it has its bytes, its family, its generation, and a verdict for each of its
-- volumes, which is that of its words where the volume is supported. So a volume starts by it exactly where it starts
-- by the block, with the same pass.
pub record SaysBlockOf (W : Words) (m : Laid) (o : Opening) : Type 0 where
  pub bytes : o.book.bytes ≡ bytes_of_laid m
  pub family : o.family ≡ W.family m
  pub generation : o.generation ≡ W.generation m.anchor
  pub count : length o.volumes.items ≡ W.volumes m
  pub each : (v : ℕ) (verdict : VolumeVerdict) → slice_get o.volumes.items v ≡ Some verdict
      → W.is_supported m v ≡ true → verdict ≡ verdict_in_words W m v
  pub starts : (v : ℕ) (pass : Option ℕ) → SaysStart o v pass ↔ StartsFrom W m v pass
