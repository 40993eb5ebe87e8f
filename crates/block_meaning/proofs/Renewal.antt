-- The edit of a round, on a whole block of one sector.
use Rattle.std.proofs.Common.{min, ◌∷◌, ◌≡◌, ◌≢◌, ℕ, zero, suc, ◌+◌, ◌^◌, ◌<◌, ◌≤◌, ◌==◌, if◌then◌else◌, Bool, true, false, List, [], ◌++◌, length, map, take, replicate, get_or, None, refl, sym, ◌∙◌, ap, subst, arith}
use Rattle.std.specs.Prelude.{is_none, flat_map}
use Rattle.std.proofs.lemmas.Bool.{false≢true}
use Rattle.std.proofs.lemmas.List.{append-nil, take-take, take_at, length-take, get_or-set_same}
use Rattle.byteorder.specs.Endian.{little_bytes}
use Rattle.units.specs.declared.disk.Sector.{Sector}
use Rattle.imsm_base.specs.Fields.{number, number_at}
use Rattle.imsm_base.specs.Layout.{Block, Volume, header_lengths, size_of, generation_of, disk_count_of}
use Rattle.imsm_base.specs.Parts.{block_in}
use Rattle.imsm_base.specs.Whole.{IsWholeBlock, IsWholeDisk, block_sum, expected_serials}
use Rattle.units.specs.Places.{extended_count}
use Rattle.imsm_base.specs.Volumes.{members, is_dirty, volume_fault, pass_of}
use Rattle.imsm_base.specs.Edits.{with_generation, with_dirty, sized, first_sector, block_with_generation, block_with_dirty, block_with_size, block_sealed}
use Rattle.imsm_base.specs.FirstForm.{IsFirstForm}
use Rattle.imsm_base.proofs.Joined.{block_in-spelled}
use Rattle.imsm_base.proofs.Spliced.{number_at-take, number_at-front}
use Rattle.imsm_base.proofs.Edited.{fields_of, other_field, length-volumes_with_dirty, length-with_generation, generation-spells, dirty-length}
use Rattle.imsm_base.proofs.Sealed.{IsUnsealed, unsealed_whole, generation-unsealed, dirty-unsealed, sealed-whole, length-sealed, number-four}
use Rattle.array_model.specs.Blocks.{Laid}
use Rattle.block_meaning.specs.Meaning.{bytes_of_laid, has_serial, of_volume, slot_words}
use Rattle.array_model.specs.Renewal.{FitsGeneration, SaysSame, IsRenewable, IsRenewed}
use Rattle.block_meaning.specs.Reading.{parts_of, block_words}
use Rattle.block_meaning.specs.Renewed.{renewed_bytes, renewed}
use Rattle.block_meaning.proofs.Decided.{disk-decided, disk-apart}
use Rattle.block_meaning.proofs.Same.{get-dirty, pass-dirty, fault-dirty, fault-other, first-dirty}

-- the parts of the block that is edited
abbrev edited : Block → ℕ → Bool → List ℕ → Block
edited b g y bytes =
    let dirty : List ℕ = with_dirty (with_generation bytes g) 0 y in
    block_sealed (block_with_dirty (block_with_generation b g) 0 y) (length dirty) (block_sum (sized dirty))

-- a whole block with a volume stays whole
edited-whole : (bytes : List ℕ) (b : Block) (g : ℕ) (y : Bool) → 0 < length b.volumes → IsWholeBlock bytes b → IsWholeBlock (renewed_bytes bytes g y) (edited b g y bytes)
edited-whole bytes b g y some w =
    let generation : IsUnsealed (with_generation bytes g) (block_with_generation b g) = generation-unsealed bytes b g (unsealed_whole bytes b w) in
    let dirty : IsUnsealed (with_dirty (with_generation bytes g) 0 y) (block_with_dirty (block_with_generation b g) 0 y) = dirty-unsealed (with_generation bytes g) (block_with_generation b g) 0 y some generation in
    sealed-whole (with_dirty (with_generation bytes g) 0 y) (block_with_dirty (block_with_generation b g) 0 y) dirty

length-renewed : (bytes : List ℕ) (b : Block) (g : ℕ) (y : Bool) → 0 < length b.volumes → IsWholeBlock bytes b → length (renewed_bytes bytes g y) ≡ length bytes
length-renewed bytes b g y some w =
    let u : IsUnsealed bytes b = unsealed_whole bytes b w in
    let least : 216 ≤ length bytes = u.size.least in
    let one : length (with_generation bytes g) ≡ length bytes = length-with_generation bytes g least in
    let two : length (with_dirty (with_generation bytes g) 0 y) ≡ length (with_generation bytes g) =
    dirty-length (with_generation bytes g) (block_with_generation b g) 0 y (generation-spells bytes b g u.spells) some in
    length-sealed (with_dirty (with_generation bytes g) 0 y) (omega arith) ∙ two ∙ one

-- a field of the header that the seal leaves
left : (b : Block) (g : ℕ) (y : Bool) (bytes : List ℕ) (j : ℕ) → j ≢ 2 → j ≢ 3 → number (get_or (edited b g y bytes).header j []) ≡ number (get_or (block_with_generation b g).header j [])
left b g y bytes j checksum size =
    let dirty : List ℕ = with_dirty (with_generation bytes g) 0 y in
    other_field (block_with_size (block_with_generation b g) (length dirty)) 2 j (little_bytes 4 (block_sum (sized dirty))) checksum
    ∙ other_field (block_with_generation b g) 3 j (little_bytes 4 (length dirty)) size

generation-edited : (b : Block) (g : ℕ) (y : Bool) (bytes : List ℕ) → length b.header ≡ 15 → g < 2 ^ 32 → generation_of (edited b g y bytes) ≡ g
generation-edited b g y bytes count fits =
    left b g y bytes 5 (λ e. omega arith) (λ e. omega arith)
    ∙ ap number (get_or-set_same b.header 5 (little_bytes 4 g) [] (omega arith))
    ∙ number-four g fits

count-edited : (b : Block) (g : ℕ) (y : Bool) (bytes : List ℕ) → disk_count_of (edited b g y bytes) ≡ disk_count_of b
count-edited b g y bytes =
    left b g y bytes 8 (λ e. omega arith) (λ e. omega arith) ∙ other_field b 5 8 (little_bytes 4 g) (λ e. omega arith)

-- HOW IT LIES

-- the sector that is written
abbrev sector_of : List ℕ → Sector
sector_of bytes = record { 0 = first_sector bytes }

sector-number : (k at : ℕ) (bytes : List ℕ) → at + k ≤ length bytes → length bytes ≤ 512 → number_at k at (first_sector bytes) ≡ number_at k at bytes
sector-number k at bytes inside short =
    number_at-take k at 512 (bytes ++ replicate 512 0) (omega arith) ∙ number_at-front k at bytes (replicate 512 0) inside

-- the numbers of a header, by its parts
pub size-at : (bytes : List ℕ) → number_at 4 36 bytes ≡ size_of (block_in bytes)
unfolding block_in
size-at bytes = refl

pub generation-at : (bytes : List ℕ) → number_at 4 44 bytes ≡ generation_of (block_in bytes)
unfolding block_in
generation-at bytes = refl

-- a whole block of one sector, as it is written, is read as it was
sector-size : (bytes : List ℕ) (b : Block) → IsWholeBlock bytes b → length bytes ≤ 512 → number_at 4 36 (first_sector bytes) ≡ length bytes
sector-size bytes b w short =
    let least : 216 ≤ size_of b = w.sized.least in
    let given : size_of b ≡ length bytes = w.given in
    sector-number 4 36 bytes (omega arith) short ∙ size-at bytes ∙ ap size_of (block_in-spelled bytes b w.spells) ∙ given

pub sector-bytes : (bytes : List ℕ) (b : Block) → IsWholeBlock bytes b → length bytes ≤ 512 → bytes_of_laid (record { anchor = sector_of bytes; extended = [] }) ≡ bytes
sector-bytes bytes b w short =
    ap (λ (n : ℕ). take n (first_sector bytes ++ [])) (sector-size bytes b w short)
    ∙ ap (take (length bytes)) (append-nil (first_sector bytes))
    ∙ take-take (length bytes) 512 (bytes ++ replicate 512 0) short
    ∙ take_at bytes (replicate 512 0) (length bytes) refl

one_sector : (n : ℕ) → extended_count n ≡ 0 → n ≤ 512
one_sector n alone = omega arith

alone_in : (n : ℕ) → n ≤ 512 → extended_count n ≡ 0
alone_in n short = omega arith

-- a block of one sector has no more bytes than that
short-laid : (m : Laid) → extended_count (number_at 4 36 m.anchor.0) ≡ 0 → length (bytes_of_laid m) ≤ 512
short-laid m alone =
    let size : ℕ = number_at 4 36 m.anchor.0 in
    let few : size ≤ 512 = one_sector size alone in
    omega (arith, length-take size (m.anchor.0 ++ flat_map (λ s. s.0) m.extended))

-- a container's block has a volume
some_volume : (n : ℕ) → (if n == 0 then false else true) ≡ true → 0 < n
some_volume zero e = absurd (false≢true e)
some_volume (suc n) e = omega arith

-- WHAT IT SAYS

-- what is renewed, by what it is made of
record IsMade (m : Laid) (g : ℕ) (y : Bool) : Type 0 where
  made : IsWholeBlock (renewed_bytes (bytes_of_laid m) g y) (edited (parts_of m) g y (bytes_of_laid m))
  old : IsWholeBlock (bytes_of_laid m) (parts_of m)
  some : 0 < length (parts_of m).volumes
  short : length (renewed_bytes (bytes_of_laid m) g y) ≤ 512
  bytes : bytes_of_laid (renewed m g y) ≡ renewed_bytes (bytes_of_laid m) g y
  parts : parts_of (renewed m g y) ≡ edited (parts_of m) g y (bytes_of_laid m)

make : (m : Laid) (g : ℕ) (y : Bool) → IsRenewable block_words m → IsMade m g y
make m g y r =
    let bytes : List ℕ = bytes_of_laid m in
    let b : Block = parts_of m in
    let old : IsWholeBlock bytes b = ((disk-decided r.serial r.sectors bytes).0 r.whole).whole in
    let some : 0 < length b.volumes = some_volume (length b.volumes) r.container in
    let made : IsWholeBlock (renewed_bytes bytes g y) (edited b g y bytes) = edited-whole bytes b g y some old in
    let short : length (renewed_bytes bytes g y) ≤ 512 = omega (arith, length-renewed bytes b g y some old, short-laid m r.alone) in
    let same : bytes_of_laid (renewed m g y) ≡ renewed_bytes bytes g y = sector-bytes (renewed_bytes bytes g y) (edited b g y bytes) made short in
    record {
      made = made;
      old = old;
      some = some;
      short = short;
      bytes = same;
      parts = ap block_in same ∙ block_in-spelled (renewed_bytes bytes g y) (edited b g y bytes) made.spells;
    }

says-same : (m : Laid) (g : ℕ) (y : Bool) → IsMade m g y → SaysSame block_words (renewed m g y) m
says-same m g y k =
    let bytes : List ℕ = bytes_of_laid m in
    let b : Block = parts_of m in
    let e : Block = edited b g y bytes in
    let count : disk_count_of e ≡ disk_count_of b = count-edited b g y bytes in
    record {
      container = ap (λ (x : Block). length x.volumes) k.parts ∙ length-volumes_with_dirty 0 y b.volumes;
      expects = λ serial. ap (λ (x : Block). has_serial (expected_serials x) serial) k.parts;
      is_supported = λ v. ap (λ (x : Block). of_volume x v (λ z. is_none (volume_fault x v z)) false) k.parts
          ∙ get-dirty y (λ z. is_none (volume_fault e v z)) (λ z. is_none (volume_fault b v z)) false b.volumes v
          (λ z. ap is_none (fault-dirty e.header y b v z count)) (λ z. ap is_none (fault-other e.header y b v z count));
      pass = λ v. ap (λ (x : Block). of_volume x v pass_of None) k.parts
          ∙ get-dirty y pass_of pass_of None b.volumes v (pass-dirty y) (λ z. refl);
      slots = λ v. ap (λ (x : Block). of_volume x v (λ z. map (slot_words x) (members z)) []) k.parts
          ∙ get-dirty y (λ z. map (slot_words e) (members z)) (λ z. map (slot_words b) (members z)) [] b.volumes v (λ z. refl) (λ z. refl);
    }

-- it is whole where the old one was
whole-on : (m : Laid) (g : ℕ) (y : Bool) → IsMade m g y → (serial : List ℕ) (n : ℕ) → block_words.is_whole serial n m ≡ true → block_words.is_whole serial n (renewed m g y) ≡ true
whole-on m g y k serial n whole =
    let bytes : List ℕ = bytes_of_laid m in
    let b : Block = parts_of m in
    let w : IsWholeDisk serial n bytes b = (disk-decided serial n bytes).0 whole in
    let disk : IsWholeDisk serial n (renewed_bytes bytes g y) (edited b g y bytes) = record { enough = w.enough; whole = k.made; own_fits = w.own_fits } in
    let read : IsWholeDisk serial n (bytes_of_laid (renewed m g y)) (edited b g y bytes) = subst (λ (x : List ℕ). IsWholeDisk serial n x (edited b g y bytes)) (sym k.bytes) disk in
    (disk-decided serial n (bytes_of_laid (renewed m g y))).1 (disk-apart serial n (bytes_of_laid (renewed m g y)) (edited b g y bytes) read)

pub renewal : (m : Laid) (g : ℕ) (y : Bool) → IsRenewable block_words m → FitsGeneration g → IsRenewed block_words m g y (renewed m g y)
renewal m g y r fits =
    let bytes : List ℕ = bytes_of_laid m in
    let b : Block = parts_of m in
    let e : Block = edited b g y bytes in
    let k : IsMade m g y = make m g y r in
    let new : List ℕ = renewed_bytes bytes g y in
    let least : 216 ≤ size_of e = k.made.sized.least in
    let given : size_of e ≡ length new = k.made.given in
    let short : length new ≤ 512 = k.short in
    record {
      alone = ap extended_count (sector-size new e k.made short) ∙ alone_in (length new) short;
      short = refl;
      generation = sector-number 4 44 new (omega arith) short ∙ generation-at new ∙ ap generation_of (block_in-spelled new e k.made.spells)
          ∙ generation-edited b g y bytes (fields_of header_lengths b.header k.old.spells.parts.header) fits;
      dirty = ap (λ (x : Block). of_volume x 0 is_dirty false) k.parts ∙ first-dirty y b.volumes k.old.spells.parts.volumes k.some;
      same = says-same m g y k;
      whole = whole-on m g y k;
    }

-- THE FIRST FORM

-- the size in the anchor is that of a whole block with no more sectors
size-laid : (m : Laid) (b : Block) → m.extended ≡ [] → IsWholeBlock (bytes_of_laid m) b → number_at 4 36 m.anchor.0 ≡ size_of b
size-laid m b short w =
    let size : ℕ = number_at 4 36 m.anchor.0 in
    let bytes : List ℕ = bytes_of_laid m in
    let same : block_in bytes ≡ b = block_in-spelled bytes b w.spells in
    let least : 216 ≤ size_of b = w.sized.least in
    let given : size_of b ≡ length bytes = w.given in
    let all : m.anchor.0 ++ flat_map (λ s. s.0) m.extended ≡ m.anchor.0 =
    ap (λ (x : List Sector). m.anchor.0 ++ flat_map (λ s. s.0) x) short ∙ append-nil m.anchor.0 in
    let front : bytes ≡ take size m.anchor.0 = ap (take size) all in
    let few : length bytes ≡ min size (length m.anchor.0) = ap (λ (x : List ℕ). length x) front ∙ length-take size m.anchor.0 in
    sym (number_at-take 4 36 size m.anchor.0 (omega arith)) ∙ ap (number_at 4 36) (sym front) ∙ size-at bytes ∙ ap size_of same

has-volume : (vs : List Volume) (v : Volume) → vs ≡ v ∷ [] → (if length vs == 0 then false else true) ≡ true
has-volume vs v one = ap (λ (xs : List Volume). if length xs == 0 then false else true) one

pub first-form : (m : Laid) (own : List ℕ) (n : ℕ) (b : Block) → m.extended ≡ [] → IsWholeDisk own n (bytes_of_laid m) b → IsFirstForm b → IsRenewable block_words m
first-form m own n b short w form =
    let bytes : List ℕ = bytes_of_laid m in
    let same : block_in bytes ≡ b = block_in-spelled bytes b w.whole.spells in
    record {
      alone = ap extended_count (size-laid m b short w.whole) ∙ alone_in (size_of b) form.one_sector;
      short = short;
      container = ap (λ (x : Block). if length x.volumes == 0 then false else true) same ∙ has-volume b.volumes form.one_volume.0 form.one_volume.1;
      serial = own;
      sectors = n;
      whole = (disk-decided own n bytes).1 (disk-apart own n bytes b w);
    }
