-- What is pushed piece by piece is the pieces in a row.
use Rattle.std.proofs.Common.{◌≡◌, ℕ, ◌+◌, Option, Some, List, [], ◌∷◌, ◌++◌, length, map, replicate, refl, sym, ◌∙◌, ap, arith}
use Rattle.std.specs.List.{concat, flat_map}
use Rattle.std.proofs.lemmas.List.{append_assoc, append-nil}
use Rattle.std.proofs.lemmas.List.Folds.{concat-append}
use Rattle.std.proofs.lemmas.List.FromFn.{map-range_with_len_more}
use Rattle.byteorder.specs.Endian.{little_bytes}
use Rattle.imsm_base.specs.Layout.{volume_bytes, bytes_of}
use Rattle.new_container.specs.declared.container.NewContainer.{NewContainer}
use Rattle.new_container.specs.declared.disk.NewDisk.{NewDisk}
use Rattle.new_container.specs.declared.volume.NewVolume.{NewVolume}
use Rattle.new_container.specs.Created.{block_with, created_size, created_volume, created_volumes, device_part, disk_part, entries_part, header_part, map_part, second_volume, volume_count}
use Rattle.new_container.specs.Fits.{rows_over}

pub two : (b0 b1 b2 p1 p2 : List ℕ) → b1 ≡ b0 ++ p1 → b2 ≡ b1 ++ p2 → b2 ≡ b0 ++ (p1 ++ p2)
two b0 b1 b2 p1 p2 e1 e2 = e2 ∙ ap (λ (x : List ℕ). x ++ p2) e1 ∙ append_assoc b0 p1 p2

pub three : (b0 b1 b2 b3 p1 p2 p3 : List ℕ) → b1 ≡ b0 ++ p1 → b2 ≡ b1 ++ p2 → b3 ≡ b2 ++ p3 → b3 ≡ b0 ++ (p1 ++ (p2 ++ p3))
three b0 b1 b2 b3 p1 p2 p3 e1 e2 e3 = two b0 b1 b3 p1 (p2 ++ p3) e1 (two b1 b2 b3 p2 p3 e2 e3)

pub four : (b0 b1 b2 b3 b4 p1 p2 p3 p4 : List ℕ) → b1 ≡ b0 ++ p1 → b2 ≡ b1 ++ p2 → b3 ≡ b2 ++ p3 → b4 ≡ b3 ++ p4 → b4 ≡ b0 ++ (p1 ++ (p2 ++ (p3 ++ p4)))
four b0 b1 b2 b3 b4 p1 p2 p3 p4 e1 e2 e3 e4 = two b0 b1 b4 p1 (p2 ++ (p3 ++ p4)) e1 (three b1 b2 b3 b4 p2 p3 p4 e2 e3 e4)

pub six : (b0 b1 b2 b3 b4 b5 b6 p1 p2 p3 p4 p5 p6 : List ℕ) → b1 ≡ b0 ++ p1 → b2 ≡ b1 ++ p2 → b3 ≡ b2 ++ p3 → b4 ≡ b3 ++ p4 → b5 ≡ b4 ++ p5 → b6 ≡ b5 ++ p6 →
    b6 ≡ b0 ++ (p1 ++ (p2 ++ (p3 ++ (p4 ++ (p5 ++ p6)))))
six b0 b1 b2 b3 b4 b5 b6 p1 p2 p3 p4 p5 p6 e1 e2 e3 e4 e5 e6 =
    three b0 b1 b2 b6 p1 p2 (p3 ++ (p4 ++ (p5 ++ p6))) e1 e2 (four b2 b3 b4 b5 b6 p3 p4 p5 p6 e3 e4 e5 e6)

-- one entry more
pub entries_more : (b0 b1 b2 : List ℕ) (k : ℕ) → b1 ≡ b0 ++ concat (entries_part k) → b2 ≡ b1 ++ little_bytes 4 k → b2 ≡ b0 ++ concat (entries_part (k + 1))
entries_more b0 b1 b2 k before here =
    two b0 b1 b2 (concat (entries_part k)) (little_bytes 4 k) before here
    ∙ ap (λ (x : List ℕ). b0 ++ x)
    (
    sym (concat-append (entries_part k) (little_bytes 4 k ∷ []))
    ∙ sym (ap concat (map-range_with_len_more (λ (n : ℕ). little_bytes 4 n) 0 k k (omega arith)))
    )

-- the single bytes of a map, as they are read of its level
pub same_six : (bytes : List ℕ) (level domains level2 domains2 disks : ℕ) → level ≡ level2 → domains ≡ domains2 →
    bytes ++ 0 ∷ level ∷ disks ∷ domains ∷ 0xFF ∷ 1 ∷ [] ≡ bytes ++ 0 ∷ level2 ∷ disks ∷ domains2 ∷ 0xFF ∷ 1 ∷ []
same_six bytes level domains level2 domains2 disks e f = rw (e, f) refl

-- the pieces of a volume, whose rows are those of its definition
pub volume_pushed : (b0 b1 b2 b3 b4 : List ℕ) (number pba rows count : ℕ) (volume : NewVolume) → rows ≡ rows_over volume count →
    b1 ≡ b0 ++ concat (device_part number volume.size) → b2 ≡ b1 ++ replicate 32 0 → b3 ≡ b2 ++ concat (map_part volume pba rows count) → b4 ≡ b3 ++ concat (entries_part count) →
    b4 ≡ b0 ++ volume_bytes (created_volume number pba volume count)
volume_pushed b0 b1 b2 b3 b4 number pba rows count volume same e1 e2 e3 e4 =
    let D : List ℕ = concat (device_part number volume.size) in
    let F : ℕ → List ℕ = λ (n : ℕ). concat (map_part volume pba n count) in
    let E : List ℕ = concat (entries_part count) in
    four b0 b1 b2 b3 b4 D (replicate 32 0) (F rows) E e1 e2 e3 e4
    ∙ ap (λ (n : ℕ). b0 ++ (D ++ (replicate 32 0 ++ (F n ++ E)))) same
    ∙ ap (λ (x : List ℕ). b0 ++ (D ++ (replicate 32 0 ++ x))) (sym (append-nil (F (rows_over volume count) ++ E)))

-- a volume, and those behind it
pub volume_first : (b0 b1 b2 v : List ℕ) (rest rest2 : List ℕ) → rest ≡ rest2 → b1 ≡ b0 ++ v → b2 ≡ b1 ++ rest → b2 ≡ b0 ++ (v ++ rest2)
volume_first b0 b1 b2 v rest rest2 same e f = two b0 b1 b2 v rest2 e (f ∙ ap (λ (x : List ℕ). b1 ++ x) same)

pub second_alone : (b0 b1 : List ℕ) (pba : ℕ) (volume : NewVolume) (count : ℕ) (second : Option NewVolume) → second ≡ Some volume →
    b1 ≡ b0 ++ volume_bytes (created_volume 1 pba volume count) → b1 ≡ b0 ++ flat_map volume_bytes (second_volume pba second count)
second_alone b0 b1 pba volume count second is e =
    e ∙ ap (λ (x : List ℕ). b0 ++ x) (sym (append-nil (volume_bytes (created_volume 1 pba volume count)))
    ∙ sym (ap (λ (s : Option NewVolume). flat_map volume_bytes (second_volume pba s count)) is))

-- the parts of a block that is not numbered yet
pub unnumbered_is : (b0 b1 b2 b3 : List ℕ) (made : NewContainer) (disks : List NewDisk) (size volumes : ℕ) → b0 ≡ [] → volumes ≡ volume_count made → size ≡ created_size (length disks) volumes →
    b1 ≡ b0 ++ concat (header_part 0 size 0 (length disks) volumes) → b2 ≡ b1 ++ flat_map concat (map disk_part disks) → b3 ≡ b2 ++ flat_map volume_bytes (created_volumes made (length disks)) →
    b3 ≡ bytes_of (block_with 0 0 made disks)
unfolding block_with
unnumbered_is b0 b1 b2 b3 made disks size volumes empty count is e1 e2 e3 =
    let D : List ℕ = flat_map concat (map disk_part disks) in
    let V : List ℕ = flat_map volume_bytes (created_volumes made (length disks)) in
    let H : ℕ → ℕ → List ℕ = λ (s v : ℕ). concat (header_part 0 s 0 (length disks) v) in
    three b0 b1 b2 b3 (H size volumes) D V e1 e2 e3
    ∙ ap (λ (x : List ℕ). x ++ (H size volumes ++ (D ++ V))) empty
    ∙ ap (λ (s : ℕ). H s volumes ++ (D ++ V)) is
    ∙ ap (λ (v : ℕ). H (created_size (length disks) v) v ++ (D ++ V)) count
    ∙ ap (λ (x : List ℕ). H (created_size (length disks) (volume_count made)) (volume_count made) ++ (D ++ x)) (sym (append-nil V))
