-- Where the parts that are taken apart have room in the bytes, they spell them.
use Rattle.std.proofs.Common.{◌≡◌, ℕ, zero, suc, ◌+◌, ◌-◌, ◌*◌, ◌≤◌, ◌==◌, if◌then◌else◌, List, ◌++◌, length, take, drop, replicate, refl, sym, ◌∙◌, ap, arith}
use Rattle.std.specs.List.{concat, flat_map, AllByRecursion}
use Rattle.std.proofs.lemmas.List.{append_assoc, drop-drop, take-append-drop, length-drop}
use Rattle.imsm_base.specs.Fields.{number_at}
use Rattle.imsm_base.specs.Layout.{Volume, Map, HasLengths, IsMap, IsVolume, IsBlock, Spells, header_lengths, disk_lengths, device_lengths, state_lengths, map_lengths, map_bytes, volume_bytes, bytes_of}
use Rattle.imsm_base.specs.Parts.{cut_at, disks_in, map_in, maps_in, volume_in, volumes_in, map_room, maps_room, volume_room, volumes_room, behind_disks, behind_volumes, block_in, room_of}
use Rattle.imsm_base.proofs.Cut.{total, cut_at-lengths, cut_at-joins}
use Rattle.imsm_base.proofs.Joined.{total-fours}

pub disks_in-lengths : (k : ℕ) (bytes : List ℕ) → 48 * k ≤ length bytes → AllByRecursion (HasLengths disk_lengths) (disks_in k bytes)
disks_in-lengths zero bytes room = tt
disks_in-lengths (suc k) bytes room =
    (cut_at-lengths 0 disk_lengths bytes (omega arith), disks_in-lengths k (drop 48 bytes) (omega (arith, length-drop 48 bytes)))

pub length-disks_in : (k : ℕ) (bytes : List ℕ) → length (disks_in k bytes) ≡ k
length-disks_in zero bytes = refl
length-disks_in (suc k) bytes = ap suc (length-disks_in k (drop 48 bytes))

-- what stands behind one piece, and behind the next
two_pieces : (a b rest : List ℕ) (bytes behind : List ℕ) → a ++ behind ≡ bytes → b ++ rest ≡ behind → (a ++ b) ++ rest ≡ bytes
two_pieces a b rest bytes behind p q = append_assoc a b rest ∙ ap (λ (x : List ℕ). a ++ x) q ∙ p

pub disks_in-joins : (k : ℕ) (bytes : List ℕ) → flat_map concat (disks_in k bytes) ++ drop (48 * k) bytes ≡ bytes
disks_in-joins zero bytes = refl
disks_in-joins (suc k) bytes =
    let here : concat (cut_at 0 disk_lengths bytes) ++ drop 48 bytes ≡ bytes = cut_at-joins 0 disk_lengths bytes in
    let more : flat_map concat (disks_in k (drop 48 bytes)) ++ drop (48 * k) (drop 48 bytes) ≡ drop 48 bytes = disks_in-joins k (drop 48 bytes) in
    let place : drop (48 * suc k) bytes ≡ drop (48 * k) (drop 48 bytes) = ap (λ (n : ℕ). drop n bytes) (omega arith) ∙ sym (drop-drop (48 * k) 48 bytes) in
    ap (λ (x : List ℕ). (concat (cut_at 0 disk_lengths bytes) ++ flat_map concat (disks_in k (drop 48 bytes))) ++ x) place
    ∙ two_pieces (concat (cut_at 0 disk_lengths bytes)) (flat_map concat (disks_in k (drop 48 bytes))) (drop (48 * k) (drop 48 bytes)) bytes (drop 48 bytes) here more

pub map_in-is : (bytes : List ℕ) → map_room (map_in bytes) ≤ length bytes → IsMap (map_in bytes)
map_in-is bytes room = record {
  fields = cut_at-lengths 0 map_lengths bytes (omega arith);
  entries = cut_at-lengths 48 (replicate (number_at 1 16 bytes) 4) bytes (omega (arith, total-fours (number_at 1 16 bytes)));
}

pub map_in-joins : (bytes : List ℕ) → map_bytes (map_in bytes) ++ drop (map_room (map_in bytes)) bytes ≡ bytes
map_in-joins bytes =
    let n : ℕ = number_at 1 16 bytes in
    let E : List ℕ = concat (cut_at 48 (replicate n 4) bytes) in
    let here : concat (cut_at 0 map_lengths bytes) ++ drop 48 bytes ≡ bytes = cut_at-joins 0 map_lengths bytes in
    let more : E ++ drop (48 + total (replicate n 4)) bytes ≡ drop 48 bytes = cut_at-joins 48 (replicate n 4) bytes in
    let place : drop (48 + 4 * n) bytes ≡ drop (48 + total (replicate n 4)) bytes = ap (λ (i : ℕ). drop i bytes) (omega (arith, total-fours n)) in
    ap (λ (x : List ℕ). (concat (cut_at 0 map_lengths bytes) ++ E) ++ x) place
    ∙ two_pieces (concat (cut_at 0 map_lengths bytes)) E (drop (48 + total (replicate n 4)) bytes) bytes (drop 48 bytes) here more

pub maps_in-are : (k : ℕ) (bytes : List ℕ) → maps_room (maps_in k bytes) ≤ length bytes → AllByRecursion IsMap (maps_in k bytes)
maps_in-are zero bytes room = tt
maps_in-are (suc k) bytes room =
    let here : ℕ = map_room (map_in bytes) in
    (map_in-is bytes (omega arith), maps_in-are k (drop here bytes) (omega (arith, length-drop here bytes)))

pub length-maps_in : (k : ℕ) (bytes : List ℕ) → length (maps_in k bytes) ≡ k
length-maps_in zero bytes = refl
length-maps_in (suc k) bytes = ap suc (length-maps_in k (drop (map_room (map_in bytes)) bytes))

-- the same where the place behind both is a sum
pieces : (a b : List ℕ) (n m : ℕ) (bytes : List ℕ) → a ++ drop n bytes ≡ bytes → b ++ drop m (drop n bytes) ≡ drop n bytes →
    (a ++ b) ++ drop (n + m) bytes ≡ bytes
pieces a b n m bytes p q =
    ap (λ (x : List ℕ). (a ++ b) ++ x) (sym (drop-drop m n bytes)) ∙ two_pieces a b (drop m (drop n bytes)) bytes (drop n bytes) p q

pub maps_in-joins : (k : ℕ) (bytes : List ℕ) → flat_map map_bytes (maps_in k bytes) ++ drop (maps_room (maps_in k bytes)) bytes ≡ bytes
maps_in-joins zero bytes = refl
maps_in-joins (suc k) bytes =
    let n : ℕ = map_room (map_in bytes) in
    pieces (map_bytes (map_in bytes)) (flat_map map_bytes (maps_in k (drop n bytes))) n (maps_room (maps_in k (drop n bytes))) bytes
    (map_in-joins bytes) (maps_in-joins k (drop n bytes))

abbrev maps_count_in : List ℕ → ℕ
maps_count_in bytes = if number_at 1 88 bytes == 0 then 1 else 2

pub volume_in-is : (bytes : List ℕ) → volume_room (volume_in bytes) ≤ length bytes → IsVolume (volume_in bytes)
volume_in-is bytes room = record {
  device = cut_at-lengths 0 device_lengths bytes (omega arith);
  state = cut_at-lengths 80 state_lengths bytes (omega arith);
  count = length-maps_in (maps_count_in bytes) (drop 112 bytes);
  maps = maps_in-are (maps_count_in bytes) (drop 112 bytes) (omega (arith, length-drop 112 bytes));
}

pub volume_in-joins : (bytes : List ℕ) → volume_bytes (volume_in bytes) ++ drop (volume_room (volume_in bytes)) bytes ≡ bytes
volume_in-joins bytes =
    let D : List ℕ = concat (cut_at 0 device_lengths bytes) in
    let S : List ℕ = concat (cut_at 80 state_lengths bytes) in
    let ms : List Map = maps_in (maps_count_in bytes) (drop 112 bytes) in
    let device : D ++ drop 80 bytes ≡ bytes = cut_at-joins 0 device_lengths bytes in
    let state : S ++ drop 112 bytes ≡ drop 80 bytes = cut_at-joins 80 state_lengths bytes in
    let front : (D ++ S) ++ drop 112 bytes ≡ bytes = two_pieces D S (drop 112 bytes) bytes (drop 80 bytes) device state in
    let maps : flat_map map_bytes ms ++ drop (maps_room ms) (drop 112 bytes) ≡ drop 112 bytes = maps_in-joins (maps_count_in bytes) (drop 112 bytes) in
    ap (λ (x : List ℕ). x ++ drop (112 + maps_room ms) bytes) (sym (append_assoc D S (flat_map map_bytes ms)))
    ∙ pieces (D ++ S) (flat_map map_bytes ms) 112 (maps_room ms) bytes front maps

pub volumes_in-are : (k : ℕ) (bytes : List ℕ) → volumes_room (volumes_in k bytes) ≤ length bytes → AllByRecursion IsVolume (volumes_in k bytes)
volumes_in-are zero bytes room = tt
volumes_in-are (suc k) bytes room =
    let here : ℕ = volume_room (volume_in bytes) in
    (volume_in-is bytes (omega arith), volumes_in-are k (drop here bytes) (omega (arith, length-drop here bytes)))

pub length-volumes_in : (k : ℕ) (bytes : List ℕ) → length (volumes_in k bytes) ≡ k
length-volumes_in zero bytes = refl
length-volumes_in (suc k) bytes = ap suc (length-volumes_in k (drop (volume_room (volume_in bytes)) bytes))

pub volumes_in-joins : (k : ℕ) (bytes : List ℕ) → flat_map volume_bytes (volumes_in k bytes) ++ drop (volumes_room (volumes_in k bytes)) bytes ≡ bytes
volumes_in-joins zero bytes = refl
volumes_in-joins (suc k) bytes =
    let n : ℕ = volume_room (volume_in bytes) in
    pieces (volume_bytes (volume_in bytes)) (flat_map volume_bytes (volumes_in k (drop n bytes))) n (volumes_room (volumes_in k (drop n bytes))) bytes
    (volume_in-joins bytes) (volumes_in-joins k (drop n bytes))

-- the parts, the bytes behind the header, behind the disk table and behind the volumes
five_pieces : (h d v g t bytes : List ℕ) (one two three : List ℕ) → h ++ one ≡ bytes → d ++ two ≡ one → v ++ three ≡ two → g ++ t ≡ three →
    bytes ≡ h ++ (d ++ (v ++ (g ++ t)))
five_pieces h d v g t bytes one two three p q r s =
    sym (ap (λ (x : List ℕ). h ++ (d ++ (v ++ x))) s ∙ ap (λ (x : List ℕ). h ++ (d ++ x)) r ∙ ap (λ (x : List ℕ). h ++ x) q ∙ p)

pub laid_apart : (bytes : List ℕ) → bytes ≡ bytes_of (block_in bytes)
unfolding block_in
laid_apart bytes =
    let n : ℕ = number_at 1 56 bytes in
    let behind : drop (48 * n) (drop 216 bytes) ≡ behind_disks bytes = drop-drop (48 * n) 216 bytes in
    let disks : flat_map concat (disks_in n (drop 216 bytes)) ++ behind_disks bytes ≡ drop 216 bytes =
    ap (λ (x : List ℕ). flat_map concat (disks_in n (drop 216 bytes)) ++ x) (sym behind) ∙ disks_in-joins n (drop 216 bytes) in
    let kept : ℕ = length (behind_volumes bytes) - number_at 4 72 bytes in
    five_pieces _ _ _ (take kept (behind_volumes bytes)) (drop kept (behind_volumes bytes)) bytes (drop 216 bytes) (behind_disks bytes) (behind_volumes bytes)
    (cut_at-joins 0 header_lengths bytes) disks (volumes_in-joins (number_at 1 57 bytes) (behind_disks bytes))
    (take-append-drop kept (behind_volumes bytes))

pub parts_apart : (bytes : List ℕ) → room_of (block_in bytes) ≤ length bytes → IsBlock (block_in bytes)
unfolding block_in
parts_apart bytes room =
    let n : ℕ = number_at 1 56 bytes in
    let vs : List Volume = volumes_in (number_at 1 57 bytes) (behind_disks bytes) in
    let behind : length (behind_disks bytes) ≡ length bytes - (216 + 48 * n) = length-drop (216 + 48 * n) bytes in
    let rest : length (behind_volumes bytes) ≡ length (behind_disks bytes) - volumes_room vs = length-drop (volumes_room vs) (behind_disks bytes) in
    record {
      header = cut_at-lengths 0 header_lengths bytes (omega arith);
      disks = disks_in-lengths n (drop 216 bytes) (omega (arith, length-drop 216 bytes));
      disk_count = length-disks_in n (drop 216 bytes);
      volumes = volumes_in-are (number_at 1 57 bytes) (behind_disks bytes) (omega arith);
      volume_count = length-volumes_in (number_at 1 57 bytes) (behind_disks bytes);
      tail = length-drop (length (behind_volumes bytes) - number_at 4 72 bytes) (behind_volumes bytes) ∙ omega arith;
    }

pub spells_apart : (bytes : List ℕ) → room_of (block_in bytes) ≤ length bytes → Spells bytes (block_in bytes)
spells_apart bytes room = record { parts = parts_apart bytes room; laid = laid_apart bytes }

-- there are as many records and volumes as the header says
pub length-disks : (bytes : List ℕ) → length (block_in bytes).disks ≡ number_at 1 56 bytes
unfolding block_in
length-disks bytes = length-disks_in (number_at 1 56 bytes) (drop 216 bytes)

pub length-volumes : (bytes : List ℕ) → length (block_in bytes).volumes ≡ number_at 1 57 bytes
unfolding block_in
length-volumes bytes = length-volumes_in (number_at 1 57 bytes) (behind_disks bytes)
