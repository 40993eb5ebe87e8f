-- The edits of a block's bytes make the bytes of the block that is edited.
use Rattle.std.proofs.Common.{◌≡◌, ◌≢◌, ℕ, zero, suc, ◌+◌, ◌*◌, ◌≤◌, ◌<◌, ◌==◌, if◌then◌else◌, Bool, List, [], ◌∷◌, ◌++◌, length, take, drop, get_or, set, refl, sym, ◌∙◌, ap, subst, arith}
use Rattle.std.specs.List.{concat, flat_map, AllByRecursion}
use Rattle.std.proofs.lemmas.List.{append_assoc, drop-drop, length-map, get_or-set_other}
use Rattle.byteorder.specs.Endian.{little_bytes}
use Rattle.imsm_base.specs.Fields.{Part, number, number_at}
use Rattle.imsm_base.specs.Layout.{Block, Volume, HasLengths, IsVolume, IsBlock, Spells, header_lengths, device_lengths, state_lengths, dirty_byte_of, volume_bytes, map_bytes, bytes_of}
use Rattle.imsm_base.specs.Parts.{volume_in, volumes_in, volume_room, volumes_room, behind_disks, block_in, room_of}
use Rattle.imsm_base.specs.Edits.{with_generation, dirty_place, with_lowest_bit, with_dirty, with_header_field, block_with_generation, volume_with_dirty, volumes_with_dirty, block_with_dirty}
use Rattle.imsm_base.proofs.Cut.{total, length-part}
use Rattle.imsm_base.proofs.Joined.{block_in-spelled, length-volume_bytes, length-disks_bytes, room_of-spelled}
use Rattle.imsm_base.proofs.Apart.{length-disks, length-volumes}
use Rattle.imsm_base.proofs.At.{place_of, volume_in-block, volumes_fit}
use Rattle.imsm_base.proofs.Spliced.{spliced, length-spliced, spliced-front, spliced-behind, spliced-field, set-lengths}

-- a part has as many fields as lengths
pub fields_of : (ns : List ℕ) (part : Part) → HasLengths ns part → length part ≡ length ns
fields_of ns part lengths = sym (length-map part (λ (g : List ℕ). length g)) ∙ ap (λ (xs : List ℕ). length xs) lengths

-- THE HEADER

-- a field of the header that isn't one of the counts
pub record IsFree (k : ℕ) (f : List ℕ) : Type 0 where
  pub below : k < 15
  pub len : length f ≡ get_or header_lengths k 0
  pub inside : total (take k header_lengths) + length f ≤ 216
  pub disks : 8 ≢ k
  pub volumes : 9 ≢ k
  pub tail : 13 ≢ k

header-spliced : (b : Block) (k : ℕ) (f : List ℕ) → IsBlock b → IsFree k f → spliced (total (take k header_lengths)) f (bytes_of b) ≡ bytes_of (with_header_field k f b)
header-spliced b k f is free =
    let rest : List ℕ = flat_map concat b.disks ++ (flat_map volume_bytes b.volumes ++ (b.gap ++ b.tail)) in
    let len : length (concat b.header) ≡ 216 = length-part header_lengths b.header is.header in
    let inside : total (take k header_lengths) + length f ≤ 216 = free.inside in
    let below : k < 15 = free.below in
    spliced-front (total (take k header_lengths)) f (concat b.header) rest (omega arith)
    ∙ ap (λ (x : List ℕ). x ++ rest) (spliced-field header_lengths b.header k f is.header (omega (arith, fields_of header_lengths b.header is.header)) free.len)

pub other_field : (b : Block) (k j : ℕ) (f : List ℕ) → j ≢ k → number (get_or (set b.header k f) j []) ≡ number (get_or b.header j [])
other_field b k j f apart = ap number (get_or-set_other b.header k j f [] apart)

header-is : (b : Block) (k : ℕ) (f : List ℕ) → IsBlock b → IsFree k f → IsBlock (with_header_field k f b)
header-is b k f is free = record {
  header = set-lengths header_lengths b.header k f is.header free.len;
  disks = is.disks;
  disk_count = is.disk_count ∙ sym (other_field b k 8 f free.disks);
  volumes = is.volumes;
  volume_count = is.volume_count ∙ sym (other_field b k 9 f free.volumes);
  tail = is.tail ∙ sym (other_field b k 13 f free.tail);
}

pub header-spells : (bytes : List ℕ) (b : Block) (k : ℕ) (f : List ℕ) → Spells bytes b → IsFree k f → Spells (spliced (total (take k header_lengths)) f bytes) (with_header_field k f b)
header-spells bytes b k f s free = record {
  parts = header-is b k f s.parts free;
  laid = ap (spliced (total (take k header_lengths)) f) s.laid ∙ header-spliced b k f s.parts free;
}

pub generation_is_free : (g : ℕ) → IsFree 5 (little_bytes 4 g)
generation_is_free g = record { below = omega arith; len = refl; inside = omega arith; disks = λ e. omega arith; volumes = λ e. omega arith; tail = λ e. omega arith }

pub size_is_free : (n : ℕ) → IsFree 3 (little_bytes 4 n)
size_is_free n = record { below = omega arith; len = refl; inside = omega arith; disks = λ e. omega arith; volumes = λ e. omega arith; tail = λ e. omega arith }

pub checksum_is_free : (n : ℕ) → IsFree 2 (little_bytes 4 n)
checksum_is_free n = record { below = omega arith; len = refl; inside = omega arith; disks = λ e. omega arith; volumes = λ e. omega arith; tail = λ e. omega arith }

pub generation-spells : (bytes : List ℕ) (b : Block) (g : ℕ) → Spells bytes b → Spells (with_generation bytes g) (block_with_generation b g)
generation-spells bytes b g s = header-spells bytes b 5 (little_bytes 4 g) s (generation_is_free g)

-- THE DIRTY BIT

abbrev pub dirty_bytes : Bool → Volume → List ℕ
dirty_bytes on v = little_bytes 1 (with_lowest_bit (dirty_byte_of v) on)

state-spliced : (on : Bool) (v : Volume) → IsVolume v → spliced 90 (dirty_bytes on v) (volume_bytes v) ≡ volume_bytes (volume_with_dirty on v)
state-spliced on v is =
    let f : List ℕ = dirty_bytes on v in
    let D : List ℕ = concat v.device in
    let S : List ℕ = concat v.state in
    let M : List ℕ = flat_map map_bytes v.maps in
    let device : length D ≡ 80 = length-part device_lengths v.device is.device in
    let state : length S ≡ 32 = length-part state_lengths v.state is.state in
    let count : length v.state ≡ 10 = fields_of state_lengths v.state is.state in
    spliced-behind D (S ++ M) f 90 10 (omega arith)
    ∙ ap (λ (x : List ℕ). D ++ x) (
    spliced-front 10 f S M (omega arith)
    ∙ ap (λ (x : List ℕ). x ++ M) (spliced-field state_lengths v.state 4 f is.state (omega arith) refl)
    )

pub other_state : (on : Bool) (v : Volume) (j : ℕ) → j ≢ 4 → number (get_or (volume_with_dirty on v).state j []) ≡ number (get_or v.state j [])
other_state on v j apart = ap number (get_or-set_other v.state 4 j (dirty_bytes on v) [] apart)

volume-is : (on : Bool) (v : Volume) → IsVolume v → IsVolume (volume_with_dirty on v)
volume-is on v is = record {
  device = is.device;
  state = set-lengths state_lengths v.state 4 (dirty_bytes on v) is.state refl;
  count = is.count ∙ sym (ap (λ (n : ℕ). if n == 0 then 1 else 2) (other_state on v 2 (λ e. omega arith)));
  maps = is.maps;
}

volumes-are : (k : ℕ) (on : Bool) (vs : List Volume) → AllByRecursion IsVolume vs → AllByRecursion IsVolume (volumes_with_dirty k on vs)
volumes-are k on [] all = tt
volumes-are zero on (v ∷ vs) all = (volume-is on v all.0, all.1)
volumes-are (suc k) on (v ∷ vs) all = (all.0, volumes-are k on vs all.1)

pub length-volumes_with_dirty : (k : ℕ) (on : Bool) (vs : List Volume) → length (volumes_with_dirty k on vs) ≡ length vs
length-volumes_with_dirty k on [] = refl
length-volumes_with_dirty zero on (v ∷ vs) = refl
length-volumes_with_dirty (suc k) on (v ∷ vs) = ap suc (length-volumes_with_dirty k on vs)

volumes-spliced : (vs : List Volume) (k : ℕ) (on : Bool) (d : Volume) (rest : List ℕ) → AllByRecursion IsVolume vs → k < length vs →
    spliced (volumes_room (take k vs) + 90) (dirty_bytes on (get_or vs k d)) (flat_map volume_bytes vs ++ rest) ≡ flat_map volume_bytes (volumes_with_dirty k on vs) ++ rest
volumes-spliced [] k on d rest all below = absurd (omega arith)
volumes-spliced (v ∷ vs) zero on d rest all below =
    let f : List ℕ = dirty_bytes on v in
    let B : List ℕ = flat_map volume_bytes vs in
    ap (spliced 90 f) (append_assoc (volume_bytes v) B rest)
    ∙ spliced-front 90 f (volume_bytes v) (B ++ rest) (omega (arith, length-volume_bytes v all.0))
    ∙ ap (λ (x : List ℕ). x ++ (B ++ rest)) (state-spliced on v all.0)
    ∙ sym (append_assoc (volume_bytes (volume_with_dirty on v)) B rest)
volumes-spliced (v ∷ vs) (suc k) on d rest all below =
    let f : List ℕ = dirty_bytes on (get_or vs k d) in
    let B : List ℕ = flat_map volume_bytes vs in
    let R : ℕ = volumes_room (take k vs) in
    ap (spliced ((volume_room v + R) + 90) f) (append_assoc (volume_bytes v) B rest)
    ∙ spliced-behind (volume_bytes v) (B ++ rest) f ((volume_room v + R) + 90) (R + 90) (omega (arith, length-volume_bytes v all.0))
    ∙ ap (λ (x : List ℕ). volume_bytes v ++ x) (volumes-spliced vs k on d rest all.1 (omega arith))
    ∙ sym (append_assoc (volume_bytes v) (flat_map volume_bytes (volumes_with_dirty k on vs)) rest)

dirty-spliced : (b : Block) (k : ℕ) (on : Bool) (d : Volume) → IsBlock b → k < length b.volumes →
    spliced (216 + 48 * length b.disks + volumes_room (take k b.volumes) + 90) (dirty_bytes on (get_or b.volumes k d)) (bytes_of b) ≡ bytes_of (block_with_dirty b k on)
dirty-spliced b k on d is below =
    let f : List ℕ = dirty_bytes on (get_or b.volumes k d) in
    let n : ℕ = 48 * length b.disks in
    let R : ℕ = volumes_room (take k b.volumes) in
    let H : List ℕ = concat b.header in
    let D : List ℕ = flat_map concat b.disks in
    let rest : List ℕ = flat_map volume_bytes b.volumes ++ (b.gap ++ b.tail) in
    let header : length H ≡ 216 = length-part header_lengths b.header is.header in
    let disks : length D ≡ n = length-disks_bytes b.disks is.disks in
    spliced-behind H (D ++ rest) f (216 + n + R + 90) (n + R + 90) (omega arith)
    ∙ ap (λ (x : List ℕ). H ++ x) (
    spliced-behind D rest f (n + R + 90) (R + 90) (omega arith)
    ∙ ap (λ (x : List ℕ). D ++ x) (volumes-spliced b.volumes k on d (b.gap ++ b.tail) is.volumes below)
    )

-- the first volumes are those of all
volumes_in-take : (k i : ℕ) (bytes : List ℕ) → i ≤ k → volumes_in i bytes ≡ take i (volumes_in k bytes)
volumes_in-take k zero bytes below = refl
volumes_in-take zero (suc i) bytes below = absurd (omega arith)
volumes_in-take (suc k) (suc i) bytes below =
    ap (λ (vs : List Volume). volume_in bytes ∷ vs) (volumes_in-take k i (drop (volume_room (volume_in bytes)) bytes) (omega arith))

pub taken_from : (bytes : List ℕ) (k : ℕ) → k ≤ number_at 1 57 bytes → volumes_in k (behind_disks bytes) ≡ take k (block_in bytes).volumes
unfolding block_in
taken_from bytes k below = volumes_in-take (number_at 1 57 bytes) k (behind_disks bytes) below

-- where the byte stands, and what it is
dirty-place : (bytes : List ℕ) (b : Block) (k : ℕ) → Spells bytes b → k < length b.volumes → dirty_place bytes k ≡ 216 + 48 * length b.disks + volumes_room (take k b.volumes) + 90
dirty-place bytes b k s below =
    let same : block_in bytes ≡ b = block_in-spelled bytes b s in
    let disks : number_at 1 56 bytes ≡ length b.disks = sym (length-disks bytes) ∙ ap (λ (x : Block). length x.disks) same in
    let count : number_at 1 57 bytes ≡ length b.volumes = sym (length-volumes bytes) ∙ ap (λ (x : Block). length x.volumes) same in
    let volumes : volumes_in k (behind_disks bytes) ≡ take k b.volumes = taken_from bytes k (omega arith) ∙ ap (λ (x : Block). take k x.volumes) same in
    ap (λ (n : ℕ). 216 + 48 * n + volumes_room (volumes_in k (behind_disks bytes)) + 90) disks
    ∙ ap (λ (vs : List Volume). 216 + 48 * length b.disks + volumes_room vs + 90) volumes

dirty_byte-at : (bytes : List ℕ) (k : ℕ) (d : Volume) → k < number_at 1 57 bytes → number_at 1 (dirty_place bytes k) bytes ≡ dirty_byte_of (get_or (block_in bytes).volumes k d)
dirty_byte-at bytes k d below =
    let A : ℕ = 216 + 48 * number_at 1 56 bytes in
    let P : ℕ = place_of k (behind_disks bytes) in
    let split : dirty_place bytes k ≡ A + (P + 90) = omega arith in
    let there : drop 90 (drop P (drop A bytes)) ≡ drop (A + (P + 90)) bytes = drop-drop 90 P (drop A bytes) ∙ drop-drop (P + 90) A bytes in
    ap (λ (i : ℕ). number_at 1 i bytes) split
    ∙ ap (λ (x : List ℕ). number (take 1 x)) (sym there)
    ∙ sym (ap dirty_byte_of (volume_in-block bytes k d below))

pub dirty-spells : (bytes : List ℕ) (b : Block) (k : ℕ) (on : Bool) → Spells bytes b → k < length b.volumes → Spells (with_dirty bytes k on) (block_with_dirty b k on)
dirty-spells bytes b k on s below =
    let d : Volume = record { device = []; state = []; maps = [] } in
    let same : block_in bytes ≡ b = block_in-spelled bytes b s in
    let count : number_at 1 57 bytes ≡ length b.volumes = sym (length-volumes bytes) ∙ ap (λ (x : Block). length x.volumes) same in
    let byte : number_at 1 (dirty_place bytes k) bytes ≡ dirty_byte_of (get_or b.volumes k d) = dirty_byte-at bytes k d (omega arith) ∙ ap (λ (x : Block). dirty_byte_of (get_or x.volumes k d)) same in
    let f : List ℕ = dirty_bytes on (get_or b.volumes k d) in
    let made : with_dirty bytes k on ≡ spliced (dirty_place bytes k) f bytes = ap (λ (x : ℕ). spliced (dirty_place bytes k) (little_bytes 1 (with_lowest_bit x on)) bytes) byte in
    record {
      parts = record {
        header = s.parts.header;
        disks = s.parts.disks;
        disk_count = s.parts.disk_count;
        volumes = volumes-are k on b.volumes s.parts.volumes;
        volume_count = length-volumes_with_dirty k on b.volumes ∙ s.parts.volume_count;
        tail = s.parts.tail;
      };
      laid = made ∙ ap (λ (i : ℕ). spliced i f bytes) (dirty-place bytes b k s below)
          ∙ ap (spliced (216 + 48 * length b.disks + volumes_room (take k b.volumes) + 90) f) s.laid
          ∙ dirty-spliced b k on d s.parts below;
    }

-- the byte stands inside
pub dirty-inside : (bytes : List ℕ) (k : ℕ) → room_of (block_in bytes) ≤ length bytes → k < number_at 1 57 bytes → dirty_place bytes k + 1 ≤ length bytes
unfolding block_in
dirty-inside bytes k room below =
    let start : List ℕ = behind_disks bytes in
    let fits : place_of k start + volume_room (volume_in (drop (place_of k start) start)) ≤ place_of (number_at 1 57 bytes) start = volumes_fit (number_at 1 57 bytes) k start below in
    omega arith

pub length-with_generation : (bytes : List ℕ) (g : ℕ) → 216 ≤ length bytes → length (with_generation bytes g) ≡ length bytes
length-with_generation bytes g long = length-spliced 44 (little_bytes 4 g) bytes (omega arith)

pub length-with_dirty : (bytes : List ℕ) (k : ℕ) (on : Bool) → dirty_place bytes k + 1 ≤ length bytes → length (with_dirty bytes k on) ≡ length bytes
length-with_dirty bytes k on inside =
    length-spliced (dirty_place bytes k) (little_bytes 1 (with_lowest_bit (number_at 1 (dirty_place bytes k) bytes) on)) bytes inside

pub dirty-length : (bytes : List ℕ) (b : Block) (k : ℕ) (on : Bool) → Spells bytes b → k < length b.volumes → length (with_dirty bytes k on) ≡ length bytes
dirty-length bytes b k on s below =
    let same : block_in bytes ≡ b = block_in-spelled bytes b s in
    let count : number_at 1 57 bytes ≡ length b.volumes = sym (length-volumes bytes) ∙ ap (λ (x : Block). length x.volumes) same in
    let room = room_of-spelled bytes (block_in bytes) (subst (Spells bytes) (sym same) s) in
    length-with_dirty bytes k on (dirty-inside bytes k room (omega arith))
