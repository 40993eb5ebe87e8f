-- Where a block's records and volumes stand, and the edits of one of them.
use Rattle.std.proofs.Common.{◌≡◌, ℕ, suc, ◌+◌, ◌<◌, List, [], ◌++◌, length, take, drop, get_or, sym, ◌∙◌, ap, arith}
use Rattle.std.specs.List.{concat, flat_map, AllByRecursion}
use Rattle.std.proofs.lemmas.List.{append_assoc, length-append, length-take-le}
use Rattle.imsm_base.specs.Fields.{Part}
use Rattle.imsm_base.specs.Layout.{Block, Volume, Map, HasLengths, IsMap, IsVolume, IsBlock, header_lengths, disk_lengths, device_lengths, state_lengths, map_bytes, volume_bytes, bytes_of}
use Rattle.imsm_base.specs.Parts.{maps_room}
use Rattle.imsm_base.specs.EditsOfTables.{with_disk, with_volume, with_map}
use Rattle.imsm_base.proofs.Cut.{length-part}
use Rattle.imsm_base.proofs.Joined.{length-disks_bytes, length-volumes_bytes, length-maps_bytes}
use Rattle.imsm_buffer.specs.Places.{disk_place, volume_place}
use Rattle.imsm_buffer.proofs.Replaced.{laid_around, unchanged_at, length-changed_at, all-changed_at, all-take}

-- A RECORD

abbrev pub before_disk : ℕ → Block → List ℕ
before_disk i b = concat b.header ++ flat_map concat (take i b.disks)

abbrev pub behind_disk : ℕ → Block → List ℕ
behind_disk i b = flat_map concat (drop (suc i) b.disks) ++ (flat_map volume_bytes b.volumes ++ (b.gap ++ b.tail))

pub regrouped : (h a e r s : List ℕ) → h ++ ((a ++ (e ++ r)) ++ s) ≡ (h ++ a) ++ (e ++ (r ++ s))
regrouped h a e r s = simp append_assoc

pub disk_laid : (i : ℕ) (f : Part → Part) (b : Block) → i < length b.disks → bytes_of (with_disk i f b) ≡ before_disk i b ++ (concat (f (get_or b.disks i [])) ++ behind_disk i b)
disk_laid i f b below =
    ap (λ (x : List ℕ). concat b.header ++ (x ++ (flat_map volume_bytes b.volumes ++ (b.gap ++ b.tail)))) (laid_around concat b.disks i f [] below)
    ∙ regrouped (concat b.header) (flat_map concat (take i b.disks)) (concat (f (get_or b.disks i []))) (flat_map concat (drop (suc i) b.disks)) (flat_map volume_bytes b.volumes ++ (b.gap ++ b.tail))

pub disk_around : (i : ℕ) (b : Block) → i < length b.disks → bytes_of b ≡ before_disk i b ++ (concat (get_or b.disks i []) ++ behind_disk i b)
disk_around i b below =
    sym (ap (λ (ds : List Part). bytes_of (record b { disks = ds })) (unchanged_at i b.disks)) ∙ disk_laid i (λ d. d) b below

pub disk_placed : (i : ℕ) (b : Block) → IsBlock b → i < length b.disks → length (before_disk i b) ≡ disk_place i
disk_placed i b is below =
    omega (
      arith,
      length-append (concat b.header) (flat_map concat (take i b.disks)),
      length-part header_lengths b.header is.header,
      length-disks_bytes (take i b.disks) (all-take (HasLengths disk_lengths) i b.disks is.disks),
      length-take-le i b.disks (omega arith),
    )

in_front : (d s a e r : List ℕ) → d ++ (s ++ (a ++ (e ++ r))) ≡ (d ++ (s ++ a)) ++ (e ++ r)
in_front d s a e r = simp append_assoc

-- A VOLUME

abbrev pub before_volume : ℕ → Block → List ℕ
before_volume k b = concat b.header ++ (flat_map concat b.disks ++ flat_map volume_bytes (take k b.volumes))

abbrev pub behind_volume : ℕ → Block → List ℕ
behind_volume k b = flat_map volume_bytes (drop (suc k) b.volumes) ++ (b.gap ++ b.tail)

regrouped_twice : (h d a e r s : List ℕ) → h ++ (d ++ ((a ++ (e ++ r)) ++ s)) ≡ (h ++ (d ++ a)) ++ (e ++ (r ++ s))
regrouped_twice h d a e r s = simp append_assoc

pub volume_laid : (k : ℕ) (f : Volume → Volume) (b : Block) (d : Volume) → k < length b.volumes →
    bytes_of (with_volume k f b) ≡ before_volume k b ++ (volume_bytes (f (get_or b.volumes k d)) ++ behind_volume k b)
volume_laid k f b d below =
    ap (λ (x : List ℕ). concat b.header ++ (flat_map concat b.disks ++ (x ++ (b.gap ++ b.tail)))) (laid_around volume_bytes b.volumes k f d below)
    ∙ regrouped_twice (concat b.header) (flat_map concat b.disks) (flat_map volume_bytes (take k b.volumes)) (volume_bytes (f (get_or b.volumes k d))) (flat_map volume_bytes (drop (suc k) b.volumes)) (b.gap ++ b.tail)

pub volume_around : (k : ℕ) (b : Block) (d : Volume) → k < length b.volumes → bytes_of b ≡ before_volume k b ++ (volume_bytes (get_or b.volumes k d) ++ behind_volume k b)
volume_around k b d below =
    sym (ap (λ (vs : List Volume). bytes_of (record b { volumes = vs })) (unchanged_at k b.volumes)) ∙ volume_laid k (λ v. v) b d below

pub volume_placed : (k : ℕ) (b : Block) → IsBlock b → length (before_volume k b) ≡ volume_place k b
volume_placed k b is =
    omega (
      arith,
      length-append (concat b.header) (flat_map concat b.disks ++ flat_map volume_bytes (take k b.volumes)),
      length-append (flat_map concat b.disks) (flat_map volume_bytes (take k b.volumes)),
      length-part header_lengths b.header is.header,
      length-disks_bytes b.disks is.disks,
      length-volumes_bytes (take k b.volumes) (all-take IsVolume k b.volumes is.volumes),
    )

-- a block of which one record or one volume is changed is a block
pub with_disk-is : (i : ℕ) (f : Part → Part) (b : Block) → IsBlock b → HasLengths disk_lengths (f (get_or b.disks i [])) → IsBlock (with_disk i f b)
with_disk-is i f b is new = record {
  header = is.header;
  disks = all-changed_at (HasLengths disk_lengths) i f b.disks [] is.disks new;
  disk_count = length-changed_at i f b.disks ∙ is.disk_count;
  volumes = is.volumes;
  volume_count = is.volume_count;
  tail = is.tail;
}

pub with_volume-is : (k : ℕ) (f : Volume → Volume) (b : Block) (d : Volume) → IsBlock b → IsVolume (f (get_or b.volumes k d)) → IsBlock (with_volume k f b)
with_volume-is k f b d is new = record {
  header = is.header;
  disks = is.disks;
  disk_count = is.disk_count;
  volumes = all-changed_at IsVolume k f b.volumes d is.volumes new;
  volume_count = length-changed_at k f b.volumes ∙ is.volume_count;
  tail = is.tail;
}

-- A MAP

abbrev pub before_map : ℕ → Volume → List ℕ
before_map m v = concat v.device ++ (concat v.state ++ flat_map map_bytes (take m v.maps))

abbrev pub behind_map : ℕ → Volume → List ℕ
behind_map m v = flat_map map_bytes (drop (suc m) v.maps)

pub map_laid : (m : ℕ) (f : Map → Map) (v : Volume) (d : Map) → m < length v.maps →
    volume_bytes (with_map m f v) ≡ before_map m v ++ (map_bytes (f (get_or v.maps m d)) ++ behind_map m v)
map_laid m f v d below =
    ap (λ (x : List ℕ). concat v.device ++ (concat v.state ++ x)) (laid_around map_bytes v.maps m f d below)
    ∙ in_front (concat v.device) (concat v.state) (flat_map map_bytes (take m v.maps)) (map_bytes (f (get_or v.maps m d))) (behind_map m v)

pub map_around : (m : ℕ) (v : Volume) (d : Map) → m < length v.maps → volume_bytes v ≡ before_map m v ++ (map_bytes (get_or v.maps m d) ++ behind_map m v)
map_around m v d below =
    sym (ap (λ (ms : List Map). volume_bytes (record v { maps = ms })) (unchanged_at m v.maps)) ∙ map_laid m (λ x. x) v d below

-- fields and maps of a volume have their lengths, as many maps as there may be
pub record HasFields (v : Volume) : Type 0 where
  pub device : HasLengths device_lengths v.device
  pub state : HasLengths state_lengths v.state
  pub maps : AllByRecursion IsMap v.maps

pub fields_in : (v : Volume) → IsVolume v → HasFields v
fields_in v is = record { device = is.device; state = is.state; maps = is.maps }

pub map_placed : (m : ℕ) (v : Volume) → HasFields v → length (before_map m v) ≡ 112 + maps_room (take m v.maps)
map_placed m v is =
    omega (
      arith,
      length-append (concat v.device) (concat v.state ++ flat_map map_bytes (take m v.maps)),
      length-append (concat v.state) (flat_map map_bytes (take m v.maps)),
      length-part device_lengths v.device is.device,
      length-part state_lengths v.state is.state,
      length-maps_bytes (take m v.maps) (all-take IsMap m v.maps is.maps),
    )
