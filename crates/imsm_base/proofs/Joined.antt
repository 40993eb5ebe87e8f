-- A block that is spelled is taken apart into its parts again.
use Rattle.std.proofs.Common.{◌≡◌, ℕ, zero, suc, ◌+◌, ◌-◌, ◌*◌, ◌≤◌, ◌==◌, if◌then◌else◌, List, [], ◌∷◌, ◌++◌, length, take, drop, replicate, refl, sym, ◌∙◌, ap, arith}
use Rattle.std.specs.List.{concat, flat_map, AllByRecursion}
use Rattle.std.proofs.lemmas.List.{append_assoc, drop-drop, drop_at, take_at, length-append}
use Rattle.imsm_base.specs.Fields.{Part, number_at, number_in}
use Rattle.imsm_base.specs.Layout.{Block, Volume, Map, HasLengths, IsMap, IsVolume, IsBlock, Spells, header_lengths, disk_lengths, device_lengths, state_lengths, map_lengths, member_count_of, migration_state_of, map_bytes, volume_bytes, bytes_of}
use Rattle.imsm_base.specs.Parts.{cut_at, disks_in, map_in, maps_in, volume_in, volumes_in, map_room, maps_room, volume_room, volumes_room, behind_disks, behind_volumes, block_in, room_of}
use Rattle.imsm_base.proofs.Cut.{total, cut_at-joined, length-part}

-- a part at the front
cut_front : (ns : List ℕ) (part : Part) (rest : List ℕ) → HasLengths ns part → cut_at 0 ns (concat part ++ rest) ≡ part
cut_front ns part rest lengths = cut_at-joined 0 ns [] part rest refl lengths

pub disks_in-joined : (disks : List Part) (rest : List ℕ) → AllByRecursion (HasLengths disk_lengths) disks →
    disks_in (length disks) (flat_map concat disks ++ rest) ≡ disks
disks_in-joined [] rest all = refl
disks_in-joined (d ∷ ds) rest all =
    let regrouped : (concat d ++ flat_map concat ds) ++ rest ≡ concat d ++ (flat_map concat ds ++ rest) = append_assoc (concat d) (flat_map concat ds) rest in
    let here : cut_at 0 disk_lengths ((concat d ++ flat_map concat ds) ++ rest) ≡ d = ap (cut_at 0 disk_lengths) regrouped ∙ cut_front disk_lengths d (flat_map concat ds ++ rest) all.0 in
    let behind : drop 48 ((concat d ++ flat_map concat ds) ++ rest) ≡ flat_map concat ds ++ rest = ap (λ (x : List ℕ). drop 48 x) regrouped ∙ drop_at (concat d) (flat_map concat ds ++ rest) 48 (length-part disk_lengths d all.0) in
    let more : disks_in (length ds) (drop 48 ((concat d ++ flat_map concat ds) ++ rest)) ≡ ds = ap (disks_in (length ds)) behind ∙ disks_in-joined ds rest all.1 in
    cc

pub total-fours : (n : ℕ) → total (replicate n 4) ≡ 4 * n
total-fours zero = refl
total-fours (suc n) = omega (arith, total-fours n)

pub length-map_bytes : (m : Map) → IsMap m → length (map_bytes m) ≡ map_room m
length-map_bytes m is =
    omega (arith, length-append (concat m.fields) (concat m.entries), length-part map_lengths m.fields is.fields, length-part (replicate (member_count_of m) 4) m.entries is.entries, total-fours (member_count_of m))

abbrev map_of : Part → Part → Map
map_of fields entries = record { fields = fields; entries = entries }

same_map_of : {a b c d : Part} → a ≡ b → c ≡ d → map_of a c ≡ map_of b d
same_map_of {a} {b} {c} {d} p q = ap (λ (x : Part). map_of x c) p ∙ ap (map_of b) q

pub map_in-joined : (m : Map) (rest : List ℕ) → IsMap m → map_in (map_bytes m ++ rest) ≡ m
map_in-joined m rest is =
    let regrouped : (concat m.fields ++ concat m.entries) ++ rest ≡ concat m.fields ++ (concat m.entries ++ rest) = append_assoc (concat m.fields) (concat m.entries) rest in
    let fields : cut_at 0 map_lengths ((concat m.fields ++ concat m.entries) ++ rest) ≡ m.fields = ap (cut_at 0 map_lengths) regrouped ∙ cut_front map_lengths m.fields (concat m.entries ++ rest) is.fields in
    let count : number_at 1 16 ((concat m.fields ++ concat m.entries) ++ rest) ≡ member_count_of m = ap (number_in 6) fields in
    let entries : cut_at 48 (replicate (member_count_of m) 4) ((concat m.fields ++ concat m.entries) ++ rest) ≡ m.entries = ap (cut_at 48 (replicate (member_count_of m) 4)) regrouped ∙ cut_at-joined 48 (replicate (member_count_of m) 4) (concat m.fields) m.entries rest (length-part map_lengths m.fields is.fields) is.entries in
    let counted : cut_at 48 (replicate (number_at 1 16 ((concat m.fields ++ concat m.entries) ++ rest)) 4) ((concat m.fields ++ concat m.entries) ++ rest) ≡ m.entries = ap (λ (n : ℕ). cut_at 48 (replicate n 4) ((concat m.fields ++ concat m.entries) ++ rest)) count ∙ entries in
    same_map_of fields counted

pub maps_in-joined : (ms : List Map) (rest : List ℕ) → AllByRecursion IsMap ms → maps_in (length ms) (flat_map map_bytes ms ++ rest) ≡ ms
maps_in-joined [] rest all = refl
maps_in-joined (m ∷ ms) rest all =
    let regrouped : (map_bytes m ++ flat_map map_bytes ms) ++ rest ≡ map_bytes m ++ (flat_map map_bytes ms ++ rest) = append_assoc (map_bytes m) (flat_map map_bytes ms) rest in
    let here : map_in ((map_bytes m ++ flat_map map_bytes ms) ++ rest) ≡ m = ap map_in regrouped ∙ map_in-joined m (flat_map map_bytes ms ++ rest) all.0 in
    let room : drop (map_room (map_in ((map_bytes m ++ flat_map map_bytes ms) ++ rest))) ((map_bytes m ++ flat_map map_bytes ms) ++ rest) ≡ drop (map_room m) (map_bytes m ++ (flat_map map_bytes ms ++ rest)) = ap (λ (x : Map). drop (map_room x) ((map_bytes m ++ flat_map map_bytes ms) ++ rest)) here ∙ ap (drop (map_room m)) regrouped in
    let behind : drop (map_room m) (map_bytes m ++ (flat_map map_bytes ms ++ rest)) ≡ flat_map map_bytes ms ++ rest = drop_at (map_bytes m) (flat_map map_bytes ms ++ rest) (map_room m) (length-map_bytes m all.0) in
    let more : maps_in (length ms) (drop (map_room (map_in ((map_bytes m ++ flat_map map_bytes ms) ++ rest))) ((map_bytes m ++ flat_map map_bytes ms) ++ rest)) ≡ ms = ap (maps_in (length ms)) (room ∙ behind) ∙ maps_in-joined ms rest all.1 in
    cc

pub length-maps_bytes : (ms : List Map) → AllByRecursion IsMap ms → length (flat_map map_bytes ms) ≡ maps_room ms
length-maps_bytes [] all = refl
length-maps_bytes (m ∷ ms) all =
    omega (arith, length-append (map_bytes m) (flat_map map_bytes ms), length-map_bytes m all.0, length-maps_bytes ms all.1)

pub length-volume_bytes : (v : Volume) → IsVolume v → length (volume_bytes v) ≡ volume_room v
length-volume_bytes v is =
    omega (arith, length-append (concat v.device) (concat v.state ++ flat_map map_bytes v.maps), length-append (concat v.state) (flat_map map_bytes v.maps), length-part device_lengths v.device is.device, length-part state_lengths v.state is.state, length-maps_bytes v.maps is.maps)

abbrev volume_of : Part → Part → List Map → Volume
volume_of device state maps = record { device = device; state = state; maps = maps }

same_volume_of : {a b c d : Part} {ms ns : List Map} → a ≡ b → c ≡ d → ms ≡ ns → volume_of a c ms ≡ volume_of b d ns
same_volume_of {a} {b} {c} {d} {ms} {ns} p q r =
    ap (λ (x : Part). volume_of x c ms) p ∙ ap (λ (x : Part). volume_of b x ms) q ∙ ap (volume_of b d) r

pub volume_in-joined : (v : Volume) (rest : List ℕ) → IsVolume v → volume_in (volume_bytes v ++ rest) ≡ v
volume_in-joined v rest is =
    let D : List ℕ = concat v.device in
    let S : List ℕ = concat v.state in
    let M : List ℕ = flat_map map_bytes v.maps in
    let X : List ℕ = (D ++ (S ++ M)) ++ rest in
    let one : X ≡ D ++ (S ++ (M ++ rest)) = append_assoc D (S ++ M) rest ∙ ap (λ (x : List ℕ). D ++ x) (append_assoc S M rest) in
    let two : D ++ (S ++ (M ++ rest)) ≡ (D ++ S) ++ (M ++ rest) = sym (append_assoc D S (M ++ rest)) in
    let device : cut_at 0 device_lengths X ≡ v.device = ap (cut_at 0 device_lengths) one ∙ cut_front device_lengths v.device (S ++ (M ++ rest)) is.device in
    let state : cut_at 80 state_lengths X ≡ v.state = ap (cut_at 80 state_lengths) one ∙ cut_at-joined 80 state_lengths D v.state (M ++ rest) (length-part device_lengths v.device is.device) is.state in
    let open_pass : number_at 1 88 X ≡ migration_state_of v = ap (number_in 2) state in
    let count : (if number_at 1 88 X == 0 then 1 else 2) ≡ length v.maps = ap (λ (n : ℕ). if n == 0 then 1 else 2) open_pass ∙ sym is.count in
    let place : length (D ++ S) ≡ 112 = omega (arith, length-append D S, length-part device_lengths v.device is.device, length-part state_lengths v.state is.state) in
    let behind : drop 112 X ≡ M ++ rest = ap (λ (x : List ℕ). drop 112 x) (one ∙ two) ∙ drop_at (D ++ S) (M ++ rest) 112 place in
    let maps : maps_in (if number_at 1 88 X == 0 then 1 else 2) (drop 112 X) ≡ v.maps = ap (λ (n : ℕ). maps_in n (drop 112 X)) count ∙ ap (maps_in (length v.maps)) behind ∙ maps_in-joined v.maps rest is.maps in
    same_volume_of device state maps

pub volumes_in-joined : (vs : List Volume) (rest : List ℕ) → AllByRecursion IsVolume vs → volumes_in (length vs) (flat_map volume_bytes vs ++ rest) ≡ vs
volumes_in-joined [] rest all = refl
volumes_in-joined (v ∷ vs) rest all =
    let B : List ℕ = flat_map volume_bytes vs in
    let X : List ℕ = (volume_bytes v ++ B) ++ rest in
    let regrouped : X ≡ volume_bytes v ++ (B ++ rest) = append_assoc (volume_bytes v) B rest in
    let here : volume_in X ≡ v = ap volume_in regrouped ∙ volume_in-joined v (B ++ rest) all.0 in
    let room : drop (volume_room (volume_in X)) X ≡ drop (volume_room v) (volume_bytes v ++ (B ++ rest)) = ap (λ (x : Volume). drop (volume_room x) X) here ∙ ap (drop (volume_room v)) regrouped in
    let behind : drop (volume_room v) (volume_bytes v ++ (B ++ rest)) ≡ B ++ rest = drop_at (volume_bytes v) (B ++ rest) (volume_room v) (length-volume_bytes v all.0) in
    let more : volumes_in (length vs) (drop (volume_room (volume_in X)) X) ≡ vs = ap (volumes_in (length vs)) (room ∙ behind) ∙ volumes_in-joined vs rest all.1 in
    ap (λ (x : Volume). x ∷ volumes_in (length vs) (drop (volume_room (volume_in X)) X)) here ∙ ap (λ (xs : List Volume). v ∷ xs) more

pub length-volumes_bytes : (vs : List Volume) → AllByRecursion IsVolume vs → length (flat_map volume_bytes vs) ≡ volumes_room vs
length-volumes_bytes [] all = refl
length-volumes_bytes (v ∷ vs) all =
    omega (arith, length-append (volume_bytes v) (flat_map volume_bytes vs), length-volume_bytes v all.0, length-volumes_bytes vs all.1)

pub length-disks_bytes : (ds : List Part) → AllByRecursion (HasLengths disk_lengths) ds → length (flat_map concat ds) ≡ 48 * length ds
length-disks_bytes [] all = refl
length-disks_bytes (d ∷ ds) all =
    omega (arith, length-append (concat d) (flat_map concat ds), length-part disk_lengths d all.0, length-disks_bytes ds all.1)

abbrev behind_of : Block → List ℕ
behind_of b = flat_map volume_bytes b.volumes ++ (b.gap ++ b.tail)

header-joined : (b : Block) → IsBlock b → cut_at 0 header_lengths (bytes_of b) ≡ b.header
header-joined b is = cut_front header_lengths b.header (flat_map concat b.disks ++ behind_of b) is.header

disk_count-joined : (b : Block) → IsBlock b → number_at 1 56 (bytes_of b) ≡ length b.disks
disk_count-joined b is = ap (number_in 8) (header-joined b is) ∙ sym is.disk_count

volume_count-joined : (b : Block) → IsBlock b → number_at 1 57 (bytes_of b) ≡ length b.volumes
volume_count-joined b is = ap (number_in 9) (header-joined b is) ∙ sym is.volume_count

tail_size-joined : (b : Block) → IsBlock b → number_at 4 72 (bytes_of b) ≡ length b.tail
tail_size-joined b is = ap (number_in 13) (header-joined b is) ∙ sym is.tail

behind_header-joined : (b : Block) → IsBlock b → drop 216 (bytes_of b) ≡ flat_map concat b.disks ++ behind_of b
behind_header-joined b is = drop_at (concat b.header) (flat_map concat b.disks ++ behind_of b) 216 (length-part header_lengths b.header is.header)

disks-joined : (b : Block) → IsBlock b → disks_in (number_at 1 56 (bytes_of b)) (drop 216 (bytes_of b)) ≡ b.disks
disks-joined b is =
    ap (λ (n : ℕ). disks_in n (drop 216 (bytes_of b))) (disk_count-joined b is)
    ∙ ap (disks_in (length b.disks)) (behind_header-joined b is)
    ∙ disks_in-joined b.disks (behind_of b) is.disks

behind_disks-joined : (b : Block) → IsBlock b → behind_disks (bytes_of b) ≡ behind_of b
behind_disks-joined b is =
    ap (λ (n : ℕ). drop (216 + 48 * n) (bytes_of b)) (disk_count-joined b is)
    ∙ sym (drop-drop (48 * length b.disks) 216 (bytes_of b))
    ∙ ap (drop (48 * length b.disks)) (behind_header-joined b is)
    ∙ drop_at (flat_map concat b.disks) (behind_of b) (48 * length b.disks) (length-disks_bytes b.disks is.disks)

volumes-joined : (b : Block) → IsBlock b → volumes_in (number_at 1 57 (bytes_of b)) (behind_disks (bytes_of b)) ≡ b.volumes
volumes-joined b is =
    ap (λ (n : ℕ). volumes_in n (behind_disks (bytes_of b))) (volume_count-joined b is)
    ∙ ap (volumes_in (length b.volumes)) (behind_disks-joined b is)
    ∙ volumes_in-joined b.volumes (b.gap ++ b.tail) is.volumes

behind_volumes-joined : (b : Block) → IsBlock b → behind_volumes (bytes_of b) ≡ b.gap ++ b.tail
behind_volumes-joined b is =
    ap (λ (vs : List Volume). drop (volumes_room vs) (behind_disks (bytes_of b))) (volumes-joined b is)
    ∙ ap (drop (volumes_room b.volumes)) (behind_disks-joined b is)
    ∙ drop_at (flat_map volume_bytes b.volumes) (b.gap ++ b.tail) (volumes_room b.volumes) (length-volumes_bytes b.volumes is.volumes)

kept-joined : (b : Block) → IsBlock b → length (behind_volumes (bytes_of b)) - number_at 4 72 (bytes_of b) ≡ length b.gap
kept-joined b is =
    ap (λ (x : List ℕ). length x - number_at 4 72 (bytes_of b)) (behind_volumes-joined b is)
    ∙ ap (λ (n : ℕ). length (b.gap ++ b.tail) - n) (tail_size-joined b is)
    ∙ omega (arith, length-append b.gap b.tail)

abbrev block_of : Part → List Part → List Volume → List ℕ → List ℕ → Block
block_of header disks volumes gap tail =
    record { header = header; disks = disks; volumes = volumes; gap = gap; tail = tail }

same_block_of : {h i : Part} {ds es : List Part} {vs ws : List Volume} {g k t u : List ℕ} →
    h ≡ i → ds ≡ es → vs ≡ ws → g ≡ k → t ≡ u → block_of h ds vs g t ≡ block_of i es ws k u
same_block_of {h} {i} {ds} {es} {vs} {ws} {g} {k} {t} {u} a b c d e =
    ap (λ (x : Part). block_of x ds vs g t) a ∙ ap (λ (x : List Part). block_of i x vs g t) b
    ∙ ap (λ (x : List Volume). block_of i es x g t) c ∙ ap (λ (x : List ℕ). block_of i es ws x t) d ∙ ap (block_of i es ws k) e

pub block_in-joined : (b : Block) → IsBlock b → block_in (bytes_of b) ≡ b
unfolding block_in
block_in-joined b is =
    let X : List ℕ = bytes_of b in
    let kept : length (behind_volumes X) - number_at 4 72 X ≡ length b.gap = kept-joined b is in
    let gap : take (length (behind_volumes X) - number_at 4 72 X) (behind_volumes X) ≡ b.gap =
    ap (λ (n : ℕ). take n (behind_volumes X)) kept ∙ ap (take (length b.gap)) (behind_volumes-joined b is) ∙ take_at b.gap b.tail (length b.gap) refl in
    let tail : drop (length (behind_volumes X) - number_at 4 72 X) (behind_volumes X) ≡ b.tail =
    ap (λ (n : ℕ). drop n (behind_volumes X)) kept ∙ ap (drop (length b.gap)) (behind_volumes-joined b is) ∙ drop_at b.gap b.tail (length b.gap) refl in
    same_block_of (header-joined b is) (disks-joined b is) (volumes-joined b is) gap tail

-- the one block that bytes spell is what is taken apart
pub block_in-spelled : (bytes : List ℕ) (b : Block) → Spells bytes b → block_in bytes ≡ b
block_in-spelled bytes b s = ap block_in s.laid ∙ block_in-joined b s.parts

pub spelled_once : (bytes : List ℕ) (a b : Block) → Spells bytes a → Spells bytes b → a ≡ b
spelled_once bytes a b s t = sym (block_in-spelled bytes a s) ∙ block_in-spelled bytes b t

pub length-bytes_of : (b : Block) → IsBlock b → room_of b + length b.gap ≡ length (bytes_of b)
length-bytes_of b is =
    omega (
      arith,
      length-append (concat b.header) (flat_map concat b.disks ++ behind_of b),
      length-append (flat_map concat b.disks) (behind_of b),
      length-append (flat_map volume_bytes b.volumes) (b.gap ++ b.tail),
      length-append b.gap b.tail,
      length-part header_lengths b.header is.header,
      length-disks_bytes b.disks is.disks,
      length-volumes_bytes b.volumes is.volumes,
      is.disk_count,
      is.tail,
    )

-- what bytes spell has room in them
pub room_of-spelled : (bytes : List ℕ) (b : Block) → Spells bytes b → room_of b ≤ length bytes
room_of-spelled bytes b s = omega (arith, length-bytes_of b s.parts, ap length s.laid)
