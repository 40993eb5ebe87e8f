-- The volumes of a created block are those that were asked for, and start as they are.
use Rattle.std.proofs.Common.{◌≡◌, ℕ, zero, suc, ◌+◌, ◌-◌, ◌*◌, ◌/◌, ◌%◌, ◌^◌, ◌<◌, ◌≤◌, ◌==◌, ◌&&◌, ◌||◌, not, Bool, true, false, if◌then◌else◌, Option, Some, None, List, [], ◌∷◌, length, map, take, refl, sym, ◌∙◌, ap, subst, arith, add-one, min}
use Rattle.std.specs.Prelude.{find, nat_le, is_none, slice_get, slice_index}
use Rattle.std.specs.Option.{option_map, option_map_or}
use Rattle.std.specs.List.{range_with_len, list_all, list_any, AllByRecursion}
use Rattle.std.specs.Int.{bit_at}
use Rattle.std.proofs.lemmas.Bool.{and_parts, eqb-true, leb-true, le-leb, lt-ltb, ne_eqb, or_right}
use Rattle.std.proofs.Math.Nat.{mul-le-mul_right}
use Rattle.std.proofs.lemmas.List.{get_or-map}
use Rattle.std.proofs.lemmas.List.FromFn.{length-map-range_with_len, get_or-map-range_with_len}
use Rattle.byteorder.specs.Endian.{little_bytes}
use Rattle.byteorder.specs.Numbers.{little_number-reads_back}
use Rattle.units.specs.declared.volume.Level.{Level}
use Rattle.units.specs.declared.volume.Level.TheVariants.{One, Five, Ten}
use Rattle.units.specs.declared.bounds.TheConstants.{METADATA_SECTORS}
use Rattle.imsm_base.specs.Fields.{Part, number}
use Rattle.imsm_base.specs.Layout.{Block, Volume, disk_count_of, total_blocks_of, volume_size_of, pba_of, blocks_per_member_of, strip_of, member_count_of, level_byte_of, policy_of, migration_type_of}
use Rattle.imsm_base.specs.Volumes.{Fault, Member, first_map, member, members, order_at, is_in_sync, is_expected_at, volume_level, level_of, volume_rows, has_policy, has_migration, is_bad_slot, bad_slot, has_sectors, is_level_one, has_geometry, overlaps, geometry_fault, volume_fault}
use Rattle.units.specs.Levels.{rows_of, rounded_up}
use Rattle.imsm_base.specs.Volumes.Fault.{BadLevel, BadPolicy, BadMigration, BadGeometry, Overlaps}
use Rattle.imsm_base.specs.Whole.{is_expected}
use Rattle.imsm_base.proofs.Sealed.{number-four}
use Rattle.imsm_view.proofs.Members.{find_none, any_more, index_here, alike_one}
use Rattle.new_container.specs.declared.disk.NewDisk.{NewDisk}
use Rattle.new_container.specs.declared.volume.NewVolume.{NewVolume}
use Rattle.new_container.specs.Fits.{is_in_range, rows_over, takes, volume_fits}
use Rattle.new_container.specs.Created.{IsDisk, created_volume, disk_part, entries_part, level_byte}
use Rattle.new_container.specs.Fresh.{IsAsked}
use Rattle.imsm_view.proofs.Rows.{ceil_is, rows_bound, stripe_some}
use Rattle.new_container.proofs.Whole.{few_of, level_taken}

-- THE NUMBERS IN THE FIELDS

pub halves : (n : ℕ) → n < 2 ^ 64 → number (little_bytes 4 (n % 2 ^ 32)) + 2 ^ 32 * number (little_bytes 4 (n / 2 ^ 32)) ≡ n
halves n below =
    let low = number-four (n % 2 ^ 32) (omega arith) in
    let high = number-four (n / 2 ^ 32) (omega arith) in
    ap (λ (x : ℕ). x + 2 ^ 32 * number (little_bytes 4 (n / 2 ^ 32))) low ∙ ap (λ (x : ℕ). n % 2 ^ 32 + 2 ^ 32 * x) high ∙ omega arith

one_byte : (n : ℕ) → number (n ∷ []) ≡ n
one_byte n = omega arith

-- what is in range
pub record IsInRange (v : NewVolume) : Type 0 where
  pub strip : 1 ≤ v.strip
  pub strip_most : v.strip < 2 ^ 16
  pub size : 1 ≤ v.size
  pub size_most : v.size ≤ 2 ^ 40

pub range_of : (v : NewVolume) (count : ℕ) → volume_fits v count ≡ true → IsInRange v
range_of v count fits =
    let range = (and_parts (is_in_range v) _ fits).0 in
    let three = and_parts (nat_le 1 v.strip && nat_le v.strip 65535 && nat_le 1 v.size) (nat_le v.size (2 ^ 40)) range in
    let two = and_parts (nat_le 1 v.strip && nat_le v.strip 65535) (nat_le 1 v.size) three.0 in
    let one = and_parts (nat_le 1 v.strip) (nat_le v.strip 65535) two.0 in
    let most : v.strip ≤ 65535 = leb-true v.strip 65535 one.1 in
    record { strip = leb-true 1 v.strip one.0; strip_most = omega arith; size = leb-true 1 v.size two.1; size_most = leb-true v.size (2 ^ 40) three.1 }

-- THE LEVEL

level_is : (level : Level) (count : ℕ) → takes level count ≡ true → level_of (level_byte level) count ≡ Some level
level_is One count e = let two : count ≡ 2 = eqb-true count 2 e in ap (level_of 1) two
level_is Ten count e = let four : count ≡ 4 = eqb-true count 4 e in ap (level_of 1) four
level_is Five count e = ap (λ (t : Bool). if t then Some Five else None) e

pub volume_level_is : (k pba : ℕ) (v : NewVolume) (count : ℕ) → takes v.level count ≡ true → volume_level (created_volume k pba v count) ≡ Some v.level
volume_level_is k pba v count taken =
    ap (λ (b : ℕ). level_of b (number (count ∷ []))) (one_byte (level_byte v.level))
    ∙ ap (level_of (level_byte v.level)) (one_byte count)
    ∙ level_is v.level count taken

-- IT IS AS IT WAS ASKED FOR

strip_is : (strip : ℕ) → strip < 2 ^ 16 → number (little_bytes 2 strip) ≡ strip
strip_is strip below = little_number-reads_back 2 strip [] below

rows_is : (level level2 : Option Level) (count count2 size size2 strip strip2 : ℕ) → level ≡ level2 → count ≡ count2 → size ≡ size2 → strip ≡ strip2 → rows_of level count size strip ≡ rows_of level2 count2 size2 strip2
rows_is level level2 count count2 size size2 strip strip2 a b c d =
    ap (λ (x : Option Level). rows_of x count size strip) a ∙ ap (λ (x : ℕ). rows_of level2 x size strip) b
    ∙ ap (λ (x : ℕ). rows_of level2 count2 x strip) c ∙ ap (rows_of level2 count2 size2) d

pub asked_is : (k pba : ℕ) (v : NewVolume) (count : ℕ) → pba < 2 ^ 64 → volume_fits v count ≡ true → IsAsked v count pba (created_volume k pba v count)
asked_is k pba v count below fits =
    let range = range_of v count fits in
    let most : v.size ≤ 2 ^ 40 = range.size_most in
    let level = volume_level_is k pba v count (level_taken v count fits) in
    let size : volume_size_of (created_volume k pba v count) ≡ v.size = halves v.size (omega arith) in
    let strip : strip_of (first_map (created_volume k pba v count)) ≡ v.strip = strip_is v.strip range.strip_most in
    record {
      level = level;
      members = one_byte count;
      strip = strip;
      size = size;
      pba = halves pba below;
      rows = rows_is (volume_level (created_volume k pba v count)) (Some v.level) (number (count ∷ [])) count _ _ _ _ level (one_byte count) size strip;
    }

-- ITS MEMBERS

length-entries : (count : ℕ) → length (entries_part count) ≡ count
length-entries count = length-map-range_with_len (λ (k : ℕ). little_bytes 4 k) 0 count

order_is : (k pba : ℕ) (v : NewVolume) (count slot : ℕ) → slot < count → count ≤ 8 → order_at slot (first_map (created_volume k pba v count)) ≡ slot
order_is k pba v count slot below few =
    get_or-map number (entries_part count) slot [] 0 (omega (arith, length-entries count))
    ∙ ap number (get_or-map-range_with_len (λ (n : ℕ). little_bytes 4 n) 0 count slot slot [] below (omega arith))
    ∙ number-four slot (omega arith)

index_is : (k pba : ℕ) (v : NewVolume) (count slot : ℕ) → slot < count → count ≤ 8 → (member (created_volume k pba v count) slot).index ≡ slot
index_is k pba v count slot below few = ap (λ (n : ℕ). n % 2 ^ 24) (order_is k pba v count slot below few) ∙ omega arith

not_marked : (slot : ℕ) → slot ≤ 8 → (bit_at slot 24 == 1) ≡ false
not_marked slot few = let zero_bit : bit_at slot 24 ≡ 0 = omega arith in ap (λ (n : ℕ). n == 1) zero_bit

out_is : (k pba : ℕ) (v : NewVolume) (count slot : ℕ) → slot < count → count ≤ 8 → (member (created_volume k pba v count) slot).is_out ≡ false
out_is k pba v count slot below few =
    ap (λ (n : ℕ). (bit_at n 24 == 1) || false) (order_is k pba v count slot below few) ∙ ap (λ (t : Bool). t || false) (not_marked slot (omega arith))

-- a test of the members, slot by slot
all_slots : {X : Type 0} (q : X → Bool) (f : ℕ → X) (a n : ℕ) → ((k : ℕ) → a ≤ k → k < a + n → q (f k) ≡ true) → list_all q (map f (range_with_len a n)) ≡ true
all_slots q f a zero each = refl
all_slots q f a (suc n) each =
    ap (λ (t : Bool). t && list_all q (map f (range_with_len (a + 1) n))) (each a (omega arith) (omega arith))
    ∙ all_slots q f (a + 1) n (λ k low high. each k (omega arith) (omega arith))

all_members : (q : Member → Bool) (v : Volume) (count : ℕ) → member_count_of (first_map v) ≡ count → ((slot : ℕ) → slot < count → q (member v slot) ≡ true) → list_all q (members v) ≡ true
all_members q v count is each =
    ap (λ (n : ℕ). list_all q (map (member v) (range_with_len 0 n))) is ∙ all_slots q (member v) 0 count (λ k low high. each k (omega arith))

none_taken : (p : Member → Bool) (v : Volume) (n : ℕ) → n ≤ member_count_of (first_map v) → ((slot : ℕ) → slot < n → p (member v slot) ≡ false) → list_any p (take n (members v)) ≡ false
none_taken p v zero few each = refl
none_taken p v (suc n) few each =
    ap (λ (i : ℕ). list_any p (take i (members v))) (sym (add-one n))
    ∙ any_more p v n (omega arith) (none_taken p v n (omega arith) (λ slot below. each slot (omega arith))) (each n (omega arith))

-- no slot is bad
not_bad : (below taken : Bool) → below ≡ true → taken ≡ false → (not below || taken) ≡ false
not_bad below taken p q = ap (λ (t : Bool). not t || taken) p ∙ q

pub no_bad_slot : (b : Block) (k pba : ℕ) (v : NewVolume) (count : ℕ) → disk_count_of b ≡ count → count ≤ 8 → bad_slot b (created_volume k pba v count) ≡ None
no_bad_slot b k pba v count is few =
    let made : Volume = created_volume k pba v count in
    let counted : member_count_of (first_map made) ≡ count = one_byte count in
    find_none (is_bad_slot b (members made)) (member_count_of (first_map made)) (λ slot below.
    let inside : slot < count = omega arith in
    let at : slice_index (map (λ (m : Member). m.index) (members made)) slot ≡ slot = index_here made slot below ∙ index_is k pba v count slot inside few in
    not_bad _ _ (lt-ltb _ _ (omega arith))
    (none_taken (λ m. m.index == slice_index (map (λ (m : Member). m.index) (members made)) slot) made slot (omega arith) (λ other before.
    let there : (member made other).index ≡ other = index_is k pba v count other (omega arith) few in
    ne_eqb _ _ (λ e. omega arith))))

-- THE RECORDS OF ITS DISKS

-- what a record tells of its disk
pub record IsRoom (needed : ℕ) (d : NewDisk) : Type 0 where
  pub typed : IsDisk d
  pub room : needed ≤ d.sectors

pub rooms : (needed total : ℕ) (disks : List NewDisk) → needed ≤ total → AllByRecursion IsDisk disks → AllByRecursion (λ (d : NewDisk). total ≤ d.sectors) disks → AllByRecursion (IsRoom needed) disks
rooms needed total [] few typed room = tt
rooms needed total (d ∷ ds) few typed room =
    let here : total ≤ d.sectors = room.0 in
    (record { typed = typed.0; room = omega arith }, rooms needed total ds few typed.1 room.1)

record_at : (needed : ℕ) (disks : List NewDisk) (i : ℕ) → AllByRecursion (IsRoom needed) disks → i < length disks → (d : NewDisk) × (slice_get (map disk_part disks) i ≡ Some (disk_part d)) × IsRoom needed d
record_at needed [] i all below = absurd (omega arith)
record_at needed (d ∷ ds) zero all below = (d, refl, all.0)
record_at needed (d ∷ ds) (suc i) all below = record_at needed ds i all.1 (omega arith)

pub sectors_is : (d : NewDisk) → IsDisk d → total_blocks_of (disk_part d) ≡ d.sectors
sectors_is d typed = halves d.sectors typed.sectors

-- the members' disks have the sectors, and are expected
pub have_sectors : (b : Block) (disks : List NewDisk) (k pba : ℕ) (v : NewVolume) (needed : ℕ) → b.disks ≡ map disk_part disks → length disks ≤ 8 → AllByRecursion (IsRoom needed) disks →
    list_all (has_sectors b needed) (members (created_volume k pba v (length disks))) ≡ true
have_sectors b disks k pba v needed is few all =
    let made : Volume = created_volume k pba v (length disks) in
    all_members (has_sectors b needed) made (length disks) (one_byte (length disks)) (λ slot below.
    let at = record_at needed disks slot all below in
    let enough : needed ≤ total_blocks_of (disk_part at.0) = subst (λ (n : ℕ). needed ≤ n) (sym (sectors_is at.0 at.2.typed)) at.2.room in
    ap (λ (i : ℕ). option_map_or (λ d. nat_le needed (total_blocks_of d)) (slice_get b.disks i) false) (index_is k pba v (length disks) slot below few)
    ∙ ap (λ (ds : List Part). option_map_or (λ d. nat_le needed (total_blocks_of d)) (slice_get ds slot) false) is
    ∙ ap (λ (o : Option Part). option_map_or (λ d. nat_le needed (total_blocks_of d)) o false) at.1
    ∙ le-leb needed (total_blocks_of (disk_part at.0)) enough)

pub all_in_sync : (b : Block) (disks : List NewDisk) (k pba : ℕ) (v : NewVolume) (needed : ℕ) → b.disks ≡ map disk_part disks → length disks ≤ 8 → AllByRecursion (IsRoom needed) disks →
    list_all (is_in_sync b) (members (created_volume k pba v (length disks))) ≡ true
all_in_sync b disks k pba v needed is few all =
    let made : Volume = created_volume k pba v (length disks) in
    all_members (is_in_sync b) made (length disks) (one_byte (length disks)) (λ slot below.
    let at = record_at needed disks slot all below in
    ap (λ (t : Bool). not t && is_expected_at b (member made slot).index) (out_is k pba v (length disks) slot below few)
    ∙ ap (λ (i : ℕ). option_map_or is_expected (slice_get b.disks i) false) (index_is k pba v (length disks) slot below few)
    ∙ ap (λ (ds : List Part). option_map_or is_expected (slice_get ds slot) false) is
    ∙ ap (λ (o : Option Part). option_map_or is_expected o false) at.1)

-- IT IS SUPPORTED

six_true : (a b c d e f : Bool) → a ≡ true → b ≡ true → c ≡ true → d ≡ true → e ≡ true → f ≡ true → (a && b && c && d && e && f) ≡ true
six_true true true true true true true p q r s t u = refl
six_true false b c d e f p q r s t u = p
six_true true false c d e f p q r s t u = q
six_true true true false d e f p q r s t u = r
six_true true true true false e f p q r s t u = s
six_true true true true true false f p q r s t u = t
six_true true true true true true false p q r s t u = u

-- the rows are few, since a stripe is short
striped_small : (d s n : ℕ) → 1 ≤ d → d ≤ 7 → 1 ≤ s → s < 2 ^ 16 → n ≤ 2 ^ 40 → s * rounded_up n (d * s) < 2 ^ 41
striped_small d s n some few pos short most =
    let q : ℕ = n / (d * s) + min 1 (n % (d * s)) in
    let stripe = stripe_some d s some pos in
    let bound : s * rounded_up n (d * s) < n + d * s = subst (λ (x : ℕ). s * x < n + d * s) (ceil_is n (d * s) q stripe refl) (rows_bound d s n q some stripe refl) in
    let wide : d * s ≤ 7 * s = mul-le-mul_right s few in
    omega arith

level_small : (level : Level) (count size strip : ℕ) → takes level count ≡ true → 2 ≤ count → count ≤ 8 → 1 ≤ strip → strip < 2 ^ 16 → size ≤ 2 ^ 40 → rows_of (Some level) count size strip < 2 ^ 41
level_small One count size strip taken some few pos short most = omega arith
level_small Five count size strip taken some few pos short most = striped_small (count - 1) strip size (omega arith) (omega arith) pos short most
level_small Ten count size strip taken some few pos short most = striped_small 2 strip size (omega arith) (omega arith) pos short most

pub rows_small : (v : NewVolume) (count : ℕ) → volume_fits v count ≡ true → rows_over v count < 2 ^ 41
rows_small v count fits =
    let range = range_of v count fits in
    let taken = level_taken v count fits in
    let few = few_of v.level count taken in
    level_small v.level count v.size v.strip taken few.0 few.1 range.strip range.strip_most range.size_most

pub has_geometry_is : (b : Block) (disks : List NewDisk) (k pba : ℕ) (v : NewVolume) → b.disks ≡ map disk_part disks → length disks ≤ 8 → pba < 2 ^ 64 → volume_fits v (length disks) ≡ true →
    AllByRecursion (IsRoom (pba + rows_over v (length disks) + METADATA_SECTORS)) disks → has_geometry b (created_volume k pba v (length disks)) ≡ true
has_geometry_is b disks k pba v is few below fits all =
    let made : Volume = created_volume k pba v (length disks) in
    let asked = asked_is k pba v (length disks) below fits in
    let range = range_of v (length disks) fits in
    let some : 1 ≤ v.size = range.size in
    let most : v.size ≤ 2 ^ 40 = range.size_most in
    let strip : 1 ≤ v.strip = range.strip in
    let size = asked.size in
    let strip_read = asked.strip in
    let blocks : blocks_per_member_of (first_map made) ≡ rows_over v (length disks) = let small = rows_small v (length disks) fits in halves (rows_over v (length disks)) (omega arith) in
    let rows = asked.rows in
    let place = asked.pba in
    let needed : pba_of (first_map made) + volume_rows made + METADATA_SECTORS ≡ pba + rows_over v (length disks) + METADATA_SECTORS = omega arith in
    six_true _ _ _ _ _ _
    (le-leb 1 (volume_size_of made) (omega arith))
    (le-leb (volume_size_of made) (2 ^ 40) (omega arith))
    (or_right (is_level_one made) _ (ap not (ne_eqb (strip_of (first_map made)) 0 (λ e. omega arith))))
    (le-leb (volume_rows made) (blocks_per_member_of (first_map made)) (omega arith))
    (ap (λ (n : ℕ). list_all (has_sectors b n) (members made)) needed ∙ have_sectors b disks k pba v (pba + rows_over v (length disks) + METADATA_SECTORS) is few all)
    (alike_one made refl)

-- the tests behind the level, each as a value
abbrev behind_level : Block → ℕ → Volume → Bool → Bool → Option Fault
behind_level b k v policy migration =
    if not policy then Some (BadPolicy (policy_of v)) else (if not migration then Some (BadMigration (migration_type_of v)) else geometry_fault b k v (bad_slot b v))

supported_if : (b : Block) (k : ℕ) (v : Volume) → is_none (volume_level v) ≡ false → has_policy v ≡ true → has_migration v ≡ true → bad_slot b v ≡ None → has_geometry b v ≡ true →
    find (overlaps b k v) (range_with_len 0 (length b.volumes)) ≡ None → volume_fault b k v ≡ None
supported_if b k v level policy migration slot geometry over =
    ap (λ (t : Bool). if t then Some (BadLevel (level_byte_of (first_map v)) (member_count_of (first_map v))) else behind_level b k v (has_policy v) (has_migration v)) level
    ∙ ap (λ (t : Bool). behind_level b k v t (has_migration v)) policy
    ∙ ap (λ (t : Bool). behind_level b k v true t) migration
    ∙ ap (geometry_fault b k v) slot
    ∙ ap (λ (t : Bool). if not t then Some BadGeometry else option_map (λ o. Overlaps o) (find (overlaps b k v) (range_with_len 0 (length b.volumes)))) geometry
    ∙ ap (λ (o : Option ℕ). option_map (λ n. Overlaps n) o) over

pub supported_is : (b : Block) (disks : List NewDisk) (k pba : ℕ) (v : NewVolume) → b.disks ≡ map disk_part disks → disk_count_of b ≡ length disks → length disks ≤ 8 → pba < 2 ^ 64 → volume_fits v (length disks) ≡ true →
    AllByRecursion (IsRoom (pba + rows_over v (length disks) + METADATA_SECTORS)) disks →
    find (overlaps b k (created_volume k pba v (length disks))) (range_with_len 0 (length b.volumes)) ≡ None →
    volume_fault b k (created_volume k pba v (length disks)) ≡ None
supported_is b disks k pba v is counted few below fits all over =
    supported_if b k (created_volume k pba v (length disks))
    (ap (λ (o : Option Level). is_none o) (volume_level_is k pba v (length disks) (level_taken v (length disks) fits))) refl refl
    (no_bad_slot b k pba v (length disks) counted few) (has_geometry_is b disks k pba v is few below fits all) over
