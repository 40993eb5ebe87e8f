-- The words of a mirror without a pass: it has one map and two members, and its faults are those of a few tests.
use Rattle.std.proofs.Common.{◌≡◌, ℕ, ◌+◌, ◌^◌, ◌<◌, ◌≤◌, ◌==◌, ◌&&◌, ◌||◌, not, Bool, true, false, cond, if◌then◌else◌, List, [], ◌∷◌, length, map, get_or, Option, Some, None, refl, sym, ◌∙◌, ap, subst, arith}
use Rattle.std.specs.Prelude.{◌↔◌, find, is_none, nat_le, nat_lt, slice_get}
use Rattle.std.specs.Option.{option_map, option_map_or}
use Rattle.std.specs.List.{list_any, list_all, range_with_len}
use Rattle.std.specs.Int.{bit_at}
use Rattle.std.proofs.lemmas.Bool.{and_parts, and_from, false≢true, eqb-true, eq-eqb, leb-true, le-leb, ltb-true, lt-ltb, not-true, not-false}
use Rattle.std.proofs.lemmas.List.{nil_from_length}
use Rattle.std.proofs.lemmas.Option.{slice_get_past, slice_get-get_or}
use Rattle.units.specs.declared.volume.Level.{Level}
use Rattle.units.specs.declared.volume.Level.TheVariants.{One, Five, Ten}
use Rattle.units.specs.declared.bounds.TheConstants.{METADATA_SECTORS, SECTOR_BYTES, FIRST_GENERATION_REFUSED}
use Rattle.imsm_base.specs.Fields.{Part}
use Rattle.imsm_base.specs.Layout.{total_blocks_of, size_of, tail_size_of, generation_of, Block, Volume, Map, volume_size_of, pba_of, blocks_per_member_of, strip_of, level_byte_of, member_count_of, map_state_of, disk_count_of, map_count_of, migration_state_of, migration_type_of, policy_of}
use Rattle.imsm_base.specs.Volumes.{Member, Fault, blank_map, first_map, member, members, slots_of, order_at, is_level_one, volume_level, has_policy, has_pass, has_migration, is_dirty, is_bad_slot, bad_slot, has_sectors, is_like, has_geometry, volume_rows, overlaps, geometry_fault, volume_fault}
use Rattle.units.specs.Levels.{rows_of}
use Rattle.imsm_base.specs.Volumes.Fault.{BadLevel, BadPolicy, BadMigration, BadGeometry, Overlaps}
use Rattle.imsm_base.specs.FirstForm.{IsCleanMirror, IsFirstForm}
use Rattle.imsm_base.specs.Whole.{is_expected}
use Rattle.imsm_codec.specs.Mpb.{disk_at, volume_at, blank_volume}

-- a list of one map, or of two
pub list_of_one : (ms : List Map) → length ms ≡ 1 → ms ≡ get_or ms 0 blank_map ∷ []
list_of_one [] len = cc
list_of_one (m ∷ ms) len = ap (λ (x : List Map). m ∷ x) (nil_from_length ms (omega arith))

pub list_of_two : (ms : List Map) → length ms ≡ 2 → ms ≡ get_or ms 0 blank_map ∷ get_or ms 1 blank_map ∷ []
list_of_two [] len = cc
list_of_two (m ∷ ms) len = ap (λ (x : List Map). m ∷ x) (list_of_one ms (omega arith))

no_pass_state : (v : Volume) → has_pass v ≡ false → (migration_state_of v == 0) ≡ true
no_pass_state v idle = not-false (migration_state_of v == 0) idle

-- one map where no pass is open
pub one_map : (v : Volume) → length v.maps ≡ map_count_of v → has_pass v ≡ false → v.maps ≡ first_map v ∷ []
one_map v count idle = list_of_one v.maps (count ∙ ap (λ (b : Bool). if b then 1 else 2) (no_pass_state v idle))

pub two_members : (v : Volume) → is_level_one v ≡ true → member_count_of (first_map v) ≡ 2
two_members v one = eqb-true (member_count_of (first_map v)) 2 (and_parts (level_byte_of (first_map v) == 1) (member_count_of (first_map v) == 2) one).1

pub slots_two : (v : Volume) → is_level_one v ≡ true → slots_of v ≡ 0 ∷ 1 ∷ []
slots_two v one = ap (range_with_len 0) (two_members v one)

pub members_two : (v : Volume) → is_level_one v ≡ true → members v ≡ member v 0 ∷ member v 1 ∷ []
members_two v one = ap (map (member v)) (slots_two v one)

pub level_is_one : (v : Volume) → is_level_one v ≡ true → volume_level v ≡ Some One
level_is_one v one =
    let byte : ℕ = level_byte_of (first_map v) in
    let count : ℕ = member_count_of (first_map v) in
    ap (λ (b : Bool). if b then Some One else (if byte == 1 && count == 4 then Some Ten else (if byte == 5 && nat_le 3 count && nat_le count 8 then Some Five else None))) one

-- and back
one_from : (a b c : Bool) → (if a then Some One else (if b then Some Ten else (if c then Some Five else None))) ≡ Some One → a ≡ true
one_from true b c e = refl
one_from false true c e = cc
one_from false false true e = cc
one_from false false false e = cc

pub one_from_level : (v : Volume) → volume_level v ≡ Some One → is_level_one v ≡ true
one_from_level v level =
    let byte : ℕ = level_byte_of (first_map v) in
    let count : ℕ = member_count_of (first_map v) in
    one_from (byte == 1 && count == 2) (byte == 1 && count == 4) (byte == 5 && nat_le 3 count && nat_le count 8) level

-- the slots of a mirror are good where both indices are in the table and differ
pair_bools : (x y e : Bool) → is_none {T = ℕ} (cond (not x || false) (Some 0) (cond (not y || (e || false)) (Some 1) None)) ≡ (x && y && not e)
pair_bools true true true = refl
pair_bools true true false = refl
pair_bools true false true = refl
pair_bools true false false = refl
pair_bools false true true = refl
pair_bools false true false = refl
pair_bools false false true = refl
pair_bools false false false = refl

pub mirror_slots : (b : Block) (v : Volume) → is_level_one v ≡ true →
    is_none (bad_slot b v) ≡ (nat_lt (member v 0).index (disk_count_of b) && nat_lt (member v 1).index (disk_count_of b) && not ((member v 0).index == (member v 1).index))
mirror_slots b v one =
    ap (λ (ms : List Member). is_none (find (is_bad_slot b ms) (slots_of v))) (members_two v one)
    ∙ ap (λ (ss : List ℕ). is_none (find (is_bad_slot b (member v 0 ∷ member v 1 ∷ [])) ss)) (slots_two v one)
    ∙ pair_bools (nat_lt (member v 0).index (disk_count_of b)) (nat_lt (member v 1).index (disk_count_of b)) ((member v 0).index == (member v 1).index)

pub mirror_out : (v : Volume) → is_level_one v ≡ true → list_any (λ m. m.is_out) (members v) ≡ ((member v 0).is_out || ((member v 1).is_out || false))
mirror_out v one = ap (list_any (λ m. m.is_out)) (members_two v one)

-- a slot of a volume with one map is out of sync where that map says so
pub out_by_one : (v : Volume) (slot : ℕ) → v.maps ≡ first_map v ∷ [] → (member v slot).is_out ≡ ((bit_at (order_at slot (first_map v)) 24 == 1) || false)
out_by_one v slot one = ap (list_any (λ m. bit_at (order_at slot m) 24 == 1)) one

-- a map is like itself
five_true : (a b c d e : Bool) → a ≡ true → b ≡ true → c ≡ true → d ≡ true → e ≡ true → (a && b && c && d && e) ≡ true
five_true true true true true true p q r s t = refl
five_true false b c d e p q r s t = p
five_true true false c d e p q r s t = q
five_true true true false d e p q r s t = r
five_true true true true false e p q r s t = s
five_true true true true true false p q r s t = t

pub like_itself : (m : Map) → is_like m m ≡ true
like_itself m = five_true _ _ _ _ _ (eq-eqb (pba_of m) (pba_of m) refl) (eq-eqb (blocks_per_member_of m) (blocks_per_member_of m) refl) (eq-eqb (strip_of m) (strip_of m) refl) (eq-eqb (level_byte_of m) (level_byte_of m) refl) (eq-eqb (member_count_of m) (member_count_of m) refl)

-- the geometry of a mirror without a pass
geometry_bools : (a b s r x y k : Bool) → (a && b && (true || s) && r && (x && (y && true)) && (true && true)) ≡ (a && b && r && x && y)
geometry_bools true true s true true true k = refl
geometry_bools false b s r x y k = refl
geometry_bools true false s r x y k = refl
geometry_bools true true s false x y k = refl
geometry_bools true true s true false y k = refl
geometry_bools true true s true true false k = refl

pub mirror_geometry : (b : Block) (v : Volume) → is_level_one v ≡ true → v.maps ≡ first_map v ∷ [] →
    has_geometry b v ≡ (nat_le 1 (volume_size_of v) && nat_le (volume_size_of v) (2 ^ 40) && nat_le (volume_size_of v) (blocks_per_member_of (first_map v))
    && has_sectors b (pba_of (first_map v) + volume_size_of v + METADATA_SECTORS) (member v 0) && has_sectors b (pba_of (first_map v) + volume_size_of v + METADATA_SECTORS) (member v 1))
mirror_geometry b v one maps =
    let m : Map = first_map v in
    let size : ℕ = volume_size_of v in
    let rows : volume_rows v ≡ size = ap (λ (l : Option Level). rows_of l (member_count_of m) size (strip_of m)) (level_is_one v one) in
    let like : list_all (is_like m) v.maps ≡ (true && true) = ap (list_all (is_like m)) maps ∙ ap (λ (t : Bool). t && true) (like_itself m) in
    ap (λ (t : Bool). nat_le 1 size && nat_le size (2 ^ 40) && (t || not (strip_of m == 0)) && nat_le (volume_rows v) (blocks_per_member_of m) && list_all (has_sectors b (pba_of m + volume_rows v + METADATA_SECTORS)) (members v) && list_all (is_like m) v.maps) one
    ∙ ap (λ (n : ℕ). nat_le 1 size && nat_le size (2 ^ 40) && (true || not (strip_of m == 0)) && nat_le n (blocks_per_member_of m) && list_all (has_sectors b (pba_of m + n + METADATA_SECTORS)) (members v) && list_all (is_like m) v.maps) rows
    ∙ ap (λ (ms : List Member). nat_le 1 size && nat_le size (2 ^ 40) && (true || not (strip_of m == 0)) && nat_le size (blocks_per_member_of m) && list_all (has_sectors b (pba_of m + size + METADATA_SECTORS)) ms && list_all (is_like m) v.maps) (members_two v one)
    ∙ ap (λ (t : Bool). nat_le 1 size && nat_le size (2 ^ 40) && (true || not (strip_of m == 0)) && nat_le size (blocks_per_member_of m) && (has_sectors b (pba_of m + size + METADATA_SECTORS) (member v 0) && (has_sectors b (pba_of m + size + METADATA_SECTORS) (member v 1) && true)) && t) like
    ∙ geometry_bools (nat_le 1 size) (nat_le size (2 ^ 40)) (not (strip_of m == 0)) (nat_le size (blocks_per_member_of m)) (has_sectors b (pba_of m + size + METADATA_SECTORS) (member v 0)) (has_sectors b (pba_of m + size + METADATA_SECTORS) (member v 1)) true

-- a chain of tests finds nothing exactly where each test passes
pub test_none : (t : Bool) (x : Fault) (r : Option Fault) → (if t then Some x else r) ≡ None → (t ≡ false) × (r ≡ None)
test_none true x r e = cc
test_none false x r e = (refl, e)

slot_none : (b : Block) (v : Volume) (o : Option ℕ) → geometry_fault b 0 v o ≡ None → o ≡ None
slot_none b v None e = refl
slot_none b v (Some s) e = cc

is_none_of : {X : Type 0} (o : Option X) → o ≡ None → is_none o ≡ true
is_none_of o e = ap is_none e

none_from : {X : Type 0} (o : Option X) → is_none o ≡ true → o ≡ None
none_from None e = refl
none_from (Some x) e = cc

-- a volume alone overlaps with none
pub alone : (b : Block) (v : Volume) → b.volumes ≡ v ∷ [] → find (overlaps b 0 v) (range_with_len 0 (length b.volumes)) ≡ None
alone b v one = ap (λ (vs : List Volume). find (overlaps b 0 v) (range_with_len 0 (length vs))) one

-- what is tested of a mirror
pub record AreMirrorTests (b : Block) (v : Volume) : Type 0 where
  pub level : is_level_one v ≡ true
  pub policy : has_policy v ≡ true
  pub idle : has_pass v ≡ false
  pub clean : is_dirty v ≡ false
  pub normal : map_state_of (first_map v) ≡ 0
  pub slots : is_none (bad_slot b v) ≡ true
  pub geometry : has_geometry b v ≡ true
  pub in_sync : list_any (λ m. m.is_out) (members v) ≡ false

-- the chain of tests of a volume's fault, of which each test is a value
abbrev chain : Block → Volume → Option Level → Bool → Bool → Option ℕ → Option Fault
chain b v level policy migration slot =
    if is_none level then Some (BadLevel (level_byte_of (first_map v)) (member_count_of (first_map v)))
    else (if not policy then Some (BadPolicy (policy_of v))
    else (if not migration then Some (BadMigration (migration_type_of v))
    else geometry_fault b 0 v slot))

abbrev last : Block → Volume → Bool → Option ℕ → Option Fault
last b v geometry over = if not geometry then Some BadGeometry else option_map (λ o. Overlaps o) over

idle_migrates : (v : Volume) → has_pass v ≡ false → has_migration v ≡ true
idle_migrates v idle = ap (λ (t : Bool). not t || (t && list_any (λ t. t == migration_type_of v) (0 ∷ 1 ∷ 2 ∷ 5 ∷ []))) idle

supported_from : (b : Block) (v : Volume) → b.volumes ≡ v ∷ [] → AreMirrorTests b v → volume_fault b 0 v ≡ None
supported_from b v one t =
    ap (λ (l : Option Level). chain b v l (has_policy v) (has_migration v) (bad_slot b v)) (level_is_one v t.level)
    ∙ ap (λ (p : Bool). chain b v (Some One) p (has_migration v) (bad_slot b v)) t.policy
    ∙ ap (λ (m : Bool). chain b v (Some One) true m (bad_slot b v)) (idle_migrates v t.idle)
    ∙ ap (geometry_fault b 0 v) (none_from (bad_slot b v) t.slots)
    ∙ ap (λ (g : Bool). last b v g (find (overlaps b 0 v) (range_with_len 0 (length b.volumes)))) t.geometry
    ∙ ap (λ (o : Option ℕ). last b v true o) (alone b v one)

pub mirror_from_tests : (b : Block) (v : Volume) → b.volumes ≡ v ∷ [] → AreMirrorTests b v → IsCleanMirror b v
mirror_from_tests b v one t = record {
  supported = supported_from b v one t;
  level = level_is_one v t.level;
  idle = t.idle;
  clean = t.clean;
  normal = t.normal;
  in_sync = t.in_sync;
}

pub tests_from_mirror : (b : Block) (v : Volume) → IsCleanMirror b v → AreMirrorTests b v
tests_from_mirror b v m =
    let behind_level = test_none (is_none (volume_level v)) _ _ m.supported in
    let behind_policy = test_none (not (has_policy v)) _ _ behind_level.1 in
    let behind_migration = test_none (not (has_migration v)) _ _ behind_policy.1 in
    let slot : bad_slot b v ≡ None = slot_none b v (bad_slot b v) behind_migration.1 in
    let geometry : geometry_fault b 0 v None ≡ None = sym (ap (geometry_fault b 0 v) slot) ∙ behind_migration.1 in
    record {
      level = one_from_level v m.level;
      policy = not-false (has_policy v) behind_policy.0;
      idle = m.idle;
      clean = m.clean;
      normal = m.normal;
      slots = is_none_of (bad_slot b v) slot;
      geometry = not-false (has_geometry b v) (test_none (not (has_geometry b v)) _ _ geometry).0;
      in_sync = m.in_sync;
    }

-- the tests together decide
abbrev all_of : List Bool → Bool
all_of = list_all (λ t. t)

first_of : (x : Bool) (xs : List Bool) → all_of (x ∷ xs) ≡ true → (x ≡ true) × (all_of xs ≡ true)
first_of x xs e = and_parts x (all_of xs) e

and_all : (x : Bool) (xs : List Bool) → x ≡ true → all_of xs ≡ true → all_of (x ∷ xs) ≡ true
and_all x xs p q = and_from x (all_of xs) p q

-- the values that the code has tested, and what they are
pub record AreTested (b : Block) (v : Volume) (p d s g o : Bool) (state : ℕ) : Type 0 where
  pub one : b.volumes ≡ v ∷ []
  pub level : is_level_one v ≡ true
  pub idle : has_pass v ≡ false
  pub policy : p ≡ has_policy v
  pub dirty : d ≡ is_dirty v
  pub normal : state ≡ map_state_of (first_map v)
  pub slots : s ≡ is_none (bad_slot b v)
  pub geometry : g ≡ has_geometry b v
  pub out : o ≡ list_any (λ m. m.is_out) (members v)

mirror_there : (b : Block) (v : Volume) (p d s g o : Bool) (state : ℕ) → AreTested b v p d s g o state →
    all_of (p ∷ not d ∷ (state == 0) ∷ s ∷ g ∷ not o ∷ []) ≡ true → IsCleanMirror b v
mirror_there b v p d s g o state is all =
    let policy = first_of p (not d ∷ (state == 0) ∷ s ∷ g ∷ not o ∷ []) all in
    let clean = first_of (not d) ((state == 0) ∷ s ∷ g ∷ not o ∷ []) policy.1 in
    let normal = first_of (state == 0) (s ∷ g ∷ not o ∷ []) clean.1 in
    let slots = first_of s (g ∷ not o ∷ []) normal.1 in
    let geometry = first_of g (not o ∷ []) slots.1 in
    let sync = first_of (not o) [] geometry.1 in
    mirror_from_tests b v is.one (record {
      level = is.level;
      policy = sym is.policy ∙ policy.0;
      idle = is.idle;
      clean = sym is.dirty ∙ not-true d clean.0;
      normal = sym is.normal ∙ eqb-true state 0 normal.0;
      slots = sym is.slots ∙ slots.0;
      geometry = sym is.geometry ∙ geometry.0;
      in_sync = sym is.out ∙ not-true o sync.0;
    })

mirror_back : (b : Block) (v : Volume) (p d s g o : Bool) (state : ℕ) → AreTested b v p d s g o state → IsCleanMirror b v →
    all_of (p ∷ not d ∷ (state == 0) ∷ s ∷ g ∷ not o ∷ []) ≡ true
mirror_back b v p d s g o state is m =
    let t = tests_from_mirror b v m in
    and_all p (not d ∷ (state == 0) ∷ s ∷ g ∷ not o ∷ []) (is.policy ∙ t.policy)
    (and_all (not d) ((state == 0) ∷ s ∷ g ∷ not o ∷ []) (ap not (is.dirty ∙ t.clean))
    (and_all (state == 0) (s ∷ g ∷ not o ∷ []) (eq-eqb state 0 (is.normal ∙ t.normal))
    (and_all s (g ∷ not o ∷ []) (is.slots ∙ t.slots)
    (and_all g (not o ∷ []) (is.geometry ∙ t.geometry)
    (and_all (not o) [] (ap not (is.out ∙ t.in_sync)) refl)))))

pub mirror_decided : (b : Block) (v : Volume) (p d s g o : Bool) (state : ℕ) → AreTested b v p d s g o state →
    all_of (p ∷ not d ∷ (state == 0) ∷ s ∷ g ∷ not o ∷ []) ≡ true ↔ IsCleanMirror b v
mirror_decided b v p d s g o state is = (mirror_there b v p d s g o state is, mirror_back b v p d s g o state is)

-- the geometry by the tests of the code
three_of : (a r x y : Bool) → a ≡ true → all_of (r ∷ x ∷ y ∷ []) ≡ (a && r && x && y)
three_of true true true true e = refl
three_of true true true false e = refl
three_of true true false y e = refl
three_of true false x y e = refl
three_of false r x y e = absurd (false≢true e)

pub geometry_decided : (b : Block) (v : Volume) (size r x y : Bool) → is_level_one v ≡ true → v.maps ≡ first_map v ∷ [] →
    size ≡ true → size ≡ (nat_le 1 (volume_size_of v) && nat_le (volume_size_of v) (2 ^ 40)) → r ≡ nat_le (volume_size_of v) (blocks_per_member_of (first_map v)) →
    x ≡ has_sectors b (pba_of (first_map v) + volume_size_of v + METADATA_SECTORS) (member v 0) → y ≡ has_sectors b (pba_of (first_map v) + volume_size_of v + METADATA_SECTORS) (member v 1) →
    all_of (r ∷ x ∷ y ∷ []) ≡ has_geometry b v
geometry_decided b v size r x y one maps good es er ex ey =
    three_of size r x y good
    ∙ ap (λ (t : Bool). t && r && x && y) es
    ∙ ap (λ (t : Bool). nat_le 1 (volume_size_of v) && nat_le (volume_size_of v) (2 ^ 40) && t && x && y) er
    ∙ ap (λ (t : Bool). nat_le 1 (volume_size_of v) && nat_le (volume_size_of v) (2 ^ 40) && nat_le (volume_size_of v) (blocks_per_member_of (first_map v)) && t && y) ex
    ∙ ap (λ (t : Bool). nat_le 1 (volume_size_of v) && nat_le (volume_size_of v) (2 ^ 40) && nat_le (volume_size_of v) (blocks_per_member_of (first_map v)) && has_sectors b (pba_of (first_map v) + volume_size_of v + METADATA_SECTORS) (member v 0) && t) ey
    ∙ sym (mirror_geometry b v one maps)

none_of : (a r x y : Bool) → a ≡ false → false ≡ (a && r && x && y)
none_of false r x y e = refl
none_of true r x y e = absurd (false≢true (sym e))

pub bad_size : (b : Block) (v : Volume) → is_level_one v ≡ true → v.maps ≡ first_map v ∷ [] →
    (nat_le 1 (volume_size_of v) && nat_le (volume_size_of v) (2 ^ 40)) ≡ false → false ≡ has_geometry b v
bad_size b v one maps bad =
    none_of _ (nat_le (volume_size_of v) (blocks_per_member_of (first_map v))) (has_sectors b (pba_of (first_map v) + volume_size_of v + METADATA_SECTORS) (member v 0)) (has_sectors b (pba_of (first_map v) + volume_size_of v + METADATA_SECTORS) (member v 1)) bad
    ∙ sym (mirror_geometry b v one maps)

-- a member whose index isn't in the table, and one whose index is
pub no_sectors : (b : Block) (needed index : ℕ) (m : Member) → length b.disks ≤ index → m.index ≡ index → false ≡ has_sectors b needed m
no_sectors b needed index m past at =
    ap (λ (o : Option Part). option_map_or (λ d. nat_le needed (total_blocks_of d)) o false) (sym (slice_get_past b.disks index past))
    ∙ ap (λ (i : ℕ). option_map_or (λ d. nat_le needed (total_blocks_of d)) (slice_get b.disks i) false) (sym at)

pub some_sectors : (b : Block) (needed index : ℕ) (m : Member) → index < length b.disks → m.index ≡ index → nat_le needed (total_blocks_of (disk_at index b)) ≡ has_sectors b needed m
some_sectors b needed index m below at =
    ap (λ (o : Option Part). option_map_or (λ d. nat_le needed (total_blocks_of d)) o false) (sym (slice_get-get_or b.disks index [] below))
    ∙ ap (λ (i : ℕ). option_map_or (λ d. nat_le needed (total_blocks_of d)) (slice_get b.disks i) false) (sym at)

-- the volume of the first form is the first
clean_at : (b : Block) (v : Volume) → b.volumes ≡ v ∷ [] → IsCleanMirror b v → IsCleanMirror b (volume_at 0 b)
clean_at b v one m = subst (IsCleanMirror b) (sym (ap (λ (vs : List Volume). get_or vs 0 blank_volume) one)) m

clean_first : (b : Block) → IsFirstForm b → IsCleanMirror b (volume_at 0 b)
clean_first b f = clean_at b f.one_volume.0 f.one_volume.1 f.one_volume.2

-- the first form by its tests
pub record AreFormTested (b : Block) (size tail generation disks : ℕ) (expected mirror : Bool) : Type 0 where
  pub size_is : size ≡ size_of b
  pub tail_is : tail ≡ tail_size_of b
  pub generation_is : generation ≡ generation_of b
  pub disks_is : disks ≡ disk_count_of b
  pub expected_is : expected ≡ list_all is_expected b.disks
  pub one : b.volumes ≡ volume_at 0 b ∷ []
  pub mirror_is : mirror ≡ true ↔ IsCleanMirror b (volume_at 0 b)

form_there : (b : Block) (size tail generation disks : ℕ) (expected mirror : Bool) → AreFormTested b size tail generation disks expected mirror →
    all_of (nat_le size SECTOR_BYTES ∷ (tail == 0) ∷ nat_lt generation FIRST_GENERATION_REFUSED ∷ (disks == 2) ∷ expected ∷ mirror ∷ []) ≡ true → IsFirstForm b
form_there b size tail generation disks expected mirror is all =
    let one = first_of (nat_le size SECTOR_BYTES) ((tail == 0) ∷ nat_lt generation FIRST_GENERATION_REFUSED ∷ (disks == 2) ∷ expected ∷ mirror ∷ []) all in
    let two = first_of (tail == 0) (nat_lt generation FIRST_GENERATION_REFUSED ∷ (disks == 2) ∷ expected ∷ mirror ∷ []) one.1 in
    let three = first_of (nat_lt generation FIRST_GENERATION_REFUSED) ((disks == 2) ∷ expected ∷ mirror ∷ []) two.1 in
    let four = first_of (disks == 2) (expected ∷ mirror ∷ []) three.1 in
    let five = first_of expected (mirror ∷ []) four.1 in
    let six = first_of mirror [] five.1 in
    record {
      one_sector = subst (λ (n : ℕ). n ≤ SECTOR_BYTES) is.size_is (leb-true size SECTOR_BYTES one.0);
      no_tail = sym is.tail_is ∙ eqb-true tail 0 two.0;
      startable = subst (λ (n : ℕ). n < FIRST_GENERATION_REFUSED) is.generation_is (ltb-true generation FIRST_GENERATION_REFUSED three.0);
      two_disks = sym is.disks_is ∙ eqb-true disks 2 four.0;
      expected = sym is.expected_is ∙ five.0;
      one_volume = (volume_at 0 b, is.one, is.mirror_is.0 six.0);
    }

form_back : (b : Block) (size tail generation disks : ℕ) (expected mirror : Bool) → AreFormTested b size tail generation disks expected mirror → IsFirstForm b →
    all_of (nat_le size SECTOR_BYTES ∷ (tail == 0) ∷ nat_lt generation FIRST_GENERATION_REFUSED ∷ (disks == 2) ∷ expected ∷ mirror ∷ []) ≡ true
form_back b size tail generation disks expected mirror is f =
    let small : size ≤ SECTOR_BYTES = subst (λ (n : ℕ). n ≤ SECTOR_BYTES) (sym is.size_is) f.one_sector in
    let early : generation < FIRST_GENERATION_REFUSED = subst (λ (n : ℕ). n < FIRST_GENERATION_REFUSED) (sym is.generation_is) f.startable in
    and_all (nat_le size SECTOR_BYTES) ((tail == 0) ∷ nat_lt generation FIRST_GENERATION_REFUSED ∷ (disks == 2) ∷ expected ∷ mirror ∷ []) (le-leb size SECTOR_BYTES small)
    (and_all (tail == 0) (nat_lt generation FIRST_GENERATION_REFUSED ∷ (disks == 2) ∷ expected ∷ mirror ∷ []) (eq-eqb tail 0 (is.tail_is ∙ f.no_tail))
    (and_all (nat_lt generation FIRST_GENERATION_REFUSED) ((disks == 2) ∷ expected ∷ mirror ∷ []) (lt-ltb generation FIRST_GENERATION_REFUSED early)
    (and_all (disks == 2) (expected ∷ mirror ∷ []) (eq-eqb disks 2 (is.disks_is ∙ f.two_disks))
    (and_all expected (mirror ∷ []) (is.expected_is ∙ f.expected)
    (and_all mirror [] (is.mirror_is.1 (clean_first b f)) refl)))))

pub form_decided : (b : Block) (size tail generation disks : ℕ) (expected mirror : Bool) → AreFormTested b size tail generation disks expected mirror →
    all_of (nat_le size SECTOR_BYTES ∷ (tail == 0) ∷ nat_lt generation FIRST_GENERATION_REFUSED ∷ (disks == 2) ∷ expected ∷ mirror ∷ []) ≡ true ↔ IsFirstForm b
form_decided b size tail generation disks expected mirror is =
    (form_there b size tail generation disks expected mirror is, form_back b size tail generation disks expected mirror is)

-- another count of volumes
pub not_one_volume : (b : Block) → (length b.volumes ≡ 1 → ⊥) → IsFirstForm b → ⊥
not_one_volume b other f = other (ap (λ (vs : List Volume). length vs) f.one_volume.1)

-- a result that is a test tells what the test tells
pub same_test : (r s : Bool) (P : Type 0) → r ≡ s → s ≡ true ↔ P → r ≡ true ↔ P
same_test r s P e h = subst (λ (t : Bool). t ≡ true ↔ P) (sym e) h
