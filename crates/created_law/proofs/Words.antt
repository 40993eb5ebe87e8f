-- What the words of a created block say: which disks it expects, and that its volumes start.
use Rattle.std.proofs.Common.{◌≡◌, ℕ, zero, suc, ◌+◌, ◌<◌, ◌≤◌, ◌==◌, ◌&&◌, ◌||◌, not, nat_le, Bool, true, false, List, [], ◌∷◌, All, length, map, filter, replicate, slice_get, slice_index_or, is_none, count_by, bytes_eq, Option, Some, None, refl, sym, ap, ◌∙◌, subst, arith, inl, inr}
use Rattle.std.specs.List.{list_any, list_all}
use Rattle.std.specs.Option.{option_map_or}
use Rattle.std.proofs.lemmas.Bool.{and_parts, or_cases, cases_lt}
use Rattle.std.proofs.lemmas.List.{length-map}
use Rattle.std.proofs.lemmas.List.Elements.{recursion_from_All}
use Rattle.std.proofs.lemmas.Option.{slice_get_past}
use Rattle.std.proofs.lemmas.Slice.Eq.{bytes_eq-Decides}
use Rattle.units.specs.declared.volume.Level.{Level}
use Rattle.units.specs.declared.volume.Level.TheVariants.{One, Five, Ten}
use Rattle.units.specs.Levels.{suffices, rows_of}
use Rattle.imsm_base.specs.Layout.{Block, Volume, serial_of, map_state_of}
use Rattle.imsm_base.specs.Volumes.{Member, members, first_map, is_expected_at, is_in_sync, has_pass_of, is_unfinished, pass_start, volume_level, volume_fault}
use Rattle.imsm_base.specs.Whole.{IsWholeBlock, is_expected}
use Rattle.array_model.specs.Blocks.{Laid, Words, SlotWords}
use Rattle.array_model.specs.Placement.{Shape}
use Rattle.block_meaning.specs.Meaning.{bytes_of_laid, has_serial, of_volume, shape_of, no_shape, slot_words, SaysBlock, ReadsBlocks}
use Rattle.container.specs.Volumes.{can_run as can_run_with, has_parity, is_degraded, pass_from, verdict_by, verdict_with, wants_pass}
use Rattle.container.specs.declared.volume.VolumeVerdict.TheVariants.{Started}
use Rattle.new_container.specs.declared.container.NewContainer.{NewContainer}
use Rattle.new_container.specs.declared.disk.NewDisk.{NewDisk}
use Rattle.new_container.specs.declared.volume.NewVolume.{NewVolume}
use Rattle.new_container.specs.Fits.{rows_over, second_rows, total_rows}
use Rattle.new_container.specs.Created.{CanCreate, IsDisk, block_with, created_block, created_bytes, disk_part, second_count, volume_count}
use Rattle.new_container.specs.Fresh.{IsAsked, IsFresh}
use Rattle.new_container.proofs.Whole.{created_whole}
use Rattle.new_container.proofs.Started.{created_volumes_are}
use Rattle.sound_images.specs.Volumes.{slot_at, verdict_in_words, AgreesOnVolumes, HasMembers}
use Rattle.sound_images.proofs.Meaning.{agrees, has_own, same_verdict}

-- DISKS

disks_are : (made : NewContainer) (disks : List NewDisk) → (created_block made disks).disks ≡ map disk_part disks
unfolding created_block block_with
disks_are made disks = refl

-- a serial that is expected is that of a disk
pub record IsDiskOf (disks : List NewDisk) (serial : List ℕ) : Type 0 where
  pub number : ℕ
  pub disk : NewDisk
  pub there : slice_get disks number ≡ Some disk
  pub same : disk.serial.0 ≡ serial

listed : (disks : List NewDisk) (serial : List ℕ) → has_serial (map serial_of (filter is_expected (map disk_part disks))) serial ≡ true → IsDiskOf disks serial
listed [] serial has = absurd (cc has)
listed (d ∷ disks) serial has = elim (or_cases (bytes_eq d.serial.0 serial) _ has) [
  | inl here ↦ record { number = 0; disk = d; there = refl; same = (bytes_eq-Decides d.serial.0 serial).0 here }
  | inr more ↦ let rest = listed disks serial more in record { number = suc rest.number; disk = rest.disk; there = rest.there; same = rest.same }
]

record_at : (disks : List NewDisk) (k : ℕ) (d : NewDisk) → slice_get disks k ≡ Some d → slice_get (map disk_part disks) k ≡ Some (disk_part d)
record_at [] k d there = absurd (cc there)
record_at (x ∷ disks) zero d there = let same : x ≡ d = cc there in ap (λ (y : NewDisk). Some (disk_part y)) same
record_at (x ∷ disks) (suc k) d there = record_at disks k d there

-- MEMBERS

each_in_sync : (b : Block) (ms : List Member) → list_all (is_in_sync b) ms ≡ true → (k : ℕ) (other : SlotWords) → k < length (map (slot_words b) ms) → (slice_index_or (map (slot_words b) ms) k other).is_in_sync ≡ true
each_in_sync b [] all k other below = absurd (omega (arith, below))
each_in_sync b (m ∷ ms) all zero other below = (and_parts _ _ all).0
each_in_sync b (m ∷ ms) all (suc k) other below = each_in_sync b ms (and_parts (is_in_sync b m) _ all).1 k other (omega (arith, below))

all_true : (b : Block) (ms : List Member) → list_all (is_in_sync b) ms ≡ true → map (is_in_sync b) ms ≡ replicate (length ms) true
all_true b [] all = refl
all_true b (m ∷ ms) all = let both = and_parts (is_in_sync b m) (list_all (is_in_sync b) ms) all in rw (both.0, all_true b ms both.1) refl

none_degraded : (b : Block) (ms : List Member) → list_all (is_in_sync b) ms ≡ true → list_any (λ m. not (is_in_sync b m)) ms ≡ false
none_degraded b [] all = refl
none_degraded b (m ∷ ms) all = let both = and_parts (is_in_sync b m) (list_all (is_in_sync b) ms) all in rw (both.0) (none_degraded b ms both.1)

none_to_fill : (b : Block) (ms : List Member) → list_all (is_in_sync b) ms ≡ true → list_any (λ (m : Member). m.is_out && is_expected_at b m.index) ms ≡ false
none_to_fill b [] all = refl
none_to_fill b (m ∷ ms) all =
    let both = and_parts (is_in_sync b m) (list_all (is_in_sync b) ms) all in
    ap (λ (t : Bool). t || list_any (λ (x : Member). x.is_out && is_expected_at b x.index) ms) (in_place m.is_out (is_expected_at b m.index) both.0) ∙ none_to_fill b ms both.1
  where
    in_place : (out expected : Bool) → (not out && expected) ≡ true → (out && expected) ≡ false
    in_place true expected h = absurd (cc h)
    in_place false expected h = refl

none_out : (n : ℕ) → count_by not (replicate n true) ≡ 0
none_out zero = refl
none_out (suc n) = none_out n

all_suffice : (level : Level) (n : ℕ) → HasMembers (Some level) n → suffices (Some level) (replicate n true) ≡ true
all_suffice One n two = ap (λ (k : ℕ). suffices (Some One) (replicate k true)) two
all_suffice Five n few = ap (λ (k : ℕ). nat_le k 1) (none_out n)
all_suffice Ten n four = ap (λ (k : ℕ). suffices (Some Ten) (replicate k true)) four

-- FRESH VOLUMES

finished : (b : Block) (v : ℕ) (x : Volume) → IsFresh b v x → is_unfinished x ≡ false
finished b v x fresh =
    let state : (map_state_of (first_map x) == 1) ≡ false = ap (λ (n : ℕ). n == 1) fresh.normal in
    let pass : has_pass_of (0 ∷ 2 ∷ 5 ∷ []) x ≡ false = rw (fresh.idle) refl in
    rw (fresh.clean, state, pass) refl

no_pass : (b : Block) (v : ℕ) (x : Volume) → IsFresh b v x → pass_start x ≡ 0
no_pass b v x fresh = rw (fresh.idle) refl

starts : (b : Block) (v : ℕ) (x : Volume) (level : Level) → IsFresh b v x → volume_level x ≡ Some level → HasMembers (Some level) (length (members x)) → verdict_with b x (members x) ≡ Started None
starts b v x level fresh is has =
    let runs : can_run_with b x (members x) ≡ true = can in
    let whole : is_degraded b (members x) ≡ false = none_degraded b (members x) fresh.in_sync in
    let wants : wants_pass b x (members x) ≡ false = rw (finished b v x fresh) (none_to_fill b (members x) fresh.in_sync) in
    same (volume_level x) runs (finished b v x fresh) whole (ap (λ (t : Bool). pass_from t (pass_start x)) wants)
  where
    can : can_run_with b x (members x) ≡ true
    can =
        let enough : suffices (volume_level x) (map (is_in_sync b) (members x)) ≡ true = rw (is, all_true b (members x) fresh.in_sync) (all_suffice level (length (members x)) has) in
        let runs : (map_state_of (first_map x) == 3) ≡ false = ap (λ (n : ℕ). n == 3) fresh.normal in
        rw (enough, runs) refl

    clean : (parity : Bool) → (parity && (false && false)) ≡ false
    clean true = refl
    clean false = refl

    same : (o : Option Level) {runs odd degraded : Bool} {pass : Option ℕ} → runs ≡ true → odd ≡ false → degraded ≡ false → pass ≡ None → verdict_by runs odd degraded o pass ≡ Started None
    same o {runs} {odd} {degraded} {pass} a c d e = rw (a, c, d, e, clean (has_parity o)) refl

-- THE VOLUMES

-- a volume of the block is one that was asked for, and its rows are among those of the container
pub record IsMadeAt (made : NewContainer) (disks : List NewDisk) (v : ℕ) : Type 0 where
  pub volume : Volume
  pub there : slice_get (created_block made disks).volumes v ≡ Some volume
  pub asked : NewVolume
  pub sector : ℕ
  pub is : IsAsked asked (length disks) sector volume
  pub fresh : IsFresh (created_block made disks) v volume
  pub inside : sector + rows_over asked (length disks) ≤ total_rows made (length disks)

made_at : (made : NewContainer) (disks : List NewDisk) → CanCreate made disks → All IsDisk disks → (v : ℕ) → v < volume_count made → IsMadeAt made disks v
made_at made disks can typed zero below =
    let first = (created_volumes_are made disks can typed).first in
    record { volume = first.0; there = first.1; asked = made.first; sector = 0; is = first.2; fresh = first.3; inside = omega arith }
made_at made disks can typed (suc zero) below = at made.second refl
  where
    at : (o : Option NewVolume) → made.second ≡ o → IsMadeAt made disks 1
    at None none = absurd (omega (arith, below, ap second_count none))
    at (Some asked) is =
        let second = (created_volumes_are made disks can typed).second asked is in
        record {
          volume = second.0;
          there = second.1;
          asked = asked;
          sector = rows_over made.first (length disks);
          is = second.2;
          fresh = second.3;
          inside = omega (arith, ap (λ (s : Option NewVolume). second_rows s (length disks)) is);
        }
made_at made disks can typed (suc (suc v)) below = absurd (few made.second (omega (arith, below)))
  where
    few : (o : Option NewVolume) → 1 < second_count o → ⊥
    few None more = omega (arith, more)
    few (Some asked) more = omega (arith, more)

-- IN WORDS

module _ (W : Words) (reads : ReadsBlocks W) (made : NewContainer) (disks : List NewDisk) (can : CanCreate made disks) (typed : All IsDisk disks)
    (m : Laid) (same : bytes_of_laid m ≡ created_bytes made disks) where
  abbrev b : Block
  b = created_block made disks

  says : SaysBlock W m b
  says = reads.says m b (subst (λ (x : List ℕ). IsWholeBlock x b) (sym same) (created_whole made disks can (recursion_from_All IsDisk disks typed)))

  pub agreed : AgreesOnVolumes W m
  agreed = agrees W m b says

  pub volumes : W.volumes m ≡ volume_count made
  volumes = says.volumes ∙ (created_volumes_are made disks can typed).number

  pub expects_each : (k : ℕ) (d : NewDisk) → slice_get disks k ≡ Some d → W.expects m d.serial.0 ≡ true
  expects_each k d there =
      says.expects d.serial.0 ∙ ap (λ (ds : List (List (List ℕ))). has_serial (map serial_of (filter is_expected ds)) d.serial.0) (disks_are made disks)
      ∙ has_own (map disk_part disks) k (disk_part d) (record_at disks k d there) refl

  pub expected_disk : (serial : List ℕ) → W.expects m serial ≡ true → IsDiskOf disks serial
  expected_disk serial expected =
      listed disks serial
      (sym (says.expects serial ∙ ap (λ (ds : List (List (List ℕ))). has_serial (map serial_of (filter is_expected ds)) serial) (disks_are made disks)) ∙ expected)

  -- a supported volume is one of those that were asked for
  pub counted : (v : ℕ) → W.is_supported m v ≡ true → v < volume_count made
  counted v supported = elim (cases_lt v (volume_count made)) [
    | inl below ↦ below
    | inr past ↦ absurd (
        let none : slice_get b.volumes v ≡ None = slice_get_past b.volumes v (omega (arith, past, (created_volumes_are made disks can typed).number)) in
        let out : W.is_supported m v ≡ false = says.is_supported v ∙ ap (λ (o : Option Volume). option_map_or (λ x. is_none (volume_fault b v x)) o false) none in
        cc (supported, out))
  ]

  module _ (v : ℕ) (below : v < volume_count made) where
    abbrev at_v : IsMadeAt made disks v
    at_v = made_at made disks can typed v below

    abbrev x : Volume
    x = at_v.volume

    word : {X : Type 0} (f : Volume → X) (none : X) → of_volume b v f none ≡ f x
    word f none = ap (λ (o : Option Volume). option_map_or f o none) at_v.there

    shape_is : W.shape m v ≡ shape_of x
    shape_is = says.shape v ∙ word shape_of no_shape

    slots_are : W.slots m v ≡ map (slot_words b) (members x)
    slots_are = says.slots v ∙ word (λ x. map (slot_words b) (members x)) []

    pub supported : W.is_supported m v ≡ true
    supported = says.is_supported v ∙ word (λ x. is_none (volume_fault b v x)) false ∙ ap (λ o. is_none o) at_v.fresh.supported

    pub start : W.pass_start m v ≡ 0
    start = says.pass_start v ∙ word pass_start 0 ∙ no_pass b v x at_v.fresh

    pub rows_are : (W.shape m v).rows ≡ rows_of (W.shape m v).level (W.shape m v).members (W.shape m v).size (W.shape m v).strip
    rows_are = subst (λ (s : Shape). s.rows ≡ rows_of s.level s.members s.size s.strip) (sym shape_is) refl

    pub in_sync : (k : ℕ) → k < (W.shape m v).members → (slot_at W m v k).is_in_sync ≡ true
    in_sync k lt =
        let many : k < length (W.slots m v) = omega (arith, lt, agreed.count v supported) in
        subst (λ (slots : List SlotWords). k < length slots → (slice_index_or slots k (record { index = 0; serial = []; is_expected = false; is_in_sync = false })).is_in_sync ≡ true) (sym slots_are)
        (each_in_sync b (members x) at_v.fresh.in_sync k (record { index = 0; serial = []; is_expected = false; is_in_sync = false })) many

    -- the volume's rows are among those of the container
    pub row_inside : (row : ℕ) → row < (W.shape m v).rows → (W.shape m v).pba + row < total_rows made (length disks)
    row_inside row lt =
        omega (arith, lt, at_v.inside, ap (λ (s : Shape). s.pba) shape_is ∙ at_v.is.pba, ap (λ (s : Shape). s.rows) shape_is ∙ at_v.is.rows)

    pub started : verdict_in_words W m v ≡ Started None
    started =
        let many : length (members x) ≡ (W.shape m v).members = sym (length-map (members x) (slot_words b)) ∙ sym (ap (λ (slots : List SlotWords). length slots) slots_are) ∙ agreed.count v supported in
        let level : (W.shape m v).level ≡ Some at_v.asked.level = ap (λ (s : Shape). s.level) shape_is ∙ at_v.is.level in
        let has : HasMembers (Some at_v.asked.level) (length (members x)) =
        subst (λ (k : ℕ). HasMembers (Some at_v.asked.level) k) (sym many) (subst (λ (o : Option Level). HasMembers o (W.shape m v).members) level (agreed.members v supported)) in
        same_verdict W m b says v x at_v.there ∙ starts b v x at_v.asked.level at_v.fresh at_v.is.level has
