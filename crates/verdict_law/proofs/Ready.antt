-- Where the newest block of all is held by a disk that is present, and each disk that it expects is there, the verdict is
-- Ready.
use Rattle.std.proofs.Common.{◌≡◌, ◌≢◌, ◌≤◌, ◌<◌, ◌&&◌, ◌⊎◌, ℕ, zero, suc, Bool, true, false, cond, List, [], ◌∷◌, map, filter, find, slice_get, bytes_eq, Option, Some, inl, inr, refl, sym, ◌∙◌, ap, subst, arith}
use Rattle.std.specs.Prelude.{Contains}
use Rattle.std.specs.List.{AllByRecursion}
use Rattle.std.specs.Option.{IsSomeAnd}
use Rattle.std.proofs.lemmas.List.Elements.{All-contains, All-from_recursion, Contains-append_right}
use Rattle.std.proofs.lemmas.Slice.Eq.{bytes_eq-Decides}
use Rattle.units.specs.declared.bounds.TheConstants.{FIRST_GENERATION_REFUSED, MAX_BLOCK_BYTES}
use Rattle.units.specs.declared.disk.Sector.{Sector}
use Rattle.imsm_base.specs.Fields.{Part}
use Rattle.imsm_base.specs.Layout.{Block, serial_of, total_blocks_of, volume_count_of}
use Rattle.imsm_base.specs.Parts.{block_in}
use Rattle.imsm_base.specs.Whole.{AreApart, IsWholeBlock, first_of, is_expected, own_record}
use Rattle.imsm_base.proofs.Joined.{block_in-spelled}
use Rattle.imsm_buffer.specs.Buffer.{Buffer, parts_of}
use Rattle.imsm_codec.specs.Mpb.{block_bytes}
use Rattle.mpb_store.specs.declared.answer.StoreFault.{StoreFault}
use Rattle.mpb_store.specs.declared.answer.StoreFault.TheVariants.{Mpb, NoOwn, Small}
use Rattle.array_model.specs.Blocks.{Laid, Words}
use Rattle.block_meaning.specs.Meaning.{ReadsBlocks, bytes_of_laid}
use Rattle.generation_pick.specs.declared.fault.PickFault.{PickFault}
use Rattle.generation_pick.specs.declared.fault.PickFault.TheVariants.{None as Empty, Families, Twins}
use Rattle.generation_pick.specs.declared.found.FoundAt.{FoundAt}
use Rattle.generation_pick.specs.declared.found.Pick.{Pick}
use Rattle.generation_pick.specs.Found.{family_at, generation_at}
use Rattle.generation_pick.specs.Picks.{HasPickFault}
use Rattle.container.specs.declared.missing.Lack.{Lack}
use Rattle.container.specs.declared.missing.Lack.TheVariants as lack
use Rattle.container.specs.declared.missing.Missing.{Missing}
use Rattle.container.specs.declared.seen.Seen.{Seen}
use Rattle.container.specs.declared.seen.SeenAs.TheVariants as seen_as
use Rattle.container.specs.declared.seen.SeenAs.TheVariants.{Whole}
use Rattle.container.specs.declared.verdict.Opening.{Opening}
use Rattle.container.specs.declared.verdict.Verdict.{Verdict}
use Rattle.container.specs.declared.verdict.Verdict.TheVariants.{Refused, Large, GenerationEnd, Waiting, Ready}
use Rattle.container.specs.Lacking.{AreMissing, IsGood, IsTooSmall, Lacks}
use Rattle.container.specs.Seen.{AreOf, Container, containers_of}
use Rattle.container.specs.Verdicts.{IsNewest, IsVerdict, IsVerdictBy, Waits, full_size}
use Rattle.container.proofs.Lists.{contains_map}
use Rattle.container.proofs.Moved.{view}
use Rattle.sound_images.specs.Images.{Among, AreAmong, Image, IsComplete, IsHeld, IsNewestOf}
use Rattle.sound_images.specs.Keeps.{AreLargeEnough}
use Rattle.sound_images.specs.Sound.{SoundImages}
use Rattle.sound_images.proofs.Meaning.{has_own}
use Rattle.sound_images.proofs.Serials.{one_disk}
use Rattle.keep_law.proofs.Law.{held_more}
use Rattle.verdict_law.specs.OnImages.{AreSeenOn, IsSeenOn}
use Rattle.verdict_law.proofs.Entries.{entry_of, image_of_newest, laid, laid_bytes, laid_family, laid_generation, laid_held, newest_of}
use Rattle.verdict_law.proofs.Held.{HasContainer, IsOnImage, has_container, image_of, on_image, says, seen_container, seen_on}

-- RECORDS

-- an expected record is the first with its serial
abbrev test : List ℕ → Part → Bool
test serial d = is_expected d && bytes_eq (serial_of d) serial

other_serial : (s : List ℕ) (disks : List Part) (k : ℕ) (d : Part) → AllByRecursion (λ y. s ≢ y) (map serial_of (filter is_expected disks)) → slice_get disks k ≡ Some d → is_expected d ≡ true → s ≢ serial_of d
other_serial s [] k d all there expected = absurd (cc there)
other_serial s (x ∷ disks) k d all there expected = at (is_expected x) refl all k there (λ all k there. other_serial s disks k d all there expected)
  where
    at : (b : Bool) → is_expected x ≡ b → AllByRecursion (λ y. s ≢ y) (map serial_of (cond b (x ∷ filter is_expected disks) (filter is_expected disks))) → (k : ℕ) → slice_get (x ∷ disks) k ≡ Some d
        → (AllByRecursion (λ y. s ≢ y) (map serial_of (filter is_expected disks)) → (k : ℕ) → slice_get disks k ≡ Some d → s ≢ serial_of d) → s ≢ serial_of d
    at true is all zero there more = let same : x ≡ d = cc there in subst (λ (y : Part). s ≢ serial_of y) same all.0
    at true is all (suc k) there more = more all.1 k there
    at false is all zero there more = let same : x ≡ d = cc there in let out : is_expected d ≡ false = sym (ap is_expected same) ∙ is in absurd (cc (expected, out))
    at false is all (suc k) there more = more all k there

first_is : (disks : List Part) (k : ℕ) (d : Part) → AreApart (map serial_of (filter is_expected disks)) → slice_get disks k ≡ Some d → is_expected d ≡ true → find (test (serial_of d)) disks ≡ Some d
first_is [] k d apart there expected = absurd (cc there)
first_is (x ∷ disks) zero d apart there expected =
    let same : x ≡ d = cc there in
    let passes : test (serial_of d) d ≡ true = ap (λ (b : Bool). b && bytes_eq (serial_of d) (serial_of d)) expected ∙ (bytes_eq-Decides (serial_of d) (serial_of d)).1 refl in
    subst (λ (y : Part). find (test (serial_of d)) (y ∷ disks) ≡ Some d) (sym same) (ap (λ (b : Bool). cond b (Some d) (find (test (serial_of d)) disks)) passes)
first_is (x ∷ disks) (suc k) d apart there expected = at (is_expected x) refl apart (λ apart. first_is disks k d apart there expected)
  where
    skips : test (serial_of d) x ≡ false → find (test (serial_of d)) disks ≡ Some d → find (test (serial_of d)) (x ∷ disks) ≡ Some d
    skips out rest = ap (λ (b : Bool). cond b (Some x) (find (test (serial_of d)) disks)) out ∙ rest

    unequal : (b : Bool) → bytes_eq (serial_of x) (serial_of d) ≡ b → serial_of x ≢ serial_of d → bytes_eq (serial_of x) (serial_of d) ≡ false
    unequal true is differ = absurd (differ ((bytes_eq-Decides (serial_of x) (serial_of d)).0 is))
    unequal false is differ = is

    at : (b : Bool) → is_expected x ≡ b → AreApart (map serial_of (cond b (x ∷ filter is_expected disks) (filter is_expected disks)))
        → (AreApart (map serial_of (filter is_expected disks)) → find (test (serial_of d)) disks ≡ Some d) → find (test (serial_of d)) (x ∷ disks) ≡ Some d
    at true is apart more =
        skips (ap (λ (b : Bool). b && bytes_eq (serial_of x) (serial_of d)) is ∙ unequal (bytes_eq (serial_of x) (serial_of d)) refl (other_serial (serial_of x) disks k d apart.0 there expected)) (more apart.1)
    at false is apart more = skips (ap (λ (b : Bool). b && bytes_eq (serial_of x) (serial_of d)) is) (more apart)

-- NONE LACKS

-- the disk of a record is there, and each disk with its serial is good
pub record IsThere (seen : List Seen) (d : Part) : Type 0 where
  pub disk : Seen
  pub there : Contains seen disk
  pub named : disk.serial.0 ≡ serial_of d
  pub good : (s : Seen) → Contains seen s → s.serial.0 ≡ serial_of d → IsGood d s

not_spare : (seen : List Seen) (d : Part) (s : Seen) → IsGood d s → (block : Buffer) → s.holds ≡ Whole block → volume_count_of (parts_of block) ≡ 0 → ⊥
not_spare seen d s good block is none =
    let c = good.container in
    let same : c.block ≡ block = cc (c.whole, is) in
    let zero_too : volume_count_of (parts_of c.block) ≡ 0 = ap (λ (x : Buffer). volume_count_of (parts_of x)) same ∙ none in
    omega (arith, c.volume, zero_too)

not_small : (d : Part) (s : Seen) (fault : StoreFault) → IsGood d s → IsTooSmall d s fault → ⊥
not_small d s (Mpb fault) good small = small
not_small d s NoOwn good small = small
not_small d s (Small named has) good small = omega (arith, good.large, small.less, small.named_is, small.has_is)

not_lacking : (seen : List Seen) (d : Part) → IsThere seen d → (cause : Lack) → Lacks seen d cause → ⊥
not_lacking seen d is lack.Absent none =
    All-contains (λ (s : Seen). s.serial.0 ≢ serial_of d) seen is.disk (All-from_recursion (λ (s : Seen). s.serial.0 ≢ serial_of d) seen none) is.there is.named
not_lacking seen d is lack.Blank has = let c = (is.good has.disk has.there has.named).container in let other = has.holds in cc (c.whole, other)
not_lacking seen d is lack.Spare has = let spare = has.holds in not_spare seen d has.disk (is.good has.disk has.there has.named) spare.block spare.whole spare.none
not_lacking seen d is lack.Unread has = let c = (is.good has.disk has.there has.named).container in let other = has.holds in cc (c.whole, other)
not_lacking seen d is (lack.Torn fault) has = at has.holds
  where
    good : IsGood d has.disk
    good = is.good has.disk has.there has.named

    at : (has.disk.holds ≡ seen_as.Torn fault) ⊎ IsTooSmall d has.disk fault → ⊥
    at (inl torn) = let c = good.container in cc (c.whole, torn)
    at (inr small) = not_small d has.disk fault good small

none_missing : (seen : List Seen) (disks : List Part) → ((k : ℕ) (d : Part) → slice_get disks k ≡ Some d → is_expected d ≡ true → IsThere seen d) → (list : List Missing) → AreMissing seen disks list → list ≡ []
none_missing seen [] there [] are = refl
none_missing seen [] there (x ∷ list) are = absurd are
none_missing seen (d ∷ disks) there [] are = refl
none_missing seen (d ∷ disks) there (x ∷ list) (inl (served, rest)) = none_missing seen disks (λ k d is expected. there (suc k) d is expected) (x ∷ list) rest
none_missing seen (d ∷ disks) there (x ∷ list) (inr (lacks, rest)) = absurd (not_lacking seen d (there 0 d refl lacks.expected) x.cause lacks.cause)

first_there : (list : List FoundAt) (x : FoundAt) → slice_get list 0 ≡ Some x → Contains list x
first_there [] x is = absurd (cc is)
first_there (y ∷ ys) x is = let same : y ≡ x = cc is in (0, omega arith, same)

-- READY

module _ (W : Words) (reads : ReadsBlocks W) (images present : List Image) (content : ℕ → ℕ → Sector) (unsure : ℕ → ℕ → Bool) (mark : ℕ)
    (sound : SoundImages W bytes_of_laid images content unsure mark) (among : AreAmong present images)
    (seen : List Seen) (on : AreSeenOn present seen)
    (m : Laid) (newest : IsNewestOf W images m) (held : IsHeld W present m) (complete : IsComplete W present m) (large : AreLargeEnough W present m)
    (fits : full_size (block_in (bytes_of_laid m)) ≤ MAX_BLOCK_BYTES) (below : W.generation m.anchor < FIRST_GENERATION_REFUSED) where
  -- SOME BLOCK IS PICKED

  module _ (entries : List FoundAt) (are : AreOf entries (containers_of seen)) where
    at_image : (f : FoundAt) → Contains entries f → IsOnImage present (block_bytes f.mpb)
    at_image f there = on_image present seen on (view f) (subst (λ (l : List Container). Contains l (view f)) are (contains_map view entries f there))

    held_at : (f : FoundAt) (there : Contains entries f) → IsHeld W images (laid W reads present seen on (block_bytes f.mpb) (at_image f there))
    held_at f there = held_more W present images _ among (laid_held W reads present seen on (block_bytes f.mpb) (at_image f there))

    one_family : (f g : FoundAt) → Contains entries f → Contains entries g → family_at f ≡ family_at g
    one_family f g here there =
        sym (laid_family W reads present seen on (block_bytes f.mpb) (at_image f here))
        ∙ sound.one_container.family _ _ (held_at f here) (held_at g there)
        ∙ laid_family W reads present seen on (block_bytes g.mpb) (at_image g there)

    same_bytes : (f g : FoundAt) → Contains entries f → Contains entries g → generation_at f ≡ generation_at g → block_bytes f.mpb ≡ block_bytes g.mpb
    same_bytes f g here there generation =
        sym (laid_bytes W reads present seen on (block_bytes f.mpb) (at_image f here))
        ∙ sound.one_container.same _ _ (held_at f here) (held_at g there)
        (laid_generation W reads present seen on (block_bytes f.mpb) (at_image f here) ∙ generation ∙ sym (laid_generation W reads present seen on (block_bytes g.mpb) (at_image g there)))
        ∙ laid_bytes W reads present seen on (block_bytes g.mpb) (at_image g there)

    not_refused : (fault : PickFault) → HasPickFault entries fault → ⊥
    not_refused Empty none =
        let entry = entry_of W reads present seen on entries are m held in
        let there : Contains [] entry.entry = subst (λ (l : List FoundAt). Contains l entry.entry) none entry.there in
        let short = there.1 in omega (arith, short)
    not_refused (Families a b) has =
        let seam : Contains entries has.other.entry = subst (λ (l : List FoundAt). Contains l has.other.entry) (sym has.other.laid)
        (Contains-append_right has.other.front (has.other.entry ∷ has.other.rest) has.other.entry (0, omega arith, refl)) in
        has.other.differs (sym has.other.family ∙ one_family has.other.entry has.first seam (first_there entries has.first has.begins) ∙ has.family)
    not_refused (Twins d e) has =
        let two = has.1 in
        two.twins.1 (same_bytes two.one two.other two.one_there two.other_there two.twins.0)

  -- IT IS THE NEWEST

  module _ (p : Pick) (bytes : List ℕ) (n : IsNewest seen p bytes) where
    abbrev image : IsOnImage present bytes
    image = image_of_newest W reads present seen on p bytes n

    abbrev a : Laid
    a = laid W reads present seen on bytes image

    generations : W.generation a.anchor ≡ W.generation m.anchor
    generations =
        let up : W.generation m.anchor ≤ W.generation a.anchor = (newest_of W reads present seen on p bytes n).highest m held in
        let down : W.generation a.anchor ≤ W.generation m.anchor = newest.highest a (held_more W present images a among (laid_held W reads present seen on bytes image)) in
        omega (arith, up, down)

    bytes_are : bytes_of_laid m ≡ bytes
    bytes_are =
        sym (sound.one_container.same a m (held_more W present images a among (laid_held W reads present seen on bytes image)) newest.held generations)
        ∙ laid_bytes W reads present seen on bytes image

    picked : p.generation ≡ W.generation m.anchor
    picked = sym (laid_generation W reads present seen on bytes image ∙ n.generation) ∙ generations

    whole : IsWholeBlock bytes (block_in bytes)
    whole = subst (λ (b : List ℕ). IsWholeBlock b (block_in b)) image.same image.holds.whole.whole

    there_is : (k : ℕ) (d : Part) → slice_get (block_in bytes).disks k ≡ Some d → is_expected d ≡ true → IsThere seen d
    there_is k d is expected =
        let listed : W.expects m (serial_of d) ≡ true = (says W reads m bytes bytes_are whole).expects (serial_of d) ∙ has_own (block_in bytes).disks k d is expected in
        let held_by = (complete (serial_of d) listed).1 in
        let i = held_by.held.disk in
        let s = seen_on present seen on i held_by.held.among in
        record { disk = s.disk; there = s.there; named = s.on.serial ∙ held_by.same; good = λ t t_there t_named. good listed i held_by.held.among held_by.same (has_container W reads present _ held_by.held).0 t t_there t_named }
      where
        fits_on : (i : Image) → W.is_whole i.serial i.sectors m ≡ true → i.serial ≡ serial_of d → total_blocks_of d ≤ i.sectors
        fits_on i whole_there same =
            let q = (reads.is_whole i.serial i.sectors m).0 whole_there in
            let spelled : block_in bytes ≡ q.0 = ap block_in (sym bytes_are) ∙ block_in-spelled (bytes_of_laid m) q.0 q.1.whole.spells in
            let fits_own : IsSomeAnd (own_record (serial_of d) (block_in bytes)) (λ x. total_blocks_of x ≤ i.sectors) =
            subst (λ (b : Block). IsSomeAnd (own_record (serial_of d) b) (λ x. total_blocks_of x ≤ i.sectors)) (sym spelled)
            (subst (λ (l : List ℕ). IsSomeAnd (own_record l q.0) (λ x. total_blocks_of x ≤ i.sectors)) same q.1.own_fits) in
            subst (λ (o : Option Part). IsSomeAnd (first_of o (find (λ x. bytes_eq (serial_of x) (serial_of d)) (block_in bytes).disks)) (λ x. total_blocks_of x ≤ i.sectors))
            (first_is (block_in bytes).disks k d whole.apart is expected) fits_own

        good : W.expects m (serial_of d) ≡ true → (i : Image) → Among i present → i.serial ≡ serial_of d → HasContainer i → (t : Seen) → Contains seen t → t.serial.0 ≡ serial_of d → IsGood d t
        good listed i there same holds t t_there t_named =
            let j = image_of present seen on t t_there in
            let one : j.0 ≡ i = one_disk images j.0 i sound.serials (among j.0 j.1) (among i there) (sym j.2.serial ∙ t_named ∙ sym same) in
            let on_i : IsSeenOn i t = subst (λ (x : Image). IsSeenOn x t) one j.2 in
            record {
              container = seen_container i t on_i holds;
              large = subst (λ (n : ℕ). total_blocks_of d ≤ n) (sym on_i.sectors) (fits_on i (large i there (subst (λ (l : List ℕ). W.expects m l ≡ true) (sym same) listed)) same);
            }

    ready_by : (missing : List Missing) → AreMissing seen (block_in bytes).disks missing → (v : Verdict) → IsVerdictBy bytes p seen false missing v → (o : Opening) × (v ≡ Ready o)
    ready_by missing lack (Refused fault) is = absurd is
    ready_by missing lack (Large f g s) is =
        let size : s ≡ full_size (block_in (bytes_of_laid m)) = is.2 ∙ ap (λ (b : List ℕ). full_size (block_in b)) (sym bytes_are) in
        absurd (omega (arith, size, is.3, fits))
    ready_by missing lack (GenerationEnd f g) is = absurd (omega (arith, is.1, is.3, picked, below))
    ready_by missing lack (Waiting f g list) is = let waits : Waits bytes false missing = is.4 in absurd (waits.some (none_missing seen (block_in bytes).disks there_is missing lack))
    ready_by missing lack (Ready o) is = (o, refl)

  by_verdict : (v : Verdict) → IsVerdict seen false v → (o : Opening) × (v ≡ Ready o)
  by_verdict v (inl (fault, refused, is)) = absurd (not_refused refused.entries refused.are fault refused.cause)
  by_verdict v (inr by) = ready_by by.pick by.bytes by.newest by.missing by.lack v by.says

pub verdict_is_ready : (W : Words) (images present : List Image) (content : ℕ → ℕ → Sector) (unsure : ℕ → ℕ → Bool) (mark : ℕ) (seen : List Seen) (m : Laid) (v : Verdict) → ReadsBlocks W
    → SoundImages W bytes_of_laid images content unsure mark → AreAmong present images → AreSeenOn present seen
    → IsNewestOf W images m → IsHeld W present m → IsComplete W present m → AreLargeEnough W present m
    → full_size (block_in (bytes_of_laid m)) ≤ MAX_BLOCK_BYTES → W.generation m.anchor < FIRST_GENERATION_REFUSED
    → IsVerdict seen false v → (o : Opening) × (v ≡ Ready o)
verdict_is_ready W images present content unsure mark seen m v reads sound among on newest held complete large fits below verdict =
    by_verdict W reads images present content unsure mark sound among seen on m newest held complete large fits below v verdict
