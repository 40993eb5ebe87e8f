-- Images that start, one by one: each holds the block, and their serials are those of its table.
use Rattle.std.proofs.Common.{◌≡◌, ◌≢◌, ℕ, zero, suc, ◌^◌, ◌<◌, ◌≤◌, ◌||◌, not, Bool, true, false, cond, List, [], ◌∷◌, length, map, filter, get_or, slice_get, slice_index, slice_index_or, Option, Some, None, IsSomeAnd, bytes_eq, unwrap_or, ◌⊎◌, inl, inr, refl, sym, ◌∙◌, ap, subst, arith}
use Rattle.std.specs.List.{AllByRecursion, AllPairs, list_all}
use Rattle.std.proofs.lemmas.Bool.{and_from, cases_lt}
use Rattle.std.proofs.lemmas.List.{length-map}
use Rattle.std.proofs.lemmas.Option.{slice_get_within}
use Rattle.units.specs.declared.disk.Sector.{Sector}
use Rattle.units.specs.declared.disk.Serial.{Serial}
use Rattle.imsm_base.specs.Whole.{AreApart}
use Rattle.imsm_base.specs.Layout.{Block, serial_of}
use Rattle.imsm_base.specs.Parts.{block_in}
use Rattle.imsm_codec.specs.Given.{given_block}
use Rattle.block_meaning.specs.Meaning.{has_serial}
use Rattle.control_state.specs.Seen.{no_sector}
use Rattle.image_verdict.specs.declared.images.ImageRead.{ImageRead}
use Rattle.image_verdict.specs.Reports.{Holds, absent, anchor_block, bytes_of_all, first_block, is_there}
use Rattle.image_verdict.specs.Images.{sizes_of_all, serials_of_all}
use Rattle.image_start.specs.Starts.{AreDistinct, IsStarted}
use Rattle.image_start.specs.Openings.{anchor_read, first_anchor}
use Rattle.units.proofs.Serials.{same_serial}

-- AN IMAGE OF A NUMBER

pub record IsAt (images : List ImageRead) (d : ℕ) : Type 0 where
  pub image : ImageRead
  pub there : slice_get images d ≡ Some image
  pub serial : slice_index_or (bytes_of_all (serials_of_all images)) d [] ≡ image.serial.0
  pub sectors : slice_index (sizes_of_all images) d ≡ image.sectors

pub image-at : (images : List ImageRead) (d : ℕ) → d < length images → IsAt images d
image-at [] d below = absurd (omega arith)
image-at (i ∷ is) zero below = record { image = i; there = refl; serial = refl; sectors = refl }
image-at (i ∷ is) (suc d) below =
    let rest : IsAt is d = image-at is d (omega arith) in
    record { image = rest.image; there = rest.there; serial = rest.serial; sectors = rest.sectors }

pub length-serials : (images : List ImageRead) → length (bytes_of_all (serials_of_all images)) ≡ length images
length-serials [] = refl
length-serials (i ∷ is) = ap (λ (n : ℕ). suc n) (length-serials is)

pub length-sizes : (images : List ImageRead) → length (sizes_of_all images) ≡ length images
length-sizes [] = refl
length-sizes (i ∷ is) = ap (λ (n : ℕ). suc n) (length-sizes is)

pub small-first : (images : List ImageRead) (none : ImageRead) → 1 ≤ length images → (get_or images 0 none).sectors < 2 ^ 64 → slice_index (sizes_of_all images) 0 < 2 ^ 64
small-first [] none some small = absurd (omega arith)
small-first (i ∷ is) none some small = small

pub holds-at : (block : List ℕ) (images : List ImageRead) (d : ℕ) (image : ImageRead) → AllByRecursion (Holds block) images → slice_get images d ≡ Some image → Holds block image
holds-at block [] d image all there = cc
holds-at block (i ∷ is) zero image all there = let same : i ≡ image = cc in subst (Holds block) same all.0
holds-at block (i ∷ is) (suc d) image all there = holds-at block is d image all.1 there

-- WHAT WAS READ OF IT

pub record HasAnchorRead (block : List ℕ) (image : ImageRead) : Type 0 where
  pub anchor : Sector
  pub was : image.anchor ≡ Some anchor
  pub block_is : anchor_block anchor ≡ block

pub is-read : (block : List ℕ) (image : ImageRead) → Holds block image → HasAnchorRead block image
is-read block image holds = at image.anchor refl holds.anchored
  where
    at : (o : Option Sector) → image.anchor ≡ o → IsSomeAnd o (λ a. anchor_block a ≡ block) → HasAnchorRead block image
    at (Some a) was is = record { anchor = a; was = was; block_is = is }
    at None was is = absurd is

-- THE FIRST IMAGE

pub all-hold : (images : List ImageRead) → IsStarted images → AllByRecursion (Holds (first_block images)) images
all-hold images started = started.reported.0.alike

pub none-absent : (images : List ImageRead) → IsStarted images → absent images (block_in (first_block images)) ≡ []
none-absent images started = started.reported.1

pub record IsFirst (images : List ImageRead) : Type 0 where
  pub image : ImageRead
  pub there : slice_get images 0 ≡ Some image
  pub holds : Holds (first_block images) image
  pub anchor : image.anchor ≡ Some (first_anchor images)
  pub block : given_block (first_anchor images).0 ≡ first_block images

pub first-image : (images : List ImageRead) → 1 ≤ length images → IsStarted images → IsFirst images
first-image images some started =
    let at : IsAt images 0 = image-at images 0 (omega arith) in
    let holds : Holds (first_block images) at.image = holds-at (first_block images) images 0 at.image (all-hold images started) at.there in
    let read : HasAnchorRead (first_block images) at.image = is-read (first_block images) at.image holds in
    let same : first_anchor images ≡ read.anchor = ap anchor_read at.there ∙ ap (λ (o : Option Sector). anchor_of o) read.was in
    record {
      image = at.image;
      there = at.there;
      holds = holds;
      anchor = read.was ∙ ap Some (sym same);
      block = ap (λ (a : Sector). given_block a.0) same ∙ read.block_is;
    }
  where
    anchor_of : Option Sector → Sector
    anchor_of o = unwrap_or o no_sector

-- SERIALS

first-apart : (x : Serial) (xs : List Serial) → ((j : ℕ) (d : Serial) → j < length xs → x ≢ slice_index_or xs j d) → AllByRecursion (λ y. x.0 ≢ y) (bytes_of_all xs)
first-apart x [] apart = tt
first-apart x (y ∷ ys) apart = (λ e. apart 0 x (omega arith) (same_serial x y e), first-apart x ys (λ j d below. apart (suc j) d (omega (arith, below))))

all-apart : (xs : List Serial) → AllPairs (λ a b. a ≢ b) xs → AreApart (bytes_of_all xs)
all-apart [] apart = tt
all-apart (x ∷ xs) apart = (
  first-apart x xs (λ j d below. apart 0 (suc j) d (omega arith) (omega (arith, below))),
  all-apart xs (λ i j d less below. apart (suc i) (suc j) d (omega (arith, less)) (omega (arith, below))),
)

pub are-apart : (images : List ImageRead) → AreDistinct images → AreApart (bytes_of_all (serials_of_all images))
are-apart images distinct = all-apart (serials_of_all images) distinct

serial-of : (images : List ImageRead) (d : ℕ) (image : ImageRead) (none : Serial) → slice_get images d ≡ Some image → slice_index_or (serials_of_all images) d none ≡ image.serial
serial-of [] d image none there = cc
serial-of (i ∷ is) zero image none there = let same : i ≡ image = cc in ap (λ (x : ImageRead). x.serial) same
serial-of (i ∷ is) (suc d) image none there = serial-of is d image none there

never-alike : (images : List ImageRead) (d p : ℕ) → AreDistinct images → d < p → (at : IsAt images d) → (other : IsAt images p) → at.image.serial.0 ≡ other.image.serial.0 → ⊥
never-alike images d p distinct less at other same =
    let none : Serial = at.image.serial in
    let below : p < length (serials_of_all images) = subst (λ (n : ℕ). p < n) (sym (length-map images (λ (i : ImageRead). i.serial))) (slice_get_within images p other.image other.there) in
    distinct d p none less below (
    serial-of images d at.image none at.there ∙ same_serial at.image.serial other.image.serial same
    ∙ sym (serial-of images p other.image none other.there))

-- an image is told by its serial
pub one-number : (images : List ImageRead) (d p : ℕ) → AreDistinct images → (at : IsAt images d) → (other : IsAt images p) → at.image.serial.0 ≡ other.image.serial.0 → d ≡ p
one-number images d p distinct at other same = one (cases_lt d p) (cases_lt p d)
  where
    one : ((d < p) ⊎ (p ≤ d)) → ((p < d) ⊎ (d ≤ p)) → d ≡ p
    one (inl less) more = absurd (never-alike images d p distinct less at other same)
    one (inr least) (inl less) = absurd (never-alike images p d distinct less other at (sym same))
    one (inr least) (inr most) = omega arith

is-there : (images : List ImageRead) (s : List ℕ) → has_serial (bytes_of_all (serials_of_all images)) s ≡ is_there images s
is-there [] s = refl
is-there (i ∷ is) s = ap (λ (b : Bool). bytes_eq i.serial.0 s || b) (is-there is s)

pub none-left : (p q : List ℕ → Bool) (xs : List (List ℕ)) → ((x : List ℕ) → p x ≡ q x) → filter (λ x. not (q x)) xs ≡ [] → list_all p xs ≡ true
none-left p q [] same none = refl
none-left p q (x ∷ xs) same none = at (q x) refl none (none-left p q xs same)
  where
    at : (b : Bool) → q x ≡ b → cond (not b) (x ∷ filter (λ y. not (q y)) xs) (filter (λ y. not (q y)) xs) ≡ [] → (filter (λ y. not (q y)) xs ≡ [] → list_all p xs ≡ true) → list_all p (x ∷ xs) ≡ true
    at true here none rest = and_from (p x) (list_all p xs) (same x ∙ here) (rest none)
    at false other none rest = cc

pub all-there : (images : List ImageRead) (b : Block) → absent images b ≡ [] → list_all (has_serial (bytes_of_all (serials_of_all images))) (map serial_of b.disks) ≡ true
all-there images b none = none-left (has_serial (bytes_of_all (serials_of_all images))) (is_there images) (map serial_of b.disks) (is-there images) none
