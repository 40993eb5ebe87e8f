-- The disks of a bank as a list, and that a container can be made over them.
use Rattle.std.proofs.Common.{◌≡◌, ◌≢◌, ℕ, zero, suc, ◌+◌, ◌<◌, ◌≤◌, true, List, [], ◌∷◌, ◌++◌, All, length, map, take, slice_get, slice_index, get_or, Some, refl, sym, ◌∙◌, ap, subst, arith}
use Rattle.std.specs.List.{AllByRecursion, AllPairs}
use Rattle.std.proofs.lemmas.List.Elements.{All-from_recursion}
use Rattle.units.specs.declared.bounds.TheConstants.{METADATA_SECTORS}
use Rattle.units.specs.declared.disk.Serial.{Serial}
use Rattle.imsm_base.specs.Whole.{AreApart}
use Rattle.new_container.specs.declared.container.NewContainer.{NewContainer}
use Rattle.new_container.specs.declared.disk.NewDisk.{NewDisk}
use Rattle.new_container.specs.Created.{CanCreate}
use Rattle.new_container.specs.Fits.{container_fits, total_rows}
use Rattle.image_create.specs.Creates.{new_disks_of}
use Rattle.units.proofs.Serials.{same_serial}

-- ONE BY ONE

one_more_of : (serials : List Serial) (sizes : List ℕ) (d : ℕ) (s : Serial) → slice_get serials d ≡ Some s → d < length sizes
    → new_disks_of (take (suc d) serials) (take (suc d) sizes) ≡ new_disks_of (take d serials) (take d sizes) ++ record { serial = s; sectors = slice_index sizes d } ∷ []
one_more_of [] sizes d s is inside = cc
one_more_of (x ∷ serials) [] d s is inside = absurd (omega arith)
one_more_of (x ∷ serials) (n ∷ sizes) zero s is inside = let same : x ≡ s = cc in cc
one_more_of (x ∷ serials) (n ∷ sizes) (suc d) s is inside = ap (λ (l : List NewDisk). record { serial = x; sectors = n } ∷ l) (one_more_of serials sizes d s is (omega arith))

pub one_more : (serials : List Serial) (sizes : List ℕ) (d : ℕ) (s : Serial) → slice_get serials d ≡ Some s → d < length sizes
    → new_disks_of (take (d + 1) serials) (take (d + 1) sizes) ≡ new_disks_of (take d serials) (take d sizes) ++ record { serial = s; sectors = slice_index sizes d } ∷ []
one_more serials sizes d s is inside =
    let next : d + 1 ≡ suc d = omega arith in
    ap (λ (n : ℕ). new_disks_of (take n serials) (take n sizes)) next ∙ one_more_of serials sizes d s is inside

-- TOGETHER

pub as_many : (serials : List Serial) (sizes : List ℕ) → length serials ≡ length sizes → length (new_disks_of serials sizes) ≡ length serials
as_many [] sizes same = refl
as_many (s ∷ serials) [] same = absurd (omega arith)
as_many (s ∷ serials) (n ∷ sizes) same = ap suc (as_many serials sizes (omega arith))

the_serials : (serials : List Serial) (sizes : List ℕ) → length serials ≡ length sizes
    → map (λ (d : NewDisk). d.serial.0) (new_disks_of serials sizes) ≡ map (λ (s : Serial). s.0) serials
the_serials [] sizes same = refl
the_serials (s ∷ serials) [] same = absurd (omega arith)
the_serials (s ∷ serials) (n ∷ sizes) same = ap (λ l. s.0 ∷ l) (the_serials serials sizes (omega arith))

the_rooms : (least : ℕ) (serials : List Serial) (sizes : List ℕ) → ((k : ℕ) (d : ℕ) → k < length sizes → least ≤ get_or sizes k d)
    → AllByRecursion (λ (d : NewDisk). least ≤ d.sectors) (new_disks_of serials sizes)
the_rooms least [] sizes all = tt
the_rooms least (s ∷ serials) [] all = tt
the_rooms least (s ∷ serials) (n ∷ sizes) all =
    (all 0 0 (omega arith), the_rooms least serials sizes (λ k d below. all (suc k) d (omega (arith, below))))

first_apart : (x : Serial) (xs : List Serial) → ((j : ℕ) (d : Serial) → j < length xs → x ≢ get_or xs j d) → AllByRecursion (λ y. x.0 ≢ y) (map (λ (s : Serial). s.0) xs)
first_apart x [] apart = tt
first_apart x (y ∷ ys) apart =
    ((λ e. apart 0 x (omega arith) (same_serial x y e)), first_apart x ys (λ j d below. apart (suc j) d (omega (arith, below))))

serials_apart : (xs : List Serial) → AllPairs (λ a b. a ≢ b) xs → AreApart (map (λ (s : Serial). s.0) xs)
serials_apart [] apart = tt
serials_apart (x ∷ xs) apart = (
  first_apart x xs (λ j d below. apart 0 (suc j) d (omega arith) (omega (arith, below))),
  serials_apart xs (λ i j d less below. apart (suc i) (suc j) d (omega (arith, less)) (omega (arith, below))),
)

-- a bank's disks, of which none is too small
pub can_create : (made : NewContainer) (serials : List Serial) (sizes : List ℕ) → length serials ≡ length sizes → container_fits made (length serials) ≡ true
    → AllPairs (λ a b. a ≢ b) serials → All (λ n. total_rows made (length serials) + METADATA_SECTORS ≤ n) sizes → CanCreate made (new_disks_of serials sizes)
can_create made serials sizes same fits distinct room =
    let many = as_many serials sizes same in
    record {
      fits = ap (container_fits made) many ∙ fits;
      apart = subst AreApart (sym (the_serials serials sizes same)) (serials_apart serials distinct);
      room = All-from_recursion (λ (d : NewDisk). total_rows made (length (new_disks_of serials sizes)) + METADATA_SECTORS ≤ d.sectors) (new_disks_of serials sizes)
          (subst (λ (n : ℕ). AllByRecursion (λ (d : NewDisk). total_rows made n + METADATA_SECTORS ≤ d.sectors) (new_disks_of serials sizes)) (sym many)
          (the_rooms (total_rows made (length serials) + METADATA_SECTORS) serials sizes (λ k d below. room k d below)));
    }
