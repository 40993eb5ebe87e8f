-- The records of a disk table, one after the other, and the first that is looked for.
use Rattle.std.proofs.Common.{◌≡◌, ◌≤◌, ◌<◌, ◌+◌, ◌∙◌, ℕ, zero, suc, Bool, true, false, List, [], ◌∷◌, ◌++◌, length, take, get_or, slice_index_or, Option, sym, ap, arith}
use Rattle.std.specs.Prelude.{slice_get}
use Rattle.std.specs.Option.{IsSomeAnd, option_map_or}
use Rattle.std.specs.List.{flat_map}
use Rattle.std.proofs.lemmas.Bool.{false≢true}
use Rattle.std.specs.Bool.{Decides}
use Rattle.std.proofs.lemmas.Bool.Decides.{Decides-and}
use Rattle.std.proofs.lemmas.List.{append-nil, take_more, take_all}
use Rattle.std.proofs.lemmas.Grind.{flat_map-append}
use Rattle.std.proofs.lemmas.Option.{slice_get-get_or, slice_get_past}
use Rattle.std.proofs.lemmas.Slice.Eq.{bytes_eq-Decides}
use Rattle.imsm_base.specs.Fields.{Part}
use Rattle.imsm_base.specs.Layout.{disk_count_of, serial_of}
use Rattle.imsm_base.specs.Parts.{block_in}
use Rattle.imsm_codec.specs.Mpb.{disk_at}
use Rattle.imsm_codec.proofs.Found.{disks_counted}
use Rattle.container.specs.Roles.{HasNone, NamesAs}
use Rattle.container.specs.Steps.{is_named}
use Rattle.container.specs.Volumes.{is_listed, is_listed_as}
use Rattle.container.specs.declared.missing.Missing.{Missing}

-- what is made of one record more
pub one_more : {X : Type 0} (f : Part → List X) (disks : List Part) (k : ℕ) (found more : List X) → k < length disks → found ≡ flat_map f (take k disks) → more ≡ found ++ f (get_or disks k [])
    → more ≡ flat_map f (take (k + 1) disks)
one_more f disks k found more below so_far is =
    is ∙ ap (λ xs. xs ++ f (get_or disks k [])) so_far
    ∙ ap (λ xs. flat_map f (take k disks) ++ xs) (sym (append-nil (f (get_or disks k []))))
    ∙ sym (ap (flat_map f) (take_more disks k [] below) ∙ flat_map-append f (take k disks) (get_or disks k [] ∷ []))

-- what is made of all records
pub all_of : {X : Type 0} (f : Part → List X) (bytes : List ℕ) (k : ℕ) (found : List X) → disk_count_of (block_in bytes) ≤ k → found ≡ flat_map f (take k (block_in bytes).disks) → found ≡ flat_map f (block_in bytes).disks
all_of f bytes k found all so_far = so_far ∙ ap (flat_map f) (take_all k (block_in bytes).disks (omega (arith, disks_counted bytes)))

named-decided : (only : Bool) (serial : List ℕ) (disk : Part) → Decides (is_named only serial disk) (NamesAs only serial disk)
named-decided true serial disk = Decides-and _ _ ((λ is. is), (λ is. is)) (bytes_eq-Decides (serial_of disk) serial)
named-decided false serial disk = bytes_eq-Decides (serial_of disk) serial

-- the record of a place is the one that is looked for, or it isn't
pub named_here : (only : Bool) (serial : List ℕ) (disks : List Part) (k : ℕ) → k < length disks → is_named only serial (slice_index_or disks k []) ≡ true → IsSomeAnd (slice_get disks k) (NamesAs only serial)
named_here only serial [] k below is = absurd (omega (arith, below))
named_here only serial (disk ∷ disks) zero below is = (named-decided only serial disk).0 is
named_here only serial (disk ∷ disks) (suc k) below is = named_here only serial disks k (omega (arith, below)) is

pub not_here : (only : Bool) (serial : List ℕ) (disks : List Part) (k : ℕ) → is_named only serial (slice_index_or disks k []) ≡ false → IsSomeAnd (slice_get disks k) (NamesAs only serial) → ⊥
not_here only serial [] zero is named = named
not_here only serial [] (suc k) is named = named
not_here only serial (disk ∷ disks) zero is named = false≢true (sym is ∙ (named-decided only serial disk).1 named)
not_here only serial (disk ∷ disks) (suc k) is named = not_here only serial disks k is named

-- none of them is
pub none_at : (only : Bool) (serial : List ℕ) (disks : List Part) → ((k : ℕ) → k < length disks → is_named only serial (slice_index_or disks k []) ≡ false) → HasNone (NamesAs only serial) disks
none_at only serial [] all zero named = named
none_at only serial [] all (suc k) named = named
none_at only serial (disk ∷ disks) all zero named = not_here only serial (disk ∷ disks) 0 (all 0 (omega arith)) named
none_at only serial (disk ∷ disks) all (suc k) named = none_at only serial disks (λ k below. all (suc k) (omega (arith, below))) k named

-- the disk of an index is listed by its record, if it has one
pub listed_here : (bytes : List ℕ) (list : List Missing) (i : ℕ) → i < disk_count_of (block_in bytes) → is_listed (block_in bytes) list i ≡ is_listed_as list (disk_at i (block_in bytes))
listed_here bytes list i below =
    ap (λ (o : Option Part). option_map_or (is_listed_as list) o false) (slice_get-get_or (block_in bytes).disks i [] (omega (arith, below, disks_counted bytes)))

pub listed_past : (bytes : List ℕ) (list : List Missing) (i : ℕ) → disk_count_of (block_in bytes) ≤ i → is_listed (block_in bytes) list i ≡ false
listed_past bytes list i past =
    ap (λ (o : Option Part). option_map_or (is_listed_as list) o false) (slice_get_past (block_in bytes).disks i (omega (arith, past, disks_counted bytes)))
