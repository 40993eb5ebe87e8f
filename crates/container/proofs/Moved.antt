-- What is picked of a list, and why nothing is, are told by the disks and the bytes of its entries.
use Rattle.std.proofs.Common.{◌≡◌, ◌≢◌, ◌≤◌, ℕ, zero, suc, List, [], ◌∷◌, ◌++◌, Some, refl, sym, ◌∙◌, ap, subst, arith}
use Rattle.std.specs.Prelude.{All, Contains, slice_get}
use Rattle.std.specs.List.{AllByRecursion}
use Rattle.std.proofs.lemmas.List.Elements.{All-from_recursion, All-weaker, recursion_from_All, Contains-append_right}
use Rattle.units.specs.declared.disk.DiskNo.{DiskNo}
use Rattle.imsm_base.specs.Layout.{family_of, generation_of}
use Rattle.imsm_base.specs.Parts.{block_in}
use Rattle.imsm_codec.specs.Mpb.{block_bytes}
use Rattle.generation_pick.specs.declared.fault.PickFault.{PickFault}
use Rattle.generation_pick.specs.declared.fault.PickFault.TheVariants.{None as Empty, Families, Twins}
use Rattle.generation_pick.specs.declared.found.FoundAt.{FoundAt}
use Rattle.generation_pick.specs.declared.found.Pick.{Pick}
use Rattle.generation_pick.specs.Found.{AreOneFamily, HasTwins, IsFirstOther, IsNewest}
use Rattle.generation_pick.specs.Picks.{HasPickFault, IsPicked}
use Rattle.container.specs.Seen.{Container, found_of}

abbrev pub view : FoundAt → Container
view f = record { disk = f.disk.0; bytes = block_bytes f.mpb }

abbrev disk_in : Container → DiskNo
disk_in c = record { 0 = c.disk }

abbrev pub generation_in : Container → ℕ
generation_in c = generation_of (block_in c.bytes)

abbrev family_in : Container → ℕ
family_in c = family_of (block_in c.bytes)

abbrev Twin : Container → Container → Type 0
Twin c d = (generation_in c ≡ generation_in d) × (c.bytes ≢ d.bytes)

-- LISTS

by_recursion : (P : Container → Type 0) (xs ys : List FoundAt) → found_of xs ≡ found_of ys → AllByRecursion (λ f. P (view f)) xs → AllByRecursion (λ f. P (view f)) ys
by_recursion P [] [] same all = tt
by_recursion P [] (y ∷ ys) same all = absurd (cc same)
by_recursion P (x ∷ xs) [] same all = tt
by_recursion P (x ∷ xs) (y ∷ ys) same all =
    let first : view x ≡ view y = cc same in
    let rest : found_of xs ≡ found_of ys = cc same in
    (subst P first all.0, by_recursion P xs ys rest all.1)

all_moves : (P : Container → Type 0) (xs ys : List FoundAt) → found_of xs ≡ found_of ys → All (λ f. P (view f)) xs → All (λ f. P (view f)) ys
all_moves P xs ys same all = All-from_recursion (λ f. P (view f)) ys (by_recursion P xs ys same (recursion_from_All (λ f. P (view f)) xs all))

pairs_move : (R : Container → Container → Type 0) (xs ys : List FoundAt) → found_of xs ≡ found_of ys → All (λ f. All (λ g. R (view f) (view g)) xs) xs → All (λ f. All (λ g. R (view f) (view g)) ys) ys
pairs_move R xs ys same all =
    all_moves (λ c. All (λ g. R c (view g)) ys) xs ys same
    (All-weaker (λ f. All (λ g. R (view f) (view g)) xs) (λ f. All (λ g. R (view f) (view g)) ys) (λ f. all_moves (R (view f)) xs ys same) xs all)

pub contains_moves : (xs ys : List FoundAt) (x : FoundAt) → found_of xs ≡ found_of ys → Contains xs x → (y : FoundAt) × Contains ys y × (view y ≡ view x)
contains_moves [] ys x same (k, below, is) = absurd (omega (arith, below))
contains_moves (z ∷ xs) [] x same there = absurd (cc same)
contains_moves (z ∷ xs) (y ∷ ys) x same (zero, below, is) =
    let first : view z ≡ view y = cc same in
    (y, (0, omega arith, refl), sym first ∙ ap view is)
contains_moves (z ∷ xs) (y ∷ ys) x same (suc k, below, is) =
    let rest : found_of xs ≡ found_of ys = cc same in
    let more = contains_moves xs ys x rest (k, omega (arith, below), is) in
    (more.0, Contains-append_right (y ∷ []) ys more.0 more.1, more.2)

-- where a list is cut
record IsCut (front : List FoundAt) (entry : FoundAt) (ys : List FoundAt) : Type 0 where
  before : List FoundAt
  here : FoundAt
  behind : List FoundAt
  laid : ys ≡ before ++ here ∷ behind
  same_front : found_of front ≡ found_of before
  same_entry : view entry ≡ view here

longer : (y : FoundAt) (ys zs : List FoundAt) → ys ≡ zs → y ∷ ys ≡ y ∷ zs
longer y ys zs same = ap (λ (l : List FoundAt). y ∷ l) same

cut : (front rest ys : List FoundAt) (entry : FoundAt) → found_of (front ++ entry ∷ rest) ≡ found_of ys → IsCut front entry ys
cut [] rest [] entry same = absurd (cc same)
cut [] rest (y ∷ ys) entry same = record { before = []; here = y; behind = ys; laid = refl; same_front = refl; same_entry = cc same }
cut (z ∷ front) rest [] entry same = absurd (cc same)
cut (z ∷ front) rest (y ∷ ys) entry same =
    let first : view z ≡ view y = cc same in
    let others : found_of (front ++ entry ∷ rest) ≡ found_of ys = cc same in
    let more = cut front rest ys entry others in
    record {
      before = y ∷ more.before;
      here = more.here;
      behind = more.behind;
      laid = longer y ys (more.before ++ more.here ∷ more.behind) more.laid;
      same_front = ap (λ (c : Container). c ∷ found_of front) first ∙ ap (λ (l : List Container). view y ∷ l) more.same_front;
      same_entry = more.same_entry;
    }

module _ (xs ys : List FoundAt) (same : found_of xs ≡ found_of ys) where
  family_moves : AreOneFamily xs → AreOneFamily ys
  family_moves = pairs_move (λ c d. family_in c ≡ family_in d) xs ys same

  newest_moves : (p : Pick) → IsNewest xs p → IsNewest ys p
  newest_moves p n =
      let y = contains_moves xs ys n.found same n.there in
      record {
        found = y.0;
        there = y.1;
        disk = ap disk_in y.2 ∙ n.disk;
        generation = ap generation_in y.2 ∙ n.generation;
        family = ap family_in y.2 ∙ n.family;
        highest = all_moves (λ c. generation_in c ≤ p.generation) xs ys same n.highest;
        least = all_moves (λ c. generation_in c ≡ p.generation → p.disk.0 ≤ c.disk) xs ys same n.least;
      }

  pub pick_moves : (p : Pick) → IsPicked xs p → IsPicked ys p
  pick_moves p picked = record {
    newest = newest_moves p picked.newest;
    one_family = family_moves picked.one_family;
    apart = pairs_move (λ c d. Twin c d → ⊥) xs ys same picked.apart;
  }

  first_moves : (x : FoundAt) → slice_get xs 0 ≡ Some x → (y : FoundAt) × (slice_get ys 0 ≡ Some y) × (view y ≡ view x)
  first_moves x = at xs ys same
    where
      at : (xs ys : List FoundAt) → found_of xs ≡ found_of ys → slice_get xs 0 ≡ Some x → (y : FoundAt) × (slice_get ys 0 ≡ Some y) × (view y ≡ view x)
      at [] ys same is = absurd (cc is)
      at (z ∷ xs) [] same is = absurd (cc same)
      at (z ∷ xs) (y ∷ ys) same is =
          let first : view z ≡ view y = cc same in
          let here : z ≡ x = cc is in
          (y, refl, sym first ∙ ap view here)

  other_moves : (a b : ℕ) → IsFirstOther a xs b → IsFirstOther a ys b
  other_moves a b o =
      let at = cut o.front o.rest ys o.entry (ap found_of (sym o.laid) ∙ same) in
      record {
        front = at.before;
        entry = at.here;
        rest = at.behind;
        laid = at.laid;
        same = all_moves (λ c. family_in c ≡ a) o.front at.before at.same_front o.same;
        family = ap family_in (sym at.same_entry) ∙ o.family;
        differs = o.differs;
      }

  twins_move : (d e : ℕ) → HasTwins xs d e → HasTwins ys d e
  twins_move d e t =
      let one = contains_moves xs ys t.one same t.one_there in
      let other = contains_moves xs ys t.other same t.other_there in
      record {
        one = one.0;
        other = other.0;
        one_there = one.1;
        other_there = other.1;
        twins = subst (λ (c : Container). Twin c (view other.0)) (sym one.2) (subst (Twin (view t.one)) (sym other.2) t.twins);
        first = ap (λ (c : Container). c.disk) one.2 ∙ t.first;
        second = ap (λ (c : Container). c.disk) other.2 ∙ t.second;
        least = pairs_move (λ b c. Twin b c → d ≤ b.disk) xs ys same t.least;
        next = pairs_move (λ b c. Twin b c → b.disk ≡ d → e ≤ c.disk) xs ys same t.next;
      }

  none_moves : xs ≡ [] → ys ≡ []
  none_moves = at xs ys same
    where
      at : (xs ys : List FoundAt) → found_of xs ≡ found_of ys → xs ≡ [] → ys ≡ []
      at [] [] same none = refl
      at [] (y ∷ ys) same none = absurd (cc same)
      at (x ∷ xs) ys same none = absurd (cc none)

  pub fault_moves : (f : PickFault) → HasPickFault xs f → HasPickFault ys f
  fault_moves Empty none = none_moves none
  fault_moves (Families a b) has =
      let first = first_moves has.first has.begins in
      record { first = first.0; begins = first.1; family = ap family_in first.2 ∙ has.family; other = other_moves a b has.other }
  fault_moves (Twins d e) has = (family_moves has.0, twins_move d.0 e.0 has.1)
