-- The twins that were found so far.
use Rattle.std.proofs.Common.{◌≡◌, ℕ, ◌≤◌, ◌⊎◌, inl, inr, Option, Some, None, List, [], ◌∷◌, ◌++◌, sym, ◌∙◌, ap, subst, arith}
use Rattle.std.specs.Prelude.{All, Contains, MatchOption}
use Rattle.std.proofs.lemmas.List.Elements.{All-push, Contains-push, Contains-append_left}
use Rattle.units.specs.declared.disk.DiskNo.{DiskNo}
use Rattle.generation_pick.specs.declared.found.FoundAt.{FoundAt}
use Rattle.generation_pick.specs.declared.twins.Pair.{Pair}
use Rattle.generation_pick.specs.Found.{AreTwins, HasNoTwins, HasTwins}
use Rattle.generation_pick.specs.Steps.{IsLeastTwin, IsUpTo}

-- THE TWINS OF ONE ENTRY

-- the lowest disk of a twin, if any
abbrev pub TwinIs : FoundAt → List FoundAt → Option DiskNo → Type 0
TwinIs one list found = MatchOption found (All (λ g. AreTwins one g → ⊥) list) (λ e. IsLeastTwin one list e.0)

pub twin_kept : (one : FoundAt) (seen : List FoundAt) (found : Option DiskNo) (g : FoundAt) → TwinIs one seen found → (AreTwins one g → ⊥) → TwinIs one (seen ++ g ∷ []) found
twin_kept one seen None g was not = All-push (λ h. AreTwins one h → ⊥) seen g was not
twin_kept one seen (Some e) g was not = record {
  other = was.other;
  there = Contains-append_left seen (g ∷ []) was.other was.there;
  twins = was.twins;
  disk = was.disk;
  least = All-push (λ h. AreTwins one h → e.0 ≤ h.disk.0) seen g was.least (λ twins. absurd (not twins));
}

-- the lower of what was found and a disk
abbrev pub IsLower : Option DiskNo → DiskNo → DiskNo → Type 0
IsLower found disk new = MatchOption found (new ≡ disk) (λ old. ((new ≡ old) ⊎ (new ≡ disk)) × (new.0 ≤ old.0) × (new.0 ≤ disk.0))

from_old : (one : FoundAt) (seen : List FoundAt) (g : FoundAt) (d e : ℕ) → IsLeastTwin one seen d → AreTwins one g → (e ≡ d) → (e ≤ g.disk.0) → IsLeastTwin one (seen ++ g ∷ []) e
from_old one seen g d e was twins same below = record {
  other = was.other;
  there = Contains-append_left seen (g ∷ []) was.other was.there;
  twins = was.twins;
  disk = was.disk ∙ sym same;
  least = All-push (λ h. AreTwins one h → e ≤ h.disk.0) seen g (λ k x inside t. let before = was.least k x inside t in omega arith) (λ t. below);
}

from_new : (one : FoundAt) (seen : List FoundAt) (g : FoundAt) (e : ℕ) → AreTwins one g → (g.disk.0 ≡ e) → All (λ h. AreTwins one h → e ≤ h.disk.0) seen → IsLeastTwin one (seen ++ g ∷ []) e
from_new one seen g e twins same least = record {
  other = g;
  there = Contains-push seen g;
  twins = twins;
  disk = same;
  least = All-push (λ h. AreTwins one h → e ≤ h.disk.0) seen g least (λ t. omega arith);
}

pub twin_more : (one : FoundAt) (seen : List FoundAt) (found : Option DiskNo) (g : FoundAt) (new : DiskNo)
    → TwinIs one seen found → AreTwins one g → IsLower found g.disk new → TwinIs one (seen ++ g ∷ []) (Some new)
twin_more one seen None g new was twins lower =
    from_new one seen g new.0 twins (sym (ap (λ d. d.0) lower)) (λ k x inside t. absurd (was k x inside t))
twin_more one seen (Some old) g new was twins (inl same, under, below) =
    from_old one seen g old.0 new.0 was twins (ap (λ d. d.0) same) below
twin_more one seen (Some old) g new was twins (inr same, under, below) =
    from_new one seen g new.0 twins (sym (ap (λ d. d.0) same)) (λ k x inside t. let before = was.least k x inside t in omega arith)

-- THE FIRST TWINS

-- the twins of which one is in a front and the other in the list, and that come first
pub record Pairs (list seen : List FoundAt) (p : Pair) : Type 0 where
  pub one : FoundAt
  pub other : FoundAt
  pub one_there : Contains seen one
  pub other_there : Contains list other
  pub twins : AreTwins one other
  pub first : one.disk.0 ≡ p.disk.0
  pub second : other.disk.0 ≡ p.twin.0
  pub least : All (λ f. All (λ g. AreTwins f g → p.disk.0 ≤ f.disk.0) list) seen
  pub next : All (λ f. All (λ g. AreTwins f g → f.disk.0 ≡ p.disk.0 → p.twin.0 ≤ g.disk.0) list) seen

abbrev pub FirstIs : List FoundAt → List FoundAt → Option Pair → Type 0
FirstIs list seen found = MatchOption found (All (λ f. All (λ g. AreTwins f g → ⊥) list) seen) (Pairs list seen)

pub first_twins_from : (list : List FoundAt) (found : Option Pair) → FirstIs list list found → MatchOption found (HasNoTwins list) (λ p. HasTwins list p.disk.0 p.twin.0)
first_twins_from list None was = was
first_twins_from list (Some p) was = record {
  one = was.one;
  other = was.other;
  one_there = was.one_there;
  other_there = was.other_there;
  twins = was.twins;
  first = was.first;
  second = was.second;
  least = was.least;
  next = was.next;
}

pub pairs_kept : (list seen : List FoundAt) (found : Option Pair) (f : FoundAt) → FirstIs list seen found → All (λ g. AreTwins f g → ⊥) list → FirstIs list (seen ++ f ∷ []) found
pairs_kept list seen None f was not = All-push (λ h. All (λ g. AreTwins h g → ⊥) list) seen f was not
pairs_kept list seen (Some p) f was not = record {
  one = was.one;
  other = was.other;
  one_there = Contains-append_left seen (f ∷ []) was.one was.one_there;
  other_there = was.other_there;
  twins = was.twins;
  first = was.first;
  second = was.second;
  least = All-push (λ h. All (λ g. AreTwins h g → p.disk.0 ≤ h.disk.0) list) seen f was.least (λ k x inside t. absurd (not k x inside t));
  next = All-push (λ h. All (λ g. AreTwins h g → h.disk.0 ≡ p.disk.0 → p.twin.0 ≤ g.disk.0) list) seen f was.next (λ k x inside t same. absurd (not k x inside t));
}

-- the one of two pairs that comes first
abbrev pub IsSooner : Option Pair → Pair → Pair → Type 0
IsSooner found pair new = MatchOption found (new ≡ pair) (λ old. ((new ≡ old) ⊎ (new ≡ pair)) × IsUpTo new old × IsUpTo new pair)

old_stays : (list seen : List FoundAt) (f : FoundAt) (old : Pair) (e : ℕ) → Pairs list seen old → IsLeastTwin f list e
    → old.disk.0 ≤ f.disk.0 → (old.disk.0 ≡ f.disk.0 → old.twin.0 ≤ e) → Pairs list (seen ++ f ∷ []) old
old_stays list seen f old e was twin disk next = record {
  one = was.one;
  other = was.other;
  one_there = Contains-append_left seen (f ∷ []) was.one was.one_there;
  other_there = was.other_there;
  twins = was.twins;
  first = was.first;
  second = was.second;
  least = All-push (λ h. All (λ g. AreTwins h g → old.disk.0 ≤ h.disk.0) list) seen f was.least (λ k x inside t. disk);
  next = All-push (λ h. All (λ g. AreTwins h g → h.disk.0 ≡ old.disk.0 → old.twin.0 ≤ g.disk.0) list) seen f was.next
      (λ k x inside t same. let up = next (sym same) in let low = twin.least k x inside t in omega arith);
}

new_comes : (list seen : List FoundAt) (f : FoundAt) (new : Pair) → new.disk ≡ f.disk → IsLeastTwin f list new.twin.0
    → All (λ h. All (λ g. AreTwins h g → new.disk.0 ≤ h.disk.0) list) seen
    → All (λ h. All (λ g. AreTwins h g → h.disk.0 ≡ new.disk.0 → new.twin.0 ≤ g.disk.0) list) seen
    → Pairs list (seen ++ f ∷ []) new
new_comes list seen f new disk twin least next =
    let e : new.disk.0 ≡ f.disk.0 = ap (λ d. d.0) disk in
    record {
      one = f;
      other = twin.other;
      one_there = Contains-push seen f;
      other_there = twin.there;
      twins = twin.twins;
      first = sym e;
      second = twin.disk;
      least = All-push (λ h. All (λ g. AreTwins h g → new.disk.0 ≤ h.disk.0) list) seen f least (λ k x inside t. omega arith);
      next = All-push (λ h. All (λ g. AreTwins h g → h.disk.0 ≡ new.disk.0 → new.twin.0 ≤ g.disk.0) list) seen f next (λ k x inside t same. twin.least k x inside t);
    }

pub pairs_more : (list seen : List FoundAt) (found : Option Pair) (f : FoundAt) (pair new : Pair) → FirstIs list seen found
    → pair.disk ≡ f.disk → IsLeastTwin f list pair.twin.0 → IsSooner found pair new → FirstIs list (seen ++ f ∷ []) (Some new)
pairs_more list seen None f pair new was disk twin sooner =
    subst (Pairs list (seen ++ f ∷ [])) (sym sooner)
    (new_comes list seen f pair disk twin (λ k x inside i y within t. absurd (was k x inside i y within t)) (λ k x inside i y within t same. absurd (was k x inside i y within t)))
pairs_more list seen (Some old) f pair new was disk twin (inl same, under, up) =
    let up' : IsUpTo old pair = subst (λ (p : Pair). IsUpTo p pair) same up in
    let e : pair.disk.0 ≡ f.disk.0 = ap (λ d. d.0) disk in
    subst (Pairs list (seen ++ f ∷ [])) (sym same)
    (old_stays list seen f old pair.twin.0 was twin (let le = up'.disk in omega arith) (λ at. up'.twin (at ∙ sym e)))
pairs_more list seen (Some old) f pair new was disk twin (inr same, under, up) =
    let under' : IsUpTo pair old = subst (λ (p : Pair). IsUpTo p old) same under in
    subst (Pairs list (seen ++ f ∷ [])) (sym same)
    (new_comes list seen f pair disk twin
    (λ k x inside i y within t. let le = under'.disk in let low = was.least k x inside i y within t in omega arith)
    (λ k x inside i y within t at.
    let le = under'.disk in
    let low = was.least k x inside i y within t in
    let both : pair.disk.0 ≡ old.disk.0 = omega arith in
    let lower = under'.twin both in
    let upper = was.next k x inside i y within t (at ∙ both) in
    omega arith))
