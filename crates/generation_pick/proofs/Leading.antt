-- What was picked so far of a list.
use Rattle.std.proofs.Common.{◌≡◌, ℕ, ◌<◌, ◌≤◌, ◌⊎◌, inl, inr, List, [], ◌∷◌, ◌++◌, get_or, sym, ◌∙◌, ap, subst, arith}
use Rattle.std.specs.Prelude.{All, Contains}
use Rattle.std.proofs.lemmas.List.Elements.{All-push}
use Rattle.generation_pick.specs.declared.found.FoundAt.{FoundAt}
use Rattle.generation_pick.specs.declared.found.Pick.{Pick}
use Rattle.generation_pick.specs.Found.{generation_at, family_at, IsNewest}
use Rattle.generation_pick.specs.Steps.{IsNewer}

-- an entry of the list that is the newest of a front
pub record Leads (list seen : List FoundAt) (p : Pick) : Type 0 where
  pub found : FoundAt
  pub there : Contains list found
  pub disk : found.disk ≡ p.disk
  pub generation : generation_at found ≡ p.generation
  pub family : family_at found ≡ p.family
  pub highest : All (λ f. generation_at f ≤ p.generation) seen
  pub least : All (λ f. generation_at f ≡ p.generation → p.disk.0 ≤ f.disk.0) seen

pub newest_from : (list : List FoundAt) (p : Pick) → Leads list list p → IsNewest list p
newest_from list p l =
    record { found = l.found; there = l.there; disk = l.disk; generation = l.generation; family = l.family; highest = l.highest; least = l.least }

from_not_below : (m n : ℕ) → (m < n → ⊥) → n ≤ m
from_not_below m n not = omega arith

-- the next entry isn't newer
pub kept : (list seen : List FoundAt) (p : Pick) (f : FoundAt) → Leads list seen p → (IsNewer f p → ⊥) → Leads list (seen ++ f ∷ []) p
kept list seen p f l not =
    let high : generation_at f ≤ p.generation = from_not_below p.generation (generation_at f) (λ newer. not (inl newer)) in
    let low : generation_at f ≡ p.generation → p.disk.0 ≤ f.disk.0 = λ same. from_not_below f.disk.0 p.disk.0 (λ newer. not (inr (same, newer))) in
    record {
      found = l.found;
      there = l.there;
      disk = l.disk;
      generation = l.generation;
      family = l.family;
      highest = All-push (λ g. generation_at g ≤ p.generation) seen f l.highest high;
      least = All-push (λ g. generation_at g ≡ p.generation → p.disk.0 ≤ g.disk.0) seen f l.least low;
    }

rises : (old new : ℕ) (A : Type 0) → (old < new) ⊎ ((new ≡ old) × A) → old ≤ new
rises old new A (inl below) = omega arith
rises old new A (inr same) = let e : new ≡ old = same.0 in omega arith

falls : (old new d e m n : ℕ) → (old < new) ⊎ ((new ≡ old) × (e < d)) → m ≤ old → (m ≡ old → d ≤ n) → m ≡ new → e ≤ n
falls old new d e m n (inl below) high low same = absurd (omega arith)
falls old new d e m n (inr both) high low same =
    let e : new ≡ old = both.0 in
    let before = low (same ∙ e) in
    let lower = both.1 in omega arith

-- the next entry is newer, and picked
pub moved : (list seen : List FoundAt) (p q : Pick) (f : FoundAt) → Leads list seen p → Contains list f → IsNewer f p
    → q.disk ≡ f.disk → q.generation ≡ generation_at f → q.family ≡ family_at f → Leads list (seen ++ f ∷ []) q
moved list seen p q f l there newer disk generation family =
    let up : p.generation ≤ q.generation = subst (λ n. p.generation ≤ n) (sym generation) (rises p.generation (generation_at f) _ newer) in
    let here : generation_at f ≤ q.generation = omega (arith, generation) in
    let own : generation_at f ≡ q.generation → q.disk.0 ≤ f.disk.0 = λ same. omega (arith, ap (λ d. d.0) disk) in
    record {
      found = f;
      there = there;
      disk = sym disk;
      generation = sym generation;
      family = sym family;
      highest = All-push (λ g. generation_at g ≤ q.generation) seen f (λ k d below. let old = l.highest k d below in omega arith) here;
      least = All-push (λ g. generation_at g ≡ q.generation → q.disk.0 ≤ g.disk.0) seen f
          (λ k d below same.
          let old = falls p.generation (generation_at f) p.disk.0 f.disk.0 (generation_at (get_or seen k d)) (get_or seen k d).disk.0 newer (l.highest k d below) (l.least k d below) (same ∙ generation) in
          omega (arith, ap (λ e. e.0) disk))
          own;
    }
