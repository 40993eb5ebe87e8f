-- What holds of each block goes on to, where a call narrows, and where it adds a block of which it holds too.
use Rattle.std.proofs.Common.{◌≡◌, ℕ, sym, subst, inl, inr}
use Rattle.array_model.specs.Blocks.{Laid, Words}
use Rattle.array_model.specs.Candidates.{Disk, In, Durable}
use Rattle.array_disks.specs.Held.{HasCandidate, IsSole}
use Rattle.array_disks.specs.Changes.{Narrows, Adds, Changes, EachKnown, EachCandidate, EachTwoKnown}
use Rattle.array_disks.proofs.Members.{durable, durable_some, durable_each}

-- A DISK WITH ONE CANDIDATE

-- what holds of it holds of each candidate
pub sole_each : (P : Laid → Type 0) (k : Disk) (m : Laid) → IsSole k m → P m → (a : Laid) → In a k.candidates → P a
sole_each P k m sole holds a i = subst P (sym (sole.only a i)) holds

-- and is durable
pub sole_durable : (P : Laid → Type 0) (k : Disk) (m : Laid) → IsSole k m → P m → Durable P k
sole_durable P k m sole holds = durable P k (m, sole.there) (sole_each P k m sole holds)

module _ (W : Words) (ks ls : ℕ → Disk) (narrows : Narrows W ks ls) where
  -- A CALL THAT NARROWS

  -- known blocks were known
  pub narrows_known : (d : ℕ) (a : Laid) → In a (ls d).known → In a (ks d).known
  narrows_known d a i = subst (In a) (narrows.known d) i

  -- and known blocks are known
  pub narrows_grow : (d : ℕ) (a : Laid) → In a (ks d).known → In a (ls d).known
  narrows_grow d a i = subst (In a) (sym (narrows.known d)) i

  -- what holds of each known block goes on to
  pub each_known_narrows : (P : ℕ → Laid → Type 0) → EachKnown P ks → EachKnown P ls
  each_known_narrows P each d a i = each d a (narrows_known d a i)

  -- what holds of each candidate does
  pub each_candidate_narrows : (P : ℕ → Laid → Type 0) → EachCandidate P ks → EachCandidate P ls
  each_candidate_narrows P each d a i = each d a (narrows.candidates d a i)

  -- and what holds of any two known blocks
  pub two_known_narrows : (R : Laid → Laid → Type 0) → EachTwoKnown R ks → EachTwoKnown R ls
  two_known_narrows R each d e a b i j = each d e a b (narrows_known d a i) (narrows_known e b j)

  -- and a durable fact
  pub durable_narrows : (P : Laid → Type 0) (d : ℕ) → Durable P (ks d) → Durable P (ls d)
  durable_narrows P d h =
      durable P (ls d) (narrows.some d (durable_some P (ks d) h))
      (λ a i. durable_each P (ks d) h a (narrows.candidates d a i))

  -- a sole candidate goes on to be
  pub sole_narrows : (d : ℕ) (m : Laid) → IsSole (ks d) m → IsSole (ls d) m
  sole_narrows d m sole = of_some (narrows.some d (m, sole.there))
    where
      only : (a : Laid) → In a (ls d).candidates → a ≡ m
      only a i = sole.only a (narrows.candidates d a i)

      of_some : HasCandidate (ls d) → IsSole (ls d) m
      of_some some = record { there = subst (λ x. In x (ls d).candidates) (only some.0 some.1) some.1; only = only }

module _ (e : ℕ) (m : Laid) (ks ls : ℕ → Disk) (adds : Adds e m ks ls) where
  -- A CALL THAT ADDS A BLOCK

  new_holds : (P : ℕ → Laid → Type 0) → P e m → (d : ℕ) (a : Laid) → d ≡ e → a ≡ m → P d a
  new_holds P holds d a there is = subst (λ x. P x a) (sym there) (subst (P e) (sym is) holds)

  -- what holds of each known block goes on to, where it holds of the new one
  pub each_known_adds : (P : ℕ → Laid → Type 0) → P e m → EachKnown P ks → EachKnown P ls
  each_known_adds P holds each d a i = elim (adds.known d a i) [
    | inl old ↦ each d a old
    | inr new ↦ new_holds P holds d a new.0 new.1
  ]

  -- what holds of each candidate does
  pub each_candidate_adds : (P : ℕ → Laid → Type 0) → P e m → EachCandidate P ks → EachCandidate P ls
  each_candidate_adds P holds each d a i = elim (adds.candidates d a i) [
    | inl old ↦ each d a old
    | inr new ↦ new_holds P holds d a new.0 new.1
  ]

  -- and what holds of any two known blocks, where it holds of the new one with each
  pub two_known_adds : (R : Laid → Laid → Type 0) → R m m → ((d : ℕ) (a : Laid) → In a (ks d).known → R a m × R m a)
      → EachTwoKnown R ks → EachTwoKnown R ls
  two_known_adds R itself others each x y a b i j = elim (adds.known x a i) [
    | inl old ↦ elim (adds.known y b j) [
      | inl other ↦ each x y a b old other
      | inr new ↦ subst (R a) (sym new.1) (others x a old).0
    ]
    | inr new ↦ subst (λ z. R z b) (sym new.1) (elim (adds.known y b j) [
      | inl other ↦ (others y b other).1
      | inr another ↦ subst (R m) (sym another.1) itself
    ])
  ]

  -- a disk that had a candidate has one
  pub adds_some : (d : ℕ) → HasCandidate (ks d) → HasCandidate (ls d)
  adds_some d some = (some.0, adds.stay d some.0 some.1)

  -- a durable fact goes on to be, where it holds of the new block
  pub durable_adds : (P : Laid → Type 0) (d : ℕ) → P m → Durable P (ks d) → Durable P (ls d)
  durable_adds P d holds h =
      let some = adds_some d (durable_some P (ks d) h) in
      durable P (ls d) some (λ a i. elim (adds.candidates d a i) [
        | inl old ↦ durable_each P (ks d) h a old
        | inr new ↦ subst P (sym new.1) holds
      ])

  -- a sole candidate that is the block goes on to be one
  pub sole_adds : (d : ℕ) → IsSole (ks d) m → IsSole (ls d) m
  sole_adds d sole = record {
    there = adds.stay d m sole.there;
    only = λ a i. elim (adds.candidates d a i) [
      | inl old ↦ sole.only a old
      | inr new ↦ new.1
    ];
  }

  -- a disk to which none was added keeps its candidates
  pub adds_elsewhere : (d : ℕ) → (d ≡ e → ⊥) → (a : Laid) → In a (ls d).candidates → In a (ks d).candidates
  adds_elsewhere d other a i = elim (adds.candidates d a i) [
    | inl old ↦ old
    | inr new ↦ absurd (other new.0)
  ]

-- ANY CALL OF A RUN

module _ (W : Words) (d : ℕ) (ks ls : ℕ → Disk) where
  -- what is known or a candidate behind it was so before, or is the block that came
  pub each_known_changes : (P : ℕ → Laid → Type 0) → ((m : Laid) → Adds d m ks ls → P d m)
      → Changes W d ks ls → EachKnown P ks → EachKnown P ls
  each_known_changes P holds (inl narrows) each = each_known_narrows W ks ls narrows P each
  each_known_changes P holds (inr (m, adds)) each = each_known_adds d m ks ls adds P (holds m adds) each

  -- the same of candidates
  pub each_candidate_changes : (P : ℕ → Laid → Type 0) → ((m : Laid) → Adds d m ks ls → P d m)
      → Changes W d ks ls → EachCandidate P ks → EachCandidate P ls
  each_candidate_changes P holds (inl narrows) each = each_candidate_narrows W ks ls narrows P each
  each_candidate_changes P holds (inr (m, adds)) each = each_candidate_adds d m ks ls adds P (holds m adds) each

  -- a disk that had a candidate has one
  pub some_changes : Changes W d ks ls → (e : ℕ) → HasCandidate (ks e) → HasCandidate (ls e)
  some_changes (inl narrows) e some = narrows.some e some
  some_changes (inr (m, adds)) e some = adds_some d m ks ls adds e some
