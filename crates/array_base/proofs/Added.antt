-- The write of an anchor brings a block to one disk: the round's, or a spare's. What holds of the disks stays.
use Rattle.std.proofs.Common.{◌≡◌, ℕ, Bool, true, List, [], ◌∷◌, length, refl, ap, sym, ◌∙◌, subst, arith, ◌⊎◌, inl, inr}
use Rattle.units.specs.declared.disk.Sector.{Sector}
use Rattle.array_model.specs.Blocks.{Laid, is_container}
use Rattle.array_model.specs.Candidates.{Disk, In}
use Rattle.array_disks.specs.Held.{IsSole, AccountForEnd, IsFresh}
use Rattle.array_disks.specs.Changes.{Adds}
use Rattle.array_machine.specs.Setting.{Setting}
use Rattle.array_machine.specs.Rounds.{expects}
use Rattle.array_model.specs.Blocks.{SaysAlike}
use Rattle.array_base.specs.Premises.{generation_of, IsContainer, IsBlock, Premises}
use Rattle.array_base.specs.Base.{Ledger, IsTrusted, AreTwins, KnownAreSound, HoldsCurrent, InHand, IsKnown, is_left, RoundGoes, SpareGoes, Core}

-- A BLOCK AND ITSELF

pub alike_itself : (S : Setting) (a b : Laid) → a ≡ b → SaysAlike S.start.words a b
alike_itself S a b same = record {
  generation = ap (λ (x : Laid). S.start.words.generation x.anchor) same;
  volumes = ap S.start.words.volumes same;
  family = ap S.start.words.family same;
  has_record = λ serial. ap (λ x. S.start.words.has_record x serial) same;
  expects = λ serial. ap (λ x. S.start.words.expects x serial) same;
  is_supported = λ v. ap (λ x. S.start.words.is_supported x v) same;
  is_dirty = λ v. ap (λ x. S.start.words.is_dirty x v) same;
  is_unfinished = λ v. ap (λ x. S.start.words.is_unfinished x v) same;
  can_run = λ v. ap (λ x. S.start.words.can_run x v) same;
  pass = λ v. ap (λ x. S.start.words.pass x v) same;
  unit = λ v. ap (λ x. S.start.words.unit x v) same;
  pass_start = λ v. ap (λ x. S.start.words.pass_start x v) same;
  shape = λ v. ap (λ x. S.start.words.shape x v) same;
  slots = λ v. ap (λ x. S.start.words.slots x v) same;
}

twins_itself : (S : Setting) (a b : Laid) → a ≡ b → AreTwins S a b
twins_itself S a b same = record { says = alike_itself S a b same; same = λ above. same }

no_extended : (xs : List Sector) → length xs ≡ 0 → xs ≡ []
no_extended [] h = refl
no_extended (x ∷ xs) h = absurd cc

module _ (S : Setting) (P : Premises S) (ks ls : ℕ → Disk) (d : ℕ) (m : Laid) (adds : Adds d m ks ls) (l : Ledger)
    (core : Core S P ks l) where
  known_on : (a : Laid) → IsKnown S ks a → IsKnown S ls a
  known_on a k = record { disk = k.disk; there = adds.grow k.disk a k.there }

  hand_adds : InHand S P.edits.formed ls l
  hand_adds = let h = core.hand in record {
    book = h.book;
    last = h.last;
    last_known = known_on l.last h.last_known;
    given = h.given;
    given_known = λ e. known_on (l.given e) (h.given_known e);
  }

  -- a disk that has candidates has them on, and a sole candidate stays so where it is the block that comes
  some_on : (e : ℕ) → ((a : Laid) × In a (ks e).candidates) → (a : Laid) × In a (ls e).candidates
  some_on e some = (some.0, adds.stay e some.0 some.1)

  sole_adds : (e : ℕ) → IsSole (ks e) m → IsSole (ls e) m
  sole_adds e sole = record {
    there = adds.stay e m sole.there;
    only = λ a i. elim (adds.candidates e a i) [ inl old ↦ sole.only a old | inr new ↦ new.1 ];
  }

  old_or_new : (e : ℕ) (a : Laid) → In a (ls e).known → In a (ks e).known ⊎ (a ≡ m)
  old_or_new e a i = elim (adds.known e a i) [ inl old ↦ inl old | inr new ↦ inr new.1 ]

  -- a known block is whole on some disk, where the new one is
  blocks_adds : IsBlock S m → (e : ℕ) (a : Laid) → In a (ls e).known → IsBlock S a
  blocks_adds block e a i = elim (old_or_new e a i) [
    | inl old ↦ core.known.blocks e a old
    | inr new ↦ subst (IsBlock S) (sym new) block
  ]

  -- THE ROUND'S BLOCK

  module _ (left late : List ℕ) (done : Bool) (block : IsBlock S m) (container : IsContainer S m)
      (g : RoundGoes S ks l m left late done) where
    -- no other known block has its anchor
    pub round_fresh : (e : ℕ) → IsFresh (ks e) m
    round_fresh e a i same =
        let formed = ap P.edits.formed (sym g.book) ∙ core.hand.book.form in
        let is = P.by_anchor a m (core.known.blocks e a i) formed same ∙ container in
        g.alone e a i is (ap S.start.words.generation same)

    twins_adds : (e f : ℕ) (a b : Laid) → In a (ls e).known → In b (ls f).known → IsContainer S a → IsContainer S b
        → generation_of S a ≡ generation_of S b → AreTwins S a b
    twins_adds e f a b i j p q equal = elim (old_or_new e a i) [
      | inl old ↦ elim (old_or_new f b j) [
        | inl other ↦ core.known.twins e f a b old other p q equal
        | inr new ↦ twins_itself S a b (g.alone e a old p (equal ∙ ap (generation_of S) new) ∙ sym new)
      ]
      | inr new ↦ elim (old_or_new f b j) [
        | inl other ↦ twins_itself S a b (new ∙ sym (g.alone f b other q (sym equal ∙ ap (generation_of S) new)))
        | inr same ↦ twins_itself S a b (new ∙ sym same)
      ]
    ]

    known_adds : ((e : ℕ) → AccountForEnd (S.start.disks.sectors e) (ls e)) → KnownAreSound S ls l
    known_adds account = record {
      account = account;
      blocks = blocks_adds block;
      noted = λ e a i is. elim (old_or_new e a i) [
        | inl old ↦ core.known.noted e a old is
        | inr new ↦ let equal = ap (generation_of S) new in omega (arith, equal, g.top)
      ];
      twins = twins_adds;
    }

    current_adds : (e : ℕ) → HoldsCurrent S ks l e → HoldsCurrent S ls l e
    current_adds e h = record {
      some = some_on e h.some;
      candidates = λ a i. elim (adds.candidates e a i) [
        | inl old ↦ h.candidates a old
        | inr new ↦ record {
          container = ap (is_container S.start.words) new.1 ∙ container;
          young =
              let equal = ap (generation_of S) new.1 in
              let last = core.generations.last in
              omega (arith, equal, g.top, last);
        }
      ];
      expected = λ f a i current. elim (old_or_new f a i) [
        | inl old ↦ h.expected f a old current
        | inr new ↦ ap (λ x. expects S x e) (new ∙ sym g.book) ∙ h.in_book
      ];
      in_book = h.in_book;
    }

    pub core_adds : ((e : ℕ) → AccountForEnd (S.start.disks.sectors e) (ls e)) → Core S P ls l
    core_adds account = record {
      known = known_adds account;
      working = λ e trusted. current_adds e (core.working e trusted);
      generations = core.generations;
      hand = hand_adds;
    }

    pub round_adds : RoundGoes S ls l m left late done
    round_adds = record {
      book = g.book;
      top = g.top;
      above = g.above;
      alone = λ e a i is equal. elim (old_or_new e a i) [ inl old ↦ g.alone e a old is equal | inr new ↦ new ];
      finished = λ e expected sound gone. sole_adds e (g.finished e expected sound gone);
      begun = g.begun;
      known = λ is. known_on m (g.known is);
      targets = g.targets;
    }

  -- A SPARE'S BLOCK

  module _ (x : ℕ) (left late : List ℕ) (done : Bool) (block : IsBlock S m) (aimed : is_left S left late d ≡ true)
      (g : SpareGoes S ks l x m left late done) where
    -- a known block of a container isn't new
    old_container : (e : ℕ) (a : Laid) → In a (ls e).known → IsContainer S a → In a (ks e).known
    old_container e a i is = elim (adds.known e a i) [
      | inl old ↦ old
      | inr new ↦ absurd (let bad = sym is ∙ ap (is_container S.start.words) new.1 in cc (bad, g.block.spare))
    ]

    -- one sector alone: a known block with the same anchor is the same
    pub spare_fresh : (e : ℕ) → IsFresh (ks e) m
    spare_fresh e a i same =
        let extra = sym (core.known.blocks e a i).extra ∙ ap S.start.words.extra same ∙ g.block.extra in
        let none : a.extended ≡ [] = no_extended a.extended extra in
        ap (λ (s : Sector). record { anchor = s; extended = a.extended }) same
        ∙ ap (λ (xs : List Sector). record { anchor = m.anchor; extended = xs }) (none ∙ sym g.block.alone)

    spare_known : ((e : ℕ) → AccountForEnd (S.start.disks.sectors e) (ls e)) → KnownAreSound S ls l
    spare_known account = record {
      account = account;
      blocks = blocks_adds block;
      noted = λ e a i is. core.known.noted e a (old_container e a i is) is;
      twins = λ e f a b i j p q. core.known.twins e f a b (old_container e a i p) (old_container f b j q) p q;
    }

    -- the block doesn't come to a trusted disk
    elsewhere : (e : ℕ) → IsTrusted S l e → (a : Laid) → In a (ls e).candidates → In a (ks e).candidates
    elsewhere e trusted a i = elim (adds.candidates e a i) [
      | inl old ↦ old
      | inr new ↦ absurd (g.idle (subst (IsTrusted S l) (new.0 ∙ g.only d aimed) trusted))
    ]

    spare_current : (e : ℕ) → IsTrusted S l e → HoldsCurrent S ks l e → HoldsCurrent S ls l e
    spare_current e trusted h = record {
      some = some_on e h.some;
      candidates = λ a i. h.candidates a (elsewhere e trusted a i);
      expected = λ f a i current. h.expected f a (old_container f a i current.container) current;
      in_book = h.in_book;
    }

    pub core_spare : ((e : ℕ) → AccountForEnd (S.start.disks.sectors e) (ls e)) → Core S P ls l
    core_spare account = record {
      known = spare_known account;
      working = λ e trusted. spare_current e trusted (core.working e trusted);
      generations = core.generations;
      hand = hand_adds;
    }

    pub spare_adds : SpareGoes S ls l x m left late done
    spare_adds = record {
      settled = g.settled;
      only = g.only;
      idle = g.idle;
      block = g.block;
      held = λ is. sole_adds x (g.held is);
    }
