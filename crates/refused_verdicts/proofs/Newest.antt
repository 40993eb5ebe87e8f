-- The verdict on disks that were seen is by the newest block that stood on them.
use Rattle.std.proofs.Common.{◌≡◌, ◌≢◌, ◌≤◌, ◌<◌, ◌==◌, ℕ, zero, suc, Bool, true, false, cond, List, [], ◌∷◌, bytes_eq, Some, inl, inr, refl, sym, ◌∙◌, ap, subst, arith}
use Rattle.std.specs.Prelude.{All, Contains, slice_get}
use Rattle.std.proofs.lemmas.Bool.Decides.{nat_tests}
use Rattle.std.proofs.lemmas.List.Elements.{All-contains, Contains-append_cases, Contains-append_left, Contains-append_right}
use Rattle.std.proofs.lemmas.Slice.Eq.{bytes_eq-Decides}
use Rattle.units.specs.declared.disk.Sector.{Sector}
use Rattle.units.specs.declared.disk.Serial.{Serial}
use Rattle.imsm_base.specs.Layout.{family_of, generation_of, volume_count_of}
use Rattle.imsm_base.specs.Parts.{block_in}
use Rattle.imsm_base.specs.Whole.{IsWholeBlock}
use Rattle.imsm_buffer.specs.Buffer.{Buffer, parts_of}
use Rattle.imsm_codec.specs.Mpb.{block_bytes}
use Rattle.device_log.specs.Log.{Call}
use Rattle.member_bank.specs.Faults.{Rose}
use Rattle.mpb_store.specs.declared.answer.Found.{Found}
use Rattle.mpb_store.specs.declared.answer.Found.TheVariants as found
use Rattle.generation_pick.specs.declared.found.FoundAt.{FoundAt}
use Rattle.generation_pick.specs.Found.{AreTwins, family_at, generation_at}
use Rattle.container.specs.declared.seen.Seen.{Seen}
use Rattle.container.specs.declared.seen.SeenAs.{SeenAs}
use Rattle.container.specs.declared.seen.SeenAs.TheVariants.{Whole, Blank, Torn, Unread}
use Rattle.container.specs.declared.verdict.Verdict.{Verdict}
use Rattle.container.specs.Seen.{AreOf, Container, IsContainer, container_by, containers_of}
use Rattle.container.specs.Verdicts.{IsByNewest}
use Rattle.container.proofs.Alike.{of_map}
use Rattle.container.proofs.Moved.{view}
use Rattle.assembly.specs.Seen.{bytes_of, found_of}
use Rattle.image_outside.specs.Told.{BankTold}
use Rattle.refused_verdicts.specs.Told.{Holds, HoldsContainer, HoldsNewest}
use Rattle.refused_verdicts.proofs.Places.{at_place, in_nil, same_at}
use Rattle.refused_verdicts.proofs.Seeing.{AreSeenSo, IsSeenSo}

-- ONE DISK

pub as_unread : (holds : SeenAs) → found_of holds ≡ found.Unread → holds ≡ Unread
as_unread (Whole block) is = absurd (cc is)
as_unread Blank is = absurd (cc is)
as_unread (Torn fault) is = absurd (cc is)
as_unread Unread is = refl

pub as_whole : (holds : SeenAs) → found_of holds ≡ found.Whole → (block : Buffer) × (holds ≡ Whole block)
as_whole (Whole block) is = (block, refl)
as_whole Blank is = absurd (cc is)
as_whole (Torn fault) is = absurd (cc is)
as_whole Unread is = absurd (cc is)

pub no_rise : (n : ℕ) → n ≡ 0 → Rose 0 n → ⊥
no_rise n none rose = omega (arith, none, rose)

pub whole_read : (f : Found) → f ≡ found.Whole → f ≢ found.Unread
whole_read f is other = not_both (sym is ∙ other) where
  not_both : found.Whole ≡ found.Unread → ⊥
  not_both same = cc

module _ (opening : List (List Sector)) (bank : BankTold) (k : ℕ) (s : Seen) (so : IsSeenSo opening bank k s) where
  -- what was found where no read failed
  pub found_there : found_of s.holds ≢ found.Unread → Holds opening bank k s.serial (found_of s.holds)
  found_there read = record { named = so.serial; is = (so.stands.exact read (found_of s.holds)).0 refl }

  pub well_read : bank.faults k ≡ 0 → found_of s.holds ≢ found.Unread
  well_read none is = no_rise (bank.faults k) none (so.unread (as_unread s.holds is))

  -- what is found by what stood there was found
  pub found_so : (t : Serial) (f : Found) → found_of s.holds ≢ found.Unread → Holds opening bank k t f → found_of s.holds ≡ f
  found_so t f read holds =
      let same : t ≡ s.serial = same_at bank.serials k t s.serial holds.named so.serial in
      (so.stands.exact read f).1 (subst (λ (x : Serial). Holds opening bank k x f) same holds).is

  pub container_there : IsContainer s.holds → HoldsContainer opening bank k s.serial (bytes_of s.holds)
  container_there c =
      let is : found_of s.holds ≡ found.Whole = ap found_of c.whole in
      record {
        whole = subst (Holds opening bank k s.serial) is (found_there (whole_read (found_of s.holds) is));
        block = so.stands.loaded is;
        volume = subst (λ (h : SeenAs). 0 < volume_count_of (block_in (bytes_of h))) (sym c.whole) c.volume;
      }

  pub container_seen : (t : Serial) (bytes : List ℕ) → bank.faults k ≡ 0 → HoldsContainer opening bank k t bytes → IsContainer s.holds × (bytes_of s.holds ≡ bytes)
  container_seen t bytes none holds =
      let is = found_so t found.Whole (well_read none) holds.whole in
      let whole = as_whole s.holds is in
      let same : bytes_of s.holds ≡ bytes = so.stands.loaded is ∙ sym holds.block in
      (record { block = whole.0; whole = whole.1; volume = subst (λ (b : List ℕ). 0 < volume_count_of (block_in b)) (sym same ∙ ap bytes_of whole.1) holds.volume }, same)

-- a block of a container that was seen is that of one of the disks
of_block : (d : ℕ) (holds : SeenAs) (c : Container) → Contains (container_by d holds) c → IsContainer holds × (bytes_of holds ≡ c.bytes)
of_block d (Whole block) c there = at (volume_count_of (parts_of block) == 0) refl there
  where
    at : (b : Bool) → (volume_count_of (parts_of block) == 0) ≡ b → Contains (cond b [] (record { disk = d; bytes = block.bytes } ∷ [])) c → IsContainer (Whole block) × (block.bytes ≡ c.bytes)
    at true is there = absurd (in_nil c there)
    at false is (zero, below, same) = (record { block = block; whole = refl; volume = grind (arith, nat_tests, is) }, ap (λ (c : Container). c.bytes) same)
    at false is (suc k, below, same) = absurd (omega (arith, below))
of_block d Blank c there = absurd (in_nil c there)
of_block d (Torn fault) c there = absurd (in_nil c there)
of_block d Unread c there = absurd (in_nil c there)

pub of_container : (seen : List Seen) (c : Container) → Contains (containers_of seen) c → (s : Seen) × Contains seen s × IsContainer s.holds × (bytes_of s.holds ≡ c.bytes)
of_container [] c there = absurd (in_nil c there)
of_container (s ∷ seen) c there = elim (Contains-append_cases (container_by s.disk.0 s.holds) (containers_of seen) c there) [
  | inl here ↦ let is = of_block s.disk.0 s.holds c here in (s, (0, omega arith, refl), is.0, is.1)
  | inr more ↦ let rest = of_container seen c more in (rest.0, Contains-append_right (s ∷ []) seen rest.0 rest.1, rest.2, rest.3)
]

to_block : (d : ℕ) (holds : SeenAs) → IsContainer holds → Contains (container_by d holds) (record { disk = d; bytes = bytes_of holds })
to_block d holds c = subst (λ (h : SeenAs). Contains {X = Container} (container_by d h) (record { disk = d; bytes = bytes_of h })) (sym c.whole) here
  where
    here : Contains (container_by d (Whole c.block)) (record { disk = d; bytes = c.block.bytes })
    here =
        let some : (volume_count_of (parts_of c.block) == 0) ≡ false = grind (arith, nat_tests, c.volume) in
        subst (λ (b : Bool). Contains {X = Container} (cond b [] (record { disk = d; bytes = c.block.bytes } ∷ [])) (record { disk = d; bytes = c.block.bytes })) (sym some) (0, omega arith, refl)

pub contains_block : (seen : List Seen) (k : ℕ) (s : Seen) → slice_get seen k ≡ Some s → IsContainer s.holds → Contains (containers_of seen) (record { disk = s.disk.0; bytes = bytes_of s.holds })
contains_block [] k s at c = absurd (cc at)
contains_block (t ∷ seen) zero s at c =
    let same : t ≡ s = cc at in
    Contains-append_left (container_by t.disk.0 t.holds) (containers_of seen) _ (subst (λ (x : Seen). Contains (container_by x.disk.0 x.holds) (record { disk = s.disk.0; bytes = bytes_of s.holds })) (sym same) (to_block s.disk.0 s.holds c))
contains_block (t ∷ seen) (suc k) s at c = Contains-append_right (container_by t.disk.0 t.holds) (containers_of seen) _ (contains_block seen k s at c)

-- THE NEWEST

untwinned : (f g : FoundAt) → (AreTwins f g → ⊥) → generation_at f ≡ generation_at g → block_bytes f.mpb ≡ block_bytes g.mpb
untwinned f g none generation = at (bytes_eq (block_bytes f.mpb) (block_bytes g.mpb)) refl
  where
    at : (t : Bool) → bytes_eq (block_bytes f.mpb) (block_bytes g.mpb) ≡ t → block_bytes f.mpb ≡ block_bytes g.mpb
    at true is = (bytes_eq-Decides (block_bytes f.mpb) (block_bytes g.mpb)).0 is
    at false is = absurd (none (generation, λ same. let equal = (bytes_eq-Decides (block_bytes f.mpb) (block_bytes g.mpb)).1 same in cc (is, equal)))

module _ (opening : List (List Sector)) (log : List Call) (bank : BankTold) (seen : List Seen) (so : AreSeenSo opening log bank seen) where
  module _ (bytes : List ℕ) (newest : HoldsNewest opening bank bytes) (t : Seen) (at : slice_get seen newest.disk ≡ Some t) where
    the_container : IsContainer t.holds × (bytes_of t.holds ≡ bytes)
    the_container = container_seen opening bank newest.disk t (so.each newest.disk t at) newest.own bytes newest.read newest.holds

    pub newest_whole : IsWholeBlock bytes (block_in bytes)
    newest_whole =
        let is = the_container in
        subst (λ (b : List ℕ). IsWholeBlock b (block_in b)) is.1 ((so.each newest.disk t at).whole (ap found_of is.0.whole)).whole

    pub the_entry : (entries : List FoundAt) → AreOf entries (containers_of seen) → (f : FoundAt) × Contains entries f × (block_bytes f.mpb ≡ bytes)
    the_entry entries are =
        let is = the_container in
        let there = contains_block seen newest.disk t at is.0 in
        let f = of_map view entries _ (subst (λ (l : List Container). Contains l (record { disk = t.disk.0; bytes = bytes_of t.holds })) (sym are) there) in
        (f.0, f.1, ap (λ (c : Container). c.bytes) f.2 ∙ is.1)

    module _ (run : Bool) (v : Verdict) (by : IsByNewest seen run v) where
      lower : generation_of (block_in by.bytes) ≤ generation_of (block_in bytes)
      lower =
          let c = of_container seen (record { disk = by.pick.disk.0; bytes = by.bytes }) by.newest.there in
          let k = at_place seen c.0 c.1 in
          let holds = container_there opening bank k.0 c.0 (so.each k.0 c.0 k.1) c.2 in
          subst (λ (b : List ℕ). generation_of (block_in b) ≤ generation_of (block_in bytes)) c.3 (newest.highest k.0 c.0.serial (bytes_of c.0.holds) holds)

      higher : generation_of (block_in bytes) ≤ by.pick.generation
      higher =
          let f = the_entry by.newest.entries by.newest.are in
          subst (λ (b : List ℕ). generation_of (block_in b) ≤ by.pick.generation) f.2
          (All-contains (λ f. generation_at f ≤ by.pick.generation) by.newest.entries f.0 by.newest.picked.newest.highest f.1)

      pub by_generation : by.pick.generation ≡ generation_of (block_in bytes)
      by_generation = omega (arith, lower, higher, by.newest.generation)

      pub by_bytes : by.bytes ≡ bytes
      by_bytes =
          let f = the_entry by.newest.entries by.newest.are in
          let g = of_map view by.newest.entries _ (subst (λ (l : List Container). Contains l (record { disk = by.pick.disk.0; bytes = by.bytes })) (sym by.newest.are) by.newest.there) in
          let same : block_bytes g.0.mpb ≡ by.bytes = ap (λ (c : Container). c.bytes) g.2 in
          let apart : AreTwins g.0 f.0 → ⊥ = All-contains (λ h. AreTwins g.0 h → ⊥) by.newest.entries f.0 (All-contains (λ h. All (λ k. AreTwins h k → ⊥) by.newest.entries) by.newest.entries g.0 by.newest.picked.apart g.1) f.1 in
          sym same
          ∙ untwinned g.0 f.0 apart
          (ap (λ (b : List ℕ). generation_of (block_in b)) same ∙ by.newest.generation ∙ by_generation ∙ sym (ap (λ (b : List ℕ). generation_of (block_in b)) f.2))
          ∙ f.2

      pub by_family : by.pick.family ≡ family_of (block_in bytes)
      by_family =
          let f = the_entry by.newest.entries by.newest.are in
          let first = by.newest.picked.newest.found in
          let one : family_at first ≡ family_at f.0 =
          All-contains (λ g. family_at first ≡ family_at g) by.newest.entries f.0
          (All-contains (λ f. All (λ g. family_at f ≡ family_at g) by.newest.entries) by.newest.entries first by.newest.picked.one_family by.newest.picked.newest.there) f.1 in
          sym by.newest.picked.newest.family ∙ one ∙ ap (λ (b : List ℕ). family_of (block_in b)) f.2
