-- A bank at rest is real, and an opening finds its container.
use Rattle.std.proofs.Common.{◌≡◌, ℕ, ◌≤◌, ◌<◌, ◌==◌, ◌&&◌, Bool, true, false, cond, List, [], length, drop, Option, Some, None, refl, sym, ◌∙◌, ap, subst, arith}
use Rattle.std.specs.List.{list_all}
use Rattle.std.proofs.lemmas.Bool.{and_parts, eq-eqb, false≢true}
use Rattle.units.specs.declared.disk.Sector.{Sector}
use Rattle.units.specs.Places.{extended_count}
use Rattle.imsm_base.specs.Layout.{bytes_of}
use Rattle.imsm_base.specs.Edits.{sealed, first_sector}
use Rattle.device_log.specs.Cells.{resting}
use Rattle.array_model.specs.Blocks.{Laid, is_container}
use Rattle.array_model.specs.Candidates.{standing}
use Rattle.array_model.specs.Script.{sector_of}
use Rattle.block_meaning.specs.Meaning.{bytes_of_laid}
use Rattle.block_meaning.specs.Reading.{block_words}
use Rattle.block_meaning.proofs.Words.{reads_blocks}
use Rattle.array_disks.specs.Calls.{FitsEnd}
use Rattle.array_machine.specs.Numbers.{has}
use Rattle.array_machine.specs.Rounds.{expects}
use Rattle.array_machine.specs.Setting.{Setting}
use Rattle.array_base.specs.Premises.{generation_of, IsWholeOnItsDisks, IsSpareBlock}
use Rattle.array_base.specs.Opening.{first_at, HoldsContainer}
use Rattle.array_edits.specs.Formed.{is_full, is_formed}
use Rattle.array_edits.specs.RealSettings.{IsReal}
use Rattle.array_edits.proofs.Laid.{length-first, sectors-full}
use Rattle.array_edits.proofs.Stays.{placed}
use Rattle.array_openings.specs.Spares.{spare_parts, spare_block}
use Rattle.array_openings.specs.RealDisks.{IsOverRealDisks}
use Rattle.array_openings.specs.Opens.{FindsContainer, Opens}
use Rattle.array_openings.specs.Banks.{Bank, serial_in, sectors_in, stands_on, place_with, setting_of_bank, IsAtRest}
use Rattle.array_openings.proofs.SpareBlocks.{spare_is}
use Rattle.array_openings.proofs.Meets.{named}
use Rattle.array_openings.proofs.Finds.{opens}
use Rattle.array_openings.proofs.Ends.{block_stands, IsFullBlock, with_full}
use Rattle.array_openings.proofs.Apart.{own_serials, none_past, serial_full}

module _ (k : Bank) (rest : IsAtRest k) where
  abbrev S : Setting
  S = setting_of_bank k

  pub real : IsReal S
  real = record {
    reads = reads_blocks;
    edits = λ f m e. refl;
    can = record { few = rest.few; serials = λ d below. serial_full k.disks d rest.typed below };
  }

  pub over : IsOverRealDisks S
  over = record {
    real = real;
    own = λ d e low high same. own_serials k.disks d e rest.apart low high same;
    past = λ d past. none_past k.disks d past;
    spare = λ book d. refl;
    newest = rest.formed;
  }

  -- WHAT STANDS

  pub whole : IsWholeOnItsDisks S k.block
  whole d expected = rest.whole d (named S over k.block d rest.formed expected) expected

  pub fits : FitsEnd block_words k.block
  fits = let p = placed S k.block real rest.formed in record { extra = p.0; few = p.1 }

  room_on : (serial : List ℕ) (n : ℕ) (m : Laid) → block_words.is_whole serial n m ≡ true → 18 ≤ n
  room_on serial n m is = ((reads_blocks.is_whole serial n m).0 is).1.enough

  abbrev stood : Option Laid → ℕ → Laid
  stood o d = standing block_words (sectors_in k.disks d) (λ p. resting (place_with o (sectors_in k.disks d) p))

  -- by what stands on the disk
  stands_as : (d : ℕ) (o : Option Laid) → stands_on k d ≡ o → first_at S d ≡ stood o d
  stands_as d o is = ap (λ (x : Option Laid). stood x d) is

  member_on : (d : ℕ) → expects S k.block d ≡ true → stands_on k d ≡ Some k.block
  member_on d expected = ap (λ (t : Bool). cond t (Some k.block)
      (cond (has d k.spares) (Some (spare_block (serial_in k.disks d) (sectors_in k.disks d))) None)) expected

  member_stands : (d : ℕ) → expects S k.block d ≡ true → first_at S d ≡ k.block
  member_stands d expected =
      stands_as d (Some k.block) (member_on d expected)
      ∙ block_stands block_words k.block (sectors_in k.disks d) fits
      (room_on (serial_in k.disks d) (sectors_in k.disks d) k.block (whole d expected))

  abbrev spare_at : ℕ → Laid
  spare_at d = spare_block (serial_in k.disks d) (sectors_in k.disks d)

  -- by two tests
  stands_by : (d : ℕ) (t u : Bool) → expects S k.block d ≡ t → has d k.spares ≡ u
      → stands_on k d ≡ cond t (Some k.block) (cond u (Some (spare_at d)) None)
  stands_by d t u is spare =
      ap (λ (x : Bool). cond x (Some k.block) (cond (has d k.spares) (Some (spare_at d)) None)) is
      ∙ ap (λ (x : Bool). cond t (Some k.block) (cond x (Some (spare_at d)) None)) spare

  -- a spare's block is no container's, and nothing is no block
  no_spare : (d : ℕ) → d < length k.disks → stands_on k d ≡ Some (spare_at d) → HoldsContainer S d → ⊥
  no_spare d below is holds =
      let m : Laid = spare_block (serial_in k.disks d) (sectors_in k.disks d) in
      let room : 18 ≤ sectors_in k.disks d =
      room_on (serial_in k.disks d) (sectors_in k.disks d) (first_at S d) holds.whole in
      let spare : IsSpareBlock S d m = spare_is S d real below room in
      let none : length m.extended ≡ 0 = ap (λ (ss : List Sector). length ss) spare.alone in
      let first : first_at S d ≡ m = stands_as d (Some m) is
      ∙ block_stands block_words m (sectors_in k.disks d)
      (record { extra = spare.extra ∙ sym none; few = omega (arith, none) }) room in
      false≢true (sym (ap (is_container block_words) first ∙ spare.spare) ∙ holds.container)

  abbrev blank : Laid
  blank = record { anchor = sector_of 0; extended = [] }

  none_stands : (d : ℕ) → stood None d ≡ blank
  none_stands d = refl

  blank_bytes : bytes_of_laid blank ≡ []
  blank_bytes = refl

  no_blank : (d : ℕ) → stands_on k d ≡ None → HoldsContainer S d → ⊥
  no_blank d is holds =
      let there = (reads_blocks.is_whole (serial_in k.disks d) (sectors_in k.disks d) (first_at S d)).0 holds.whole in
      let none : length (bytes_of_laid (first_at S d)) ≡ 0 = ap (λ (m : Laid). length (bytes_of_laid m))
      (stands_as d None is ∙ none_stands d) ∙ ap (λ (xs : List ℕ). length xs) blank_bytes in
      let given = there.1.whole.given in
      let least = there.1.whole.sized.least in
      omega (arith, none, given, least)

  -- a disk that holds a container's block holds this one
  pub first_is : (d : ℕ) → HoldsContainer S d → first_at S d ≡ k.block
  first_is d holds = at (expects S k.block d) refl (has d k.spares) refl
    where
      at : (t : Bool) → expects S k.block d ≡ t → (u : Bool) → has d k.spares ≡ u → first_at S d ≡ k.block
      at true expected u spare = member_stands d expected
      at false other true spare = absurd (no_spare d (rest.spares d spare) (stands_by d false true other spare) holds)
      at false other false none = absurd (no_blank d (stands_by d false false other none) holds)

  -- FULL SECTORS

  block_full : IsFullBlock k.block
  block_full =
      let p = and_parts (is_full k.block.anchor && list_all is_full k.block.extended)
      (block_words.extra k.block.anchor == length k.block.extended) (placed_test rest.formed) in
      let q = and_parts (is_full k.block.anchor) (list_all is_full k.block.extended) p.0 in
      record { anchor = q.0; extended = q.1 }
    where
      placed_test : is_formed S.start k.block ≡ true
          → (is_full k.block.anchor && list_all is_full k.block.extended
          && (block_words.extra k.block.anchor == length k.block.extended)) ≡ true
      placed_test formed = (and_parts _ _ (and_parts _ _ (and_parts _ _ (and_parts _ _ formed).0).0).0).0

  full : (d p : ℕ) → length (S.start.disks.opening d p).0 ≡ 512
  full d p = with_full (stands_on k d) (sectors_in k.disks d) p (at (expects S k.block d) refl (has d k.spares))
    where
      spare_full : IsFullBlock (spare_block (serial_in k.disks d) (sectors_in k.disks d))
      spare_full =
          let bytes : List ℕ = sealed (bytes_of (spare_parts (serial_in k.disks d) (sectors_in k.disks d))) in
          record {
            anchor = eq-eqb (length (first_sector bytes)) 512 (length-first bytes);
            extended = sectors-full (extended_count (length bytes)) (drop 512 bytes);
          }

      at : (t : Bool) → expects S k.block d ≡ t → (u : Bool) → (m : Laid)
          → cond t (Some k.block) (cond u (Some (spare_block (serial_in k.disks d) (sectors_in k.disks d))) None)
          ≡ Some m
          → IsFullBlock m
      at true e u m is = subst IsFullBlock (cc is) block_full
      at false e true m is = subst IsFullBlock (cc is) spare_full
      at false e false m is = absurd (cc is)

  finds : FindsContainer S
  finds = record {
    full = full;
    container = rest.container;
    whole = whole;
    disk = rest.member;
    there = whole rest.member rest.expected;
    stands = member_stands rest.member rest.expected;
    members = λ d expected serves. ap bytes_of_laid (member_stands d expected);
    copies = λ d e one other equal. ap bytes_of_laid (first_is d one ∙ sym (first_is e other));
    top = λ d holds.
        let same : generation_of S (first_at S d) ≡ generation_of S k.block = ap (generation_of S) (first_is d holds) in
        omega (arith, same);
    spares = rest.spares;
  }

  pub rest_opens : Opens S
  rest_opens = opens S over finds
