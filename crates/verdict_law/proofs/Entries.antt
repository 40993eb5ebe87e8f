-- The newest block that was seen is the newest that the images hold, which are of one container.
use Rattle.std.proofs.Common.{◌≡◌, ◌≤◌, ℕ, Bool, true, false, List, bytes_eq, refl, sym, ◌∙◌, ap, subst}
use Rattle.std.specs.Prelude.{All, Contains}
use Rattle.std.proofs.lemmas.List.Elements.{All-contains}
use Rattle.std.proofs.lemmas.Slice.Eq.{bytes_eq-Decides}
use Rattle.imsm_base.specs.Layout.{family_of, generation_of}
use Rattle.imsm_base.specs.Parts.{block_in}
use Rattle.imsm_codec.specs.Mpb.{block_bytes}
use Rattle.array_model.specs.Blocks.{Laid, Words}
use Rattle.block_meaning.specs.Meaning.{ReadsBlocks, bytes_of_laid}
use Rattle.generation_pick.specs.declared.found.FoundAt.{FoundAt}
use Rattle.generation_pick.specs.declared.found.Pick.{Pick}
use Rattle.generation_pick.specs.Found.{AreOneFamily, AreTwins, HasNoTwins, family_at, generation_at}
use Rattle.container.specs.declared.seen.Seen.{Seen}
use Rattle.container.specs.Seen.{AreOf, Container, containers_of}
use Rattle.container.specs.Verdicts.{IsNewest}
use Rattle.container.proofs.Alike.{of_map}
use Rattle.container.proofs.Moved.{view}
use Rattle.assembly.specs.Seen.{bytes_of, found_of}
use Rattle.sound_images.specs.Images.{AreOneContainer, Image, IsHeld, IsNewestOf, block_on}
use Rattle.sound_images.proofs.Meaning.{same_bytes}
use Rattle.verdict_law.specs.OnImages.{AreSeenOn}
use Rattle.verdict_law.proofs.Held.{IsOnImage, bytes_on_image, contains_block, family_is, generation_is, has_container, held_on, image_family, image_generation, on_image, seen_container, seen_on, whole_seen}

module _ (W : Words) (reads : ReadsBlocks W) (present : List Image) (seen : List Seen) (on : AreSeenOn present seen) where
  module _ (entries : List FoundAt) (are : AreOf entries (containers_of seen)) where
    -- each block that is held is an entry
    pub record IsEntry (a : Laid) : Type 0 where
      pub entry : FoundAt
      pub there : Contains entries entry
      pub bytes : block_bytes entry.mpb ≡ bytes_of_laid a
      pub family : family_at entry ≡ W.family a
      pub generation : generation_at entry ≡ W.generation a.anchor

    pub entry_of : (a : Laid) → IsHeld W present a → IsEntry a
    entry_of a h =
        let i = h.disk in
        let has = has_container W reads present a h in
        let s = seen_on present seen on i h.among in
        let container = seen_container i s.disk s.on has.0 in
        let loaded = whole_seen i s.disk s.on (ap found_of container.whole) in
        let there = contains_block seen s.disk s.there container in
        let f = of_map view entries _ (subst (λ (l : List Container). Contains l (record { disk = s.disk.disk.0; bytes = bytes_of s.disk.holds })) (sym are) there) in
        let on_disk : block_bytes f.0.mpb ≡ bytes_on_image i = ap (λ (c : Container). c.bytes) f.2 ∙ loaded.1 in
        record {
          entry = f.0;
          there = f.1;
          bytes = on_disk ∙ sym has.1;
          family = ap (λ (b : List ℕ). family_of (block_in b)) on_disk ∙ sym (family_is W reads present a h);
          generation = ap (λ (b : List ℕ). generation_of (block_in b)) on_disk ∙ sym (generation_is W reads present a h s.on.full);
        }

    both : (R : FoundAt → FoundAt → Type 0) → All (λ f. All (λ g. R f g) entries) entries → (f g : FoundAt) → Contains entries f → Contains entries g → R f g
    both R all f g here there = All-contains (λ h. R f h) entries g (All-contains (λ h. All (λ k. R h k) entries) entries f all here) there

    pub one_container : AreOneFamily entries → HasNoTwins entries → AreOneContainer W bytes_of_laid present
    one_container families apart = record {
      family = λ a b ha hb.
          let f = entry_of a ha in
          let g = entry_of b hb in
          sym f.family ∙ both (λ f g. family_at f ≡ family_at g) families f.entry g.entry f.there g.there ∙ g.family;
      same = λ a b ha hb generation.
          let f = entry_of a ha in
          let g = entry_of b hb in
          sym f.bytes
          ∙ untwinned f.entry g.entry (both (λ f g. AreTwins f g → ⊥) apart f.entry g.entry f.there g.there) (f.generation ∙ generation ∙ sym g.generation)
          ∙ g.bytes;
    }
      where
        untwinned : (f g : FoundAt) → (AreTwins f g → ⊥) → generation_at f ≡ generation_at g → block_bytes f.mpb ≡ block_bytes g.mpb
        untwinned f g none generation = at (bytes_eq (block_bytes f.mpb) (block_bytes g.mpb)) refl
          where
            at : (t : Bool) → bytes_eq (block_bytes f.mpb) (block_bytes g.mpb) ≡ t → block_bytes f.mpb ≡ block_bytes g.mpb
            at true is = (bytes_eq-Decides (block_bytes f.mpb) (block_bytes g.mpb)).0 is
            at false is = absurd (none (generation, λ same. let equal = (bytes_eq-Decides (block_bytes f.mpb) (block_bytes g.mpb)).1 same in cc (is, equal)))

  -- a block that was seen, as it lies on its image
  module _ (bytes : List ℕ) (image : IsOnImage present bytes) where
    abbrev pub laid : Laid
    laid = block_on W image.image

    pub laid_held : IsHeld W present laid
    laid_held = held_on W reads present image.image image.among image.holds

    pub laid_bytes : bytes_of_laid laid ≡ bytes
    laid_bytes = same_bytes W image.image reads ∙ image.same

    pub laid_family : W.family laid ≡ family_of (block_in bytes)
    laid_family = image_family W reads image.image image.holds ∙ ap (λ (b : List ℕ). family_of (block_in b)) image.same

    pub laid_generation : W.generation laid.anchor ≡ generation_of (block_in bytes)
    laid_generation =
        image_generation W reads image.image image.holds (seen_on present seen on image.image image.among).on.full
        ∙ ap (λ (b : List ℕ). generation_of (block_in b)) image.same

  pub image_of_newest : (p : Pick) (bytes : List ℕ) → IsNewest seen p bytes → IsOnImage present bytes
  image_of_newest p bytes n = on_image present seen on (record { disk = p.disk.0; bytes = bytes }) n.there

  pub newest_of : (p : Pick) (bytes : List ℕ) (n : IsNewest seen p bytes) → IsNewestOf W present (laid bytes (image_of_newest p bytes n))
  newest_of p bytes n =
      let image = image_of_newest p bytes n in
      record {
        held = laid_held bytes image;
        highest = λ a h.
            let f = entry_of n.entries n.are a h in
            subst (λ (g : ℕ). g ≤ W.generation (laid bytes image).anchor) f.generation
            (subst (λ (g : ℕ). generation_at f.entry ≤ g) (sym (laid_generation bytes image ∙ n.generation))
            (All-contains (λ f. generation_at f ≤ p.generation) n.entries f.entry n.picked.newest.highest f.there));
      }
