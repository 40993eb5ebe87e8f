-- An opening over real disks: copies of the newest block say alike, and volumes begin as its words say.
use Rattle.std.proofs.Common.{◌≡◌, ℕ, zero, suc, ◌-◌, ◌≤◌, ◌==◌, Bool, true, false, if◌then◌else◌, List, length, refl, sym, ◌∙◌, ap, subst, arith}
use Rattle.std.proofs.lemmas.Bool.{false≢true}
use Rattle.imsm_base.specs.Fields.{number_at}
use Rattle.imsm_base.specs.Layout.{Block}
use Rattle.imsm_base.specs.Whole.{IsWholeBlock, IsWholeDisk}
use Rattle.array_model.specs.Blocks.{Laid, Words, SaysAlike, is_container}
use Rattle.block_meaning.specs.Meaning.{bytes_of_laid, ReadsBlocks, SaysBlock}
use Rattle.array_machine.specs.Setting.{Setting}
use Rattle.array_machine.specs.Numbers.{has}
use Rattle.array_machine.specs.Volumes.{volume_at}
use Rattle.array_machine.specs.Rounds.{expects, all_disks}
use Rattle.array_base.specs.Premises.{generation_of}
use Rattle.array_base.specs.Opening.{first_at, counts_out, HoldsContainer, OpensAs}
use Rattle.array_base.proofs.Targets.{has_passes, passes_has}
use Rattle.array_openings.specs.RealDisks.{IsOverRealDisks}
use Rattle.array_openings.specs.Opens.{FindsContainer, opened_volumes, opened_spares, Opens}
use Rattle.array_openings.proofs.Anchors.{anchor_number}
use Rattle.array_openings.proofs.Meets.{meets, form_is}

-- THE SAME BYTES

-- two blocks of the same bytes, whole, and of one generation say alike
same_says : (W : Words) (a m : Laid) (b : Block) → ReadsBlocks W → bytes_of_laid a ≡ bytes_of_laid m
    → IsWholeBlock (bytes_of_laid m) b → W.generation a.anchor ≡ W.generation m.anchor → SaysAlike W a m
same_says W a m b reads same whole generation =
    let one : SaysBlock W a b = reads.says a b (subst (λ (xs : List ℕ). IsWholeBlock xs b) (sym same) whole) in
    let other : SaysBlock W m b = reads.says m b whole in
    record {
      generation = generation;
      family = one.family ∙ sym other.family;
      volumes = one.volumes ∙ sym other.volumes;
      has_record = λ serial. one.has_record serial ∙ sym (other.has_record serial);
      expects = λ serial. one.expects serial ∙ sym (other.expects serial);
      is_supported = λ v. one.is_supported v ∙ sym (other.is_supported v);
      is_dirty = λ v. one.is_dirty v ∙ sym (other.is_dirty v);
      is_unfinished = λ v. one.is_unfinished v ∙ sym (other.is_unfinished v);
      can_run = λ v. one.can_run v ∙ sym (other.can_run v);
      pass = λ v. one.pass v ∙ sym (other.pass v);
      unit = λ v. one.unit v ∙ sym (other.unit v);
      pass_start = λ v. one.pass_start v ∙ sym (other.pass_start v);
      shape = λ v. one.shape v ∙ sym (other.shape v);
      slots = λ v. one.slots v ∙ sym (other.slots v);
    }

whole_too : (W : Words) (a m : Laid) (serial : List ℕ) (n : ℕ) → ReadsBlocks W → bytes_of_laid a ≡ bytes_of_laid m
    → W.is_whole serial n m ≡ true → W.is_whole serial n a ≡ true
whole_too W a m serial n reads same whole =
    let there = (reads.is_whole serial n m).0 whole in
    (reads.is_whole serial n a).1
    (there.0, subst (λ (xs : List ℕ). IsWholeDisk serial n xs there.0) (sym same) there.1)

module _ (S : Setting) (o : IsOverRealDisks S) (f : FindsContainer S) where
  -- COPIES OF THE NEWEST BLOCK

  newest_full : length S.start.newest.anchor.0 ≡ 512
  newest_full = sym (ap (λ (m : Laid). length m.anchor.0) f.stands) ∙ f.full f.disk (S.start.disks.sectors f.disk - 2)

  -- the block that it is
  abbrev Found : Type 0
  Found = (b : Block) × IsWholeBlock (bytes_of_laid S.start.newest) b

  found : Found
  found =
      let there =
      (o.real.reads.is_whole (S.start.disks.serial f.disk) (S.start.disks.sectors f.disk) S.start.newest).0 f.there in
      (there.0, there.1.whole)

  module _ (d : ℕ) (same : bytes_of_laid (first_at S d) ≡ bytes_of_laid S.start.newest) where
    copy_whole : IsWholeBlock (bytes_of_laid (first_at S d)) found.0
    copy_whole = subst (λ (xs : List ℕ). IsWholeBlock xs found.0) (sym same) found.1

    copy_generation : generation_of S (first_at S d) ≡ generation_of S S.start.newest
    copy_generation =
        o.real.reads.generation (first_at S d).anchor
        ∙ anchor_number (first_at S d) found.0 4 44 (f.full d (S.start.disks.sectors d - 2)) copy_whole (omega arith)
        ∙ ap (number_at 4 44) same
        ∙ sym (anchor_number S.start.newest found.0 4 44 newest_full found.1 (omega arith))
        ∙ sym (o.real.reads.generation S.start.newest.anchor)

    copy_container : is_container S.start.words (first_at S d) ≡ true
    copy_container =
        ap (λ (n : ℕ). if n == 0 then false else true)
        ((o.real.reads.says (first_at S d) found.0 copy_whole).volumes
        ∙ sym (o.real.reads.says S.start.newest found.0 found.1).volumes)
        ∙ f.container

  member : (d : ℕ) → expects S S.start.newest d ≡ true → counts_out S d ≡ false → HoldsContainer S d
  member d expected serves =
      let same = f.members d expected serves in
      record {
        whole = whole_too S.start.words (first_at S d) S.start.newest (S.start.disks.serial d) (S.start.disks.sectors d)
            o.real.reads same (f.whole d expected);
        container = copy_container d same;
      }

  alike : (d e : ℕ) → HoldsContainer S d → HoldsContainer S e
      → generation_of S (first_at S d) ≡ generation_of S (first_at S e)
      → SaysAlike S.start.words (first_at S d) (first_at S e)
  alike d e one other equal =
      let there =
      (o.real.reads.is_whole (S.start.disks.serial e) (S.start.disks.sectors e) (first_at S e)).0 other.whole in
      same_says S.start.words (first_at S d) (first_at S e) there.0 o.real.reads (f.copies d e one other equal)
      there.1.whole equal

  -- VOLUMES AND SPARES

  not_started : (v : ℕ) → 2 ≤ v → false ≡ S.start.is_started v
  not_started v past = at (S.start.is_started v) refl
    where
      at : (t : Bool) → S.start.is_started v ≡ t → false ≡ t
      at true is = absurd (let few = o.real.can.few v is in omega (arith, past, few))
      at false is = refl

  volumes_are : (v : ℕ) → OpensAs S v (volume_at (opened_volumes S) v)
  volumes_are zero = record { started = refl; state = refl; sound = refl; pass = refl; slots = refl }
  volumes_are (suc zero) = record { started = refl; state = refl; sound = refl; pass = refl; slots = refl }
  volumes_are (suc (suc v)) = record {
    started = not_started (suc (suc v)) (omega arith);
    state = refl;
    sound = refl;
    pass = refl;
    slots = refl;
  }

  spares_are : (d : ℕ) → has d (opened_spares S) ≡ S.start.is_spare d
  spares_are d = at (S.start.is_spare d) refl (has d (opened_spares S)) refl
    where
      at : (t : Bool) → S.start.is_spare d ≡ t → (u : Bool) → has d (opened_spares S) ≡ u → u ≡ t
      at true spare true there = refl
      at true spare false none =
          let below = f.spares d spare in
          absurd (false≢true (sym none
          ∙ passes_has S.start.is_spare 0 S.start.disks.count d (omega arith) (omega (arith, below)) spare))
      at false other true there =
          absurd (false≢true (sym other ∙ has_passes S.start.is_spare (all_disks S) d there))
      at false other false none = refl

  pub opens : Opens S
  opens = (
    meets S o,
    record {
      newest = record {
        form = form_is S o S.start.newest ∙ o.newest;
        container = f.container;
        shape = λ v. refl;
        whole = f.whole;
      };
      disk = f.disk;
      there = record {
        whole =
            ap (S.start.words.is_whole (S.start.disks.serial f.disk) (S.start.disks.sectors f.disk)) f.stands ∙ f.there;
        container = ap (is_container S.start.words) f.stands ∙ f.container;
      };
      stands = f.stands;
      members = member;
      level = λ d expected serves. copy_generation d (f.members d expected serves);
      alike = alike;
      top = f.top;
      volumes_are = volumes_are;
      spares_are = spares_are;
    },
  )
