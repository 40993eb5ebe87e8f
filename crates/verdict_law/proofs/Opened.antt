-- A Ready verdict of what stands on sound images opens by the newest block, and keeps.
use Rattle.std.proofs.Common.{◌≡◌, ◌≤◌, ◌&&◌, ◌||◌, ℕ, Bool, true, false, cond, List, [], ◌∷◌, map, filter, find, bytes_eq, Option, Some, inl, inr, refl, sym, ◌∙◌, ap, subst}
use Rattle.std.specs.Prelude.{All}
use Rattle.std.proofs.lemmas.List.Elements.{All-contains}
use Rattle.generation_pick.specs.Found.{family_at}
use Rattle.std.specs.Option.{IsSomeAnd}
use Rattle.std.proofs.lemmas.Slice.Eq.{bytes_eq-Decides}
use Rattle.units.specs.declared.disk.Sector.{Sector}
use Rattle.imsm_base.specs.Fields.{Part}
use Rattle.imsm_base.specs.Layout.{serial_of, total_blocks_of}
use Rattle.imsm_base.specs.Parts.{block_in}
use Rattle.imsm_base.specs.Whole.{IsWholeBlock, IsWholeDisk, first_of, is_expected}
use Rattle.imsm_buffer.specs.Buffer.{Buffer}
use Rattle.imsm_codec.proofs.Found.{volumes_counted}
use Rattle.array_model.specs.Blocks.{Laid, Words}
use Rattle.block_meaning.specs.Meaning.{ReadsBlocks, SaysBlock, bytes_of_laid, has_serial}
use Rattle.generation_pick.specs.declared.found.Pick.{Pick}
use Rattle.container.specs.declared.missing.Missing.{Missing}
use Rattle.container.specs.declared.seen.Seen.{Seen}
use Rattle.container.specs.declared.verdict.Opening.{Opening}
use Rattle.container.specs.declared.verdict.Verdict.TheVariants.{Ready}
use Rattle.container.specs.Lacking.{AreMissing, IsGood, IsServed}
use Rattle.container.specs.Seen.{HasDisk}
use Rattle.container.specs.Verdicts.{IsNewest, IsOpening, IsReady, IsVerdict}
use Rattle.sound_images.specs.Images.{AreAmong, Image, IsComplete, block_on}
use Rattle.sound_images.specs.Keeps.{AreLargeEnough, Keeps, Opens}
use Rattle.sound_images.specs.Sound.{SoundImages}
use Rattle.sound_images.proofs.Meaning.{words_agree}
use Rattle.sound_images.proofs.Serials.{one_disk}
use Rattle.keep_law.proofs.Law.{keeps}
use Rattle.verdict_law.specs.OnImages.{AreSeenOn, IsSeenOn, SaysBlockOf}
use Rattle.verdict_law.proofs.Entries.{entry_of, image_of_newest, laid, laid_bytes, laid_generation, laid_held, newest_of, one_container}
use Rattle.verdict_law.proofs.Held.{IsOnImage, container_seen, held_with, image_of, says}
use Rattle.verdict_law.proofs.Volumes.{each_is, says_then_starts, starts_then_says}

-- SERVED RECORDS

module _ (seen : List Seen) (serial : List ℕ) where
  -- an expected record that is served has its disk
  served_has : (d : Part) → is_expected d ≡ true → serial_of d ≡ serial → IsServed seen d → HasDisk seen serial (IsGood d)
  served_has d expected same (inl out) = absurd (cc (expected, out))
  served_has d expected same (inr has) = subst (λ (l : List ℕ). HasDisk seen l (IsGood d)) same has

  -- the first expected record with a serial that is expected, and its disk
  pub record IsServedBy (disks : List Part) : Type 0 where
    pub record_of : Part
    pub found : find (λ d. is_expected d && bytes_eq (serial_of d) serial) disks ≡ Some record_of
    pub has : HasDisk seen serial (IsGood record_of)

  abbrev test : Part → Bool
  test d = is_expected d && bytes_eq (serial_of d) serial

  further : (d : Part) (disks : List Part) → test d ≡ false → IsServedBy disks → IsServedBy (d ∷ disks)
  further d disks out more = record {
    record_of = more.record_of;
    found = ap (λ (t : Bool). cond t (Some d) (find test disks)) out ∙ more.found;
    has = more.has;
  }

  pub served_by : (disks : List Part) → AreMissing seen disks [] → has_serial (map serial_of (filter is_expected disks)) serial ≡ true → IsServedBy disks
  served_by [] none has = absurd (cc has)
  served_by (d ∷ disks) none has = at (is_expected d) (bytes_eq (serial_of d) serial) refl refl has (λ has. served_by disks none.1 has)
    where
      at : (e q : Bool) → is_expected d ≡ e → bytes_eq (serial_of d) serial ≡ q
          → has_serial (map serial_of (cond e (d ∷ filter is_expected disks) (filter is_expected disks))) serial ≡ true
          → (has_serial (map serial_of (filter is_expected disks)) serial ≡ true → IsServedBy disks) → IsServedBy (d ∷ disks)
      at true true expected named has more = record {
        record_of = d;
        found = rw (expected, named) refl;
        has = served_has d expected ((bytes_eq-Decides (serial_of d) serial).0 named) none.0;
      }
      at true false expected named has more =
          further d disks (ap (λ (t : Bool). t && bytes_eq (serial_of d) serial) expected ∙ named)
          (more (sym (ap (λ (t : Bool). t || has_serial (map serial_of (filter is_expected disks)) serial) named) ∙ has))
      at false q expected named has more = further d disks (ap (λ (t : Bool). t && bytes_eq (serial_of d) serial) expected) (more has)

first_fits : (o p : Option Part) (d : Part) (P : Part → Type 0) → o ≡ Some d → P d → IsSomeAnd (first_of o p) P
first_fits o p d P is holds = subst (λ (x : Option Part). IsSomeAnd (first_of x p) P) (sym is) holds

-- THE OPENING

module _ (W : Words) (reads : ReadsBlocks W) (images present : List Image) (content : ℕ → ℕ → Sector) (unsure : ℕ → ℕ → Bool) (mark : ℕ)
    (sound : SoundImages W bytes_of_laid images content unsure mark) (among : AreAmong present images)
    (seen : List Seen) (on : AreSeenOn present seen) where
  module _ (p : Pick) (bytes : List ℕ) (n : IsNewest seen p bytes) (none : AreMissing seen (block_in bytes).disks []) where
    abbrev image : IsOnImage present bytes
    image = image_of_newest W reads present seen on p bytes n

    abbrev m : Laid
    m = laid W reads present seen on bytes image

    whole : IsWholeBlock bytes (block_in bytes)
    whole = subst (λ (b : List ℕ). IsWholeBlock b (block_in b)) image.same image.holds.whole.whole

    same : bytes_of_laid m ≡ bytes
    same = laid_bytes W reads present seen on bytes image

    words : SaysBlock W m (block_in bytes)
    words = says W reads m bytes same whole

    -- the disk of an expected serial
    disk_of : (serial : List ℕ) → W.expects m serial ≡ true → IsServedBy seen serial (block_in bytes).disks
    disk_of serial expected = served_by seen serial (block_in bytes).disks none (sym (words.expects serial) ∙ expected)

    complete : IsComplete W present m
    complete serial expected =
        let served = disk_of serial expected in
        let s = served.has.disk in
        let i = image_of present seen on s served.has.there in
        let held = held_with W reads present i.0 i.1 (container_seen i.0 s i.2 served.has.holds.container) in
        (block_on W i.0, record { held = held.held; same = held.same ∙ sym i.2.serial ∙ served.has.named })

    large : AreLargeEnough W present m
    large i there expected =
        let served = disk_of i.serial expected in
        let s = served.has.disk in
        let j = image_of present seen on s served.has.there in
        let one : j.0 ≡ i = one_disk images j.0 i sound.serials (among j.0 j.1) (among i there) (sym j.2.serial ∙ served.has.named) in
        let on_i : IsSeenOn i s = subst (λ (x : Image). IsSeenOn x s) one j.2 in
        let holds = container_seen i s on_i served.has.holds.container in
        let whole_disk : IsWholeDisk i.serial i.sectors bytes (block_in bytes) = record {
          enough = holds.whole.enough;
          whole = whole;
          own_fits = first_fits _ _ served.record_of (λ d. total_blocks_of d ≤ i.sectors) served.found (subst (λ (k : ℕ). total_blocks_of served.record_of ≤ k) on_i.sectors served.has.holds.large);
        } in
        (reads.is_whole i.serial i.sectors m).1 (block_in bytes, subst (λ (b : List ℕ). IsWholeDisk i.serial i.sectors b (block_in bytes)) (sym same) whole_disk)

    opens : Opens W bytes_of_laid present m
    opens = record {
      one_container = one_container W reads present seen on n.entries n.are n.picked.one_family n.picked.apart;
      newest = newest_of W reads present seen on p bytes n;
      complete = complete;
      large = large;
    }

    says_block : (o : Opening) → IsOpening bytes p seen [] o → p.family ≡ W.family m → SaysBlockOf W m o
    says_block o opening family = record {
      bytes = ap (λ (x : Buffer). x.bytes) opening.book ∙ sym same;
      family = opening.family ∙ family;
      generation = opening.generation ∙ sym (laid_generation W reads present seen on bytes image ∙ n.generation);
      count = opening.volumes.count ∙ sym (volumes_counted bytes) ∙ sym words.volumes;
      each = each_is W m bytes words o opening.volumes;
      starts = λ v pass. (says_then_starts W m bytes words o opening.volumes v pass, starts_then_says W m bytes words o opening.volumes v pass);
    }

    family_is : p.family ≡ W.family m
    family_is =
        let entry = entry_of W reads present seen on n.entries n.are m (laid_held W reads present seen on bytes image) in
        sym n.picked.newest.family
        ∙ All-contains (λ g. family_at n.picked.newest.found ≡ family_at g) n.entries entry.entry
        (All-contains (λ f. All (λ g. family_at f ≡ family_at g) n.entries) n.entries n.picked.newest.found n.picked.one_family n.picked.newest.there) entry.there
        ∙ entry.family

    pub ready_keeps : (o : Opening) → IsOpening bytes p seen [] o
        → (m : Laid) × Opens W bytes_of_laid present m × Keeps W images present content unsure mark m × SaysBlockOf W m o
    ready_keeps o opening = (
      m,
      opens,
      keeps W bytes_of_laid images present content unsure mark m (words_agree W reads) sound among opens,
      says_block o opening family_is,
    )

  by_verdict : (o : Opening) → IsVerdict seen false (Ready o)
      → (m : Laid) × Opens W bytes_of_laid present m × Keeps W images present content unsure mark m × SaysBlockOf W m o
  by_verdict o (inl (fault, refused, is)) = absurd (cc is)
  by_verdict o (inr by) = at by.missing by.says.1 by.lack by.says.2
    where
      at : (missing : List Missing) → IsReady false missing o.volumes.items → AreMissing seen (block_in by.bytes).disks missing → IsOpening by.bytes by.pick seen missing o
          → (m : Laid) × Opens W bytes_of_laid present m × Keeps W images present content unsure mark m × SaysBlockOf W m o
      at missing (inl none) lack opening =
          ready_keeps by.pick by.bytes by.newest (subst (AreMissing seen (block_in by.bytes).disks) none lack) o (subst (λ (l : List Missing). IsOpening by.bytes by.pick seen l o) none opening)
      at missing (inr (asked, started)) lack opening = absurd (cc asked)

pub verdict_keeps : (W : Words) (images present : List Image) (content : ℕ → ℕ → Sector) (unsure : ℕ → ℕ → Bool) (mark : ℕ) (seen : List Seen) (o : Opening) → ReadsBlocks W
    → SoundImages W bytes_of_laid images content unsure mark → AreAmong present images → AreSeenOn present seen → IsVerdict seen false (Ready o)
    → (m : Laid) × Opens W bytes_of_laid present m × Keeps W images present content unsure mark m × SaysBlockOf W m o
verdict_keeps W images present content unsure mark seen o reads sound among on verdict = by_verdict W reads images present content unsure mark sound among seen on o verdict
