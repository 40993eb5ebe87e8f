-- An edited block is whole where it was whole and its disk is expected, and on a disk that was activated.
use Rattle.std.proofs.Common.{◌≡◌, ◌≢◌, ℕ, ◌+◌, ◌≤◌, ◌<◌, if◌then◌else◌, Bool, true, false, List, length, Option, Some, refl, sym, ◌∙◌, ap, subst, inl, inr, arith}
use Rattle.std.specs.Option.{option_map_or, IsSomeAnd}
use Rattle.std.specs.Str.{bytes_eq}
use Rattle.std.proofs.lemmas.Bool.{and_parts, or_cases}
use Rattle.imsm_base.specs.Fields.{Part, number_at}
use Rattle.imsm_base.specs.Layout.{Block, Volume, total_blocks_of}
use Rattle.imsm_base.specs.Volumes.{is_expected_at}
use Rattle.imsm_base.specs.Whole.{IsWholeDisk, own_record}
use Rattle.imsm_base.specs.EditsOfTables.{block_with_disk}
use Rattle.imsm_base.specs.Edits.{block_sealed}
use Rattle.imsm_base.proofs.Joined.{spelled_once}
use Rattle.units.specs.declared.bounds.TheConstants.{METADATA_SECTORS}
use Rattle.imsm_view.proofs.Members.{find_least}
use Rattle.array_model.specs.Blocks.{Laid, sector_eq}
use Rattle.array_model.specs.Start.{Disks, Start}
use Rattle.block_meaning.specs.Meaning.{bytes_of_laid}
use Rattle.block_meaning.specs.Reading.{parts_of}
use Rattle.array_machine.specs.Setting.{Facts, Edit, TakesGeneration, FailsDisk, CountsOut, MakesDirty, MakesClean, RecordsUnit, ClosesPass, StartsVolume, ActivatesDisk, RemovesDisk, NamesVolume, Setting}
use Rattle.array_machine.specs.EditWords.{expects_after, IsApt}
use Rattle.array_edits.specs.Records.{activated_record, slots_given}
use Rattle.array_edits.specs.RealEdits.{sectors_of, block_edited}
use Rattle.array_edits.specs.Formed.{is_formed}
use Rattle.array_edits.specs.RealSettings.{IsReal, HasOwnSerials, IsWholeOnExpected, HasMetadataSectors}
use Rattle.array_edits.proofs.Sound.{IsGood}
use Rattle.array_edits.proofs.Disks.{serial_eq, eq_serial, ne_serial}
use Rattle.array_edits.proofs.Added.{new_expected, added_speaks}
use Rattle.array_edits.proofs.Spares.{HasRoom}
use Rattle.array_edits.proofs.Meant.{good, Edited, edited, says_edited, room_for, expects_edited, few_sectors}

-- WHERE IT WAS WHOLE

pub whole_stays : (S : Setting) (f : Facts) (m : Laid) (e : Edit) (serial : List ℕ) (n : ℕ) → IsReal S → is_formed S.start m ≡ true → IsApt S m e → S.start.words.expects (S.edit f m e) serial ≡ true →
    S.start.words.is_whole serial n m ≡ true → S.start.words.is_whole serial n (S.edit f m e) ≡ true
whole_stays S f m e serial n r formed apt expected whole =
    let b : Block = parts_of m in
    let g : IsGood S.start m = good S m r formed in
    let d : Edited S f m e = edited S f m e r formed apt in
    let old = (r.reads.is_whole serial n m).0 whole in
    let same : old.0 ≡ b = spelled_once (bytes_of_laid m) old.0 b old.1.whole.spells g.whole.spells in
    let here : IsWholeDisk serial n (bytes_of_laid m) b = subst (IsWholeDisk serial n (bytes_of_laid m)) same old.1 in
    (r.reads.is_whole serial n (S.edit f m e)).1 (
      block_sealed (block_edited S.start f b e) d.laid.size d.laid.sum,
      record { enough = here.enough; whole = d.laid.whole; own_fits = d.means.own serial n (sym ((says_edited S f m e r d).expects serial) ∙ expected) here.own_fits },
    )

-- ON AN ACTIVATED DISK

total_le : (serial : List ℕ) (n : ℕ) → total_blocks_of (activated_record serial n) ≤ n
total_le serial n = omega arith

-- the sectors of a disk whose serial is its own
found_sectors : (S : Setting) (d : ℕ) → HasOwnSerials S → d < S.start.disks.count → sectors_of S.start.disks (S.start.disks.serial d) ≡ S.start.disks.sectors d
found_sectors S d own below =
    let disks : Disks = S.start.disks in
    ap (λ (o : Option ℕ). option_map_or disks.sectors o 0)
    (find_least (λ e. bytes_eq (disks.serial e) (disks.serial d)) disks.count d below (eq_serial (disks.serial d) (disks.serial d) refl)
    (λ e before. ne_serial (disks.serial e) (disks.serial d) (λ same. let e_is : e ≡ d = own e d (omega arith) below same in omega arith)))

pub activated_whole : (S : Setting) (f : Facts) (m : Laid) (s : List ℕ) (i d : ℕ) → IsReal S → HasOwnSerials S → is_formed S.start m ≡ true → IsApt S m (ActivatesDisk s i) → d < S.start.disks.count → s ≡ S.start.disks.serial d →
    METADATA_SECTORS ≤ S.start.disks.sectors d → S.start.words.is_whole s (S.start.disks.sectors d) (S.edit f m (ActivatesDisk s i)) ≡ true
activated_whole S f m s i d r own formed apt below is room =
    let b : Block = parts_of m in
    let n : ℕ = sectors_of S.start.disks s in
    let disk : Part = activated_record s n in
    let t : Edited S f m (ActivatesDisk s i) = edited S f m (ActivatesDisk s i) r formed apt in
    let can : HasRoom b disk = room_for S m s r formed apt.0 apt.1 apt.2 in
    let same : n ≡ S.start.disks.sectors d = ap (sectors_of S.start.disks) is ∙ found_sectors S d own below in
    let speaks : own_record s (block_with_disk b disk) ≡ Some disk = added_speaks b disk (new_expected s n) can.unknown in
    let fits : total_blocks_of disk ≤ S.start.disks.sectors d = omega (arith, total_le s n) in
    (r.reads.is_whole s (S.start.disks.sectors d) (S.edit f m (ActivatesDisk s i))).1 (
      block_sealed (block_edited S.start f b (ActivatesDisk s i)) t.laid.size t.laid.sum,
      record {
        enough = room;
        whole = t.laid.whole;
        own_fits = subst (λ (o : Option Part). IsSomeAnd o (λ x. total_blocks_of x ≤ S.start.disks.sectors d)) (sym (own_same S.start f b s i disk refl ∙ speaks)) fits;
      },
    )
  where
    -- which slots it takes doesn't change the table
    own_by : (b : Block) (vs : List Volume) (disk : Part) (t : Bool) → (if t then block_with_disk b disk else record (block_with_disk b disk) { volumes = vs }).disks ≡ (block_with_disk b disk).disks
    own_by b vs disk true = refl
    own_by b vs disk false = refl

    own_same : (start : Start) (f : Facts) (b : Block) (s : List ℕ) (i : ℕ) (disk : Part) → disk ≡ activated_record s (sectors_of start.disks s) → own_record s (block_edited start f b (ActivatesDisk s i)) ≡ own_record s (block_with_disk b disk)
    own_same start f b s i disk e =
        ap (λ (ds : List Part). own_record s (record b { disks = ds })) (own_by b (slots_given start.is_started f.is_broken i (length b.disks) (activated_record s (sectors_of start.disks s)) (block_with_disk b (activated_record s (sectors_of start.disks s)))).volumes (activated_record s (sectors_of start.disks s)) (is_expected_at b i))
        ∙ ap (λ (x : Part). own_record s (block_with_disk b x)) (sym e)

-- ALL DISKS

-- a disk that was expected, or is activated
kept_whole : (S : Setting) (f : Facts) (m : Laid) (e : Edit) (d : ℕ) → IsReal S → is_formed S.start m ≡ true → IsApt S m e → IsWholeOnExpected S m → d < S.start.disks.count → S.start.words.expects (S.edit f m e) (S.start.disks.serial d) ≡ true →
    S.start.words.expects m (S.start.disks.serial d) ≡ true → S.start.words.is_whole (S.start.disks.serial d) (S.start.disks.sectors d) (S.edit f m e) ≡ true
kept_whole S f m e d r formed apt all below expected before = whole_stays S f m e (S.start.disks.serial d) (S.start.disks.sectors d) r formed apt expected (all d below before)

-- what is expected after the edit
after : (S : Setting) (f : Facts) (m : Laid) (e : Edit) (serial : List ℕ) → IsReal S → is_formed S.start m ≡ true → IsApt S m e → S.start.words.expects (S.edit f m e) serial ≡ true → expects_after e serial (S.start.words.expects m serial) ≡ true
after S f m e serial r formed apt expected = sym (expects_edited S f m e serial r formed apt) ∙ expected

pub stays_whole : (S : Setting) (f : Facts) (m : Laid) (e : Edit) → IsReal S → HasOwnSerials S → is_formed S.start m ≡ true → IsApt S m e → HasMetadataSectors S e → IsWholeOnExpected S m → IsWholeOnExpected S (S.edit f m e)
stays_whole S f m (TakesGeneration g) r own formed apt room all d below expected = kept_whole S f m (TakesGeneration g) d r formed apt all below expected (after S f m (TakesGeneration g) _ r formed apt expected)
stays_whole S f m (FailsDisk s) r own formed apt room all d below expected =
    kept_whole S f m (FailsDisk s) d r formed apt all below expected (and_parts _ _ (after S f m (FailsDisk s) (S.start.disks.serial d) r formed apt expected)).1
stays_whole S f m (CountsOut s) r own formed apt room all d below expected = kept_whole S f m (CountsOut s) d r formed apt all below expected (after S f m (CountsOut s) _ r formed apt expected)
stays_whole S f m (MakesDirty v) r own formed apt room all d below expected = kept_whole S f m (MakesDirty v) d r formed apt all below expected (after S f m (MakesDirty v) _ r formed apt expected)
stays_whole S f m (MakesClean v) r own formed apt room all d below expected = kept_whole S f m (MakesClean v) d r formed apt all below expected (after S f m (MakesClean v) _ r formed apt expected)
stays_whole S f m (RecordsUnit v u) r own formed apt room all d below expected = kept_whole S f m (RecordsUnit v u) d r formed apt all below expected (after S f m (RecordsUnit v u) _ r formed apt expected)
stays_whole S f m (ClosesPass v) r own formed apt room all d below expected = kept_whole S f m (ClosesPass v) d r formed apt all below expected (after S f m (ClosesPass v) _ r formed apt expected)
stays_whole S f m (StartsVolume v) r own formed apt room all d below expected = kept_whole S f m (StartsVolume v) d r formed apt all below expected (after S f m (StartsVolume v) _ r formed apt expected)
stays_whole S f m (RemovesDisk s) r own formed apt room all d below expected = kept_whole S f m (RemovesDisk s) d r formed apt all below expected (after S f m (RemovesDisk s) _ r formed apt expected)
stays_whole S f m (NamesVolume v name) r own formed apt room all d below expected = kept_whole S f m (NamesVolume v name) d r formed apt all below expected (after S f m (NamesVolume v name) _ r formed apt expected)
stays_whole S f m (ActivatesDisk s i) r own formed apt room all d below expected =
    let serial : List ℕ = S.start.disks.serial d in
    elim (or_cases (bytes_eq s serial) (S.start.words.expects m serial) (after S f m (ActivatesDisk s i) serial r formed apt expected)) [
      | inl new ↦
          let is : s ≡ serial = serial_eq s serial new in
          subst (λ (x : List ℕ). S.start.words.is_whole x (S.start.disks.sectors d) (S.edit f m (ActivatesDisk s i)) ≡ true) is
          (activated_whole S f m s i d r own formed apt below is (room d below is))
      | inr old ↦ kept_whole S f m (ActivatesDisk s i) d r formed apt all below expected old
    ]

-- SECTORS

-- a block of the form has the sectors that belong to its anchor, and they have their place on a disk
pub placed : (S : Setting) (m : Laid) → IsReal S → is_formed S.start m ≡ true → (S.start.words.extra m.anchor ≡ length m.extended) × (length m.extended + 2 ≤ METADATA_SECTORS)
placed S m r formed =
    let g : IsGood S.start m = good S m r formed in
    (r.reads.extra m.anchor ∙ g.placed, few_sectors S.start m g)

-- anchors of two generations differ
pub anchors_differ : (S : Setting) (m n : Laid) → IsReal S → S.start.words.generation m.anchor ≢ S.start.words.generation n.anchor → sector_eq m.anchor n.anchor ≡ false
anchors_differ S m n r other =
    ne_serial m.anchor.0 n.anchor.0 (λ same. other (r.reads.generation m.anchor ∙ ap (number_at 4 44) same ∙ sym (r.reads.generation n.anchor)))
