-- A disk that fails isn't expected any more and is out of sync; one that counts out is out of sync.
use Rattle.std.proofs.Common.{◌≡◌, ℕ, ◌<◌, ◌==◌, ◌&&◌, ◌||◌, not, if◌then◌else◌, Bool, true, false, List, [], length, map, get_or, Option, Some, None, refl, sym, ◌∙◌, ap, subst, inl, inr, ◌⊎◌}
use Rattle.std.specs.Prelude.{is_none, slice_get}
use Rattle.std.specs.Option.{option_map_or}
use Rattle.std.specs.Str.{bytes_eq}
use Rattle.std.proofs.lemmas.Bool.{and_from, cases_lt, eqb-true, eqb-false, ne_eqb, false≢true, false_from_ne_true}
use Rattle.imsm_base.specs.Layout.{Block, Volume, IsVolume, serial_of, member_count_of}
use Rattle.imsm_base.specs.Volumes.{Fault, Member, first_map, member, members, is_expected_at, is_dirty, volume_fault, has_pass, pass_of}
use Rattle.imsm_base.specs.Whole.{AreApart, is_expected, expected_serials}
use Rattle.imsm_codec.specs.Mpb.{volume_at}
use Rattle.imsm_edit.specs.declared.facts.EditFacts.{EditFacts}
use Rattle.imsm_edit.specs.Meanings.{is_told}
use Rattle.imsm_edit.specs.Failures.{record_failed, without_member, settled, volume_failed, marked_failed}
use Rattle.array_model.specs.Start.{Start}
use Rattle.block_meaning.specs.Meaning.{has_serial, slot_words}
use Rattle.array_machine.specs.Setting.{Facts, FailsDisk, CountsOut}
use Rattle.array_machine.specs.EditWords.{LosesSlot, OutOfSlot, SlotsAfter, NeedsNoRebuild, HasNoPass}
use Rattle.array_edits.specs.Records.{expected_index}
use Rattle.array_edits.specs.Passes.{settled_out, volume_out, marked_out}
use Rattle.array_edits.specs.RealEdits.{facts_in, block_edited}
use Rattle.array_edits.proofs.Steady.{IsAlike, Steady}
use Rattle.array_edits.proofs.Steps.{if_either}
use Rattle.array_edits.proofs.Supports.{any_none}
use Rattle.array_edits.proofs.Moves.{IsServed}
use Rattle.array_edits.proofs.Sound.{IsSound, volumes_stay}
use Rattle.array_edits.proofs.Slots.{slots_by}
use Rattle.array_edits.proofs.Means.{Means}
use Rattle.array_edits.proofs.Marks.{volume_is}
use Rattle.array_edits.proofs.Disks.{serial_eq, expects_serial, has_expected, no_position, IsRecord, index_record, record_at, record_past, serial_at, eq_serial, other_serial}
use Rattle.array_edits.proofs.Lost.{lost_fails_at, lost_serial, lost_sectors, lost_expected, lost_disks, lost_count, lost_apart, lost_expects, lost_own}
use Rattle.array_edits.proofs.Wide.{alike_in, none_from, without_steady, without_index, without_out, Settles, settles_itself, settles_failed, settles_out, failed_idle, out_idle}
use Rattle.array_edits.proofs.Spread.{Stays, stays_itself, stays_without, stays_settled, Spreads, spread_at, spread_steady, spread_served, spread_sound}
use Rattle.std.specs.List.{AllByRecursion}
use Rattle.imsm_edit.specs.Passes.{has_to_rebuild}
use Rattle.array_edits.proofs.Idle.{words_of, pass_none, whole_words}
use Rattle.array_edits.proofs.Starts.{rebuilds_none}

-- WITHOUT A RECORD

-- no slot of an expected disk has the serial, where no record that is expected has it
none_here : (serial : List ℕ) (b : Block) → expected_index serial b ≡ None → (j : ℕ) → (not (bytes_eq serial (serial_at b j)) && is_expected_at b j) ≡ is_expected_at b j
none_here serial b none j = by_serial (bytes_eq serial (serial_at b j)) refl
  where
    by_serial : (t : Bool) → bytes_eq serial (serial_at b j) ≡ t → (not t && is_expected_at b j) ≡ is_expected_at b j
    by_serial false e = refl
    by_serial true e = sym (elim (cases_lt j (length b.disks)) [
      | inr past ↦ record_past is_expected false b j past
      | inl below ↦ false_from_ne_true (is_expected_at b j) (λ expected.
          false≢true (sym (no_position (expects_serial serial) b.disks j [] none below)
          ∙ and_from _ _ (sym (record_at is_expected false b j below) ∙ expected) (eq_serial _ _ (sym (record_at serial_of [] b j below) ∙ sym (serial_eq serial (serial_at b j) e)))))
    ])

none_expects : (serial other : List ℕ) (b : Block) → expected_index serial b ≡ None → has_serial (expected_serials b) other ≡ (not (bytes_eq serial other) && has_serial (expected_serials b) other)
none_expects serial other b none = by_serial (bytes_eq serial other) refl
  where
    by_serial : (t : Bool) → bytes_eq serial other ≡ t → has_serial (expected_serials b) other ≡ (not t && has_serial (expected_serials b) other)
    by_serial false e = refl
    by_serial true e =
        has_expected b.disks other
        ∙ any_none (expects_serial other) b.disks (λ k d below. ap (λ (x : List ℕ). expects_serial x (get_or b.disks k d)) (sym (serial_eq serial other e)) ∙ no_position (expects_serial serial) b.disks k d none below)

-- THE WORDS OF A SLOT

sync_lost : (equal out now before after : Bool) → after ≡ (not equal && before) → (after ≡ true → now ≡ out) → (not now && after) ≡ (not equal && (not out && before))
sync_lost true out now before after e same = ap (λ (t : Bool). not now && t) e ∙ and_false (not now)
  where
    and_false : (t : Bool) → (t && false) ≡ false
    and_false true = refl
    and_false false = refl
sync_lost false out now true after e same = ap (λ (t : Bool). not t && after) (same e) ∙ ap (λ (t : Bool). not out && t) e
sync_lost false out now false after e same = ap (λ (t : Bool). not now && t) e ∙ and_false (not now) ∙ sym (and_false (not out))
  where
    and_false : (t : Bool) → (t && false) ≡ false
    and_false true = refl
    and_false false = refl

-- a slot whose disk may have failed
loses : (serial : List ℕ) (b c : Block) (m n : Member) → n.index ≡ m.index → serial_at c m.index ≡ serial_at b m.index →
    is_expected_at c m.index ≡ (not (bytes_eq serial (serial_at b m.index)) && is_expected_at b m.index) → (is_expected_at c m.index ≡ true → n.is_out ≡ m.is_out) →
    LosesSlot serial (slot_words b m) (slot_words c n)
loses serial b c m n index same expected out = record {
  serial = ap (serial_at c) index ∙ same;
  expected = ap (is_expected_at c) index ∙ expected;
  in_sync = ap (λ (i : ℕ). not n.is_out && is_expected_at c i) index
      ∙ sync_lost (bytes_eq serial (serial_at b m.index)) m.is_out n.is_out (is_expected_at b m.index) (is_expected_at c m.index) expected out;
}

-- a slot whose disk may count out
sync_out : (here equal out now expected : Bool) → now ≡ (here || out) → (here ≡ true → equal ≡ true) → (here ≡ false → (not equal && expected) ≡ expected) →
    (not now && expected) ≡ (not equal && (not out && expected))
sync_out true equal out now expected e first second = ap (λ (t : Bool). not t && expected) e ∙ sym (ap (λ (t : Bool). not t && (not out && expected)) (first refl))
sync_out false true out now expected e first second =
    ap (λ (t : Bool). not now && t) (sym (second refl)) ∙ and_false (not now)
  where
    and_false : (t : Bool) → (t && false) ≡ false
    and_false true = refl
    and_false false = refl
sync_out false false out now expected e first second = ap (λ (t : Bool). not t && expected) e

-- EACH VOLUME

-- an edit of the volumes that are supported
edited_stay : (b r : Block) (started : Bool) (i k : ℕ) (v : Volume) (after : Volume → Volume) → IsVolume v → (IsAlike (without_member i v) → Settles r (without_member i v) (after (without_member i v))) →
    Stays v (if is_none (volume_fault b k v) then (if started then after (without_member i v) else without_member i v) else v)
edited_stay b r started i k v after is settles =
    let w : Volume = without_member i v in
    if_either (Stays v) (is_none (volume_fault b k v)) (if started then after w else w) v
    (λ fine. if_either (Stays v) started (after w) w
    (λ e. stays_settled r v w (after w) (stays_without i v is) (settles ((without_steady i v is).alike (alike_in b k v (none_from (volume_fault b k v) fine)))))
    (λ e. stays_without i v is))
    (λ e. stays_itself v is)

-- of a supported one
pub edited_served : (b : Block) (started : Bool) (k : ℕ) (v after less : Volume) → volume_fault b k v ≡ None →
    (if is_none (volume_fault b k v) then (if started then after else less) else v) ≡ (if started then after else less)
edited_served b started k v after less none =
    ap (λ (o : Option Fault). if is_none o then (if started then after else less) else v) none

-- one that isn't started keeps its pass and its states
settles_started : (b : Block) (started : Bool) (v x : Volume) → IsVolume v → Settles b v x → Settles b v (if started then x else v)
settles_started b true v x is t = t
settles_started b false v x is t = settles_itself b v is

-- A DISK THAT FAILS

abbrev pub failed_by : Start → Facts → Block → ℕ → ℕ → Volume → Volume
failed_by start f b i k v = if is_none (volume_fault b k v) then volume_failed (record_failed b i) i (facts_in start f b) k v else v

pub failed_spreads : (start : Start) (f : Facts) (b : Block) (serial : List ℕ) (i : ℕ) → IsSound start b → IsRecord serial b i → Spreads b (marked_failed b i (facts_in start f b)) (failed_by start f b i)
failed_spreads start f b serial i s r = record {
  header = refl;
  gap = refl;
  tail = refl;
  disks = lost_disks b i s.is r.below;
  count = lost_count b i;
  volumes = refl;
  stay = λ k below.
      let v : Volume = volume_at k b in
      let broken : Bool = is_told (facts_in start f b).broken.items k in
      let is : IsVolume v = volume_is start b k s below in
      edited_stay b (record_failed b i) (is_told (facts_in start f b).started.items k) i k v (settled (record_failed b i) broken) is
      (λ like. settles_failed (record_failed b i) broken (without_member i v) (without_steady i v is).is like);
}

failed_slots : (start : Start) (f : Facts) (b : Block) (serial : List ℕ) (i k : ℕ) → IsSound start b → IsRecord serial b i → IsServed b k →
    let c = marked_failed b i (facts_in start f b) in
    SlotsAfter f (FailsDisk serial) k (map (slot_words b) (members (volume_at k b))) (map (slot_words c) (members (volume_at k c)))
failed_slots start f b serial i k s r served =
    let facts : EditFacts = facts_in start f b in
    let c : Block = marked_failed b i facts in
    let q : Block = record_failed b i in
    let v : Volume = volume_at k b in
    let w : Volume = without_member i v in
    let broken : Bool = is_told facts.broken.items k in
    let started : Bool = is_told facts.started.items k in
    let x : Volume = if started then settled q broken w else w in
    let is : IsVolume v = volume_is start b k s served.below in
    let less : Steady v w = without_steady i v is in
    let t : Settles q w x = settles_started q started w (settled q broken w) less.is
    (settles_failed q broken w less.is (less.alike (alike_in b k v served.supported))) in
    let at : volume_at k c ≡ x = spread_at b c (failed_by start f b i) k (failed_spreads start f b serial i s r) served.below
    ∙ edited_served b started k v (settled q broken w) w served.supported in
    let each : (n : ℕ) → n < member_count_of (first_map v) → LosesSlot serial (slot_words b (member v n)) (slot_words c (member x n)) = λ n inside.
    let within : n < member_count_of (first_map w) = subst (λ (z : ℕ). n < z) (sym less.first.count) inside in
    let index : (member w n).index ≡ (member v n).index = without_index i v n is inside in
    loses serial b c (member v n) (member x n) (t.index n within ∙ index) (lost_serial b i (member v n).index r.below) (lost_expected serial b i (member v n).index s.is s.apart r)
    (λ expected. t.out n within (ap (is_expected_at q) index ∙ expected) ∙ without_out i v n is inside
    ∙ ap (λ (u : Bool). u || (member v n).is_out)
    (ne_eqb (member v n).index i (λ same. false≢true (sym (lost_fails_at b i s.is r.below) ∙ ap (is_expected_at q) (sym same) ∙ expected)))) in
    subst (λ (y : Volume). SlotsAfter f (FailsDisk serial) k (map (slot_words b) (members v)) (map (slot_words c) (members y))) (sym at)
    (slots_by f (FailsDisk serial) k b c v x (t.steady.first.count ∙ less.first.count) each)

-- a pass is closed only where no slot is to be rebuilt
failed_pass : (start : Start) (f : Facts) (b : Block) (serial : List ℕ) (i k : ℕ) → IsSound start b → IsRecord serial b i → IsServed b k →
    let c = marked_failed b i (facts_in start f b) in
    has_pass (volume_at k c) ≡ false → HasNoPass (FailsDisk serial) k (pass_of (volume_at k b)) (words_of b (volume_at k b)) (words_of c (volume_at k c))
failed_pass start f b serial i k s r served none =
    let c : Block = marked_failed b i facts in
    let at : volume_at k c ≡ x = spread_at b c (failed_by start f b i) k (failed_spreads start f b serial i s r) served.below
    ∙ edited_served b started k v (settled q broken w) w served.supported in
    elim (by_started started (ap has_pass (sym at) ∙ none)) [
      | inl idle ↦ inl (pass_none v idle)
      | inr whole ↦ inr (subst (λ (y : Volume). AllByRecursion NeedsNoRebuild (words_of c y)) (sym at)
          (whole_words c x (λ n inside expected.
          let within : n < member_count_of (first_map w) = subst (λ (z : ℕ). n < z) t.steady.first.count inside in
          let sound : is_expected_at q (member w n).index ≡ true = ap (is_expected_at q) (sym (t.index n within)) ∙ expected in
          t.out n within sound ∙ rebuilds_none q w n within whole sound)))
    ]
  where
    facts : EditFacts
    facts = facts_in start f b

    q : Block
    q = record_failed b i

    v : Volume
    v = volume_at k b

    w : Volume
    w = without_member i v

    broken : Bool
    broken = is_told facts.broken.items k

    started : Bool
    started = is_told facts.started.items k

    x : Volume
    x = if started then settled q broken w else w

    less : Steady v w
    less = without_steady i v (volume_is start b k s served.below)

    t : Settles q w x
    t = settles_started q started w (settled q broken w) less.is (settles_failed q broken w less.is (less.alike (alike_in b k v served.supported)))

    by_started : (on : Bool) → has_pass (if on then settled q broken w else w) ≡ false → (has_pass v ≡ false) ⊎ (has_to_rebuild q w ≡ false)
    by_started true idle = failed_idle q broken w idle
    by_started false idle = inl idle

failed_record : (start : Start) (f : Facts) (b : Block) (serial : List ℕ) (i : ℕ) → IsSound start b → IsRecord serial b i → Means start f (FailsDisk serial) b (marked_failed b i (facts_in start f b))
failed_record start f b serial i s r =
    let c : Block = marked_failed b i (facts_in start f b) in
    let p : Spreads b c (failed_by start f b i) = failed_spreads start f b serial i s r in
    record {
      sound = spread_sound start b c (failed_by start f b i) s p (lost_sectors b i r.below) (lost_apart b i s.is r.below s.apart);
      volumes = spread_steady b c (failed_by start f b i) p;
      generation = refl;
      dirty = λ v below. ap is_dirty (spread_at b c (failed_by start f b i) v p below) ∙ (p.stay v below).dirty;
      past = λ v past. refl;
      expects = λ other. lost_expects b serial other i s.is s.apart r;
      served = spread_served start b c (failed_by start f b i) s p (lost_sectors b i r.below);
      slots = λ v served. failed_slots start f b serial i v s r served;
      pass = λ v served none. failed_pass start f b serial i v s r served none;
      own = lost_own b serial i s.is s.apart r;
    }

pub fail_means : (start : Start) (f : Facts) (b : Block) (serial : List ℕ) → IsSound start b → Means start f (FailsDisk serial) b (block_edited start f b (FailsDisk serial))
fail_means start f b serial s = by_record (expected_index serial b) refl
  where
    by_record : (o : Option ℕ) → expected_index serial b ≡ o → Means start f (FailsDisk serial) b (option_map_or (λ i. marked_failed b i (facts_in start f b)) o b)
    by_record (Some i) e = failed_record start f b serial i s (index_record serial b i e)
    by_record None e = record {
      sound = s;
      volumes = volumes_stay b.volumes s.is.volumes;
      generation = refl;
      dirty = λ v below. refl;
      past = λ v past. refl;
      expects = λ other. none_expects serial other b e;
      served = λ v is. is;
      slots = λ v is. slots_by f (FailsDisk serial) v b b (volume_at v b) (volume_at v b) refl
          (λ n inside. let m : Member = member (volume_at v b) n in loses serial b b m m refl refl (sym (none_here serial b e m.index)) (λ expected. refl));
      pass = λ v is none. inl (pass_none (volume_at v b) none);
      own = λ other n expected own. own;
    }

-- A DISK THAT COUNTS OUT

abbrev out_by : Start → Facts → Block → ℕ → ℕ → Volume → Volume
out_by start f b i k v = if is_none (volume_fault b k v) then volume_out b i (facts_in start f b) k v else v

out_spreads : (start : Start) (f : Facts) (b : Block) (i : ℕ) → IsSound start b → Spreads b (marked_out b i (facts_in start f b)) (out_by start f b i)
out_spreads start f b i s = record {
  header = refl;
  gap = refl;
  tail = refl;
  disks = s.is.disks;
  count = refl;
  volumes = refl;
  stay = λ k below.
      let v : Volume = volume_at k b in
      let broken : Bool = is_told (facts_in start f b).broken.items k in
      let is : IsVolume v = volume_is start b k s below in
      edited_stay b b (is_told (facts_in start f b).started.items k) i k v (settled_out b broken) is (λ like. settles_out b broken (without_member i v) (without_steady i v is).is);
}

-- a slot of a disk that counts out, or of another
outs : (serial : List ℕ) (b c : Block) (i : ℕ) (m n : Member) → AreApart (expected_serials b) → IsRecord serial b i → c.disks ≡ b.disks → n.index ≡ m.index →
    (is_expected_at b m.index ≡ true → n.is_out ≡ ((m.index == i) || m.is_out)) → OutOfSlot serial (slot_words b m) (slot_words c n)
outs serial b c i m n apart r disks index out = record {
  serial = ap (λ (ds : List _). option_map_or serial_of (slice_get ds n.index) []) disks ∙ ap (serial_at b) index;
  expected = expected;
  in_sync = ap (λ (t : Bool). not n.is_out && t) expected ∙ by_expected (is_expected_at b m.index) refl;
}
  where
    expected : is_expected_at c n.index ≡ is_expected_at b m.index
    expected = ap (λ (ds : List _). option_map_or is_expected (slice_get ds n.index) false) disks ∙ ap (is_expected_at b) index

    by_expected : (t : Bool) → is_expected_at b m.index ≡ t → (not n.is_out && t) ≡ (not (bytes_eq serial (serial_at b m.index)) && (not m.is_out && t))
    by_expected true e =
        sync_out (m.index == i) (bytes_eq serial (serial_at b m.index)) m.is_out n.is_out true (out e)
        (λ here. eq_serial _ _ (sym r.serial_is ∙ sym (record_at serial_of [] b i r.below) ∙ ap (serial_at b) (sym (eqb-true m.index i here))))
        (λ other. ap (λ (t : Bool). not (bytes_eq serial (serial_at b m.index)) && t) (sym e) ∙ other_serial serial b i m.index apart r (eqb-false m.index i other) ∙ e)
    by_expected false e = and_false (not n.is_out) ∙ sym (ap (λ (t : Bool). not (bytes_eq serial (serial_at b m.index)) && t) (and_false (not m.is_out)) ∙ and_false (not (bytes_eq serial (serial_at b m.index))))
      where
        and_false : (t : Bool) → (t && false) ≡ false
        and_false true = refl
        and_false false = refl

out_slots : (start : Start) (f : Facts) (b : Block) (serial : List ℕ) (i k : ℕ) → IsSound start b → IsRecord serial b i → IsServed b k →
    let c = marked_out b i (facts_in start f b) in
    SlotsAfter f (CountsOut serial) k (map (slot_words b) (members (volume_at k b))) (map (slot_words c) (members (volume_at k c)))
out_slots start f b serial i k s r served =
    let facts : EditFacts = facts_in start f b in
    let c : Block = marked_out b i facts in
    let v : Volume = volume_at k b in
    let w : Volume = without_member i v in
    let broken : Bool = is_told facts.broken.items k in
    let started : Bool = is_told facts.started.items k in
    let x : Volume = if started then settled_out b broken w else w in
    let is : IsVolume v = volume_is start b k s served.below in
    let less : Steady v w = without_steady i v is in
    let t : Settles b w x = settles_started b started w (settled_out b broken w) less.is (settles_out b broken w less.is) in
    let at : volume_at k c ≡ x = spread_at b c (out_by start f b i) k (out_spreads start f b i s) served.below
    ∙ edited_served b started k v (settled_out b broken w) w served.supported in
    let each : (n : ℕ) → n < member_count_of (first_map v) → OutOfSlot serial (slot_words b (member v n)) (slot_words c (member x n)) = λ n inside.
    let within : n < member_count_of (first_map w) = subst (λ (z : ℕ). n < z) (sym less.first.count) inside in
    let index : (member w n).index ≡ (member v n).index = without_index i v n is inside in
    outs serial b c i (member v n) (member x n) s.apart r refl (t.index n within ∙ index)
    (λ expected. t.out n within (ap (is_expected_at b) index ∙ expected) ∙ without_out i v n is inside) in
    subst (λ (y : Volume). SlotsAfter f (CountsOut serial) k (map (slot_words b) (members v)) (map (slot_words c) (members y))) (sym at)
    (slots_by f (CountsOut serial) k b c v x (t.steady.first.count ∙ less.first.count) each)

out_pass : (start : Start) (f : Facts) (b : Block) (i k : ℕ) → IsSound start b → IsServed b k → has_pass (volume_at k (marked_out b i (facts_in start f b))) ≡ false → pass_of (volume_at k b) ≡ None
out_pass start f b i k s served none =
    let facts : EditFacts = facts_in start f b in
    let c : Block = marked_out b i facts in
    let v : Volume = volume_at k b in
    let started : Bool = is_told facts.started.items k in
    let at = spread_at b c (out_by start f b i) k (out_spreads start f b i s) served.below
    ∙ edited_served b started k v (settled_out b (is_told facts.broken.items k) (without_member i v)) (without_member i v) served.supported in
    pass_none v (by_started (is_told facts.broken.items k) started v (ap has_pass (sym at) ∙ none))
  where
    by_started : (broken on : Bool) (v : Volume) → has_pass (if on then settled_out b broken (without_member i v) else without_member i v) ≡ false → has_pass v ≡ false
    by_started broken true v idle = out_idle b broken (without_member i v) idle
    by_started broken false v idle = idle

pub out_means : (start : Start) (f : Facts) (b : Block) (serial : List ℕ) → IsSound start b → Means start f (CountsOut serial) b (block_edited start f b (CountsOut serial))
out_means start f b serial s = by_record (expected_index serial b) refl
  where
    by_record : (o : Option ℕ) → expected_index serial b ≡ o → Means start f (CountsOut serial) b (option_map_or (λ i. marked_out b i (facts_in start f b)) o b)
    by_record (Some i) e =
        let c : Block = marked_out b i (facts_in start f b) in
        let p : Spreads b c (out_by start f b i) = out_spreads start f b i s in
        record {
          sound = spread_sound start b c (out_by start f b i) s p (λ j n has. has) s.apart;
          volumes = spread_steady b c (out_by start f b i) p;
          generation = refl;
          dirty = λ v below. ap is_dirty (spread_at b c (out_by start f b i) v p below) ∙ (p.stay v below).dirty;
          past = λ v past. refl;
          expects = λ other. refl;
          served = spread_served start b c (out_by start f b i) s p (λ j n has. has);
          slots = λ v served. out_slots start f b serial i v s (index_record serial b i e) served;
          pass = λ v served none. out_pass start f b i v s served none;
          own = λ other n expected own. own;
        }
    by_record None e = record {
      sound = s;
      volumes = volumes_stay b.volumes s.is.volumes;
      generation = refl;
      dirty = λ v below. refl;
      past = λ v past. refl;
      expects = λ other. refl;
      served = λ v is. is;
      slots = λ v is. slots_by f (CountsOut serial) v b b (volume_at v b) (volume_at v b) refl (λ n inside. left (member (volume_at v b) n));
      pass = λ v is none. pass_none (volume_at v b) none;
      own = λ other n expected own. own;
    }
      where
        left : (m : Member) → OutOfSlot serial (slot_words b m) (slot_words b m)
        left m = record {
          serial = refl;
          expected = refl;
          in_sync = sync_lost (bytes_eq serial (serial_at b m.index)) m.is_out m.is_out (is_expected_at b m.index) (is_expected_at b m.index) (sym (none_here serial b e m.index)) (λ expected. refl);
        }
