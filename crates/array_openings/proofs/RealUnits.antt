-- Edits of real blocks leave open passes and their units as their names say.
use Rattle.std.proofs.Common.{◌≡◌, ◌≢◌, ℕ, ◌<◌, ◌==◌, ◌||◌, if◌then◌else◌, Bool, true, false, List, length, Option, Some, None, refl, sym, ◌∙◌, ap, subst, inl, inr, arith}
use Rattle.std.specs.Prelude.{is_some, nat_lt}
use Rattle.std.specs.Option.{option_map_or}
use Rattle.std.specs.List.{position}
use Rattle.std.specs.Str.{bytes_eq}
use Rattle.std.proofs.lemmas.Bool.{cases_eq, eq-eqb, ne_eqb, ltb-true, false≢true}
use Rattle.imsm_base.specs.Layout.{Block, Volume, IsVolume, serial_of, unit_of, migration_type_of}
use Rattle.imsm_base.specs.Volumes.{has_pass, pass_of, volume_rows}
use Rattle.imsm_base.specs.Edits.{volume_with_dirty, block_sealed}
use Rattle.imsm_base.specs.EditsOfTables.{with_volume, volume_with_name, volume_without_disk, block_without_disk}
use Rattle.imsm_codec.specs.Mpb.{volume_at, blank_volume}
use Rattle.imsm_buffer.proofs.Lowered.{at_changed}
use Rattle.imsm_edit.specs.Failures.{record_failed, without_member, settled, marked_failed}
use Rattle.imsm_edit.specs.Meanings.{is_told, with_states, at_point}
use Rattle.array_model.specs.Placement.{Shape}
use Rattle.array_model.specs.Start.{Start}
use Rattle.block_meaning.specs.Meaning.{shape_of, no_shape}
use Rattle.block_meaning.specs.Reading.{parts_of}
use Rattle.array_machine.specs.Setting.{Facts, Edit, TakesGeneration, FailsDisk, CountsOut, MakesDirty, MakesClean, RecordsUnit, ClosesPass, StartsVolume, ActivatesDisk, RemovesDisk, NamesVolume, Setting}
use Rattle.array_units.specs.EditUnits.{KeepsPass, RecordedIf, UnitAfter, EditsKeepUnits}
use Rattle.array_edits.specs.Formed.{is_formed}
use Rattle.array_edits.specs.Passes.{with_pass_closed}
use Rattle.array_edits.specs.RealEdits.{facts_in, working_in, name_bytes, block_edited}
use Rattle.array_edits.specs.RealSettings.{IsReal}
use Rattle.array_edits.specs.Records.{expected_index, is_in_use, without_index}
use Rattle.array_edits.proofs.Disks.{IsRecord, index_record}
use Rattle.array_edits.proofs.Fails.{failed_by, failed_spreads, edited_served}
use Rattle.array_edits.proofs.Leaves.{removed_volume}
use Rattle.array_edits.proofs.Marks.{volume_is}
use Rattle.array_edits.proofs.Means.{at_other}
use Rattle.array_edits.proofs.Meant.{good, says, Edited, edited, says_edited}
use Rattle.array_edits.proofs.Moves.{IsServed}
use Rattle.array_edits.proofs.Sound.{IsSound, IsGood}
use Rattle.array_edits.proofs.Spread.{spread_at}
use Rattle.array_edits.proofs.Supports.{all_each}
use Rattle.array_edits.proofs.Wide.{without_steady}
use Rattle.array_openings.proofs.Seated.{at_volume}
use Rattle.array_openings.proofs.VolumeUnits.{KeepsUnit, Keeps, same_state, states_keep, dirty_keeps, unit_written, point_open, settled_keeps, closed_has_none}

-- ONE VOLUME

-- volume k alone is edited: by whether v is the one
at_one : (b : Block) (k v : ℕ) (g : Volume → Volume) → v < length b.volumes → (P : Volume → Type 0)
    → (k ≡ v → P (g (volume_at v b))) → (k ≢ v → P (volume_at v b)) → P (volume_at v (with_volume k g b))
at_one b k v g below P here other = elim (cases_eq k v) [
  | inl same ↦
      subst P (sym (ap (λ (j : ℕ). volume_at v (with_volume j g b)) same ∙ at_changed v g b.volumes blank_volume below))
      (here same)
  | inr apart ↦
      subst P (sym (at_other k g b.volumes v blank_volume (λ same. apart (sym same)))) (other apart)
]

itself : (v : Volume) → Keeps v v
itself v = same_state v v refl

one_keeps : (b : Block) (k v : ℕ) (g : Volume → Volume) → v < length b.volumes
    → Keeps (volume_at v b) (g (volume_at v b)) → Keeps (volume_at v b) (volume_at v (with_volume k g b))
one_keeps b k v g below here =
    at_one b k v g below (Keeps (volume_at v b)) (λ same. here) (λ apart. itself (volume_at v b))

-- A DISK THAT FAILS

started_keeps : (on : Bool) (b : Block) (broken : Bool) (i : ℕ) (v : Volume) → IsVolume v
    → Keeps v (if on then settled b broken (without_member i v) else without_member i v)
started_keeps true b broken i v is = λ is_open.
    let w : Volume = without_member i v in
    let behind : KeepsUnit w (settled b broken w) = settled_keeps b broken w (without_steady i v is).is is_open in
    let before : KeepsUnit v w = same_state v w refl behind.had in
    record { had = before.had; unit = behind.unit ∙ before.unit }
started_keeps false b broken i v is = same_state v (without_member i v) refl

module _ (start : Start) (f : Facts) (b : Block) (s : IsSound start b) (v : ℕ) (served : IsServed b v) where
  failed_keeps : (serial : List ℕ) (i : ℕ) → IsRecord serial b i
      → Keeps (volume_at v b) (volume_at v (marked_failed b i (facts_in start f b)))
  failed_keeps serial i r =
      let c : Block = marked_failed b i (facts_in start f b) in
      let y : Volume = volume_at v b in
      let on : Bool = is_told (facts_in start f b).started.items v in
      let broken : Bool = is_told (facts_in start f b).broken.items v in
      let q : Block = record_failed b i in
      let at = spread_at b c (failed_by start f b i) v (failed_spreads start f b serial i s r) served.below
      ∙ edited_served b on v y (settled q broken (without_member i y)) (without_member i y) served.supported in
      subst (Keeps y) (sym at) (started_keeps on q broken i y (volume_is start b v s served.below))

  fails_keeps : (serial : List ℕ)
      → Keeps (volume_at v b) (volume_at v (block_edited start f b (FailsDisk serial)))
  fails_keeps serial = by_record (expected_index serial b) refl
    where
      by_record : (o : Option ℕ) → expected_index serial b ≡ o
          → Keeps (volume_at v b) (volume_at v (option_map_or (λ i. marked_failed b i (facts_in start f b)) o b))
      by_record None is = itself (volume_at v b)
      by_record (Some i) is = failed_keeps serial i (index_record serial b i is)

  -- A RECORD THAT LEAVES

  removed_keeps : (serial : List ℕ)
      → Keeps (volume_at v b) (volume_at v (block_edited start f b (RemovesDisk serial)))
  removed_keeps serial = by_record (position (λ d. bytes_eq (serial_of d) serial) b.disks)
    where
      by_use : (i : ℕ) (t : Bool)
          → Keeps (volume_at v b) (volume_at v (if t then b else block_without_disk b i))
      by_use i true = itself (volume_at v b)
      by_use i false =
          subst (Keeps (volume_at v b)) (sym (removed_volume b i v served.below))
          (same_state (volume_at v b) (volume_without_disk i (volume_at v b)) refl)

      by_record : (o : Option ℕ)
          → Keeps (volume_at v b) (volume_at v (option_map_or (λ i. without_index i b) o b))
      by_record None = itself (volume_at v b)
      by_record (Some i) = by_use i (is_in_use i b || nat_lt (length b.disks) 2)

  -- A UNIT, AND A PASS THAT CLOSES

  recorded_unit : (k unit : ℕ)
      → has_pass (volume_at v (block_edited start f b (RecordsUnit k unit))) ≡ true
      → (has_pass (volume_at v b) ≡ true)
      × RecordedIf (k == v) unit (volume_rows (volume_at v b)) (unit_of (volume_at v b))
      (unit_of (volume_at v (block_edited start f b (RecordsUnit k unit))))
  recorded_unit k unit =
      at_one b k v (λ y. with_states b (f.is_broken k) (at_point unit y)) served.below
      (λ y. has_pass y ≡ true → (has_pass (volume_at v b) ≡ true)
      × RecordedIf (k == v) unit (volume_rows (volume_at v b)) (unit_of (volume_at v b)) (unit_of y))
      (λ same is_open.
      let y : Volume = volume_at v b in
      let p : Volume = at_point unit y in
      let behind : KeepsUnit p (with_states b (f.is_broken k) p) =
      states_keep b (f.is_broken k) p p (itself p) is_open in (
        point_open unit y behind.had,
        subst (λ (t : Bool). RecordedIf t unit (volume_rows y) (unit_of y) (unit_of (with_states b (f.is_broken k) p)))
            (sym (eq-eqb k v same))
            (λ inside. behind.unit
            ∙ unit_written unit y (volume_is start b v s served.below) (omega (arith, inside, small))),
      ))
      (λ apart is_open. (
        is_open,
        subst (λ (t : Bool). RecordedIf t unit (volume_rows (volume_at v b)) (unit_of (volume_at v b))
            (unit_of (volume_at v b))) (sym (ne_eqb k v apart)) refl,
      ))
    where
      small : volume_rows (volume_at v b) < 18446744073709551616
      small =
          ltb-true (volume_rows (volume_at v b)) 18446744073709551616
          (all_each (λ (y : Volume). nat_lt (volume_rows y) 18446744073709551616) b.volumes v blank_volume s.short
          served.below)

  closed_pass : (k : ℕ) → has_pass (volume_at v (block_edited start f b (ClosesPass k))) ≡ true
      → ((k == v) ≡ false) × KeepsUnit (volume_at v b) (volume_at v (block_edited start f b (ClosesPass k)))
  closed_pass k =
      at_one b k v (λ y. with_states b (f.is_broken k) (with_pass_closed (working_in f b) y)) served.below
      (λ y. has_pass y ≡ true → ((k == v) ≡ false) × KeepsUnit (volume_at v b) y)
      (λ same is_open. absurd (false≢true
      (sym (closed_has_none b (f.is_broken k) (working_in f b) (volume_at v b) (volume_is start b v s served.below))
      ∙ is_open)))
      (λ apart is_open. (ne_eqb k v apart, itself (volume_at v b) is_open))

-- WORDS

pass_there : (x : Volume) (kind : ℕ) → pass_of x ≡ Some kind → has_pass x ≡ true
pass_there x kind is = at (has_pass x) refl is
  where
    at : (t : Bool) → has_pass x ≡ t → (if t then Some (migration_type_of x) else None) ≡ Some kind → has_pass x ≡ true
    at true e is = e
    at false e is = absurd (cc is)

some_pass : (x : Volume) → has_pass x ≡ true → is_some (pass_of x) ≡ true
some_pass x had = ap (λ (t : Bool). is_some (if t then Some (migration_type_of x) else None)) had

to_pass : (x y : Volume) → KeepsUnit x y → KeepsPass (pass_of x) (unit_of x) (unit_of y)
to_pass x y k = record { had = some_pass x k.had; unit = k.unit }

-- each edit, of a volume that is supported
unit_in_block : (start : Start) (f : Facts) (b : Block) (e : Edit) (v : ℕ) → IsSound start b → IsServed b v
    → has_pass (volume_at v (block_edited start f b e)) ≡ true
    → UnitAfter e v (volume_rows (volume_at v b)) (pass_of (volume_at v b)) (unit_of (volume_at v b))
    (unit_of (volume_at v (block_edited start f b e)))
unit_in_block start f b (TakesGeneration g) v s served is_open =
    to_pass (volume_at v b) (volume_at v b) (itself (volume_at v b) is_open)
unit_in_block start f b (FailsDisk serial) v s served is_open =
    to_pass (volume_at v b) (volume_at v (block_edited start f b (FailsDisk serial)))
    (fails_keeps start f b s v served serial is_open)
unit_in_block start f b (CountsOut serial) v s served is_open = tt
unit_in_block start f b (MakesDirty k) v s served is_open =
    let g : Volume → Volume = λ y. with_states b (f.is_broken k) (volume_with_dirty true y) in
    to_pass (volume_at v b) (volume_at v (with_volume k g b))
    (one_keeps b k v g served.below
    (states_keep b (f.is_broken k) (volume_at v b) (volume_with_dirty true (volume_at v b))
    (dirty_keeps true (volume_at v b))) is_open)
unit_in_block start f b (MakesClean k) v s served is_open =
    let g : Volume → Volume = λ y. with_states b (f.is_broken k) (volume_with_dirty false y) in
    to_pass (volume_at v b) (volume_at v (with_volume k g b))
    (one_keeps b k v g served.below
    (states_keep b (f.is_broken k) (volume_at v b) (volume_with_dirty false (volume_at v b))
    (dirty_keeps false (volume_at v b))) is_open)
unit_in_block start f b (RecordsUnit k unit) v s served is_open =
    let found = recorded_unit start f b s v served k unit is_open in
    (some_pass (volume_at v b) found.0, found.1)
unit_in_block start f b (ClosesPass k) v s served is_open =
    let found = closed_pass start f b s v served k is_open in
    (found.0, to_pass (volume_at v b) (volume_at v (block_edited start f b (ClosesPass k))) found.1)
unit_in_block start f b (StartsVolume k) v s served is_open = tt
unit_in_block start f b (ActivatesDisk serial i) v s served is_open = tt
unit_in_block start f b (RemovesDisk serial) v s served is_open =
    to_pass (volume_at v b) (volume_at v (block_edited start f b (RemovesDisk serial)))
    (removed_keeps start f b s v served serial is_open)
unit_in_block start f b (NamesVolume k name) v s served is_open =
    let g : Volume → Volume = volume_with_name (name_bytes name) in
    to_pass (volume_at v b) (volume_at v (with_volume k g b))
    (one_keeps b k v g served.below (same_state (volume_at v b) (g (volume_at v b)) refl) is_open)

pub keep_units : (S : Setting) → IsReal S → EditsKeepUnits S (is_formed S.start)
keep_units S r f m e v kind apt formed started is =
    let b : Block = parts_of m in
    let c : Block = block_edited S.start f b e in
    let g : IsGood S.start m = good S m r formed in
    let d : Edited S f m e = edited S f m e r formed apt in
    let words = says S m r formed in
    let after = says_edited S f m e r d in
    let whole : Block = block_sealed c d.laid.size d.laid.sum in
    let served : IsServed b v = g.sound.served v started in
    let below : v < length c.volumes = (d.means.served v served).below in
    let pass : S.start.words.pass (S.edit f m e) v ≡ pass_of (volume_at v c) =
    after.pass v ∙ at_volume whole v pass_of None below in
    let is_open : has_pass (volume_at v c) ≡ true = pass_there (volume_at v c) kind (sym pass ∙ is) in
    let found = unit_in_block S.start f b e v g.sound served is_open in
    let rows : (S.start.words.shape m v).rows ≡ volume_rows (volume_at v b) =
    ap (λ (s : Shape). s.rows) (words.shape v ∙ at_volume b v shape_of no_shape served.below) in
    let was : S.start.words.pass m v ≡ pass_of (volume_at v b) =
    words.pass v ∙ at_volume b v pass_of None served.below in
    let old : S.start.words.unit m v ≡ unit_of (volume_at v b) = words.unit v ∙ at_volume b v unit_of 0 served.below in
    let new : S.start.words.unit (S.edit f m e) v ≡ unit_of (volume_at v c) =
    after.unit v ∙ at_volume whole v unit_of 0 below in
    subst (λ (n : ℕ). UnitAfter e v n (S.start.words.pass m v) (S.start.words.unit m v)
    (S.start.words.unit (S.edit f m e) v)) (sym rows)
    (subst (λ (o : Option ℕ). UnitAfter e v (volume_rows (volume_at v b)) o (S.start.words.unit m v)
    (S.start.words.unit (S.edit f m e) v)) (sym was)
    (subst (λ (n : ℕ). UnitAfter e v (volume_rows (volume_at v b)) (pass_of (volume_at v b)) n
    (S.start.words.unit (S.edit f m e) v)) (sym old)
    (subst
    (λ (n : ℕ). UnitAfter e v (volume_rows (volume_at v b)) (pass_of (volume_at v b)) (unit_of (volume_at v b)) n)
    (sym new) found)))
