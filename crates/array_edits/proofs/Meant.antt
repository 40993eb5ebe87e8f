-- The edits of real blocks mean what the machine takes them to mean.
use Rattle.std.proofs.Common.{◌≡◌, ℕ, ◌+◌, ◌≤◌, ◌<◌, ◌==◌, not, Bool, true, false, List, [], ◌++◌, length, map, Option, refl, sym, ◌∙◌, ap, subst, inl, inr, arith, None}
use Rattle.std.specs.Prelude.{flat_map, nat_le, nat_lt, sum_by}
use Rattle.std.specs.Option.{option_map_or}
use Rattle.std.specs.List.{list_any, AllZip}
use Rattle.std.specs.Str.{bytes_eq}
use Rattle.std.proofs.lemmas.Bool.{and_parts, cases_lt, eq-eqb, false≢true, leb-true, ltb-true, not-true}
use Rattle.std.proofs.lemmas.List.{length-take}
use Rattle.std.proofs.lemmas.List.Elements.{length_all_zip}
use Rattle.std.proofs.lemmas.Option.{slice_get-get_or, slice_get_past}
use Rattle.units.specs.declared.disk.Sector.{Sector}
use Rattle.imsm_base.specs.Fields.{number_at}
use Rattle.imsm_base.specs.Layout.{Block, Volume, size_of, serial_of, disk_count_of, generation_of, volume_size_of, pba_of, strip_of, level_byte_of, member_count_of, bytes_of}
use Rattle.imsm_base.specs.Volumes.{Member, first_map, member, members, is_dirty, is_unfinished, level_of, second_map_bytes, pass_of}
use Rattle.imsm_base.specs.Edits.{block_sealed, block_with_size}
use Rattle.imsm_base.proofs.Edited.{other_field}
use Rattle.imsm_base.proofs.Spliced.{number_at-take, number_at-front}
use Rattle.byteorder.specs.Endian.{little_bytes}
use Rattle.imsm_codec.specs.Mpb.{volume_at, blank_volume}
use Rattle.imsm_view.proofs.Members.{length_members, member_here, blank}
use Rattle.imsm_view.proofs.Words.{list_any-map}
use Rattle.units.specs.Levels.{rows_of}
use Rattle.array_model.specs.Blocks.{Laid, SlotWords}
use Rattle.array_model.specs.Placement.{Shape}
use Rattle.array_model.specs.Start.{Start}
use Rattle.block_meaning.specs.Meaning.{bytes_of_laid, has_index, has_place, is_small, of_volume, shape_of, no_shape, slot_words, SaysBlock}
use Rattle.block_meaning.specs.Reading.{parts_of}
use Rattle.array_machine.specs.Setting.{Facts, Edit, TakesGeneration, FailsDisk, CountsOut, MakesDirty, MakesClean, RecordsUnit, ClosesPass, StartsVolume, ActivatesDisk, RemovesDisk, NamesVolume, Setting}
use Rattle.array_machine.specs.EditWords.{generation_after, dirty_after, expects_after, SlotsAfter, IsOfDisk, IsApt, EditsMean, HasNoPass}
use Rattle.array_edits.specs.Records.{activated_record}
use Rattle.array_edits.specs.RealEdits.{sectors_of, block_edited}
use Rattle.array_edits.specs.Formed.{is_formed}
use Rattle.array_edits.specs.RealSettings.{IsReal}
use Rattle.array_edits.proofs.Laid.{IsLaidOf, laid-is, size_is, generation_is}
use Rattle.array_edits.proofs.Steady.{Steady}
use Rattle.array_edits.proofs.Supports.{any_fails}
use Rattle.array_edits.proofs.Moves.{IsServed, steady_at, index_at, slots_at}
use Rattle.array_edits.proofs.Sound.{IsGood, formed_good, sound_formed, unsealed, served_by, by_served, sealed_served}
use Rattle.array_edits.proofs.Means.{Means}
use Rattle.array_edits.proofs.Marks.{generation_means, dirty_means, clean_means, unit_means, name_means}
use Rattle.array_edits.proofs.Closes.{close_means}
use Rattle.array_edits.proofs.Starts.{start_means}
use Rattle.array_edits.proofs.Fails.{fail_means, out_means}
use Rattle.array_edits.proofs.Added.{new_expected, new_lengths}
use Rattle.array_edits.proofs.Spares.{HasRoom}
use Rattle.array_edits.proofs.Activates.{activation_means}
use Rattle.array_edits.proofs.Leaves.{removal_means}
use Rattle.array_edits.proofs.Idle.{idle_none}

-- THE WORDS OF A BLOCK OF THE FORM

pub good : (S : Setting) (m : Laid) → IsReal S → is_formed S.start m ≡ true → IsGood S.start m
good S m r formed = formed_good S.start m r.can formed

pub says : (S : Setting) (m : Laid) → IsReal S → is_formed S.start m ≡ true → SaysBlock S.start.words m (parts_of m)
says S m r formed = let g : IsGood S.start m = good S m r formed in r.reads.says m (parts_of m) g.whole

-- the numbers of the header that stand in the anchor are those of the block
anchor_number : (start : Start) (m : Laid) (k at : ℕ) → IsGood start m → at + k ≤ 216 → number_at k at m.anchor.0 ≡ number_at k at (bytes_of_laid m)
anchor_number start m k at g inside =
    let size : ℕ = number_at 4 36 m.anchor.0 in
    let rest : List ℕ = flat_map (λ (s : Sector). s.0) m.extended in
    let given = g.whole.given in
    let least = g.whole.sized.least in
    let full = g.full in
    let long : 216 ≤ size = omega (arith, length-take size (m.anchor.0 ++ rest)) in
    sym (number_at-front k at m.anchor.0 rest (omega arith)) ∙ sym (number_at-take k at size (m.anchor.0 ++ rest) (omega arith))

-- the generation in the anchor is that of the block
anchor_generation : (S : Setting) (m : Laid) → IsReal S → is_formed S.start m ≡ true → S.start.words.generation m.anchor ≡ generation_of (parts_of m)
anchor_generation S m r formed = r.reads.generation m.anchor ∙ anchor_number S.start m 4 44 (good S m r formed) (omega arith) ∙ generation_is (bytes_of_laid m)

-- a block of the form has the sectors that belong to its anchor, and they have their place on a disk
pub few_sectors : (start : Start) (m : Laid) → IsGood start m → length m.extended + 2 ≤ 18
few_sectors start m g =
    let size : number_at 4 36 m.anchor.0 ≡ size_of (parts_of m) = anchor_number start m 4 36 g (omega arith) ∙ size_is (bytes_of_laid m) in
    let most = g.whole.sized.most in
    let placed = g.placed in
    omega arith

-- APT EDITS

few_indices : (b : Block) → list_any (has_index (disk_count_of b)) b.volumes ≡ false → (k s : ℕ) → k < length b.volumes → s < slots_at b k → index_at b k s ≡ disk_count_of b → ⊥
few_indices b none k s below inside same =
    let i : ℕ = disk_count_of b in
    let v : Volume = volume_at k b in
    let all : list_any (λ (m : Member). m.index == i) (members v) ≡ false = any_fails (has_index i) b.volumes k blank_volume none below in
    let here : ((member v s).index == i) ≡ false = sym (ap (λ (m : Member). m.index == i) (member_here v s blank inside)) ∙ any_fails (λ (m : Member). m.index == i) (members v) s blank all (omega (arith, length_members v)) in
    false≢true (sym here ∙ eq-eqb _ _ same)

pub room_for : (S : Setting) (m : Laid) (serial : List ℕ) → IsReal S → is_formed S.start m ≡ true → S.start.words.has_room m ≡ true → S.start.words.has_record m serial ≡ false → IsOfDisk S serial →
    HasRoom (parts_of m) (activated_record serial (sectors_of S.start.disks serial))
room_for S m serial r formed room unknown disk =
    let b : Block = parts_of m in
    let g : IsGood S.start m = good S m r formed in
    let w : SaysBlock S.start.words m b = says S m r formed in
    let parts = and_parts (has_place b) (is_small b) (sym w.has_room ∙ room) in
    let place = and_parts (nat_le (disk_count_of b + 1) 16) (not (list_any (has_index (disk_count_of b)) b.volumes)) parts.0 in
    let small : size_of b + 48 + sum_by second_map_bytes b.volumes ≤ 8192 = leb-true _ _ parts.1 in
    let long : size_of b ≡ length (bytes_of b) = g.whole.given ∙ ap (λ (x : List ℕ). length x) g.whole.spells.laid in
    record {
      few = leb-true _ _ place.0;
      free = few_indices b (not-true _ place.1);
      small = omega arith;
      lengths = new_lengths serial (sectors_of S.start.disks serial) (ap (λ (x : List ℕ). length x) disk.is ∙ r.can.serials disk.disk disk.below);
      unknown = sym (list_any-map (λ (x : List ℕ). bytes_eq x serial) serial_of b.disks) ∙ sym (w.has_record serial) ∙ unknown;
    }

-- each edit that fits means what it says of the parts
pub means : (S : Setting) (f : Facts) (m : Laid) (e : Edit) → IsReal S → is_formed S.start m ≡ true → IsApt S m e → Means S.start f e (parts_of m) (block_edited S.start f (parts_of m) e)
means S f m (TakesGeneration g) r formed apt = generation_means S.start f (parts_of m) g (good S m r formed).sound apt
means S f m (FailsDisk s) r formed apt = fail_means S.start f (parts_of m) s (good S m r formed).sound
means S f m (CountsOut s) r formed apt = out_means S.start f (parts_of m) s (good S m r formed).sound
means S f m (MakesDirty v) r formed apt = dirty_means S.start f (parts_of m) v (good S m r formed).sound apt
means S f m (MakesClean v) r formed apt = clean_means S.start f (parts_of m) v (good S m r formed).sound apt
means S f m (RecordsUnit v u) r formed apt = unit_means S.start f (parts_of m) v u (good S m r formed).sound apt
means S f m (ClosesPass v) r formed apt = close_means S.start f (parts_of m) v (good S m r formed).sound apt
means S f m (StartsVolume v) r formed apt = start_means S.start f (parts_of m) v (good S m r formed).sound apt
means S f m (ActivatesDisk s i) r formed apt =
    let sectors : ℕ = sectors_of S.start.disks s in
    activation_means S.start f (parts_of m) i (activated_record s sectors) (good S m r formed).sound (new_expected s sectors) (room_for S m s r formed apt.0 apt.1 apt.2)
means S f m (RemovesDisk s) r formed apt = removal_means S.start f s (parts_of m) (good S m r formed).sound (sym ((says S m r formed).expects s) ∙ apt.1)
means S f m (NamesVolume v name) r formed apt =
    name_means S.start f (parts_of m) v name (good S m r formed).sound (ltb-true _ _ (ap (nat_lt v) (sym (says S m r formed).volumes) ∙ apt))

-- WHAT IS LAID OF AN EDIT

-- the edited block, by what it is laid of
pub record Edited (S : Setting) (f : Facts) (m : Laid) (e : Edit) : Type 0 where
  pub means : Means S.start f e (parts_of m) (block_edited S.start f (parts_of m) e)
  pub laid : IsLaidOf (block_edited S.start f (parts_of m) e) (S.edit f m e)
  pub formed : is_formed S.start (S.edit f m e) ≡ true

pub edited : (S : Setting) (f : Facts) (m : Laid) (e : Edit) → IsReal S → is_formed S.start m ≡ true → IsApt S m e → Edited S f m e
edited S f m e r formed apt =
    let c : Block = block_edited S.start f (parts_of m) e in
    let t : Means S.start f e (parts_of m) c = means S f m e r formed apt in
    record {
      means = t;
      laid = subst (IsLaidOf c) (sym (r.edits f m e)) (laid-is c (unsealed S.start c t.sound));
      formed = subst (λ (n : Laid). is_formed S.start n ≡ true) (sym (r.edits f m e)) (sound_formed S.start c t.sound);
    }

pub says_edited : (S : Setting) (f : Facts) (m : Laid) (e : Edit) → IsReal S → (d : Edited S f m e) → SaysBlock S.start.words (S.edit f m e) (block_sealed (block_edited S.start f (parts_of m) e) d.laid.size d.laid.sum)
says_edited S f m e r d = r.reads.says (S.edit f m e) _ d.laid.whole

-- a supported volume, by the word and by the parts
word_served : (S : Setting) (m : Laid) (v : ℕ) → IsReal S → is_formed S.start m ≡ true → S.start.words.is_supported m v ≡ true → IsServed (parts_of m) v
word_served S m v r formed is = served_by (parts_of m) v (sym ((says S m r formed).is_supported v) ∙ is)

served_word : (S : Setting) (m : Laid) (v : ℕ) → IsReal S → is_formed S.start m ≡ true → IsServed (parts_of m) v → S.start.words.is_supported m v ≡ true
served_word S m v r formed served = (says S m r formed).is_supported v ∙ by_served (parts_of m) v served

served_edited : (S : Setting) (f : Facts) (m : Laid) (e : Edit) (v : ℕ) → IsReal S → (d : Edited S f m e) → IsServed (block_edited S.start f (parts_of m) e) v → S.start.words.is_supported (S.edit f m e) v ≡ true
served_edited S f m e v r d served =
    let c : Block = block_edited S.start f (parts_of m) e in
    (says_edited S f m e r d).is_supported v
    ∙ by_served (block_sealed c d.laid.size d.laid.sum) v (sealed_served c d.laid.size d.laid.sum v d.means.sound.is served)

-- a word of a volume that is there, or not
volume_word : {X : Type 0} (b : Block) (v : ℕ) (word : Volume → X) (none : X) → v < length b.volumes → of_volume b v word none ≡ word (volume_at v b)
volume_word b v word none below = ap (λ (o : Option Volume). option_map_or word o none) (slice_get-get_or b.volumes v blank_volume below)

volume_none : {X : Type 0} (b : Block) (v : ℕ) (word : Volume → X) (none : X) → length b.volumes ≤ v → of_volume b v word none ≡ none
volume_none b v word none past = ap (λ (o : Option Volume). option_map_or word o none) (slice_get_past b.volumes v past)

abbrev shape_by : (pba size level count strip : ℕ) → Shape
shape_by pba size level count strip = record {
  level = level_of level count;
  members = count;
  size = size;
  strip = strip;
  pba = pba;
  rows = rows_of (level_of level count) count size strip;
}

shape_same : (v x : Volume) → Steady v x → shape_of x ≡ shape_of v
shape_same v x st =
    ap (λ (n : ℕ). shape_by n (volume_size_of x) (level_byte_of (first_map x)) (member_count_of (first_map x)) (strip_of (first_map x))) st.first.pba
    ∙ ap (λ (n : ℕ). shape_by (pba_of (first_map v)) n (level_byte_of (first_map x)) (member_count_of (first_map x)) (strip_of (first_map x))) st.size
    ∙ ap (λ (n : ℕ). shape_by (pba_of (first_map v)) (volume_size_of v) n (member_count_of (first_map x)) (strip_of (first_map x))) st.first.level
    ∙ ap (λ (n : ℕ). shape_by (pba_of (first_map v)) (volume_size_of v) (level_byte_of (first_map v)) n (strip_of (first_map x))) st.first.count
    ∙ ap (shape_by (pba_of (first_map v)) (volume_size_of v) (level_byte_of (first_map v)) (member_count_of (first_map v))) st.first.strip

-- by whether a volume is there
shape_after : (b c : Block) (v : ℕ) → AllZip Steady b.volumes c.volumes → of_volume c v shape_of no_shape ≡ of_volume b v shape_of no_shape
shape_after b c v zip = elim (cases_lt v (length b.volumes)) [
  | inl below ↦ volume_word c v shape_of no_shape (omega (arith, length_all_zip Steady b.volumes c.volumes zip)) ∙ shape_same (volume_at v b) (volume_at v c) (steady_at b c v zip below) ∙ sym (volume_word b v shape_of no_shape below)
  | inr past ↦ volume_none c v shape_of no_shape (omega (arith, length_all_zip Steady b.volumes c.volumes zip)) ∙ sym (volume_none b v shape_of no_shape past)
]

dirty_of : (start : Start) (f : Facts) (e : Edit) (b c : Block) (v : ℕ) → Means start f e b c → of_volume c v is_dirty false ≡ dirty_after e v (of_volume b v is_unfinished false) (of_volume b v is_dirty false)
dirty_of start f e b c v t = elim (cases_lt v (length b.volumes)) [
  | inl below ↦ volume_word c v is_dirty false (omega (arith, length_all_zip Steady b.volumes c.volumes t.volumes)) ∙ t.dirty v below
      ∙ ap (λ (u : Bool). dirty_after e v u (is_dirty (volume_at v b))) (sym (volume_word b v is_unfinished false below))
      ∙ ap (dirty_after e v (of_volume b v is_unfinished false)) (sym (volume_word b v is_dirty false below))
  | inr past ↦ volume_none c v is_dirty false (omega (arith, length_all_zip Steady b.volumes c.volumes t.volumes)) ∙ sym (t.past v past)
      ∙ ap (λ (u : Bool). dirty_after e v u false) (sym (volume_none b v is_unfinished false past))
      ∙ ap (dirty_after e v (of_volume b v is_unfinished false)) (sym (volume_none b v is_dirty false past))
]

abbrev words_in : Block → Volume → List SlotWords
words_in b x = map (slot_words b) (members x)

slots_of : (start : Start) (f : Facts) (e : Edit) (b c : Block) (v : ℕ) → IsServed b v → Means start f e b c → SlotsAfter f e v (of_volume b v (words_in b) []) (of_volume c v (words_in c) [])
slots_of start f e b c v served t =
    let below : v < length b.volumes = served.below in
    subst (λ (ws : List SlotWords). SlotsAfter f e v ws (of_volume c v (words_in c) [])) (sym (volume_word b v (words_in b) [] below))
    (subst (SlotsAfter f e v (words_in b (volume_at v b))) (sym (volume_word c v (words_in c) [] (omega (arith, length_all_zip Steady b.volumes c.volumes t.volumes)))) (t.slots v served))

sealed_generation : (c : Block) (size sum : ℕ) → generation_of (block_sealed c size sum) ≡ generation_of c
sealed_generation c size sum =
    other_field (block_with_size c size) 2 5 (little_bytes 4 sum) (λ e. omega arith) ∙ other_field c 3 5 (little_bytes 4 size) (λ e. omega arith)

-- which disks it expects
pub expects_edited : (S : Setting) (f : Facts) (m : Laid) (e : Edit) (serial : List ℕ) → IsReal S → is_formed S.start m ≡ true → IsApt S m e →
    S.start.words.expects (S.edit f m e) serial ≡ expects_after e serial (S.start.words.expects m serial)
expects_edited S f m e serial r formed apt =
    let d : Edited S f m e = edited S f m e r formed apt in
    (says_edited S f m e r d).expects serial ∙ d.means.expects serial ∙ ap (expects_after e serial) (sym ((says S m r formed).expects serial))

-- THE LAW

pub real_edits_mean : (S : Setting) → IsReal S → EditsMean S
real_edits_mean S r = record {
  formed = is_formed S.start;
  keeps = λ f m e apt formed. (edited S f m e r formed apt).formed;
  generation = λ f m e apt formed.
      let d : Edited S f m e = edited S f m e r formed apt in
      anchor_generation S (S.edit f m e) r d.formed ∙ ap generation_of d.laid.parts ∙ sealed_generation (block_edited S.start f (parts_of m) e) d.laid.size d.laid.sum
      ∙ d.means.generation ∙ ap (generation_after e) (sym (anchor_generation S m r formed));
  volumes = λ f m e apt formed.
      let d : Edited S f m e = edited S f m e r formed apt in
      (says_edited S f m e r d).volumes ∙ sym (length_all_zip Steady _ _ d.means.volumes) ∙ sym (says S m r formed).volumes;
  shape = λ f m e v apt formed.
      let d : Edited S f m e = edited S f m e r formed apt in
      (says_edited S f m e r d).shape v ∙ shape_after (parts_of m) (block_edited S.start f (parts_of m) e) v d.means.volumes ∙ sym ((says S m r formed).shape v);
  dirty = λ f m e v apt formed.
      let d : Edited S f m e = edited S f m e r formed apt in
      let w : SaysBlock S.start.words m (parts_of m) = says S m r formed in
      (says_edited S f m e r d).is_dirty v ∙ dirty_of S.start f e (parts_of m) (block_edited S.start f (parts_of m) e) v d.means
      ∙ ap (λ (u : Bool). dirty_after e v u (of_volume (parts_of m) v is_dirty false)) (sym (w.is_unfinished v)) ∙ ap (dirty_after e v (S.start.words.is_unfinished m v)) (sym (w.is_dirty v));
  expects = λ f m e serial apt formed. expects_edited S f m e serial r formed apt;
  served = λ m v formed started. served_word S m v r formed ((good S m r formed).sound.served v started);
  supported = λ f m e v apt formed is.
      let d : Edited S f m e = edited S f m e r formed apt in
      served_edited S f m e v r d (d.means.served v (word_served S m v r formed is));
  slots = λ f m e v apt formed is.
      let d : Edited S f m e = edited S f m e r formed apt in
      subst (λ (ws : List SlotWords). SlotsAfter f e v ws (S.start.words.slots (S.edit f m e) v)) (sym ((says S m r formed).slots v))
      (subst (SlotsAfter f e v (of_volume (parts_of m) v (words_in (parts_of m)) [])) (sym ((says_edited S f m e r d).slots v))
      (slots_of S.start f e (parts_of m) (block_edited S.start f (parts_of m) e) v (word_served S m v r formed is) d.means));
  pass = λ f m e v apt formed started none.
      let d : Edited S f m e = edited S f m e r formed apt in
      let b : Block = parts_of m in
      let c : Block = block_edited S.start f b e in
      let served : IsServed b v = (good S m r formed).sound.served v started in
      let after : IsServed c v = d.means.served v served in
      let old : S.start.words.slots m v ≡ words_in b (volume_at v b) = (says S m r formed).slots v ∙ volume_word b v (words_in b) [] served.below in
      let new : S.start.words.slots (S.edit f m e) v ≡ words_in c (volume_at v c) = (says_edited S f m e r d).slots v ∙ volume_word c v (words_in c) [] after.below in
      let was : S.start.words.pass m v ≡ pass_of (volume_at v b) = (says S m r formed).pass v ∙ volume_word b v pass_of None served.below in
      let is : S.start.words.pass (S.edit f m e) v ≡ pass_of (volume_at v c) = (says_edited S f m e r d).pass v ∙ volume_word c v pass_of None after.below in
      subst (λ (p : Option ℕ). HasNoPass e v p (S.start.words.slots m v) (S.start.words.slots (S.edit f m e) v)) (sym was)
      (subst (λ (ws : List SlotWords). HasNoPass e v (pass_of (volume_at v b)) ws (S.start.words.slots (S.edit f m e) v)) (sym old)
      (subst (HasNoPass e v (pass_of (volume_at v b)) (words_in b (volume_at v b))) (sym new)
      (d.means.pass v served (idle_none (volume_at v c) (sym is ∙ none)))));
}

-- the form is that of the test
pub form_of : (S : Setting) (r : IsReal S) (m : Laid) → (real_edits_mean S r).formed m ≡ is_formed S.start m
unfolding real_edits_mean
form_of S r m = refl
