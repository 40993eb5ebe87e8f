-- A volume that starts: its slots stay, and an unfinished one is clean.
use Rattle.std.proofs.Common.{◌≡◌, ℕ, ◌/◌, ◌<◌, ◌==◌, ◌&&◌, ◌||◌, not, if◌then◌else◌, Bool, true, false, List, [], ◌∷◌, length, refl, sym, ◌∙◌, ap, arith, inl, inr}
use Rattle.std.specs.Int.{bit_at}
use Rattle.std.proofs.lemmas.Bool.{eq-eqb, false≢true}
use Rattle.std.proofs.lemmas.List.{get_or-set_other}
use Rattle.byteorder.specs.Endian.{little_bytes}
use Rattle.imsm_base.specs.Fields.{number}
use Rattle.imsm_base.specs.Layout.{Block, Volume, IsVolume, state_lengths, map_state_of, member_count_of}
use Rattle.imsm_base.specs.Volumes.{Member, first_map, member, members, is_expected_at, has_pass, has_pass_of, has_migration, is_dirty, is_unfinished, pass_start}
use Rattle.imsm_base.specs.Edits.{volume_with_dirty}
use Rattle.imsm_base.specs.EditsOfTables.{volume_with_pass, volume_with_migration, volume_without_migration}
use Rattle.imsm_base.proofs.Edited.{fields_of, other_state}
use Rattle.imsm_codec.specs.Mpb.{volume_at}
use Rattle.imsm_edit.specs.Meanings.{with_states}
use Rattle.imsm_edit.specs.Passes.{with_migration, with_pass, resync_type, has_to_rebuild, with_start}
use Rattle.imsm_edit.proofs.Opened.{opened}
use Rattle.imsm_view.proofs.Members.{length_members, member_here, blank}
use Rattle.array_model.specs.Start.{Start}
use Rattle.block_meaning.specs.Meaning.{slot_words}
use Rattle.array_machine.specs.Setting.{Facts, StartsVolume}
use Rattle.array_machine.specs.EditWords.{KeepsSlot, NeedsNoRebuild}
use Rattle.array_edits.specs.RealEdits.{block_edited}
use Rattle.array_edits.proofs.Steady.{IsAlike, Steady, steady_itself, steady_then, closed_steady, has_maps}
use Rattle.array_edits.proofs.Steps.{if_either, dirty_steady, pass_steady, migration_steady, with_pass_steady}
use Rattle.array_edits.proofs.Supports.{any_fails}
use Rattle.array_edits.proofs.Sound.{IsSound}
use Rattle.array_edits.proofs.Slots.{keeps_itself, kept_as, if_same, opened_member, closed_in}
use Rattle.array_edits.proofs.Means.{Means, one_volume}
use Rattle.array_edits.proofs.Marks.{volume_is, is_kind, dirty_is, pass_good, pass_dirty, stated, other_number}
use Rattle.array_edits.proofs.Closes.{closed_good, closed_dirty, alike_served}
use Rattle.std.specs.List.{AllByRecursion}
use Rattle.array_edits.proofs.Idle.{words_of, pass_stays, whole_words}

-- ONE OF FOUR

-- an unfinished volume gets a pass over its rows
abbrev pub resynced : Volume → Volume
resynced v = volume_with_pass (resync_type v) (pass_start v / 128) (volume_with_dirty false (with_migration v))

-- what holds of each way that a volume may start
pub each_start : (P : Volume → Type 0) (b : Block) (v : Volume) → (is_unfinished v ≡ true → P (resynced v)) → (is_unfinished v ≡ false → P (with_pass 1 (pass_start v / 128) v)) →
    (is_unfinished v ≡ false → has_to_rebuild b v ≡ false → P (volume_without_migration v)) → (is_unfinished v ≡ false → has_to_rebuild b v ≡ false → has_pass v ≡ false → P v) → P (with_start b v)
each_start P b v resync rebuild close idle =
    let rest : Volume = if has_pass v then volume_without_migration v else v in
    let again : Volume = if has_to_rebuild b v then with_pass 1 (pass_start v / 128) v else rest in
    if_either P (is_unfinished v) (resynced v) again resync
    (λ finished. if_either P (has_to_rebuild b v) (with_pass 1 (pass_start v / 128) v) rest (λ e. rebuild finished)
    (λ whole. if_either P (has_pass v) (volume_without_migration v) v (λ e. close finished whole) (λ e. idle finished whole e)))

-- WHERE IT LIES

pub opened_pass : (v : Volume) → IsVolume v → has_pass (with_migration v) ≡ true
opened_pass v is = opened v (fields_of state_lengths v.state is.state)

start_steady : (b : Block) (v : Volume) → IsVolume v → IsAlike v → Steady v (with_start b v)
start_steady b v is like =
    let w : Volume = with_migration v in
    let x : Volume = volume_with_dirty false w in
    let one : Steady v w = migration_steady v is like in
    let two : Steady v x = steady_then v w x one (dirty_steady false w one.is) in
    each_start (Steady v) b v (λ e. steady_then v x (resynced v) two (pass_steady (resync_type v) (pass_start v / 128) x two.is))
    (λ e. with_pass_steady 1 (pass_start v / 128) v is like) (λ e f. closed_steady v is like) (λ e f g. steady_itself v is)

resync_kind : (t : Bool) → is_kind (if t then 0 else 5) ≡ true
resync_kind true = refl
resync_kind false = refl

start_good : (b : Block) (v : Volume) → IsVolume v → IsAlike v → has_migration v ≡ true → has_migration (with_start b v) ≡ true
start_good b v is like good =
    let w : Volume = with_migration v in
    let one : Steady v w = migration_steady v is like in
    let x : Volume = volume_with_dirty false w in
    let two : Steady w x = dirty_steady false w one.is in
    let unit : ℕ = pass_start v / 128 in
    each_start (λ y. has_migration y ≡ true) b v
    (λ e. pass_good (resync_type v) unit x two.is (ap (λ (n : ℕ). not (n == 0)) (other_state false w 2 (λ f. omega arith)) ∙ opened_pass v is) (resync_kind (map_state_of (first_map v) == 1 || has_pass_of (0 ∷ []) v)))
    (λ e. pass_good 1 unit w one.is (opened_pass v is) refl) (λ e f. closed_good v is) (λ e f g. good)

-- ITS SLOTS

-- a slot of an expected disk is in sync where none is to be rebuilt
pub rebuilds_none : (b : Block) (v : Volume) (s : ℕ) → s < member_count_of (first_map v) → has_to_rebuild b v ≡ false → is_expected_at b (member v s).index ≡ true → (member v s).is_out ≡ false
rebuilds_none b v s below whole expected =
    let test : Member → Bool = λ m. m.is_out && is_expected_at b m.index in
    let fine : test (member v s) ≡ false = sym (ap test (member_here v s blank below)) ∙ any_fails test (members v) s blank whole (omega (arith, length_members v)) in
    not_both (member v s).is_out (is_expected_at b (member v s).index) expected fine
  where
    not_both : (t u : Bool) → u ≡ true → (t && u) ≡ false → t ≡ false
    not_both true u e none = absurd (cc (sym e ∙ none))
    not_both false u e none = refl

-- a slot that isn't to be rebuilt is in sync without its second map as it was with it
same_sync : (out now expected : Bool) → (out && expected) ≡ false → (out ≡ false → now ≡ false) → (not now && expected) ≡ (not out && expected)
same_sync true true true e f = refl
same_sync true false true e f = absurd (cc e)
same_sync false true true e f = absurd (cc (f refl))
same_sync false false true e f = refl
same_sync true true false e f = refl
same_sync true false false e f = refl
same_sync false true false e f = refl
same_sync false false false e f = refl

-- a pass that has nothing to rebuild closes, and each slot stays
pub closed_slot : (b : Block) (v : Volume) (s : ℕ) → IsVolume v → s < member_count_of (first_map v) → has_to_rebuild b v ≡ false → KeepsSlot (slot_words b (member v s)) (slot_words b (member (volume_without_migration v) s))
closed_slot b v s is below whole =
    let test : Member → Bool = λ m. m.is_out && is_expected_at b m.index in
    let fine : test (member v s) ≡ false = sym (ap test (member_here v s blank below)) ∙ any_fails test (members v) s blank whole (omega (arith, length_members v)) in
    record {
      serial = refl;
      expected = refl;
      in_sync = same_sync (member v s).is_out (member (volume_without_migration v) s).is_out (is_expected_at b (member v s).index) fine (closed_in v s (has_maps v is).0);
    }

start_slot : (b : Block) (v : Volume) (s : ℕ) → IsVolume v → s < member_count_of (first_map v) → KeepsSlot (slot_words b (member v s)) (slot_words b (member (with_start b v) s))
start_slot b v s is below =
    let same : member (with_migration v) s ≡ member v s = opened_member v s is below in
    each_start (λ y. KeepsSlot (slot_words b (member v s)) (slot_words b (member y s))) b v
    (λ e. kept_as b (member v s) (member (resynced v) s) same) (λ e. kept_as b (member v s) (member (with_pass 1 (pass_start v / 128) v) s) same)
    (λ e whole. closed_slot b v s is below whole) (λ e f g. keeps_itself (slot_words b (member v s)))

start_index : (b : Block) (v : Volume) (s : ℕ) → IsVolume v → s < member_count_of (first_map v) → (member (with_start b v) s).index ≡ (member v s).index
start_index b v s is below =
    let same : (member (with_migration v) s).index ≡ (member v s).index = ap (λ (m : Member). m.index) (opened_member v s is below) in
    each_start (λ y. (member y s).index ≡ (member v s).index) b v (λ e. same) (λ e. same) (λ e f. refl) (λ e f g. refl)

-- THE DIRTY BIT

pub opened_dirty : (v : Volume) → is_dirty (with_migration v) ≡ is_dirty v
opened_dirty v =
    if_same (has_pass v) is_dirty v (volume_with_migration v) v refl
    (ap (λ (f : List ℕ). bit_at (number f) 0 == 1) (get_or-set_other v.state 2 4 (little_bytes 1 1) [] (λ e. omega arith)))

-- what the edit says of it
said : (here unfinished dirty : Bool) → here ≡ true → (t : Bool) → (unfinished ≡ true → t ≡ false) → (unfinished ≡ false → t ≡ dirty) → t ≡ (not (here && unfinished) && dirty)
said true true dirty e t first second = first refl
said true false dirty e t first second = second refl
said false unfinished dirty e t first second = absurd (cc e)

start_dirty : (b : Block) (k : ℕ) (v : Volume) → IsVolume v → IsAlike v → is_dirty (with_start b v) ≡ (not ((k == k) && is_unfinished v) && is_dirty v)
start_dirty b k v is like =
    let w : Volume = with_migration v in
    let one : Steady v w = migration_steady v is like in
    let unit : ℕ = pass_start v / 128 in
    let word : Bool = not ((k == k) && is_unfinished v) && is_dirty v in
    let finished : (t : Bool) → is_unfinished v ≡ false → t ≡ is_dirty v → t ≡ word =
    λ t e same. said (k == k) (is_unfinished v) (is_dirty v) (eq-eqb k k refl) t (λ f. absurd (cc f)) (λ f. same) in
    each_start (λ y. is_dirty y ≡ word) b v
    (λ e. said (k == k) (is_unfinished v) (is_dirty v) (eq-eqb k k refl) (is_dirty (resynced v)) (λ f. pass_dirty (resync_type v) unit (volume_with_dirty false w) ∙ dirty_is false w one.is) (λ f. absurd (cc f)))
    (λ e. finished (is_dirty (with_pass 1 unit v)) e (pass_dirty 1 unit w ∙ opened_dirty v))
    (λ e f. finished (is_dirty (volume_without_migration v)) e (closed_dirty v)) (λ e f g. finished (is_dirty v) e refl)

-- ITS PASS

-- where none is open behind it nothing is to be rebuilt
start_idle : (b : Block) (v : Volume) → IsVolume v → has_pass (with_start b v) ≡ false → AllByRecursion NeedsNoRebuild (words_of b (with_start b v))
start_idle b v is =
    let w : Volume = with_migration v in
    let unit : ℕ = pass_start v / 128 in
    let open_one : has_pass w ≡ true = opened_pass v is in
    let cleared : has_pass (volume_with_dirty false w) ≡ true = ap (λ (n : ℕ). not (n == 0)) (other_state false w 2 (λ f. omega arith)) ∙ open_one in
    each_start (λ y. has_pass y ≡ false → AllByRecursion NeedsNoRebuild (words_of b y)) b v
    (λ e idle. absurd (false≢true (sym idle ∙ pass_stays (resync_type v) unit (volume_with_dirty false w) ∙ cleared)))
    (λ e idle. absurd (false≢true (sym idle ∙ pass_stays 1 unit w ∙ open_one)))
    (λ e whole idle. whole_words b (volume_without_migration v) (λ s below expected. closed_in v s (has_maps v is).0 (rebuilds_none b v s below whole expected)))
    (λ e whole none idle. whole_words b v (λ s below expected. rebuilds_none b v s below whole expected))

-- THE EDIT

pub start_means : (start : Start) (f : Facts) (b : Block) (k : ℕ) → IsSound start b → start.is_started k ≡ true → Means start f (StartsVolume k) b (block_edited start f b (StartsVolume k))
start_means start f b k s started =
    let v : Volume = volume_at k b in
    let below : k < length b.volumes = (s.served k started).below in
    let is : IsVolume v = volume_is start b k s below in
    let like : IsAlike v = alike_served start b k s started in
    one_volume start f (StartsVolume k) b k (λ x. with_states b (f.is_broken k) (with_start b x)) s
    (stated f (StartsVolume k) b k (f.is_broken k) (with_start b) (record {
      below = below;
      steady = start_steady b v is like;
      migration = start_good b v is like;
      index = λ i inside. start_index b v i is inside;
      slot = λ i inside. start_slot b v i is inside;
      dirty = start_dirty b k v is like;
      generation = λ n. refl;
      expects = λ serial x. refl;
      other_slot = λ w other slot. keeps_itself slot;
      pass = λ idle. inr (start_idle b v is idle);
      other_pass = λ w other was ws none. inl (none, other_number k w other);
      other_dirty = λ w other u x. ap (λ (t : Bool). not (t && u) && x) (other_number k w other);
    }))
