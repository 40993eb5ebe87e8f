-- The edits that leave a pass open or closed: a generation, a name, dirty and clean, how far a pass has come.
use Rattle.std.proofs.Common.{◌≡◌, ◌≢◌, ℕ, ◌<◌, ◌==◌, ◌&&◌, ◌||◌, not, if◌then◌else◌, Bool, true, false, List, [], ◌∷◌, ◌++◌, length, get_or, replicate, Some, None, refl, sym, ◌∙◌, ap, subst, inl, inr, arith}
use Rattle.std.specs.List.{list_any}
use Rattle.std.specs.Int.{bit_at}
use Rattle.std.proofs.lemmas.Bool.{or_cases, eqb-true, eq-eqb, ne_eqb, false≢true}
use Rattle.std.proofs.lemmas.List.{get_or-set_same, get_or-set_other, length-take, length-append, length-replicate}
use Rattle.byteorder.specs.Endian.{little_bytes}
use Rattle.imsm_base.specs.Fields.{Part, number}
use Rattle.imsm_base.specs.Layout.{Block, Volume, IsVolume, header_lengths, state_lengths, migration_type_of}
use Rattle.imsm_base.specs.Volumes.{Member, member, has_pass, has_migration, is_dirty, pass_of}
use Rattle.imsm_base.specs.Edits.{volume_with_dirty, block_with_generation}
use Rattle.imsm_base.specs.EditsOfTables.{volume_with_pass, volume_with_name}
use Rattle.imsm_base.proofs.Edited.{fields_of, other_field, other_state}
use Rattle.imsm_base.proofs.Sealed.{number-four}
use Rattle.imsm_base.proofs.Spliced.{set-lengths}
use Rattle.imsm_codec.specs.Mpb.{volume_at, blank_volume}
use Rattle.imsm_buffer.proofs.Replaced.{all-at}
use Rattle.imsm_edit.specs.Meanings.{with_states, at_point}
use Rattle.imsm_edit.proofs.Opened.{pass_written}
use Rattle.array_model.specs.Start.{Start}
use Rattle.array_model.specs.Renewal.{FitsGeneration}
use Rattle.block_meaning.specs.Meaning.{slot_words}
use Rattle.block_meaning.proofs.Same.{first-dirty}
use Rattle.array_machine.specs.Setting.{Facts, Edit, TakesGeneration, MakesDirty, MakesClean, RecordsUnit, NamesVolume}
use Rattle.array_machine.specs.EditWords.{SlotAfter, HasNoPass}
use Rattle.array_edits.specs.RealEdits.{name_bytes, block_edited}
use Rattle.array_edits.proofs.Steady.{steady_then, with_state}
use Rattle.array_edits.proofs.Steps.{states_steady, dirty_steady, pass_left, pass_steady, name_steady}
use Rattle.array_edits.proofs.Sound.{IsSound, made_sound, served_header, volumes_stay}
use Rattle.array_edits.proofs.Slots.{slots_by, keeps_itself, states_member, states_state}
use Rattle.array_edits.proofs.Means.{Means, AtVolume, one_volume}
use Rattle.array_edits.proofs.Idle.{words_of, pass_none, pass_stays, states_pass, states_words}
use Rattle.array_edits.proofs.Moves.{IsServed}

-- THE GENERATION

pub generation_means : (start : Start) (f : Facts) (b : Block) (g : ℕ) → IsSound start b → FitsGeneration g → Means start f (TakesGeneration g) b (block_edited start f b (TakesGeneration g))
generation_means start f b g s small =
    let bytes : List ℕ = little_bytes 4 g in
    let c : Block = block_with_generation b g in
    let counted = s.counted in
    let bounds = s.bounds in
    let count = other_field b 5 8 bytes (λ e. omega arith) in
    let served : (v : ℕ) → IsServed b v → IsServed c v = λ v is. served_header b c.header v s.is count is in
    record {
      sound = made_sound start b c s (record {
        header = set-lengths header_lengths b.header 5 bytes s.is.header refl;
        signed = get_or-set_other b.header 5 0 bytes [] (λ e. omega arith);
        volume_count = other_field b 5 9 bytes (λ e. omega arith);
        tail_size = other_field b 5 13 bytes (λ e. omega arith);
        gap = refl;
        tail = refl;
        disks = s.is.disks;
        disk_count = s.is.disk_count ∙ sym count;
        volumes = volumes_stay b.volumes s.is.volumes;
      }) (omega (arith, count, counted.some_disk)) (omega (arith, count, counted.few_disks)) (omega (arith, count)) s.apart
          (λ v started. served v (s.served v started));
      served = served;
      volumes = volumes_stay b.volumes s.is.volumes;
      generation = ap number (get_or-set_same b.header 5 bytes [] (omega (arith, fields_of header_lengths b.header s.is.header))) ∙ number-four g small;
      dirty = λ v below. refl;
      past = λ v past. refl;
      expects = λ serial. refl;
      slots = λ v is. slots_by f (TakesGeneration g) v b c (volume_at v b) (volume_at v b) refl (λ i inside. keeps_itself (slot_words b (member (volume_at v b) i)));
      pass = λ v is none. pass_none (volume_at v b) none;
      own = λ serial n expected own. own;
    }

-- WHAT A STATE SAYS

pub volume_is : (start : Start) (b : Block) (k : ℕ) → IsSound start b → k < length b.volumes → IsVolume (volume_at k b)
volume_is start b k s below = all-at IsVolume k b.volumes blank_volume s.is.volumes below

pub migration_same : (v x : Volume) → x.state ≡ v.state → has_migration v ≡ true → has_migration x ≡ true
migration_same v x same good = ap (λ (p : Part). has_migration (with_state p v)) same ∙ good

pub dirty_same : (v x : Volume) → x.state ≡ v.state → is_dirty x ≡ is_dirty v
dirty_same v x same = ap (λ (p : Part). is_dirty (with_state p v)) same

pub dirty_is : (on : Bool) (v : Volume) → IsVolume v → is_dirty (volume_with_dirty on v) ≡ on
dirty_is on v is = first-dirty on (v ∷ []) (is, tt) (omega arith)

-- the types of passes that are supported
abbrev pub is_kind : ℕ → Bool
is_kind kind = list_any (λ t. t == kind) (0 ∷ 1 ∷ 2 ∷ 5 ∷ [])

kind_small : (kind : ℕ) → is_kind kind ≡ true → kind < 256
kind_small kind e =
    elim (or_cases (0 == kind) _ e) [
      | inl is ↦ let same : 0 ≡ kind = eqb-true _ _ is in omega arith
      | inr e1 ↦ elim (or_cases (1 == kind) _ e1) [
        | inl is ↦ let same : 1 ≡ kind = eqb-true _ _ is in omega arith
        | inr e2 ↦ elim (or_cases (2 == kind) _ e2) [
          | inl is ↦ let same : 2 ≡ kind = eqb-true _ _ is in omega arith
          | inr e3 ↦ elim (or_cases (5 == kind) false e3) [
            | inl is ↦ let same : 5 ≡ kind = eqb-true _ _ is in omega arith
            | inr none ↦ absurd (false≢true none)
          ]
        ]
      ]
    ]

by_type : (p : Bool) (type kind : ℕ) → (if p then Some type else None) ≡ Some kind → is_kind kind ≡ true → (not p || (p && is_kind type)) ≡ true
by_type true type kind e good = let same : type ≡ kind = cc e in ap is_kind same ∙ good
by_type false type kind e good = refl

-- a pass that is open is of a supported type
pub kind_of_pass : (v : Volume) → has_pass v ≡ true → has_migration v ≡ true → is_kind (migration_type_of v) ≡ true
kind_of_pass v open_one good = sym (ap (λ (p : Bool). not p || (p && is_kind (migration_type_of v))) open_one) ∙ good

pub pass_good : (kind unit : ℕ) (v : Volume) → IsVolume v → has_pass v ≡ true → is_kind kind ≡ true → has_migration (volume_with_pass kind unit v) ≡ true
pass_good kind unit v is open_one good =
    let x : Volume = volume_with_pass kind unit v in
    by_type (has_pass x) (migration_type_of x) kind (pass_written kind unit v (fields_of state_lengths v.state is.state) open_one (kind_small kind good)) good

-- where no pass is open none is opened
pass_idle : (kind unit : ℕ) (v : Volume) → has_pass v ≡ false → has_migration (volume_with_pass kind unit v) ≡ true
pass_idle kind unit v idle =
    let x : Volume = volume_with_pass kind unit v in
    let left : has_pass x ≡ false = ap (λ (n : ℕ). not (n == 0)) (pass_left kind unit 2 v (λ e. omega arith) (λ e. omega arith) (λ e. omega arith) (λ e. omega arith)) ∙ idle in
    ap (λ (p : Bool). not p || (p && is_kind (migration_type_of x))) left

pub point_good : (unit : ℕ) (v : Volume) → IsVolume v → has_migration v ≡ true → has_migration (at_point unit v) ≡ true
point_good unit v is good = by_pass (has_pass v) refl
  where
    by_pass : (p : Bool) → has_pass v ≡ p → has_migration (at_point unit v) ≡ true
    by_pass true open_one = pass_good (migration_type_of v) unit v is open_one (kind_of_pass v open_one good)
    by_pass false idle = pass_idle (migration_type_of v) unit v idle

pub pass_dirty : (kind unit : ℕ) (v : Volume) → is_dirty (volume_with_pass kind unit v) ≡ is_dirty v
pass_dirty kind unit v =
    ap (λ (n : ℕ). bit_at n 0 == 1) (pass_left kind unit 4 v (λ e. omega arith) (λ e. omega arith) (λ e. omega arith) (λ e. omega arith))

migration_by : (v x : Volume) → number (get_or x.state 2 []) ≡ number (get_or v.state 2 []) → number (get_or x.state 3 []) ≡ number (get_or v.state 3 []) → has_migration v ≡ true → has_migration x ≡ true
migration_by v x state type good =
    ap (λ (n : ℕ). not (not (n == 0)) || (not (n == 0) && is_kind (migration_type_of x))) state
    ∙ ap (λ (n : ℕ). not (has_pass v) || (has_pass v && is_kind n)) type ∙ good

pub dirty_good : (on : Bool) (v : Volume) → has_migration v ≡ true → has_migration (volume_with_dirty on v) ≡ true
dirty_good on v good = migration_by v (volume_with_dirty on v) (other_state on v 2 (λ e. omega arith)) (other_state on v 3 (λ e. omega arith)) good

dirty_pass : (on : Bool) (v : Volume) → has_pass (volume_with_dirty on v) ≡ has_pass v
dirty_pass on v = ap (λ (n : ℕ). not (n == 0)) (other_state on v 2 (λ e. omega arith))

-- THE STATES AFTER AN EDIT

-- an edit that is followed by the states means what it means
pub stated : (f : Facts) (e : Edit) (b : Block) (k : ℕ) (broken : Bool) (h : Volume → Volume) → AtVolume f e b k h → AtVolume f e b k (λ v. with_states b broken (h v))
stated f e b k broken h a =
    let v : Volume = volume_at k b in
    let x : Volume = h v in
    record {
      below = a.below;
      steady = steady_then v x (with_states b broken x) a.steady (states_steady b broken x a.steady.is);
      migration = λ good. migration_same x (with_states b broken x) (states_state b broken x) (a.migration good);
      index = λ i inside. ap (λ (m : Member). m.index) (states_member b broken x i) ∙ a.index i inside;
      slot = λ i inside. subst (λ (m : Member). SlotAfter f e k (slot_words b (member v i)) (slot_words b m)) (sym (states_member b broken x i)) (a.slot i inside);
      dirty = dirty_same x (with_states b broken x) (states_state b broken x) ∙ a.dirty;
      generation = a.generation;
      expects = a.expects;
      pass = λ idle. subst (HasNoPass e k (pass_of v) (words_of b v)) (sym (states_words b b broken x a.steady.is))
          (a.pass (sym (states_pass b broken x) ∙ idle));
      other_slot = a.other_slot;
      other_pass = a.other_pass;
      other_dirty = a.other_dirty;
    }

-- THE EDITS

pub other_number : (k v : ℕ) → v ≢ k → (k == v) ≡ false
other_number k v other = ne_eqb k v (λ e. other (sym e))

pub dirty_means : (start : Start) (f : Facts) (b : Block) (k : ℕ) → IsSound start b → start.is_started k ≡ true → Means start f (MakesDirty k) b (block_edited start f b (MakesDirty k))
dirty_means start f b k s started =
    let v : Volume = volume_at k b in
    let below : k < length b.volumes = (s.served k started).below in
    let is : IsVolume v = volume_is start b k s below in
    one_volume start f (MakesDirty k) b k (λ y. with_states b (f.is_broken k) (volume_with_dirty true y)) s
    (stated f (MakesDirty k) b k (f.is_broken k) (volume_with_dirty true) (record {
      below = below;
      steady = dirty_steady true v is;
      migration = dirty_good true v;
      index = λ i inside. refl;
      slot = λ i inside. keeps_itself (slot_words b (member v i));
      pass = λ idle. pass_none v (sym (dirty_pass true v) ∙ idle);
      dirty = dirty_is true v is ∙ sym (ap (λ (t : Bool). t || is_dirty v) (eq-eqb k k refl));
      generation = λ n. refl;
      expects = λ serial y. refl;
      other_slot = λ w other slot. keeps_itself slot;
      other_pass = λ w other was ws none. none;
      other_dirty = λ w other u y. ap (λ (t : Bool). t || y) (other_number k w other);
    }))

pub clean_means : (start : Start) (f : Facts) (b : Block) (k : ℕ) → IsSound start b → start.is_started k ≡ true → Means start f (MakesClean k) b (block_edited start f b (MakesClean k))
clean_means start f b k s started =
    let v : Volume = volume_at k b in
    let below : k < length b.volumes = (s.served k started).below in
    let is : IsVolume v = volume_is start b k s below in
    one_volume start f (MakesClean k) b k (λ y. with_states b (f.is_broken k) (volume_with_dirty false y)) s
    (stated f (MakesClean k) b k (f.is_broken k) (volume_with_dirty false) (record {
      below = below;
      steady = dirty_steady false v is;
      migration = dirty_good false v;
      index = λ i inside. refl;
      slot = λ i inside. keeps_itself (slot_words b (member v i));
      pass = λ idle. pass_none v (sym (dirty_pass false v) ∙ idle);
      dirty = dirty_is false v is ∙ sym (ap (λ (t : Bool). not t && is_dirty v) (eq-eqb k k refl));
      generation = λ n. refl;
      expects = λ serial y. refl;
      other_slot = λ w other slot. keeps_itself slot;
      other_pass = λ w other was ws none. none;
      other_dirty = λ w other u y. ap (λ (t : Bool). not t && y) (other_number k w other);
    }))

pub unit_means : (start : Start) (f : Facts) (b : Block) (k unit : ℕ) → IsSound start b → start.is_started k ≡ true → Means start f (RecordsUnit k unit) b (block_edited start f b (RecordsUnit k unit))
unit_means start f b k unit s started =
    let v : Volume = volume_at k b in
    let below : k < length b.volumes = (s.served k started).below in
    let is : IsVolume v = volume_is start b k s below in
    one_volume start f (RecordsUnit k unit) b k (λ y. with_states b (f.is_broken k) (at_point unit y)) s
    (stated f (RecordsUnit k unit) b k (f.is_broken k) (at_point unit) (record {
      below = below;
      steady = pass_steady (migration_type_of v) unit v is;
      migration = point_good unit v is;
      index = λ i inside. refl;
      slot = λ i inside. keeps_itself (slot_words b (member v i));
      pass = λ idle. pass_none v (sym (pass_stays (migration_type_of v) unit v) ∙ idle);
      dirty = pass_dirty (migration_type_of v) unit v;
      generation = λ n. refl;
      expects = λ serial y. refl;
      other_slot = λ w other slot. keeps_itself slot;
      other_pass = λ w other was ws none. none;
      other_dirty = λ w other u y. refl;
    }))

name_long : (name : List ℕ) → length (name_bytes name) ≡ 16
name_long name =
    omega (arith, length-take 16 (name ++ replicate 16 0), length-append name (replicate 16 0), length-replicate {A = ℕ} 16 0)

pub name_means : (start : Start) (f : Facts) (b : Block) (k : ℕ) (name : List ℕ) → IsSound start b → k < length b.volumes → Means start f (NamesVolume k name) b (block_edited start f b (NamesVolume k name))
name_means start f b k name s below =
    let v : Volume = volume_at k b in
    one_volume start f (NamesVolume k name) b k (volume_with_name (name_bytes name)) s (record {
      below = below;
      steady = name_steady (name_bytes name) v (name_long name) (volume_is start b k s below);
      migration = λ good. good;
      index = λ i inside. refl;
      slot = λ i inside. keeps_itself (slot_words b (member v i));
      pass = λ idle. pass_none v idle;
      dirty = refl;
      generation = λ n. refl;
      expects = λ serial y. refl;
      other_slot = λ w other slot. keeps_itself slot;
      other_pass = λ w other was ws none. none;
      other_dirty = λ w other u y. refl;
    })
