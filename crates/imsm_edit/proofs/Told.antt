-- The states by a view are those of the volume; and an edit that leaves slots and pass keeps what the view tells.
use Rattle.std.proofs.Common.{◌≡◌, ℕ, ◌<◌, ◌/◌, ◌%◌, ◌^◌, ◌==◌, ◌&&◌, not, Bool, true, false, if◌then◌else◌, List, [], length, map, set, Option, Some, None, refl, sym, ◌∙◌, ap, subst, arith}
use Rattle.std.specs.Prelude.{is_some}
use Rattle.std.specs.Option.{option_map_or}
use Rattle.std.specs.List.{list_any}
use Rattle.std.proofs.lemmas.List.{get_or-set_other, get_or-set_same}
use Rattle.imsm_base.specs.Fields.{Part, number}
use Rattle.imsm_base.specs.Layout.{Block, Volume, Map, map_count_of, migration_state_of, migration_type_of, dirty_byte_of}
use Rattle.imsm_base.specs.Volumes.{members, has_pass, pass_of}
use Rattle.imsm_base.specs.Edits.{volume_with_dirty, with_lowest_bit}
use Rattle.byteorder.specs.Endian.{little_bytes}
use Rattle.std.proofs.lemmas.Bool.{false≢true}
use Rattle.imsm_base.specs.EditsOfTables.{with_volume, with_map, map_with_state}
use Rattle.imsm_codec.specs.Mpb.{volume_at}
use Rattle.imsm_view.specs.declared.volume.Volume.{Volume as View}
use Rattle.imsm_view.specs.declared.volume.SlotView.{SlotView}
use Rattle.imsm_view.specs.Views.{IsVolume, slot_view}
use Rattle.imsm_view.proofs.Words.{list_any-map}
use Rattle.imsm_edit.specs.Meanings.{has_out, state_now, state_before, seen_now, seen_before, is_init, with_states, edited, at_point, Tells}
use Rattle.imsm_edit.proofs.Changes.{volume_changed, block_twice, block_as}
use Rattle.imsm_buffer.proofs.TableEdits.{number-one}

-- a test of the open pass's type, and one of the slots
open_test : (f : ℕ → Bool) (p : Bool) (t : ℕ) → option_map_or f (if p then Some t else None) false ≡ (p && f t)
open_test f true t = refl
open_test f false t = refl

pub type_is : (f : ℕ → Bool) (b : Block) (v : Volume) (view : View) → Tells b v view → option_map_or f view.pass false ≡ (has_pass v && f (migration_type_of v))
type_is f b v view told = ap (λ (o : Option ℕ). option_map_or f o false) told.pass ∙ open_test f (has_pass v) (migration_type_of v)

pub slots_are : (b : Block) (v : Volume) (view : View) (p : SlotView → Bool) → Tells b v view → list_any p view.slots.items ≡ list_any (λ m. p (slot_view b m)) (members v)
slots_are b v view p told = ap (list_any p) told.slots ∙ list_any-map p (slot_view b) (members v)

pub now_is : (b : Block) (v : Volume) (view : View) (broken : Bool) → Tells b v view → seen_now broken view ≡ state_now broken v
now_is b v view broken told =
    ap (λ (t : Bool). if broken then 3 else (if t then 2 else (if option_map_or is_init view.pass false then 1 else 0))) (slots_are b v view (λ s. s.out) told)
    ∙ ap (λ (t : Bool). if broken then 3 else (if has_out v then 2 else (if t then 1 else 0))) (type_is is_init b v view told)

pub before_is : (b : Block) (v : Volume) (view : View) (broken : Bool) → Tells b v view → seen_before broken view ≡ state_before b broken v
before_is b v view broken told =
    ap (λ (t : Bool). if broken then 3 else (if t then 2 else 0)) (slots_are b v view (λ s. s.out && not s.expected) told)

-- whether a pass is open
pub pass_open : (b : Block) (v : Volume) (view : View) → Tells b v view → is_some view.pass ≡ true → has_pass v ≡ true
pass_open b v view told some = open_from (has_pass v) (migration_type_of v) (ap is_some (sym told.pass) ∙ some)
  where
    open_from : (p : Bool) (t : ℕ) → is_some {T = ℕ} (if p then Some t else None) ≡ true → p ≡ true
    open_from true t e = refl
    open_from false t e = e

pub pass_closed : (b : Block) (v : Volume) (view : View) → Tells b v view → is_some view.pass ≡ false → has_pass v ≡ false
pass_closed b v view told none = closed_from (has_pass v) (migration_type_of v) (ap is_some (sym told.pass) ∙ none)
  where
    closed_from : (p : Bool) (t : ℕ) → is_some {T = ℕ} (if p then Some t else None) ≡ false → p ≡ false
    closed_from true t e = e
    closed_from false t e = refl

-- the states are set: in one map, or in two
abbrev pub states_if : Bool → ℕ → ℕ → Volume → Volume
states_if pass now before v =
    if pass then with_map 1 (map_with_state now) (with_map 0 (map_with_state before) v) else with_map 0 (map_with_state now) v

pub set_alone : (b new : Block) (k : ℕ) (view : View) (broken : Bool) (now : ℕ) → Tells b (volume_at k b) view → is_some view.pass ≡ false → now ≡ seen_now broken view →
    new ≡ with_volume k (with_map 0 (map_with_state now)) b → new ≡ with_volume k (with_states b broken) b
set_alone b new k view broken now told none is made =
    let v : Volume = volume_at k b in
    made ∙ block_as b k (with_map 0 (map_with_state now)) (with_states b broken)
    (ap (λ (n : ℕ). with_map 0 (map_with_state n) v) (is ∙ now_is b v view broken told)
    ∙ ap (λ (p : Bool). states_if p (state_now broken v) (state_before b broken v) v) (sym (pass_closed b v view told none)))

pub set_both : (b mid new : Block) (k : ℕ) (view : View) (broken : Bool) (now before : ℕ) → Tells b (volume_at k b) view → is_some view.pass ≡ true → now ≡ seen_now broken view → before ≡ seen_before broken view →
    mid ≡ with_volume k (with_map 0 (map_with_state before)) b → new ≡ with_volume k (with_map 1 (map_with_state now)) mid → new ≡ with_volume k (with_states b broken) b
set_both b mid new k view broken now before told some is was first second =
    let v : Volume = volume_at k b in
    second ∙ ap (with_volume k (with_map 1 (map_with_state now))) first
    ∙ block_twice b k (with_map 1 (map_with_state now)) (with_map 0 (map_with_state before)) (with_states b broken)
    (ap (λ (n : ℕ). with_map 1 (map_with_state n) (with_map 0 (map_with_state before) v)) (is ∙ now_is b v view broken told)
    ∙ ap (λ (n : ℕ). with_map 1 (map_with_state (state_now broken v)) (with_map 0 (map_with_state n) v)) (was ∙ before_is b v view broken told)
    ∙ ap (λ (p : Bool). states_if p (state_now broken v) (state_before b broken v) v) (sym (pass_open b v view told some)))

-- a volume of the same maps and pass is told by the same view
pub told_by : (b mid : Block) (k : ℕ) (f : Volume → Volume) (view : View) → IsVolume b (volume_at k b) view → k < length b.volumes → mid ≡ with_volume k f b →
    pass_of (f (volume_at k b)) ≡ pass_of (volume_at k b) → members (f (volume_at k b)) ≡ members (volume_at k b) → Tells mid (volume_at k mid) view
told_by b mid k f view is below made pass same =
    subst (λ (x : Block). Tells x (volume_at k x) view) (sym made)
    (record {
      pass = is.pass ∙ sym pass ∙ ap pass_of (sym (volume_changed b k f below));
      slots = is.slots ∙ ap (map (slot_view b)) (sym same ∙ ap members (sym (volume_changed b k f below)));
    })

-- a view tells of its own volume
pub told_of : (b : Block) (v : Volume) (view : View) → IsVolume b v view → Tells b v view
told_of b v view is = record { pass = is.pass; slots = is.slots }

-- the slots and the pass that are told of a volume which is edited
pub slots_told : (b c : Block) (k : ℕ) (f : Volume → Volume) (view : View) → IsVolume b (volume_at k b) view → k < length b.volumes → c ≡ with_volume k f b →
    members (f (volume_at k b)) ≡ members (volume_at k b) → view.slots.items ≡ map (slot_view c) (members (volume_at k c))
slots_told b c k f view is below made same =
    subst (λ (x : Block). view.slots.items ≡ map (slot_view x) (members (volume_at k x))) (sym made)
    (is.slots ∙ ap (map (slot_view b)) (sym same ∙ ap members (sym (volume_changed b k f below))))

pub open_told : (b c : Block) (k : ℕ) (f : Volume → Volume) → k < length b.volumes → c ≡ with_volume k f b → has_pass (f (volume_at k b)) ≡ true → has_pass (volume_at k c) ≡ true
open_told b c k f below made is = ap (λ (x : Block). has_pass (volume_at k x)) made ∙ ap has_pass (volume_changed b k f below) ∙ is

-- an edit behind another one
pub edited_after : (b c new : Block) (k : ℕ) (broken : Bool) (f g h : Volume → Volume) → c ≡ with_volume k f b → new ≡ edited c k broken g → g (f (volume_at k b)) ≡ h (volume_at k b) → new ≡ edited b k broken h
edited_after b c new k broken f g h first second same =
    second ∙ ap (λ (x : Block). edited x k broken g) first
    ∙ block_twice b k (λ v. with_states b broken (g v)) f (λ v. with_states b broken (h v)) (ap (with_states b broken) same)

pub edit_done : (b mid new : Block) (k : ℕ) (broken : Bool) (f : Volume → Volume) → mid ≡ with_volume k f b → new ≡ with_volume k (with_states mid broken) mid → new ≡ edited b k broken f
edit_done b mid new k broken f made set =
    set ∙ ap (λ (x : Block). with_volume k (with_states x broken) x) made
    ∙ block_twice b k (with_states b broken) f (λ v. with_states b broken (f v)) refl

-- a volume of the same state and type has the same pass
pass_by : (x v : Volume) → migration_state_of x ≡ migration_state_of v → migration_type_of x ≡ migration_type_of v → pass_of x ≡ pass_of v
pass_by x v state type =
    ap (λ (n : ℕ). if not (n == 0) then Some (migration_type_of x) else None) state
    ∙ ap (λ (n : ℕ). if has_pass v then Some n else None) type

pub dirty_pass : (on : Bool) (v : Volume) → pass_of (volume_with_dirty on v) ≡ pass_of v
dirty_pass on v =
    let w : List ℕ = little_bytes 1 (with_lowest_bit (dirty_byte_of v) on) in
    pass_by (volume_with_dirty on v) v
    (ap number (get_or-set_other v.state 4 2 w [] (λ e. omega arith)))
    (ap number (get_or-set_other v.state 4 3 w [] (λ e. omega arith)))

pub point_pass : (unit : ℕ) (v : Volume) → length v.state ≡ 10 → migration_type_of v < 256 → pass_of (at_point unit v) ≡ pass_of v
point_pass unit v long small =
    let w : List ℕ = little_bytes 1 (migration_type_of v) in
    let mark : List ℕ = little_bytes 4 0x494d0001 in
    let low : List ℕ = little_bytes 4 (unit % 2 ^ 32) in
    let high : List ℕ = little_bytes 4 (unit / 2 ^ 32) in
    let typed : Part = set v.state 3 w in
    let marked : Part = set typed 1 mark in
    let half : Part = set marked 0 low in
    pass_by (at_point unit v) v
    (ap number (get_or-set_other half 8 2 high [] (λ e. omega arith) ∙ get_or-set_other marked 0 2 low [] (λ e. omega arith)
    ∙ get_or-set_other typed 1 2 mark [] (λ e. omega arith) ∙ get_or-set_other v.state 3 2 w [] (λ e. omega arith)))
    (ap number (get_or-set_other half 8 3 high [] (λ e. omega arith) ∙ get_or-set_other marked 0 3 low [] (λ e. omega arith)
    ∙ get_or-set_other typed 1 3 mark [] (λ e. omega arith) ∙ get_or-set_same v.state 3 w [] (omega arith))
    ∙ number-one (migration_type_of v) small)

-- there is a second map where a pass is open
two_of : (closed : Bool) → not closed ≡ true → 1 < (if closed then 1 else 2)
two_of true e = absurd (false≢true e)
two_of false e = omega arith

pub second_there : (b mid : Block) (k : ℕ) (g : Map → Map) → mid ≡ with_volume k (with_map 0 g) b → k < length b.volumes → has_pass (volume_at k b) ≡ true → 1 < map_count_of (volume_at k mid)
second_there b mid k g made below open_one =
    subst (λ (x : Block). 1 < map_count_of (volume_at k x)) (sym made)
    (subst (λ (v : Volume). 1 < map_count_of v) (sym (volume_changed b k (with_map 0 g) below)) (two_of (migration_state_of (volume_at k b) == 0) open_one))
