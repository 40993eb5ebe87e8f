-- A volume as it starts, by the case that holds; and a pass that is closed.
use Rattle.std.proofs.Common.{◌≡◌, ℕ, ◌/◌, ◌<◌, ◌==◌, ◌&&◌, ◌||◌, not, Bool, true, false, if◌then◌else◌, List, [], ◌∷◌, length, set, refl, sym, ◌∙◌, ap, arith}
use Rattle.std.specs.List.{list_any}
use Rattle.std.proofs.lemmas.Bool.{true≢false}
use Rattle.std.proofs.lemmas.List.{get_or-set_other, get_or-set_same}
use Rattle.imsm_base.specs.Fields.{Part, number}
use Rattle.imsm_base.specs.Layout.{Block, Volume, map_state_of, migration_type_of, dirty_byte_of}
use Rattle.imsm_base.specs.Volumes.{first_map, has_pass, is_unfinished, pass_start}
use Rattle.imsm_base.specs.Edits.{volume_with_dirty, with_lowest_bit}
use Rattle.imsm_base.specs.EditsOfTables.{with_volume, with_map, map_with_state, volume_with_pass, volume_without_migration}
use Rattle.byteorder.specs.Endian.{little_bytes}
use Rattle.imsm_codec.specs.Mpb.{volume_at}
use Rattle.imsm_view.specs.declared.volume.Volume.{Volume as View}
use Rattle.imsm_edit.specs.Meanings.{is_init, has_out, state_now, state_before, with_states, edited, Tells}
use Rattle.imsm_edit.specs.Passes.{with_migration, with_pass, resync_type, has_to_rebuild, with_start, marked_started, seen_resync}
use Rattle.imsm_edit.proofs.Changes.{volume_changed, block_twice, block_as}
use Rattle.imsm_edit.proofs.Told.{type_is, states_if, edit_done, edited_after}

-- A PASS THAT IS CLOSED

pub closed : (v : Volume) → length v.state ≡ 10 → has_pass (volume_without_migration v) ≡ false
closed v long =
    let idle : Part = set v.state 2 (little_bytes 1 0) in
    let typed : Part = set idle 3 (little_bytes 1 0) in
    let marked : Part = set typed 1 (little_bytes 4 0) in
    let half : Part = set marked 0 (little_bytes 4 0) in
    ap (λ (f : List ℕ). not (number f == 0))
    (get_or-set_other half 8 2 (little_bytes 4 0) [] (λ e. omega arith) ∙ get_or-set_other marked 0 2 (little_bytes 4 0) [] (λ e. omega arith)
    ∙ get_or-set_other typed 1 2 (little_bytes 4 0) [] (λ e. omega arith) ∙ get_or-set_other idle 3 2 (little_bytes 1 0) [] (λ e. omega arith)
    ∙ get_or-set_same v.state 2 (little_bytes 1 0) [] (omega arith))

pub closed_there : (b mid : Block) (k : ℕ) → k < length b.volumes → length (volume_at k b).state ≡ 10 → mid ≡ with_volume k volume_without_migration b → has_pass (volume_at k mid) ≡ false
closed_there b mid k below long made =
    ap (λ (x : Block). has_pass (volume_at k x)) made ∙ ap has_pass (volume_changed b k volume_without_migration below) ∙ closed (volume_at k b) long

-- the states of a volume without a pass
abbrev alone_if : Bool → Bool → Bool → Volume → ℕ
alone_if broken out pass v = if broken then 3 else (if out then 2 else (if pass && list_any (λ t. t == migration_type_of v) (0 ∷ []) then 1 else 0))

pub close_done : (b mid new : Block) (k state : ℕ) (broken : Bool) → k < length b.volumes → mid ≡ with_volume k volume_without_migration b → has_pass (volume_at k mid) ≡ false →
    state ≡ (if broken then 3 else (if has_out (volume_at k mid) then 2 else 0)) → new ≡ with_volume k (with_map 0 (map_with_state state)) mid → new ≡ edited b k broken volume_without_migration
close_done b mid new k state broken below made idle is set =
    let w : Volume = volume_at k mid in
    let now : state ≡ state_now broken w = is ∙ ap (λ (p : Bool). alone_if broken (has_out w) p w) (sym idle) in
    edit_done b mid new k broken volume_without_migration made
    (set ∙ block_as mid k (with_map 0 (map_with_state state)) (with_states mid broken)
    (ap (λ (n : ℕ). with_map 0 (map_with_state n) w) now
    ∙ ap (λ (p : Bool). states_if p (state_now broken w) (state_before mid broken w) w) (sym idle)))

-- A VOLUME THAT STARTS

pub resync_is : (b : Block) (v : Volume) (view : View) → Tells b v view → view.state ≡ map_state_of (first_map v) → seen_resync view ≡ resync_type v
resync_is b v view told state =
    ap (λ (t : Bool). if view.state == 1 || t then 0 else 5) (type_is is_init b v view told)
    ∙ ap (λ (n : ℕ). if n == 1 || (has_pass v && is_init (migration_type_of v)) then 0 else 5) state

pub dirty_open : (on : Bool) (v : Volume) → has_pass (volume_with_dirty on v) ≡ has_pass v
dirty_open on v =
    ap (λ (f : List ℕ). not (number f == 0)) (get_or-set_other v.state 4 2 (little_bytes 1 (with_lowest_bit (dirty_byte_of v) on)) [] (λ e. omega arith))

pub rebuild_wanted : (p q : Bool) → (p || q) ≡ true → p ≡ false → q ≡ true
rebuild_wanted true q e f = absurd (true≢false f)
rebuild_wanted false q e f = e

pub rebuild_not : (p q : Bool) → (p || q) ≡ false → q ≡ false
rebuild_not true q e = absurd (true≢false e)
rebuild_not false q e = e

abbrev start_if : Bool → Bool → Bool → Block → Volume → Volume
start_if unfinished rebuild open_one b v =
    if unfinished then volume_with_pass (resync_type v) (pass_start v / 128) (volume_with_dirty false (with_migration v))
    else (if rebuild then with_pass 1 (pass_start v / 128) v
    else (if open_one then volume_without_migration v else v))

start_is : (b : Block) (v : Volume) (unfinished rebuild open_one : Bool) → is_unfinished v ≡ unfinished → has_to_rebuild b v ≡ rebuild → has_pass v ≡ open_one → start_if unfinished rebuild open_one b v ≡ with_start b v
start_is b v unfinished rebuild open_one is_unf is_reb is_open =
    ap (λ (t : Bool). start_if t rebuild open_one b v) (sym is_unf)
    ∙ ap (λ (t : Bool). start_if (is_unfinished v) t open_one b v) (sym is_reb)
    ∙ ap (λ (t : Bool). start_if (is_unfinished v) (has_to_rebuild b v) t b v) (sym is_open)

pub clean_opened : (b c d : Block) (k : ℕ) → c ≡ with_volume k with_migration b → d ≡ with_volume k (volume_with_dirty false) c → d ≡ with_volume k (λ x. volume_with_dirty false (with_migration x)) b
clean_opened b c d k opened cleaned =
    cleaned ∙ ap (with_volume k (volume_with_dirty false)) opened
    ∙ block_twice b k (volume_with_dirty false) with_migration (λ x. volume_with_dirty false (with_migration x)) refl

pub resync_started : (b c d new : Block) (k kind unit : ℕ) (broken : Bool) → is_unfinished (volume_at k b) ≡ true → kind ≡ resync_type (volume_at k b) → unit ≡ pass_start (volume_at k b) / 128 → c ≡ with_volume k with_migration b →
    d ≡ with_volume k (volume_with_dirty false) c → new ≡ edited d k broken (volume_with_pass kind unit) → new ≡ marked_started b k broken
resync_started b c d new k kind unit broken unfinished is_kind is_unit opened cleaned made =
    let v : Volume = volume_at k b in
    let w : Volume = volume_with_dirty false (with_migration v) in
    edited_after b d new k broken (λ x. volume_with_dirty false (with_migration x)) (volume_with_pass kind unit) (with_start b)
    (clean_opened b c d k opened cleaned) made
    (ap (λ (n : ℕ). volume_with_pass n unit w) is_kind ∙ ap (λ (n : ℕ). volume_with_pass (resync_type v) n w) is_unit
    ∙ start_is b v true (has_to_rebuild b v) (has_pass v) unfinished refl refl)

pub rebuild_started : (b c new : Block) (k unit : ℕ) (broken : Bool) → is_unfinished (volume_at k b) ≡ false → has_to_rebuild b (volume_at k b) ≡ true → unit ≡ pass_start (volume_at k b) / 128 → c ≡ with_volume k with_migration b →
    new ≡ edited c k broken (volume_with_pass 1 unit) → new ≡ marked_started b k broken
rebuild_started b c new k unit broken finished rebuild is_unit opened made =
    let v : Volume = volume_at k b in
    edited_after b c new k broken with_migration (volume_with_pass 1 unit) (with_start b) opened made
    (ap (λ (n : ℕ). volume_with_pass 1 n (with_migration v)) is_unit ∙ start_is b v false true (has_pass v) finished rebuild refl)

pub closed_started : (b new : Block) (k : ℕ) (broken : Bool) → is_unfinished (volume_at k b) ≡ false → has_to_rebuild b (volume_at k b) ≡ false → has_pass (volume_at k b) ≡ true → new ≡ edited b k broken volume_without_migration → new ≡ marked_started b k broken
closed_started b new k broken finished whole open_one made =
    made ∙ block_as b k (λ x. with_states b broken (volume_without_migration x)) (λ x. with_states b broken (with_start b x))
    (ap (with_states b broken) (start_is b (volume_at k b) false false true finished whole open_one))

pub idle_started : (b new : Block) (k : ℕ) (broken : Bool) → is_unfinished (volume_at k b) ≡ false → has_to_rebuild b (volume_at k b) ≡ false → has_pass (volume_at k b) ≡ false → new ≡ with_volume k (with_states b broken) b → new ≡ marked_started b k broken
idle_started b new k broken finished whole idle made =
    made ∙ block_as b k (with_states b broken) (λ x. with_states b broken (with_start b x))
    (ap (with_states b broken) (start_is b (volume_at k b) false false false finished whole idle))

-- WHAT IS OPENED WHERE IT IS WANTED

pub was_opened : (t : Bool) (x y c : Block) → c ≡ (if t then x else y) → t ≡ true → c ≡ x
was_opened t x y c made is = made ∙ ap (λ (s : Bool). if s then x else y) is

pub was_left : (t : Bool) (x y c : Block) → c ≡ (if t then x else y) → t ≡ false → c ≡ y
was_left t x y c made is = made ∙ ap (λ (s : Bool). if s then x else y) is
