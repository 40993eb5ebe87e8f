-- A volume whose pass is opened: its slots stay, and the pass is of the type that is written.
use Rattle.std.proofs.Common.{◌≡◌, ℕ, ◌<◌, ◌/◌, ◌%◌, ◌^◌, ◌==◌, ◌||◌, not, Bool, true, false, if◌then◌else◌, List, [], length, map, set, Some, None, refl, sym, ◌∙◌, ap, subst, arith}
use Rattle.std.proofs.lemmas.List.{get_or-set_other, get_or-set_same}
use Rattle.byteorder.specs.Endian.{little_bytes}
use Rattle.imsm_base.specs.Fields.{Part, number}
use Rattle.imsm_base.specs.Layout.{Block, Volume, volume_count_of, map_count_of, migration_state_of, migration_type_of}
use Rattle.imsm_base.specs.Volumes.{Member, member, members, slots_of, order_at, first_map, has_pass, pass_of}
use Rattle.imsm_base.specs.EditsOfTables.{with_volume, volume_with_pass, volume_with_migration}
use Rattle.imsm_codec.specs.Mpb.{volume_at, blank_volume}
use Rattle.imsm_base.specs.Parts.{block_in, volume_in}
use Rattle.imsm_base.proofs.Apart.{length-volumes}
use Rattle.imsm_base.proofs.At.{volume_in-block}
use Rattle.imsm_codec.proofs.Found.{volumes_counted}
use Rattle.imsm_codec.proofs.Mirror.{one_map, out_by_one}
use Rattle.imsm_view.specs.declared.volume.Volume.{Volume as View}
use Rattle.imsm_view.specs.Views.{slot_view}
use Rattle.imsm_view.proofs.Members.{marks}
use Rattle.imsm_edit.specs.Meanings.{Tells}
use Rattle.imsm_edit.specs.Passes.{with_migration}
use Rattle.imsm_edit.proofs.Changes.{volume_changed, block_as}
use Rattle.imsm_edit.proofs.Marked.{map_as}
use Rattle.imsm_buffer.proofs.Replaced.{unchanged_at}
use Rattle.imsm_buffer.proofs.TableEdits.{number-one}

or_twice : (a : Bool) → (a || (a || false)) ≡ (a || false)
or_twice true = refl
or_twice false = refl

-- a second map that is a copy of the first says the same of each slot
copied : (v : Volume) → length v.maps ≡ map_count_of v → has_pass v ≡ false → members (volume_with_migration v) ≡ members v
copied v count idle =
    let one = one_map v count idle in
    map_as (member (volume_with_migration v)) (member v) (slots_of v)
    (λ slot. ap (λ (o : Bool). let m : Member = record { index = order_at slot (first_map v) % 2 ^ 24; is_out = o } in m)
    (or_twice (marks slot (first_map v)) ∙ sym (out_by_one v slot one)))

abbrev opened_if : Bool → Volume → Volume
opened_if p v = if p then v else volume_with_migration v

slots_if : (p : Bool) (v : Volume) → length v.maps ≡ map_count_of v → has_pass v ≡ p → members (opened_if p v) ≡ members v
slots_if true v count e = refl
slots_if false v count e = copied v count e

pub slots_stay : (v : Volume) → length v.maps ≡ map_count_of v → members (with_migration v) ≡ members v
slots_stay v count = slots_if (has_pass v) v count refl

open_if : (p : Bool) (v : Volume) → length v.state ≡ 10 → has_pass v ≡ p → has_pass (opened_if p v) ≡ true
open_if true v long e = e
open_if false v long e = ap (λ (f : List ℕ). not (number f == 0)) (get_or-set_same v.state 2 (little_bytes 1 1) [] (omega arith))

pub opened : (v : Volume) → length v.state ≡ 10 → has_pass (with_migration v) ≡ true
opened v long = open_if (has_pass v) v long refl

-- the state and the type of a pass that is written
written_state : (kind unit : ℕ) (v : Volume) → migration_state_of (volume_with_pass kind unit v) ≡ migration_state_of v
written_state kind unit v =
    let typed : Part = set v.state 3 (little_bytes 1 kind) in
    let marked : Part = set typed 1 (little_bytes 4 0x494d0001) in
    let half : Part = set marked 0 (little_bytes 4 (unit % 2 ^ 32)) in
    ap number (get_or-set_other half 8 2 (little_bytes 4 (unit / 2 ^ 32)) [] (λ e. omega arith) ∙ get_or-set_other marked 0 2 (little_bytes 4 (unit % 2 ^ 32)) [] (λ e. omega arith)
    ∙ get_or-set_other typed 1 2 (little_bytes 4 0x494d0001) [] (λ e. omega arith) ∙ get_or-set_other v.state 3 2 (little_bytes 1 kind) [] (λ e. omega arith))

written_type : (kind unit : ℕ) (v : Volume) → length v.state ≡ 10 → kind < 256 → migration_type_of (volume_with_pass kind unit v) ≡ kind
written_type kind unit v long small =
    let typed : Part = set v.state 3 (little_bytes 1 kind) in
    let marked : Part = set typed 1 (little_bytes 4 0x494d0001) in
    let half : Part = set marked 0 (little_bytes 4 (unit % 2 ^ 32)) in
    ap number (get_or-set_other half 8 3 (little_bytes 4 (unit / 2 ^ 32)) [] (λ e. omega arith) ∙ get_or-set_other marked 0 3 (little_bytes 4 (unit % 2 ^ 32)) [] (λ e. omega arith)
    ∙ get_or-set_other typed 1 3 (little_bytes 4 0x494d0001) [] (λ e. omega arith) ∙ get_or-set_same v.state 3 (little_bytes 1 kind) [] (omega arith))
    ∙ number-one kind small

pub pass_written : (kind unit : ℕ) (v : Volume) → length v.state ≡ 10 → has_pass v ≡ true → kind < 256 → pass_of (volume_with_pass kind unit v) ≡ Some kind
pass_written kind unit v long open_one small =
    ap (λ (n : ℕ). if not (n == 0) then Some (migration_type_of (volume_with_pass kind unit v)) else None) (written_state kind unit v)
    ∙ ap (λ (p : Bool). if p then Some (migration_type_of (volume_with_pass kind unit v)) else None) open_one
    ∙ ap (λ (t : ℕ). Some t) (written_type kind unit v long small)

-- the view with the new pass tells of the volume
pub told_pass : (b mid : Block) (k kind unit : ℕ) (view : View) → view.slots.items ≡ map (slot_view b) (members (volume_at k b)) → k < length b.volumes → mid ≡ with_volume k (volume_with_pass kind unit) b →
    length (volume_at k b).state ≡ 10 → has_pass (volume_at k b) ≡ true → kind < 256 → Tells mid (volume_at k mid) (record view { pass = Some kind })
told_pass b mid k kind unit view slots below made long open_one small =
    let v : Volume = volume_at k b in
    subst (λ (x : Block). Tells x (volume_at k x) (record view { pass = Some kind })) (sym made)
    (record {
      pass = sym (pass_written kind unit v long open_one small) ∙ ap pass_of (sym (volume_changed b k (volume_with_pass kind unit) below));
      slots = slots ∙ ap (map (slot_view b)) (ap members (sym (volume_changed b k (volume_with_pass kind unit) below)));
    })

-- a change that leaves the volume leaves the block
pub left_alone : (b : Block) (k : ℕ) → has_pass (volume_at k b) ≡ true → b ≡ with_volume k with_migration b
left_alone b k e =
    sym (block_as b k with_migration (λ v. v) (ap (λ (p : Bool). opened_if p (volume_at k b)) e) ∙ ap (λ (vs : List Volume). record b { volumes = vs }) (unchanged_at k b.volumes))

pub opened_block : (b new : Block) (k : ℕ) → has_pass (volume_at k b) ≡ false → new ≡ with_volume k volume_with_migration b → new ≡ with_volume k with_migration b
opened_block b new k e made = made ∙ block_as b k volume_with_migration with_migration (sym (ap (λ (p : Bool). opened_if p (volume_at k b)) e))

state_long : (v : Volume) (rest : List ℕ) → v ≡ volume_in rest → length v.state ≡ 10
state_long v rest e = subst (λ (x : Volume). length x.state ≡ 10) (sym e) refl

pub long_state : (bytes : List ℕ) (k : ℕ) → k < volume_count_of (block_in bytes) → length (volume_at k (block_in bytes)).state ≡ 10
long_state bytes k below = state_long _ _ (volume_in-block bytes k blank_volume (omega (arith, volumes_counted bytes, length-volumes bytes)))
