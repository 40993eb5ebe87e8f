-- Edits that change each volume by its number, and what a failed disk or one that counts out leaves of a volume.
use Rattle.std.proofs.Common.{◌≡◌, ℕ, suc, ◌<◌, ◌==◌, ◌&&◌, ◌||◌, not, Bool, true, false, List, [], ◌∷◌, length, get_or, None, refl, sym, ◌∙◌, ap, arith, ◌⊎◌, inl, inr}
use Rattle.std.specs.Prelude.{is_none, Option}
use Rattle.std.specs.List.{AllZip}
use Rattle.imsm_base.specs.Layout.{Block, Volume, IsVolume, map_state_of, member_count_of}
use Rattle.imsm_base.specs.Volumes.{Fault, Member, first_map, member, is_expected_at, has_pass, has_pass_of, has_migration, is_dirty, volume_fault}
use Rattle.imsm_base.specs.EditsOfTables.{volume_without_migration}
use Rattle.imsm_codec.specs.Mpb.{blank_volume}
use Rattle.imsm_edit.specs.Meanings.{with_states, at_point}
use Rattle.imsm_edit.specs.Passes.{has_to_rebuild}
use Rattle.imsm_edit.specs.Slots.{changed_each, slots_with}
use Rattle.imsm_edit.specs.Failures.{without_member, is_idle_rebuild, without_idle_rebuild, settled}
use Rattle.imsm_edit.proofs.Marked.{told_slot}
use Rattle.array_edits.specs.Passes.{begun_again, settled_out}
use Rattle.array_edits.proofs.Steady.{IsAlike, Steady, steady_itself, steady_then, closed_steady, has_maps}
use Rattle.array_edits.proofs.Steps.{if_either, states_steady, marked_steady, pass_steady}
use Rattle.array_edits.proofs.Supports.{Supports, supports, Fits, fits}
use Rattle.array_edits.proofs.Slots.{states_member, states_state, closed_in}
use Rattle.array_edits.proofs.Marks.{migration_same, dirty_same, point_good, pass_dirty}
use Rattle.array_edits.proofs.Closes.{closed_good, closed_dirty}
use Rattle.array_edits.proofs.Starts.{rebuilds_none}
use Rattle.array_edits.proofs.Entries.{marked_index, marked_out}
use Rattle.array_edits.proofs.Idle.{states_pass, pass_stays}

-- each volume lies where it lay
pub each_steady : (h : ℕ → Volume → Volume) (vs : List Volume) → ((k : ℕ) → k < length vs → Steady (get_or vs k blank_volume) (h k (get_or vs k blank_volume))) → AllZip Steady vs (changed_each h vs)
each_steady h [] each = tt
each_steady h (v ∷ vs) each = (each 0 (omega arith), each_steady (λ k. h (suc k)) vs (λ k below. each (suc k) (omega arith)))

-- a volume without a fault has maps that are alike
pub alike_in : (b : Block) (k : ℕ) (v : Volume) → volume_fault b k v ≡ None → IsAlike v
alike_in b k v none =
    let parts : Supports b k v = supports b k v none in
    let geometry : Fits b v = fits b v parts.geometry in
    geometry.alike

pub none_from : (o : Option Fault) → is_none o ≡ true → o ≡ None
none_from None e = refl
none_from (Option.Some x) e = absurd (cc e)

-- WITHOUT A MEMBER

pub without_steady : (i : ℕ) (v : Volume) → IsVolume v → Steady v (without_member i v)
without_steady i v is = marked_steady true (slots_with (λ j. j == i) v) v is

pub without_index : (i : ℕ) (v : Volume) (s : ℕ) → IsVolume v → s < member_count_of (first_map v) → (member (without_member i v) s).index ≡ (member v s).index
without_index i v s is below = marked_index true (slots_with (λ j. j == i) v) v s is below

pub without_out : (i : ℕ) (v : Volume) (s : ℕ) → IsVolume v → s < member_count_of (first_map v) → (member (without_member i v) s).is_out ≡ (((member v s).index == i) || (member v s).is_out)
without_out i v s is below =
    marked_out (slots_with (λ j. j == i) v) v s is below ∙ ap (λ (t : Bool). t || (member v s).is_out) (told_slot (λ j. j == i) v s below)

-- WHAT SETTLES IT

-- a volume whose pass may be closed or begun again, with its states set or kept: it lies where it lay, its slots keep
-- their indices, a slot of an expected disk is called out of sync as before, and dirty it is as before
pub record Settles (b : Block) (v x : Volume) : Type 0 where
  pub steady : Steady v x
  pub migration : has_migration v ≡ true → has_migration x ≡ true
  pub index : (s : ℕ) → s < member_count_of (first_map v) → (member x s).index ≡ (member v s).index
  pub out : (s : ℕ) → s < member_count_of (first_map v) → is_expected_at b (member v s).index ≡ true → (member x s).is_out ≡ (member v s).is_out
  pub dirty : is_dirty x ≡ is_dirty v

pub settles_itself : (b : Block) (v : Volume) → IsVolume v → Settles b v v
settles_itself b v is = record { steady = steady_itself v is; migration = λ good. good; index = λ s below. refl; out = λ s below e. refl; dirty = refl }

settles_states : (b c : Block) (broken : Bool) (v x : Volume) → Settles b v x → Settles b v (with_states c broken x)
settles_states b c broken v x t = record {
  steady = steady_then v x (with_states c broken x) t.steady (states_steady c broken x t.steady.is);
  migration = λ good. migration_same x (with_states c broken x) (states_state c broken x) (t.migration good);
  index = λ s below. ap (λ (m : Member). m.index) (states_member c broken x s) ∙ t.index s below;
  out = λ s below e. ap (λ (m : Member). m.is_out) (states_member c broken x s) ∙ t.out s below e;
  dirty = dirty_same x (with_states c broken x) (states_state c broken x) ∙ t.dirty;
}

-- a rebuild that has nothing to rebuild
idle_part : (p t : Bool) → (p && not t) ≡ true → t ≡ false
idle_part p true e = absurd (false_and p e)
  where
    false_and : (q : Bool) → (q && false) ≡ true → ⊥
    false_and true f = cc f
    false_and false f = cc f
idle_part p false e = refl

pub settles_closed : (b : Block) (v : Volume) → IsVolume v → IsAlike v → has_to_rebuild b v ≡ false → Settles b v (volume_without_migration v)
settles_closed b v is like whole = record {
  steady = closed_steady v is like;
  migration = λ good. closed_good v is;
  index = λ s below. refl;
  out = λ s below expected.
      let in_sync : (member v s).is_out ≡ false = rebuilds_none b v s below whole expected in
      closed_in v s (has_maps v is).0 in_sync ∙ sym in_sync;
  dirty = closed_dirty v;
}

settles_idle : (b : Block) (v : Volume) → IsVolume v → IsAlike v → Settles b v (without_idle_rebuild b v)
settles_idle b v is like =
    if_either (Settles b v) (is_idle_rebuild b v) (volume_without_migration v) v
    (λ e. settles_closed b v is like (idle_part (has_pass_of (1 ∷ []) v) (has_to_rebuild b v) e)) (λ e. settles_itself b v is)

pub settles_failed : (b : Block) (broken : Bool) (v : Volume) → IsVolume v → IsAlike v → Settles b v (settled b broken v)
settles_failed b broken v is like =
    let z : Volume = without_idle_rebuild b v in
    let idle : Settles b v z = settles_idle b v is like in
    if_either (Settles b v) (map_state_of (first_map v) == 1) z (with_states b broken z) (λ e. idle) (λ e. settles_states b b broken v z idle)

settles_begun : (b : Block) (v : Volume) → IsVolume v → Settles b v (begun_again v)
settles_begun b v is =
    if_either (Settles b v) (has_pass v) (at_point 0 v) v
    (λ e. record {
      steady = pass_steady _ 0 v is;
      migration = point_good 0 v is;
      index = λ s below. refl;
      out = λ s below f. refl;
      dirty = pass_dirty _ 0 v;
    }) (λ e. settles_itself b v is)

pub settles_out : (b : Block) (broken : Bool) (v : Volume) → IsVolume v → Settles b v (settled_out b broken v)
settles_out b broken v is =
    let z : Volume = begun_again v in
    let begun : Settles b v z = settles_begun b v is in
    if_either (Settles b v) (map_state_of (first_map v) == 1) z (with_states b broken z) (λ e. begun) (λ e. settles_states b b broken v z begun)

-- ITS PASS

-- A pass is closed only where nothing is to be rebuilt.
pub failed_idle : (b : Block) (broken : Bool) (v : Volume) → has_pass (settled b broken v) ≡ false → (has_pass v ≡ false) ⊎ (has_to_rebuild b v ≡ false)
failed_idle b broken v =
    let z : Volume = without_idle_rebuild b v in
    let Left : Volume → Type 0 = λ x. has_pass x ≡ false → (has_pass v ≡ false) ⊎ (has_to_rebuild b v ≡ false) in
    let idle : Left z =
    if_either Left (is_idle_rebuild b v) (volume_without_migration v) v
    (λ e none. inr (idle_part (has_pass_of (1 ∷ []) v) (has_to_rebuild b v) e)) (λ e none. inl none) in
    if_either Left (map_state_of (first_map v) == 1) z (with_states b broken z) (λ e. idle) (λ e none. idle (sym (states_pass b broken z) ∙ none))

-- a disk that counts out closes none
pub out_idle : (b : Block) (broken : Bool) (v : Volume) → has_pass (settled_out b broken v) ≡ false → has_pass v ≡ false
out_idle b broken v =
    let z : Volume = begun_again v in
    let Left : Volume → Type 0 = λ x. has_pass x ≡ false → has_pass v ≡ false in
    let idle : Left z =
    if_either Left (has_pass v) (at_point 0 v) v (λ e none. sym (pass_stays _ 0 v) ∙ none) (λ e none. none) in
    if_either Left (map_state_of (first_map v) == 1) z (with_states b broken z) (λ e. idle) (λ e none. idle (sym (states_pass b broken z) ∙ none))
