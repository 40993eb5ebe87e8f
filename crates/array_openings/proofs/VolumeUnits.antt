-- What edits of a volume leave of an open pass and its unit.
use Rattle.std.proofs.Common.{◌≡◌, ℕ, ◌+◌, ◌*◌, ◌/◌, ◌%◌, ◌^◌, ◌<◌, ◌==◌, not, if◌then◌else◌, Bool, true, false, List, [], length, map, set, refl, sym, ◌∙◌, ap, arith}
use Rattle.std.proofs.lemmas.Bool.{false≢true}
use Rattle.std.proofs.lemmas.List.{get_or-set_same, get_or-set_other, length-set}
use Rattle.byteorder.specs.Endian.{little_bytes}
use Rattle.imsm_base.specs.Fields.{Part, number, number_in}
use Rattle.imsm_base.specs.Layout.{Block, Volume, IsVolume, state_lengths, wide, unit_of, migration_type_of, map_state_of}
use Rattle.imsm_base.specs.Volumes.{Member, first_map, members, has_pass}
use Rattle.imsm_base.specs.Edits.{volume_with_dirty}
use Rattle.imsm_base.specs.EditsOfTables.{with_wide, volume_without_migration}
use Rattle.imsm_base.specs.declared.values.TheConstants.{CHECKPOINT_SIGNATURE}
use Rattle.imsm_base.proofs.Edited.{fields_of, other_state}
use Rattle.imsm_base.proofs.Sealed.{number-four}
use Rattle.imsm_edit.specs.Meanings.{is_told, with_states, at_point}
use Rattle.imsm_edit.specs.Slots.{slots_with, maps_marked}
use Rattle.imsm_edit.specs.Failures.{is_idle_rebuild, without_idle_rebuild, settled}
use Rattle.array_edits.specs.Passes.{with_all_out, with_pass_closed}
use Rattle.array_edits.proofs.Closes.{closed_idle}
use Rattle.array_edits.proofs.Idle.{pass_same, pass_stays, states_pass}
use Rattle.array_edits.proofs.Slots.{states_state}
use Rattle.array_edits.proofs.Steps.{marked_steady}

-- a pass was open and has the unit that it had
pub record KeepsUnit (v x : Volume) : Type 0 where
  pub had : has_pass v ≡ true
  pub unit : unit_of x ≡ unit_of v

-- where one is open behind the edit
abbrev pub Keeps : Volume → Volume → Type 0
Keeps v x = has_pass x ≡ true → KeepsUnit v x

pub same_state : (v x : Volume) → x.state ≡ v.state → Keeps v x
same_state v x same is_open = record {
  had = sym (pass_same v x same) ∙ is_open;
  unit = ap (λ (s : Part). wide 0 8 s) same;
}

pub keeps_then : (v x y : Volume) → Keeps v x → Keeps x y → Keeps v y
keeps_then v x y one other is_open =
    let behind : KeepsUnit x y = other is_open in
    let before : KeepsUnit v x = one behind.had in
    record { had = before.had; unit = behind.unit ∙ before.unit }

pub states_keep : (b : Block) (broken : Bool) (v x : Volume) → Keeps v x → Keeps v (with_states b broken x)
states_keep b broken v x keeps =
    keeps_then v x (with_states b broken x) keeps (same_state x (with_states b broken x) (states_state b broken x))

-- DIRTY AND CLEAN

pub dirty_keeps : (on : Bool) (v : Volume) → Keeps v (volume_with_dirty on v)
dirty_keeps on v is_open =
    let x : Volume = volume_with_dirty on v in
    record {
      had = sym (ap (λ (n : ℕ). not (n == 0)) (other_state on v 2 (λ e. omega arith))) ∙ is_open;
      unit = ap (λ (n : ℕ). n + 2 ^ 32 * number_in 8 x.state) (other_state on v 0 (λ e. omega arith))
          ∙ ap (λ (n : ℕ). number_in 0 v.state + 2 ^ 32 * n) (other_state on v 8 (λ e. omega arith));
    }

-- A UNIT

halves : (n : ℕ) → n % 2 ^ 32 + 2 ^ 32 * (n / 2 ^ 32) ≡ n
halves n = omega arith

wide_written : (n : ℕ) (s : Part) → length s ≡ 10 → n < 18446744073709551616 → wide 0 8 (with_wide 0 8 n s) ≡ n
wide_written n s long small =
    let low : List ℕ = little_bytes 4 (n % 2 ^ 32) in
    let high : List ℕ = little_bytes 4 (n / 2 ^ 32) in
    let half : Part = set s 0 low in
    let first : number_in 0 (set half 8 high) ≡ n % 2 ^ 32 =
    ap number (get_or-set_other half 8 0 high [] (λ e. omega arith) ∙ get_or-set_same s 0 low [] (omega (arith, long)))
    ∙ number-four (n % 2 ^ 32) (omega arith) in
    let last : number_in 8 (set half 8 high) ≡ n / 2 ^ 32 =
    ap number (get_or-set_same half 8 high [] (omega (arith, long, length-set s 0 low)))
    ∙ number-four (n / 2 ^ 32) (omega (arith, small)) in
    ap (λ (k : ℕ). k + 2 ^ 32 * number_in 8 (set half 8 high)) first
    ∙ ap (λ (k : ℕ). n % 2 ^ 32 + 2 ^ 32 * k) last ∙ halves n

pub unit_written : (unit : ℕ) (v : Volume) → IsVolume v → unit < 18446744073709551616
    → unit_of (at_point unit v) ≡ unit
unit_written unit v is small =
    let typed : Part = set v.state 3 (little_bytes 1 (migration_type_of v)) in
    let mark : List ℕ = little_bytes 4 CHECKPOINT_SIGNATURE in
    let long : length (set typed 1 mark) ≡ 10 =
    length-set typed 1 mark ∙ length-set v.state 3 (little_bytes 1 (migration_type_of v))
    ∙ fields_of state_lengths v.state is.state in
    wide_written unit (set typed 1 mark) long small

-- a pass is open at another unit where it was open
pub point_open : (unit : ℕ) (v : Volume) → has_pass (at_point unit v) ≡ true → has_pass v ≡ true
point_open unit v is_open = sym (pass_stays (migration_type_of v) unit v) ∙ is_open

-- A DISK THAT FAILS

idle_keeps : (t : Bool) (v : Volume) → IsVolume v → Keeps v (if t then volume_without_migration v else v)
idle_keeps true v is is_open = absurd (false≢true (sym (closed_idle v is) ∙ is_open))
idle_keeps false v is is_open = record { had = is_open; unit = refl }

states_if : (t : Bool) (b : Block) (broken : Bool) (v x : Volume) → Keeps v x
    → Keeps v (if t then x else with_states b broken x)
states_if true b broken v x keeps = keeps
states_if false b broken v x keeps = states_keep b broken v x keeps

pub settled_keeps : (b : Block) (broken : Bool) (v : Volume) → IsVolume v → Keeps v (settled b broken v)
settled_keeps b broken v is =
    states_if (map_state_of (first_map v) == 1) b broken v (without_idle_rebuild b v)
    (idle_keeps (is_idle_rebuild b v) v is)

-- A PASS THAT CLOSES

pub closed_has_none : (b : Block) (broken : Bool) (working : List Bool) (v : Volume) → IsVolume v
    → has_pass (with_states b broken (with_pass_closed working v)) ≡ false
closed_has_none b broken working v is =
    let all_out : Volume = with_all_out v in
    let first : IsVolume all_out = (marked_steady true (map (λ (m : Member). m.is_out) (members v)) v is).is in
    let told : List Bool = slots_with (is_told working) all_out in
    let second : IsVolume (maps_marked false told all_out) = (marked_steady false told all_out first).is in
    states_pass b broken (with_pass_closed working v) ∙ closed_idle (maps_marked false told all_out) second
