-- Sound volumes are as laws on rows and on checkpoints ask for them.
use Rattle.std.proofs.Common.{◌≡◌, ℕ, zero, suc, Bool, true, false, cond, List, [], map, refl, sym, ◌∙◌, ap}
use Rattle.std.proofs.lemmas.Bool.{false≢true}
use Rattle.block_meaning.specs.Reading.{block_words}
use Rattle.array_machine.specs.Setting.{Setting}
use Rattle.array_machine.specs.Volumes.{Volume, volume_at, slot_at}
use Rattle.array_base.specs.Opening.{slot_opened}
use Rattle.array_units.specs.EditUnits.{RowsLieApart}
use Rattle.array_values.specs.Values.{RowsOpen}
use Rattle.array_openings.specs.Banks.{Bank, setting_of_bank, IsAtRest}
use Rattle.array_openings.specs.Opens.{opened_volumes}
use Rattle.array_openings.specs.Sound.{OpensSound, HasSoundVolumes}
use Rattle.array_openings.proofs.Meets.{placed_inside}
use Rattle.array_openings.proofs.Rests.{over}
use Rattle.array_openings.proofs.RowsHeld.{opens_sound}

pub lie_apart : (S : Setting) (volumes : List Volume) → OpensSound S volumes → RowsLieApart S
lie_apart S volumes sound v w r s one two other inside within same =
    other (sound.apart v w r s one two inside within same)

module _ (k : Bank) (rest : IsAtRest k) (sound : HasSoundVolumes k) where
  abbrev S : Setting
  S = setting_of_bank k

  -- a volume that isn't started has no slot in sync
  no_slots : (v t : ℕ) → k.started v ≡ false → (slot_at (volume_at (opened_volumes S) v).slots t).in_sync ≡ false
  no_slots zero t none =
      ap (λ (b : Bool). (slot_at (cond b (map (slot_opened S) (block_words.slots k.block 0)) []) t).in_sync) none
  no_slots (suc zero) t none =
      ap (λ (b : Bool). (slot_at (cond b (map (slot_opened S) (block_words.slots k.block 1)) []) t).in_sync) none
  no_slots (suc (suc v)) t none = refl

  started_by : (v t : ℕ) → (slot_at (volume_at (opened_volumes S) v).slots t).in_sync ≡ true → k.started v ≡ true
  started_by v t synced = at (k.started v) refl
    where
      at : (b : Bool) → k.started v ≡ b → b ≡ true
      at true is = refl
      at false is = absurd (false≢true (sym (no_slots v t is) ∙ synced))

  pub rows_open : RowsOpen S (opened_volumes S)
  rows_open =
      let opened : OpensSound S (opened_volumes S) = opens_sound k rest sound in
      record {
        apart = λ v w row other one two inside within same. opened.apart v w row other one two inside within same;
        runs = λ v started copies. opened.runs v started;
        holds = λ v s t d lies copies placed pair synced there sure.
            opened.holds v t d lies.row s (started_by v t synced) there (placed_inside S (over k rest) v s lies placed);
      }
