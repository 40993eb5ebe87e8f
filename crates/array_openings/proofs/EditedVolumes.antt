-- Edits leave the volumes of a bank where they lie, and each disk that the block expects behind them is there.
use Rattle.std.proofs.Common.{◌≡◌, ℕ, ◌+◌, ◌<◌, not, true, List, [], ◌∷◌, sym, ◌∙◌, ap, subst, inl, inr}
use Rattle.std.specs.Str.{bytes_eq}
use Rattle.std.proofs.lemmas.Bool.{and_parts, or_cases}
use Rattle.array_model.specs.Blocks.{Laid}
use Rattle.array_model.specs.Placement.{Shape}
use Rattle.block_meaning.specs.Reading.{block_words}
use Rattle.array_machine.specs.Setting.{Facts, Edit, TakesGeneration, FailsDisk, CountsOut, MakesDirty, MakesClean, RecordsUnit, ClosesPass, StartsVolume, ActivatesDisk, RemovesDisk, NamesVolume, Setting, edited}
use Rattle.array_machine.specs.EditWords.{IsApt, AreApt, expects_after}
use Rattle.array_base.specs.Premises.{Premises}
use Rattle.array_edits.proofs.Disks.{serial_eq}
use Rattle.array_openings.specs.Banks.{Bank, setting_of_bank, IsAtRest}
use Rattle.array_openings.specs.NewBanks.{edited_bank, CanBeEdited}
use Rattle.array_openings.specs.Sound.{VolumesLieApart, IsThere, HasSoundVolumes}
use Rattle.array_openings.proofs.Meets.{meets, form_is}
use Rattle.array_openings.proofs.Rests.{over}
use Rattle.array_openings.proofs.EditedBanks.{edited_book}

module _ (k : Bank) (f : Facts) (rest : IsAtRest k) where
  abbrev S : Setting
  S = setting_of_bank k

  abbrev P : Premises S
  P = meets S (over k rest)

  -- a disk that is expected behind an edit was expected before, or the edit brings it from the bank
  there_after : (m : Laid) (e : Edit) (serial : List ℕ) → IsApt S m e
      → (block_words.expects m serial ≡ true → IsThere k serial)
      → expects_after e serial (block_words.expects m serial) ≡ true → IsThere k serial
  there_after m (FailsDisk s) serial apt there is =
      there (and_parts (not (bytes_eq s serial)) (block_words.expects m serial) is).1
  there_after m (ActivatesDisk s i) serial apt there is =
      elim (or_cases (bytes_eq s serial) (block_words.expects m serial) is) [
        | inl new ↦ record {
          disk = apt.2.disk;
          below = apt.2.below;
          is = sym apt.2.is ∙ serial_eq s serial new;
        }
        | inr old ↦ there old
      ]
  there_after m (TakesGeneration g) serial apt there is = there is
  there_after m (CountsOut s) serial apt there is = there is
  there_after m (MakesDirty v) serial apt there is = there is
  there_after m (MakesClean v) serial apt there is = there is
  there_after m (RecordsUnit v u) serial apt there is = there is
  there_after m (ClosesPass v) serial apt there is = there is
  there_after m (StartsVolume v) serial apt there is = there is
  there_after m (RemovesDisk s) serial apt there is = there is
  there_after m (NamesVolume v name) serial apt there is = there is

  there_behind : (es : List Edit) (m : Laid) → P.edits.formed m ≡ true → AreApt S f m es
      → ((serial : List ℕ) → block_words.expects m serial ≡ true → IsThere k serial) → (serial : List ℕ)
      → block_words.expects (edited S f m es) serial ≡ true → IsThere k serial
  there_behind [] m formed apt there serial is = there serial is
  there_behind (e ∷ es) m formed apt there serial is =
      there_behind es (S.edit f m e) (P.edits.keeps f m e apt.0 formed) apt.1
      (λ other expected. there_after m e other apt.0 (there other)
      (sym (P.edits.expects f m e other apt.0 formed) ∙ expected)) serial is

  module _ (es : List Edit) (can : CanBeEdited k f es) (sound : HasSoundVolumes k) where
    -- volumes lie where they lay
    shapes_stay : (v : ℕ) → block_words.shape (edited_bank k f es).block v ≡ block_words.shape k.block v
    shapes_stay v = (edited_book k f es rest can).shape v

    apart_stay : VolumesLieApart (setting_of_bank (edited_bank k f es))
    apart_stay v w row other one two inside within same =
        let before : Shape = block_words.shape k.block v in
        let beside : Shape = block_words.shape k.block w in
        sound.apart v w row other one two
        (subst (λ (s : Shape). row < s.rows) (shapes_stay v) inside)
        (subst (λ (s : Shape). other < s.rows) (shapes_stay w) within)
        (sym (ap (λ (s : Shape). s.pba + row) (shapes_stay v)) ∙ same
        ∙ ap (λ (s : Shape). s.pba + other) (shapes_stay w))

    pub edited_sound : ((v : ℕ) → k.started v ≡ true → block_words.can_run (edited_bank k f es).block v ≡ true)
        → HasSoundVolumes (edited_bank k f es)
    edited_sound runs = record {
      apart = apart_stay;
      there = λ serial expected.
          let found = there_behind es k.block (form_is S (over k rest) k.block ∙ rest.formed) can.apt sound.there serial
          expected in
          record { disk = found.disk; below = found.below; is = found.is };
      runs = runs;
    }
