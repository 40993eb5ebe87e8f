-- The slots of a small volume, and volumes that no failure broke.
use Rattle.std.proofs.Common.{◌≡◌, ℕ, zero, suc, ◌==◌, Bool, true, false, if◌then◌else◌, List, [], ◌∷◌, refl, sym, subst, ◌⊎◌, inl, inr, Some, None}
use Rattle.std.specs.Prelude.{slice_get}
use Rattle.device_log.specs.Log.{Call}
use Rattle.array_model.specs.declared.journal.Entry.{Entry}
use Rattle.array_model.specs.Blocks.{Laid, SlotWords}
use Rattle.array_model.specs.Start.{Start}
use Rattle.array_model.specs.Rounds.{ended_at, ended, IsFinished, IsFinishedBy}
use Rattle.array_model.specs.declared.journal.Answer.{Answer}
use Rattle.array_model.specs.Broken.{IsBroken, TornParity, is_short}
use Rattle.array_model.specs.AnswerLaw.{IsInOrder}
use Rattle.array_model.specs.SmallFailures.{whole_script, answered}
use Rattle.array_model.specs.Small.{small_slot, small_slots}
use Rattle.array_model.proofs.Journals.{fronts_of_one}

-- a slot of the volume is its first or its second
pub in_slot : (m : Laid) (v slot : ℕ) (words : SlotWords) → slice_get (small_slots m v) slot ≡ Some words → (small_slot m 0 (65 ∷ []) ≡ words) ⊎ (small_slot m 1 (66 ∷ []) ≡ words)
in_slot m v slot words h = at (v == 0) slot h
  where
    at : (b : Bool) (slot : ℕ) → slice_get (if b then small_slot m 0 (65 ∷ []) ∷ small_slot m 1 (66 ∷ []) ∷ [] else []) slot ≡ Some words
        → (small_slot m 0 (65 ∷ []) ≡ words) ⊎ (small_slot m 1 (66 ∷ []) ≡ words)
    at true zero h = inl (cc h)
    at true (suc zero) h = inr (cc h)
    at true (suc (suc k)) h = absurd cc
    at false slot h = absurd cc

-- where no round has ended the block is the newest at opening
pub newest_block : (start : Start) (log : List Call) (front : List Entry) (m : Laid) → ended front ≡ None → IsFinished start log front m → m ≡ start.newest
newest_block start log front m none h = subst (IsFinishedBy start log front m) none h

-- a volume isn't broken by one entry that ends no round, where its members suffice before and behind it
pub not_broken : (start : Start) (e : Entry) (v : ℕ) → ended_at None e.event ≡ None → is_short start [] start.newest v ≡ false
    → is_short start (e ∷ []) start.newest v ≡ false → ((front : List Entry) → TornParity start front start.newest v → ⊥) → IsBroken start [] (e ∷ []) v → ⊥
not_broken start e v none before behind torn b = elim (fronts_of_one e b.front b.rest b.moment.parts) [
  | inl empty ↦ at [] before refl empty
  | inr one ↦ at (e ∷ []) behind none one
]
  where
    at : (other : List Entry) → is_short start other start.newest v ≡ false → ended other ≡ None → b.front ≡ other → ⊥
    at other sound none same =
        let newest : b.block ≡ start.newest = newest_block start _ b.front b.block (subst (λ f. ended f ≡ None) (sym same) none) b.finished in
        elim b.cause [
          | inl short ↦ (
              let here : is_short start b.front start.newest v ≡ true = subst (λ n. is_short start b.front n v ≡ true) newest short in
              let there : is_short start other start.newest v ≡ true = subst (λ f. is_short start f start.newest v ≡ true) same here in
              cc (there, sound)
              )
          | inr five ↦ torn b.front (subst (λ n. TornParity start b.front n v) newest five)
        ]

-- a client asks whether the volume is whole, and has its answer
pub in_order : (answer : Answer) (c : ℕ) → IsInOrder whole_script.ops (answered answer) c
in_order answer c = at (0 == c) refl
  where
    at : (b : Bool) → (0 == c) ≡ b → IsInOrder whole_script.ops (answered answer) c
    at true is = ([], rw is refl)
    at false is = ([], rw is refl)
