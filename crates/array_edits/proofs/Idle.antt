-- Volumes without an open pass: which edits leave a pass open, and what has nothing to rebuild.
use Rattle.std.proofs.Common.{◌≡◌, ℕ, zero, suc, ◌+◌, ◌<◌, ◌==◌, ◌&&◌, not, if◌then◌else◌, Bool, true, false, List, [], ◌∷◌, map, Some, None, refl, ◌∙◌, ap, arith, inl, inr}
use Rattle.std.specs.List.{AllByRecursion, AllZip, range_with_len}
use Rattle.imsm_base.specs.Fields.{Part}
use Rattle.imsm_base.specs.Layout.{Block, Volume, IsVolume, member_count_of}
use Rattle.imsm_base.specs.Volumes.{Member, first_map, member, members, has_pass, pass_of, is_expected_at}
use Rattle.imsm_base.specs.EditsOfTables.{volume_with_pass}
use Rattle.imsm_edit.specs.Meanings.{with_states}
use Rattle.array_model.specs.Blocks.{SlotWords}
use Rattle.block_meaning.specs.Meaning.{slot_words}
use Rattle.array_machine.specs.Setting.{Facts, RemovesDisk}
use Rattle.array_machine.specs.EditWords.{NeedsNoRebuild, KeepsSlot, SlotsAfter}
use Rattle.array_edits.proofs.Steady.{with_state}
use Rattle.array_edits.proofs.Steps.{states_steady, pass_left}
use Rattle.array_edits.proofs.Slots.{states_member, states_state}

abbrev pub words_of : Block → Volume → List SlotWords
words_of b v = map (slot_words b) (members v)

-- OPEN OR NOT

kind_if : (p : Bool) (kind : ℕ) → p ≡ false → (if p then Some kind else None) ≡ None
kind_if true kind e = absurd (cc e)
kind_if false kind e = refl

kind_none : (p : Bool) (kind : ℕ) → (if p then Some kind else None) ≡ None → p ≡ false
kind_none true kind e = absurd (cc e)
kind_none false kind e = refl

pub pass_none : (v : Volume) → has_pass v ≡ false → pass_of v ≡ None
pass_none v idle = kind_if (has_pass v) _ idle

pub idle_none : (v : Volume) → pass_of v ≡ None → has_pass v ≡ false
idle_none v none = kind_none (has_pass v) _ none

pub pass_same : (v x : Volume) → x.state ≡ v.state → has_pass x ≡ has_pass v
pass_same v x same = ap (λ (p : Part). has_pass (with_state p v)) same

-- a pass of another type, or at another unit, is open where there was one
pub pass_stays : (kind unit : ℕ) (v : Volume) → has_pass (volume_with_pass kind unit v) ≡ has_pass v
pass_stays kind unit v =
    ap (λ (n : ℕ). not (n == 0))
    (pass_left kind unit 2 v (λ e. omega arith) (λ e. omega arith) (λ e. omega arith) (λ e. omega arith))

pub states_pass : (b : Block) (broken : Bool) (v : Volume) → has_pass (with_states b broken v) ≡ has_pass v
states_pass b broken v = pass_same v (with_states b broken v) (states_state b broken v)

-- WORDS OF SLOTS

each_same : {A : Type 0} (f g : ℕ → A) (xs : List ℕ) → ((s : ℕ) → f s ≡ g s) → map f xs ≡ map g xs
each_same f g [] same = refl
each_same f g (x ∷ xs) same =
    ap (λ y. y ∷ map f xs) (same x) ∙ ap (λ ys. g x ∷ ys) (each_same f g xs same)

-- states are no part of them
pub states_words : (b c : Block) (broken : Bool) (v : Volume) → IsVolume v → words_of c (with_states b broken v) ≡ words_of c v
states_words b c broken v is =
    let x : Volume = with_states b broken v in
    let count : member_count_of (first_map x) ≡ member_count_of (first_map v) = (states_steady b broken v is).first.count in
    ap (map (slot_words c))
    (ap (λ n. map (member x) (range_with_len 0 n)) count
    ∙ each_same (member x) (member v) (range_with_len 0 (member_count_of (first_map v))) (states_member b broken v))

-- NOTHING TO REBUILD

-- an expected slot is in sync
abbrev pub IsWhole : Block → Volume → Type 0
IsWhole b v = (s : ℕ) → s < member_count_of (first_map v) → is_expected_at b (member v s).index ≡ true → (member v s).is_out ≡ false

slot_whole : (b : Block) (m : Member) → (is_expected_at b m.index ≡ true → m.is_out ≡ false) → NeedsNoRebuild (slot_words b m)
slot_whole b m whole = at (is_expected_at b m.index) refl
  where
    at : (t : Bool) → is_expected_at b m.index ≡ t → NeedsNoRebuild (slot_words b m)
    at true is = inl (ap (λ (u : Bool). not u && is_expected_at b m.index) (whole is) ∙ is)
    at false other = inr other

pub whole_words : (b : Block) (v : Volume) → IsWhole b v → AllByRecursion NeedsNoRebuild (words_of b v)
whole_words b v whole = from 0 (member_count_of (first_map v)) (λ s below. whole s (omega arith))
  where
    from : (a n : ℕ) → ((s : ℕ) → s < a + n → is_expected_at b (member v s).index ≡ true → (member v s).is_out ≡ false)
        → AllByRecursion NeedsNoRebuild (map (slot_words b) (map (member v) (range_with_len a n)))
    from a zero each = tt
    from a (suc n) each =
        (slot_whole b (member v a) (each a (omega arith)), from (a + 1) n (λ s below. each s (omega arith)))

-- slots that are kept, one by one
pub kept_zip : (f : Facts) (serial : List ℕ) (v : ℕ) (ws xs : List SlotWords) → SlotsAfter f (RemovesDisk serial) v ws xs → AllZip KeepsSlot ws xs
kept_zip f serial v [] [] each = tt
kept_zip f serial v [] (x ∷ xs) each = absurd each
kept_zip f serial v (w ∷ ws) [] each = absurd each
kept_zip f serial v (w ∷ ws) (x ∷ xs) each = (each.0, kept_zip f serial v ws xs each.1)
