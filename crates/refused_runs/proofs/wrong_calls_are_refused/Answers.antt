use Rattle.std.proofs.Common.{◌≡◌, ℕ, ◌<◌, ◌≤◌, ◌==◌, not, Bool, true, false, [], ◌∷◌, length, Option, refl, ap, subst, arith, ◌⊎◌, inl, inr, slice_get, slice_index}
use Rattle.std.specs.Option.{option_map_or}
use Rattle.device_log.specs.Log.{Call, What, Read, Write, Sync}
use Rattle.array_model.proofs.SmallFacts.{in_range}
use Rattle.array_model.specs.Script.{sector_of}
use Rattle.array_model.specs.RowCalls.{IsRowOn}
use Rattle.array_model.specs.Small.{small_start, small_slot, puts}
use Rattle.refused_runs.specs.Wrong.{dataless_log, overwritten_log}
use Rattle.refused_runs.proofs.wrong_calls_are_refused.Goals as goal

pub returns-clause-lone : goal.returns-clause-lone
returns-clause-lone c ended limit calls admitted = c.example_of_the_row_calls.ensures.lone admitted.kept.rows

pub returns-clause-unread : goal.returns-clause-unread
returns-clause-unread c ended limit calls admitted = c.example_of_the_row_calls.ensures.unread admitted.kept.rows

pub returns-clause-scribbled : goal.returns-clause-scribbled
returns-clause-scribbled c ended limit calls admitted = c.example_of_the_row_calls.ensures.scribbled admitted.kept.calls

pub returns-clause-pending : goal.returns-clause-pending
returns-clause-pending c ended limit calls admitted = c.example_of_the_row_calls.ensures.pending admitted.kept.calls

-- a call that writes data of a client: 512 bytes
abbrev brings_data : What → Bool
brings_data (Read place) = false
brings_data (Write place [] stored) = false
brings_data (Write place (s ∷ ss) stored) = length s.0 == 512
brings_data Sync = false

abbrev has_data : Option Call → Bool
has_data call = option_map_or (λ call. brings_data call.what) call false

pub returns-clause-dataless : goal.returns-clause-dataless
returns-clause-dataless c ended limit calls admitted =
    let done = admitted.kept.rows.1.1.1.1.1.1.1.1.0.some in
    let brings : has_data (slice_get dataless_log done.write) ≡ true = ap has_data done.written in
    let none : not (has_data (slice_get dataless_log done.write)) ≡ true =
    in_range (λ k. not (has_data (slice_get dataless_log k))) 4 4 done.write done.from (omega (arith, done.behind, done.until)) refl in
    cc (brings, none)

-- A WRITE THAT IS OVERWRITTEN

first_row : IsRowOn small_start 0 5 0 5
first_row = record {
  lies = record { main = 0; other = 1; row = 5 };
  placed = refl;
  slot = inl (record { words = small_slot small_start.newest 0 (65 ∷ []); there = refl; same = refl });
  at_row = refl;
}

-- a write of the first client's data, of which the first byte is 0x11
abbrev brings_first : What → Bool
brings_first (Read place) = false
brings_first (Write place [] stored) = false
brings_first (Write place (s ∷ ss) stored) = slice_index s.0 0 == 0x11
brings_first Sync = false

abbrev has_first : Option Call → Bool
has_first call = option_map_or (λ call. brings_first call.what) call false

below_or : (k n : ℕ) → (k < n) ⊎ (n ≤ k)
below_or k n = grind arith

pub returns-clause-overwritten : goal.returns-clause-overwritten
returns-clause-overwritten c kept =
    let first = kept.rows.1.1.1.1.1.1.1.1.1.1.0.each 0 5 first_row refl in
    elim (below_or first.write 12) [
      | inl early ↦ elim (first.stays 12 (puts 0 5 (sector_of 1)) early (omega arith) refl refl) [
        | inl behind ↦ let below : 5 < 5 = behind in omega (arith, below)
        | inr before ↦ let above : 6 ≤ 5 = before in omega (arith, above)
      ]
      | inr late ↦
          let brings : has_first (slice_get overwritten_log first.write) ≡ true = ap has_first first.written in
          let none : not (has_first (slice_get overwritten_log first.write)) ≡ true =
          in_range (λ k. not (has_first (slice_get overwritten_log k))) 4 12 first.write late (omega (arith, first.behind, first.until)) refl in
          let bad : not true ≡ true = subst (λ b. not b ≡ true) brings none in
          cc bad
    ]
