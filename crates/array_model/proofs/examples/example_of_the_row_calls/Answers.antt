use Rattle.std.proofs.Common.{◌≡◌, ℕ, ◌+◌, ◌<◌, ◌-◌, ◌==◌, ◌&&◌, ◌||◌, not, nat_lt, nat_le, Bool, true, false, List, [], ◌∷◌, length, refl, ap, sym, ◌∙◌, subst, arith, ◌⊎◌, inl, inr, Option, Some, slice_get}
use Rattle.std.specs.Option.{option_map_or}
use Rattle.std.specs.List.{list_all, range_with_len}
use Rattle.std.proofs.lemmas.Bool.Decides.{nat_tests}
use Rattle.std.proofs.lemmas.Bool.{cases_lt}
use Rattle.units.specs.declared.disk.Sector.{Sector}
use Rattle.device_log.specs.Log.{Call, What, Read, Write, Sync}
use Rattle.array_model.specs.declared.journal.Entry.{Entry}
use Rattle.array_model.specs.Placement.{Placement}
use Rattle.array_model.specs.Script.{sector_of}
use Rattle.array_model.specs.Causes.{GoesOn, course_of}
use Rattle.array_model.specs.Events.{is_live, up_to}
use Rattle.array_model.specs.RowCalls.{Spares, IsRowOn, IsWrittenOn, IsUnderWay, IsWriting, HasCause}
use Rattle.array_model.specs.Small.{small_start, small_slot, small_words, small_serial, write_and_read, the_volume, the_value, block, worked_log, worked_journal, lone_log, unsynced_log, unread_log, pending_journal}
use Rattle.array_model.proofs.SmallFacts.{in_range, slot_disk, never_live}
use Rattle.array_model.proofs.examples.example_of_the_row_calls.Goals as goal

-- THE ROW

abbrev row_five : Placement
row_five = record { main = 0; other = 1; row = 5 }

first_row : IsRowOn small_start 0 5 0 5
first_row = record { lies = row_five; placed = refl; slot = inl (record { words = small_slot small_start.newest 0 (65 ∷ []); there = refl; same = refl }); at_row = refl }

second_row : IsRowOn small_start 0 5 1 5
second_row = record { lies = row_five; placed = refl; slot = inr (record { words = small_slot small_start.newest 1 (66 ∷ []); there = refl; same = refl }); at_row = refl }

-- it lies on no other disk, and at no other place
row_disk : (d place : ℕ) → IsRowOn small_start 0 5 d place → (d ≡ 0) ⊎ (d ≡ 1)
row_disk d place row = elim row.slot [
  | inl main ↦ slot_disk row.lies.main d main
  | inr other ↦ slot_disk row.lies.other d other
]

row_place : (d place : ℕ) → IsRowOn small_start 0 5 d place → place ≡ 5
row_place d place row =
    let lies : row_five ≡ row.lies = cc row.placed in
    let five : 5 ≡ row.lies.row = ap (λ (p : Placement). p.row) lies in
    let here : place ≡ 0 + row.lies.row = row.at_row in
    omega (arith, five, here)

-- ANSWERS

-- a call that doesn't write place 5
abbrev spares_five : What → Bool
spares_five (Read at) = true
spares_five (Write at sectors stored) = nat_lt 5 at || nat_le (at + length sectors) 5
spares_five Sync = true

-- a call that leaves place 5 of disk d as it is
abbrev is_off : ℕ → Call → Bool
is_off d call = not (call.disk == d) || spares_five call.what

abbrev is_off_at : ℕ → ℕ → Bool
is_off_at d k = option_map_or (is_off d) (slice_get worked_log k) true

spares : (what : What) → spares_five what ≡ true → Spares 5 what
spares (Read at) h = tt
spares Sync h = tt
spares (Write at sectors stored) h = by (nat_lt 5 at) refl h
  where
    by : (b : Bool) → nat_lt 5 at ≡ b → (b || nat_le (at + length sectors) 5) ≡ true → Spares 5 (Write at sectors stored)
    by true before h = inl (grind (arith, nat_tests, before))
    by false before h = inr (grind (arith, nat_tests, h))

off_spares : (d : ℕ) (call : Call) → is_off d call ≡ true → call.disk ≡ d → Spares 5 call.what
off_spares d call h same = spares call.what (at (call.disk == d) (grind (arith, nat_tests, same)) h)
  where
    at : (b : Bool) → b ≡ true → (not b || spares_five call.what) ≡ true → spares_five call.what ≡ true
    at true is h = h
    at false is h = absurd cc

-- after the row is written no call up to the acknowledgement writes it again
stays_from : (write d : ℕ) → list_all (is_off_at d) (range_with_len (write + 1) (11 - write)) ≡ true
    → (k : ℕ) (call : Call) → write < k → k < 12 → slice_get worked_log k ≡ Some call → call.disk ≡ d → Spares 5 call.what
stays_from write d all k call from until is same =
    let off : is_off_at d k ≡ true = in_range (is_off_at d) (11 - write) (write + 1) k (omega (arith, from)) (omega (arith, from, until)) all in
    off_spares d call (sym (ap (λ (x : Option Call). option_map_or (is_off d) x true) is) ∙ off) same

first_written : IsWrittenOn worked_log 4 12 0 5 (sector_of the_value)
first_written = record { write = 8; sync = 10; from = omega arith; behind = omega arith; until = omega arith; written = refl; synced = refl; stays = stays_from 8 0 refl }

second_written : IsWrittenOn worked_log 4 12 1 5 (sector_of the_value)
second_written = record { write = 9; sync = 11; from = omega arith; behind = omega arith; until = omega arith; written = refl; synced = refl; stays = stays_from 9 1 refl }

each_written : (d place : ℕ) → IsRowOn small_start 0 5 d place → IsWrittenOn worked_log 4 12 d place (sector_of the_value)
each_written d place row = subst (λ p. IsWrittenOn worked_log 4 12 d p (sector_of the_value)) (sym (row_place d place row)) (elim (row_disk d place row) [
  | inl first ↦ subst (λ e. IsWrittenOn worked_log 4 12 e 5 (sector_of the_value)) (sym first) first_written
  | inr second ↦ subst (λ e. IsWrittenOn worked_log 4 12 e 5 (sector_of the_value)) (sym second) second_written
])

pub returns-clause-answers : goal.returns-clause-answers
returns-clause-answers c = (
  tt,
  (
    tt,
    (
      tt,
      (
        tt,
        (
          tt,
          (
            tt,
            (
              tt,
              (
                tt,
                (
                  record { disk = 0; at = 5; row = first_row; some = first_written; each = λ d place row sound. each_written d place row },
                  (
                    tt,
                    (
                      record { read = 12; disk = 0; place = 5; from = omega arith; until = omega arith; row = first_row; went = refl },
                      (tt, (tt, (tt, (tt, tt)))),
                    ),
                  ),
                ),
              ),
            ),
          ),
        ),
      ),
    ),
  ),
)

-- the call there, if there is one, doesn't pass the test
abbrev misses : (Call → Bool) → List Call → ℕ → Bool
misses test log k = option_map_or (λ call. not (test call)) (slice_get log k) true

none_in : (test : Call → Bool) (log : List Call) (k : ℕ) (call : Call) → slice_get log k ≡ Some call → test call ≡ true → misses test log k ≡ true → ⊥
none_in test log k call is passes out = absurd (let bad : not (test call) ≡ true = sym (ap (λ (x : Option Call). option_map_or (λ call. not (test call)) x true) is) ∙ out in cc (passes, bad))

-- a write of the row
abbrev is_write : What → Bool
is_write (Read place) = false
is_write (Write place sectors stored) = place == 5
is_write Sync = false

abbrev is_sync : What → Bool
is_sync (Read place) = false
is_sync (Write place sectors stored) = false
is_sync Sync = true

abbrev is_read : What → Bool
is_read (Read place) = true
is_read (Write place sectors stored) = false
is_read Sync = false

abbrev writes_second : Call → Bool
writes_second call = (call.disk == 1) && is_write call.what

abbrev syncs_second : Call → Bool
syncs_second call = (call.disk == 1) && is_sync call.what && call.went

pub returns-clause-lone : goal.returns-clause-lone
returns-clause-lone c law =
    let second = law.1.1.1.1.1.1.1.1.0.each 1 5 second_row refl in
    none_in writes_second lone_log second.write _ second.written refl
    (in_range (misses writes_second lone_log) 8 4 second.write second.from (omega (arith, second.behind, second.until)) refl)

pub returns-clause-unsynced : goal.returns-clause-unsynced
returns-clause-unsynced c law =
    let second = law.1.1.1.1.1.1.1.1.0.each 1 5 second_row refl in
    elim (cases_lt second.write 9) [
      | inl early ↦ none_in writes_second unsynced_log second.write _ second.written refl
          (in_range (misses writes_second unsynced_log) 5 4 second.write second.from (omega (arith, early)) refl)
      | inr late ↦ none_in syncs_second unsynced_log second.sync _ second.synced refl
          (in_range (misses syncs_second unsynced_log) 3 9 second.sync (omega (arith, late, second.behind)) (omega (arith, second.until)) refl)
    ]

pub returns-clause-unread : goal.returns-clause-unread
returns-clause-unread c law =
    let value = law.1.1.1.1.1.1.1.1.1.1.0 in
    none_in (λ call. is_read call.what) unread_log value.read _ value.went refl
    (in_range (misses (λ call. is_read call.what) unread_log) 1 12 value.read value.from (omega (arith, value.until)) refl)

-- CAUSES

abbrev Cause : List Entry → ℕ → What → Type 0
Cause front d what = HasCause small_start write_and_read front d what

in_round : (front : List Entry) (d g : ℕ) → course_of front ≡ GoesOn g → small_words.expects small_start.newest (small_serial d) ≡ true → Cause front d Sync
in_round front d g is target = inl (record { generation = g; goes_on = is; target = target })

anchor : (front : List Entry) (d : ℕ) (s : Sector) → course_of front ≡ GoesOn (small_words.generation s) → small_words.expects small_start.newest (small_serial d) ≡ true → Cause front d (Write 4094 (s ∷ []) 1)
anchor front d s is target = inl (record {
  round = record { generation = small_words.generation s; goes_on = is; target = target };
  anchor = s;
  at_anchor = refl;
  brings = refl;
  of_round = refl;
  alone = refl;
})

abbrev writing : (front : List Entry) (d : ℕ) → IsRowOn small_start 0 5 d 5 → IsUnderWay front 0 → is_live 0 front ≡ true → IsWriting small_start write_and_read front d 5
writing front d row busy live = record { op = 0; under_way = busy; target = record { volume = 0; sector = 5; value = sector_of the_value }; asks = refl; live = live; row = row }

in_write : (front : List Entry) (d : ℕ) → IsRowOn small_start 0 5 d 5 → IsUnderWay front 0 → is_live 0 front ≡ true → Cause front d (Write 5 (sector_of the_value ∷ []) 1)
in_write front d row busy live = inr (writing front d row busy live, refl)

in_sync : (front : List Entry) (d : ℕ) → IsRowOn small_start 0 5 d 5 → IsUnderWay front 0 → is_live 0 front ≡ true → Cause front d Sync
in_sync front d row busy live = inr (5, writing front d row busy live)

in_read : (front : List Entry) (d : ℕ) → IsRowOn small_start 0 5 d 5 → IsUnderWay front 1 → Cause front d (Read 5)
in_read front d row busy = record { op = 1; under_way = busy; volume = the_volume; sector = 5; asks = refl; row = row }

abbrev upto : ℕ → List Entry
upto k = up_to k worked_journal

pub returns-clause-causes : goal.returns-clause-causes
returns-clause-causes c = (anchor (upto 0) 0 (block 2 0 0) refl refl, (in_round (upto 1) 0 2 refl refl, (anchor (upto 2) 1 (block 2 0 0) refl refl, (in_round (upto 3) 1 2 refl refl, (anchor (upto 4) 0 (block 3 1 0) refl refl, (in_round (upto 5) 0 3 refl refl, (anchor (upto 6) 1 (block 3 1 0) refl refl, (in_round (upto 7) 1 3 refl refl, (in_write (upto 8) 0 first_row (record { asked = refl; unanswered = refl }) refl, (in_write (upto 9) 1 second_row (record { asked = refl; unanswered = refl }) refl, (in_sync (upto 10) 0 first_row (record { asked = refl; unanswered = refl }) refl, (in_sync (upto 11) 1 second_row (record { asked = refl; unanswered = refl }) refl, (in_read (upto 12) 0 first_row (record { asked = refl; unanswered = refl }), (anchor (upto 13) 0 (block 4 0 0) refl refl, (in_round (upto 14) 0 4 refl refl, (anchor (upto 15) 1 (block 4 0 0) refl refl, (in_round (upto 16) 1 4 refl refl, tt)))))))))))))))))

pub returns-clause-scribbled : goal.returns-clause-scribbled
returns-clause-scribbled c law = elim law.1.1.1.1.1.1.1.1.1.1.1.1.1.1.1.1.1.0 [
  | inl anchor ↦ let place : 5 ≡ 4094 = anchor.at_anchor in omega (arith, place)
  | inr row ↦ let both : true ≡ false = sym row.0.under_way.asked ∙ row.0.under_way.unanswered in cc both
]

pub returns-clause-pending : goal.returns-clause-pending
returns-clause-pending c law = elim law.1.1.1.1.0 [
  | inl anchor ↦ let place : 5 ≡ 4094 = anchor.at_anchor in omega (arith, place)
  | inr row ↦ let dead : is_live row.0.target.volume pending_journal ≡ false = never_live row.0.target.volume pending_journal refl in
      let live : is_live row.0.target.volume pending_journal ≡ true = row.0.live in
      cc (dead, live)
]
