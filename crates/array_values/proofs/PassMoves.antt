-- The rows where a pass moves without a call: it opens, slots get other disks, it is recorded or closed, comes to its end,
-- or loses its call.
use Rattle.std.proofs.Common.{◌≡◌, ℕ, zero, suc, ◌*◌, ◌<◌, ◌||◌, not, Bool, true, false, List, [], ◌∷◌, ◌++◌, refl, ap, sym, ◌∙◌, subst, arith, Option, Some, None, ◌⊎◌, inl, inr, slice_get}
use Rattle.std.specs.Option.{option_map_or}
use Rattle.units.specs.declared.bounds.TheConstants.{UNIT_ROWS}
use Rattle.device_log.specs.Log.{Call}
use Rattle.array_model.specs.declared.journal.Entry.{Entry}
use Rattle.array_model.specs.Blocks.{SlotWords}
use Rattle.array_model.specs.AnswerLaw.{submitted_from}
use Rattle.array_machine.specs.Setting.{Setting}
use Rattle.array_machine.specs.Numbers.{has}
use Rattle.array_machine.specs.States.{IsReadonly, IsReadAuto}
use Rattle.array_machine.specs.Volumes.{Slot, slot_at, disk_in, Pass}
use Rattle.array_machine.specs.Operations.{volume_of, shape_of, the_place}
use Rattle.array_machine.specs.Control.{Control}
use Rattle.array_machine.specs.Changes.{PassMoves, PassWord, GoesOnQuietly, OpensAt, Reaches, Closes, pass_entry}
use Rattle.array_machine.specs.Puts.{put}
use Rattle.array_machine.specs.RoundEnds.{all_in_sync, seat_of, is_other, seated_if, seated, pass_from}
use Rattle.array_machine.specs.Machine.{entered}
use Rattle.array_paths.specs.InTurn.{InTurn, state_of, is_broken}
use Rattle.array_paths.specs.PassMove.{slots_of, members_at, GoesOn, EndsNow}
use Rattle.array_paths.specs.Ready.{RowsInside}
use Rattle.array_values.specs.Copies.{sector_at, row_at, IsCopied, InPair}
use Rattle.array_values.proofs.Journal.{IsNoAnswer, content_stays, unsure_stays, submitted_stays}
use Rattle.array_values.proofs.Rows.{pass_of, disk_of, IsPast, content_at, is_unsure_at, Counts, Tells, MayRead, RowsHold}
use Rattle.array_values.proofs.Needs.{IsFreeRow}
use Rattle.array_values.proofs.Settled.{StaysInRow, GoesPast, settled_goes}
use Rattle.array_values.proofs.Ground.{Ground}
use Rattle.array_values.proofs.PassRows.{NewPass, IsToCount, pass_rows}
use Rattle.array_values.proofs.PassFits.{empty_pass, later_pass, had_pass, settled_pass, sees_now, settled_counts, runs_still}

-- SLOTS

module _ (S : Setting) where
  -- a slot that comes in sync with other disks was in sync
  seated_sync : (ws : List SlotWords) (xs : List Slot) (s : ℕ) → (slot_at (seated S ws xs) s).in_sync ≡ true
      → slot_at (seated S ws xs) s ≡ slot_at xs s
  seated_sync [] xs s h = refl
  seated_sync (w ∷ ws) [] s h = refl
  seated_sync (w ∷ ws) (x ∷ xs) zero h = at (is_other (seat_of S w) x.disk) h
    where
      at : (b : Bool) → (seated_if b (seat_of S w) x).in_sync ≡ true → seated_if b (seat_of S w) x ≡ x
      at true h = absurd cc
      at false h = refl
  seated_sync (w ∷ ws) (x ∷ xs) (suc s) h = seated_sync ws xs s h

  -- one whose disk the block doesn't change stays
  seated_stays : (ws : List SlotWords) (xs : List Slot) (s d : ℕ) → disk_in xs s ≡ Some d
      → ((w : SlotWords) → slice_get ws s ≡ Some w → is_other (seat_of S w) (Some d) ≡ false)
      → slot_at (seated S ws xs) s ≡ slot_at xs s
  seated_stays [] xs s d is same = refl
  seated_stays (w ∷ ws) [] s d is same = refl
  seated_stays (w ∷ ws) (x ∷ xs) zero d is same =
      let other : is_other (seat_of S w) x.disk ≡ false = ap (is_other (seat_of S w)) is ∙ same w refl in
      ap (λ b. seated_if b (seat_of S w) x) other
  seated_stays (w ∷ ws) (x ∷ xs) (suc s) d is same = seated_stays ws xs s d is same

synced_at : (faults : List ℕ) (xs : List Slot) (s : ℕ) → disk_in (all_in_sync faults xs) s ≡ disk_in xs s
synced_at faults [] s = refl
synced_at faults (x ∷ xs) zero = refl
synced_at faults (x ∷ xs) (suc s) = synced_at faults xs s

synced_still : (faults : List ℕ) (xs : List Slot) (s : ℕ) → (slot_at xs s).in_sync ≡ true
    → (slot_at (all_in_sync faults xs) s).in_sync ≡ true
synced_still faults [] s h = absurd cc
synced_still faults (x ∷ xs) zero h = at x.in_sync (option_map_or (λ d. not (has d faults)) x.disk false) h
  where
    at : (a b : Bool) → a ≡ true → (a || b) ≡ true
    at true b h = refl
    at false b h = absurd cc
synced_still faults (x ∷ xs) (suc s) h = synced_still faults xs s h

-- PARAMETERS

-- What the slots' law gives where passes open and close, and slots get other disks.
pub record PassesAreTold (S : Setting) (t : InTurn) (c : Control) (log : List Call) (journal : List Entry) : Type 0 where
  pub seats : EndsNow t c → (v s d : ℕ) (w : SlotWords) → is_broken c v ≡ false → disk_of c v s ≡ Some d
      → has d c.round.faults ≡ false → slice_get (S.start.words.slots c.round.last v) s ≡ Some w
      → is_other (seat_of S w) (Some d) ≡ false
  pub closes : EndsNow t c → (v kind : ℕ) → S.start.words.pass t.before.round.last v ≡ Some kind
      → S.start.words.pass c.round.last v ≡ None → (s d : ℕ) → is_broken c v ≡ false → disk_of c v s ≡ Some d
      → has d c.round.faults ≡ false
      → ((slot_at (slots_of c v) s).in_sync ≡ true) ⊎ ((p : Pass) × (pass_of c v ≡ Some p) × (p.over ≡ true))
  pub opens : (v kind : ℕ) → state_of t.before v ≡ IsReadonly → state_of c v ≡ IsReadAuto
      → S.start.words.pass c.round.book v ≡ Some kind → (i s d : ℕ) → volume_of S i ≡ v → IsCopied S i
      → is_broken c v ≡ false → InPair (the_place S i) s → disk_of c v s ≡ Some d → has d c.round.faults ≡ false
      → row_at S i < S.start.words.unit c.round.book v * UNIT_ROWS
      → ((slot_at (slots_of c v) s).in_sync ≡ true) ⊎ (IsFreeRow S c v (row_at S i) × Tells S log journal i d)

module _ (S : Setting) (inside : RowsInside S) (t : InTurn) (c : Control) (log : List Call) (journal : List Entry) (n : ℕ)
    (rows : RowsHold S c log journal) (g : Ground S c) (told : PassesAreTold S t c log journal) (v : ℕ) where
  abbrev after : PassWord → List Entry
  after word = journal ++ entered n (pass_entry v word)

  no_answer : (word : PassWord) → IsNoAnswer (pass_entry v word)
  no_answer GoesOnQuietly = tt
  no_answer (OpensAt row) = tt
  no_answer (Reaches unit) = tt
  no_answer Closes = tt

  content : (word : PassWord) (i : ℕ) → (content_at S (after word) i ≡ content_at S journal i)
      × (is_unsure_at S (after word) i ≡ is_unsure_at S journal i)
  content word i = (
    content_stays S journal n (pass_entry v word) (no_answer word) (volume_of S i) (sector_at S i),
    unsure_stays S journal n (pass_entry v word) (no_answer word) (volume_of S i) (sector_at S i),
  )

  submitted : (word : PassWord) (i : ℕ) → submitted_from i 0 (after word) ≡ submitted_from i 0 journal
  submitted GoesOnQuietly i = submitted_stays S journal n i (pass_entry v GoesOnQuietly) tt
  submitted (OpensAt row) i = submitted_stays S journal n i (pass_entry v (OpensAt row)) tt
  submitted (Reaches unit) i = submitted_stays S journal n i (pass_entry v (Reaches unit)) tt
  submitted Closes i = submitted_stays S journal n i (pass_entry v Closes) tt

  tells_now : (word : PassWord) (i d : ℕ) → Tells S log journal i d → Tells S log (after word) i d
  tells_now word i d old h = old (sym (content word i).1 ∙ h) ∙ sym (content word i).0

  -- without a call
  pub quiet_move : (slots : List Slot) (new : Option Pass) (word : PassWord)
      → ((i s d : ℕ) → IsToCount S c v slots new i s d
      → Counts S c i s d ⊎ (IsFreeRow S c v (row_at S i) × Tells S log (after word) i d))
      → ((p : Pass) → new ≡ Some p → is_broken c v ≡ false → NewPass S slots c.round.faults log journal v p)
      → ((i : ℕ) → volume_of S i ≡ v → IsCopied S i → is_broken c v ≡ false → MayRead S c i
      → (s : ℕ) × (d : ℕ) × InPair (the_place S i) s × (disk_in slots s ≡ Some d) × (has d c.round.faults ≡ false)
      × ((slot_at slots s).in_sync ≡ true))
      → RowsHold S (put S (PassMoves v slots new word) c) log (after word)
  quiet_move slots new word counts holds runs = pass_rows S c v slots new word log None journal (after word) (record {
    cell = λ i s d copied sound pair disk works. inl refl;
    content = content word;
    submitted = submitted word;
    counts = counts;
    holds = λ p is sound.
        later_pass S slots c.round.faults log log journal (after word) v p (content word)
        (λ i s d volume copied pair disk works row lock has_it. refl) (holds p is sound);
    runs = runs;
  }) rows

  -- SLOTS AS THEY ARE

  counts_by : (i s d : ℕ) → (new : Option Pass) → IsToCount S c v (slots_of c v) new i s d
      → ((slot_at (slots_of c v) s).in_sync ≡ true) ⊎ IsPast (pass_of c v) (row_at S i) → Counts S c i s d
  counts_by i s d new h w = record {
    sound = subst (λ z. is_broken c z ≡ false) (sym h.volume) h.sound;
    pair = h.pair;
    disk = subst (λ z. disk_of c z s ≡ Some d) (sym h.volume) h.disk;
    works = h.works;
    why = subst (λ z. ((slot_at (slots_of c z) s).in_sync ≡ true) ⊎ IsPast (pass_of c z) (row_at S i)) (sym h.volume) w;
  }

  pub same_runs : (i : ℕ) → volume_of S i ≡ v → IsCopied S i → is_broken c v ≡ false → MayRead S c i
      → (s : ℕ) × (d : ℕ) × InPair (the_place S i) s × (disk_of c v s ≡ Some d) × (has d c.round.faults ≡ false)
      × ((slot_at (slots_of c v) s).in_sync ≡ true)
  same_runs i volume copied sound m = runs_still S c log journal rows v i volume m

  from_start : (slots : List Slot) (unit : ℕ) (p : Pass) → Some (pass_from unit) ≡ Some p
      → NewPass S slots c.round.faults log journal v p
  from_start slots unit p is =
      let same : pass_from unit ≡ p = cc is in
      subst (NewPass S slots c.round.faults log journal v) same
      (empty_pass S slots c.round.faults log journal v (pass_from unit) refl refl (λ h. absurd cc))

  pub opens_keeps : (kind : ℕ) → state_of t.before v ≡ IsReadonly → state_of c v ≡ IsReadAuto
      → S.start.words.pass c.round.book v ≡ Some kind → (word : PassWord)
      → RowsHold S (put S (PassMoves v (slots_of c v) (Some (pass_from (S.start.words.unit c.round.book v))) word) c) log
      (after word)
  opens_keeps kind was is open_ word = quiet_move (slots_of c v) (Some (pass_from unit)) word
      (λ i s d h. by i s d h h.why) (λ p e sound. from_start (slots_of c v) unit p e) same_runs
    where
      unit : ℕ
      unit = S.start.words.unit c.round.book v

      by : (i s d : ℕ) → IsToCount S c v (slots_of c v) (Some (pass_from (S.start.words.unit c.round.book v))) i s d
          → ((slot_at (slots_of c v) s).in_sync ≡ true) ⊎ IsPast (Some (pass_from (S.start.words.unit c.round.book v))) (row_at S i)
          → Counts S c i s d ⊎ (IsFreeRow S c v (row_at S i) × Tells S log (after word) i d)
      by i s d h (inl sync) = inl (counts_by i s d _ h (inl sync))
      by i s d h (inr x) =
          let one : pass_from (S.start.words.unit c.round.book v) ≡ x.at = let e = x.is in cc e in
          elim (told.opens v kind was is open_ i s d h.volume h.copied h.sound h.pair h.disk h.works
          (subst (λ (p : Pass). row_at S i < p.row) (sym one) x.above)) [
            | inl sync ↦ inl (counts_by i s d _ h (inl sync))
            | inr fresh ↦ inr (fresh.0, tells_now word i d fresh.1)
          ]

  pub same_keeps : (word : PassWord) → RowsHold S (put S (PassMoves v (slots_of c v) (pass_of c v) word) c) log (after word)
  same_keeps word = quiet_move (slots_of c v) (pass_of c v) word (λ i s d h. inl (counts_by i s d _ h h.why))
      (λ p is sound. had_pass S c log journal rows v p (rows.passes v p sound is)) same_runs

  pub end_keeps : (p : Pass) → GoesOn S c v p
      → RowsHold S (put S (PassMoves v (slots_of c v) (Some p) GoesOnQuietly) c) log (after GoesOnQuietly)
  end_keeps p goes = quiet_move (slots_of c v) (Some p) GoesOnQuietly (λ i s d h. inl (counts i s d h)) holds same_runs
    where
      go : StaysInRow (shape_of S v) (members_at c v) goes.had p ⊎ GoesPast (shape_of S v) (members_at c v) goes.had p
      go = subst (λ q. StaysInRow (shape_of S v) (members_at c v) goes.had q ⊎ GoesPast (shape_of S v) (members_at c v) goes.had q)
          (sym goes.settles) (settled_goes (shape_of S v) (members_at c v) goes.had)

      counts : (i s d : ℕ) → IsToCount S c v (slots_of c v) (Some p) i s d → Counts S c i s d
      counts = settled_counts S c log journal rows v inside g (members_at c v) (sees_now S c log journal rows v)
          goes.had goes.had p p goes.is refl go refl

      holds : (q : Pass) → Some p ≡ Some q → is_broken c v ≡ false → NewPass S (slots_of c v) c.round.faults log journal v q
      holds q e sound =
          let same : p ≡ q = cc e in
          subst (NewPass S (slots_of c v) c.round.faults log journal v) same
          (settled_pass S c log journal rows v (members_at c v) goes.had p go
          (had_pass S c log journal rows v goes.had (rows.passes v goes.had sound goes.is)))

  -- OTHER SLOTS

  pub seats_keeps : EndsNow t c → (word : PassWord)
      → RowsHold S (put S (PassMoves v (seated S (S.start.words.slots c.round.last v) (slots_of c v)) (Some (pass_from 0)) word) c)
      log (after word)
  seats_keeps now word = quiet_move new_slots (Some (pass_from 0)) word (λ i s d h. by i s d h h.why)
      (λ p e sound. from_start (seated S (S.start.words.slots c.round.last v) (slots_of c v)) 0 p e) runs
    where
      new_slots : List Slot
      new_slots = seated S (S.start.words.slots c.round.last v) (slots_of c v)

      by : (i s d : ℕ) → IsToCount S c v (seated S (S.start.words.slots c.round.last v) (slots_of c v)) (Some (pass_from 0)) i s d
          → ((slot_at (seated S (S.start.words.slots c.round.last v) (slots_of c v)) s).in_sync ≡ true) ⊎ IsPast (Some (pass_from 0)) (row_at S i)
          → Counts S c i s d ⊎ (IsFreeRow S c v (row_at S i) × Tells S log (after word) i d)
      by i s d h (inr x) =
          absurd (let one : pass_from 0 ≡ x.at = let e = x.is in cc e in
          let lt : row_at S i < 0 * UNIT_ROWS = subst (λ (p : Pass). row_at S i < p.row) (sym one) x.above in omega (arith, lt))
      by i s d h (inl sync) =
          let same = seated_sync S (S.start.words.slots c.round.last v) (slots_of c v) s sync in
          inl (record {
            sound = subst (λ z. is_broken c z ≡ false) (sym h.volume) h.sound;
            pair = h.pair;
            disk = subst (λ z. disk_of c z s ≡ Some d) (sym h.volume) (ap (λ (x : Slot). x.disk) (sym same) ∙ h.disk);
            works = h.works;
            why = inl (subst (λ z. (slot_at (slots_of c z) s).in_sync ≡ true) (sym h.volume)
                (ap (λ (x : Slot). x.in_sync) (sym same) ∙ sync));
          })

      runs : (i : ℕ) → volume_of S i ≡ v → IsCopied S i → is_broken c v ≡ false → MayRead S c i
          → (s : ℕ) × (d : ℕ) × InPair (the_place S i) s
          × (disk_in (seated S (S.start.words.slots c.round.last v) (slots_of c v)) s ≡ Some d)
          × (has d c.round.faults ≡ false)
          × ((slot_at (seated S (S.start.words.slots c.round.last v) (slots_of c v)) s).in_sync ≡ true)
      runs i volume copied sound m =
          let old = same_runs i volume copied sound m in
          let same = seated_stays S (S.start.words.slots c.round.last v) (slots_of c v) old.0 old.1 old.3
          (λ w is. told.seats now v old.0 old.1 w sound old.3 old.4 is) in (
            old.0,
            old.1,
            old.2,
            ap (λ (x : Slot). x.disk) same ∙ old.3,
            old.4,
            ap (λ (x : Slot). x.in_sync) same ∙ old.5,
          )

  pub closes_keeps : EndsNow t c → (kind : ℕ) → S.start.words.pass t.before.round.last v ≡ Some kind
      → S.start.words.pass c.round.last v ≡ None → (word : PassWord)
      → RowsHold S (put S (PassMoves v (all_in_sync c.round.faults (slots_of c v)) None word) c) log (after word)
  closes_keeps now kind was none word = quiet_move new_slots None word (λ i s d h. inl (by i s d h)) (λ p e sound. absurd cc) runs
    where
      new_slots : List Slot
      new_slots = all_in_sync c.round.faults (slots_of c v)

      by : (i s d : ℕ) → IsToCount S c v (all_in_sync c.round.faults (slots_of c v)) None i s d → Counts S c i s d
      by i s d h = counts (told.closes now v kind was none s d h.sound disk h.works)
        where
          disk : disk_of c v s ≡ Some d
          disk = sym (synced_at c.round.faults (slots_of c v) s) ∙ h.disk

          below : row_at S i < (shape_of S v).rows
          below = subst (λ w. row_at S i < (shape_of S w).rows) h.volume (inside i (the_place S i) h.copied.placed)

          count : ((slot_at (slots_of c v) s).in_sync ≡ true) ⊎ IsPast (pass_of c v) (row_at S i) → Counts S c i s d
          count w = record {
            sound = subst (λ z. is_broken c z ≡ false) (sym h.volume) h.sound;
            pair = h.pair;
            disk = subst (λ z. disk_of c z s ≡ Some d) (sym h.volume) disk;
            works = h.works;
            why = subst (λ z. ((slot_at (slots_of c z) s).in_sync ≡ true) ⊎ IsPast (pass_of c z) (row_at S i)) (sym h.volume) w;
          }

          counts : ((slot_at (slots_of c v) s).in_sync ≡ true) ⊎ ((p : Pass) × (pass_of c v ≡ Some p) × (p.over ≡ true))
              → Counts S c i s d
          counts (inl sync) = count (inl sync)
          counts (inr over) =
              let le = (rows.passes v over.0 h.sound over.1).over over.2 in
              let lt = below in
              count (inr (record { at = over.0; is = over.1; above = omega (arith, le, lt) }))

      runs : (i : ℕ) → volume_of S i ≡ v → IsCopied S i → is_broken c v ≡ false → MayRead S c i
          → (s : ℕ) × (d : ℕ) × InPair (the_place S i) s
          × (disk_in (all_in_sync c.round.faults (slots_of c v)) s ≡ Some d)
          × (has d c.round.faults ≡ false)
          × ((slot_at (all_in_sync c.round.faults (slots_of c v)) s).in_sync ≡ true)
      runs i volume copied sound m =
          let old = same_runs i volume copied sound m in (
            old.0,
            old.1,
            old.2,
            synced_at c.round.faults (slots_of c v) old.0 ∙ old.3,
            old.4,
            synced_still c.round.faults (slots_of c v) old.0 old.5,
          )
