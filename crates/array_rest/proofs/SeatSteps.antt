-- What holds of seats and of volumes that can run, behind each change of a turn but the end of a round.
use Rattle.std.proofs.Common.{◌≡◌, ℕ, ◌+◌, ◌≤◌, ◌==◌, Bool, true, false, List, [], ◌∷◌, ◌++◌, refl, ap, sym, ◌∙◌, subst, arith, Option, Some, None, ◌⊎◌, inl, inr}
use Rattle.std.specs.Prelude.{⊤}
use Rattle.std.proofs.lemmas.Bool.Decides.{nat_tests}
use Rattle.units.specs.declared.disk.Sector.{Sector}
use Rattle.device_log.specs.Log.{Call, What}
use Rattle.array_model.specs.Blocks.{Laid}
use Rattle.array_machine.specs.Setting.{Setting}
use Rattle.array_machine.specs.Numbers.{has}
use Rattle.array_machine.specs.States.{state_after}
use Rattle.array_machine.specs.Volumes.{disk_in, members_of, can_run, Volume, volume_at}
use Rattle.array_machine.specs.Operations.{shape_of}
use Rattle.array_machine.specs.Rounds.{Ended, AtExtended, AtAnchor, AtSync, OfRound, OfSpare, Phase, Rest, Going, Round, targets, late_targets, given_if, gives, stepped}
use Rattle.array_machine.specs.Control.{Control}
use Rattle.array_machine.specs.Changes.{Change, StepsOn, RoundBegins, SpareBegins, RoundEnds, SpareEnds, RoundLapses, DiskFails, DiskUnblocks, StateGoes, ClientMoves, PassMoves, ManagerMoves, MonitorKilled, TakeoverStarts, TakeoverReads, MonitorResumes, MonitorDies}
use Rattle.array_machine.specs.Puts.{put}
use Rattle.array_machine.specs.TakeoverTurns.{has_all}
use Rattle.array_paths.specs.InTurn.{InTurn}
use Rattle.array_paths.specs.MayEdit.{IsNext}
use Rattle.array_paths.specs.Comes.{Comes, begins, resumes}
use Rattle.array_paths.specs.AtRows.{AtRows, by_client, by_pass, by_monitor, after_read}
use Rattle.array_paths.specs.Effects.{Effect, quiet, row, row_fails, steps, step_fails}
use Rattle.array_base.specs.Premises.{generation_of, MayBeBook, Premises}
use Rattle.array_base.proofs.NextBlock.{next_generation, next_is_book}
use Rattle.array_base.proofs.Targets.{or_neither}
use Rattle.array_rest.specs.Between.{IsFine}
use Rattle.array_rest.specs.Seats.{SeatsAll, BookGoes, BlocksSeat, RunsOn, VolumesRun}
use Rattle.array_rest.proofs.SeatChanges.{HaveFrames, set_frame, seats_framed, blocks_framed, runs_framed, book_on, same_goes, dropped_goes, stepped_goes, given_by, given_goes, fault_frame, fault_able}
use Rattle.array_rest.proofs.SeatEdits.{next_seat}

-- WHICH CHANGES COME WITHOUT A CALL

-- a change that a call makes
abbrev pub IsOfCall : Change → Type 0
IsOfCall StepsOn = ⊤
IsOfCall (DiskFails d) = ⊤
IsOfCall (ClientMoves k client word) = ⊤
IsOfCall (PassMoves v slots pass word) = ⊤
IsOfCall (TakeoverReads left seen found) = ⊤
IsOfCall _ = ⊥

module _ (S : Setting) where
  read_of_call : (c : Control) (d : ℕ) (left : List ℕ) (seen : List Sector) (found : List ℕ) (b : Bool)
      → IsOfCall (after_read S c d left seen found b)
  read_of_call c d left seen found true = tt
  read_of_call c d left seen found false = tt

  rows_of_call : (c : Control) (d : ℕ) (what : What) (x : Ended) (a : Change) → AtRows S c d what x a → IsOfCall a
  rows_of_call c d _ x _ (by_client k i r need what _ call) = tt
  rows_of_call c d _ x _ (by_pass v p need what _ call) = tt
  rows_of_call c d _ x _ (by_monitor left seen found _ life) =
      read_of_call c d left (seen ++ x.got ∷ []) found (has_all S (seen ++ x.got ∷ []))

  pub comes_or_called : (t : InTurn) (c : Control) {call : Option Call} {x : Ended} (a : Change) → Effect S t c call x a
      → Comes S t c a ⊎ IsOfCall a
  comes_or_called t c a (quiet x _ comes) = inl comes
  comes_or_called t c a (row d what x _ may call went at) = inr (rows_of_call c d what x a at)
  comes_or_called t c _ (row_fails d what x may call failed at) = inr tt
  comes_or_called t c _ (steps d m step x target went) = inr tt
  comes_or_called t c _ (step_fails d m step x target failed) = inr tt

  next_of : (t : InTurn) (c : Control) (m : Laid) → Comes S t c (RoundBegins m) → IsNext S t c m
  next_of t c m (begins _ life rest target next) = next

  -- WHAT HOLDS OF A CONTROL STATE

  pub record Seated (formed : Laid → Bool) (A : Type 0) (c : Control) : Type 0 where
    pub blocks : BlocksSeat S formed c.round c.volumes
    pub run : A → VolumesRun S c.round c.volumes
    pub opened : (v : ℕ) → (volume_at c.volumes v).started ≡ true → S.start.is_started v ≡ true

  module _ (P : Premises S) (A : Type 0) where
    abbrev SeatedIn : Control → Type 0
    SeatedIn c = Seated P.edits.formed A c

    module _ (t : InTurn) (c : Control) (h : SeatedIn c) where
      -- THE ROUND ALONE

      -- another round over the same blocks and faults
      round_seats : (q : Round) → q.book ≡ c.round.book → q.note ≡ c.round.note → q.last ≡ c.round.last
          → q.faults ≡ c.round.faults → ((e : ℕ) → q.given e ≡ c.round.given e) → BookGoes S q q.phase
          → BlocksSeat S P.edits.formed q c.volumes
      round_seats q book note last faults given goes = record {
        may_book = subst (MayBeBook S P.edits.formed) (sym book) h.blocks.may_book;
        may_given = λ e. subst (MayBeBook S P.edits.formed) (sym (given e)) (h.blocks.may_given e);
        low = λ e.
            let le = h.blocks.low e in
            let same = ap (generation_of S) (given e) in
            omega (arith, le, same, note);
        goes = goes;
        last = seats q.last (subst (λ b. SeatsAll S b c.round.faults c.volumes) (sym last) h.blocks.last);
        book = seats q.book (subst (λ b. SeatsAll S b c.round.faults c.volumes) (sym book) h.blocks.book);
        given = λ e young. seats (q.given e)
            (subst (λ b. SeatsAll S b c.round.faults c.volumes) (sym (given e))
            (h.blocks.given e
            (let a = ap (generation_of S) last in let b = ap (generation_of S) (given e) in omega (arith, young, a, b))));
      }
        where
          seats : (m : Laid) → SeatsAll S m c.round.faults c.volumes → SeatsAll S m q.faults c.volumes
          seats m all = subst (λ ds. SeatsAll S m ds c.volumes) (sym faults) all

      round_runs : (q : Round) → q.faults ≡ c.round.faults → q.first ≡ c.round.first → A → VolumesRun S q c.volumes
      round_runs q faults first a =
          let run = h.run a in
          record {
            able = λ v started sound. subst (λ ds. RunsOn S ds v (volume_at c.volumes v)) (sym faults) (run.able v started sound);
            slots = run.slots;
            certain = λ v s d is. run.certain v s d (sym first ∙ is);
          }

      same_book : (q : Round) → q.book ≡ c.round.book → q.note ≡ c.round.note
          → ((e : ℕ) → q.given e ≡ c.round.given e) → q.phase ≡ c.round.phase → BookGoes S q q.phase
      same_book q book note given phase =
          subst (BookGoes S q) (sym phase)
          (same_goes S c.round q (record { book = book; note = note; given = given }) c.round.phase h.blocks.goes)

      -- VOLUMES ALONE

      volumes_seat : (volumes : List Volume) → HaveFrames c.volumes volumes
          → BlocksSeat S P.edits.formed c.round volumes
      volumes_seat volumes frames = blocks_framed S P.edits.formed c.round c.volumes volumes frames h.blocks

      -- EACH CHANGE

      steps_seat : BlocksSeat S P.edits.formed (put S StepsOn c).round c.volumes
      steps_seat = record {
        may_book = b.may_book;
        may_given = λ e. elim (given_by S c.round c.round.phase b.goes e) [
          | inl same ↦ subst (MayBeBook S P.edits.formed) (sym same) (b.may_given e)
          | inr book ↦ subst (MayBeBook S P.edits.formed) (sym book) b.may_book
        ];
        low = λ e. low_by e (given_by S c.round c.round.phase b.goes e);
        goes = same_goes S (record c.round { given = gives c.round.phase c.round.given }) (put S StepsOn c).round
            (record { book = refl; note = refl; given = λ e. refl }) (stepped c.round.phase)
            (stepped_goes S (record c.round { given = gives c.round.phase c.round.given }) c.round.phase
            (given_goes S c.round c.round.phase b.goes));
        last = b.last;
        book = b.book;
        given = λ e young. elim (given_by S c.round c.round.phase b.goes e) [
          | inl same ↦ subst (λ m. SeatsAll S m c.round.faults c.volumes) (sym same)
              (b.given e (let eq = ap (generation_of S) same in omega (arith, young, eq)))
          | inr book ↦ subst (λ m. SeatsAll S m c.round.faults c.volumes) (sym book) b.book
        ];
      }
        where
          b : BlocksSeat S P.edits.formed c.round c.volumes
          b = h.blocks

          top : (phase : Phase) → BookGoes S c.round phase → (e : ℕ)
              → generation_of S (gives phase c.round.given e) ≤ c.round.note
          top Rest goes e = b.low e
          top (Going (OfSpare x) m step left late done) goes e = b.low e
          top (Going OfRound m AtExtended left late done) goes e = b.low e
          top (Going OfRound m AtSync left late done) goes e = b.low e
          top (Going OfRound m AtAnchor [] late done) goes e = b.low e
          top (Going OfRound m AtAnchor (d ∷ ds) late done) goes e = at (d == e)
            where
              at : (y : Bool) → generation_of S (given_if y m (c.round.given e)) ≤ c.round.note
              at true = let is = goes.1 in omega (arith, is)
              at false = b.low e

          low_by : (e : ℕ) → (gives c.round.phase c.round.given e ≡ c.round.given e)
              ⊎ (gives c.round.phase c.round.given e ≡ c.round.book)
              → generation_of S (gives c.round.phase c.round.given e) ≤ c.round.note
          low_by e either = top c.round.phase b.goes e

      begins_seat : (m : Laid) → IsNext S t c m → BlocksSeat S P.edits.formed (put S (RoundBegins m) c).round c.volumes
      begins_seat m next = record {
        may_book = next_is_book S P t c m next b.may_book;
        may_given = b.may_given;
        low = λ e. let le = b.low e in omega (arith, le);
        goes = book_on S (put S (RoundBegins m) c).round OfRound m (targets S c.round m) (late_targets S c.round m)
            false (λ step. (refl, generation, λ e is. absurd (let le = b.low e in omega (arith, le, is))));
        last = b.last;
        book = λ v s d started has_it sound.
            next_seat S P c v s d (h.opened v started) sound t m next b.may_book.form
            (b.book v s d started has_it sound);
        given = b.given;
      }
        where
          b : BlocksSeat S P.edits.formed c.round c.volumes
          b = h.blocks

          generation : generation_of S m ≡ c.round.note + 1
          generation = next_generation S P t c m next b.may_book

      fault_seat : (d : ℕ) → BlocksSeat S P.edits.formed (put S (DiskFails d) c).round (put S (DiskFails d) c).volumes
      fault_seat d = record {
        may_book = b.may_book;
        may_given = b.may_given;
        low = b.low;
        goes = dropped_goes S d (put S (DiskFails d) c).round c.round.phase
            (same_goes S c.round (put S (DiskFails d) c).round (record { book = refl; note = refl; given = λ e. refl })
            c.round.phase b.goes);
        last = move c.round.last b.last;
        book = move c.round.book b.book;
        given = λ e young. move (c.round.given e) (b.given e young);
      }
        where
          b : BlocksSeat S P.edits.formed c.round c.volumes
          b = h.blocks

          move : (m : Laid) → SeatsAll S m c.round.faults c.volumes
              → SeatsAll S m (d ∷ c.round.faults) (put S (DiskFails d) c).volumes
          move m all =
              seats_framed S m c.round.faults (d ∷ c.round.faults) c.volumes (put S (DiskFails d) c).volumes
              (λ e is. (or_neither (d == e) (has e c.round.faults) is).1) (λ v. (fault_frame S c d v).started)
              (λ v s. ap (λ xs. disk_in xs s) (fault_frame S c d v).slots) all

      fault_runs : (d : ℕ) → A → VolumesRun S (put S (DiskFails d) c).round (put S (DiskFails d) c).volumes
      fault_runs d a =
          let framed = runs_framed S c.round c.volumes (put S (DiskFails d) c).volumes (fault_frame S c d) (h.run a) in
          record {
            able = λ v started sound.
                let frame = fault_frame S c d v in
                ap (λ xs. can_run (shape_of S v).level (members_of (d ∷ c.round.faults) [] xs)) frame.slots
                ∙ fault_able S c d v (h.run a) (sym frame.started ∙ started) sound;
            slots = framed.slots;
            certain = framed.certain;
          }

      fault_opened : (d v : ℕ) → (volume_at (put S (DiskFails d) c).volumes v).started ≡ true
          → S.start.is_started v ≡ true
      fault_opened d v is = h.opened v (sym (fault_frame S c d v).started ∙ is)

      -- only a round that could be gone on from is
      young_of : (d : ℕ) → Comes S t c (MonitorResumes d)
          → generation_of S c.round.last ≤ generation_of S (c.round.given d)
      young_of d (resumes _ taking young) = grind (arith, nat_tests, young)

      resumes_seat : (d : ℕ) → generation_of S c.round.last ≤ generation_of S (c.round.given d)
          → BlocksSeat S P.edits.formed (put S (MonitorResumes d) c).round c.volumes
      resumes_seat d young = record {
        may_book = h.blocks.may_given d;
        may_given = h.blocks.may_given;
        low = h.blocks.low;
        goes = tt;
        last = h.blocks.last;
        book = h.blocks.given d young;
        given = h.blocks.given;
      }

      -- the round moves, volumes stay
      round_alone : (a : Change) → BlocksSeat S P.edits.formed (put S a c).round c.volumes
          → (put S a c).round.faults ≡ c.round.faults → (put S a c).round.first ≡ c.round.first
          → (put S a c).volumes ≡ c.volumes → SeatedIn (put S a c)
      round_alone a blocks faults first volumes = record {
        blocks = subst (BlocksSeat S P.edits.formed (put S a c).round) (sym volumes) blocks;
        run = λ x. subst (VolumesRun S (put S a c).round) (sym volumes) (round_runs (put S a c).round faults first x);
        opened = λ v is. h.opened v (ap (λ vs. (volume_at vs v).started) (sym volumes) ∙ is);
      }

      volumes_alone : (a : Change) → (put S a c).round ≡ c.round → HaveFrames c.volumes (put S a c).volumes
          → SeatedIn (put S a c)
      volumes_alone a same frames = record {
        blocks = subst (λ r. BlocksSeat S P.edits.formed r (put S a c).volumes) (sym same)
            (volumes_seat (put S a c).volumes frames);
        run = λ x. subst (λ r. VolumesRun S r (put S a c).volumes) (sym same)
            (runs_framed S c.round c.volumes (put S a c).volumes frames (h.run x));
        opened = λ v is. h.opened v (sym (frames v).started ∙ is);
      }

      pub seated_change : (a : Change) → IsFine S c a → Comes S t c a ⊎ IsOfCall a → SeatedIn (put S a c)
      seated_change StepsOn fine why = round_alone StepsOn steps_seat refl refl refl
      seated_change (RoundBegins m) fine (inl comes) =
          round_alone (RoundBegins m) (begins_seat m (next_of t c m comes)) refl refl refl
      seated_change (RoundBegins m) fine (inr bad) = absurd bad
      seated_change (SpareBegins d m) fine why =
          round_alone (SpareBegins d m)
          (round_seats (put S (SpareBegins d m) c).round refl refl refl refl (λ e. refl) tt) refl refl refl
      seated_change (RoundEnds m) fine why = absurd fine
      seated_change (SpareEnds d) fine why =
          round_alone (SpareEnds d)
          (round_seats (put S (SpareEnds d) c).round refl refl refl refl (λ e. refl) tt) refl refl refl
      seated_change RoundLapses fine why =
          round_alone RoundLapses
          (round_seats (put S RoundLapses c).round refl refl refl refl (λ e. refl) tt) refl refl refl
      seated_change (DiskFails d) fine why =
          record { blocks = fault_seat d; run = fault_runs d; opened = fault_opened d }
      seated_change (DiskUnblocks d) fine why =
          round_alone (DiskUnblocks d)
          (round_seats (put S (DiskUnblocks d) c).round refl refl refl refl (λ e. refl)
          (same_book (put S (DiskUnblocks d) c).round refl refl (λ e. refl) refl)) refl refl refl
      seated_change (StateGoes v word) fine why =
          volumes_alone (StateGoes v word) refl
          (set_frame c.volumes v (record (volume_at c.volumes v) { state = state_after word })
          (record { started = refl; slots = refl; sound = λ is. is }))
      seated_change (ClientMoves k new word) fine why =
          record { blocks = h.blocks; run = h.run; opened = h.opened }
      seated_change (PassMoves v slots None word) fine why = absurd fine
      seated_change (PassMoves v slots (Some p) word) fine why =
          volumes_alone (PassMoves v slots (Some p) word) refl
          (set_frame c.volumes v (record (volume_at c.volumes v) { slots = slots; pass = Some p })
          (record { started = refl; slots = fine.same; sound = λ is. is }))
      seated_change (ManagerMoves new word) fine why = record { blocks = h.blocks; run = h.run; opened = h.opened }
      seated_change MonitorKilled fine why =
          round_alone MonitorKilled
          (round_seats (put S MonitorKilled c).round refl refl refl refl (λ e. refl) tt) refl refl refl
      seated_change (TakeoverStarts left) fine why =
          round_alone (TakeoverStarts left)
          (round_seats (put S (TakeoverStarts left) c).round refl refl refl refl (λ e. refl)
          (same_book (put S (TakeoverStarts left) c).round refl refl (λ e. refl) refl)) refl refl refl
      seated_change (TakeoverReads left seen found) fine why =
          round_alone (TakeoverReads left seen found)
          (round_seats (put S (TakeoverReads left seen found) c).round refl refl refl refl (λ e. refl)
          (same_book (put S (TakeoverReads left seen found) c).round refl refl (λ e. refl) refl)) refl refl refl
      seated_change (MonitorResumes d) fine (inl comes) =
          round_alone (MonitorResumes d) (resumes_seat d (young_of d comes)) refl refl refl
      seated_change (MonitorResumes d) fine (inr bad) = absurd bad
      seated_change MonitorDies fine why =
          round_alone MonitorDies
          (round_seats (put S MonitorDies c).round refl refl refl refl (λ e. refl)
          (same_book (put S MonitorDies c).round refl refl (λ e. refl) refl)) refl refl refl
