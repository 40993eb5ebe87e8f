-- The block of a round is found through each effect.
use Rattle.std.proofs.Common.{◌≡◌, ℕ, ◌≤◌, ◌==◌, Bool, true, false, List, [], ◌∷◌, ◌++◌, length, refl, sym, ◌∙◌, subst, arith, Option, Some, None, inl, cond, length-append, eq-eqb}
use Rattle.std.proofs.lemmas.Bool.Decides.{nat_tests}
use Rattle.units.specs.declared.disk.Sector.{Sector}
use Rattle.device_log.specs.Log.{Call, What}
use Rattle.array_model.specs.declared.journal.Entry.{Entry}
use Rattle.array_model.specs.declared.journal.Event.{Event}
use Rattle.array_model.specs.Blocks.{Laid}
use Rattle.array_model.specs.Candidates.{Disk}
use Rattle.array_model.specs.Rounds.{IsRound, begun}
use Rattle.array_disks.specs.Calls.{call_on, RowCall}
use Rattle.array_disks.proofs.Known.{since_grows}
use Rattle.array_disks.proofs.Since.{pending_since_row, pending_since_behind, written_since_behind}
use Rattle.array_disks.proofs.Rounds.{round_more, begun_now}
use Rattle.array_machine.specs.Setting.{Setting}
use Rattle.array_machine.specs.Numbers.{without}
use Rattle.array_machine.specs.Rounds.{Ended, stored_of, Step, AtExtended, AtAnchor, AtSync, OfRound, OfSpare, Phase, Rest, Going, targets, late_targets, first_step, on_with, stepped, dropped, what_of}
use Rattle.array_machine.specs.Control.{Control}
use Rattle.array_machine.specs.Changes.{Change, RoundBegins, RoundEnds, DiskFails, entry_of}
use Rattle.array_machine.specs.Puts.{put}
use Rattle.array_machine.specs.Machine.{log_after, entered}
use Rattle.array_machine.specs.TakeoverTurns.{has_all}
use Rattle.array_paths.specs.InTurn.{InTurn}
use Rattle.array_paths.specs.MayEdit.{IsNext}
use Rattle.array_paths.specs.Comes.{Comes, begins, begins_spare, ends, ends_spare, lapses, fails, unblocks, readies, pends, activates, again, idles, cleans, client, pass, manages, kills, takes_over, resumes, dies}
use Rattle.array_paths.specs.AtRows.{AtRows, by_client, by_pass, by_monitor, after_read}
use Rattle.array_base.specs.Premises.{generation_of, IsContainer, Premises}
use Rattle.array_base.specs.Base.{ledger, Core}
use Rattle.array_base.proofs.NextBlock.{next_generation}
use Rattle.array_base.proofs.BlockCalls.{IsAimedAt}
use Rattle.array_finished.specs.Found.{IsWritten, AwaitsOn, AwaitsFirst, GoesSince, RoundSince, IsFound, IsFoundIn}
use Rattle.array_finished.proofs.Begun.{Leaves, begun_stays, BeginsNone, leaves_all}

module _ (S : Setting) where
  -- ONE CALL MORE

  inside_more : (log : List Call) (call : Option Call) (stamp : ℕ) → stamp ≤ length log
      → stamp ≤ length (log_after log call)
  inside_more log None stamp le = le
  inside_more log (Some call) stamp le = let long = length-append log (call ∷ []) in omega (arith, le, long)

  round_after : (log : List Call) (call : Option Call) (stamp g : ℕ) (m : Laid) → stamp ≤ length log
      → IsRound S.start log stamp g m → IsRound S.start (log_after log call) stamp g m
  round_after log None stamp g m le r = r
  round_after log (Some call) stamp g m le r = round_more S.start log (call ∷ []) stamp g m le r

  pub written_more : (log : List Call) (call : Option Call) (journal : List Entry) (m : Laid)
      → IsWritten S log journal m → IsWritten S (log_after log call) journal m
  written_more log call journal m w = record {
    stamp = w.stamp;
    begun = w.begun;
    inside = inside_more log call w.stamp w.inside;
    round = round_after log call w.stamp (generation_of S m) m w.inside w.round;
  }

  -- ONE ENTRY MORE

  written_entry : (log : List Call) (n : ℕ) (journal : List Entry) (o : Option Event) (m : Laid)
      → Leaves (generation_of S m) o → IsWritten S log journal m → IsWritten S log (journal ++ entered n o) m
  written_entry log n journal o m leaves w = record {
    stamp = w.stamp;
    begun = begun_stays (generation_of S m) n journal o leaves ∙ w.begun;
    inside = w.inside;
    round = w.round;
  }

  going_entry : (log : List Call) (n : ℕ) (journal : List Entry) (o : Option Event) (phase : Phase)
      → ((g : ℕ) → Leaves g o) → RoundSince S log journal phase → RoundSince S log (journal ++ entered n o) phase
  going_entry log n journal o Rest leaves g = tt
  going_entry log n journal o (Going (OfSpare d) m step left late done) leaves g = tt
  going_entry log n journal o (Going OfRound m step left late done) leaves g = record {
    stamp = g.stamp;
    begun = begun_stays (generation_of S m) n journal o (leaves (generation_of S m)) ∙ g.begun;
    inside = g.inside;
    awaits = g.awaits;
    written = g.written;
  }

  pub found_entry : (log : List Call) (n : ℕ) (journal : List Entry) (a : Change) (first : Bool) (last : Laid)
      (phase : Phase) → BeginsNone a → IsFound S log journal first last phase
      → IsFound S log (journal ++ entered n (entry_of S a)) first last phase
  found_entry log n journal a first last phase none f = record {
    finished = λ later. written_entry log n journal (entry_of S a) last (leaves_all (generation_of S last) S a none)
        (f.finished later);
    going = going_entry log n journal (entry_of S a) phase (λ g. leaves_all g S a none) f.going;
  }

  -- ON TO THE NEXT TARGET

  module _ (log : List Call) (journal : List Entry) where
    awaits_first : (stamp d : ℕ) (m : Laid) → AwaitsOn S log journal stamp d m (first_step m)
    awaits_first stamp d m = at m.extended refl
      where
        at : (xs : List Sector) → m.extended ≡ xs
            → AwaitsOn S log journal stamp d m (first_step (record { anchor = m.anchor; extended = xs }))
        at [] none = inl none
        at (x ∷ xs) some = tt

    going_on : (m : Laid) (left late : List ℕ) (done : Bool) (stamp : ℕ)
        → begun (generation_of S m) journal ≡ Some stamp → stamp ≤ length log
        → (done ≡ true → IsRound S.start log stamp (generation_of S m) m)
        → RoundSince S log journal (on_with OfRound m left late done)
    going_on m [] late false stamp is inside w =
        record { stamp = stamp; begun = is; inside = inside; awaits = tt; written = w }
    going_on m [] [] true stamp is inside w =
        record { stamp = stamp; begun = is; inside = inside; awaits = tt; written = w }
    going_on m [] (d ∷ ds) true stamp is inside w =
        record { stamp = stamp; begun = is; inside = inside; awaits = awaits_first stamp d m; written = w }
    going_on m (d ∷ ds) late done stamp is inside w =
        record { stamp = stamp; begun = is; inside = inside; awaits = awaits_first stamp d m; written = w }

    pub spare_on : (x : ℕ) (m : Laid) (left late : List ℕ) (done : Bool)
        → RoundSince S log journal (on_with (OfSpare x) m left late done)
    spare_on x m [] late false = tt
    spare_on x m [] late true = tt
    spare_on x m (d ∷ ds) late done = tt

    pub spare_stepped : (x : ℕ) (m : Laid) (step : Step) (left late : List ℕ) (done : Bool)
        → RoundSince S log journal (stepped (Going (OfSpare x) m step left late done))
    spare_stepped x m step [] late done = tt
    spare_stepped x m AtExtended (d ∷ ds) late done = tt
    spare_stepped x m AtAnchor (d ∷ ds) late done = tt
    spare_stepped x m AtSync (d ∷ ds) late done = spare_on x m ds late true

    -- a disk drops out
    pub going_dropped : (d : ℕ) (phase : Phase) → RoundSince S log journal phase
        → RoundSince S log journal (dropped d phase)
    going_dropped d Rest g = tt
    going_dropped d (Going OfRound m step [] late done) g =
        record { stamp = g.stamp; begun = g.begun; inside = g.inside; awaits = tt; written = g.written }
    going_dropped d (Going (OfSpare x) m step [] late done) g = tt
    going_dropped d (Going OfRound m step (e ∷ es) late done) g = at (e == d)
      where
        at : (b : Bool) → RoundSince S log journal (cond b (on_with OfRound m (without d es) (without d late) done)
            (Going OfRound m step (e ∷ without d es) (without d late) done))
        at true = going_on m (without d es) (without d late) done g.stamp g.begun g.inside g.written
        at false =
            record { stamp = g.stamp; begun = g.begun; inside = g.inside; awaits = g.awaits; written = g.written }
    going_dropped d (Going (OfSpare x) m step (e ∷ es) late done) g = at (e == d)
      where
        at : (b : Bool) → RoundSince S log journal (cond b (on_with (OfSpare x) m (without d es) (without d late) done)
            (Going (OfSpare x) m step (e ∷ without d es) (without d late) done))
        at true = spare_on x m (without d es) (without d late) done
        at false = tt

  -- CALLS

  module _ (log : List Call) (journal : List Entry) where
    -- at rows
    module _ (d : ℕ) (what : What) (went : Bool) (calls : RowCall (S.start.disks.sectors d) what) where
      abbrev behind_row : List Call
      behind_row = log ++ call_on d what went ∷ []

      awaits_row : (stamp : ℕ) → stamp ≤ length log → (m : Laid) (step : Step) (left : List ℕ)
          → AwaitsFirst S log journal stamp m step left → AwaitsFirst S behind_row journal stamp m step left
      awaits_row stamp inside m step [] awaits = tt
      awaits_row stamp inside m AtExtended (e ∷ es) awaits = tt
      awaits_row stamp inside m AtAnchor (e ∷ es) awaits =
          pending_since_row S.start.words S.start.disks log stamp inside d what went calls e m awaits
      awaits_row stamp inside m AtSync (e ∷ es) awaits =
          since_grows S.start.words S.start.disks e log (call_on d what went ∷ []) stamp m inside awaits

      going_row : (phase : Phase) → RoundSince S log journal phase → RoundSince S behind_row journal phase
      going_row Rest g = tt
      going_row (Going (OfSpare x) m step left late done) g = tt
      going_row (Going OfRound m step left late done) g = record {
        stamp = g.stamp;
        begun = g.begun;
        inside = inside_more log (Some (call_on d what went)) g.stamp g.inside;
        awaits = awaits_row g.stamp g.inside m step left g.awaits;
        written = λ is.
            round_after log (Some (call_on d what went)) g.stamp (generation_of S m) m g.inside (g.written is);
      }

      pub found_row : (first : Bool) (last : Laid) (phase : Phase) → IsFound S log journal first last phase
          → IsFound S behind_row journal first last phase
      found_row first last phase f = record {
        finished = λ later. written_more log (Some (call_on d what went)) journal last (f.finished later);
        going = going_row phase f.going;
      }

    -- of a round's write
    module _ (m : Laid) (container : IsContainer S m) (d : ℕ) (aimed : IsAimedAt S log d m) (ds late : List ℕ)
        (done : Bool) (x : Ended) (went : Bool) where
      abbrev behind_call : Step → List Call
      behind_call step = log ++ call_on d (what_of S x m step d) went ∷ []

      written_behind : (step : Step) → (g : GoesSince S log journal m step (d ∷ ds) done) → done ≡ true
          → IsRound S.start (behind_call step) g.stamp (generation_of S m) m
      written_behind step g is =
          round_after log (Some (call_on d (what_of S x m step d) went)) g.stamp (generation_of S m) m g.inside
          (g.written is)

      inside_behind : (step : Step) → (g : GoesSince S log journal m step (d ∷ ds) done)
          → g.stamp ≤ length (behind_call step)
      inside_behind step g = inside_more log (Some (call_on d (what_of S x m step d) went)) g.stamp g.inside

      pub going_step : (step : Step) → GoesSince S log journal m step (d ∷ ds) done
          → RoundSince S (behind_call step) journal (stepped (Going OfRound m step (d ∷ ds) late done))
      going_step AtExtended g = record {
        stamp = g.stamp;
        begun = g.begun;
        inside = inside_behind AtExtended g;
        awaits = pending_since_behind S.start.words S.start.disks log g.stamp g.inside d m aimed.room aimed.fits
            (stored_of x (length m.extended)) went;
        written = written_behind AtExtended g;
      }
      going_step AtAnchor g = record {
        stamp = g.stamp;
        begun = g.begun;
        inside = inside_behind AtAnchor g;
        awaits = written_since_behind S.start.words S.start.disks log g.stamp g.inside d m aimed.room aimed.fits
            (stored_of x 1) went g.awaits;
        written = written_behind AtAnchor g;
      }
      going_step AtSync g =
          going_on (behind_call AtSync) journal m ds late true g.stamp g.begun (inside_behind AtSync g) (λ is. record {
            disk = d;
            written = since_grows S.start.words S.start.disks d log (call_on d (what_of S x m AtSync d) went ∷ [])
                g.stamp m g.inside g.awaits;
            generation = refl;
            container = container;
          })

      -- where it failed its disk drops out
      pub going_lost : (step : Step) → GoesSince S log journal m step (d ∷ ds) done
          → RoundSince S (behind_call step) journal (dropped d (Going OfRound m step (d ∷ ds) late done))
      going_lost step g =
          subst (λ b. RoundSince S (behind_call step) journal (cond b
          (on_with OfRound m (without d ds) (without d late) done)
          (Going OfRound m step (d ∷ without d ds) (without d late) done))) (sym (eq-eqb d d refl))
          (going_on (behind_call step) journal m (without d ds) (without d late) done g.stamp g.begun
          (inside_behind step g) (written_behind step g))

  -- CHANGES

  module _ (P : Premises S) (t : InTurn) (log : List Call) (n : ℕ) (journal : List Entry) (c : Control)
      (inside : n ≤ length log) where
    abbrev BehindEntry : Change → Type 0
    BehindEntry a = IsFoundIn S log (journal ++ entered n (entry_of S a)) (put S a c)

    found_begin : (ks : ℕ → Disk) → (m : Laid) → IsNext S t c m → Core S P ks (ledger c.round)
        → IsFoundIn S log journal c → BehindEntry (RoundBegins m)
    found_begin ks m next core f =
        let generation = next_generation S P t c m next core.hand.book in
        let least = core.generations.last in
        record {
          finished = λ later. written_entry log n journal (entry_of S (RoundBegins m)) c.round.last
              (grind (arith, nat_tests, generation, least)) (f.finished later);
          going = going_on log (journal ++ entered n (entry_of S (RoundBegins m))) m (targets S c.round m)
              (late_targets S c.round m) false n (begun_now (generation_of S m) n journal) inside (λ is. absurd cc);
        }

    found_end : (m : Laid) (step : Step) → c.round.phase ≡ Going OfRound m step [] [] true
        → IsFoundIn S log journal c → BehindEntry (RoundEnds m)
    found_end m step is f =
        let g : GoesSince S log journal m step [] true = subst (RoundSince S log journal) is f.going in
        found_entry log n journal (RoundEnds m) false m Rest tt (record {
          finished = λ later. record { stamp = g.stamp; begun = g.begun; inside = g.inside; round = g.written refl };
          going = tt;
        })

    pub found_fault : (d : ℕ) → IsFoundIn S log journal c → BehindEntry (DiskFails d)
    found_fault d f =
        found_entry log n journal (DiskFails d) c.round.first c.round.last (dropped d c.round.phase) tt (record {
          finished = f.finished;
          going = going_dropped log journal d c.round.phase f.going;
        })

    -- what leaves first, last and the phase, or the phase to none of a round
    found_same : (a : Change) → BeginsNone a → IsFoundIn S log journal c
        → IsFound S log (journal ++ entered n (entry_of S a)) c.round.first c.round.last c.round.phase
    found_same a none f = found_entry log n journal a c.round.first c.round.last c.round.phase none f

    found_none : (a : Change) (phase : Phase) → BeginsNone a → RoundSince S log journal phase
        → IsFoundIn S log journal c
        → IsFound S log (journal ++ entered n (entry_of S a)) c.round.first c.round.last phase
    found_none a phase none g f =
        found_entry log n journal a c.round.first c.round.last phase none (record { finished = f.finished; going = g })

    pub found_comes : (ks : ℕ → Disk) → (a : Change) → Comes S t c a → Core S P ks (ledger c.round)
        → IsFoundIn S log journal c → BehindEntry a
    found_comes ks _ (begins m life rest target next) core f = found_begin ks m next core f
    found_comes ks _ (ends m step is) core f = found_end m step is f
    found_comes ks _ (fails d who may) core f = found_fault d f
    found_comes ks a (begins_spare d m life rest target may is unlisted room) core f = found_none a _ tt tt f
    found_comes ks a (ends_spare d m step is) core f = found_none a Rest tt tt f
    found_comes ks a (lapses aim m step late is) core f = found_none a Rest tt tt f
    found_comes ks a (kills who life) core f = found_none a Rest tt tt f
    found_comes ks a (resumes d taking young) core f = found_none a Rest tt tt f
    found_comes ks a (unblocks d rest blocked ended unexpected) core f = found_same a tt f
    found_comes ks a (readies v started state rest ended) core f = found_same a tt f
    found_comes ks a (pends v unbroken state submitted) core f = found_same a tt f
    found_comes ks a (activates v runs state rest ended now) core f = found_same a tt f
    found_comes ks a (again v unbroken state submitted) core f = found_same a tt f
    found_comes ks a (idles v who runs state none) core f = found_same a tt f
    found_comes ks a (cleans v runs state rest) core f = found_same a tt f
    found_comes ks a (client k new word move) core f = found_same a tt f
    found_comes ks a (pass v slots new word move) core f = found_same a tt f
    found_comes ks a (manages new word move) core f = found_same a tt f
    found_comes ks a (takes_over who life) core f = found_same a tt f
    found_comes ks a (dies taking) core f = found_same a tt f

    found_read : (d : ℕ) (left : List ℕ) (seen : List Sector) (found : List ℕ) (all : Bool) → IsFoundIn S log journal c
        → BehindEntry (after_read S c d left seen found all)
    found_read d left seen found true f = found_same (after_read S c d left seen found true) tt f
    found_read d left seen found false f = found_same (after_read S c d left seen found false) tt f

    pub found_rows : (d : ℕ) (what : What) (x : Ended) (a : Change) → AtRows S c d what x a → IsFoundIn S log journal c
        → BehindEntry a
    found_rows d _ x a (by_client k i r need _ _ call) f = found_same a tt f
    found_rows d _ x a (by_pass v p need _ _ call) f = found_same a tt f
    found_rows d _ x _ (by_monitor left seen found _ life) f =
        found_read d left (seen ++ x.got ∷ []) found (has_all S (seen ++ x.got ∷ [])) f
