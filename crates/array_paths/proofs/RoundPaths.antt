-- The end of a round is a path, with what becomes of the volumes' passes; so is what a call or a failure brings with
-- it.
use Rattle.std.proofs.Common.{◌≡◌, ℕ, suc, ◌+◌, ◌<◌, ◌≢◌, ◌==◌, nat_lt, Bool, true, false, cond, List, [], ◌∷◌, ◌++◌, refl, ap, sym, ◌∙◌, subst, arith, Option, Some, None, slice_set}
use Rattle.std.proofs.lemmas.Bool.Decides.{nat_tests}
use Rattle.std.proofs.lemmas.List.{get_or-set_other}
use Rattle.device_log.specs.Log.{Call}
use Rattle.array_model.specs.Blocks.{Laid}
use Rattle.array_machine.specs.Numbers.{without}
use Rattle.array_machine.specs.Setting.{Setting}
use Rattle.array_machine.specs.Volumes.{Slot, Pass, Volume, no_volume, volume_at}
use Rattle.array_machine.specs.Rounds.{Ended, Step, AtExtended, AtAnchor, AtSync, Aim, OfRound, OfSpare, Phase, Rest, Going, Round, on_with, stepped, dropped, ending}
use Rattle.array_machine.specs.Control.{Control}
use Rattle.array_machine.specs.Changes.{PassWord, Reaches, Change, StepsOn, RoundEnds, DiskFails, PassMoves}
use Rattle.array_machine.specs.Puts.{put, put_round}
use Rattle.array_machine.specs.RoundEnds.{has_other, PassRun, all_runs, pass_ended, slots_ended, volume_ended, volumes_ended, ended_by, and_ended}
use Rattle.array_paths.specs.InTurn.{InTurn}
use Rattle.array_paths.specs.PassMove.{EndsNow, PassMove, seats, reaches, closes}
use Rattle.array_paths.specs.Comes.{Comes, ends, ends_spare, lapses, pass}
use Rattle.array_paths.specs.Effects.{Effect, quiet, Path, ends_here, goes_on}

-- one change without a call
pub lone : (S : Setting) (t : InTurn) (c : Control) (x : Ended) (a : Change) → Comes S t c a
    → Path S t c None x (a ∷ [])
lone S t c x a comes = goes_on (quiet x a comes) (ends_here x)

-- THE PASSES

-- a volume of a list that was set elsewhere
pub other_volume : (volumes : List Volume) (v w : ℕ) (x : Volume) → v < w
    → volume_at (slice_set volumes v x) w ≡ volume_at volumes w
other_volume volumes v w x lt =
    let apart : w ≢ v = λ (e : w ≡ v). absurd (omega (arith, lt, e)) in
    get_or-set_other volumes v w x no_volume apart

module _ (S : Setting) (t : InTurn) (x : Ended) where
  -- what the end of the round makes of volume v, and then of others
  abbrev From : (c : Control) → List PassRun → List PassRun → Type 0
  From c runs others = Path S t c None x (all_runs (runs ++ others))

  -- the rest, whether or not volume v's pass moves
  pub record Goes (c : Control) (v : ℕ) (others : List PassRun) : Type 0 where
    pub still : Path S t c None x (all_runs others)
    pub moved : (slots : List Slot) (new : Option Pass) (word : PassWord)
        → Path S t (put S (PassMoves v slots new word) c) None x (all_runs others)

  module _ (c : Control) (v : ℕ) (others : List PassRun) (now : EndsNow t c) (goes : Goes c v others)
      (started : (volume_at c.volumes v).started ≡ true) where
    abbrev y : Volume
    y = volume_at c.volumes v

    abbrev last : Laid
    last = t.before.round.last

    abbrev m : Laid
    m = c.round.last

    moves : (slots : List Slot) (new : Option Pass) (word : PassWord) → PassMove S t c v slots new word
        → From c (record { volume = v; slots = slots; pass = new; word = word } ∷ []) others
    moves slots new word move = goes_on (quiet x _ (pass v slots new word move)) (goes.moved slots new word)

    abbrev reached : ℕ → PassRun
    reached unit = record { volume = v; slots = y.slots; pass = y.pass; word = Reaches unit }

    pass_part : (was is : Option ℕ) (old new : ℕ) → S.start.words.pass last v ≡ was → S.start.words.pass m v ≡ is
        → S.start.words.unit last v ≡ old → S.start.words.unit m v ≡ new
        → From c (pass_ended c.round.faults v y was is old new) others
    pass_part None is old new w i o n = goes.still
    pass_part (Some kind) None old new w i o n = moves _ _ _ (closes kind now started w i)
    pass_part (Some kind) (Some here) old new w i o n = at (nat_lt old new) refl
      where
        at : (b : Bool) → nat_lt old new ≡ b → From c (cond b (reached new ∷ []) []) others
        at false less = goes.still
        at true less =
            let above : S.start.words.unit last v < S.start.words.unit m v = grind (arith, nat_tests, less, o, n) in
            subst (λ unit. From c (reached unit ∷ []) others) n
            (moves _ _ _ (reaches kind here now started w i above))

    slots_part : (b : Bool) → has_other S (S.start.words.slots m v) y.slots ≡ b
        → From c (slots_ended S c.round.faults last m v y b) others
    slots_part true other = moves _ _ _ (seats now started other)
    slots_part false other = pass_part _ _ _ _ refl refl refl refl

  -- of volume v, so long as it was started
  abbrev slots_now : Control → ℕ → List PassRun
  slots_now c v =
      let y = volume_at c.volumes v in
      let other = has_other S (S.start.words.slots c.round.last v) y.slots in
      slots_ended S c.round.faults t.before.round.last c.round.last v y other

  volume_part : (c : Control) (v : ℕ) (others : List PassRun) → EndsNow t c → Goes c v others
      → From c (volume_ended S c.round.faults t.before.round.last c.round.last v (volume_at c.volumes v)) others
  volume_part c v others now goes = at (volume_at c.volumes v).started refl
    where
      at : (b : Bool) → (volume_at c.volumes v).started ≡ b
          → From c (cond b (slots_now c v) []) others
      at true started = slots_part c v others now goes started _ refl
      at false stopped = goes.still

  -- the volumes are those of the control state, from number v on
  volumes_part : (c : Control) (v : ℕ) (volumes : List Volume) → EndsNow t c
      → ((k : ℕ) → volume_at c.volumes (v + k) ≡ volume_at volumes k)
      → Path S t c None x
      (all_runs (volumes_ended S c.round.faults t.before.round.last c.round.last v volumes))
  volumes_part c v [] now at = ends_here x
  volumes_part c v (y ∷ ys) now at =
      let others = volumes_ended S c.round.faults t.before.round.last c.round.last (v + 1) ys in
      let first : v + 0 ≡ v = omega arith in
      let here : volume_at c.volumes v ≡ y = ap (volume_at c.volumes) (sym first) ∙ at 0 in
      let next = λ (k : ℕ).
      let there : v + 1 + k ≡ v + suc k = omega arith in
      ap (volume_at c.volumes) there ∙ at (suc k) in
      let goes : Goes c v others = record {
        still = volumes_part c (v + 1) ys now next;
        moved = λ slots new word. let c2 = put S (PassMoves v slots new word) c in
            let y2 = record (volume_at c.volumes v) { slots = slots; pass = new } in
            let now2 : EndsNow t c2 = record {
              step = now.step;
              left = now.left;
              late = now.late;
              done = now.done;
              was = now.was;
              rests = now.rests;
            } in
            volumes_part c2 (v + 1) ys now2
            (λ k. other_volume c.volumes v (v + 1 + k) y2 (omega arith) ∙ next k);
      } in
      subst (λ z. From c (volume_ended S c.round.faults t.before.round.last c.round.last v z) others) here
      (volume_part c v others now goes)

-- THE END

-- what went on when the turn began had this aim and this block
pub record WasGoing (before : Phase) (aim : Aim) (m : Laid) : Type 0 where
  pub step : Step
  pub left : List ℕ
  pub late : List ℕ
  pub done : Bool
  pub is : before ≡ Going aim m step left late done

-- what goes on in a round is what went on when the turn began, and no round has ended since
pub record Follows (t : InTurn) (r : Round) : Type 0 where
  pub last : r.last ≡ t.before.round.last
  pub was : (aim : Aim) (m : Laid) (step : Step) (left late : List ℕ) (done : Bool)
      → r.phase ≡ Going aim m step left late done → WasGoing t.before.round.phase aim m

round_ends : (S : Setting) (t : InTurn) (x : Ended) (c : Control) → Follows t c.round → (m : Laid) (step : Step)
    → c.round.phase ≡ Going OfRound m step [] [] true
    → Path S t c None x
    (RoundEnds m ∷ all_runs (volumes_ended S c.round.faults c.round.last m 0 c.volumes))
round_ends S t x c follows m step is =
    let before = follows.was OfRound m step [] [] true is in
    let now : EndsNow t (put S (RoundEnds m) c) = record {
      step = before.step;
      left = before.left;
      late = before.late;
      done = before.done;
      was = before.is;
      rests = refl;
    } in
    goes_on (quiet x _ (ends m step is))
    (subst
    (λ last. Path S t (put S (RoundEnds m) c) None x (all_runs (volumes_ended S c.round.faults last m 0 c.volumes)))
    (sym follows.last)
    (volumes_part S t x (put S (RoundEnds m) c) 0 c.volumes now
    (λ k. let same : 0 + k ≡ k = omega arith in ap (volume_at c.volumes) same)))

-- what has no target left ends
pub ended_path : (S : Setting) (t : InTurn) (x : Ended) (c : Control) → Follows t c.round
    → Path S t c None x (ended_by S c (ending c.round.phase))
ended_path S t x c follows = at c.round.phase refl
  where
    at : (phase : Phase) → c.round.phase ≡ phase → Path S t c None x (ended_by S c (ending phase))
    at Rest is = ends_here x
    at (Going OfRound m step [] [] true) is = round_ends S t x c follows m step is
    at (Going (OfSpare d) m step [] [] true) is = lone S t c x _ (ends_spare d m step is)
    at (Going aim m step [] (e ∷ es) true) is = ends_here x
    at (Going aim m step [] [] false) is = lone S t c x _ (lapses aim m step [] is)
    at (Going aim m step [] (e ∷ es) false) is = lone S t c x _ (lapses aim m step (e ∷ es) is)
    at (Going aim m step (d ∷ ds) late done) is = ends_here x

-- a change, and the end that it brings
pub and_ended_path : (S : Setting) (t : InTurn) (c : Control) (call : Option Call) (x : Ended) (a : Change)
    → Effect S t c call x a → Follows t (put S a c).round → Path S t c call x (and_ended S c a)
and_ended_path S t c call x a effect follows = goes_on effect (ended_path S t x (put S a c) follows)

-- WHAT A TURN BEGINS WITH

-- the targets that are left of what goes on are of the same block
on_was : (aim : Aim) (m : Laid) (left late : List ℕ) (done : Bool) (aim2 : Aim) (m2 : Laid) (step : Step)
    (left2 late2 : List ℕ) (done2 : Bool) → on_with aim m left late done ≡ Going aim2 m2 step left2 late2 done2
    → (aim ≡ aim2) × (m ≡ m2)
on_was aim m [] late true aim2 m2 step left2 late2 done2 is = (cc is, cc is)
on_was aim m [] late false aim2 m2 step left2 late2 done2 is = (cc is, cc is)
on_was aim m (d ∷ ds) late done aim2 m2 step left2 late2 done2 is = (cc is, cc is)

was_same : (aim aim2 : Aim) (m m2 : Laid) (step : Step) (left late : List ℕ) (done : Bool) → (aim ≡ aim2) × (m ≡ m2)
    → WasGoing (Going aim m step left late done) aim2 m2
was_same aim aim2 m m2 step left late done same = record {
  step = step;
  left = left;
  late = late;
  done = done;
  is = ap (λ a. Going a m step left late done) same.0 ∙ ap (λ b. Going aim2 b step left late done) same.1;
}

dropped_was : (d : ℕ) (before : Phase) (aim : Aim) (m : Laid) (step : Step) (left late : List ℕ) (done : Bool)
    → dropped d before ≡ Going aim m step left late done → WasGoing before aim m
dropped_was d Rest aim m step left late done is = absurd cc
dropped_was d (Going aim2 m2 step2 [] late2 done2) aim m step left late done is =
    was_same aim2 aim m2 m step2 [] late2 done2 (cc is, cc is)
dropped_was d (Going aim2 m2 step2 (e ∷ es) late2 done2) aim m step left late done is = at (e == d) is
  where
    at : (b : Bool)
        → cond b (on_with aim2 m2 (without d es) (without d late2) done2)
        (Going aim2 m2 step2 (e ∷ without d es) (without d late2) done2)
        ≡ Going aim m step left late done
        → WasGoing (Going aim2 m2 step2 (e ∷ es) late2 done2) aim m
    at true is =
        was_same aim2 aim m2 m step2 (e ∷ es) late2 done2
        (on_was aim2 m2 (without d es) (without d late2) done2 aim m step left late done is)
    at false is = was_same aim2 aim m2 m step2 (e ∷ es) late2 done2 (cc is, cc is)

stepped_was : (before : Phase) (aim : Aim) (m : Laid) (step : Step) (left late : List ℕ) (done : Bool)
    → stepped before ≡ Going aim m step left late done → WasGoing before aim m
stepped_was Rest aim m step left late done is = absurd cc
stepped_was (Going aim2 m2 step2 [] late2 done2) aim m step left late done is =
    was_same aim2 aim m2 m step2 [] late2 done2 (cc is, cc is)
stepped_was (Going aim2 m2 AtExtended (e ∷ es) late2 done2) aim m step left late done is =
    was_same aim2 aim m2 m AtExtended (e ∷ es) late2 done2 (cc is, cc is)
stepped_was (Going aim2 m2 AtAnchor (e ∷ es) late2 done2) aim m step left late done is =
    was_same aim2 aim m2 m AtAnchor (e ∷ es) late2 done2 (cc is, cc is)
stepped_was (Going aim2 m2 AtSync (e ∷ es) late2 done2) aim m step left late done is =
    was_same aim2 aim m2 m AtSync (e ∷ es) late2 done2 (on_was aim2 m2 es late2 true aim m step left late done is)

-- behind a failure, and behind a step, that come first in a turn
pub follows_fault : (S : Setting) (t : InTurn) (d : ℕ) → Follows t (put_round S (DiskFails d) t.before.round)
follows_fault S t d = record { last = refl; was = dropped_was d t.before.round.phase }

pub follows_step : (S : Setting) (t : InTurn) → Follows t (put_round S StepsOn t.before.round)
follows_step S t = record { last = refl; was = stepped_was t.before.round.phase }

-- a failure that comes first in a turn, with the end that it brings
pub fault_path : (S : Setting) (t : InTurn) (call : Option Call) (x : Ended) (d : ℕ)
    → Effect S t t.before call x (DiskFails d) → Path S t t.before call x (and_ended S t.before (DiskFails d))
fault_path S t call x d effect = and_ended_path S t t.before call x (DiskFails d) effect (follows_fault S t d)

-- a failure that comes first in a turn, then a change that leaves the round, and the end that the failure brings
pub lost_path : (S : Setting) (t : InTurn) (call : Option Call) (x : Ended) (d : ℕ) (a : Change)
    → Effect S t t.before call x (DiskFails d) → Comes S t (put S (DiskFails d) t.before) a
    → put_round S a (put_round S (DiskFails d) t.before.round) ≡ put_round S (DiskFails d) t.before.round
    → Path S t t.before call x (DiskFails d ∷ and_ended S (put S (DiskFails d) t.before) a)
lost_path S t call x d a effect comes leaves =
    goes_on effect
    (and_ended_path S t (put S (DiskFails d) t.before) None x a (quiet x a comes)
    (subst (Follows t) (sym leaves) (follows_fault S t d)))
