-- Where a journal tells that its run has come to rest, every actor rests.
use Rattle.std.proofs.Common.{◌≡◌, ℕ, ◌<◌, ◌≤◌, ◌==◌, Bool, true, false, List, [], ◌∷◌, ◌++◌, length, refl, ap, sym, ◌∙◌, subst, arith, Option, Some, None}
use Rattle.std.specs.Prelude.{count_by, flat_map}
use Rattle.std.proofs.lemmas.Bool.{eq-eqb}
use Rattle.units.specs.declared.disk.Sector.{Sector}
use Rattle.array_model.specs.Events.{has, is_ack_of}
use Rattle.array_model.specs.Script.{is_of_client}
use Rattle.array_model.specs.AnswerLaw.{OpEvent, op_events_of, op_events_due}
use Rattle.array_model.specs.Renewal.{FitsGeneration}
use Rattle.array_model.specs.Causes.{Over}
use Rattle.array_model.specs.Rests.{is_owed, RestsAs, HasComeToRest}
use Rattle.array_model.proofs.Steps.{number, count-cons, count_parts, has_counted, is_step, pair, due_once, tells_steps}
use Rattle.stage_machine.specs.Setting.{Setting, Renews}
use Rattle.stage_machine.specs.Opens.{AsksFirst, StandsOnAll, IsFirstVolume}
use Rattle.stage_machine.specs.Rounds.{Phase, Rest, Going, Ended, round_call}
use Rattle.stage_machine.specs.States.{State, IsReadonly, IsReadAuto, IsClean, IsPending, IsActive, IsIdle, decide}
use Rattle.stage_machine.specs.Jobs.{Job, NoJob, Busy, Client, no_client, client_at}
use Rattle.stage_machine.specs.Machine.{Control, World, Action, Reached, Monitors, Asks, Quiets, moved, monitor_at, job_call, client_by, quieted, turned_unless, call_unless}
use Rattle.stage_machine.proofs.Turns.{Has}
use Rattle.stage_machine.proofs.Clients.{mine_reached, of_left, of_job, op_below}
use Rattle.answer_law.proofs.Order.{todo, due_reached as order_reached}
use Rattle.cause_law.proofs.States.{told_by, told_reached}
use Rattle.cause_law.proofs.Courses.{phase_course, course_reached}
use Rattle.rest_law.specs.Rest.{IsStill, IsAtRest}
use Rattle.rest_law.proofs.Owed.{CleanAt, CleanUnlessOwed, clean_reached}

-- CLIENTS

-- a client with nothing left and no job has nothing to do
pub nothing_left : (S : Setting) (c : Control) (k : ℕ) (x : Ended) (got : Sector) → c.failed ≡ None → client_at c.clients k ≡ no_client → IsStill S c (Asks k x got)
nothing_left S c k x got alive is = record {
  calls = ap (call_unless S c (Asks k x got)) alive ∙ ap (λ (y : Client). job_call S c k x y.job) is;
  enters = ap (λ f. (turned_unless S c (Asks k x got) f).events) alive ∙ ap (λ (y : Client). (client_by S c k x got y.left y.job).events) is;
}

-- an operation that was answered isn't to be answered again
not_twice : (S : Setting) → AsksFirst S → (w : World) → Reached S w → (k i : ℕ) → is_of_client S.asked.ops k i ≡ true → has (is_ack_of i) w.journal ≡ true
    → 1 ≤ count_by (is_step true i) (todo (client_at w.control.clients k)) → ⊥
not_twice S asks w r k i mine answered still =
    let steps = op_events_of S.asked.ops k w.journal in
    let all : count_by (is_step true i) (op_events_due S.asked.ops k) ≡ count_by (is_step true i) (steps ++ todo (client_at w.control.clients k)) =
    ap (λ xs. count_by (is_step true i) xs) (order_reached S asks w r k) in
    let parts = count_parts (is_step true i) steps (todo (client_at w.control.clients k)) in
    omega (arith, all, parts, still, has_counted (is_ack_of i) w.journal answered, tells_steps S.asked.ops k i mine true w.journal, due_once S.asked.ops k true i)

ack_first : (i : ℕ) (more : List OpEvent) → 1 ≤ count_by (is_step true i) (record { is_ack = true; op = i } ∷ more)
ack_first i more =
    let one : number (i == i) ≡ 1 = ap number (eq-eqb i i refl) in
    omega (arith, one, count-cons (is_step true i) (record { is_ack = true; op = i }) more)

pair_first : (i : ℕ) (more : List OpEvent) → 1 ≤ count_by (is_step true i) (record { is_ack = false; op = i } ∷ record { is_ack = true; op = i } ∷ more)
pair_first i more =
    omega (arith, ack_first i more, count-cons (is_step true i) (record { is_ack = false; op = i }) (record { is_ack = true; op = i } ∷ more))

-- where each operation was answered, no client has anything left
idle_clients : (S : Setting) → AsksFirst S → (w : World) → Reached S w → ((i : ℕ) → i < length S.asked.ops → has (is_ack_of i) w.journal ≡ true)
    → (k : ℕ) → client_at w.control.clients k ≡ no_client
idle_clients S asks w r answered k = at (client_at w.control.clients k).left (client_at w.control.clients k).job refl
  where
    at : (left : List ℕ) (job : Job) → Has w.control k left job → client_at w.control.clients k ≡ no_client
    at [] NoJob is = is
    at (i ∷ more) NoJob is =
        let mine = of_left S w.control k i more NoJob (mine_reached S w r) is in
        absurd (not_twice S asks w r k i mine (answered i (op_below S.asked.ops k i mine))
        (subst (λ x. 1 ≤ count_by (is_step true i) (todo x)) (sym is) (pair_first i (flat_map pair more))))
    at left (Busy i step) is =
        let mine = (of_job S w.control k i left step (mine_reached S w r) is).mine in
        absurd (not_twice S asks w r k i mine (answered i (op_below S.asked.ops k i mine))
        (subst (λ x. 1 ≤ count_by (is_step true i) (todo x)) (sym is) (ack_first i (flat_map pair left))))

-- THE MONITOR AND QUIET

over_is : (started : Bool) (note : ℕ) (phase : Phase) → phase_course started note phase ≡ Over → (phase ≡ Rest) × (started ≡ true)
over_is true note Rest is = (refl, refl)
over_is false note Rest is = absurd cc
over_is started note (Going m step left) is = absurd cc

-- a run that a failed call ended goes on in nothing
failed_still : (S : Setting) (c : Control) (d : ℕ) (a : Action) → c.failed ≡ Some d → IsStill S c a
failed_still S c d a is = record { calls = ap (call_unless S c a) is; enters = ap (λ f. (turned_unless S c a f).events) is }

module _ (S : Setting) (w : World) where
  abbrev c : Control
  c = w.control

  -- what the monitor finds where it has nothing to do
  record Quieted : Type 0 where
    rest : c.round.phase ≡ Rest
    started : c.round.started ≡ true
    moves : (x : Ended) → (moved S c (decide true c.state (S.start.words.is_dirty c.round.last 0) (S.start.words.is_dirty c.round.book 0))).events ≡ []
    quiet : (quieted S c c.state).events ≡ []

  quieted_by : (state : State) (owed : Bool) → c.state ≡ state → is_owed w.journal 0 ≡ owed → RestsAs (told_by state) owed → CleanUnlessOwed S state owed c.round
      → c.round.phase ≡ Rest → c.round.started ≡ true → Quieted
  quieted_by IsReadonly owed is o rests clean rest started = absurd rests
  quieted_by IsReadAuto owed is o rests clean rest started =
      let book : S.start.words.is_dirty c.round.book 0 ≡ false = (subst (CleanAt S c.round.started c.round.book) rest clean) started in
      record { rest = rest; started = started; moves = λ x. rw (is, book) refl; quiet = ap (λ s. (quieted S c s).events) is }
  quieted_by IsClean owed is o rests clean rest started =
      let book : S.start.words.is_dirty c.round.book 0 ≡ false = (subst (CleanAt S c.round.started c.round.book) rest (clean rests)) started in
      record { rest = rest; started = started; moves = λ x. rw (is, book) refl; quiet = ap (λ s. (quieted S c s).events) is }
  quieted_by IsPending owed is o rests clean rest started = absurd rests
  quieted_by IsActive owed is o rests clean rest started = absurd rests
  quieted_by IsIdle owed is o rests clean rest started = absurd rests

pub rests_by_journal : (S : Setting) → AsksFirst S → Renews S → StandsOnAll S → IsFirstVolume S → (w : World) → FitsGeneration w.control.round.note → Reached S w
    → HasComeToRest S.start S.asked.ops w.journal → IsAtRest S w.control
rests_by_journal S asks renews on volume w fits r told = at w.control.failed refl
  where
    quiet : Quieted S w
    quiet =
        let course = over_is w.control.round.started w.control.round.note w.control.round.phase (sym (course_reached S w r) ∙ told.recorded) in
        quieted_by S w w.control.state (is_owed w.journal 0) refl refl
        (subst (λ t. RestsAs t (is_owed w.journal 0)) (told_reached S asks volume w r) (told.volumes 0 volume.started))
        (clean_reached S renews on w fits r) course.0 course.1

    at : (failed : Option ℕ) → w.control.failed ≡ failed → IsAtRest S w.control
    at (Some d) is = record {
      monitor = λ x. failed_still S w.control d (Monitors x) is;
      clients = λ k lt x got. failed_still S w.control d (Asks k x got) is;
      quiet = failed_still S w.control d Quiets is;
    }
    at None is = record {
      monitor = λ x. record {
        calls = ap (call_unless S w.control (Monitors x)) is ∙ ap (round_call S x) quiet.rest;
        enters =
            ap (λ f. (turned_unless S w.control (Monitors x) f).events) is ∙ ap (λ p. (monitor_at S w.control x p).events) quiet.rest
            ∙ ap (λ b. (moved S w.control (decide b w.control.state (S.start.words.is_dirty w.control.round.last 0) (S.start.words.is_dirty w.control.round.book 0))).events) quiet.started
            ∙ quiet.moves x;
      };
      clients = λ k lt x got. nothing_left S w.control k x got is (idle_clients S asks w r told.answered k);
      quiet = record {
        calls = ap (call_unless S w.control Quiets) is;
        enters = ap (λ f. (turned_unless S w.control Quiets f).events) is ∙ quiet.quiet;
      };
    }
