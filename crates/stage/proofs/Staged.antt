-- What a turn leaves of a stage is a stage.
use Rattle.std.proofs.Common.{◌≡◌, ℕ, ◌+◌, ◌^◌, ◌<◌, ◌≤◌, ◌||◌, nat_lt, nat_le, not, Bool, true, false, List, [], ◌∷◌, ◌++◌, length, suc, Option, Some, None, refl, ap, sym, subst, ◌∙◌, arith, length-append}
use Rattle.std.proofs.lemmas.Bool.Decides.{nat_tests}
use Rattle.units.specs.declared.disk.Sector.{Sector}
use Rattle.device_log.specs.Log.{Call}
use Rattle.member_bank.specs.Told.{Keeps}
use Rattle.array_model.specs.declared.script.OpKind.{OpKind}
use Rattle.array_model.specs.declared.script.OpKind.TheVariants.{Write as OpWrite, Read as OpRead, Whole as OpWhole}
use Rattle.array_model.specs.declared.journal.Entry.{Entry}
use Rattle.array_model.specs.declared.journal.Event.{Event}
use Rattle.array_model.specs.Blocks.{Laid}
use Rattle.array_model.specs.Placement.{Placement}
use Rattle.array_model.specs.Room.{BeginsWithRoom}
use Rattle.array_model.specs.Script.{kind_at}
use Rattle.stage_machine.specs.Setting.{Setting}
use Rattle.stage_machine.specs.Rounds.{Phase, Rest, Going, Step, AtAnchor, AtSync, Ended, begin_with, to_next, step_on}
use Rattle.stage_machine.specs.States.{State, IsReadonly, IsReadAuto, IsClean, IsPending, IsActive, IsIdle, Move, Nothing, Starts, Makes, decide, next_dirty, is_readonly}
use Rattle.stage_machine.specs.Jobs.{Job, NoJob, Busy, Got, Need, NoNeed, Reads, Writes, Syncs, Answers, client_at, placement_at, any_writing, after_write, after_sync}
use Rattle.stage_machine.specs.Machine.{Control, Action, Monitors, Asks, Quiets, Out, turn, turned, turned_unless, call_of, calls_after, stamped, moved, put_round, called, monitor_at, submit_write, submit_read, submit_kind, submit_unless, submit_next, put_client, meet, need_now, client_by, quieted, quiet_if}
use Rattle.control_state.specs.declared.plan.Plan.{Plan}
use Rattle.control_state.specs.declared.client.Client.{Client}
use Rattle.control_state.specs.declared.event.Events.{Events}
use Rattle.control_state.specs.declared.event.Events.TheVariants.{Zero, One, Two, Value}
use Rattle.control_state.specs.Events.{listed}
use Rattle.stage.specs.Runs.{Makes as Made, MakesTrue}
use Rattle.stage.specs.Stages.{Seen, IsStage, Turns, setting_of}
use Rattle.stage.proofs.Going.{goes_on}
use Rattle.stage.proofs.Room.{room_goes}

pub length-stamped : (n : ℕ) (es : List Event) → length (stamped n es) ≡ length es
length-stamped n [] = refl
length-stamped n (e ∷ es) = ap (λ (k : ℕ). suc k) (length-stamped n es)

one_call : (n : ℕ) (call : Option Call) → calls_after n call ≤ n + 1
one_call n None = omega arith
one_call n (Some call) = omega arith

-- there is room for a turn
pub not_full : (room len made : ℕ) → (nat_lt room (len + 4) || nat_le (2 ^ 48) made) ≡ false → (len + 4 ≤ room) × (made < 2 ^ 48)
not_full room len made is = by (nat_lt room (len + 4)) (nat_le (2 ^ 48) made) refl refl is
  where
    by : (a b : Bool) → nat_lt room (len + 4) ≡ a → nat_le (2 ^ 48) made ≡ b → (a || b) ≡ false → (len + 4 ≤ room) × (made < 2 ^ 48)
    by true b one two is = absurd (cc is)
    by false true one two is = absurd (cc is)
    by false false one two is = (grind (arith, nat_tests, one), grind (arith, nat_tests, two))

at_most_two : (clients : List Client) (events : Events) → length (listed clients events) ≤ 2
at_most_two clients Zero = omega arith
at_most_two clients (One e) = omega arith
at_most_two clients (Two e f) = omega arith
at_most_two clients (Value op k) = omega arith

-- what a turn enters has room
pub entered_within : (room made : ℕ) (journal : List Entry) (stamp : ℕ) (clients : List Client) (events : Events) → (nat_lt room (length journal + 4) || nat_le (2 ^ 48) made) ≡ false → length (journal ++ stamped stamp (listed clients events)) ≤ room
entered_within room made journal stamp clients events is =
    let room_left = (not_full room (length journal) made is).0 in
    let two = at_most_two clients events in
    let long : length (journal ++ stamped stamp (listed clients events)) ≡ length journal + length (listed clients events) = length-append journal (stamped stamp (listed clients events)) ∙ ap (λ (k : ℕ). length journal + k) (length-stamped stamp (listed clients events)) in
    omega (arith, room_left, two, long)

-- what a turn makes is seen of the stage
pub turns_made : {B : Type 0} (v a b : Seen B) (act : Action) (out : Out) (told now : Option (List Call)) → v ≡ a → Made (setting_of v.given) told v.control v.calls act out b.calls now
    → b.given ≡ v.given → b.room ≡ v.room → b.control ≡ out.next → b.journal ≡ v.journal ++ stamped b.calls out.events → Turns a b act
turns_made {B} v a b act out told now is makes given room next entries =
    subst (λ (x : Seen B). Turns x b act) is (record {
      given = given;
      room = room;
      control = next ∙ ap (λ (o : Out). o.next) makes.is;
      calls = makes.count;
      journal = entries ∙ ap (λ (o : Out). v.journal ++ stamped b.calls o.events) makes.is;
    })

-- HOW FAR GENERATIONS RISE

-- the highest generation begun rises by no more than what is entered
abbrev pub Rises : Control → Out → Type 0
Rises c out = out.next.round.note ≤ c.round.note + length out.events

begin_rises : (c : Control) (m : Laid) (left : List ℕ) → Rises c (put_round c (begin_with c.round m left))
begin_rises c m [] = omega arith
begin_rises c m (d ∷ ds) = omega arith

moved_rises : (S : Setting) (c : Control) (move : Move) → Rises c (moved S c move)
moved_rises S c Nothing = omega arith
moved_rises S c Starts = begin_rises c (S.renew c.round.book (c.round.note + 1) (next_dirty c.state)) c.round.working
moved_rises S c (Makes to event) = omega arith

next_rises : (S : Setting) (c : Control) (m : Laid) (left : List ℕ) → Rises c (put_round c (to_next S c.round m left))
next_rises S c m [] = omega arith
next_rises S c m (d ∷ ds) = omega arith

step_rises : (S : Setting) (c : Control) (m : Laid) (step : Step) (d : ℕ) (ds : List ℕ) → Rises c (put_round c (step_on S c.round m step d ds))
step_rises S c m AtAnchor d ds = omega arith
step_rises S c m AtSync d ds = next_rises S c m ds

called_rises : (went : Bool) (d : ℕ) (out : Out) (c : Control) → Rises c out → Rises c (called went d out c)
called_rises true d out c rises = rises
called_rises false d out c rises = omega arith

monitor_rises : (S : Setting) (c : Control) (x : Ended) (phase : Phase) → Rises c (monitor_at S c x phase)
monitor_rises S c x Rest = moved_rises S c (decide c.round.started c.state (S.start.words.is_dirty c.round.last 0) (S.start.words.is_dirty c.round.book 0))
monitor_rises S c x (Going m step []) = omega arith
monitor_rises S c x (Going m step (d ∷ ds)) = called_rises x.went d (put_round c (step_on S c.round m step d ds)) c (step_rises S c m step d ds)

write_rises : (c : Control) (k i : ℕ) (rest : List ℕ) (place : Option Placement) → Rises c (submit_write c k i rest place)
write_rises c k i rest None = omega arith
write_rises c k i rest (Some place) = omega arith

read_rises : (c : Control) (k i : ℕ) (rest : List ℕ) (place : Option Placement) → Rises c (submit_read c k i rest place)
read_rises c k i rest None = omega arith
read_rises c k i rest (Some place) = omega arith

kind_rises : (S : Setting) (c : Control) (k i : ℕ) (rest : List ℕ) (kind : Option OpKind) → Rises c (submit_kind S c k i rest kind)
kind_rises S c k i rest None = omega arith
kind_rises S c k i rest (Some (OpWrite v s value)) = write_rises c k i rest (placement_at S i)
kind_rises S c k i rest (Some (OpRead v s)) = read_rises c k i rest (placement_at S i)
kind_rises S c k i rest (Some (OpWhole v)) = omega arith

unless_rises : (S : Setting) (c : Control) (k i : ℕ) (rest : List ℕ) (readonly : Bool) → Rises c (submit_unless S c k i rest readonly)
unless_rises S c k i rest true = omega arith
unless_rises S c k i rest false = kind_rises S c k i rest (kind_at S.asked.ops i)

submit_rises : (S : Setting) (c : Control) (k : ℕ) (left : List ℕ) → Rises c (submit_next S c k left)
submit_rises S c k [] = omega arith
submit_rises S c k (i ∷ rest) = unless_rises S c k i rest (is_readonly c.state)

meet_rises : (S : Setting) (c : Control) (k : ℕ) (x : Ended) (got : Sector) (left : List ℕ) (i : ℕ) (n : Need) → Rises c (meet S c k x got left i n)
meet_rises S c k x got left i NoNeed = omega arith
meet_rises S c k x got left i (Reads d) = called_rises x.went d (record { next = put_client c k left (Busy i (Got got)); events = [] }) c (omega arith)
meet_rises S c k x got left i (Writes d ds) = called_rises x.went d (record { next = put_client c k left (Busy i (after_write S ds)); events = [] }) c (omega arith)
meet_rises S c k x got left i (Syncs d ds) = called_rises x.went d (record { next = put_client c k left (Busy i (after_sync ds)); events = [] }) c (omega arith)
meet_rises S c k x got left i (Answers answer) = omega arith

client_rises : (S : Setting) (c : Control) (k : ℕ) (x : Ended) (got : Sector) (left : List ℕ) (job : Job) → Rises c (client_by S c k x got left job)
client_rises S c k x got left NoJob = submit_rises S c k left
client_rises S c k x got left (Busy i step) = meet_rises S c k x got left i (need_now S c k i step)

quiet_if_rises : (c : Control) (rests : Bool) → Rises c (quiet_if c rests)
quiet_if_rises c true = omega arith
quiet_if_rises c false = omega arith

quiet_rises : (S : Setting) (c : Control) (state : State) → Rises c (quieted S c state)
quiet_rises S c IsReadonly = omega arith
quiet_rises S c IsReadAuto = omega arith
quiet_rises S c IsClean = omega arith
quiet_rises S c IsPending = omega arith
quiet_rises S c IsActive = quiet_if_rises c (not (any_writing S c.clients))
quiet_rises S c IsIdle = omega arith

turn_rises : (S : Setting) (c : Control) (a : Action) → Rises c (turn S c a)
turn_rises S c (Monitors x) = monitor_rises S c x c.round.phase
turn_rises S c (Asks k x got) = client_rises S c k x got (client_at c.clients k).left (client_at c.clients k).job
turn_rises S c Quiets = quiet_rises S c c.state

turned_rises : (S : Setting) (c : Control) (a : Action) (failed : Option ℕ) → Rises c (turned_unless S c a failed)
turned_rises S c a None = turn_rises S c a
turned_rises S c a (Some d) = omega arith

pub out_rises : (S : Setting) (c : Control) (a : Action) (out : Out) → out ≡ turned S c a → Rises c out
out_rises S c a out is = subst (Rises c) (sym is) (turned_rises S c a c.failed)

-- A TURN

pub stage_goes : (S : Setting) (p : Plan) (sizes : List ℕ) (c : Control) (made : ℕ) (journal : List Entry) (room : ℕ) (contents : Option (List (List Sector))) (told : Option (List Call)) (a : Action) (out : Out) (counted : ℕ) (entered : List Entry) (held : Option (List (List Sector))) (now : Option (List Call))
    → IsStage S p sizes c made journal room contents told → (length journal + 4 ≤ room) × (made < 2 ^ 48) → length entered ≤ room → MakesTrue S told c made a out counted held now → Keeps contents held → entered ≡ journal ++ stamped counted out.events → IsStage S p sizes out.next counted entered room held now
stage_goes S p sizes c made journal room contents told a out counted entered held now is free within turn_made keeps entries =
    let makes = turn_made.makes in
    let notes = is.notes in
    let few = free.1 in
    let note : Rises c out = out_rises S c a out makes.is in
    let count = makes.count in
    let long : length entered ≡ length journal + length out.events = ap (λ (xs : List Entry). length xs) entries ∙ length-append journal (stamped counted out.events) ∙ ap (λ (k : ℕ). length journal + k) (length-stamped counted out.events) in
    record {
      ran = goes_on S c made journal contents told a out counted entered held now is.ran turn_made keeps entries;
      fits = is.fits;
      few = omega (arith, few, count, one_call made (call_of S c a));
      within = within;
      notes = omega (arith, notes, note, long);
      roomy = subst (λ (xs : List Entry). BeginsWithRoom room xs) (sym entries) (room_goes S c room journal free.0 counted a out makes.is is.roomy);
    }
