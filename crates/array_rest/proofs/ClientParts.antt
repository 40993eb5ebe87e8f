-- The turns of a client are made of such changes.
use Rattle.std.proofs.Common.{◌≡◌, ℕ, zero, suc, ◌+◌, ◌==◌, ◌||◌, ◌&&◌, not, Bool, true, false, List, [], ◌∷◌, ◌++◌, refl, ap, sym, ◌∙◌, subst, Option, Some, None, inl, inr, slice_set}
use Rattle.array_model.specs.declared.script.OpKind.{OpKind}
use Rattle.array_model.specs.declared.script.OpKind.TheVariants.{Write as OpWrite, Read as OpRead, Whole as OpWhole}
use Rattle.array_model.specs.declared.journal.Answer.TheVariants.{Past}
use Rattle.array_model.specs.Script.{kind_at}
use Rattle.array_model.specs.Placement.{Placement}
use Rattle.array_machine.specs.Setting.{Setting}
use Rattle.array_machine.specs.States.{State, IsReadonly, IsReadAuto, IsClean, IsPending, IsActive, IsIdle, is_pending, ToPending, ToActiveAgain}
use Rattle.array_machine.specs.Volumes.{disk_in, Volume, volume_at, source_in}
use Rattle.array_machine.specs.Operations.{volume_of, place_at, the_place, is_write}
use Rattle.array_machine.specs.Clients.{Row, no_row, Job, NoJob, Submitted, Busy, Client, client_at, with_job}
use Rattle.array_machine.specs.Rounds.{Ended}
use Rattle.array_machine.specs.Control.{Control}
use Rattle.array_machine.specs.Changes.{IsSilent, Submits, Acknowledges, DiskFails, StateGoes, ClientMoves, ClientWord}
use Rattle.array_machine.specs.States.{StateWord, ToReady, ToActive, ToIdle, ToClean, state_after}
use Rattle.array_machine.specs.Faults.{job_without, clients_without}
use Rattle.array_machine.specs.Locks.{holds, locked_from, pass_holds, is_locked}
use Rattle.array_machine.specs.Puts.{set_state, put}
use Rattle.array_machine.specs.RowJobs.{Need, NoNeed, Reads, Writes, Syncs, Answers, went_on, lost_row}
use Rattle.array_machine.specs.Turns.{may_call, call_if, calling}
use Rattle.array_machine.specs.ClientTurns.{asks_unless, begins_job, submit_at, submit_kind, submit_unless, submit_next, is_shut, the_volume, row_tried, is_held, need_unless, need_what, job_changes, on_disk, meet, is_whole_now, is_without_spare, whole_answer, busy_kind, busy_unless, client_by}
use Rattle.array_base.proofs.Targets.{or_neither}
use Rattle.units.specs.declared.disk.Sector.{Sector}
use Rattle.array_paths.specs.InTurn.{job_of}
use Rattle.array_paths.specs.ClientMove.{NamesSector, fits_kind, fits_op}
use Rattle.array_paths.proofs.ClientPaths.{job_kept}
use Rattle.array_base.proofs.Slots.{volume_set}
use Rattle.array_rest.specs.Between.{Kept, TurnEnds, TurnIsOver}
use Rattle.array_rest.specs.Jobs.{JobGoes}
use Rattle.array_rest.proofs.JobRows.{tried_stands, went_stands, lost_stands}
use Rattle.array_rest.proofs.Parts.{client_set}
use Rattle.array_rest.proofs.Failures.{holds_lost, fault_pass_holds}
use Rattle.array_rest.proofs.Turns.{MayEnd, over_may, fault_may, Turns, over, next, ended_turn}

-- CLIENTS THAT ARE SET

set_again : (xs : List Client) (k : ℕ) (a b : Client) → slice_set (slice_set xs k a) k b ≡ slice_set xs k b
set_again [] k a b = refl
set_again (x ∷ xs) zero a b = refl
set_again (x ∷ xs) (suc k) a b = ap (λ ys. x ∷ ys) (set_again xs k a b)

-- no operation stands between its submit and its job
abbrev NoneSubmitted : List Client → Type 0
NoneSubmitted clients = (k i : ℕ) → (client_at clients k).job ≡ Submitted i → ⊥

none_set : (clients : List Client) (k : ℕ) (new : Client) → NoneSubmitted clients
    → ((i : ℕ) → new.job ≡ Submitted i → ⊥) → NoneSubmitted (slice_set clients k new)
none_set clients k new none other j i is = elim (client_set clients k new j) [
  | inl here ↦ other i (sym (ap (λ (x : Client). x.job) here.1) ∙ is)
  | inr old ↦ none j i (sym (ap (λ (x : Client). x.job) old) ∙ is)
]

none_set_again : (clients : List Client) (k : ℕ) (a new : Client) → NoneSubmitted clients
    → ((i : ℕ) → new.job ≡ Submitted i → ⊥) → NoneSubmitted (slice_set (slice_set clients k a) k new)
none_set_again clients k a new none other =
    subst NoneSubmitted (sym (set_again clients k a new)) (none_set clients k new none other)

-- a failure leaves each lock
locked_lost : (S : Setting) (d v row k from : ℕ) (volumes : List Volume) (clients : List Client)
    → locked_from S v row k from (clients_without S d volumes clients) ≡ locked_from S v row k from clients
locked_lost S d v row k from volumes [] = refl
locked_lost S d v row k from volumes (x ∷ xs) =
    ap (λ b. (not (from == k) && b) || locked_from S v row k (from + 1) (clients_without S d volumes xs))
    (holds_lost S d v row volumes x.job)
    ∙ ap (λ b. (not (from == k) && holds S v row x.job) || b)
    (locked_lost S d v row k (from + 1) volumes xs)

module _ (S : Setting) (c : Control) (kept : Kept S c) (ends : TurnIsOver S c) (k : ℕ) where
  fault_locked : (d v row : ℕ) → is_locked S (put S (DiskFails d) c) v row k ≡ is_locked S c v row k
  fault_locked d v row =
      ap (λ b. b || pass_holds row (volume_at (put S (DiskFails d) c).volumes v).pass)
      (locked_lost S d v row k 0 c.volumes c.clients)
      ∙ ap (λ b. locked_from S v row k 0 c.clients || b) (fault_pass_holds S c d kept v row)

  -- the client's last change in a turn, which leaves no operation just submitted
  last_over : (clients : List Client) → NoneSubmitted clients
      → TurnEnds S c.round.phase c.round.life clients c.manager.asks
  last_over clients none = record {
    goes_on = ends.goes_on;
    halted = ends.halted;
    submitted = none;
    applied = ends.applied;
  }

  -- SUBMITS

  abbrev submitted : ℕ → List ℕ → Control
  submitted i rest = put S (ClientMoves k (with_job rest (Submitted i)) (Submits i)) c

  -- a client that goes on with its job behind its submit, and one that is answered
  busy_over : (i : ℕ) (rest : List ℕ)
      → TurnEnds S c.round.phase c.round.life
      (slice_set (slice_set c.clients k (with_job rest (Submitted i))) k (with_job rest (Busy i no_row)))
      c.manager.asks
  busy_over i rest =
      last_over _
      (none_set_again c.clients k (with_job rest (Submitted i)) (with_job rest (Busy i no_row)) ends.submitted
      (λ j bad. cc bad))

  past_over : (i : ℕ) (rest : List ℕ)
      → TurnEnds S c.round.phase c.round.life
      (slice_set (slice_set c.clients k (with_job rest (Submitted i))) k (with_job rest NoJob)) c.manager.asks
  past_over i rest =
      last_over _
      (none_set_again c.clients k (with_job rest (Submitted i)) (with_job rest NoJob) ends.submitted (λ j bad. cc bad))

  -- its job begins on a volume that takes operations
  begun_goes : (e : Control) (i : ℕ) → is_shut (volume_at e.volumes (volume_of S i)) ≡ false
      → JobGoes S e k i no_row
  begun_goes e i shut = record { open_to = λ old. shut; names = λ begun. absurd cc; plan = λ able slots old plan is. absurd (cc is) }

  -- a word to a state doesn't shut its volume
  shut_set : (volumes : List Volume) (v : ℕ) (word : StateWord) → is_shut (volume_at volumes v) ≡ false
      → is_shut (volume_at (set_state volumes v (state_after word)) v) ≡ false
  shut_set volumes v word shut =
      elim (volume_set volumes v (record (volume_at volumes v) { state = state_after word }) v) [
        | inl here ↦ ap is_shut here.1 ∙ written word
        | inr other ↦ ap is_shut other ∙ shut
      ]
    where
      written : (word : StateWord)
          → is_shut (record (volume_at volumes v) { state = state_after word }) ≡ false
      written ToReady = refl
      written ToPending = refl
      written ToActive = refl
      written ToActiveAgain = refl
      written ToIdle = refl
      written ToClean = refl

  module _ (i : ℕ) (rest : List ℕ) (shut : is_shut (volume_at c.volumes (volume_of S i)) ≡ false) where
    begins : (e : Control) → is_shut (volume_at e.volumes (volume_of S i)) ≡ false
        → Turns S (put S (begins_job k i rest) e) [] → Turns S e (begins_job k i rest ∷ [])
    begins e is_open turns = next (begins_job k i rest) ((λ bad. absurd cc), begun_goes e i is_open) turns

    asked : (word : StateWord) → Turns S (submitted i rest) (StateGoes (volume_of S i) word ∷ begins_job k i rest ∷ [])
    asked word =
        next (StateGoes (volume_of S i) word) tt
        (begins (put S (StateGoes (volume_of S i) word) (submitted i rest))
        (shut_set c.volumes (volume_of S i) word shut) (over (busy_over i rest)))

    -- behind what it asks of its volume
    asks_made : (broken : Bool) (state : State)
        → Turns S (submitted i rest) (asks_unless broken (volume_of S i) state ++ begins_job k i rest ∷ [])
    asks_made true state = begins (submitted i rest) shut (over (busy_over i rest))
    asks_made false IsReadonly = begins (submitted i rest) shut (over (busy_over i rest))
    asks_made false IsReadAuto = asked ToPending
    asks_made false IsClean = asked ToPending
    asks_made false IsPending = begins (submitted i rest) shut (over (busy_over i rest))
    asks_made false IsActive = begins (submitted i rest) shut (over (busy_over i rest))
    asks_made false IsIdle = asked ToActiveAgain

    -- a job begins at once
    at_once : Turns S c (ClientMoves k (with_job rest (Busy i no_row)) (Submits i) ∷ [])
    at_once =
        next (ClientMoves k (with_job rest (Busy i no_row)) (Submits i)) ((λ bad. absurd cc), begun_goes c i shut)
        (over (last_over _ (none_set c.clients k (with_job rest (Busy i no_row)) ends.submitted (λ j bad. cc bad))))

    submit_made : (writes : Bool) (place : Option Placement)
        → Turns S c (submit_at k i rest (volume_of S i) (volume_at c.volumes (volume_of S i)) writes place)
    submit_made writes None =
        next (ClientMoves k (with_job rest (Submitted i)) (Submits i)) (tt, tt)
        (next (ClientMoves k (with_job rest NoJob) (Acknowledges i Past)) (tt, tt) (over (past_over i rest)))
    submit_made false (Some place) = at_once
    submit_made true (Some place) =
        next (ClientMoves k (with_job rest (Submitted i)) (Submits i)) (tt, tt)
        (asks_made (volume_at c.volumes (volume_of S i)).broken (volume_at c.volumes (volume_of S i)).state)

    kind_made : (kind : Option OpKind) → Turns S c (submit_kind S c k i rest kind)
    kind_made None = over ends
    kind_made (Some (OpWrite v s value)) = submit_made true (place_at S i)
    kind_made (Some (OpRead v s)) = submit_made false (place_at S i)
    kind_made (Some (OpWhole v)) = at_once

  unless_made : (i : ℕ) (rest : List ℕ) (shut : Bool) → is_shut (volume_at c.volumes (volume_of S i)) ≡ shut
      → Turns S c (submit_unless S c k i rest shut)
  unless_made i rest true is = over ends
  unless_made i rest false is = kind_made i rest is (kind_at S.asked.ops i)

  next_made : (left : List ℕ) → Turns S c (submit_next S c k left)
  next_made [] = over ends
  next_made (i ∷ rest) = unless_made i rest (is_shut (volume_at c.volumes (volume_of S i))) refl

  -- JOBS

  -- a job that goes on, or is answered
  moved_over : (left : List ℕ) (job : Job) → ((i : ℕ) → job ≡ Submitted i → ⊥)
      → TurnEnds S c.round.phase c.round.life (slice_set c.clients k (with_job left job)) c.manager.asks
  moved_over left job other = last_over _ (none_set c.clients k (with_job left job) ends.submitted other)

  answer_made : (i : ℕ) (left : List ℕ) (word : ClientWord)
      → Turns S c (ClientMoves k (with_job left NoJob) word ∷ [])
  answer_made i left word = next (ClientMoves k (with_job left NoJob) word) (tt, tt) (over (moved_over left NoJob (λ j bad. cc bad)))

  module _ (left : List ℕ) (i : ℕ) (r : Row) (has_it : job_of c k ≡ Busy i r)
      (some : fits_op S i ≡ true → place_at S i ≡ None → ⊥) (sector : NamesSector (kind_at S.asked.ops i))
      (free : is_locked S c (volume_of S i) (the_place S i).row k ≡ false) where
    abbrev now : Row
    now = row_tried S c i r

    -- a job that lost its call
    lost_may : (e : Control) (new : Row) → MayEnd S e
        → MayEnd S (put S (ClientMoves k (with_job left (Busy i new)) IsSilent) e)
    lost_may e new m = record {
      halted = m.halted;
      submitted = none_set e.clients k (with_job left (Busy i new)) m.submitted (λ j bad. cc bad);
      applied = m.applied;
    }

    went_goes : (need : Need) (y : Sector) → JobGoes S c k i (went_on need y now)
    went_goes need y = record {
      open_to = λ old. old r has_it;
      names = λ begun. sector;
      plan = λ able slots old.
          let before = old r has_it in
          went_stands c.round.faults (volume_at c.volumes (volume_of S i)) need y now
          (tried_stands S c i r before.0 (some before.0) able slots before.1);
    }

    lost_goes : (d : ℕ) → JobGoes S (put S (DiskFails d) c) k i (lost_row now.plan now)
    lost_goes d = record {
      open_to = λ old. old _ (job_kept S d c.volumes c.clients k ∙ ap (job_without S d c.volumes) has_it);
      names = λ begun. sector;
      plan = λ able slots old.
          lost_stands (d ∷ c.round.faults) (volume_at (put S (DiskFails d) c).volumes (volume_of S i)) now _ refl;
    }

    job_made : (x : Ended) (need : Need) (d : ℕ) (went : Bool) → Turns S c (job_changes S c k left i now x need d went)
    job_made x need d true =
        next (ClientMoves k (with_job left (Busy i (went_on need x.got now))) IsSilent)
        ((λ begun. free), went_goes need x.got)
        (over (moved_over left (Busy i (went_on need x.got now)) (λ j bad. cc bad)))
    job_made x need d false =
        let e = put S (DiskFails d) c in
        let a = ClientMoves k (with_job left (Busy i (lost_row now.plan now))) IsSilent in
        next (DiskFails d) tt
        (next a ((λ begun. fault_locked d (volume_of S i) (the_place S i).row ∙ free), lost_goes d)
        (ended_turn S (put S a e) (lost_may e (lost_row now.plan now) (fault_may S c d (over_may S c ends)))))

    on_made : (x : Ended) (need : Need) (disk : Option ℕ) → Turns S c (on_disk S c k left i now x need disk).changes
    on_made x need None = over ends
    on_made x need (Some d) = at (may_call S c.round d)
      where
        at : (b : Bool)
            → Turns S c
            (call_if b (calling d (need_what S i now x need) x (job_changes S c k left i now x need d x.went))).changes
        at true = job_made x need d x.went
        at false = over ends

  module _ (left : List ℕ) (i : ℕ) (r : Row) (has_it : job_of c k ≡ Busy i r) where
    meet_made : (x : Ended) (held : Bool) → (fits_op S i ≡ true → place_at S i ≡ None → ⊥)
        → NamesSector (kind_at S.asked.ops i) → is_held S c k i ≡ held
        → Turns S c (meet S c k left i r x (need_unless S c i r held)).changes
    meet_made x true some sector is = over ends
    meet_made x false some sector is = at (need_unless S c i r false)
      where
        free : is_locked S c (volume_of S i) (the_place S i).row k ≡ false
        free =
            (or_neither (is_write S i && is_pending (the_volume S c i).state)
            (is_locked S c (volume_of S i) (the_place S i).row k) is).1

        at : (need : Need) → Turns S c (meet S c k left i r x need).changes
        at NoNeed = over ends
        at (Reads s) = on_made left i r has_it some sector free x (Reads s) (source_in (the_volume S c i) s)
        at (Writes s) = on_made left i r has_it some sector free x (Writes s) (disk_in (the_volume S c i).slots s)
        at (Syncs s) = on_made left i r has_it some sector free x (Syncs s) (disk_in (the_volume S c i).slots s)
        at (Answers answer) = answer_made i left (Acknowledges i answer)

    whole_made : (whole without_spare : Bool) → Turns S c (whole_answer k left i whole without_spare).changes
    whole_made true b = answer_made i left _
    whole_made false true = answer_made i left _
    whole_made false false = over ends

    -- an operation that fits and names a sector has a place
    has_place : (kind : Option OpKind) → kind_at S.asked.ops i ≡ kind → fits_kind None kind ≡ false → fits_op S i ≡ true
        → place_at S i ≡ None → ⊥
    has_place kind is never fits none =
        let bad : fits_kind None kind ≡ true
        = ap (fits_kind None) (sym is) ∙ ap (λ p. fits_kind p (kind_at S.asked.ops i)) (sym none) ∙ fits in
        cc (never, bad)

    busy_made : (x : Ended) (kind : Option OpKind) → kind_at S.asked.ops i ≡ kind
        → Turns S c (busy_kind S c k left i r x kind).changes
    busy_made x None is = over ends
    busy_made x (Some (OpWrite v s value)) is = meet_made x (is_held S c k i) (has_place _ is refl) (subst NamesSector (sym is) tt) refl
    busy_made x (Some (OpRead v s)) is = meet_made x (is_held S c k i) (has_place _ is refl) (subst NamesSector (sym is) tt) refl
    busy_made x (Some (OpWhole v)) is = whole_made (is_whole_now S c v.0) (is_without_spare S c v.0)

    broken_made : (x : Ended) (broken : Bool) → Turns S c (busy_unless S c k left i r x broken).changes
    broken_made x true = answer_made i left _
    broken_made x false = busy_made x (kind_at S.asked.ops i) refl

  pub client_turn : (x : Ended) (left : List ℕ) (job : Job) → job_of c k ≡ job
      → Turns S c (client_by S c k x left job).changes
  client_turn x left NoJob is = next_made left
  client_turn x left (Submitted i) is = over ends
  client_turn x left (Busy i r) is = broken_made left i r is x (the_volume S c i).broken
