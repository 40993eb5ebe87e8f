-- Where every actor rests, nobody has a job, nobody has an operation left, and the volume is clean in the book.
use Rattle.std.proofs.Common.{◌≡◌, ◌≢◌, ℕ, zero, suc, ◌+◌, ◌<◌, ◌≤◌, ◌==◌, ◌||◌, ◌&&◌, not, Bool, true, false, List, [], ◌∷◌, length, refl, ap, sym, ◌∙◌, subst, arith, Option, Some, None}
use Rattle.std.specs.Prelude.{⊤}
use Rattle.std.specs.List.{AllByRecursion}
use Rattle.std.proofs.lemmas.Bool.Decides.{nat_tests}
use Rattle.units.specs.declared.disk.Sector.{Sector}
use Rattle.array_model.specs.declared.script.Op.{Op}
use Rattle.array_model.specs.declared.script.OpKind.{OpKind}
use Rattle.array_model.specs.declared.script.OpKind.TheVariants.{Write as OpWrite, Read as OpRead, Whole as OpWhole}
use Rattle.array_model.specs.Script.{kind_at, sector_of}
use Rattle.array_model.specs.Placement.{Placement}
use Rattle.array_model.specs.Causes.{array_state_of}
use Rattle.array_model.specs.Rests.{is_owed, RestsAs, HasComeToRest}
use Rattle.array_model.specs.Blocks.{Laid}
use Rattle.array_model.proofs.Steps.{owner}
use Rattle.stage_machine.specs.Setting.{Setting}
use Rattle.stage_machine.specs.Opens.{AsksFirst, IsFirstVolume, StartsFirstAlone}
use Rattle.stage_machine.specs.States.{State, IsReadonly, IsReadAuto, IsClean, IsPending, IsActive, IsIdle, is_readonly, is_pending_state, next_dirty, Starts, decide}
use Rattle.stage_machine.specs.Rounds.{Phase, Rest, Going, Ended, round_call, begin_with}
use Rattle.stage_machine.specs.Jobs.{JobStep, Waiting, Writing, Syncing, Written, Got, Job, NoJob, Busy, Client, client_at, placement_at, row_at, is_write, holds, locked_from, is_locked, is_writing, any_writing, Need, NoNeed, Reads, Writes, Syncs, Answers, read_need, write_need, sync_need, first_need, need_of, need_call}
use Rattle.stage_machine.specs.Machine.{Control, World, Reached, Action, Monitors, Asks, Quiets, turn, turned_unless, turn_call, call_unless, moved, monitor_at, submit_write, submit_read, submit_kind, submit_unless, submit_next, meet, is_held, need_now, need_unless, client_by, job_call, quiet_if, quieted}
use Rattle.stage_machine.proofs.Turns.{Has}
use Rattle.stage_machine.proofs.Clients.{mine_reached, of_left, of_job, op_below}
use Rattle.answer_law.proofs.Locks.{job_of, Exclusive, exclusive_reached, holds_own}
use Rattle.cause_law.proofs.States.{told_by, told_reached}
use Rattle.cause_law.proofs.Courses.{resting_course, phase_course, course_reached}
use Rattle.rest_law.specs.Rest.{IsStill, IsAtRest, CanEnd, HasEnded, is_whole}
use Rattle.rest_law.proofs.Rounds.{HasTarget, Tidy, tidy_reached}
use Rattle.rest_law.proofs.Steps.{HasMember, JobHasMember, steps_reached}
use Rattle.rest_law.proofs.Owed.{due_reached}
use Rattle.rest_law.proofs.Acks.{acked_all, client_below}

-- WHAT A SCRIPT OF ROWS ASKS

abbrev IsOfRow : Option OpKind → Type 0
IsOfRow None = ⊥
IsOfRow (Some kind) = is_whole kind ≡ false

of_row : (ops : List Op) → AllByRecursion (λ op. is_whole op.kind ≡ false) ops → (i : ℕ) → i < length ops → IsOfRow (kind_at ops i)
of_row [] all i lt = omega (arith, lt)
of_row (op ∷ ops) all zero lt = all.0
of_row (op ∷ ops) all (suc i) lt = of_row ops all.1 i (omega (arith, lt))

-- a client enters something when it submits such an operation
submit_enters : (S : Setting) (c : Control) (k i : ℕ) (rest : List ℕ) (kind : Option OpKind) → IsOfRow kind → (submit_kind S c k i rest kind).events ≡ [] → ⊥
submit_enters S c k i rest None row e = row
submit_enters S c k i rest (Some (OpWrite v s value)) row e = at (placement_at S i) e
  where
    at : (place : Option Placement) → (submit_write c k i rest place).events ≡ [] → ⊥
    at None e = cc e
    at (Some place) e = cc e
submit_enters S c k i rest (Some (OpRead v s)) row e = at (placement_at S i) e
  where
    at : (place : Option Placement) → (submit_read c k i rest place).events ≡ [] → ⊥
    at None e = cc e
    at (Some place) e = cc e
submit_enters S c k i rest (Some (OpWhole v)) row e = cc row

-- WHAT A JOB NEEDS

write_needed : (ds : List ℕ) → 1 ≤ length ds → write_need ds ≡ NoNeed → ⊥
write_needed [] some_left e = omega (arith, some_left)
write_needed (d ∷ ds) some_left e = cc e

sync_needed : (ds : List ℕ) → 1 ≤ length ds → sync_need ds ≡ NoNeed → ⊥
sync_needed [] some_left e = omega (arith, some_left)
sync_needed (d ∷ ds) some_left e = cc e

read_needed : (ds : List ℕ) → 1 ≤ length ds → read_need ds ≡ NoNeed → ⊥
read_needed [] some_left e = omega (arith, some_left)
read_needed (d ∷ ds) some_left e = cc e

first_needed : (S : Setting) → 1 ≤ length S.members → (kind : Option OpKind) → IsOfRow kind → first_need S kind ≡ NoNeed → ⊥
first_needed S member None row e = row
first_needed S member (Some (OpWrite v s value)) row e = write_needed S.members member e
first_needed S member (Some (OpRead v s)) row e = read_needed S.members member e
first_needed S member (Some (OpWhole v)) row e = cc row

-- a job always needs something
needed : (S : Setting) → 1 ≤ length S.members → (i : ℕ) → IsOfRow (kind_at S.asked.ops i) → (step : JobStep) → HasMember step → need_of S i step ≡ NoNeed → ⊥
needed S member i row Waiting has e = first_needed S member (kind_at S.asked.ops i) row e
needed S member i row (Writing left) has e = write_needed left has e
needed S member i row (Syncing left) has e = sync_needed left has e
needed S member i row Written has e = cc e
needed S member i row (Got value) has e = cc e

went : Ended
went = record { went = true; stored = 0 }

-- what makes no call and enters nothing was no need
no_need : (S : Setting) (c : Control) (k : ℕ) (x : Ended) (got : Sector) (left : List ℕ) (i : ℕ) (need : Need) → need_call S x i need ≡ None → (meet S c k x got left i need).events ≡ [] → need ≡ NoNeed
no_need S c k x got left i NoNeed call e = refl
no_need S c k x got left i (Reads d) call e = absurd (cc call)
no_need S c k x got left i (Writes d ds) call e = absurd (cc call)
no_need S c k x got left i (Syncs d ds) call e = absurd (cc call)
no_need S c k x got left i (Answers answer) call e = absurd (cc e)

-- LOCKS

-- where a row is locked for client k, another client holds it
record Holder (S : Setting) (row k from : ℕ) (clients : List Client) : Type 0 where
  client : ℕ
  apart : from + client ≢ k
  holds : holds S row (job_of clients client) ≡ true

holder_of : (S : Setting) (row k from : ℕ) (clients : List Client) → locked_from S row k from clients ≡ true → Holder S row k from clients
holder_of S row k from [] locked = absurd (cc locked)
holder_of S row k from (x ∷ xs) locked = at (from == k) refl (holds S row x.job) refl (holder_of S row k (from + 1) xs) locked
  where
    further : Holder S row k (from + 1) xs → Holder S row k from (x ∷ xs)
    further h = record { client = suc h.client; apart = λ e. h.apart (omega (arith, e)); holds = h.holds }

    at : (a : Bool) → (from == k) ≡ a → (b : Bool) → holds S row x.job ≡ b → (locked_from S row k (from + 1) xs ≡ true → Holder S row k (from + 1) xs)
        → ((not a && b) || locked_from S row k (from + 1) xs) ≡ true → Holder S row k from (x ∷ xs)
    at true is b h more locked = further (more locked)
    at false is true h more locked = record {
      client = 0;
      apart = λ e. absurd (let here : from ≡ k = omega (arith, e) in let test : (from == k) ≡ true = grind (arith, nat_tests, here) in cc (is, test));
      holds = h;
    }
    at false is false h more locked = further (more locked)

-- a client that holds a row finds it free, since no other holds it
free_of_holder : (S : Setting) (clients : List Client) (j row : ℕ) → Exclusive S clients → holds S row (job_of clients j) ≡ true → is_locked S row j clients ≡ false
free_of_holder S clients j row alone held = at (is_locked S row j clients) refl
  where
    at : (b : Bool) → is_locked S row j clients ≡ b → is_locked S row j clients ≡ false
    at true is =
        let other = holder_of S row j 0 clients is in
        absurd (other.apart (let one : other.client ≡ j = alone other.client j row other.holds held in omega (arith, one)))
    at false is = is

-- THE MONITOR

-- the states at rest; `dirty` is the dirty bit of the book
abbrev Calm : State → Bool → Type 0
Calm IsReadonly dirty = ⊥
Calm IsReadAuto dirty = dirty ≡ false
Calm IsClean dirty = dirty ≡ false
Calm IsPending dirty = ⊥
Calm IsActive dirty = ⊤
Calm IsIdle dirty = ⊥

calm_ready : (state : State) (dirty : Bool) → Calm state dirty → is_readonly state ≡ false
calm_ready IsReadonly dirty calm = absurd calm
calm_ready IsReadAuto dirty calm = refl
calm_ready IsClean dirty calm = refl
calm_ready IsPending dirty calm = refl
calm_ready IsActive dirty calm = refl
calm_ready IsIdle dirty calm = refl

calm_free : (state : State) (dirty : Bool) → Calm state dirty → is_pending_state state ≡ false
calm_free IsReadonly dirty calm = refl
calm_free IsReadAuto dirty calm = refl
calm_free IsClean dirty calm = refl
calm_free IsPending dirty calm = absurd calm
calm_free IsActive dirty calm = refl
calm_free IsIdle dirty calm = refl

begin_enters : (c : Control) (m : Laid) (targets : List ℕ) → 1 ≤ length targets → (begin_with c.round m targets).events ≡ [] → ⊥
begin_enters c m [] some_left e = omega (arith, some_left)
begin_enters c m (d ∷ ds) some_left e = cc e

starts_enters : (S : Setting) (c : Control) → Tidy S c.round → 1 ≤ length S.targets → (moved S c Starts).events ≡ [] → ⊥
starts_enters S c tidy target e =
    begin_enters c (S.renew c.round.book (c.round.note + 1) (next_dirty c.state)) c.round.working (subst (λ ds. 1 ≤ length ds) (sym tidy.working) target) e

calm_at : (S : Setting) (c : Control) → Tidy S c.round → 1 ≤ length S.targets → (started : Bool) (state : State) (recorded dirty : Bool) → recorded ≡ dirty
    → (moved S c (decide started state recorded dirty)).events ≡ [] → Calm state dirty
calm_at S c tidy target false state recorded dirty same e = absurd (starts_enters S c tidy target e)
calm_at S c tidy target true IsReadonly recorded dirty same e = cc e
calm_at S c tidy target true IsReadAuto recorded true same e = absurd (starts_enters S c tidy target e)
calm_at S c tidy target true IsReadAuto recorded false same e = refl
calm_at S c tidy target true IsClean recorded true same e = absurd (starts_enters S c tidy target e)
calm_at S c tidy target true IsClean recorded false same e = refl
calm_at S c tidy target true IsPending true dirty same e = cc e
calm_at S c tidy target true IsPending false true same e = cc same
calm_at S c tidy target true IsPending false false same e = starts_enters S c tidy target e
calm_at S c tidy target true IsActive recorded dirty same e = tt
calm_at S c tidy target true IsIdle recorded dirty same e = cc e

started_at : (S : Setting) (c : Control) → Tidy S c.round → 1 ≤ length S.targets → (started : Bool) (state : State) (recorded dirty : Bool)
    → (moved S c (decide started state recorded dirty)).events ≡ [] → started ≡ true
started_at S c tidy target false state recorded dirty e = absurd (starts_enters S c tidy target e)
started_at S c tidy target true state recorded dirty e = refl

none_writing : (S : Setting) (clients : List Client) → ((k : ℕ) → (client_at clients k).job ≡ NoJob) → any_writing S clients ≡ false
none_writing S [] free = refl
none_writing S (x ∷ xs) free = rw (ap (is_writing S) (free 0)) (none_writing S xs (λ k. free (suc k)))

-- A RUN AT REST

module _ (S : Setting) (asks : AsksFirst S) (can : CanEnd S) (w : World) (r : Reached S w) (alive : w.control.failed ≡ None) (rest : IsAtRest S w.control) where
  abbrev c : Control
  c = w.control

  no_call : (a : Action) → IsStill S c a → turn_call S c a ≡ None
  no_call a still = sym (ap (call_unless S c a) alive) ∙ still.calls

  no_event : (a : Action) → IsStill S c a → (turn S c a).events ≡ []
  no_event a still = sym (ap (λ f. (turned_unless S c a f).events) alive) ∙ still.enters

  tidy : Tidy S c.round
  tidy = tidy_reached S w r

  phase_rest : c.round.phase ≡ Rest
  phase_rest = at c.round.phase refl tidy.phase
    where
      at : (p : Phase) → c.round.phase ≡ p → HasTarget p → c.round.phase ≡ Rest
      at Rest is h = is
      at (Going m step []) is h = absurd h
      at (Going m step (d ∷ ds)) is h = absurd (let lie = ap (round_call S went) (sym is) ∙ no_call (Monitors went) (rest.monitor went) in cc lie)

  monitor_idle : (moved S c (decide c.round.started c.state (S.start.words.is_dirty c.round.last 0) (S.start.words.is_dirty c.round.book 0))).events ≡ []
  monitor_idle = ap (λ p. (monitor_at S c went p).events) (sym phase_rest) ∙ no_event (Monitors went) (rest.monitor went)

  started : c.round.started ≡ true
  started = started_at S c tidy can.target c.round.started c.state (S.start.words.is_dirty c.round.last 0) (S.start.words.is_dirty c.round.book 0) monitor_idle

  calm : Calm c.state (S.start.words.is_dirty c.round.book 0)
  calm =
      calm_at S c tidy can.target c.round.started c.state (S.start.words.is_dirty c.round.last 0) (S.start.words.is_dirty c.round.book 0) (ap (λ m. S.start.words.is_dirty m 0) (sym tidy.book))
      monitor_idle

  -- a job whose row no other client holds moves
  moves : (k i : ℕ) (left : List ℕ) (step : JobStep) → Has c k left (Busy i step) → is_locked S (row_at S i) k c.clients ≡ false → ⊥
  moves k i left step has free =
      let job = of_job S c k i left step (mine_reached S w r) has in
      let got = sector_of 0 in
      let a : Action = Asks k went got in
      let still : IsStill S c a = rest.clients k (client_below S.asked.ops asks.clients k i job.mine) went got in
      let held : is_held S c k i ≡ false = unheld (is_write S i) (is_pending_state c.state) (is_locked S (row_at S i) k c.clients) (calm_free c.state _ calm) free in
      let now : need_now S c k i step ≡ need_of S i step = ap (need_unless S i step) held in
      let call : need_call S went i (need_of S i step) ≡ None =
      ap (need_call S went i) (sym now) ∙ ap (λ (y : Client). job_call S c k went y.job) (sym has) ∙ no_call a still in
      let enters : (meet S c k went got left i (need_of S i step)).events ≡ [] =
      ap (λ need. (meet S c k went got left i need).events) (sym now) ∙ ap (λ (y : Client). (client_by S c k went got y.left y.job).events) (sym has) ∙ no_event a still in
      let member : HasMember step = subst (λ (y : Client). JobHasMember y.job) has (steps_reached S can.member w r k) in
      needed S can.member i (of_row S.asked.ops can.rows_alone i (op_below S.asked.ops k i job.mine)) step member
      (no_need S c k went got left i (need_of S i step) call enters)
    where
      unheld : (a b l : Bool) → b ≡ false → l ≡ false → ((a && b) || l) ≡ false
      unheld true true l pending free = absurd (cc pending)
      unheld true false l pending free = free
      unheld false b l pending free = free

  -- so does a client that holds a row
  holder_moves : (j row : ℕ) → holds S row (job_of c.clients j) ≡ true → ⊥
  holder_moves j row held = at (client_at c.clients j).left (client_at c.clients j).job refl held
    where
      at : (left : List ℕ) (job : Job) → Has c j left job → holds S row job ≡ true → ⊥
      at left NoJob has held = cc held
      at left (Busy i step) has held = moves j i left step has (rw (holds_own S i row step held) (free_of_holder S c.clients j row (exclusive_reached S w r) (ap (λ (y : Client). holds S row y.job) has ∙ held)))

  no_job : (k : ℕ) → (client_at c.clients k).job ≡ NoJob
  no_job k = at (client_at c.clients k).left (client_at c.clients k).job refl
    where
      at : (left : List ℕ) (job : Job) → Has c k left job → job ≡ NoJob
      at left NoJob has = refl
      at left (Busy i step) has = by (is_locked S (row_at S i) k c.clients) refl
        where
          by : (b : Bool) → is_locked S (row_at S i) k c.clients ≡ b → Busy i step ≡ NoJob
          by true is = let h = holder_of S (row_at S i) k 0 c.clients is in absurd (holder_moves h.client (row_at S i) h.holds)
          by false is = absurd (moves k i left step has is)

  none_left : (k : ℕ) → (client_at c.clients k).left ≡ []
  none_left k = at (client_at c.clients k).left (client_at c.clients k).job refl (no_job k)
    where
      at : (left : List ℕ) (job : Job) → Has c k left job → job ≡ NoJob → left ≡ []
      at [] job has free = refl
      at (i ∷ more) job has free =
          let here : Has c k (i ∷ more) NoJob = has ∙ ap (λ (y : Job). record { left = i ∷ more; job = y }) free in
          let mine = of_left S c k i more NoJob (mine_reached S w r) here in
          let got = sector_of 0 in
          let a : Action = Asks k went got in
          let enters : (submit_next S c k (i ∷ more)).events ≡ [] =
          ap (λ (y : Client). (client_by S c k went got y.left y.job).events) (sym here) ∙ no_event a (rest.clients k (client_below S.asked.ops asks.clients k i mine) went got) in
          absurd (submit_enters S c k i more (kind_at S.asked.ops i) (of_row S.asked.ops can.rows_alone i (op_below S.asked.ops k i mine))
          (ap (λ b. (submit_unless S c k i more b).events) (sym (calm_ready c.state _ calm)) ∙ enters))

  idle_client : (k : ℕ) → client_at c.clients k ≡ record { left = []; job = NoJob }
  idle_client k = ap (λ left. record { left = left; job = (client_at c.clients k).job }) (none_left k) ∙ ap (λ job. record { left = []; job = job }) (no_job k)

  not_active : c.state ≡ IsActive → ⊥
  not_active is =
      let enters : (quieted S c IsActive).events ≡ [] = ap (λ s. (quieted S c s).events) (sym is) ∙ no_event Quiets rest.quiet in
      let lie : (quiet_if c true).events ≡ [] = ap (λ b. (quiet_if c (not b)).events) (sym (none_writing S c.clients no_job)) ∙ enters in
      absurd (cc lie)

  clean : S.start.words.is_dirty c.round.last 0 ≡ false
  clean = ap (λ m. S.start.words.is_dirty m 0) (sym tidy.book) ∙ at c.state refl calm
    where
      at : (state : State) → c.state ≡ state → Calm state (S.start.words.is_dirty c.round.book 0) → S.start.words.is_dirty c.round.book 0 ≡ false
      at IsReadonly is calm = absurd calm
      at IsReadAuto is calm = calm
      at IsClean is calm = calm
      at IsPending is calm = absurd calm
      at IsActive is calm = absurd (not_active is)
      at IsIdle is calm = absurd calm

  pub ended : HasEnded S w
  ended = record {
    answered = λ i lt. let own = owner S.asked.ops i lt in acked_all S asks w r own.0 (idle_client own.0) i lt own.1;
    no_round = phase_rest;
    clean = clean;
  }

  -- THE SAME BY THE JOURNAL

  rests_as : RestsAs (told_by c.state) (is_owed w.journal 0)
  rests_as = at c.state refl calm
    where
      paid : c.state ≡ IsClean → S.start.words.is_dirty c.round.book 0 ≡ false → (owed : Bool) → is_owed w.journal 0 ≡ owed → owed ≡ false
      paid is book true owes = absurd (let due = due_reached S w r owes is in let dirty = due.1 in cc (book, dirty))
      paid is book false owes = refl

      at : (state : State) → c.state ≡ state → Calm state (S.start.words.is_dirty c.round.book 0) → RestsAs (told_by state) (is_owed w.journal 0)
      at IsReadonly is calm = absurd calm
      at IsReadAuto is calm = tt
      at IsClean is calm = paid is calm (is_owed w.journal 0) refl
      at IsPending is calm = absurd calm
      at IsActive is calm = absurd (not_active is)
      at IsIdle is calm = absurd calm

  pub told_at_rest : IsFirstVolume S → StartsFirstAlone S → HasComeToRest S.start S.asked.ops w.journal
  told_at_rest volume alone = record {
    answered = ended.answered;
    recorded = course_reached S w r ∙ ap (phase_course c.round.started c.round.note) phase_rest ∙ ap resting_course started;
    volumes = λ v is. subst (λ z. RestsAs (array_state_of S.start S.asked.ops w.journal z) (is_owed w.journal z)) (sym (alone v is))
        (subst (λ t. RestsAs t (is_owed w.journal 0)) (sym (told_reached S asks volume w r)) rests_as);
  }
