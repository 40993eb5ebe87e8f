-- Each change of a client's turn leans on those before it, and each answer fits what its operation asks for.
use Rattle.std.proofs.Common.{◌≡◌, ℕ, Bool, true, false, List, [], ◌∷◌, ◌++◌, refl, ap, sym, ◌∙◌, subst, Option, Some, None}
use Rattle.std.specs.Prelude.{⊤, is_some}
use Rattle.array_model.specs.declared.script.OpKind.{OpKind}
use Rattle.array_model.specs.declared.script.OpKind.TheVariants.{Write as OpWrite, Read as OpRead, Whole as OpWhole}
use Rattle.array_model.specs.declared.journal.Answer.{Answer}
use Rattle.array_model.specs.declared.journal.Answer.TheVariants.{Done, Value, Past, Failed, NoSpare}
use Rattle.array_model.specs.Script.{kind_at}
use Rattle.array_model.specs.Placement.{Placement, placement_of}
use Rattle.array_machine.specs.Setting.{Setting}
use Rattle.array_machine.specs.States.{State, IsReadonly, IsReadAuto, IsClean, IsPending, IsActive, IsIdle}
use Rattle.array_machine.specs.Volumes.{volume_at, Member, disk_in, source_in}
use Rattle.array_machine.specs.Operations.{volume_in, volume_of, shape_of, sector_in, place_at, the_place, is_write_kind, is_write}
use Rattle.array_machine.specs.Clients.{Row, Job, NoJob, Submitted, Busy, with_job}
use Rattle.array_machine.specs.RowJobs.{Need, NoNeed, Reads, Writes, Syncs, Answers, read_or, write_or, sync_or, answer_if, after_reads, any_blocked, xor_got, lost_row, unwritten, unsynced, unread, plan_or, planned, pair_of}
use Rattle.array_machine.specs.Rounds.{Ended}
use Rattle.array_machine.specs.Control.{Control}
use Rattle.array_machine.specs.Changes.{DiskFails, ClientMoves, IsSilent}
use Rattle.array_machine.specs.Puts.{put}
use Rattle.array_machine.specs.Turns.{may_call}
use Rattle.array_machine.specs.ClientTurns.{is_shut, asks_unless, begins_job, submit_at, submit_kind, submit_unless, submit_next, the_volume, members_now, is_held, row_tried, need_unless, job_changes, on_disk, meet, is_whole_now, is_without_spare, whole_answer, busy_kind, busy_unless, client_by}
use Rattle.array_paths.specs.InTurn.{job_of}
use Rattle.array_paths.specs.ClientMove.{fits_kind, fits_op, NamesSector}
use Rattle.array_paths.specs.Ready.{JobsFit}
use Rattle.array_causes.specs.Writes.{is_write_there}
use Rattle.array_causes.proofs.Writes.{writes_there}
use Rattle.array_causes.specs.AnswerKinds.{IsAnswerOf}
use Rattle.array_causes.specs.Links.{First, Fresh, BehindSubmit, MaySubmit, Chain}
use Rattle.array_causes.proofs.Chains.{and_ended_chain, call_chain}

module _ (S : Setting) where
  -- OPERATIONS

  place_is : (i : ℕ) (kind : Option OpKind) → kind_at S.asked.ops i ≡ kind
      → place_at S i ≡ placement_of (shape_of S (volume_in kind)) (sector_in kind)
  place_is i kind is = ap (λ k. placement_of (shape_of S (volume_in k)) (sector_in k)) is

  some_is : (i : ℕ) (kind : Option OpKind) (b : Bool) → kind_at S.asked.ops i ≡ kind → is_some (place_at S i) ≡ b
      → is_some (placement_of (shape_of S (volume_in kind)) (sector_in kind)) ≡ b
  some_is i kind b is there = sym (ap is_some (place_is i kind is)) ∙ there

  -- of a job that fits, the volume has the sector
  fits_some : (place : Option Placement) (kind : Option OpKind) → fits_kind place kind ≡ true
      → NamesSector kind → is_some place ≡ true
  fits_some place None fits names = absurd names
  fits_some None (Some (OpWrite v s value)) fits names = absurd cc
  fits_some (Some p) (Some (OpWrite v s value)) fits names = refl
  fits_some None (Some (OpRead v s)) fits names = absurd cc
  fits_some (Some p) (Some (OpRead v s)) fits names = refl
  fits_some place (Some (OpWhole v)) fits names = absurd names

  -- ANSWERS

  answers_past : (i : ℕ) (kind : Option OpKind) → kind_at S.asked.ops i ≡ kind → NamesSector kind
      → place_at S i ≡ None → IsAnswerOf S.start Past kind
  answers_past i None is names nowhere = absurd names
  answers_past i (Some (OpWrite v s value)) is names nowhere = some_is i _ false is (ap is_some nowhere)
  answers_past i (Some (OpRead v s)) is names nowhere = some_is i _ false is (ap is_some nowhere)
  answers_past i (Some (OpWhole v)) is names nowhere = absurd names

  answers_failed : (i : ℕ) (kind : Option OpKind) → kind_at S.asked.ops i ≡ kind → fits_op S i ≡ true
      → IsAnswerOf S.start Failed kind
  answers_failed i kind is fits = at kind is (sym (ap (fits_kind (place_at S i)) is) ∙ fits)
    where
      at : (kind : Option OpKind) → kind_at S.asked.ops i ≡ kind → fits_kind (place_at S i) kind ≡ true
          → IsAnswerOf S.start Failed kind
      at None is fits = absurd cc
      at (Some (OpWrite v s value)) is fits =
          some_is i _ true is (fits_some (place_at S i) (Some (OpWrite v s value)) fits tt)
      at (Some (OpRead v s)) is fits =
          some_is i _ true is (fits_some (place_at S i) (Some (OpRead v s)) fits tt)
      at (Some (OpWhole v)) is fits = tt

  -- a read comes to a value, a write to its end
  abbrev pub IsMet : (writes : Bool) → Answer → Type 0
  IsMet true Done = ⊤
  IsMet true _ = ⊥
  IsMet false (Value x) = ⊤
  IsMet false _ = ⊥

  met_if : (writes held : Bool) (answer given : Answer) → IsMet writes answer → answer_if held answer ≡ Answers given
      → IsMet writes given
  met_if writes true answer given met is = absurd cc
  met_if writes false answer given met is = subst (IsMet writes) (let same : answer ≡ given = cc is in same) met

  met_sync : (slots : List ℕ) (after : Need) (given : Answer) → (after ≡ Answers given → IsMet true given)
      → sync_or slots after ≡ Answers given → IsMet true given
  met_sync [] after given met is = met is
  met_sync (s ∷ ss) after given met is = absurd cc

  met_write : (slots : List ℕ) (after : Need) (given : Answer) → (after ≡ Answers given → IsMet true given)
      → write_or slots after ≡ Answers given → IsMet true given
  met_write [] after given met is = met is
  met_write (s ∷ ss) after given met is = absurd cc

  met_read : (writes : Bool) (slots : List ℕ) (after : Need) (given : Answer)
      → (after ≡ Answers given → IsMet writes given) → read_or slots after ≡ Answers given → IsMet writes given
  met_read writes [] after given met is = met is
  met_read writes (s ∷ ss) after given met is = absurd cc

  met_after : (members : List Member) (pair : List ℕ) (writes : Bool) (r : Row) (given : Answer)
      → after_reads S members pair writes r ≡ Answers given → IsMet writes given
  met_after members pair false r given is =
      met_if false (any_blocked members pair) (Value (xor_got S r.got)) given tt is
  met_after members pair true r given is =
      let ending = answer_if (any_blocked members pair) Done in
      let left = unsynced members pair r in
      met_write (unwritten members pair r) (sync_or left ending) given
      (λ synced. met_sync left ending given
      (λ ended. met_if true (any_blocked members pair) Done given tt ended) synced) is

  pub met_need : (c : Control) (i : ℕ) (r : Row) (held : Bool) (given : Answer)
      → need_unless S c i r held ≡ Answers given → IsMet (is_write S i) given
  met_need c i r true given is = absurd cc
  met_need c i r false given is =
      let p = the_place S i in
      let shape = shape_of S (volume_of S i) in
      let members = members_now S c i r in
      met_read (is_write S i) (unread (plan_or r.plan (planned shape p (is_write S i) members)) r.got)
      (after_reads S members (pair_of p) (is_write S i) r) given
      (λ ended. met_after members (pair_of p) (is_write S i) r given ended) is

  met_fits : (i : ℕ) (kind : Option OpKind) (writes : Bool) → kind_at S.asked.ops i ≡ kind → NamesSector kind
      → is_write_kind kind ≡ writes → fits_op S i ≡ true → (answer : Answer) → IsMet writes answer
      → IsAnswerOf S.start answer kind
  met_fits i None writes is names w fits answer met = absurd names
  met_fits i (Some (OpWhole v)) writes is names w fits answer met = absurd names
  met_fits i (Some (OpWrite v s value)) false is names w fits answer met = absurd cc
  met_fits i (Some (OpWrite v s value)) true is names w fits Done met =
      some_is i _ true is (fits_some (place_at S i) (Some (OpWrite v s value))
      (sym (ap (fits_kind (place_at S i)) is) ∙ fits) tt)
  met_fits i (Some (OpWrite v s value)) true is names w fits (Value x) met = absurd met
  met_fits i (Some (OpWrite v s value)) true is names w fits Past met = absurd met
  met_fits i (Some (OpWrite v s value)) true is names w fits Failed met = absurd met
  met_fits i (Some (OpWrite v s value)) true is names w fits NoSpare met = absurd met
  met_fits i (Some (OpRead v s)) true is names w fits answer met = absurd cc
  met_fits i (Some (OpRead v s)) false is names w fits Done met = absurd met
  met_fits i (Some (OpRead v s)) false is names w fits (Value x) met =
      some_is i _ true is (fits_some (place_at S i) (Some (OpRead v s))
      (sym (ap (fits_kind (place_at S i)) is) ∙ fits) tt)
  met_fits i (Some (OpRead v s)) false is names w fits Past met = absurd met
  met_fits i (Some (OpRead v s)) false is names w fits Failed met = absurd met
  met_fits i (Some (OpRead v s)) false is names w fits NoSpare met = absurd met

  -- an answer that fits the kind fits the operation
  of_op : (i : ℕ) (answer : Answer) (kind : Option OpKind) → kind_at S.asked.ops i ≡ kind
      → IsAnswerOf S.start answer kind → IsAnswerOf S.start answer (kind_at S.asked.ops i)
  of_op i answer kind is fits = subst (IsAnswerOf S.start answer) (sym is) fits

  abbrev IsWholeKind : Option OpKind → Type 0
  IsWholeKind (Some (OpWhole v)) = ⊤
  IsWholeKind _ = ⊥

  module _ (c : Control) (k i : ℕ) where
    -- SUBMITS

    asked_chain : (rest : List ℕ) (broken : Bool) (v : ℕ) (state : State)
        → is_write_there S.start S.asked.ops v i ≡ true
        → Chain S c (BehindSubmit k i) (asks_unless broken v state ++ begins_job k i rest ∷ [])
    asked_chain rest true v state writes = (refl, tt)
    asked_chain rest false v IsReadonly writes = (refl, tt)
    asked_chain rest false v IsReadAuto writes = (writes, (refl, tt))
    asked_chain rest false v IsClean writes = (writes, (refl, tt))
    asked_chain rest false v IsPending writes = (refl, tt)
    asked_chain rest false v IsActive writes = (refl, tt)
    asked_chain rest false v IsIdle writes = (writes, (refl, tt))

    submit_at_chain : (rest : List ℕ) (kind : Option OpKind) → kind_at S.asked.ops i ≡ kind → NamesSector kind
        → (writes : Bool) → is_write_kind kind ≡ writes → (place : Option Placement) → place_at S i ≡ place
        → MaySubmit c (kind_at S.asked.ops i)
        → Chain S c First (submit_at k i rest (volume_of S i) (the_volume S c i) writes place)
    submit_at_chain rest kind is names writes w None nowhere may =
        ((refl, may), ((refl, of_op i Past kind is (answers_past i kind is names nowhere)), tt))
    submit_at_chain rest kind is names false w (Some p) there may = ((refl, may), tt)
    submit_at_chain rest kind is names true w (Some p) there may = (
      (refl, may),
      asked_chain rest _ (volume_of S i) _
          (writes_there S i kind is w (some_is i kind true is (ap is_some there))),
    )

    submit_chain : (rest : List ℕ) (shut : Bool) → is_shut (the_volume S c i) ≡ shut
        → Chain S c First (submit_unless S c k i rest shut)
    submit_chain rest true is = tt
    submit_chain rest false ready = at (kind_at S.asked.ops i) refl
      where
        may : (kind : OpKind) → kind_at S.asked.ops i ≡ Some kind → MaySubmit c (kind_at S.asked.ops i)
        may kind is =
            subst (MaySubmit c) (sym is)
            (sym (ap (λ k. is_shut (volume_at c.volumes (volume_in k))) is) ∙ ready)

        at : (kind : Option OpKind) → kind_at S.asked.ops i ≡ kind → Chain S c First (submit_kind S c k i rest kind)
        at None is = tt
        at (Some (OpWrite v s value)) is =
            submit_at_chain rest _ is tt true refl (place_at S i) refl (may (OpWrite v s value) is)
        at (Some (OpRead v s)) is =
            submit_at_chain rest _ is tt false refl (place_at S i) refl (may (OpRead v s) is)
        at (Some (OpWhole v)) is = ((refl, may (OpWhole v) is), tt)

    -- ROW JOBS

    module _ (left : List ℕ) (r : Row) (x : Ended) where
      job_chain : (now : Row) (need : Need) (d : ℕ) (went : Bool)
          → Chain S c First (job_changes S c k left i now x need d went)
      job_chain now need d true = (tt, tt)
      job_chain now need d false = (
        tt,
        and_ended_chain S c (put S (DiskFails d) c) Fresh
            (ClientMoves k (with_job left (Busy i (lost_row now.plan now))) IsSilent) tt tt,
      )

      disk_chain : (now : Row) (need : Need) (disk : Option ℕ)
          → Chain S c First (on_disk S c k left i now x need disk).changes
      disk_chain now need None = tt
      disk_chain now need (Some d) =
          call_chain S c (may_call S c.round d) _ (job_chain now need d x.went)

      meet_chain : (need : Need)
          → ((answer : Answer) → need ≡ Answers answer → IsAnswerOf S.start answer (kind_at S.asked.ops i))
          → Chain S c First (meet S c k left i r x need).changes
      meet_chain NoNeed fits = tt
      meet_chain (Reads s) fits = disk_chain (row_tried S c i r) (Reads s) (source_in (the_volume S c i) s)
      meet_chain (Writes s) fits = disk_chain (row_tried S c i r) (Writes s) (disk_in (the_volume S c i).slots s)
      meet_chain (Syncs s) fits = disk_chain (row_tried S c i r) (Syncs s) (disk_in (the_volume S c i).slots s)
      meet_chain (Answers answer) fits = ((tt, fits answer refl), tt)

      -- of the kind of its operation
      needs_fit : (kind : Option OpKind) → kind_at S.asked.ops i ≡ kind → NamesSector kind → fits_op S i ≡ true
          → (held : Bool) (answer : Answer) → need_unless S c i r held ≡ Answers answer
          → IsAnswerOf S.start answer (kind_at S.asked.ops i)
      needs_fit kind is names fits held answer need =
          of_op i answer kind is
          (met_fits i kind (is_write S i) is names (sym (ap is_write_kind is)) fits answer
          (met_need c i r held answer need))

      whole_chain : (kind : Option OpKind) → kind_at S.asked.ops i ≡ kind → IsWholeKind kind → (whole lacks : Bool)
          → Chain S c First (whole_answer k left i whole lacks).changes
      whole_chain kind is asks true b = ((tt, of_op i Done kind is (done kind asks)), tt)
        where
          done : (kind : Option OpKind) → IsWholeKind kind → IsAnswerOf S.start Done kind
          done None h = absurd h
          done (Some (OpWrite v s value)) h = absurd h
          done (Some (OpRead v s)) h = absurd h
          done (Some (OpWhole v)) h = tt
      whole_chain kind is asks false true = ((tt, of_op i NoSpare kind is (lacks kind asks)), tt)
        where
          lacks : (kind : Option OpKind) → IsWholeKind kind → IsAnswerOf S.start NoSpare kind
          lacks None h = absurd h
          lacks (Some (OpWrite v s value)) h = absurd h
          lacks (Some (OpRead v s)) h = absurd h
          lacks (Some (OpWhole v)) h = tt
      whole_chain kind is asks false false = tt

      busy_chain : fits_op S i ≡ true → (broken : Bool) → Chain S c First (busy_unless S c k left i r x broken).changes
      busy_chain fits true = ((tt, of_op i Failed _ refl (answers_failed i _ refl fits)), tt)
      busy_chain fits false = at (kind_at S.asked.ops i) refl
        where
          at : (kind : Option OpKind) → kind_at S.asked.ops i ≡ kind
              → Chain S c First (busy_kind S c k left i r x kind).changes
          at None is = tt
          at (Some (OpWrite v s value)) is =
              meet_chain _ (λ answer need. needs_fit _ is tt fits (is_held S c k i) answer need)
          at (Some (OpRead v s)) is =
              meet_chain _ (λ answer need. needs_fit _ is tt fits (is_held S c k i) answer need)
          at (Some (OpWhole v)) is = whole_chain _ is tt (is_whole_now S c v.0) (is_without_spare S c v.0)

  -- THE TURN

  next_chain : (c : Control) (k : ℕ) (left : List ℕ) → Chain S c First (submit_next S c k left)
  next_chain c k [] = tt
  next_chain c k (i ∷ rest) = submit_chain c k i rest _ refl

  pub client_chain : (c : Control) → JobsFit S c → (k : ℕ) (x : Ended) (left : List ℕ) (job : Job)
      → job_of c k ≡ job → Chain S c First (client_by S c k x left job).changes
  client_chain c fit k x left NoJob is = next_chain c k left
  client_chain c fit k x left (Submitted i) is = tt
  client_chain c fit k x left (Busy i r) is = busy_chain c k i left r x (fit k i r is) _
