-- Where a run rests each client and each volume rests, unless a job was outrun.
use Rattle.std.proofs.Common.{◌≡◌, ℕ, suc, ◌==◌, not, Bool, true, false, List, [], ◌∷◌, refl, ap, sym, ◌∙◌, subst, Option, Some, None, inl, inr}
use Rattle.std.specs.Prelude.{⊤, slice_get}
use Rattle.std.specs.List.{AllByRecursion}
use Rattle.std.proofs.lemmas.Bool.{and_parts}
use Rattle.array_model.specs.declared.script.Op.{Op}
use Rattle.array_model.specs.declared.script.OpKind.{OpKind}
use Rattle.array_model.specs.declared.script.OpKind.TheVariants.{Write as OpWrite, Read as OpRead, Whole as OpWhole}
use Rattle.array_model.specs.Placement.{Placement}
use Rattle.array_model.specs.Script.{kind_in, kind_at, is_of_client_in, is_of_client}
use Rattle.array_machine.specs.Setting.{Setting}
use Rattle.array_machine.specs.States.{State, IsReadonly, IsReadAuto, IsClean, IsPending, IsActive, IsIdle, is_readonly, is_pending, is_active, is_idle, is_resting}
use Rattle.array_machine.specs.Volumes.{Pass, volume_at}
use Rattle.array_machine.specs.Operations.{volume_of, place_at, is_write_kind, is_write}
use Rattle.array_machine.specs.Clients.{Row, Job, NoJob, Submitted, Busy, Client, client_at}
use Rattle.array_machine.specs.Rounds.{Ended}
use Rattle.array_machine.specs.Control.{Control}
use Rattle.array_machine.specs.OtherTurns.{is_writing, any_writing, idle_if, is_quiet}
use Rattle.array_machine.specs.ClientTurns.{submit_at, submit_kind, submit_unless, submit_next, is_shut, is_whole_now, is_without_spare, whole_answer, busy_kind, busy_unless, client_by}
use Rattle.array_machine.specs.Machine.{Actor, Client as ClientOf, Quiet}
use Rattle.array_paths.specs.InTurn.{job_of, left_of}
use Rattle.array_paths.specs.ClientMove.{NamesSector, fits_kind}
use Rattle.array_paths.specs.Ready.{JobsFit}
use Rattle.array_base.proofs.Targets.{or_cases}
use Rattle.array_rest.specs.Between.{Kept, TurnIsOver}
use Rattle.array_rest.specs.Jobs.{JobsStand}
use Rattle.array_rest.specs.Rests.{IsStill, IsAtRest, NothingIsDue, IsSound, SomeIsOutrun, ClientRests, is_done, is_shut_out, waits_for_whole, is_outrun, VolumeRests, is_clean, goes_on}
use Rattle.array_rest.specs.Round.{RoundStands}
use Rattle.array_rest.specs.Seats.{VolumesRun}
use Rattle.array_rest.proofs.Parts.{not_true}
use Rattle.array_rest.proofs.Stopped.{AreStopped}
use Rattle.array_rest.proofs.AllRest.{not_readonly, not_pending, not_idle, clean_now, closed, job_sound, pass_outrun, row_job}

-- an operation of a client has a kind
own_kind : (ops : List Op) (k i : ℕ) → is_of_client ops k i ≡ true → kind_at ops i ≡ None → ⊥
own_kind ops k i own none = at (slice_get ops i) refl
  where
    at : (o : Option Op) → slice_get ops i ≡ o → ⊥
    at None is = let bad = sym (ap (is_of_client_in k) is) ∙ own in cc bad
    at (Some op) is = let bad = sym (ap kind_in is) ∙ none in cc bad

module _ (S : Setting) (c : Control) (ends : Actor → Ended) (rest : IsAtRest S c ends) (kept : Kept S c)
    (over : TurnIsOver S c) (stands : RoundStands S c.round) (stopped : AreStopped c.volumes)
    (jobs : JobsStand S ⊤ c) (run : VolumesRun S c.round c.volumes) (fits : JobsFit S c)
    (due : (v : ℕ) → IsSound c v → NothingIsDue S c) where
  -- CLIENTS

  pub client_rests : (k : ℕ) → AllByRecursion (λ i. is_of_client S.asked.ops k i ≡ true) (left_of c k)
      → ClientRests S c k
  client_rests k own = at (job_of c k) refl
    where
      still : (job : Job) → job_of c k ≡ job → IsStill (client_by S c k (ends (ClientOf k)) (left_of c k) job)
      still job is =
          subst (λ j. IsStill (client_by S c k (ends (ClientOf k)) (left_of c k) j)) is (rest.still (ClientOf k) tt)

      none_submitted : (i : ℕ) (more : List ℕ) (kind : Option OpKind) → submit_kind S c k i more kind ≡ [] → kind ≡ None
      none_submitted i more None none = refl
      none_submitted i more (Some (OpWrite v s value)) none =
          absurd (writes (place_at S i) none)
        where
          writes : (place : Option Placement)
              → submit_at k i more (volume_of S i) (volume_at c.volumes (volume_of S i)) true place ≡ [] → ⊥
          writes None none = cc none
          writes (Some place) none = cc none
      none_submitted i more (Some (OpRead v s)) none = absurd (reads (place_at S i) none)
        where
          reads : (place : Option Placement)
              → submit_at k i more (volume_of S i) (volume_at c.volumes (volume_of S i)) false place ≡ [] → ⊥
          reads None none = cc none
          reads (Some place) none = cc none
      none_submitted i more (Some (OpWhole v)) none = absurd (cc none)

      shut_out : (i : ℕ) → is_shut (volume_at c.volumes (volume_of S i)) ≡ true
          → (volume_at c.volumes (volume_of S i)).started ≡ false
      shut_out i shut = not_true (volume_at c.volumes (volume_of S i)).started (λ started.
          let x = volume_at c.volumes (volume_of S i) in
          let parts = and_parts (is_readonly x.state) (not x.broken) shut in
          let open_to = not_readonly S c ends rest kept over stands stopped jobs run fits due (volume_of S i) (record { started = started; sound = flips x.broken parts.1 }) in
          let only = parts.0 in
          cc (open_to, only))
        where
          flips : (b : Bool) → not b ≡ true → b ≡ false
          flips true h = absurd (cc h)
          flips false h = refl

      nothing : (left : List ℕ) → left_of c k ≡ left → job_of c k ≡ NoJob
          → AllByRecursion (λ i. is_of_client S.asked.ops k i ≡ true) left → submit_next S c k left ≡ []
          → ClientRests S c k
      nothing [] is none own quiet = is_done none is
      nothing (i ∷ more) is none own quiet = shut (is_shut (volume_at c.volumes (volume_of S i))) refl quiet
        where
          shut : (b : Bool) → is_shut (volume_at c.volumes (volume_of S i)) ≡ b → submit_unless S c k i more b ≡ []
              → ClientRests S c k
          shut true closed_to quiet = is_shut_out i more none is (shut_out i closed_to)
          shut false open_to quiet =
              absurd (own_kind S.asked.ops k i own.0 (none_submitted i more (kind_at S.asked.ops i) quiet))

      busy : (i : ℕ) (r : Row) → job_of c k ≡ Busy i r → (kind : Option OpKind) → kind_at S.asked.ops i ≡ kind
          → ClientRests S c k
      busy i r is None kind =
          absurd (let bad = ap (fits_kind (place_at S i)) (sym kind) ∙ fits k i r is in never (place_at S i) bad)
        where
          never : (place : Option Placement) → fits_kind place None ≡ true → ⊥
          never place h = cc h
      busy i r is (Some (OpWrite v s value)) kind = is_outrun (row_job S c ends rest kept over stands stopped jobs run fits due k i r is (subst NamesSector (sym kind) tt))
      busy i r is (Some (OpRead v s)) kind = is_outrun (row_job S c ends rest kept over stands stopped jobs run fits due k i r is (subst NamesSector (sym kind) tt))
      busy i r is (Some (OpWhole v)) kind = whole (is_whole_now S c v.0) refl (is_without_spare S c v.0) refl
        where
          quiet : IsStill (whole_answer k (left_of c k) i (is_whole_now S c v.0) (is_without_spare S c v.0))
          quiet =
              subst (λ o. IsStill (busy_kind S c k (left_of c k) i r (ends (ClientOf k)) o)) kind
              (subst (λ b. IsStill (busy_unless S c k (left_of c k) i r (ends (ClientOf k)) b))
              (job_sound S c ends rest kept over stands stopped jobs run fits due k i r is).sound (still (Busy i r) is))

          whole : (a : Bool) → is_whole_now S c v.0 ≡ a → (b : Bool) → is_without_spare S c v.0 ≡ b → ClientRests S c k
          whole true yes_whole b spare =
              absurd (let now = subst (λ z. IsStill (whole_answer k (left_of c k) i z (is_without_spare S c v.0))) yes_whole quiet in
              let none = now.changes in cc none)
          whole false not_whole true spare =
              absurd (let now = subst (λ z. IsStill (whole_answer k (left_of c k) i z true)) not_whole
              (subst (λ z. IsStill (whole_answer k (left_of c k) i (is_whole_now S c v.0) z)) spare quiet) in
              let none = now.changes in cc none)
          whole false not_whole false spare = waits_for_whole i r v is kind not_whole spare

      at : (job : Job) → job_of c k ≡ job → ClientRests S c k
      at NoJob is = nothing (left_of c k) refl is own (still NoJob is).changes
      at (Submitted i) is = absurd (over.submitted k i is)
      at (Busy i r) is = busy i r is (kind_at S.asked.ops i) refl

  -- VOLUMES

  -- a write that goes on is a job that was outrun
  writer_outrun : (v : ℕ) → any_writing S v c.clients ≡ true → SomeIsOutrun S c
  writer_outrun v is =
      let one = some_writes c.clients is in
      at one.0 (job_of c one.0) refl one.1
    where
      some_writes : (clients : List Client) → any_writing S v clients ≡ true
          → (k : ℕ) × (is_writing S v (client_at clients k).job ≡ true)
      some_writes [] is = absurd (cc is)
      some_writes (y ∷ ys) is = elim (or_cases (is_writing S v y.job) (any_writing S v ys) is) [
        | inl here ↦ (0, here)
        | inr later ↦ let more = some_writes ys later in (suc more.0, more.1)
      ]

      names : (kind : Option OpKind) → is_write_kind kind ≡ true → NamesSector kind
      names None h = absurd (cc h)
      names (Some (OpWrite u s value)) h = tt
      names (Some (OpRead u s)) h = absurd (cc h)
      names (Some (OpWhole u)) h = absurd (cc h)

      at : (k : ℕ) (job : Job) → job_of c k ≡ job → is_writing S v (job_of c k) ≡ true → SomeIsOutrun S c
      at k NoJob is writes = absurd (let bad = sym (ap (is_writing S v) is) ∙ writes in cc bad)
      at k (Submitted i) is writes = absurd (over.submitted k i is)
      at k (Busy i r) is writes =
          row_job S c ends rest kept over stands stopped jobs run fits due k i r is
          (names (kind_at S.asked.ops i)
          (and_parts (is_write S i) (volume_of S i == v) (sym (ap (is_writing S v) is) ∙ writes)).0)

  pub volume_rests : (v : ℕ) → IsSound c v → VolumeRests S c v
  volume_rests v sound = by_state (volume_at c.volumes v).state refl
    where
      passes : (o : Option Pass) → (volume_at c.volumes v).pass ≡ o
          → is_resting (volume_at c.volumes v).state ≡ true → VolumeRests S c v
      passes None none is =
          is_clean is (clean_now S c ends rest kept over stands stopped jobs run fits due v sound is) (λ p has_it. absurd (cc (none, has_it)))
      passes (Some p) some is = at p.over refl
        where
          at : (b : Bool) → p.over ≡ b → VolumeRests S c v
          at true done = is_clean is (clean_now S c ends rest kept over stands stopped jobs run fits due v sound is) (λ q has_it.
              let same : p ≡ q = cc (sym some ∙ has_it) in
              (ap (λ (z : Pass). z.over) (sym same) ∙ done, closed S c ends rest kept over stands stopped jobs run fits due v sound p some done))
          at false goes = goes_on (pass_outrun S c ends rest kept over stands stopped jobs run fits due v sound p some goes)

      active : is_active (volume_at c.volumes v).state ≡ true → VolumeRests S c v
      active is = goes_on (writer_outrun v (at (any_writing S v c.clients) refl))
        where
          at : (b : Bool) → any_writing S v c.clients ≡ b → any_writing S v c.clients ≡ true
          at true writes = writes
          at false none =
              let x = volume_at c.volumes v in
              let a = sound.started in
              let b = sound.sound in
              let quiet : is_quiet S c v x ≡ true = rw (a, is, b, none) refl in
              let now = subst (λ z. IsStill (idle_if v z)) quiet (rest.still (Quiet v) tt) in
              absurd (let bad = now.changes in cc bad)

      by_state : (state : State) → (volume_at c.volumes v).state ≡ state → VolumeRests S c v
      by_state IsReadonly is = absurd (let none = not_readonly S c ends rest kept over stands stopped jobs run fits due v sound in let bad = ap is_readonly is in cc (none, bad))
      by_state IsReadAuto is = passes (volume_at c.volumes v).pass refl (ap is_resting is)
      by_state IsClean is = passes (volume_at c.volumes v).pass refl (ap is_resting is)
      by_state IsPending is = absurd (let none = not_pending S c ends rest kept over stands stopped jobs run fits due v sound in let bad = ap is_pending is in cc (none, bad))
      by_state IsActive is = active (ap is_active is)
      by_state IsIdle is = absurd (let none = not_idle S c ends rest kept over stands stopped jobs run fits due v sound in let bad = ap is_idle is in cc (none, bad))
