-- Each operation that was submitted was answered, or some client is at it.
use Rattle.std.proofs.Common.{◌≡◌, ℕ, zero, suc, ◌==◌, ◌&&◌, Bool, true, false, List, [], ◌∷◌, ◌++◌, refl, ap, sym, ◌∙◌, subst, arith, Option, Some, None, ◌⊎◌, inl, inr, slice_set}
use Rattle.std.proofs.lemmas.Bool.Decides.{nat_tests}
use Rattle.array_model.specs.declared.script.OpKind.{OpKind}
use Rattle.array_model.specs.declared.script.OpKind.TheVariants.{Write as OpWrite, Read as OpRead, Whole as OpWhole}
use Rattle.array_model.specs.declared.journal.Entry.{Entry}
use Rattle.array_model.specs.Script.{kind_at, write_in, is_in_volume, is_write_in}
use Rattle.array_model.specs.Events.{has, is_submit, is_ack_of}
use Rattle.array_model.proofs.Journals.{has-append}
use Rattle.array_machine.specs.Setting.{Setting}
use Rattle.array_machine.specs.Volumes.{Volume}
use Rattle.array_machine.specs.Operations.{volume_in, volume_of, is_write_kind, is_write}
use Rattle.array_machine.specs.Clients.{Job, NoJob, Submitted, Busy, Client, client_at}
use Rattle.array_machine.specs.Faults.{job_without, clients_without}
use Rattle.array_machine.specs.Control.{Control}
use Rattle.array_machine.specs.Changes.{Change, DiskFails, StateGoes, ClientMoves, PassMoves, ManagerMoves, ClientWord, IsSilent, Submits, Acknowledges, state_entry, pass_entry, update_entry, entry_of}
use Rattle.array_machine.specs.OtherTurns.{is_writing, any_writing}
use Rattle.array_machine.specs.Puts.{put}
use Rattle.array_machine.specs.Machine.{entered}
use Rattle.array_paths.specs.InTurn.{job_of}
use Rattle.array_base.proofs.Targets.{or_cases, or_first, or_second}
use Rattle.array_order.specs.ClientSteps.{op_in, StepsTo, ClientSteps}
use Rattle.array_causes.specs.StateCauses.{AreAnswered}
use Rattle.array_causes.proofs.Words.{each_state, each_pass, each_update}
use Rattle.array_causes.proofs.AnswerLaw.{has_later, has_now}

-- CLIENTS

-- a client that is set is at its operation, the others stay at theirs
moved_op : (clients : List Client) (k : ℕ) (new : Client) (m i : ℕ) → op_in (client_at clients m).job ≡ Some i
    → (k ≡ m → op_in new.job ≡ Some i) → op_in (client_at (slice_set clients k new) m).job ≡ Some i
moved_op [] k new m i is here = absurd cc
moved_op (x ∷ xs) zero new zero i is here = here refl
moved_op (x ∷ xs) zero new (suc m) i is here = is
moved_op (x ∷ xs) (suc k) new zero i is here = is
moved_op (x ∷ xs) (suc k) new (suc m) i is here = moved_op xs k new m i is (λ e. here (ap suc e))

taken_op : (clients : List Client) (k : ℕ) (new : Client) (i : ℕ) (rest : List ℕ)
    → (client_at clients k).left ≡ i ∷ rest → op_in new.job ≡ Some i
    → op_in (client_at (slice_set clients k new) k).job ≡ Some i
taken_op [] k new i rest left is = absurd cc
taken_op (x ∷ xs) zero new i rest left is = is
taken_op (x ∷ xs) (suc k) new i rest left is = taken_op xs k new i rest left is

op_without : (S : Setting) (d : ℕ) (volumes : List Volume) (job : Job)
    → op_in (job_without S d volumes job) ≡ op_in job
op_without S d volumes NoJob = refl
op_without S d volumes (Submitted i) = refl
op_without S d volumes (Busy i r) = refl

ops_without : (S : Setting) (d : ℕ) (volumes : List Volume) (clients : List Client) (k : ℕ)
    → op_in (client_at (clients_without S d volumes clients) k).job ≡ op_in (client_at clients k).job
ops_without S d volumes [] k = refl
ops_without S d volumes (x ∷ xs) zero = op_without S d volumes x.job
ops_without S d volumes (x ∷ xs) (suc k) = ops_without S d volumes xs k

module _ (S : Setting) where
  -- WHAT A RUN KEEPS

  pub record HasOp (c : Control) (i : ℕ) : Type 0 where
    pub client : ℕ
    pub is : op_in (job_of c client) ≡ Some i

  abbrev pub OpsOpen : Control → List Entry → Type 0
  OpsOpen c journal =
      (i : ℕ) → has (is_submit i) journal ≡ true → (has (is_ack_of i) journal ≡ true) ⊎ HasOp c i

  -- entries that submit nothing, and clients that stay at their operations
  kept : (c c' : Control) (journal new : List Entry) → ((i : ℕ) → has (is_submit i) new ≡ false)
      → ((i : ℕ) → HasOp c i → HasOp c' i) → OpsOpen c journal → OpsOpen c' (journal ++ new)
  kept c c' journal new none stays told i is =
      elim (or_cases (has (is_submit i) journal) (has (is_submit i) new)
      (sym (has-append (is_submit i) journal new) ∙ is)) [
        | inl old ↦ old_one (told i old)
        | inr now ↦ absurd (let not_one = none i in cc (not_one, now))
      ]
    where
      old_one : (has (is_ack_of i) journal ≡ true) ⊎ HasOp c i
          → (has (is_ack_of i) (journal ++ new) ≡ true) ⊎ HasOp c' i
      old_one (inl acked) = inl (has_later (is_ack_of i) journal new acked)
      old_one (inr op) = inr (stays i op)

  moves : (c : Control) (k : ℕ) (new : Client) (word : ClientWord) → StepsTo (client_at c.clients k) new word
      → (n : ℕ) (journal : List Entry) → OpsOpen c journal
      → OpsOpen (put S (ClientMoves k new word) c) (journal ++ entered n (entry_of S (ClientMoves k new word)))
  moves c k new IsSilent s n journal told i is =
      kept c (put S (ClientMoves k new IsSilent) c) journal [] (λ i. refl)
      (λ i op. record {
        client = op.client;
        is = moved_op c.clients k new op.client i op.is
            (λ e. s.is ∙ sym s.was ∙ ap (λ m. op_in (client_at c.clients m).job) e ∙ op.is);
      }) told i is
  moves c k new (Submits j) s n journal told i is =
      elim (or_cases (has (is_submit i) journal) (has (is_submit i) (entered n (entry_of S (ClientMoves k new
      (Submits j))))) (sym (has-append (is_submit i) journal _) ∙ is)) [
        | inl old ↦ old_one (told i old)
        | inr now ↦ new_one (or_cases (j == i) false now)
      ]
    where
      After : Type 0
      After = (has (is_ack_of i) (journal ++ entered n (entry_of S (ClientMoves k new (Submits j)))) ≡ true)
          ⊎ HasOp (put S (ClientMoves k new (Submits j)) c) i

      none : (m : ℕ) → k ≡ m → op_in (client_at c.clients m).job ≡ Some i → op_in new.job ≡ Some i
      none m e had =
          let was : op_in (client_at c.clients k).job ≡ None = ap op_in s.was in
          let has_one : op_in (client_at c.clients k).job ≡ Some i =
          ap (λ m. op_in (client_at c.clients m).job) e ∙ had in
          absurd (cc (was, has_one))

      old_one : (has (is_ack_of i) journal ≡ true) ⊎ HasOp c i → After
      old_one (inl acked) = inl (has_later (is_ack_of i) journal _ acked)
      old_one (inr op) =
          inr (record {
            client = op.client;
            is = moved_op c.clients k new op.client i op.is (λ e. none op.client e op.is);
          })

      new_one : ((j == i) ≡ true) ⊎ (false ≡ true) → After
      new_one (inl here) =
          let same : j ≡ i = grind (arith, nat_tests, here) in
          inr (record {
            client = k;
            is = subst (λ u. op_in (client_at (slice_set c.clients k new) k).job ≡ Some u) same
                (taken_op c.clients k new j new.left s.left s.is);
          })
      new_one (inr bad) = absurd cc
  moves c k new (Acknowledges j answer) s n journal told i is = at (j == i) refl
    where
      After : Type 0
      After = (has (is_ack_of i) (journal ++ entered n (entry_of S (ClientMoves k new (Acknowledges j answer)))) ≡ true)
          ⊎ HasOp (put S (ClientMoves k new (Acknowledges j answer)) c) i

      other : (j == i) ≡ false → (m : ℕ) → k ≡ m → op_in (client_at c.clients m).job ≡ Some i
          → op_in new.job ≡ Some i
      other ne m e had =
          let has_one : op_in (client_at c.clients k).job ≡ Some i =
          ap (λ m. op_in (client_at c.clients m).job) e ∙ had in
          let one : Some j ≡ Some i = sym s.was ∙ has_one in
          let same : j ≡ i = cc one in
          absurd (grind (arith, nat_tests, ne, same))

      old_one : (j == i) ≡ false → (has (is_ack_of i) journal ≡ true) ⊎ HasOp c i → After
      old_one ne (inl acked) = inl (has_later (is_ack_of i) journal _ acked)
      old_one ne (inr op) =
          inr (record {
            client = op.client;
            is = moved_op c.clients k new op.client i op.is (λ e. other ne op.client e op.is);
          })

      at : (b : Bool) → (j == i) ≡ b → After
      at true here = inl (has_now (is_ack_of i) journal _ (or_first (j == i) false here))
      at false ne =
          elim (or_cases (has (is_submit i) journal) false (sym (has-append (is_submit i) journal _) ∙ is)) [
            | inl old ↦ old_one ne (told i old)
            | inr bad ↦ absurd cc
          ]

  pub open_on : (c : Control) (a : Change) → ClientSteps c a → (n : ℕ) (journal : List Entry) → OpsOpen c journal
      → OpsOpen (put S a c) (journal ++ entered n (entry_of S a))
  open_on c (ClientMoves k new word) s n journal told = moves c k new word s n journal told
  open_on c (DiskFails d) s n journal told =
      kept c (put S (DiskFails d) c) journal _ (λ i. refl)
      (λ i op. record { client = op.client; is = ops_without S d c.volumes c.clients op.client ∙ op.is }) told
  open_on c (StateGoes v word) s n journal told =
      kept c (put S (StateGoes v word) c) journal _
      (λ i. each_state (λ word. has (is_submit i) (entered n (state_entry v word)) ≡ false) refl refl refl refl refl
      refl word) (λ i op. record { client = op.client; is = op.is }) told
  open_on c (PassMoves v slots pass word) s n journal told =
      kept c (put S (PassMoves v slots pass word) c) journal _
      (λ i. each_pass (λ word. has (is_submit i) (entered n (pass_entry v word)) ≡ false) refl (λ row. refl)
      (λ unit. refl) refl word) (λ i op. record { client = op.client; is = op.is }) told
  open_on c (ManagerMoves new word) s n journal told =
      kept c (put S (ManagerMoves new word) c) journal _
      (λ i. each_update (λ word. has (is_submit i) (entered n (update_entry word)) ≡ false) refl (λ u. refl)
      (λ u. refl) (λ u kind. refl) word) (λ i op. record { client = op.client; is = op.is }) told
  open_on c a s n journal told =
      kept c (put S a c) journal (entered n (entry_of S a)) (λ i. refl)
      (λ i op. record { client = op.client; is = op.is }) told

  -- WHERE NO WRITE IS OPEN

  -- a write to the volume is told alike by the job and by the script
  pub writes_alike : (v i : ℕ) → (is_write S i && (volume_of S i == v)) ≡ is_write_in S.asked.ops v i
  writes_alike v i = at (kind_at S.asked.ops i)
    where
      at : (kind : Option OpKind) → (is_write_kind kind && (volume_in kind == v)) ≡ is_in_volume v (write_in kind)
      at None = refl
      at (Some (OpWrite w s value)) = refl
      at (Some (OpRead w s)) = refl
      at (Some (OpWhole w)) = refl

  job_writes : (v i : ℕ) (job : Job) → op_in job ≡ Some i → (is_write S i && (volume_of S i == v)) ≡ true
      → is_writing S v job ≡ true
  job_writes v i NoJob is writes = absurd cc
  job_writes v i (Submitted j) is writes =
      let same : j ≡ i = cc is in subst (λ u. (is_write S u && (volume_of S u == v)) ≡ true) (sym same) writes
  job_writes v i (Busy j r) is writes =
      let same : j ≡ i = cc is in subst (λ u. (is_write S u && (volume_of S u == v)) ≡ true) (sym same) writes

  pub client_writes : (v i : ℕ) (clients : List Client) (k : ℕ) → op_in (client_at clients k).job ≡ Some i
      → (is_write S i && (volume_of S i == v)) ≡ true → any_writing S v clients ≡ true
  client_writes v i [] k is writes = absurd cc
  client_writes v i (x ∷ xs) zero is writes =
      or_first (is_writing S v x.job) (any_writing S v xs) (job_writes v i x.job is writes)
  client_writes v i (x ∷ xs) (suc k) is writes =
      or_second (is_writing S v x.job) (any_writing S v xs) (client_writes v i xs k is writes)

  pub none_open : (v : ℕ) (c : Control) (journal : List Entry) → any_writing S v c.clients ≡ false → OpsOpen c journal
      → AreAnswered S.asked.ops v journal
  none_open v c journal none told i writes submitted = elim (told i submitted) [
    | inl acked ↦ acked
    | inr op ↦ absurd (let some = client_writes v i c.clients op.client op.is (writes_alike v i ∙ writes) in
        cc (some, none))
  ]
