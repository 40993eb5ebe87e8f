-- Each effect keeps the order of what clients submit and are answered.
use Rattle.std.proofs.Common.{◌≡◌, ℕ, zero, suc, ◌<◌, ◌==◌, Bool, true, false, List, [], ◌∷◌, ◌++◌, length, refl, ap, sym, ◌∙◌, subst, arith, append_assoc, Option, Some, None, slice_get, slice_set}
use Rattle.std.specs.List.{AllByRecursion}
use Rattle.std.proofs.lemmas.Bool.Decides.{nat_tests}
use Rattle.std.proofs.lemmas.List.{get_or-set_same}
use Rattle.std.proofs.lemmas.List.Elements.{filter_map-append}
use Rattle.array_model.specs.declared.script.Op.{Op}
use Rattle.array_model.specs.declared.journal.Entry.{Entry}
use Rattle.array_model.specs.Script.{is_of_client, is_of_client_in}
use Rattle.array_model.specs.AnswerLaw.{OpEvent, op_event_of, op_events_of}
use Rattle.array_model.specs.Form.{NamesOp}
use Rattle.array_model.proofs.Journals.{all-append}
use Rattle.array_machine.specs.Setting.{Setting}
use Rattle.array_machine.specs.States.{ToReady, ToPending, ToActive, ToActiveAgain, ToIdle, ToClean}
use Rattle.array_machine.specs.Volumes.{Volume}
use Rattle.array_machine.specs.Clients.{Job, NoJob, Submitted, Busy, Client, no_client, client_at}
use Rattle.array_machine.specs.Faults.{job_without, clients_without}
use Rattle.array_machine.specs.Control.{Control}
use Rattle.array_machine.specs.Changes.{Change, StepsOn, RoundBegins, SpareBegins, RoundEnds, SpareEnds, RoundLapses, DiskFails, DiskUnblocks, StateGoes, ClientMoves, PassMoves, ManagerMoves, MonitorKilled, TakeoverStarts, TakeoverReads, MonitorResumes, MonitorDies, ClientWord, IsSilent, Submits, Acknowledges, GoesOnQuietly, OpensAt, Reaches, Closes, SaysNothing, Posts, Applies, Declines, client_entry, entry_of}
use Rattle.array_machine.specs.Puts.{put}
use Rattle.array_machine.specs.Machine.{entered, clients_of}
use Rattle.array_order.specs.ClientSteps.{op_in, StepsTo, ClientSteps}
use Rattle.array_order.specs.ClientOrder.{answer_of, both_of, owed_of, owes, IsOwn, InOrder}

-- CLIENTS OF A LIST

client_other : (cs : List Client) (j : ℕ) (x : Client) (k : ℕ) → (j == k) ≡ false
    → client_at (slice_set cs j x) k ≡ client_at cs k
client_other [] j x k ne = refl
client_other (y ∷ ys) zero x zero ne = absurd cc
client_other (y ∷ ys) zero x (suc k) ne = refl
client_other (y ∷ ys) (suc j) x zero ne = refl
client_other (y ∷ ys) (suc j) x (suc k) ne =
    let lower : (j == k) ≡ false = grind (arith, nat_tests, ne) in client_other ys j x k lower

-- a client with an operation to do is one of the list
there_by_job : (cs : List Client) (k i : ℕ) → op_in (client_at cs k).job ≡ Some i → k < length cs
there_by_job [] k i is = absurd cc
there_by_job (x ∷ xs) zero i is = omega arith
there_by_job (x ∷ xs) (suc k) i is = let more : k < length xs = there_by_job xs k i is in omega arith

there_by_left : (cs : List Client) (k i : ℕ) (rest : List ℕ) → (client_at cs k).left ≡ i ∷ rest → k < length cs
there_by_left [] k i rest is = absurd cc
there_by_left (x ∷ xs) zero i rest is = omega arith
there_by_left (x ∷ xs) (suc k) i rest is =
    let more : k < length xs = there_by_left xs k i rest is in omega arith

op_without : (S : Setting) (d : ℕ) (vs : List Volume) (job : Job) → op_in (job_without S d vs job) ≡ op_in job
op_without S d vs NoJob = refl
op_without S d vs (Submitted i) = refl
op_without S d vs (Busy i r) = refl

-- a disk's failure leaves each client's operations
left_without : (S : Setting) (d : ℕ) (vs : List Volume) (cs : List Client) (k : ℕ)
    → (client_at (clients_without S d vs cs) k).left ≡ (client_at cs k).left
left_without S d vs [] k = refl
left_without S d vs (c ∷ cs) zero = refl
left_without S d vs (c ∷ cs) (suc k) = left_without S d vs cs k

ops_without : (S : Setting) (d : ℕ) (vs : List Volume) (cs : List Client) (k : ℕ)
    → op_in (client_at (clients_without S d vs cs) k).job ≡ op_in (client_at cs k).job
ops_without S d vs [] k = refl
ops_without S d vs (c ∷ cs) zero = op_without S d vs c.job
ops_without S d vs (c ∷ cs) (suc k) = ops_without S d vs cs k

module _ (S : Setting) where
  in_ops : (ops : List Op) (k i : ℕ) → is_of_client_in k (slice_get ops i) ≡ true → i < length ops
  in_ops [] k i h = absurd cc
  in_ops (x ∷ xs) k zero h = omega arith
  in_ops (x ∷ xs) k (suc i) h = let more : i < length xs = in_ops xs k i h in omega arith

  own_of_one : (j k i : ℕ) → IsOwn S j i → (j == k) ≡ false → is_of_client S.asked.ops k i ≡ false
  own_of_one j k i own ne = at (slice_get S.asked.ops i) own
    where
      at : (op : Option Op) → is_of_client_in j op ≡ true → is_of_client_in k op ≡ false
      at None h = absurd cc
      at (Some op) h = grind (arith, nat_tests, h, ne)

  -- ONE CLIENT MOVES

  module _ (j n : ℕ) (old new : Client) (own : AllByRecursion (IsOwn S j) old.left)
      (has : (i : ℕ) → op_in old.job ≡ Some i → IsOwn S j i) where
    abbrev events : ℕ → ClientWord → List OpEvent
    events k word = op_events_of S.asked.ops k (entered n (client_entry word))

    owes_less : (word : ClientWord) → StepsTo old new word → owes old ≡ events j word ++ owes new
    owes_less IsSilent s = ap (λ o. owed_of o ++ both_of old.left) (s.was ∙ sym s.is)
        ∙ ap (λ l. owed_of (op_in new.job) ++ both_of l) (sym s.left)
    owes_less (Submits i) s =
        let mine : IsOwn S j i = (subst (AllByRecursion (IsOwn S j)) s.left own).0 in
        ap (λ b. owed_of (op_in b) ++ both_of old.left) s.was ∙ ap both_of s.left ∙ rw (mine, s.is) refl
    owes_less (Acknowledges i answer) s =
        let mine : IsOwn S j i = has i s.was in
        ap (λ o. owed_of o ++ both_of old.left) s.was ∙ ap (λ l. answer_of i ∷ both_of l) (sym s.left)
        ∙ rw (mine, s.is) refl

    others_silent : (k : ℕ) (word : ClientWord) → (j == k) ≡ false → StepsTo old new word → events k word ≡ []
    others_silent k IsSilent ne s = refl
    others_silent k (Submits i) ne s =
        let other = own_of_one j k i (subst (AllByRecursion (IsOwn S j)) s.left own).0 ne in rw other refl
    others_silent k (Acknowledges i answer) ne s = let other = own_of_one j k i (has i s.was) ne in rw other refl

    own_after : (word : ClientWord) → StepsTo old new word → AllByRecursion (IsOwn S j) new.left
    own_after IsSilent s = subst (AllByRecursion (IsOwn S j)) (sym s.left) own
    own_after (Submits i) s = (subst (AllByRecursion (IsOwn S j)) s.left own).1
    own_after (Acknowledges i answer) s = subst (AllByRecursion (IsOwn S j)) (sym s.left) own

    has_after : (word : ClientWord) → StepsTo old new word → (i : ℕ) → op_in new.job ≡ Some i → IsOwn S j i
    has_after IsSilent s i e = has i (s.was ∙ sym s.is ∙ e)
    has_after (Submits x) s i e =
        let same : x ≡ i = cc (s.is, e) in
        subst (IsOwn S j) same (subst (AllByRecursion (IsOwn S j)) s.left own).0
    has_after (Acknowledges x answer) s i e = absurd (let none = ap op_in s.is in cc (none, e))

    named_after : (word : ClientWord) → StepsTo old new word
        → AllByRecursion (λ e. NamesOp S.asked.ops e.event) (entered n (client_entry word))
    named_after IsSilent s = tt
    named_after (Submits i) s = (in_ops S.asked.ops j i (subst (AllByRecursion (IsOwn S j)) s.left own).0, tt)
    named_after (Acknowledges i answer) s = (in_ops S.asked.ops j i (has i s.was), tt)

  there : (c : Control) (j : ℕ) (new : Client) (word : ClientWord) → StepsTo (client_at c.clients j) new word
      → j < length c.clients
  there c j new IsSilent s = there_by_job c.clients j s.op s.was
  there c j new (Submits i) s = there_by_left c.clients j i new.left s.left
  there c j new (Acknowledges i answer) s = there_by_job c.clients j i s.was

  -- what is entered is what the client owes less
  appended : (k : ℕ) (journal more : List Entry) (x y : Client) (all : List OpEvent)
      → all ≡ op_events_of S.asked.ops k journal ++ owes x → owes x ≡ op_events_of S.asked.ops k more ++ owes y
      → all ≡ op_events_of S.asked.ops k (journal ++ more) ++ owes y
  appended k journal more x y all old moves =
      old ∙ ap (λ r. op_events_of S.asked.ops k journal ++ r) moves
      ∙ sym (append_assoc (op_events_of S.asked.ops k journal) (op_events_of S.asked.ops k more) (owes y))
      ∙ ap (λ s. s ++ owes y) (sym (filter_map-append (λ e. op_event_of S.asked.ops k e.event) journal more))

  order_moves : (c : Control) (j n : ℕ) (new : Client) (word : ClientWord) (journal : List Entry)
      → StepsTo (client_at c.clients j) new word → InOrder S c journal
      → InOrder S (put S (ClientMoves j new word) c) (journal ++ entered n (client_entry word))
  order_moves c j n new word journal s o = record {
    steps = λ k. steps_at k (j == k) refl;
    own = λ k. own_at k (j == k) refl;
    has = λ k. has_at k (j == k) refl;
    named = all-append (λ (e : Entry). NamesOp S.asked.ops e.event) journal (entered n (client_entry word)) o.named
        (named_after j n (client_at c.clients j) new (o.own j) (o.has j) word s);
  }
    where
      cs : List Client
      cs = slice_set c.clients j new

      mine : client_at cs j ≡ new
      mine = get_or-set_same c.clients j new no_client (there c j new word s)

      steps_at : (k : ℕ) (b : Bool) → (j == k) ≡ b → both_of (client_at (clients_of S) k).left
          ≡ op_events_of S.asked.ops k (journal ++ entered n (client_entry word)) ++ owes (client_at cs k)
      steps_at k true is =
          let same : j ≡ k = grind (arith, nat_tests, is) in
          subst (λ z. both_of (client_at (clients_of S) z).left
          ≡ op_events_of S.asked.ops z (journal ++ entered n (client_entry word)) ++ owes (client_at cs z)) same
          (appended j journal (entered n (client_entry word)) (client_at c.clients j) (client_at cs j) _ (o.steps j)
          (owes_less j n (client_at c.clients j) new (o.own j) (o.has j) word s
          ∙ ap (λ x. op_events_of S.asked.ops j (entered n (client_entry word)) ++ owes x) (sym mine)))
      steps_at k false is =
          appended k journal (entered n (client_entry word)) (client_at c.clients k) (client_at cs k) _ (o.steps k)
          (ap owes (sym (client_other c.clients j new k is))
          ∙ ap (λ r. r ++ owes (client_at cs k))
          (sym (others_silent j n (client_at c.clients j) new (o.own j) (o.has j) k word is s)))

      own_at : (k : ℕ) (b : Bool) → (j == k) ≡ b → AllByRecursion (IsOwn S k) (client_at cs k).left
      own_at k true is =
          let same : j ≡ k = grind (arith, nat_tests, is) in
          subst (λ z. AllByRecursion (IsOwn S z) (client_at cs z).left) same
          (subst (λ (x : Client). AllByRecursion (IsOwn S j) x.left) (sym mine)
          (own_after j n (client_at c.clients j) new (o.own j) (o.has j) word s))
      own_at k false is = subst (λ (x : Client). AllByRecursion (IsOwn S k) x.left)
          (sym (client_other c.clients j new k is)) (o.own k)

      has_at : (k : ℕ) (b : Bool) → (j == k) ≡ b → (i : ℕ) → op_in (client_at cs k).job ≡ Some i → IsOwn S k i
      has_at k true is i e =
          let same : j ≡ k = grind (arith, nat_tests, is) in
          subst (λ z. (x : ℕ) → op_in (client_at cs z).job ≡ Some x → IsOwn S z x) same
          (λ x h. has_after j n (client_at c.clients j) new (o.own j) (o.has j) word s x
          (sym (ap (λ (y : Client). op_in y.job) mine) ∙ h)) i e
      has_at k false is i e =
          o.has k i (sym (ap (λ (x : Client). op_in x.job) (client_other c.clients j new k is)) ∙ e)

  -- NO CLIENT MOVES

  -- the change enters nothing of a client, and leaves each its operations
  record Aside (c : Control) (a : Change) : Type 0 where
    none : (k n : ℕ) → op_events_of S.asked.ops k (entered n (entry_of S a)) ≡ []
    unnamed : (n : ℕ) → AllByRecursion (λ e. NamesOp S.asked.ops e.event) (entered n (entry_of S a))
    left : (k : ℕ) → (client_at (put S a c).clients k).left ≡ (client_at c.clients k).left
    op : (k : ℕ) → op_in (client_at (put S a c).clients k).job ≡ op_in (client_at c.clients k).job

  order_aside : (c : Control) (a : Change) (n : ℕ) (journal : List Entry) → Aside c a → InOrder S c journal
      → InOrder S (put S a c) (journal ++ entered n (entry_of S a))
  order_aside c a n journal h o = record {
    steps = λ k. appended k journal (entered n (entry_of S a)) (client_at c.clients k) (client_at (put S a c).clients k)
        _ (o.steps k)
        (ap (λ l. owed_of (op_in (client_at c.clients k).job) ++ both_of l) (sym (h.left k))
        ∙ ap (λ x. owed_of x ++ both_of (client_at (put S a c).clients k).left) (sym (h.op k))
        ∙ ap (λ s. s ++ owes (client_at (put S a c).clients k)) (sym (h.none k n)));
    own = λ k. subst (AllByRecursion (IsOwn S k)) (sym (h.left k)) (o.own k);
    has = λ k i e. o.has k i (sym (h.op k) ∙ e);
    named = all-append (λ (e : Entry). NamesOp S.asked.ops e.event) journal (entered n (entry_of S a)) o.named
        (h.unnamed n);
  }

  -- a change that leaves the clients as they are, and enters nothing, or nothing of them
  quiet_aside : (c : Control) (a : Change) → ((k n : ℕ) → op_events_of S.asked.ops k (entered n (entry_of S a)) ≡ [])
      → ((n : ℕ) → AllByRecursion (λ e. NamesOp S.asked.ops e.event) (entered n (entry_of S a)))
      → (put S a c).clients ≡ c.clients → Aside c a
  quiet_aside c a none unnamed same = record {
    none = none;
    unnamed = unnamed;
    left = λ k. ap (λ cs. (client_at cs k).left) same;
    op = λ k. ap (λ cs. op_in (client_at cs k).job) same;
  }

  aside_of : (c : Control) (a : Change) → ((j : ℕ) (new : Client) (word : ClientWord) → a ≡ ClientMoves j new word → ⊥)
      → ((d : ℕ) → a ≡ DiskFails d → ⊥) → Aside c a
  aside_of c StepsOn f g = quiet_aside c StepsOn (λ k n. refl) (λ n. tt) refl
  aside_of c RoundLapses f g = quiet_aside c RoundLapses (λ k n. refl) (λ n. tt) refl
  aside_of c (TakeoverReads left seen found) f g =
      quiet_aside c (TakeoverReads left seen found) (λ k n. refl) (λ n. tt) refl
  aside_of c (MonitorResumes d) f g = quiet_aside c (MonitorResumes d) (λ k n. refl) (λ n. tt) refl
  aside_of c MonitorDies f g = quiet_aside c MonitorDies (λ k n. refl) (λ n. tt) refl
  aside_of c (SpareBegins d m) f g = quiet_aside c (SpareBegins d m) (λ k n. refl) (λ n. tt) refl
  aside_of c (StateGoes v ToActiveAgain) f g = quiet_aside c (StateGoes v ToActiveAgain) (λ k n. refl) (λ n. tt) refl
  aside_of c (PassMoves v slots pass GoesOnQuietly) f g =
      quiet_aside c (PassMoves v slots pass GoesOnQuietly) (λ k n. refl) (λ n. tt) refl
  aside_of c (ManagerMoves manager SaysNothing) f g =
      quiet_aside c (ManagerMoves manager SaysNothing) (λ k n. refl) (λ n. tt) refl
  aside_of c (RoundBegins m) f g = quiet_aside c (RoundBegins m) (λ k n. refl) (λ n. (tt, tt)) refl
  aside_of c (RoundEnds m) f g = quiet_aside c (RoundEnds m) (λ k n. refl) (λ n. (tt, tt)) refl
  aside_of c (SpareEnds d) f g = quiet_aside c (SpareEnds d) (λ k n. refl) (λ n. (tt, tt)) refl
  aside_of c (DiskUnblocks d) f g = quiet_aside c (DiskUnblocks d) (λ k n. refl) (λ n. (tt, tt)) refl
  aside_of c (StateGoes v ToReady) f g = quiet_aside c (StateGoes v ToReady) (λ k n. refl) (λ n. (tt, tt)) refl
  aside_of c (StateGoes v ToPending) f g = quiet_aside c (StateGoes v ToPending) (λ k n. refl) (λ n. (tt, tt)) refl
  aside_of c (StateGoes v ToActive) f g = quiet_aside c (StateGoes v ToActive) (λ k n. refl) (λ n. (tt, tt)) refl
  aside_of c (StateGoes v ToIdle) f g = quiet_aside c (StateGoes v ToIdle) (λ k n. refl) (λ n. (tt, tt)) refl
  aside_of c (StateGoes v ToClean) f g = quiet_aside c (StateGoes v ToClean) (λ k n. refl) (λ n. (tt, tt)) refl
  aside_of c (PassMoves v slots pass (OpensAt row)) f g =
      quiet_aside c (PassMoves v slots pass (OpensAt row)) (λ k n. refl) (λ n. (tt, tt)) refl
  aside_of c (PassMoves v slots pass (Reaches unit)) f g =
      quiet_aside c (PassMoves v slots pass (Reaches unit)) (λ k n. refl) (λ n. (tt, tt)) refl
  aside_of c (PassMoves v slots pass Closes) f g =
      quiet_aside c (PassMoves v slots pass Closes) (λ k n. refl) (λ n. (tt, tt)) refl
  aside_of c (ManagerMoves manager (Posts u)) f g =
      quiet_aside c (ManagerMoves manager (Posts u)) (λ k n. refl) (λ n. (tt, tt)) refl
  aside_of c (ManagerMoves manager (Applies u)) f g =
      quiet_aside c (ManagerMoves manager (Applies u)) (λ k n. refl) (λ n. (tt, tt)) refl
  aside_of c (ManagerMoves manager (Declines u kind)) f g =
      quiet_aside c (ManagerMoves manager (Declines u kind)) (λ k n. refl) (λ n. (tt, tt)) refl
  aside_of c MonitorKilled f g = quiet_aside c MonitorKilled (λ k n. refl) (λ n. (tt, tt)) refl
  aside_of c (TakeoverStarts left) f g = quiet_aside c (TakeoverStarts left) (λ k n. refl) (λ n. (tt, tt)) refl
  aside_of c (ClientMoves j new word) f g = absurd (f j new word refl)
  aside_of c (DiskFails d) f g = absurd (g d refl)

  pub order_effect : (c : Control) (a : Change) → ClientSteps c a → (n : ℕ) (journal : List Entry) → InOrder S c journal
      → InOrder S (put S a c) (journal ++ entered n (entry_of S a))
  order_effect c (ClientMoves j new word) s n journal o = order_moves c j n new word journal s o
  order_effect c (DiskFails d) s n journal o = order_aside c (DiskFails d) n journal (record {
    none = λ k n. refl;
    unnamed = λ n. (tt, tt);
    left = left_without S d c.volumes c.clients;
    op = ops_without S d c.volumes c.clients;
  }) o
  order_effect c a s n journal o =
      order_aside c a n journal (aside_of c a (λ j new word is. absurd cc) (λ d is. absurd cc)) o
