-- Each world of each run has clients' words and updates in order.
use Rattle.std.proofs.Common.{◌≡◌, ℕ, zero, suc, ◌+◌, ◌<◌, ◌≤◌, Bool, true, false, List, [], ◌∷◌, ◌++◌, length, map, filter, refl, ap, sym, ◌∙◌, subst, arith, None, ◌⊎◌, inl, inr, cond}
use Rattle.std.specs.Prelude.{flat_map}
use Rattle.std.specs.List.{AllByRecursion, range_with_len}
use Rattle.units.specs.declared.bounds.TheConstants.{CLIENTS}
use Rattle.array_model.specs.Script.{is_of_client}
use Rattle.array_model.specs.AnswerLaw.{OpEvent, op_events_of, op_events_due, IsInOrder}
use Rattle.array_machine.specs.Setting.{Setting}
use Rattle.array_machine.specs.Volumes.{Volume}
use Rattle.array_machine.specs.Operations.{ops_of}
use Rattle.array_machine.specs.Clients.{NoJob, Client, no_client, client_at, with_job}
use Rattle.array_machine.specs.Machine.{World, calls_after, clients_of, first_manager, begins_at, Reached}
use Rattle.array_base.specs.Premises.{Premises}
use Rattle.array_base.specs.Opening.{Opening}
use Rattle.array_base.specs.Laws.{FollowsBase}
use Rattle.array_base.proofs.Runs.{along_base}
use Rattle.array_order.specs.ClientSteps.{op_in}
use Rattle.array_order.specs.ClientOrder.{submit_of, answer_of, both_of, owed_of, owes, IsOwn, InOrder, AsksInOrder}
use Rattle.array_order.specs.UpdateOrder.{UpdatesInOrder}
use Rattle.array_order.proofs.Steps.{step_of}
use Rattle.array_order.proofs.ClientOrder.{order_effect}
use Rattle.array_order.proofs.UpdateOrder.{Handed, handed_change, update_step}

-- WHEN A RUN BEGINS

in_map : (f : ℕ → Client) (a n k : ℕ) → k < n → client_at (map f (range_with_len a n)) k ≡ f (a + k)
in_map f a zero k lt = absurd (omega (arith, lt))
in_map f a (suc n) zero lt = let same : a ≡ a + 0 = omega arith in ap f same
in_map f a (suc n) (suc k) lt =
    in_map f (a + 1) n k (omega (arith, lt)) ∙ (let same : a + 1 + k ≡ a + suc k = omega arith in ap f same)

past_map : (f : ℕ → Client) (a n k : ℕ) → n ≤ k → client_at (map f (range_with_len a n)) k ≡ no_client
past_map f a zero k le = refl
past_map f a (suc n) zero le = absurd (omega (arith, le))
past_map f a (suc n) (suc k) le = past_map f (a + 1) n k (omega (arith, le))

all_filter : (p : ℕ → Bool) (xs : List ℕ) → AllByRecursion (λ i. p i ≡ true) (filter p xs)
all_filter p [] = tt
all_filter p (x ∷ xs) = at (p x) refl (all_filter p xs)
  where
    at : (b : Bool) → p x ≡ b → AllByRecursion (λ i. p i ≡ true) (filter p xs)
        → AllByRecursion (λ i. p i ≡ true) (cond b (x ∷ filter p xs) (filter p xs))
    at true is more = (is, more)
    at false is more = more

one_of : (k n : ℕ) → (k < n) ⊎ (n ≤ k)
one_of k n = grind arith

both_is : (xs : List ℕ)
    → flat_map (λ i. record { is_ack = false; op = i } ∷ record { is_ack = true; op = i } ∷ []) xs ≡ both_of xs
both_is [] = refl
both_is (x ∷ xs) = ap (λ r. submit_of x ∷ answer_of x ∷ r) (both_is xs)

nothing_left : (xs ys : List OpEvent) → [] ≡ xs ++ ys → xs ≡ []
nothing_left [] ys e = refl
nothing_left (x ∷ xs) ys e = absurd cc

module _ (S : Setting) where
  -- a client has its operations, and no job; there are no others
  client_opened : (k : ℕ) → (client_at (clients_of S) k ≡ with_job (ops_of S.asked.ops k) NoJob)
      ⊎ (client_at (clients_of S) k ≡ no_client)
  client_opened k = elim (one_of k CLIENTS) [
    | inl lt ↦ inl (in_map (λ j. with_job (ops_of S.asked.ops j) NoJob) 0 CLIENTS k lt
        ∙ (let same : 0 + k ≡ k = omega arith in ap (λ j. with_job (ops_of S.asked.ops j) NoJob) same))
    | inr le ↦ inr (past_map (λ j. with_job (ops_of S.asked.ops j) NoJob) 0 CLIENTS k le)
  ]

  idle_at_first : (k : ℕ) → op_in (client_at (clients_of S) k).job ≡ None
  idle_at_first k = elim (client_opened k) [
    | inl is ↦ ap (λ (x : Client). op_in x.job) is
    | inr is ↦ ap (λ (x : Client). op_in x.job) is
  ]

  own_at_first : (k : ℕ) → AllByRecursion (IsOwn S k) (client_at (clients_of S) k).left
  own_at_first k = elim (client_opened k) [
    | inl is ↦ subst (λ (x : Client). AllByRecursion (IsOwn S k) x.left) (sym is)
        (all_filter (is_of_client S.asked.ops k) (range_with_len 0 (length S.asked.ops)))
    | inr is ↦ subst (λ (x : Client). AllByRecursion (IsOwn S k) x.left) (sym is) tt
  ]

  order_opens : (volumes : List Volume) (spares : List ℕ) → InOrder S (begins_at S volumes spares).control []
  order_opens volumes spares = record {
    steps = λ k. ap (λ x. owed_of x ++ both_of (client_at (clients_of S) k).left) (sym (idle_at_first k));
    own = own_at_first;
    has = λ k i e. absurd (let none = idle_at_first k in cc (none, e));
    named = tt;
  }

  handed_opens : (spares : List ℕ) → Handed (first_manager S spares) []
  handed_opens spares = record { law = tt; posted = refl; queue = refl; few = omega arith }

  -- what a client was given is what the law asks for
  in_order : (w : World) → InOrder S w.control w.journal → AsksInOrder S w.journal
  in_order w o = record { order = λ k. cases k (client_opened k); named = o.named }
    where
      cases : (k : ℕ) → (client_at (clients_of S) k ≡ with_job (ops_of S.asked.ops k) NoJob)
          ⊎ (client_at (clients_of S) k ≡ no_client) → IsInOrder S.asked.ops w.journal k
      cases k (inl is) = (
        owes (client_at w.control.clients k),
        both_is (ops_of S.asked.ops k) ∙ ap (λ (x : Client). both_of x.left) (sym is) ∙ o.steps k,
      )
      cases k (inr is) =
          let empty : op_events_of S.asked.ops k w.journal ≡ [] = nothing_left _ (owes (client_at w.control.clients k))
          (sym (ap (λ (x : Client). both_of x.left) is) ∙ o.steps k) in
          (op_events_due S.asked.ops k, sym (ap (λ s. s ++ op_events_due S.asked.ops k) empty))

  -- EACH WORLD

  record Ordered (w : World) : Type 0 where
    clients : InOrder S w.control w.journal
    updates : Handed w.control.manager w.journal

  module _ (P : Premises S) (volumes : List Volume) (spares : List ℕ) (o : Opening S P volumes spares) where
    follows : FollowsBase S P volumes spares (λ t w. Ordered w)
    follows = record {
      opens = λ who. record { clients = order_opens volumes spares; updates = handed_opens spares };
      begins = λ t w who had. had;
      step = λ t w call x a over had. record {
        clients =
            order_effect S w.control a (step_of S t w.control call x a over.effect) (calls_after w.calls call)
            w.journal had.clients;
        updates =
            handed_change S w.control a (update_step S t w.control call x a over.effect) (calls_after w.calls call)
            w.journal had.updates;
      };
    }

    pub asks_in_order : (w : World) → Reached S volumes spares w → AsksInOrder S w.journal
    asks_in_order w run = in_order w (along_base S P volumes spares o (λ t w. Ordered w) follows w run).1.clients

    pub updates_in_order : (w : World) → Reached S volumes spares w → UpdatesInOrder w.journal
    updates_in_order w run = (along_base S P volumes spares o (λ t w. Ordered w) follows w run).1.updates.law

    -- what a client has left are operations of its own
    pub each_client_has_its_own : (w : World) → Reached S volumes spares w → (k : ℕ)
        → AllByRecursion (IsOwn S k) (client_at w.control.clients k).left
    each_client_has_its_own w run = (along_base S P volumes spares o (λ t w. Ordered w) follows w run).1.clients.own
