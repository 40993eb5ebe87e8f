-- Each client has done what the script gives it to do, up to what is left of it. Source: this project's own.
use Rattle.std.specs.Prelude.{◌≡◌, ℕ, true, false, List, [], ◌∷◌, ◌++◌, Option, Some, None}
use Rattle.std.specs.List.{AllByRecursion}
use Rattle.array_model.specs.declared.journal.Entry.{Entry}
use Rattle.array_model.specs.Script.{is_of_client}
use Rattle.array_model.specs.AnswerLaw.{OpEvent, op_events_of, IsInOrder}
use Rattle.array_model.specs.Form.{NamesOp}
use Rattle.array_machine.specs.Setting.{Setting}
use Rattle.array_machine.specs.Clients.{Client, client_at}
use Rattle.array_machine.specs.Control.{Control}
use Rattle.array_machine.specs.Machine.{clients_of}
use Rattle.array_order.specs.ClientSteps.{op_in}

-- the submit and the answer of operation i
abbrev pub submit_of : ℕ → OpEvent
submit_of i = record { is_ack = false; op = i }

abbrev pub answer_of : ℕ → OpEvent
answer_of i = record { is_ack = true; op = i }

-- what these operations ask for
abbrev pub both_of : List ℕ → List OpEvent
both_of [] = []
both_of (i ∷ is) = submit_of i ∷ answer_of i ∷ both_of is

abbrev pub owed_of : Option ℕ → List OpEvent
owed_of None = []
owed_of (Some i) = answer_of i ∷ []

-- what a client still owes: the answer of the operation that it is at, and those left
abbrev pub owes : Client → List OpEvent
owes x = owed_of (op_in x.job) ++ both_of x.left

-- operation i is one of client k's
abbrev pub IsOwn : Setting → (k i : ℕ) → Type 0
IsOwn S k i = is_of_client S.asked.ops k i ≡ true

-- what a client was given is what the journal has of it and what it owes, and it has its own operations alone
pub record InOrder (S : Setting) (c : Control) (journal : List Entry) : Type 0 where
  pub steps : (k : ℕ) → both_of (client_at (clients_of S) k).left
      ≡ op_events_of S.asked.ops k journal ++ owes (client_at c.clients k)
  pub own : (k : ℕ) → AllByRecursion (IsOwn S k) (client_at c.clients k).left
  pub has : (k i : ℕ) → op_in (client_at c.clients k).job ≡ Some i → IsOwn S k i
  pub named : AllByRecursion (λ e. NamesOp S.asked.ops e.event) journal

-- The law: each client's submits and answers stand in the order of its operations, and name operations of the script.
pub record AsksInOrder (S : Setting) (journal : List Entry) : Type 0 where
  pub order : (k : ℕ) → IsInOrder S.asked.ops journal k
  pub named : AllByRecursion (λ e. NamesOp S.asked.ops e.event) journal
