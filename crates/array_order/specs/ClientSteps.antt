-- What a change says of the operations of a client: nothing, that it submits the next, or that it answers the one that
-- it has. Source: this project's own.
use Rattle.std.specs.Prelude.{⊤, ◌≡◌, ℕ, ◌∷◌, Option, Some, None}
use Rattle.array_machine.specs.Clients.{Job, NoJob, Submitted, Busy, Client, client_at}
use Rattle.array_machine.specs.Control.{Control}
use Rattle.array_machine.specs.Changes.{Change, ClientMoves, ClientWord, IsSilent, Submits, Acknowledges}

-- the operation that a client is at
abbrev pub op_in : Job → Option ℕ
op_in NoJob = None
op_in (Submitted i) = Some i
op_in (Busy i r) = Some i

-- the client goes on with its operation
pub record KeepsOp (old new : Client) : Type 0 where
  pub op : ℕ
  pub left : new.left ≡ old.left
  pub was : op_in old.job ≡ Some op
  pub is : op_in new.job ≡ Some op

-- it is at none, and takes the first of those left
pub record TakesOp (old new : Client) (i : ℕ) : Type 0 where
  pub was : old.job ≡ NoJob
  pub left : old.left ≡ i ∷ new.left
  pub is : op_in new.job ≡ Some i

-- it answers the one that it is at
pub record EndsOp (old new : Client) (i : ℕ) : Type 0 where
  pub left : new.left ≡ old.left
  pub was : op_in old.job ≡ Some i
  pub is : new.job ≡ NoJob

abbrev pub StepsTo : Client → Client → ClientWord → Type 0
StepsTo old new IsSilent = KeepsOp old new
StepsTo old new (Submits i) = TakesOp old new i
StepsTo old new (Acknowledges i answer) = EndsOp old new i

abbrev pub ClientSteps : Control → Change → Type 0
ClientSteps c (ClientMoves k new word) = StepsTo (client_at c.clients k) new word
ClientSteps c _ = ⊤
