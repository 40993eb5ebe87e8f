-- What a change of a turn leans on: the changes that stand before it in the same turn. Source: this project's own, over
-- the order in which mdadm's monitor.c reads, writes and calls.
use Rattle.std.specs.Prelude.{⊤, ◌≡◌, ℕ, true, false, List, [], ◌∷◌, slice_get, Option, Some, None}
use Rattle.device_log.specs.Log.{Call}
use Rattle.array_model.specs.declared.script.OpKind.{OpKind}
use Rattle.array_model.specs.declared.script.Ask.{Ask}
use Rattle.array_model.specs.declared.script.Ask.TheVariants.{Add}
use Rattle.array_model.specs.Script.{kind_at}
use Rattle.array_machine.specs.Setting.{Setting}
use Rattle.array_machine.specs.States.{ToReady, ToPending, ToActiveAgain}
use Rattle.array_machine.specs.Volumes.{volume_at}
use Rattle.array_machine.specs.Operations.{volume_in}
use Rattle.array_machine.specs.Clients.{Job, Submitted}
use Rattle.array_machine.specs.ClientTurns.{is_shut}
use Rattle.array_machine.specs.Rounds.{Lives, has_target}
use Rattle.array_machine.specs.Control.{Control}
use Rattle.array_machine.specs.Changes.{Change, SpareBegins, RoundEnds, StateGoes, ClientMoves, PassMoves, ManagerMoves, IsSilent, Submits, Acknowledges, OpensAt, Reaches, Closes, Applies, Declines}
use Rattle.array_causes.specs.Writes.{is_write_there}
use Rattle.array_causes.specs.AnswerKinds.{IsAnswerOf}

-- No change was made yet in the turn; one on which nothing leans was; a client just submitted an operation, and asked
-- its volume for it; a round just ended; a volume was just made ready; an update was just applied.
pub data Link : Type 0 where
  First : Link
  Fresh : Link
  BehindSubmit : (client op : ℕ) → Link
  BehindAsk : (client : ℕ) → Link
  BehindEnd : Link
  BehindReady : (v : ℕ) → Link
  BehindApplied : Link

-- an operation whose job hasn't begun yet
abbrev pub behind_submit : Job → (client op : ℕ) → Link
behind_submit (Submitted j) k i = BehindSubmit k i
behind_submit _ k i = Fresh

abbrev pub behind_ask : Link → Link
behind_ask (BehindSubmit k i) = BehindAsk k
behind_ask _ = Fresh

-- what is said of passes at the end of a round follows one another
abbrev pub behind_pass : Link → Link
behind_pass BehindEnd = BehindEnd
behind_pass _ = Fresh

abbrev pub link_after : Link → Change → Link
link_after link (ClientMoves k new (Submits i)) = behind_submit new.job k i
link_after link (RoundEnds m) = BehindEnd
link_after link (StateGoes v ToReady) = BehindReady v
link_after link (StateGoes v ToPending) = behind_ask link
link_after link (StateGoes v ToActiveAgain) = behind_ask link
link_after link (PassMoves v slots pass word) = behind_pass link
link_after link (ManagerMoves new (Applies n)) = BehindApplied
link_after link _ = Fresh

-- no client has an operation whose job is still to begin
abbrev pub IsSettled : Link → Type 0
IsSettled (BehindSubmit k i) = ⊥
IsSettled (BehindAsk k) = ⊥
IsSettled _ = ⊤

-- if one has, it is this client
abbrev pub IsOwn : ℕ → Link → Type 0
IsOwn k (BehindSubmit j i) = k ≡ j
IsOwn k (BehindAsk j) = k ≡ j
IsOwn k _ = ⊤

-- a write to a sector of the volume was just submitted
abbrev pub HasAsked : Setting → ℕ → Link → Type 0
HasAsked S v (BehindSubmit k i) = is_write_there S.start S.asked.ops v i ≡ true
HasAsked S v _ = ⊥

-- a pass opens behind the end of a round, then from row 0, or where its volume was just made ready
abbrev pub MayOpen : (v row : ℕ) → Link → Type 0
MayOpen v row BehindEnd = row ≡ 0
MayOpen v row (BehindReady w) = w ≡ v
MayOpen v row _ = ⊥

-- the script asks for disk d to become a spare
abbrev pub AsksToAdd : ℕ → Option Ask → Type 0
AsksToAdd d (Some (Add e)) = e ≡ d
AsksToAdd d _ = ⊥

pub record IsToBeAdded (S : Setting) (d : ℕ) : Type 0 where
  pub ask : ℕ
  pub adds : AsksToAdd d (slice_get S.asked.asks ask)

-- an operation is submitted where its volume isn't shut
abbrev pub MaySubmit : Control → Option OpKind → Type 0
MaySubmit c None = ⊥
MaySubmit c (Some kind) = is_shut (volume_at c.volumes (volume_in (Some kind))) ≡ false

-- an update is looked at by a monitor that lives, where a round could begin
pub record MayTakeUpdates (S : Setting) (c : Control) : Type 0 where
  pub life : c.round.life ≡ Lives
  pub target : has_target S c.round ≡ true

-- a change may come behind these, in a turn that began with this control state
abbrev pub Leans : Setting → Control → Link → Change → Type 0
Leans S begun link (StateGoes v ToPending) = HasAsked S v link
Leans S begun link (StateGoes v ToActiveAgain) = HasAsked S v link
Leans S begun link (PassMoves v slots pass (OpensAt row)) = MayOpen v row link
Leans S begun link (PassMoves v slots pass (Reaches unit)) = link ≡ BehindEnd
Leans S begun link (PassMoves v slots pass Closes) = link ≡ BehindEnd
Leans S begun link (SpareBegins d m) = (link ≡ BehindApplied) × IsToBeAdded S d
Leans S begun link (ManagerMoves new (Applies n)) = (link ≡ First) × MayTakeUpdates S begun
Leans S begun link (ManagerMoves new (Declines n kind)) = (link ≡ First) × MayTakeUpdates S begun
Leans S begun link (ClientMoves k new (Submits i)) = (link ≡ First) × MaySubmit begun (kind_at S.asked.ops i)
Leans S begun link (ClientMoves k new IsSilent) = IsOwn k link
Leans S begun link (ClientMoves k new (Acknowledges i answer)) =
    IsOwn k link × IsAnswerOf S.start answer (kind_at S.asked.ops i)
Leans S begun link _ = IsSettled link

-- each change of a turn leans on those before it, and none is left to come
abbrev pub Chain : Setting → Control → Link → List Change → Type 0
Chain S begun link [] = IsSettled link
Chain S begun link (a ∷ more) = Leans S begun link a × Chain S begun (link_after link a) more

-- a call comes only with the first change
abbrev pub IsFirst : Link → Option Call → Type 0
IsFirst link None = ⊤
IsFirst link (Some call) = link ≡ First
