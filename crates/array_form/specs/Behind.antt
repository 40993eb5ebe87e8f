-- What a change of a turn stands behind: the control state that the turn began with, the change right before it, and
-- the changes that are still to come. A law that counts asks for it, where an effect alone doesn't say that it comes
-- once. Source: this project's own, over the order in which mdadm's monitor.c and managemon.c act.
use Rattle.std.specs.Prelude.{⊤, ◌≡◌, ℕ, ◌+◌, ◌*◌, ◌<◌, ◌&&◌, nat_lt, Bool, true, false, List, [], ◌∷◌, Option, Some, None, ◌⊎◌}
use Rattle.units.specs.declared.bounds.TheConstants.{UNIT_ROWS}
use Rattle.array_model.specs.declared.journal.DeclinedKind.{DeclinedKind}
use Rattle.array_model.specs.Blocks.{Laid}
use Rattle.array_machine.specs.Setting.{Setting, Edit}
use Rattle.array_machine.specs.States.{ToReady, ToPending}
use Rattle.array_machine.specs.Volumes.{Slot, Pass, volume_at}
use Rattle.array_machine.specs.Operations.{volume_of, is_write}
use Rattle.array_machine.specs.Clients.{Client}
use Rattle.array_machine.specs.Rounds.{Phase, Rest, Going, has_target}
use Rattle.array_machine.specs.Managers.{IsApplied, IsSettled, Want, Update, Manager}
use Rattle.array_machine.specs.Control.{Control}
use Rattle.array_machine.specs.Changes.{Change, RoundBegins, SpareBegins, RoundEnds, StateGoes, ClientMoves, PassMoves, ManagerMoves, Submits, PassWord, GoesOnQuietly, OpensAt, Reaches, Closes, UpdateWord, SaysNothing, Posts, Applies, Declines}
use Rattle.array_machine.specs.Puts.{put}
use Rattle.array_machine.specs.RoundEnds.{all_in_sync, has_other, seated, pass_from, all_runs, volumes_ended}
use Rattle.array_machine.specs.Updates.{Verdict, Refuses, EditsBook, WritesSpare, verdict_of, taken, applied_block}
use Rattle.array_machine.specs.MonitorTurns.{Nothing, deed_of, is_due, next_block}
use Rattle.array_machine.specs.ManagerTurns.{first_unposted, to_post, posted_with}
use Rattle.array_paths.specs.PassMove.{slots_of}

-- PASSES

abbrev pub is_loud : PassWord → Bool
is_loud GoesOnQuietly = false
is_loud (OpensAt row) = true
is_loud (Reaches unit) = true
is_loud Closes = true

-- behind this change the end of a round may still tell what became of volume v's pass: volumes come in their order
abbrev pub awaits : (v : ℕ) → Option Change → Bool
awaits v (Some (RoundEnds m)) = true
awaits v (Some (PassMoves w slots pass word)) = is_loud word && nat_lt w v
awaits v _ = false

-- a round or a spare's write goes on
abbrev pub goes_on : Phase → Bool
goes_on Rest = false
goes_on (Going aim m step left late done) = true

module _ (S : Setting) (b c : Control) (prev : Option Change) (v : ℕ) where
  -- the volume was just made ready, and the book has its pass open
  pub record OpensReady (slots : List Slot) (new : Option Pass) (row : ℕ) : Type 0 where
    pub behind : prev ≡ Some (StateGoes v ToReady)
    pub rested : b.round.phase ≡ Rest
    pub kind : ℕ
    pub open_in_book : S.start.words.pass c.round.book v ≡ Some kind
    pub slots_are : slots ≡ slots_of c v
    pub new_is : new ≡ Some (pass_from (S.start.words.unit c.round.book v))
    pub row_is : row ≡ S.start.words.unit c.round.book v * UNIT_ROWS

  -- the round that just ended gives slots of the volume to other disks
  pub record OpensSeated (slots : List Slot) (new : Option Pass) (row : ℕ) : Type 0 where
    pub behind : awaits v prev ≡ true
    pub went_on : goes_on b.round.phase ≡ true
    pub other : has_other S (S.start.words.slots c.round.last v) (slots_of c v) ≡ true
    pub slots_are : slots ≡ seated S (S.start.words.slots c.round.last v) (slots_of c v)
    pub new_is : new ≡ Some (pass_from 0)
    pub row_is : row ≡ 0

  -- the round that just ended gives no slot of the volume to another disk, and the last one had its pass open
  pub record EndsOwn : Type 0 where
    pub behind : awaits v prev ≡ true
    pub went_on : goes_on b.round.phase ≡ true
    pub own : has_other S (S.start.words.slots c.round.last v) (slots_of c v) ≡ false
    pub kind : ℕ
    pub was_open : S.start.words.pass b.round.last v ≡ Some kind

  pub record ReachesUnit (slots : List Slot) (new : Option Pass) (unit : ℕ) : Type 0 where
    pub ends : EndsOwn
    pub kind : ℕ
    pub open_still : S.start.words.pass c.round.last v ≡ Some kind
    pub unit_is : unit ≡ S.start.words.unit c.round.last v
    pub above : S.start.words.unit b.round.last v < unit
    pub slots_are : slots ≡ slots_of c v
    pub new_is : new ≡ (volume_at c.volumes v).pass

  pub record ClosesPass (slots : List Slot) (new : Option Pass) : Type 0 where
    pub ends : EndsOwn
    pub closed : S.start.words.pass c.round.last v ≡ None
    pub slots_are : slots ≡ all_in_sync c.round.faults (slots_of c v)
    pub new_is : new ≡ None

  abbrev pub PassBehind : List Slot → Option Pass → PassWord → Type 0
  PassBehind slots new GoesOnQuietly = ⊤
  PassBehind slots new (OpensAt row) = OpensReady slots new row ⊎ OpensSeated slots new row
  PassBehind slots new (Reaches unit) = ReachesUnit slots new unit
  PassBehind slots new Closes = ClosesPass slots new

-- UPDATES

-- the generation of the book behind an update with this verdict
abbrev pub applied_by : Setting → Control → Verdict → Option ℕ
applied_by S b (Refuses kind) = b.manager.applied
applied_by S b (EditsBook edits) = Some (b.round.note + 1)
applied_by S b (WritesSpare d) = Some (S.start.words.generation b.round.book.anchor)

-- what begins right behind it
abbrev pub begins_by : Setting → Control → Verdict → List Change
begins_by S b (Refuses kind) = []
begins_by S b (EditsBook edits) = RoundBegins (applied_block S b edits) ∷ []
begins_by S b (WritesSpare d) = SpareBegins d (S.spare b.round.book d) ∷ []

abbrev pub IsAccepted : Verdict → Type 0
IsAccepted (Refuses kind) = ⊥
IsAccepted (EditsBook edits) = ⊤
IsAccepted (WritesSpare d) = ⊤

module _ (S : Setting) (b : Control) where
  -- the manager posts what is to be posted
  pub record PostsNext (new : Manager) (n : ℕ) : Type 0 where
    pub want : Want
    pub due : to_post S b (first_unposted 0 b.manager.asks) b.manager.queue ≡ Some want
    pub new_is : new ≡ posted_with S b want
    pub number : n ≡ b.manager.posted

  -- the monitor has nothing else to do and a target, and takes the first update
  pub record TakesFirst (n : ℕ) : Type 0 where
    pub update : Update
    pub rest : List Update
    pub first : b.manager.queue ≡ update ∷ rest
    pub number : n ≡ update.number
    pub free : deed_of S b ≡ Nothing
    pub target : has_target S b.round ≡ true

  pub record DeclinesFirst (new : Manager) (n : ℕ) (kind : DeclinedKind) : Type 0 where
    pub takes : TakesFirst n
    pub verdict_is : verdict_of S b takes.update.seen takes.update.want ≡ Refuses kind
    pub new_is : new ≡ taken b.manager takes.update takes.rest IsSettled b.manager.applied

  -- of a box that is taken back nothing is said
  pub record TakesBack (new : Manager) : Type 0 where
    pub returned : ℕ
    pub new_is : new ≡ record b.manager { returned = returned }

  -- it applies it, and what is due by that begins at once
  pub record AppliesFirst (more : List Change) (new : Manager) (n : ℕ) : Type 0 where
    pub takes : TakesFirst n
    pub verdict : Verdict
    pub verdict_is : verdict_of S b takes.update.seen takes.update.want ≡ verdict
    pub accepted : IsAccepted verdict
    pub new_is : new ≡ taken b.manager takes.update takes.rest IsApplied (applied_by S b verdict)
    pub then_begins : more ≡ begins_by S b verdict

  abbrev pub WordBehind : List Change → Manager → UpdateWord → Type 0
  WordBehind more new SaysNothing = TakesBack new
  WordBehind more new (Posts n) = PostsNext new n
  WordBehind more new (Applies n) = AppliesFirst more new n
  WordBehind more new (Declines n kind) = DeclinesFirst new n kind

-- ROUNDS AND STATES

module _ (S : Setting) (b c : Control) (prev : Option Change) where
  -- right behind its update
  pub record BehindUpdate (verdict : Verdict) : Type 0 where
    pub new : Manager
    pub number : ℕ
    pub behind : prev ≡ Some (ManagerMoves new (Applies number))
    pub now : c ≡ put S (ManagerMoves new (Applies number)) b
    pub takes : TakesFirst S b number
    pub verdict_is : verdict_of S b takes.update.seen takes.update.want ≡ verdict

  -- something is due in the book, and the turn did nothing before
  pub record BeginsDue (m : Laid) : Type 0 where
    pub now : c ≡ b
    pub due : is_due S b ≡ true
    pub block : m ≡ next_block S b

  pub record BeginsUpdate (m : Laid) : Type 0 where
    pub edits : List Edit
    pub update : BehindUpdate (EditsBook edits)
    pub block : m ≡ applied_block S b edits

  -- no round has ended in the turn, and behind this end comes what becomes of the passes
  pub record EndsLast (m : Laid) (more : List Change) : Type 0 where
    pub went_on : goes_on b.round.phase ≡ true
    pub last : c.round.last ≡ b.round.last
    pub then_passes : more ≡ all_runs (volumes_ended S c.round.faults c.round.last m 0 c.volumes)

  -- right behind the submit of a write to the volume
  pub record WaitsBehind (v : ℕ) : Type 0 where
    pub client : ℕ
    pub new : Client
    pub op : ℕ
    pub behind : prev ≡ Some (ClientMoves client new (Submits op))
    pub writes : is_write S op ≡ true
    pub on : volume_of S op ≡ v

-- ALL CHANGES

abbrev pub Behind : Setting → (b c : Control) → Option Change → List Change → Change → Type 0
Behind S b c prev more (RoundBegins m) = BeginsDue S b c prev m ⊎ BeginsUpdate S b c prev m
Behind S b c prev more (SpareBegins d m) = BehindUpdate S b c prev (WritesSpare d)
Behind S b c prev more (RoundEnds m) = EndsLast S b c prev m more
Behind S b c prev more (StateGoes v ToPending) = WaitsBehind S b c prev v
Behind S b c prev more (PassMoves v slots new word) = PassBehind S b c prev v slots new word
Behind S b c prev more (ManagerMoves new word) = (c ≡ b) × WordBehind S b more new word
Behind S b c prev more _ = ⊤

-- the changes of a turn, one behind the other
abbrev pub AllBehind : Setting → (b c : Control) → Option Change → List Change → Type 0
AllBehind S b c prev [] = ⊤
AllBehind S b c prev (a ∷ more) = Behind S b c prev more a × AllBehind S b (put S a c) (Some a) more
