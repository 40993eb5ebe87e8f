-- Turns of a script, one after the other. Source: this project's own.
use Rattle.std.specs.Prelude.{◌≡◌, ℕ, zero, suc, List, [], ◌∷◌, ◌++◌, ⊤}
use Rattle.units.specs.declared.disk.Sector.{Sector}
use Rattle.array_model.specs.declared.script.Turn.{Turn}
use Rattle.array_model.specs.declared.script.Turn.TheVariants as turns
use Rattle.stage_machine.specs.Rounds.{Ended}
use Rattle.stage_machine.specs.Machine.{Monitors, Asks, Quiets}
use Rattle.stage.specs.declared.ends.DriveEnd.{DriveEnd}
use Rattle.stage.specs.declared.ends.DriveEnd.TheVariants.{Over, Full, Member}
use Rattle.stage.specs.declared.turned.Turned.{Turned}
use Rattle.stage.specs.declared.turned.Turned.TheVariants.{Moved, Idle, JournalFull, Member as Failed}
use Rattle.stage.specs.Stages.{Seen, Answered}

-- a turn in which there is nothing to do yet
abbrev pub Passes : {B : Type 0} → Seen B → Seen B → Turned → Type 0
Passes {B} a b r = (b ≡ a) × (r ≡ Idle)

-- a quiet time of the one volume; there is no other
abbrev pub QuietMade : {B : Type 0} → Seen B → Seen B → ℕ → Turned → Type 0
QuietMade {B} a b zero r = Answered a b Quiets r
QuietMade {B} a b (suc v) r = Passes a b r

-- how a turn of a script leads from a to b, and is answered
abbrev pub TurnMade : {B : Type 0} → Seen B → Seen B → Turn → Turned → Type 0
TurnMade {B} a b turns.Monitor r = (x : Ended) × Answered a b (Monitors x) r
TurnMade {B} a b turns.Manager r = Passes a b r
TurnMade {B} a b (turns.Sync v) r = Passes a b r
TurnMade {B} a b (turns.Client k) r = (x : Ended) × (got : Sector) × Answered a b (Asks k x got) r
TurnMade {B} a b (turns.Quiet v) r = QuietMade a b v.0 r
TurnMade {B} a b (turns.Fail d) r = Passes a b r
TurnMade {B} a b turns.Kill r = Passes a b r
TurnMade {B} a b turns.Takeover r = Passes a b r

-- an answer that ends no drive
abbrev pub GoesOn : Turned → Type 0
GoesOn Moved = ⊤
GoesOn Idle = ⊤
GoesOn JournalFull = ⊥
GoesOn (Failed d) = ⊥

-- each of these turns was made, in their order, and none of them ended the drive
abbrev pub MadeAll : {B : Type 0} → Seen B → List Turn → Seen B → Type 0
MadeAll {B} a [] b = b ≡ a
MadeAll {B} a (t ∷ ts) b = (c : Seen B) × (r : Turned) × TurnMade a c t r × GoesOn r × MadeAll c ts b

-- the turns up to one were made, and that one was answered so
pub record Stopped {B : Type 0} (a : Seen B) (turns : List Turn) (b : Seen B) (r : Turned) : Type 0 where
  pub made : List Turn
  pub last : Turn
  pub left : List Turn
  pub order : turns ≡ made ++ last ∷ left
  pub before : Seen B
  pub goes : MadeAll a made before
  pub stops : TurnMade before b last r

-- what a drive made of its turns: all, or those up to one that ended it
abbrev pub Drove : {B : Type 0} → Seen B → List Turn → Seen B → DriveEnd → Type 0
Drove {B} a turns b Over = MadeAll a turns b
Drove {B} a turns b Full = Stopped a turns b JournalFull
Drove {B} a turns b (Member d) = Stopped a turns b (Failed d)
