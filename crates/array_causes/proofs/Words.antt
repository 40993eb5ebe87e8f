-- What is said with a change, case by case, and a volume that is set in its list.
use Rattle.std.proofs.Common.{◌≡◌, ℕ, zero, suc, ◌||◌, Bool, true, false, List, [], ◌∷◌, refl, ap, slice_set}
use Rattle.array_model.specs.declared.journal.Answer.{Answer}
use Rattle.array_model.specs.declared.journal.DeclinedKind.{DeclinedKind}
use Rattle.array_machine.specs.States.{StateWord, ToReady, ToPending, ToActive, ToActiveAgain, ToIdle, ToClean}
use Rattle.array_machine.specs.Volumes.{Volume, no_volume, volume_at}
use Rattle.array_machine.specs.Changes.{ClientWord, IsSilent, Submits, Acknowledges, PassWord, GoesOnQuietly, OpensAt, Reaches, Closes, UpdateWord, SaysNothing, Posts, Applies, Declines}

-- WORDS

pub each_state : (P : StateWord → Type 0) → P ToReady → P ToPending → P ToActive → P ToActiveAgain → P ToIdle
    → P ToClean → (word : StateWord) → P word
each_state P ready pending active again idle clean ToReady = ready
each_state P ready pending active again idle clean ToPending = pending
each_state P ready pending active again idle clean ToActive = active
each_state P ready pending active again idle clean ToActiveAgain = again
each_state P ready pending active again idle clean ToIdle = idle
each_state P ready pending active again idle clean ToClean = clean

pub each_client : (P : ClientWord → Type 0) → P IsSilent → ((i : ℕ) → P (Submits i))
    → ((i : ℕ) (answer : Answer) → P (Acknowledges i answer)) → (word : ClientWord) → P word
each_client P silent submits acks IsSilent = silent
each_client P silent submits acks (Submits i) = submits i
each_client P silent submits acks (Acknowledges i answer) = acks i answer

pub each_pass : (P : PassWord → Type 0) → P GoesOnQuietly → ((row : ℕ) → P (OpensAt row))
    → ((unit : ℕ) → P (Reaches unit)) → P Closes → (word : PassWord) → P word
each_pass P quiet opens reaches closes GoesOnQuietly = quiet
each_pass P quiet opens reaches closes (OpensAt row) = opens row
each_pass P quiet opens reaches closes (Reaches unit) = reaches unit
each_pass P quiet opens reaches closes Closes = closes

pub each_update : (P : UpdateWord → Type 0) → P SaysNothing → ((n : ℕ) → P (Posts n)) → ((n : ℕ) → P (Applies n))
    → ((n : ℕ) (kind : DeclinedKind) → P (Declines n kind)) → (word : UpdateWord) → P word
each_update P nothing posts applies declines SaysNothing = nothing
each_update P nothing posts applies declines (Posts n) = posts n
each_update P nothing posts applies declines (Applies n) = applies n
each_update P nothing posts applies declines (Declines n kind) = declines n kind

-- VOLUMES

-- a volume that is set in the list keeps what the new one has of the old one
pub field_kept : {X : Type 0} (f : Volume → X) (volumes : List Volume) (v : ℕ) (x : Volume) → f x ≡ f
    (volume_at volumes v)
    → (u : ℕ) → f (volume_at (slice_set volumes v x) u) ≡ f (volume_at volumes u)
field_kept f [] v x same u = refl
field_kept f (y ∷ ys) zero x same zero = same
field_kept f (y ∷ ys) zero x same (suc u) = refl
field_kept f (y ∷ ys) (suc v) x same zero = refl
field_kept f (y ∷ ys) (suc v) x same (suc u) = field_kept f ys v x same u

-- a volume of the list that is set has what it was set to, and the others stay
pub set_there : (volumes : List Volume) (v : ℕ) (x : Volume) → (volume_at volumes v ≡ no_volume → ⊥)
    → volume_at (slice_set volumes v x) v ≡ x
set_there [] v x there = absurd (there refl)
set_there (y ∷ ys) zero x there = refl
set_there (y ∷ ys) (suc v) x there = set_there ys v x there

pub set_elsewhere : (volumes : List Volume) (v : ℕ) (x : Volume) (u : ℕ) → (v ≡ u → ⊥)
    → volume_at (slice_set volumes v x) u ≡ volume_at volumes u
set_elsewhere [] v x u other = refl
set_elsewhere (y ∷ ys) zero x zero other = absurd (other refl)
set_elsewhere (y ∷ ys) zero x (suc u) other = refl
set_elsewhere (y ∷ ys) (suc v) x zero other = refl
set_elsewhere (y ∷ ys) (suc v) x (suc u) other = set_elsewhere ys v x u (λ e. other (ap suc e))

-- a clause that nothing adds to
pub or_nothing : (b : Bool) → (b || false) ≡ b
or_nothing true = refl
or_nothing false = refl
