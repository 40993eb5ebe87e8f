-- Moments of a run: so many calls were made, and so much of the journal was entered. Source: this project's own.
use Rattle.std.specs.Prelude.{◌≡◌, ℕ, ◌+◌, ◌≤◌, List, [], ◌∷◌, ◌++◌, length, take, ⊤}
use Rattle.std.specs.List.{AllByRecursion}
use Rattle.device_log.specs.Log.{Call}
use Rattle.array_model.specs.declared.journal.Entry.{Entry}

abbrev pub AllBelow : ℕ → List Entry → Type 0
AllBelow c journal = AllByRecursion (λ e. e.stamp ≤ c) journal

abbrev pub NoneBelow : ℕ → List Entry → Type 0
NoneBelow c journal = AllByRecursion (λ e. c ≤ e.stamp) journal

-- c calls, and a front of the journal that holds each entry stamped below c and none stamped above c
pub record IsMoment (log : List Call) (journal : List Entry) (c : ℕ) (front rest : List Entry) : Type 0 where
  pub parts : journal ≡ front ++ rest
  pub calls : c ≤ length log
  pub none_above : AllBelow c front
  pub all_below : NoneBelow c rest

-- it holds at each moment, of the calls made and of the journal entered by then
abbrev pub Always : (List Call → List Entry → Type 0) → List Call → List Entry → Type 0
Always P log journal = (c : ℕ) (front rest : List Entry) → IsMoment log journal c front rest → P (take c log) front

-- it holds of each call, and of how many were made before it
abbrev pub EachCallFrom : (ℕ → Call → Type 0) → ℕ → List Call → Type 0
EachCallFrom P k [] = ⊤
EachCallFrom P k (call ∷ log) = P k call × EachCallFrom P (k + 1) log

abbrev pub EachCall : (ℕ → Call → Type 0) → List Call → Type 0
EachCall P log = EachCallFrom P 0 log
