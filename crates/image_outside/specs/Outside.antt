-- What the outside tells: bytes that are left or were written, and the calls on disks. Source: this project's own.
use Rattle.std.specs.Prelude.{◌≡◌, ◌≢◌, ℕ, List, ◌++◌, length, All, Option, Some, IfSome, []}
use Rattle.units.specs.declared.disk.Serial.{Serial}
use Rattle.member_bank.specs.Faults.{Rose}

-- bytes that are told after a call were told before it, and have these bytes at their end
abbrev pub Adds : Option (List ℕ) → Option (List ℕ) → List ℕ → Type 0
Adds old new bytes =
    (now : List ℕ) → new ≡ Some now → (before : List ℕ) × (old ≡ Some before) × (now ≡ before ++ bytes)

-- a write failed before all of these bytes were added: some first of them were
pub record BreaksOff (old new : Option (List ℕ)) (before now : ℕ) (bytes : List ℕ) : Type 0 where
  pub front : List ℕ
  pub rest : List ℕ
  pub are : bytes ≡ front ++ rest
  pub adds : Adds old new front
  pub cause : Rose before now

-- bytes that are told to be left after a call were left before it, behind these
abbrev pub Takes : Option (List ℕ) → Option (List ℕ) → List ℕ → Type 0
Takes old new bytes = (now : List ℕ) → new ≡ Some now → old ≡ Some (bytes ++ now)

-- no byte is left, where that is told
abbrev pub IsAtEnd : Option (List ℕ) → Type 0
IsAtEnd left = IfSome left (λ bytes. bytes ≡ [])

-- what was told to be left was read to its end, and is these bytes
abbrev pub TakesAll : Option (List ℕ) → Option (List ℕ) → List ℕ → Type 0
TakesAll old new bytes = (now : List ℕ) → new ≡ Some now → (old ≡ Some bytes) × (now ≡ [])

-- so many first bytes of what was left were read
pub record TakesFront (old new : Option (List ℕ)) (count : ℕ) : Type 0 where
  pub front : List ℕ
  pub counted : length front ≡ count
  pub takes : Takes old new front

-- no disk has this serial
abbrev pub IsNew : Serial → List Serial → Type 0
IsNew serial serials = All (λ s. s ≢ serial) serials
