-- The bank that a shelf holds, as its disks are opened. Source: this project's own.
use Rattle.std.specs.Prelude.{◌≡◌, ℕ, ◌<◌, List, [], ◌∷◌, ◌++◌, length, Option, Some, IfSome}
use Rattle.units.specs.declared.disk.Sector.{Sector}
use Rattle.units.specs.declared.disk.Serial.{Serial}
use Rattle.member_bank.specs.Told.{Keeps}
use Rattle.image_outside.specs.Told.{BankTold}
use Rattle.device_log.specs.Log.{OnlyReads}

-- nothing but reads was made of a bank's disks, where it tells its log
abbrev pub HasOnlyReads : BankTold → Type 0
HasOnlyReads bank = IfSome bank.log OnlyReads

-- no call was made, where the bank tells its log
abbrev pub IsUncalled : BankTold → Type 0
IsUncalled bank = IfSome bank.log (λ calls. calls ≡ [])

-- what the new disk held, behind what the others did
abbrev pub OpensMore : Option (List (List Sector)) → Option (List (List Sector)) → Type 0
OpensMore old new =
    (now : List (List Sector)) → new ≡ Some now
    → (before : List (List Sector)) × (disk : List Sector) × (old ≡ Some before) × (now ≡ before ++ disk ∷ [])

-- The bank has one disk more, at the end, with this serial and of some size, on which no call has failed. Opening a
-- disk logs nothing, and leaves the others as they are.
pub record HasOneMore (serial : Serial) (old new : BankTold) : Type 0 where
  pub named : new.serials ≡ old.serials ++ serial ∷ []
  pub sized : (sectors : ℕ) × (new.sizes ≡ old.sizes ++ sectors ∷ [])
  pub opened : OpensMore old.opening new.opening
  pub logged : Keeps old.log new.log
  pub counted : (d : ℕ) → d < length old.serials → new.faults d ≡ old.faults d
  pub sound : new.faults (length old.serials) ≡ 0

-- a bank on which nothing was opened: it has no disks, and made no call
pub record IsUnused (bank : BankTold) : Type 0 where
  pub empty : bank.serials ≡ []
  pub fresh : IsUncalled bank

-- a bank of these disks, which made no call, and on which none has failed
pub record IsFresh (names : List Serial) (bank : BankTold) : Type 0 where
  pub named : bank.serials ≡ names
  pub fresh : IsUncalled bank
  pub sound : (d : ℕ) → d < length bank.serials → bank.faults d ≡ 0
