-- What a bank tells, before and after a call. A bank may stop telling, and never begins anew. Source: this project's
-- own.
use Rattle.std.specs.Prelude.{◌≡◌, ℕ, ◌≤◌, Bool, true, List, [], ◌∷◌, ◌++◌, length, Option, Some, None, ⊤}
use Rattle.units.specs.declared.disk.Sector.{Sector}
use Rattle.device_log.specs.Log.{Call, Write}
use Rattle.device_log.specs.Cells.{Stands}

-- what is told after a call was told before it, and is the same
abbrev pub Keeps : {T : Type 0} → Option T → Option T → Type 0
Keeps {T} old new = (told : T) → new ≡ Some told → old ≡ Some told

-- a log that is told after a call was told before it, and has that call at its end
abbrev pub Logs : Option (List Call) → Option (List Call) → Call → Type 0
Logs old new call =
    (now : List Call) → new ≡ Some now → (before : List Call) × (old ≡ Some before) × (now ≡ before ++ call ∷ [])

-- the same for a run of calls
abbrev pub LogsAll : Option (List Call) → Option (List Call) → List Call → Type 0
LogsAll old new calls =
    (now : List Call) → new ≡ Some now → (before : List Call) × (old ≡ Some before) × (now ≡ before ++ calls)

-- a write of these sectors is logged, of which so many were stored: all where it went through
pub record LogsWrite (old new : Option (List Call)) (disk place : ℕ) (sectors : List Sector) (went : Bool)
    (stored : ℕ) : Type 0 where
  pub few : stored ≤ length sectors
  pub all : went ≡ true → stored ≡ length sectors
  pub logs : Logs old new (record { disk = disk; what = Write place sectors stored; went = went })

-- where opening and log are told, this sector stands there after the log
abbrev pub Gives : Option (List (List Sector)) → Option (List Call) → ℕ → ℕ → Sector → Type 0
Gives None log disk place s = ⊤
Gives (Some opening) None disk place s = ⊤
Gives (Some opening) (Some log) disk place s = Stands opening log disk place s
