-- A round from one step to the next, by the targets that are left.
use Rattle.std.proofs.Common.{◌≡◌, ℕ, ◌+◌, ◌<◌, List, [], ◌∷◌, length, drop, refl}
use Rattle.units.specs.declared.disk.DiskNo.{DiskNo}
use Rattle.array_model.specs.declared.journal.Event.TheVariants.{Begin}
use Rattle.array_model.specs.Blocks.{Laid}
use Rattle.stage_machine.specs.Setting.{Setting}
use Rattle.stage_machine.specs.Rounds as machine
use Rattle.control_state.specs.Rounds.{gone}
use Rattle.control_state.specs.Seen.{numbers}
use Rattle.control_state.proofs.Members.{some_left}

pub begin_some : (r : machine.Round) (m : Laid) (left : List ℕ) (d : ℕ) (ds : List ℕ) → left ≡ d ∷ ds
    → record { round = record r { note = r.note + 1; phase = machine.Going m machine.AtAnchor left }; events = Begin (r.note + 1) ∷ [] } ≡ machine.begin_with r m left
begin_some r m left d ds is = rw is refl

pub begin_none : (r : machine.Round) (m : Laid) (left : List ℕ) → left ≡ [] → record { round = r; events = [] } ≡ machine.begin_with r m left
begin_none r m left is = rw is refl

pub next_some : (S : Setting) (r : machine.Round) (m : Laid) (disks : List DiskNo) (at : ℕ) → at < length disks
    → record { round = record r { phase = machine.Going m machine.AtAnchor (drop at (numbers disks)) }; events = [] } ≡ machine.to_next S r m (drop at (numbers disks))
next_some S r m disks at below = let some = some_left disks at below in rw (some.2) refl

pub gone_anchor : (S : Setting) (r : machine.Round) (m : Laid) (left : List ℕ) (d : ℕ) (ds : List ℕ) → left ≡ d ∷ ds
    → record { round = record r { phase = machine.Going m machine.AtSync left }; events = [] } ≡ gone S r (machine.Going m machine.AtAnchor left)
gone_anchor S r m left d ds is = rw is refl

pub gone_sync : (S : Setting) (r : machine.Round) (m : Laid) (left : List ℕ) (d : ℕ) (ds : List ℕ) → left ≡ d ∷ ds → machine.to_next S r m ds ≡ gone S r (machine.Going m machine.AtSync left)
gone_sync S r m left d ds is = rw is refl

pub gone_none : (S : Setting) (r : machine.Round) (m : Laid) (step : machine.Step) (left : List ℕ) → left ≡ [] → record { round = r; events = [] } ≡ gone S r (machine.Going m step left)
gone_none S r m step left is = rw is refl
