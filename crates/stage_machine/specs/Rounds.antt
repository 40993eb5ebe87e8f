-- The machine's rounds: new metadata goes to each target, anchor and sync, one call a turn. Source: super-intel.c
-- (write_super_imsm) for what is written; one call a turn is this project's own.
use Rattle.std.specs.Prelude.{ℕ, ◌+◌, Bool, true, List, [], ◌∷◌, Option, Some, None, if◌then◌else◌}
use Rattle.units.specs.Places.{anchor_place}
use Rattle.device_log.specs.Log.{Call, What, Write, Sync}
use Rattle.array_model.specs.declared.journal.Event.{Event}
use Rattle.array_model.specs.declared.journal.Event.TheVariants.{Begin, End}
use Rattle.array_model.specs.Blocks.{Laid}
use Rattle.stage_machine.specs.Setting.{Setting}

-- the first target that is left has this call next
pub data Step : Type 0 where
  AtAnchor : Step
  AtSync : Step

-- no round, or the round of a block with the targets that are left
pub data Phase : Type 0 where
  Rest : Phase
  Going : (m : Laid) → (step : Step) → (left : List ℕ) → Phase

-- The book, which rounds are edited from; the block of the last finished round, the newest at opening before the first;
-- the highest generation begun; whether a round has ended; the targets that work; and the round that is going on.
pub record Round : Type 0 where
  pub book : Laid
  pub last : Laid
  pub note : ℕ
  pub started : Bool
  pub working : List ℕ
  pub phase : Phase

-- how a call ended: gone through, or not with so many of its sectors stored
pub record Ended : Type 0 where
  pub went : Bool
  pub stored : ℕ

abbrev pub stored_of : Ended → ℕ → ℕ
stored_of x n = if x.went then n else x.stored

abbrev pub what_of : Setting → Ended → Laid → Step → ℕ → What
what_of S x m AtAnchor d = Write (anchor_place (S.start.disks.sectors d)) (m.anchor ∷ []) (stored_of x 1)
what_of S x m AtSync d = Sync

-- the round's next call
abbrev pub round_call : Setting → Ended → Phase → Option Call
round_call S x Rest = None
round_call S x (Going m step []) = None
round_call S x (Going m step (d ∷ ds)) = Some (record { disk = d; what = what_of S x m step d; went = x.went })

pub record Rounded : Type 0 where
  pub round : Round
  pub events : List Event

-- the next target, or the round's end
abbrev pub to_next : Setting → Round → Laid → List ℕ → Rounded
to_next S r m [] = record {
  round = record r { book = m; last = m; started = true; phase = Rest };
  events = End (S.start.words.generation m.anchor) ∷ [];
}
to_next S r m (d ∷ ds) = record { round = record r { phase = Going m AtAnchor (d ∷ ds) }; events = [] }

-- the call of the first target went through
abbrev pub step_on : Setting → Round → Laid → Step → ℕ → List ℕ → Rounded
step_on S r m AtAnchor d ds = record { round = record r { phase = Going m AtSync (d ∷ ds) }; events = [] }
step_on S r m AtSync d ds = to_next S r m ds

abbrev pub begin_with : Round → Laid → List ℕ → Rounded
begin_with r m [] = record { round = r; events = [] }
begin_with r m (d ∷ ds) = record {
  round = record r { note = r.note + 1; phase = Going m AtAnchor (d ∷ ds) };
  events = Begin (r.note + 1) ∷ [];
}

-- a round begins where a target exists; its generation is one more than the highest begun
abbrev pub begin : Setting → Round → Bool → Rounded
begin S r dirty = begin_with r (S.renew r.book (r.note + 1) dirty) r.working
