-- What tests say that came out true, and turns that make their call only where the disk may be called.
use Rattle.std.proofs.Common.{◌≡◌, ℕ, not, nat_lt, Bool, true, false, refl, arith}
use Rattle.std.proofs.lemmas.Bool.Decides.{nat_tests}
use Rattle.std.proofs.lemmas.Bool.{and_parts}
use Rattle.array_machine.specs.Numbers.{has}
use Rattle.array_machine.specs.Setting.{Setting}
use Rattle.array_machine.specs.States.{State, IsReadonly, IsReadAuto, IsClean, IsPending, IsActive, IsIdle, is_readonly, is_pending, is_active, is_idle}
use Rattle.array_machine.specs.Volumes.{volume_at}
use Rattle.array_machine.specs.Control.{Control}
use Rattle.array_machine.specs.EditFacts.{is_sound}
use Rattle.array_machine.specs.Turns.{Turn, no_call, may_call, call_if}
use Rattle.array_paths.specs.InTurn.{InTurn}
use Rattle.array_paths.specs.MayEdit.{Runs}
use Rattle.array_paths.specs.Comes.{MayFail}
use Rattle.array_paths.specs.Effects.{Path, ends_here}

-- TURNS

-- a turn is a path
abbrev pub PathOf : Setting → InTurn → Control → Turn → Type 0
PathOf S t c turn = Path S t c turn.call turn.ended turn.changes

-- TESTS

-- a test whose contrary came out true
pub is_false : (b : Bool) → not b ≡ true → b ≡ false
is_false true h = absurd cc
is_false false h = refl

-- the state that a test is of
pub readonly_is : (s : State) → is_readonly s ≡ true → s ≡ IsReadonly
readonly_is IsReadonly h = refl
readonly_is IsReadAuto h = absurd cc
readonly_is IsClean h = absurd cc
readonly_is IsPending h = absurd cc
readonly_is IsActive h = absurd cc
readonly_is IsIdle h = absurd cc

pub pending_is : (s : State) → is_pending s ≡ true → s ≡ IsPending
pending_is IsReadonly h = absurd cc
pending_is IsReadAuto h = absurd cc
pending_is IsClean h = absurd cc
pending_is IsPending h = refl
pending_is IsActive h = absurd cc
pending_is IsIdle h = absurd cc

pub active_is : (s : State) → is_active s ≡ true → s ≡ IsActive
active_is IsReadonly h = absurd cc
active_is IsReadAuto h = absurd cc
active_is IsClean h = absurd cc
active_is IsPending h = absurd cc
active_is IsActive h = refl
active_is IsIdle h = absurd cc

pub idle_is : (s : State) → is_idle s ≡ true → s ≡ IsIdle
idle_is IsReadonly h = absurd cc
idle_is IsReadAuto h = absurd cc
idle_is IsClean h = absurd cc
idle_is IsPending h = absurd cc
idle_is IsActive h = absurd cc
idle_is IsIdle h = refl

-- a sound volume runs
pub sound_runs : (c : Control) (v : ℕ) → is_sound (volume_at c.volumes v) ≡ true → Runs c v
sound_runs c v h =
    let both = and_parts (volume_at c.volumes v).started (not (volume_at c.volumes v).broken) h in
    record { started = both.0; sound = is_false (volume_at c.volumes v).broken both.1 }

-- CALLS

-- a disk that may be called may fail
pub may_fail : (S : Setting) (c : Control) (d : ℕ) → may_call S c.round d ≡ true → MayFail S c d
may_fail S c d h =
    let both = and_parts (nat_lt d S.start.disks.count) (not (has d c.round.faults)) h in
    let lt = both.0 in
    record { there = grind (arith, nat_tests, lt); sound = is_false (has d c.round.faults) both.1 }

-- a turn with a call on disk d, where that may be called
pub call_path : (S : Setting) (t : InTurn) (c : Control) (d : ℕ) (turn : Turn) → (MayFail S c d → PathOf S t c turn)
    → PathOf S t c (call_if (may_call S c.round d) turn)
call_path S t c d turn go = at (may_call S c.round d) refl
  where
    at : (b : Bool) → may_call S c.round d ≡ b → PathOf S t c (call_if b turn)
    at false is = ends_here no_call
    at true is = go (may_fail S c d is)
