-- How often each kind of entry comes in a journal, and what stands before it. Source: this project's own; the units of
-- a checkpoint are those of super-intel.c (curr_migr_unit).
use Rattle.std.specs.Prelude.{◌≡◌, ℕ, zero, suc, ◌+◌, ◌*◌, ◌/◌, ◌%◌, ◌<◌, ◌≤◌, ◌==◌, ◌||◌, ◌&&◌, Bool, true, List, [], ◌∷◌, length, Option, Some, None, is_some, IfSome, if◌then◌else◌, ⊤, ◌⊎◌}
use Rattle.std.specs.List.{list_any, last_or, range_with_len}
use Rattle.units.specs.declared.bounds.TheConstants.{UNIT_ROWS}
use Rattle.array_model.specs.declared.script.Op.{Op}
use Rattle.array_model.specs.declared.journal.Entry.{Entry}
use Rattle.array_model.specs.declared.journal.Event.{Event}
use Rattle.array_model.specs.declared.journal.Event.TheVariants.{Pass, Point, Pending, Takeover}
use Rattle.array_model.specs.Script.{Asked, is_add}
use Rattle.array_model.specs.Events.{AtEach, has, count, is_begin, is_end, is_spare, is_ready, is_any_ready, is_pass, is_any_point, is_pass_end, is_any_pass_end, is_active, is_clean, is_any_clean, is_unblock, is_posted, is_applied, is_settled, is_applied_from, is_pending, is_any_pending, is_idle, is_fault, is_any_fault, is_kill, is_takeover, is_submit_in}
use Rattle.array_model.specs.Start.{Start}

-- PENDING

-- the entry before, of the same turn, submits a write to the volume
abbrev pub IsSubmitOf : List Op → ℕ → ℕ → Option Entry → Type 0
IsSubmitOf ops v stamp None = ⊥
IsSubmitOf ops v stamp (Some e) = (e.stamp ≡ stamp) × (is_submit_in ops v e.event ≡ true)

abbrev pub PendingAfter : List Op → List Entry → ℕ → Event → Type 0
PendingAfter ops front stamp (Pending v) = IsSubmitOf ops v.0 stamp (last_or None front)
PendingAfter ops front stamp _ = ⊤

-- PASSES AND POINTS

-- the first unit of the volume's last pass
abbrev pub first_at : ℕ → Option ℕ → Event → Option ℕ
first_at v first (Pass w row) = if w.0 == v then Some (row / UNIT_ROWS) else first
first_at v first _ = first

abbrev pub first_from : ℕ → Option ℕ → List Entry → Option ℕ
first_from v first [] = first
first_from v first (e ∷ es) = first_from v (first_at v first e.event) es

-- the unit of the volume's last point since its last pass and the last takeover
abbrev pub point_at : ℕ → Option ℕ → Event → Option ℕ
point_at v last (Pass w row) = if w.0 == v then None else last
point_at v last (Point w unit) = if w.0 == v then Some unit else last
point_at v last Takeover = None
point_at v last _ = last

abbrev pub point_from : ℕ → Option ℕ → List Entry → Option ℕ
point_from v last [] = last
point_from v last (e ∷ es) = point_from v (point_at v last e.event) es

pub record IsPoint (rows first : ℕ) (last : Option ℕ) (unit : ℕ) : Type 0 where
  pub below : UNIT_ROWS * unit < rows
  pub since : first ≤ unit
  pub step : (unit % 8 ≡ 0) ⊎ (unit ≡ first)
  pub rises : IfSome last (λ u. u < unit)

-- a point comes only after a pass
abbrev pub IsPointOf : ℕ → Option ℕ → Option ℕ → ℕ → Type 0
IsPointOf rows None last unit = ⊥
IsPointOf rows (Some first) last unit = IsPoint rows first last unit

-- The opening gives the volume a row to start at, or an activation was applied before: its number isn't below the
-- number of asks, since it is posted only where each ask was.
abbrev pub may_pass : Start → Asked → List Entry → ℕ → Bool
may_pass start asked front v = is_some (start.pass_from v) || has (is_applied_from (length asked.asks)) front

abbrev pub PassAfter : Start → Asked → List Entry → Event → Type 0
PassAfter start asked front (Pass v row) = may_pass start asked front v.0 ≡ true
PassAfter start asked front (Point v unit) =
    IsPointOf (start.words.shape start.newest v.0).rows (first_from v.0 None front) (point_from v.0 None front) unit
PassAfter start asked front _ = ⊤

-- COUNTS

pub record KeepsVolumeCounts (ops : List Op) (v : ℕ) (journal : List Entry) : Type 0 where
  pub ready : count (is_ready v) journal ≤ 1
  pub pending : count (is_pending v) journal ≤ count (is_submit_in ops v) journal
  pub active : count (is_active v) journal ≤ count (is_pending v) journal
  pub idle : count (is_idle v) journal ≤ count (is_submit_in ops v) journal
  pub clean : count (is_clean v) journal ≤ count (is_idle v) journal
  pub pass : count (is_pass v) journal ≤ count (is_ready v) journal + count is_applied journal
  pub pass_end : count (is_pass_end v) journal ≤ 1 + count (is_pass v) journal + count is_takeover journal

pub record KeepsDiskCounts (d : ℕ) (journal : List Entry) : Type 0 where
  pub fault : count (is_fault d) journal ≤ 1
  pub unblock : count (is_unblock d) journal ≤ 1

-- what makes a round due
abbrev pub causes : List Entry → ℕ
causes journal =
    count is_kill journal + count is_takeover journal + count is_any_fault journal + count is_any_pending journal
    + count is_any_ready journal + count is_any_clean journal + count is_any_point journal
    + count is_any_pass_end journal + count is_applied journal

pub record KeepsCounts (start : Start) (asked : Asked) (journal : List Entry) : Type 0 where
  pub volumes : (v : ℕ) → KeepsVolumeCounts asked.ops v journal
  pub disks : (d : ℕ) → KeepsDiskCounts d journal
  pub takeovers : count is_takeover journal ≤ count is_kill journal
  pub ends : count is_end journal ≤ count is_begin journal
  pub spares : count is_spare journal ≤ count is_applied journal
  pub settled : count is_settled journal ≤ count is_posted journal
  pub posts : count is_posted journal ≤ length asked.asks + start.disks.count + count is_any_fault journal
      + 2 * count is_kill journal
  pub begins : count is_begin journal ≤ 2 + causes journal
  pub in_turn : AtEach (λ front e. PendingAfter asked.ops front e.stamp e.event) journal
  pub passes : AtEach (λ front e. PassAfter start asked front e.event) journal

-- A LENGTH THAT IS ENOUGH

abbrev pub rounds_of_rows : ℕ → ℕ
rounds_of_rows rows = (rows + 1023) / 1024

abbrev pub has_spare : Start → Asked → Bool
has_spare start asked = list_any start.is_spare (range_with_len 0 start.disks.count) || list_any is_add asked.asks

abbrev pub checkpoints_of : Start → Bool → ℕ → ℕ
checkpoints_of start any v =
    if start.is_started v && (any || is_some (start.pass_from v))
    then rounds_of_rows (start.words.shape start.newest v).rows else 0

abbrev pub checkpoints_below : Start → Bool → ℕ → ℕ
checkpoints_below start any zero = 0
checkpoints_below start any (suc v) = checkpoints_below start any v + checkpoints_of start any v

abbrev pub enough_for : (ops asks disks kills checkpoints : ℕ) → ℕ
enough_for ops asks disks kills checkpoints =
    64 + 10 * ops + 16 * asks + 32 * disks + 40 * kills + 3 * checkpoints * (asks + 2 * disks + 3 * kills + 2)

-- a journal with so many entries has room for all that a run enters
abbrev pub enough : Start → Asked → List Entry → ℕ
enough start asked journal =
    enough_for (length asked.ops) (length asked.asks) start.disks.count (count is_kill journal)
    (checkpoints_below start (has_spare start asked) (start.words.volumes start.newest))

-- the journal is at least four entries shorter than that
abbrev pub IsShort : Start → Asked → List Entry → Type 0
IsShort start asked journal = length journal + 4 ≤ enough start asked journal
