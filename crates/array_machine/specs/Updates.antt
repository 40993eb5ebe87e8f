-- Updates: what the monitor makes of one that the manager sent, and why it is declined.
-- Source: imsm_process_update of super-intel.c; the order of the causes and the four kinds are this project's own.
use Rattle.std.specs.Prelude.{ℕ, ◌+◌, ◌==◌, ◌&&◌, not, nat_lt, nat_le, max, Bool, true, false, List, [], ◌∷◌, ◌++◌, slice_get, Option, Some, None, if◌then◌else◌}
use Rattle.std.specs.List.{list_any, list_all}
use Rattle.units.specs.declared.bounds.TheConstants.{METADATA_SECTORS}
use Rattle.array_model.specs.declared.script.Ask.{Ask}
use Rattle.array_model.specs.declared.script.Ask.TheVariants.{Add, Rename, Remove}
use Rattle.array_model.specs.declared.journal.DeclinedKind.{DeclinedKind}
use Rattle.array_model.specs.declared.journal.DeclinedKind.TheVariants.{Stale, NotSpare, Full, Large, NoVolume, Name, NoDisk, Member, Small, NotFailed, InUse}
use Rattle.array_model.specs.Blocks.{Laid, SlotWords}
use Rattle.array_machine.specs.Numbers.{has}
use Rattle.array_machine.specs.Setting.{Edit, TakesGeneration, ActivatesDisk, RemovesDisk, NamesVolume, Setting, edited}
use Rattle.array_machine.specs.Volumes.{Volume}
use Rattle.array_machine.specs.Operations.{shape_of}
use Rattle.array_machine.specs.Rounds.{expects}
use Rattle.array_machine.specs.Managers.{AskState, IsApplied, IsSettled, Want, OfAsk, OfSpareDisk, Update, Manager}
use Rattle.array_machine.specs.Control.{Control}
use Rattle.array_machine.specs.Changes.{Applies, Declines, Change, RoundBegins, SpareBegins, ManagerMoves}
use Rattle.array_machine.specs.Turns.{may_call}
use Rattle.array_machine.specs.EditFacts.{is_sound, facts_of}
use Rattle.array_machine.specs.Puts.{set_ask}

-- VERDICTS

-- an update is declined, or edits the book, or makes a disk a spare
pub data Verdict : Type 0 where
  Refuses : (kind : DeclinedKind) → Verdict
  EditsBook : (edits : List Edit) → Verdict
  WritesSpare : (disk : ℕ) → Verdict

-- a cause for which an update is declined, where it holds
pub record Refusal : Type 0 where
  pub holds : Bool
  pub kind : DeclinedKind

abbrev pub refusal : Bool → DeclinedKind → Refusal
refusal holds kind = record { holds = holds; kind = kind }

-- the first cause that holds decides
abbrev pub unless : List Refusal → Verdict → Verdict
unless [] done = done
unless (r ∷ rs) done = if r.holds then Refuses r.kind else unless rs done

-- SPARES

-- a disk that is there without a fault becomes a spare, where the book has no record of it
abbrev pub add_refusals : Setting → Control → ℕ → List Refusal
add_refusals S c d =
    refusal (not (may_call S c.round d)) NoDisk
    ∷ refusal (S.start.words.has_record c.round.book (S.start.disks.serial d)) Member
    ∷ refusal (nat_lt (S.start.disks.sectors d) METADATA_SECTORS) Small ∷ []

abbrev pub add_verdict : Setting → Control → ℕ → Verdict
add_verdict S c d = unless (add_refusals S c d) (WritesSpare d)

-- a spare that may be activated: it is there without a fault, and the book has no record of it
abbrev pub is_free : Setting → Control → ℕ → Bool
is_free S c d =
    may_call S c.round d && has d c.manager.spares
    && not (S.start.words.has_record c.round.book (S.start.disks.serial d))

-- a slot has the index
abbrev pub has_index : ℕ → List SlotWords → Bool
has_index i slots = list_any (λ w. w.index == i) slots

-- the sectors that a volume asks of a disk in a slot of index i, with those kept for metadata
abbrev pub need_in : Setting → Laid → ℕ → ℕ → Volume → ℕ
need_in S book i v x =
    if is_sound x && has_index i (S.start.words.slots book v)
    then (shape_of S v).pba + (shape_of S v).rows + METADATA_SECTORS else METADATA_SECTORS

-- the sectors that a disk needs to take the place of index i in the sound volumes from number v on
abbrev pub need_for : Setting → Laid → ℕ → ℕ → List Volume → ℕ
need_for S book i v [] = METADATA_SECTORS
need_for S book i v (x ∷ xs) = max (need_in S book i v x) (need_for S book i (v + 1) xs)

-- an update was applied at a higher generation than the one that this was prepared over
abbrev pub is_stale : Option ℕ → ℕ → Bool
is_stale None seen = false
is_stale (Some applied) seen = nat_lt seen applied

-- spare d takes the place of the failed index i
abbrev pub activation_refusals : Setting → Control → (seen d i : ℕ) → List Refusal
activation_refusals S c seen d i =
    refusal (is_stale c.manager.applied seen) Stale
    ∷ refusal (not (is_free S c d)) NotSpare
    ∷ refusal (not (S.tests.is_failed c.round.book i)) NotFailed
    ∷ refusal (nat_lt (S.start.disks.sectors d) (need_for S c.round.book i 0 c.volumes)) Small
    ∷ refusal (S.tests.is_full c.round.book) Full
    ∷ refusal (not (S.start.words.has_room c.round.book)) Large ∷ []

abbrev pub activation_verdict : Setting → Control → (seen d i : ℕ) → Verdict
activation_verdict S c seen d i =
    unless (activation_refusals S c seen d i) (EditsBook (ActivatesDisk (S.start.disks.serial d) i ∷ []))

-- NAMES AND RECORDS

-- a visible character of ASCII
abbrev pub is_visible : ℕ → Bool
is_visible b = nat_le 0x21 b && nat_le b 0x7e

-- visible characters, and behind them zero bytes alone
abbrev pub is_padded : List ℕ → Bool
is_padded [] = true
is_padded (b ∷ bs) = if is_visible b then is_padded bs else list_all (λ z. z == 0) (b ∷ bs)

-- one visible character at least
abbrev pub is_name : List ℕ → Bool
is_name [] = false
is_name (b ∷ bs) = is_visible b && is_padded bs

abbrev pub rename_refusals : Setting → Control → ℕ → List ℕ → List Refusal
rename_refusals S c v name =
    refusal (not (nat_lt v (S.start.words.volumes c.round.book))) NoVolume ∷ refusal (not (is_name name)) Name ∷ []

abbrev pub rename_verdict : Setting → Control → ℕ → List ℕ → Verdict
rename_verdict S c v name = unless (rename_refusals S c v name) (EditsBook (NamesVolume v name ∷ []))

-- the record of a disk that failed leaves the book, where no slot has it
abbrev pub remove_refusals : Setting → Control → ℕ → List Refusal
remove_refusals S c d =
    let serial = S.start.disks.serial d in
    refusal (not (nat_lt d S.start.disks.count && S.start.words.has_record c.round.book serial)) NoDisk
    ∷ refusal (expects S c.round.book d) NotFailed
    ∷ refusal (S.tests.is_used c.round.book serial) InUse ∷ []

abbrev pub remove_verdict : Setting → Control → ℕ → Verdict
remove_verdict S c d = unless (remove_refusals S c d) (EditsBook (RemovesDisk (S.start.disks.serial d) ∷ []))

-- ALL KINDS

-- of an ask that the script has
abbrev pub ask_verdict : Setting → Control → Option Ask → Verdict
ask_verdict S c None = Refuses NoVolume
ask_verdict S c (Some (Add d)) = add_verdict S c d
ask_verdict S c (Some (Rename v name)) = rename_verdict S c v name
ask_verdict S c (Some (Remove d)) = remove_verdict S c d

-- of an update that was prepared over a book of this generation
abbrev pub verdict_of : Setting → Control → (seen : ℕ) → Want → Verdict
verdict_of S c seen (OfAsk i) = ask_verdict S c (slice_get S.asked.asks i)
verdict_of S c seen (OfSpareDisk d i) = activation_verdict S c seen d i

-- APPLYING

-- The first update leaves the queue, its box goes back, and its ask stands so from now on. The last is the generation
-- after the last update that was applied.
abbrev pub taken : Manager → Update → List Update → AskState → Option ℕ → Manager
taken m u rest state applied = record m {
  asks = set_ask m.asks u.want state;
  queue = rest;
  returned = m.returned + 1;
  applied = applied;
}

-- the book with the edits of an update, of the next number
abbrev pub applied_block : Setting → Control → List Edit → Laid
applied_block S c edits = edited S (facts_of S c) c.round.book (edits ++ TakesGeneration (c.round.note + 1) ∷ [])

-- an edit of the book begins a round, a spare's block is written without one
abbrev pub apply_verdict : Setting → Control → Update → List Update → Verdict → List Change
apply_verdict S c u rest (Refuses kind) =
    ManagerMoves (taken c.manager u rest IsSettled c.manager.applied) (Declines u.number kind) ∷ []
apply_verdict S c u rest (EditsBook edits) =
    ManagerMoves (taken c.manager u rest IsApplied (Some (c.round.note + 1))) (Applies u.number)
    ∷ RoundBegins (applied_block S c edits) ∷ []
apply_verdict S c u rest (WritesSpare d) =
    ManagerMoves (taken c.manager u rest IsApplied (Some (S.start.words.generation c.round.book.anchor)))
    (Applies u.number)
    ∷ SpareBegins d (S.spare c.round.book d) ∷ []

-- the update in hand, where a target exists
abbrev pub apply_if : Setting → Control → (target : Bool) → List Update → List Change
apply_if S c true (u ∷ rest) = apply_verdict S c u rest (verdict_of S c u.seen u.want)
apply_if S c _ _ = []
