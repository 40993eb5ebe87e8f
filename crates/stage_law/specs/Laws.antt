-- The laws of a run, together. Source: this project's own.
use Rattle.std.specs.Prelude.{◌≡◌, ℕ, ◌<◌, Bool, true, false, List, ◌++◌, length, Option, Some, ◌+◌, ◌*◌, ◌≤◌}
use Rattle.std.specs.List.{AllByRecursion}
use Rattle.units.specs.declared.disk.Sector.{Sector}
use Rattle.device_log.specs.Log.{Call, OnlyReads}
use Rattle.array_model.specs.declared.journal.Entry.{Entry}
use Rattle.array_model.specs.declared.script.Op.{Op}
use Rattle.array_model.specs.Script.{Asked}
use Rattle.array_model.specs.Blocks.{Laid}
use Rattle.array_model.specs.Events.{AtEach, has, is_ack_of}
use Rattle.array_model.specs.Moments.{Always, EachCall}
use Rattle.array_model.specs.Rounds.{IsFinished, HasFinished, BeginsContainer, EndsOnWorking, DurableOnWorking}
use Rattle.array_model.specs.RoundBlocks.{RoundsAreRenewed}
use Rattle.array_model.specs.Form.{IsJournal}
use Rattle.array_model.specs.WriteGate.{WriteGate}
use Rattle.array_model.specs.FailureLaw.{FailureLaw}
use Rattle.array_model.specs.AnswerLaw.{AnswerLaw, IsInOrder, IsVolumeWhole, ReadsInSync}
use Rattle.array_model.specs.RowCalls.{AnswersFromRows, CallsHaveCauses}
use Rattle.array_model.specs.Causes.{AreCaused}
use Rattle.array_model.specs.Counts.{IsShort}
use Rattle.array_model.specs.Start.{Start}
use Rattle.block_meaning.specs.Renewed.{renewed}
use Rattle.first_opening.specs.Opened.{Opened}
use Rattle.first_opening.specs.Copies.{HoldsCopies}
use Rattle.stage_law.specs.Runs.{start_on, start_of}

-- What needs no log: the form of the journal, the order of each client's answers, that each entry has its cause in
-- what stands before it, and that the journal is shorter than what is said to be enough. And that no more calls were
-- made than the rounds and the operations of so many entries need, over so many disks and two copies.
pub record KeepsForm (start : Start) (asked : Asked) (calls : ℕ) (journal : List Entry) : Type 0 where
  pub form : IsJournal start asked calls journal
  pub order : (client : ℕ) → IsInOrder asked.ops journal client
  pub causes : AreCaused start asked.ops journal
  pub short : IsShort start asked journal
  pub few : calls ≤ (2 * start.disks.count + 4) * length journal

-- What needs a log, and no contents: at each moment there is one block of the last finished round, and no other; the
-- block of each round is a container's, it is durable on every working member when the round ends, and it is the block
-- of the round before with `renew` of it, whether or not the round ends; the write gate law, the failure law, and that
-- only members in sync are read; each answer comes from calls on its row; and no call is made that neither a round nor
-- an operation under way asks for.
pub record KeepsLog (renew : Laid → ℕ → Bool → Laid) (start : Start) (asked : Asked)
    (log : List Call) (journal : List Entry) : Type 0 where
  pub rounds : Always (HasFinished start) log journal
  pub blocks : AtEach (λ front e. BeginsContainer start log e.stamp e.event) journal
  pub endings : EndsOnWorking start log journal
  pub renewed : RoundsAreRenewed renew start asked.ops log journal
  pub gate : WriteGate start asked.ops log journal
  pub failures : FailureLaw start asked.ops log journal
  pub reads : EachCall (λ before call. ReadsInSync start log journal before call.disk call.what) log
  pub rows : AnswersFromRows start asked.ops log journal
  pub calls : CallsHaveCauses start asked.ops log journal

-- each operation was answered
abbrev pub AllAnswered : List Op → List Entry → Type 0
AllAnswered ops journal = (i : ℕ) → i < length ops → has (is_ack_of i) journal ≡ true

-- Volume 0 is clean in the last finished round, and on every working member that is durable. Each started volume is
-- whole in that round's block: no pass is open, and each slot is in sync on a disk without a fault.
pub record IsLeftClean (start : Start) (log : List Call) (journal : List Entry) : Type 0 where
  pub clean : (m : Laid) → IsFinished start log journal m → start.words.is_dirty m 0 ≡ false
  pub durable : DurableOnWorking start log journal (λ m. start.words.is_dirty m 0 ≡ false)
  pub whole : (m : Laid) → IsFinished start log journal m → (v : ℕ) → start.is_started v ≡ true
      → IsVolumeWhole start journal m v

-- the calls of a run, behind reads that were made before it
pub record IsSince (calls : ℕ) (all log : List Call) : Type 0 where
  pub before : List Call
  pub reads : OnlyReads before
  pub joined : all ≡ before ++ log
  pub counted : length log ≡ calls

-- The laws of a run over disks that held a container, where their bank tells its log. The answers are lawful where it
-- tells too what it held, for each content that both copies held but for unsure sectors.
pub record KeepsLaws (o : Opened) (asked : Asked) (contents : Option (List (List Sector)))
    (log : List Call) (journal : List Entry) : Type 0 where
  pub kept : KeepsLog renewed (start_of o) asked log journal
  pub answers : contents ≡ Some o.contents → (content : ℕ → ℕ → Sector) (unsure : ℕ → ℕ → Bool)
      → HoldsCopies o content unsure → AnswerLaw (start_on o content unsure) asked log journal
