-- What is durable on every working member while no round is going on.
use Rattle.std.proofs.Common.{◌≡◌, ℕ, true, List, ap, sym, ◌∙◌, subst, arith, length}
use Rattle.std.specs.List.{AllByRecursion}
use Rattle.device_log.specs.Log.{Call}
use Rattle.array_model.specs.declared.journal.Entry.{Entry}
use Rattle.array_model.specs.Blocks.{Laid}
use Rattle.array_model.specs.Candidates.{Disk}
use Rattle.array_model.specs.Rounds.{DurableOnWorking}
use Rattle.stage_machine.specs.Setting.{Setting, has_disk}
use Rattle.stage_machine.specs.Opens.{SaysAll, StandsOnAll, IsFirstVolume}
use Rattle.stage_machine.specs.Rounds.{Phase, Rest}
use Rattle.stage_machine.proofs.Targets.{Held, disk}
use Rattle.stage_machine.proofs.Finished.{IsFine, finished_good}

-- what a target holds while no round is going on
abbrev pub HeldAtRest : Setting → (last : Laid) → List Call → Type 0
HeldAtRest S last log = (d : ℕ) → has_disk d S.targets ≡ true → Held S last d (disk S log d) Rest

pub held_at_rest : (S : Setting) (last : Laid) (d : ℕ) (k : Disk) (phase : Phase) → phase ≡ Rest → Held S last d k phase → Held S last d k Rest
held_at_rest S last d k phase rest h = subst (Held S last d k) rest h

-- each target holds one block alone, which says what that of the last finished round says
pub durable_as : (S : Setting) → StandsOnAll S → IsFirstVolume S → (P : Laid → Type 0) (log : List Call) (journal : List Entry) (last : Laid) → AllByRecursion (IsFine S) log
    → HeldAtRest S last log → ((block : Laid) → SaysAll S.start.words block last → P block) → DurableOnWorking S.start log journal P
durable_as S on volume P log journal last fine held says m finished d working =
    let same = (finished_good S volume on log journal m fine finished).expects (S.start.disks.serial d) in
    let target : has_disk d S.targets ≡ true = sym (on.expected d) ∙ sym same ∙ working.expected in
    let it = held d target in
    record {
      some = let is = ap (λ (xs : List Laid). length xs) it.stands.candidates in omega (arith, is);
      each = subst (AllByRecursion P) (sym it.stands.candidates) (says it.block it.says, tt);
    }
