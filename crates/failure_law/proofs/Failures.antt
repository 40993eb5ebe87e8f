-- The failure law over every run.
use Rattle.std.proofs.Common.{◌≡◌, ℕ, ◌+◌, ◌≤◌, true, List, [], ◌∷◌, ◌++◌, length, slice_get, refl, ap, sym, ◌∙◌, subst, arith, length-append, inl, Option, Some, None}
use Rattle.std.specs.List.{AllByRecursion}
use Rattle.device_log.specs.Log.{Call}
use Rattle.array_model.specs.declared.journal.Entry.{Entry}
use Rattle.array_model.specs.declared.journal.Event.{Event}
use Rattle.array_model.specs.declared.journal.Event.TheVariants.{Begin, Pass, Ack, Applied, Fault, Kill, Takeover}
use Rattle.array_model.specs.Script.{VolumeWrite, write_at}
use Rattle.array_model.specs.Blocks.{SlotWords}
use Rattle.array_model.specs.Renewal.{FitsGeneration}
use Rattle.array_model.specs.Events.{AtEachFrom, last_stamp, stamp_from}
use Rattle.array_model.specs.Moments.{AllBelow, EachCall, EachCallFrom}
use Rattle.array_model.specs.FailureLaw.{FailureLaw, AllWent, FailsLast, EndsAtFailure, IsRecordedFor, AckOverFaults, HasItsFault, BeginKeeps, pass_at, pass_from, BeginCounts}
use Rattle.array_model.proofs.Journals.{all-append, each_call}
use Rattle.stage_machine.specs.Setting.{Setting, Renews}
use Rattle.stage_machine.specs.Opens.{StandsOnAll, IsFirstVolume}
use Rattle.stage_machine.specs.Machine.{World, Reached}
use Rattle.stage_machine.proofs.Moments.{counted_reached}
use Rattle.stage_machine.proofs.Ours.{AreOurs, IsOurs, ours_reached, none_faulty}
use Rattle.stage_machine.proofs.Finished.{IsFine, fine_reached, all_take, round_good, finished_good}
use Rattle.stage_machine.proofs.Failed.{ends_reached}

-- what holds of each entry behind entries that the machine makes
each_ours : (P : List Entry → Entry → Type 0) → ((front : List Entry) (e : Entry) → AreOurs front → P front e) → (front journal : List Entry) → AreOurs front → AreOurs journal → AtEachFrom P front journal
each_ours P holds front [] ours more = tt
each_ours P holds front (e ∷ es) ours more =
    (holds front e ours, each_ours P holds (front ++ e ∷ []) es (all-append (λ (x : Entry). IsOurs x.event) front (e ∷ []) ours (more.0, tt)) more.1)

-- ACKNOWLEDGED WRITES: no disk has a fault

acks_over : (S : Setting) (log : List Call) (front : List Entry) (e : Event) → AreOurs front → AckOverFaults S.start S.asked.ops log front e
acks_over S log front (Ack i answer) ours = λ done. at (write_at S.asked.ops i)
  where
    at : (target : Option VolumeWrite) → IsRecordedFor S.start log front target
    at None = tt
    at (Some target) = λ d meant faulty. absurd (let sound = none_faulty d front ours in cc (sound, faulty))
acks_over S log front _ ours = tt

-- FAILED CALLS: the one that there may be isn't before the last stamp

stamp_below : (n c : ℕ) (journal : List Entry) → n ≤ c → AllBelow c journal → stamp_from n journal ≤ c
stamp_below n c [] le below = le
stamp_below n c (e ∷ es) le below = stamp_below e.stamp c es below.0 below.1

-- the last call of a log, with k calls before it
told_last : (journal : List Entry) (k : ℕ) (before : List Call) (last : Call) → AllWent before → last_stamp journal ≤ k + length before + 1
    → EachCallFrom (λ n call. HasItsFault journal n call) k (before ++ last ∷ [])
told_last journal k [] last went le = (λ failed early. absurd (omega (arith, le, early)), tt)
told_last journal k (x ∷ xs) last went le =
    (λ failed early. absurd (let through = went.0 in cc (through, failed)), told_last journal (k + 1) xs last went.1 (omega (arith, le)))

told_went : (journal : List Entry) (log : List Call) → AllWent log → EachCall (λ n call. HasItsFault journal n call) log
told_went journal log went = each_call (λ n call. HasItsFault journal n call) (λ (x : Call). x.went ≡ true) (λ n call through failed early. absurd (cc (through, failed))) 0 log went

told_fails : (journal : List Entry) (log : List Call) (d : ℕ) → last_stamp journal ≤ length log → FailsLast d log journal → EachCall (λ n call. HasItsFault journal n call) log
told_fails journal log d le it =
    let size : length log ≡ length it.before + 1 = ap (λ (xs : List Call). length xs) it.parts ∙ length-append it.before (it.last ∷ []) in
    subst (EachCall (λ n call. HasItsFault journal n call)) (sym it.parts) (told_last journal 0 it.before it.last it.went (omega (arith, le, size)))

told_all : (journal : List Entry) (log : List Call) (failed : Option ℕ) → last_stamp journal ≤ length log → EndsAtFailure log journal failed → EachCall (λ n call. HasItsFault journal n call) log
told_all journal log None le all = told_went journal log all
told_all journal log (Some d) le last = told_fails journal log d le last

-- WHAT A ROUND KEEPS: each block says of members what the newest at opening says

module _ (S : Setting) (on : StandsOnAll S) (volume : IsFirstVolume S) (log : List Call) (fine : AllByRecursion (IsFine S) log) where
  begin_keeps : (front : List Entry) (stamp : ℕ) (e : Event) → BeginKeeps S.start log front stamp e
  begin_keeps front stamp (Begin g) = λ m last round finished.
      let new = round_good S volume log stamp g m fine round in
      let old = finished_good S volume on _ front last (all_take S stamp log fine) finished in
      record {
        expected = λ serial is. inl (new.expects serial ∙ sym (old.expects serial) ∙ is);
        in_sync = λ v slot before supported there sync. inl (before, subst (λ (xs : List SlotWords). slice_get xs slot ≡ Some before) (old.slots v ∙ sym (new.slots v)) there, sync);
      }
  begin_keeps front stamp _ = tt

-- UNITS: no pass is entered

pass_stays : (v : ℕ) (found : Option ℕ) (stamp : ℕ) (e : Event) → IsOurs e → pass_at v found stamp e ≡ found
pass_stays v found stamp (Pass w row) ours = absurd ours
pass_stays v found stamp (Applied n) ours = absurd ours
pass_stays v found stamp (Fault d) ours = absurd ours
pass_stays v found stamp Kill ours = absurd ours
pass_stays v found stamp Takeover ours = absurd ours
pass_stays v found stamp _ ours = refl

no_pass_from : (v : ℕ) (found : Option ℕ) (journal : List Entry) → AreOurs journal → pass_from v found journal ≡ found
no_pass_from v found [] ours = refl
no_pass_from v found (e ∷ es) ours = no_pass_from v (pass_at v found e.stamp e.event) es ours.1 ∙ pass_stays v found e.stamp e.event ours.0

begin_counts : (S : Setting) (log : List Call) (front : List Entry) (stamp : ℕ) (e : Event) → AreOurs front → BeginCounts S.start S.asked.ops log front stamp e
begin_counts S log front stamp (Begin g) ours = λ v since m passed round. absurd (let none = no_pass_from v None front ours in cc (none, passed))
begin_counts S log front stamp _ ours = tt

-- THE LAW

pub failures_reached : (S : Setting) → Renews S → StandsOnAll S → IsFirstVolume S → (w : World) → FitsGeneration w.control.round.note → Reached S w → FailureLaw S.start S.asked.ops w.log w.journal
failures_reached S renews on volume w fits r =
    let ours = ours_reached S w r in
    let counted = counted_reached S w r in
    let fine = fine_reached S renews on volume w fits r in
    let short : last_stamp w.journal ≤ length w.log = let below = stamp_below 0 w.calls w.journal (omega arith) counted.below in let calls = counted.calls in omega (arith, below, calls) in
    record {
      acks = each_ours _ (λ front e front_ours. acks_over S _ front e.event front_ours) [] w.journal tt ours;
      calls = told_all w.journal w.log w.control.failed short (ends_reached S w r);
      keeps = each_ours _ (λ front e front_ours. begin_keeps S on volume w.log fine front e.stamp e.event) [] w.journal tt ours;
      units = each_ours _ (λ front e front_ours. begin_counts S w.log front e.stamp e.event front_ours) [] w.journal tt ours;
    }
