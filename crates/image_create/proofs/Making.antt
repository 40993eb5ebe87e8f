-- Calls that are made one behind the other.
use Rattle.std.proofs.Common.{◌≡◌, ℕ, ◌≤◌, List, [], ◌∷◌, ◌++◌, Option, Result, Ok, Err, refl, sym, ◌∙◌, ap, subst, arith}
use Rattle.std.specs.Prelude.{IfErr, IsErrAnd, OnErr, is_ok}
use Rattle.std.proofs.lemmas.List.{append_assoc}
use Rattle.units.specs.declared.disk.Sector.{Sector}
use Rattle.device_log.specs.Log.{Call, Sync}
use Rattle.member_bank.specs.History.{sectors_asked}
use Rattle.member_bank.specs.Told.{Logs, LogsAll, LogsWrite}
use Rattle.image_outside.specs.Told.{BankTold}
use Rattle.image_create.specs.Calls.{write_call, sync_call}
use Rattle.image_create.specs.Stops.{IsStopped, StopsAt, KeepsBank, failed_call}

-- the error that is handed on
pub handed_on : {T E : Type 0} (r : Result T E) (met : E) (P : E → Type 0) → IsErrAnd r (λ e. e ≡ met) → P met → IfErr r P
handed_on (Ok x) met P told is = absurd told
handed_on (Err e) met P told is = subst P (sym told) is

pub logs_both : {a b c : Option (List Call)} (xs ys : List Call) → LogsAll a b xs → LogsAll b c ys → LogsAll a c (xs ++ ys)
logs_both xs ys first second now told =
    let later = second now told in
    let earlier = first later.0 later.1 in
    (earlier.0, earlier.1, later.2 ∙ ap (λ (x : List Call). x ++ ys) earlier.2 ∙ append_assoc earlier.0 xs ys)

-- a stop behind calls that went through, and before calls that weren't made
pub stops_behind : {a b c : Option (List Call)} {d : ℕ} (xs ys : List Call) → LogsAll a b xs → StopsAt b c ys d → StopsAt a c (xs ++ ys) d
stops_behind xs ys made stop = record {
  run = xs ++ stop.run;
  stopped = record {
    front = xs ++ stop.stopped.front;
    next = stop.stopped.next;
    rest = stop.stopped.rest;
    stored = stop.stopped.stored;
    calls_are = ap (λ (x : List Call). xs ++ x) stop.stopped.calls_are ∙ sym (append_assoc xs stop.stopped.front (stop.stopped.next ∷ stop.stopped.rest));
    disk = stop.stopped.disk;
    few = stop.stopped.few;
    run_is = ap (λ (x : List Call). xs ++ x) stop.stopped.run_is ∙ sym (append_assoc xs stop.stopped.front (failed_call stop.stopped.next stop.stopped.stored ∷ []));
  };
  logs = logs_both xs stop.run made stop.logs;
}

pub stops_before : {a b : Option (List Call)} {d : ℕ} (xs ys : List Call) → StopsAt a b xs d → StopsAt a b (xs ++ ys) d
stops_before xs ys stop = record {
  run = stop.run;
  stopped = record {
    front = stop.stopped.front;
    next = stop.stopped.next;
    rest = stop.stopped.rest ++ ys;
    stored = stop.stopped.stored;
    calls_are = ap (λ (x : List Call). x ++ ys) stop.stopped.calls_are ∙ append_assoc stop.stopped.front (stop.stopped.next ∷ stop.stopped.rest) ys;
    disk = stop.stopped.disk;
    few = stop.stopped.few;
    run_is = stop.stopped.run_is;
  };
  logs = stop.logs;
}

-- ONE CALL

-- a run of one call that failed
first_stopped : (call : Call) (stored : ℕ) → stored ≤ sectors_asked call.what → IsStopped (call ∷ []) call.disk (failed_call call stored ∷ [])
first_stopped call stored few =
    record { front = []; next = call; rest = []; stored = stored; calls_are = refl; disk = refl; few = few; run_is = refl }

pub write_stopped : {E : Type 0} (old new : Option (List Call)) (d place : ℕ) (sectors : List Sector) (r : Result (Unit {0}) E)
    → (stored : ℕ) × LogsWrite old new d place sectors (is_ok r) stored → OnErr r (StopsAt old new (write_call d place sectors ∷ []) d)
write_stopped old new d place sectors (Ok x) made = tt
write_stopped old new d place sectors (Err e) made = record {
  run = failed_call (write_call d place sectors) made.0 ∷ [];
  stopped = first_stopped (write_call d place sectors) made.0 made.1.few;
  logs = made.1.logs;
}

pub sync_stopped : {E : Type 0} (old new : Option (List Call)) (d : ℕ) (r : Result (Unit {0}) E)
    → Logs old new (record { disk = d; what = Sync; went = is_ok r }) → OnErr r (StopsAt old new (sync_call d ∷ []) d)
sync_stopped old new d (Ok x) made = tt
sync_stopped old new d (Err e) made = record {
  run = failed_call (sync_call d) 0 ∷ [];
  stopped = first_stopped (sync_call d) 0 (omega arith);
  logs = made;
}

-- WHAT IS KEPT

pub kept_both : {x y z : BankTold} → KeepsBank x y → KeepsBank y z → KeepsBank x z
kept_both {x} {y} {z} first second = record {
  named = second.named ∙ first.named;
  sized = second.sized ∙ first.sized;
  opened = λ told is. first.opened told (second.opened told is);
  later = λ k. let one : x.faults k ≤ y.faults k = first.later k in let two : y.faults k ≤ z.faults k = second.later k in omega arith;
}
