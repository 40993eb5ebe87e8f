-- Turns that follow one another keep the bank, and without a call no disk fails.
use Rattle.std.proofs.Common.{◌≡◌, ℕ, ◌+◌, Bool, true, false, not, List, [], ◌∷◌, ◌++◌, length, length-append, append_assoc, Option, Some, None, refl, ap, sym, subst, ◌∙◌, arith}
use Rattle.units.specs.declared.disk.Serial.{Serial}
use Rattle.array_model.specs.declared.script.OpKind.{OpKind}
use Rattle.array_model.specs.declared.script.OpKind.TheVariants.{Write as OpWrite, Read as OpRead, Whole as OpWhole}
use Rattle.array_model.specs.Placement.{Placement}
use Rattle.array_model.specs.Script.{kind_at}
use Rattle.std.proofs.lemmas.List.{append-nil}
use Rattle.device_log.specs.Log.{Call}
use Rattle.member_bank.specs.Faults.{Rose}
use Rattle.stage_machine.specs.Setting.{Setting}
use Rattle.stage_machine.specs.Rounds.{Phase, Rest, Going, Ended}
use Rattle.stage_machine.specs.States.{State, IsReadonly, IsReadAuto, IsClean, IsPending, IsActive, IsIdle, Move, Nothing, Starts, Makes, decide, is_readonly}
use Rattle.stage_machine.specs.Jobs.{placement_at, any_writing}
use Rattle.stage_machine.specs.Machine.{Control, Out, monitor_at, moved, submit_next, submit_unless, submit_kind, submit_write, submit_read, quieted, quiet_if}
use Rattle.control_state.specs.Rounds.{next_ask}
use Rattle.stage.specs.Stages.{Seen}
use Rattle.stage.specs.Causes.{Counts, Grows, KeepsBank}
use Rattle.member_bank.proofs.Faults.{rose_later}

-- WITHOUT A CALL NO DISK FAILS

abbrev pub failed_in : Out → Option ℕ
failed_in out = out.next.failed

moved_live : (S : Setting) (c : Control) (move : Move) → failed_in (moved S c move) ≡ c.failed
moved_live S c Nothing = refl
moved_live S c Starts = refl
moved_live S c (Makes to event) = refl

pub rest_live : (S : Setting) (c : Control) (x : Ended) (phase : Phase) → next_ask phase ≡ None → failed_in (monitor_at S c x phase) ≡ c.failed
rest_live S c x Rest none = moved_live S c (decide c.round.started c.state (S.start.words.is_dirty c.round.last 0) (S.start.words.is_dirty c.round.book 0))
rest_live S c x (Going m step []) none = refl
rest_live S c x (Going m step (d ∷ ds)) none = absurd (cc none)

write_live : (c : Control) (k i : ℕ) (rest : List ℕ) (place : Option Placement) → failed_in (submit_write c k i rest place) ≡ c.failed
write_live c k i rest None = refl
write_live c k i rest (Some place) = refl

read_live : (c : Control) (k i : ℕ) (rest : List ℕ) (place : Option Placement) → failed_in (submit_read c k i rest place) ≡ c.failed
read_live c k i rest None = refl
read_live c k i rest (Some place) = refl

kind_live : (S : Setting) (c : Control) (k i : ℕ) (rest : List ℕ) (kind : Option OpKind) → failed_in (submit_kind S c k i rest kind) ≡ c.failed
kind_live S c k i rest None = refl
kind_live S c k i rest (Some (OpWrite v s value)) = write_live c k i rest (placement_at S i)
kind_live S c k i rest (Some (OpRead v s)) = read_live c k i rest (placement_at S i)
kind_live S c k i rest (Some (OpWhole v)) = refl

unless_live : (S : Setting) (c : Control) (k i : ℕ) (rest : List ℕ) (readonly : Bool) → failed_in (submit_unless S c k i rest readonly) ≡ c.failed
unless_live S c k i rest true = refl
unless_live S c k i rest false = kind_live S c k i rest (kind_at S.asked.ops i)

pub submit_live : (S : Setting) (c : Control) (k : ℕ) (left : List ℕ) → failed_in (submit_next S c k left) ≡ c.failed
submit_live S c k [] = refl
submit_live S c k (i ∷ rest) = unless_live S c k i rest (is_readonly c.state)

pub quiet_live : (S : Setting) (c : Control) (state : State) → failed_in (quieted S c state) ≡ c.failed
quiet_live S c IsReadonly = refl
quiet_live S c IsReadAuto = refl
quiet_live S c IsClean = refl
quiet_live S c IsPending = refl
quiet_live S c IsActive = at (not (any_writing S c.clients))
  where
    at : (rests : Bool) → failed_in (quiet_if c rests) ≡ c.failed
    at true = refl
    at false = refl
quiet_live S c IsIdle = refl

-- COUNTS

pub counts_same : (before : ℕ → ℕ) (failed : Option ℕ) → failed ≡ None → Counts before before failed
counts_same before failed live = record { later = λ d. omega arith; cause = λ d at. absurd (cc (live, at)) }

-- THE LOG

pub grows_same : (told : Option (List Call)) (calls : ℕ) → Grows told calls told calls
grows_same told calls = record { by = λ all is. (all, [], is, sym (append-nil all), omega arith) }

pub grows_on : (one : Option (List Call)) (a : ℕ) (two : Option (List Call)) (b : ℕ) (three : Option (List Call)) (c : ℕ) → Grows one a two b → Grows two b three c → Grows one a three c
grows_on one a two b three c first second = record {
  by = λ all is.
      let late = second.by all is in
      let early = first.by late.0 late.2 in
      let joined : all ≡ early.0 ++ (early.1 ++ late.1) = late.3 ∙ ap (λ xs. xs ++ late.1) early.3 ∙ append_assoc early.0 early.1 late.1 in
      let counted : c ≡ a + length (early.1 ++ late.1) = let sum = length-append early.1 late.1 in let x = early.4 in let y = late.4 in omega (arith, sum, x, y) in
      (early.0, early.1 ++ late.1, early.2, joined, counted);
}

-- THE BANK

pub bank_on : {B : Type 0} (serials : B → List Serial) (sizes : B → List ℕ) (log : B → Option (List Call)) (faults : B → ℕ → ℕ) (a b c : Seen B) → KeepsBank serials sizes log faults a b → KeepsBank serials sizes log faults b c → KeepsBank serials sizes log faults a c
bank_on {B} serials sizes log faults a b c one two = record {
  serials_kept = two.serials_kept ∙ one.serials_kept;
  sizes_kept = two.sizes_kept ∙ one.sizes_kept;
  grows = grows_on (log a.bank) a.calls (log b.bank) b.calls (log c.bank) c.calls one.grows two.grows;
  later = λ d. let first = one.later d in let second = two.later d in omega (arith, first, second);
  cause = λ live d at. by live d at b.control.failed refl;
  ended = λ d at. let same = one.ended d at in two.ended d (ap (λ (x : Seen B). x.control.failed) same ∙ at) ∙ same;
}
  where
    by : a.control.failed ≡ None → (d : ℕ) → c.control.failed ≡ Some d → (failed : Option ℕ) → b.control.failed ≡ failed → Rose (faults a.bank d) (faults c.bank d)
    by live d at None is = rose_later (faults a.bank d) (faults b.bank d) (faults c.bank d) (one.later d) (two.cause is d at)
    by live d at (Some e) is =
        let same = two.ended e is in
        subst (λ (x : Seen B). Rose (faults a.bank d) (faults x.bank d)) (sym same) (one.cause live d (sym (ap (λ (x : Seen B). x.control.failed) same) ∙ at))

-- a turn without a call
pub bank_still : {B : Type 0} (serials : B → List Serial) (sizes : B → List ℕ) (log : B → Option (List Call)) (faults : B → ℕ → ℕ) (a b : Seen B) → b.bank ≡ a.bank → b.calls ≡ a.calls → a.control.failed ≡ None → b.control.failed ≡ None
    → KeepsBank serials sizes log faults a b
bank_still {B} serials sizes log faults a b bank calls live kept = record {
  serials_kept = ap serials bank;
  sizes_kept = ap sizes bank;
  grows = subst (λ n. Grows (log a.bank) a.calls (log b.bank) n) (sym calls) (subst (λ x. Grows (log a.bank) a.calls (log x) a.calls) (sym bank) (grows_same (log a.bank) a.calls));
  later = λ d. let same : faults b.bank d ≡ faults a.bank d = ap (λ x. faults x d) bank in omega (arith, same);
  cause = λ on d at. absurd (cc (kept, at));
  ended = λ d at. absurd (cc (live, at));
}
