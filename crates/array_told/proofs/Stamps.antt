-- Calls are counted and stamps rise, through each effect.
use Rattle.std.proofs.Common.{◌≡◌, ℕ, ◌≤◌, List, [], ◌∷◌, ◌++◌, length, take, arith, length-append, Option, Some, None, refl}
use Rattle.device_log.specs.Log.{Call}
use Rattle.array_model.specs.declared.journal.Entry.{Entry}
use Rattle.array_model.specs.declared.journal.Event.{Event}
use Rattle.array_model.specs.Events.{AtEach}
use Rattle.array_model.specs.Form.{RisesFrom}
use Rattle.array_model.specs.Moments.{AllBelow}
use Rattle.array_model.proofs.Journals.{all-append, below_later, at_each_log}
use Rattle.array_machine.specs.Setting.{Setting}
use Rattle.array_machine.specs.Volumes.{Volume}
use Rattle.array_machine.specs.Changes.{Change, entry_of}
use Rattle.array_machine.specs.Machine.{World, calls_after, log_after, entered, begins_at}
use Rattle.array_paths.specs.Effects.{after_effect}
use Rattle.array_told.specs.Told.{Stamps}

pub later : (n : ℕ) (call : Option Call) → n ≤ calls_after n call
later n None = omega arith
later n (Some k) = omega arith

pub calls_more : (n : ℕ) (log : List Call) (call : Option Call) → n ≡ length log
    → calls_after n call ≡ length (log_after log call)
calls_more n log None is = is
calls_more n log (Some k) is = omega (arith, length-append log (k ∷ []), is)

pub entered_below : (n : ℕ) (e : Option Event) → AllBelow n (entered n e)
entered_below n None = tt
entered_below n (Some e) = (omega arith, tt)

entered_rises : (m n : ℕ) (e : Option Event) → m ≤ n → RisesFrom m (entered n e)
entered_rises m n None le = tt
entered_rises m n (Some e) le = (le, tt)

rises_more : (m n : ℕ) (xs : List Entry) (e : Option Event) → m ≤ n → AllBelow n xs → RisesFrom m xs
    → RisesFrom m (xs ++ entered n e)
rises_more m n [] e le below h = entered_rises m n e le
rises_more m n (x ∷ xs) e le below h = (h.0, rises_more x.stamp n xs e below.0 below.1 h.1)

pub stamps_effect : (S : Setting) (w : World) (call : Option Call) (a : Change) → Stamps w → Stamps
    (after_effect S w call a)
stamps_effect S w call a s =
    let n = calls_after w.calls call in
    let below = below_later w.calls n w.journal (later w.calls call) s.below in
    record {
      calls = calls_more w.calls w.log call s.calls;
      below =
          all-append (λ (e : Entry). e.stamp ≤ n) w.journal (entered n (entry_of S a)) below
          (entered_below n (entry_of S a));
      rises = rises_more 0 n w.journal (entry_of S a) (omega arith) below s.rises;
    }

pub stamps_open : (S : Setting) (volumes : List Volume) (spares : List ℕ) → Stamps (begins_at S volumes spares)
stamps_open S volumes spares = record { calls = refl; below = tt; rises = tt }

-- what is said of the calls before an entry goes on to hold in the log behind an effect
pub at_each_before : (Q : List Call → List Entry → Entry → Type 0) (log : List Call) (call : Option Call)
    (journal : List Entry)
    → AllBelow (length log) journal → AtEach (λ front e. Q (take e.stamp log) front e) journal
    → AtEach (λ front e. Q (take e.stamp (log_after log call)) front e) journal
at_each_before Q log None journal below h = h
at_each_before Q log (Some x) journal below h = at_each_log Q log x [] journal below h
