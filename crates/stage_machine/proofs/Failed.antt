-- A failed call ends a run: it is the last call.
use Rattle.std.proofs.Common.{◌≡◌, ℕ, true, false, List, [], ◌∷◌, ◌++◌, length, refl, ap, sym, ◌∙◌, subst, ◌⊎◌, inl, inr, Option, Some, None}
use Rattle.std.specs.Prelude.{⊤}
use Rattle.std.proofs.lemmas.List.{append-nil}
use Rattle.units.specs.declared.disk.Sector.{Sector}
use Rattle.device_log.specs.Log.{Call, What}
use Rattle.array_model.specs.declared.journal.Event.{Event}
use Rattle.array_model.specs.declared.journal.Entry.{Entry}
use Rattle.array_model.specs.FailureLaw.{AllWent, EndsAtFailure}
use Rattle.array_model.specs.Moments.{AllBelow}
use Rattle.array_model.proofs.Journals.{all-append}
use Rattle.stage_machine.specs.Setting.{Setting}
use Rattle.stage_machine.specs.Machine.{Control, World, Out, Action, Reached, opens, goes, happens, idle, call_of, call_unless, got_of, turned, turned_unless, stamped, calls_after, log_after}
use Rattle.stage_machine.proofs.Moments.{counted_reached}
use Rattle.stage_machine.proofs.Turns.{Turns, turns_of, nothing, fails, anchors, settles, ends, begins, readies, actives, cleans, rests, pasts, asks_read, asks_write, puts, syncs, gets, acks}

-- a run goes on, or this turn does nothing
pub goes_or_not : (S : Setting) (c : Control) (a : Action) → (c.failed ≡ None) ⊎ ((call_of S c a ≡ None) × ((turned S c a).events ≡ []))
goes_or_not S c a = at c.failed refl
  where
    at : (f : Option ℕ) → c.failed ≡ f → (c.failed ≡ None) ⊎ ((call_of S c a ≡ None) × ((turned S c a).events ≡ []))
    at None is = inl is
    at (Some d) is = inr (ap (call_unless S c a) is, ap (λ f. (turned_unless S c a f).events) is)

abbrev pub WentOf : Option Call → Type 0
WentOf None = ⊤
WentOf (Some call) = call.went ≡ true

-- a turn's call fails, on this disk, and it enters nothing
record Fails (call : Option Call) (es : List Event) (next : Control) : Type 0 where
  disk : ℕ
  what : What
  last : call ≡ Some (record { disk = disk; what = what; went = false })
  ends : next.failed ≡ Some disk
  quiet : es ≡ []

-- a turn fails no call, and leaves the disk that failed as it was; or its call fails
abbrev Fate : Control → Option Call → List Event → Control → Type 0
Fate c call es next = ((next.failed ≡ c.failed) × WentOf call) ⊎ Fails call es next

fate : (S : Setting) (c : Control) (got : Sector) {call : Option Call} {es : List Event} {next : Control} → Turns S c got call es next → Fate c call es next
fate S c got nothing = inl (refl, tt)
fate S c got (fails d what asked) = inr (record { disk = d; what = what; last = refl; ends = refl; quiet = refl })
fate S c got (anchors m d ds is) = inl (refl, refl)
fate S c got (settles m d e ds is) = inl (refl, refl)
fate S c got (ends m d is) = inl (refl, refl)
fate S c got (begins d ds is some why) = inl (refl, tt)
fate S c got (readies is s t) = inl (refl, tt)
fate S c got (actives is s t r) = inl (refl, tt)
fate S c got (cleans is s t) = inl (refl, tt)
fate S c got (rests t calm) = inl (refl, tt)
fate S c got (pasts k i rest has none) = inl (refl, tt)
fate S c got (asks_read k i rest place has is w live) = inl (refl, tt)
fate S c got (asks_write k i rest place has is w live) = inl (refl, tt)
fate S c got (puts k i left step d ds has need) = inl (refl, refl)
fate S c got (syncs k i left step d ds has need) = inl (refl, refl)
fate S c got (gets k i left step d has need) = inl (refl, refl)
fate S c got (acks k i left step answer has need) = inl (refl, tt)

-- a run that goes on after a turn went on before it, and the turn's call went through
pub went_on : (S : Setting) (c : Control) (got : Sector) {call : Option Call} {es : List Event} {next : Control} → Turns S c got call es next → next.failed ≡ None → (c.failed ≡ None) × WentOf call
went_on S c got {call} {es} {next} t alive = at (fate S c got t)
  where
    at : Fate c call es next → (c.failed ≡ None) × WentOf call
    at (inl same) = (sym same.0 ∙ alive, same.1)
    at (inr it) = absurd (let ends = it.ends in cc (ends, alive))

went_after : (log : List Call) (call : Option Call) → AllWent log → WentOf call → AllWent (log_after log call)
went_after log None all went = all
went_after log (Some call) all went = all-append (λ (x : Call). x.went ≡ true) log (call ∷ []) all (went, tt)

-- the log and the journal after a turn of a run that goes on
ends_fate : (c : Control) (log : List Call) (journal : List Entry) (n : ℕ) (call : Option Call) (es : List Event) (next : Control) → c.failed ≡ None → AllWent log → AllBelow (length log) journal
    → Fate c call es next → EndsAtFailure (log_after log call) (journal ++ stamped n es) next.failed
ends_fate c log journal n call es next alive all below (inl same) =
    subst (EndsAtFailure (log_after log call) (journal ++ stamped n es)) (sym (same.0 ∙ alive)) (went_after log call all same.1)
ends_fate c log journal n call es next alive all below (inr it) =
    subst (λ (x : Option Call). EndsAtFailure (log_after log x) (journal ++ stamped n es) next.failed) (sym it.last)
    (subst (EndsAtFailure (log ++ record { disk = it.disk; what = it.what; went = false } ∷ []) (journal ++ stamped n es)) (sym it.ends) (record {
      before = log;
      last = record { disk = it.disk; what = it.what; went = false };
      parts = refl;
      went = all;
      on_disk = refl;
      fails = refl;
      behind = subst (λ xs. AllBelow (length log) (journal ++ stamped n xs)) (sym it.quiet) (subst (AllBelow (length log)) (sym (append-nil journal)) below);
    }))

ends_turn : (S : Setting) (w : World) (a : Action) → AllBelow (length w.log) w.journal → EndsAtFailure w.log w.journal w.control.failed
    → EndsAtFailure (happens S w a).log (happens S w a).journal (happens S w a).control.failed
ends_turn S w a below h = at w.control.failed refl
  where
    at : (failed : Option ℕ) → w.control.failed ≡ failed → EndsAtFailure (happens S w a).log (happens S w a).journal (happens S w a).control.failed
    at None is =
        ends_fate w.control w.log w.journal (calls_after w.calls (call_of S w.control a)) (call_of S w.control a) (turned S w.control a).events (turned S w.control a).next is
        (subst (EndsAtFailure w.log w.journal) is h) below (fate S w.control (got_of a) (turns_of S w.control a))
    at (Some d) is =
        let no_call : call_of S w.control a ≡ None = ap (call_unless S w.control a) is in
        let same : turned S w.control a ≡ idle w.control = ap (turned_unless S w.control a) is in
        subst (λ (x : Option Call). EndsAtFailure (log_after w.log x) (w.journal ++ stamped (calls_after w.calls x) (turned S w.control a).events) (turned S w.control a).next.failed) (sym no_call)
        (subst (λ (o : Out). EndsAtFailure w.log (w.journal ++ stamped w.calls o.events) o.next.failed) (sym same)
        (subst (λ journal. EndsAtFailure w.log journal w.control.failed) (sym (append-nil w.journal)) h))

-- a run ends at the call that failed
pub ends_reached : (S : Setting) (w : World) → Reached S w → EndsAtFailure w.log w.journal w.control.failed
ends_reached S w opens = tt
ends_reached S w (goes {w = v} r a) =
    let counted = counted_reached S v r in
    ends_turn S v a (subst (λ n. AllBelow n v.journal) counted.calls counted.below) (ends_reached S v r)
