-- Entries that the machine never makes, and volumes that it doesn't have.
use Rattle.std.proofs.Common.{◌≡◌, ℕ, ◌+◌, ◌==◌, Bool, true, false, cond, nat_le, List, [], ◌∷◌, refl, sym, subst, arith, Option}
use Rattle.std.specs.Prelude.{⊤}
use Rattle.std.specs.List.{AllByRecursion}
use Rattle.array_model.specs.declared.journal.Entry.{Entry}
use Rattle.array_model.specs.declared.journal.Event.{Event}
use Rattle.array_model.specs.declared.journal.Event.TheVariants.{Begin, End, Spare, Ready, Pass, PassEnd, Active, Clean, Unblock, Posted, Applied, Declined, Submit, Pending, Ack, Idle, Fault, Takeover}
use Rattle.array_model.specs.Events.{count, is_spare, is_ready, is_pass, is_pass_end, is_active, is_clean, is_unblock, is_posted, is_settled, is_pending, is_idle, is_fault, is_takeover}
use Rattle.units.specs.declared.disk.Sector.{Sector}
use Rattle.device_log.specs.Log.{Call}
use Rattle.array_model.specs.Events.{has, is_faulty, up_to}
use Rattle.array_model.specs.Rounds.{is_fault_of, is_lost}
use Rattle.array_model.specs.Start.{Disks}
use Rattle.array_model.proofs.Journals.{count-append, all-append}
use Rattle.stage_machine.specs.Setting.{Setting}
use Rattle.stage_machine.specs.States.{State, IsReadonly, IsReadAuto, IsClean, IsPending, IsActive, IsIdle, asked_events}
use Rattle.stage_machine.specs.Machine.{Control, World, Reached, opens, goes, stamped, calls_after, turned, call_of, got_of}
use Rattle.stage_machine.proofs.Turns.{Turns, turns_of, nothing, fails, anchors, settles, ends, begins, readies, actives, cleans, rests, pasts, asks_read, asks_write, puts, syncs, gets, acks}

abbrev pub IsOurs : Event → Type 0
IsOurs (Begin g) = ⊤
IsOurs (End g) = ⊤
IsOurs (Ready v) = v.0 ≡ 0
IsOurs (Active v) = v.0 ≡ 0
IsOurs (Clean v) = v.0 ≡ 0
IsOurs (Pending v) = v.0 ≡ 0
IsOurs (Idle v) = v.0 ≡ 0
IsOurs (Submit i) = ⊤
IsOurs (Ack i answer) = ⊤
IsOurs _ = ⊥

abbrev pub AreOurs : List Entry → Type 0
AreOurs journal = AllByRecursion (λ e. IsOurs e.event) journal

pub count_none : (test : Event → Bool) → ((e : Event) → IsOurs e → test e ≡ false) → (journal : List Entry) → AreOurs journal → count test journal ≡ 0
count_none test never [] ours = refl
count_none test never (x ∷ xs) ours =
    let first : count test (x ∷ []) ≡ 0 = at (test x.event) (never x.event ours.0) in
    omega (arith, count-append test (x ∷ []) xs, first, count_none test never xs ours.1)
  where
    at : (b : Bool) → b ≡ false → 0 + cond b 1 0 ≡ 0
    at true is = absurd cc
    at false is = refl

pub no_pass : (v : ℕ) (e : Event) → IsOurs e → is_pass v e ≡ false
no_pass v (Pass w row) ours = absurd ours
no_pass v _ ours = refl

pub no_pass_end : (v : ℕ) (e : Event) → IsOurs e → is_pass_end v e ≡ false
no_pass_end v (PassEnd w) ours = absurd ours
no_pass_end v _ ours = refl

pub no_fault : (d : ℕ) (e : Event) → IsOurs e → is_fault d e ≡ false
no_fault d (Fault e) ours = absurd ours
no_fault d _ ours = refl

pub no_unblock : (d : ℕ) (e : Event) → IsOurs e → is_unblock d e ≡ false
no_unblock d (Unblock e) ours = absurd ours
no_unblock d _ ours = refl

pub no_takeover : (e : Event) → IsOurs e → is_takeover e ≡ false
no_takeover Takeover ours = absurd ours
no_takeover _ ours = refl

pub no_spare : (e : Event) → IsOurs e → is_spare e ≡ false
no_spare (Spare d) ours = absurd ours
no_spare _ ours = refl

pub no_settled : (e : Event) → IsOurs e → is_settled e ≡ false
no_settled (Applied n) ours = absurd ours
no_settled (Declined n kind) ours = absurd ours
no_settled _ ours = refl

pub no_posted : (e : Event) → IsOurs e → is_posted e ≡ false
no_posted (Posted n) ours = absurd ours
no_posted _ ours = refl

-- another volume than 0
elsewhere : (v w : ℕ) → (0 == v) ≡ false → w ≡ 0 → (w == v) ≡ false
elsewhere v w other is = subst (λ z. (z == v) ≡ false) (sym is) other

pub no_ready : (v : ℕ) → (0 == v) ≡ false → (e : Event) → IsOurs e → is_ready v e ≡ false
no_ready v other (Ready w) ours = elsewhere v w.0 other ours
no_ready v other _ ours = refl

pub no_active : (v : ℕ) → (0 == v) ≡ false → (e : Event) → IsOurs e → is_active v e ≡ false
no_active v other (Active w) ours = elsewhere v w.0 other ours
no_active v other _ ours = refl

pub no_pending : (v : ℕ) → (0 == v) ≡ false → (e : Event) → IsOurs e → is_pending v e ≡ false
no_pending v other (Pending w) ours = elsewhere v w.0 other ours
no_pending v other _ ours = refl

pub no_idle : (v : ℕ) → (0 == v) ≡ false → (e : Event) → IsOurs e → is_idle v e ≡ false
no_idle v other (Idle w) ours = elsewhere v w.0 other ours
no_idle v other _ ours = refl

pub no_clean : (v : ℕ) → (0 == v) ≡ false → (e : Event) → IsOurs e → is_clean v e ≡ false
no_clean v other (Clean w) ours = elsewhere v w.0 other ours
no_clean v other _ ours = refl

-- EACH RUN

pub ours_turn : (S : Setting) (c : Control) (got : Sector) (n : ℕ) {call : Option Call} {es : List Event} {next : Control} → Turns S c got call es next → AreOurs (stamped n es)
ours_turn S c got n nothing = tt
ours_turn S c got n (fails d what asked) = tt
ours_turn S c got n (anchors m d ds is) = tt
ours_turn S c got n (settles m d e ds is) = tt
ours_turn S c got n (ends m d is) = (tt, tt)
ours_turn S c got n (begins d ds is some why) = (tt, tt)
ours_turn S c got n (readies is s t) = (refl, tt)
ours_turn S c got n (actives is s t r) = (refl, tt)
ours_turn S c got n (cleans is s t) = (refl, tt)
ours_turn S c got n (rests t calm) = (refl, tt)
ours_turn S c got n (pasts k i rest has none) = (tt, (tt, tt))
ours_turn S c got n (asks_read k i rest place has is w live) = (tt, tt)
ours_turn S c got n (asks_write k i rest place has is w live) = (tt, at c.state)
  where
    at : (state : State) → AreOurs (stamped n (asked_events state))
    at IsReadonly = tt
    at IsReadAuto = (refl, tt)
    at IsClean = (refl, tt)
    at IsPending = tt
    at IsActive = tt
    at IsIdle = tt
ours_turn S c got n (puts k i left step d ds has need) = tt
ours_turn S c got n (syncs k i left step d ds has need) = tt
ours_turn S c got n (gets k i left step d has need) = tt
ours_turn S c got n (acks k i left step answer has need) = (tt, tt)

pub ours_reached : (S : Setting) (w : World) → Reached S w → AreOurs w.journal
ours_reached S w opens = tt
ours_reached S w (goes {w = v} r a) =
    let n = calls_after v.calls (call_of S v.control a) in
    all-append (λ (e : Entry). IsOurs e.event) v.journal (stamped n (turned S v.control a).events) (ours_reached S v r) (ours_turn S v.control (got_of a) n (turns_of S v.control a))

-- no disk has a fault in it
pub none_faulty : (d : ℕ) (journal : List Entry) → AreOurs journal → is_faulty d journal ≡ false
none_faulty d [] ours = refl
none_faulty d (x ∷ xs) ours = rw (no_fault d x.event ours.0) (none_faulty d xs ours.1)

no_fault_of : (disks : Disks) (serial : List ℕ) (e : Event) → IsOurs e → is_fault_of disks serial e ≡ false
no_fault_of disks serial (Fault d) ours = absurd ours
no_fault_of disks serial _ ours = refl

pub none_lost : (disks : Disks) (serial : List ℕ) (journal : List Entry) → AreOurs journal → is_lost disks serial journal ≡ false
none_lost disks serial [] ours = refl
none_lost disks serial (x ∷ xs) ours = rw (no_fault_of disks serial x.event ours.0) (none_lost disks serial xs ours.1)

pub ours_up_to : (n : ℕ) (journal : List Entry) → AreOurs journal → AreOurs (up_to n journal)
ours_up_to n [] ours = tt
ours_up_to n (x ∷ xs) ours = at (nat_le x.stamp n) (ours_up_to n xs ours.1)
  where
    at : (b : Bool) → AreOurs (up_to n xs) → AreOurs (cond b (x ∷ up_to n xs) (up_to n xs))
    at true more = (ours.0, more)
    at false more = more
