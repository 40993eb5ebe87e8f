-- The form of the journal is kept by each turn.
use Rattle.std.proofs.Common.{◌≡◌, ℕ, ◌+◌, ◌≤◌, ◌==◌, Bool, true, false, List, [], ◌∷◌, ◌++◌, refl, subst, arith, Option, Some, None}
use Rattle.std.specs.List.{AllByRecursion, last_or}
use Rattle.std.proofs.lemmas.Bool.Decides.{nat_tests}
use Rattle.units.specs.declared.disk.Sector.{Sector}
use Rattle.device_log.specs.Log.{Call}
use Rattle.array_model.specs.declared.script.OpKind.{OpKind}
use Rattle.array_model.specs.declared.script.OpKind.TheVariants.{Write as OpWrite, Read as OpRead, Whole as OpWhole}
use Rattle.array_model.specs.declared.journal.Entry.{Entry}
use Rattle.array_model.specs.declared.journal.Event.{Event}
use Rattle.array_model.specs.declared.journal.Event.TheVariants.{Submit, Pass, Point}
use Rattle.array_model.specs.Events.{AtEach, AtEachFrom, count, is_begin, is_end, is_ready, is_any_ready, is_active, is_clean, is_any_clean, is_pending, is_any_pending, is_idle, is_submit_in, is_pass, is_pass_end, is_fault, is_unblock, is_takeover, is_spare, is_settled, is_posted}
use Rattle.array_model.specs.Script.{is_write_in, kind_at}
use Rattle.array_model.specs.Form.{IsJournal, NamesOp}
use Rattle.array_model.specs.Counts.{KeepsVolumeCounts, PendingAfter, PassAfter}
use Rattle.array_model.proofs.Journals.{at_each_more, count-append, all-append}
use Rattle.array_model.specs.Renewal.{FitsGeneration}
use Rattle.stage_machine.specs.Setting.{Setting, Renews}
use Rattle.stage_machine.specs.Opens.{AsksFirst, StandsOnAll}
use Rattle.stage_machine.specs.States.{State, IsReadonly, IsReadAuto, IsClean, IsPending, IsActive, IsIdle, asked_events}
use Rattle.stage_machine.specs.Jobs.{is_write, is_write_kind}
use Rattle.stage_machine.specs.Machine.{Control, World, Action, Reached, opens, goes, happens, stamped, calls_after, turned, call_of, got_of}
use Rattle.stage_machine.proofs.Turns.{Turns, turns_of, nothing, fails, anchors, settles, ends, begins, readies, actives, cleans, rests, pasts, asks_read, asks_write, puts, syncs, gets, acks}
use Rattle.stage_machine.proofs.Moments.{counted_reached}
use Rattle.stage_machine.proofs.Clients.{Mine, mine_reached, of_left, of_job, op_below, kind_first}
use Rattle.stage_machine.proofs.Stands.{GoodRound, good_reached, fitted}
use Rattle.stage_machine.proofs.Ours.{AreOurs, IsOurs, ours_turn, count_none, no_pass, no_pass_end, no_fault, no_unblock, no_takeover, no_spare, no_settled, no_posted, no_ready, no_active, no_pending, no_idle, no_clean}
use Rattle.journal_law.proofs.Tallies.{readonly, pending, awake, resting, going, due, ready_step, active_step, pending_step, idle_step, clean_step, end_step, begin_step}

pub record Kept (S : Setting) (w : World) : Type 0 where
  pub named : AllByRecursion (λ e. NamesOp S.asked.ops e.event) w.journal
  pub ours : AreOurs w.journal
  pub in_turn : AtEach (λ front e. PendingAfter S.asked.ops front e.stamp e.event) w.journal
  pub passes : AtEach (λ front e. PassAfter S.start S.asked front e.event) w.journal
  pub ready : count (is_ready 0) w.journal + readonly w.control.state ≤ 1
  pub active : count (is_active 0) w.journal + pending w.control.state ≤ count (is_pending 0) w.journal
  pub pending_one : count (is_pending 0) w.journal ≤ count (is_submit_in S.asked.ops 0) w.journal
  pub idle : count (is_idle 0) w.journal + awake w.control.state ≤ count (is_submit_in S.asked.ops 0) w.journal
  pub clean : count (is_clean 0) w.journal + resting w.control.state ≤ count (is_idle 0) w.journal
  pub ends_begun : count is_end w.journal + going w.control.round.phase ≤ count is_begin w.journal
  pub begins_due : count is_begin w.journal + due S w.control ≤ 1 + count is_any_pending w.journal + count is_any_ready w.journal + count is_any_clean w.journal

-- ONE VOLUME

pub write_first : (S : Setting) → AsksFirst S → (i : ℕ) → is_write S i ≡ true → is_write_in S.asked.ops 0 i ≡ true
write_first S asks i w = at (kind_at S.asked.ops i) refl w
  where
    at : (kind : Option OpKind) → kind_at S.asked.ops i ≡ kind → is_write_kind kind ≡ true → is_write_in S.asked.ops 0 i ≡ true
    at None is w = absurd cc
    at (Some (OpWrite v s value)) is w =
        let zero_is : v.0 ≡ 0 = kind_first S.asked.ops i (OpWrite v s value) asks.volumes is in
        rw (is, zero_is) refl
    at (Some (OpRead v s)) is w = absurd cc
    at (Some (OpWhole v)) is w = absurd cc

last-append : {X : Type 0} (o : Option X) (xs : List X) (x : X) → last_or o (xs ++ x ∷ []) ≡ Some x
last-append o [] x = refl
last-append o (y ∷ xs) x = last-append (Some y) xs x

-- ENTRIES OF A TURN

module _ (S : Setting) (c : Control) (got : Sector) (n : ℕ) (mine : Mine S c) (asks : AsksFirst S) where
  named_turn : {call : Option Call} {es : List Event} {next : Control} → Turns S c got call es next → AllByRecursion (λ e. NamesOp S.asked.ops e.event) (stamped n es)
  named_turn nothing = tt
  named_turn (fails d what asked) = tt
  named_turn (anchors m d ds is) = tt
  named_turn (settles m d e ds is) = tt
  named_turn (ends m d is) = (tt, tt)
  named_turn (begins d ds is some why) = (tt, tt)
  named_turn (readies is s t) = (tt, tt)
  named_turn (actives is s t r) = (tt, tt)
  named_turn (cleans is s t) = (tt, tt)
  named_turn (rests t calm) = (tt, tt)
  named_turn (pasts k i rest has none) = let lt = op_below S.asked.ops k i (of_left S c k i rest _ mine has) in (lt, (lt, tt))
  named_turn (asks_read k i rest place has is w live) = (op_below S.asked.ops k i (of_left S c k i rest _ mine has), tt)
  named_turn (asks_write k i rest place has is w live) = (op_below S.asked.ops k i (of_left S c k i rest _ mine has), at c.state)
    where
      at : (state : State) → AllByRecursion (λ e. NamesOp S.asked.ops e.event) (stamped n (asked_events state))
      at IsReadonly = tt
      at IsReadAuto = (tt, tt)
      at IsClean = (tt, tt)
      at IsPending = tt
      at IsActive = tt
      at IsIdle = tt
  named_turn (puts k i left step d ds has need) = tt
  named_turn (syncs k i left step d ds has need) = tt
  named_turn (gets k i left step d has need) = tt
  named_turn (acks k i left step answer has need) = (op_below S.asked.ops k i (of_job S c k i left step mine has).mine, tt)

-- no pass, and no point
passes_ours : (S : Setting) (front new : List Entry) → AreOurs new → AtEachFrom (λ front e. PassAfter S.start S.asked front e.event) front new
passes_ours S front [] ours = tt
passes_ours S front (x ∷ xs) ours = (at x.event ours.0, passes_ours S (front ++ x ∷ []) xs ours.1)
  where
    at : (e : Event) → IsOurs e → PassAfter S.start S.asked front e
    at (Pass v row) h = absurd h
    at (Point v unit) h = absurd h
    at _ h = tt

in_turn_turn : (S : Setting) (asks : AsksFirst S) (c : Control) (got : Sector) (n : ℕ) (journal : List Entry) {call : Option Call} {es : List Event} {next : Control}
    → Turns S c got call es next → AtEachFrom (λ front e. PendingAfter S.asked.ops front e.stamp e.event) journal (stamped n es)
in_turn_turn S asks c got n journal nothing = tt
in_turn_turn S asks c got n journal (fails d what asked) = tt
in_turn_turn S asks c got n journal (anchors m d ds is) = tt
in_turn_turn S asks c got n journal (settles m d e ds is) = tt
in_turn_turn S asks c got n journal (ends m d is) = (tt, tt)
in_turn_turn S asks c got n journal (begins d ds is some why) = (tt, tt)
in_turn_turn S asks c got n journal (readies is s t) = (tt, tt)
in_turn_turn S asks c got n journal (actives is s t r) = (tt, tt)
in_turn_turn S asks c got n journal (cleans is s t) = (tt, tt)
in_turn_turn S asks c got n journal (rests t calm) = (tt, tt)
in_turn_turn S asks c got n journal (pasts k i rest has none) = (tt, (tt, tt))
in_turn_turn S asks c got n journal (asks_read k i rest place has is w live) = (tt, tt)
in_turn_turn S asks c got n journal (asks_write k i rest place has is w live) = (tt, at c.state)
  where
    submit : Entry
    submit = record { stamp = n; event = Submit i }

    at : (state : State) → AtEachFrom (λ front e. PendingAfter S.asked.ops front e.stamp e.event) (journal ++ record { stamp = n; event = Submit i } ∷ []) (stamped n (asked_events state))
    at IsReadonly = tt
    at IsReadAuto = (rw (last-append None journal (record { stamp = n; event = Submit i })) (refl, write_first S asks i w), tt)
    at IsClean = (rw (last-append None journal (record { stamp = n; event = Submit i })) (refl, write_first S asks i w), tt)
    at IsPending = tt
    at IsActive = tt
    at IsIdle = tt
in_turn_turn S asks c got n journal (puts k i left step d ds has need) = tt
in_turn_turn S asks c got n journal (syncs k i left step d ds has need) = tt
in_turn_turn S asks c got n journal (gets k i left step d has need) = tt
in_turn_turn S asks c got n journal (acks k i left step answer has need) = (tt, tt)

-- RUNS

kept_after : (S : Setting) → AsksFirst S → Renews S → StandsOnAll S → (w : World) (a : Action) → FitsGeneration (happens S w a).control.round.note → Mine S w.control → GoodRound S w.control.round → Kept S w → Kept S (happens S w a)
kept_after S asks renews on w a fits mine good k =
    let c = w.control in
    let n = calls_after w.calls (call_of S c a) in
    let new = stamped n (turned S c a).events in
    let t = turns_of S c a in
    let first = write_first S asks in
    let more : (test : Event → Bool) → count test (w.journal ++ new) ≡ count test w.journal + count test new = λ test. count-append test w.journal new in
    record {
      named = all-append (λ (e : Entry). NamesOp S.asked.ops e.event) w.journal new k.named (named_turn S c (got_of a) n mine asks t);
      ours = all-append (λ (e : Entry). IsOurs e.event) w.journal new k.ours (ours_turn S c (got_of a) n t);
      in_turn = at_each_more (λ front e. PendingAfter S.asked.ops front e.stamp e.event) w.journal new k.in_turn (in_turn_turn S asks c (got_of a) n w.journal t);
      passes = at_each_more (λ front e. PassAfter S.start S.asked front e.event) w.journal new k.passes (passes_ours S w.journal new (ours_turn S c (got_of a) n t));
      ready = let step = ready_step S c (got_of a) n first t in omega (arith, more (is_ready 0), k.ready, step);
      active = let step = active_step S c (got_of a) n first t in omega (arith, more (is_active 0), more (is_pending 0), k.active, step);
      pending_one = let step = pending_step S c (got_of a) n first t in omega (arith, more (is_pending 0), more (is_submit_in S.asked.ops 0), k.pending_one, step);
      idle = let step = idle_step S c (got_of a) n first t in omega (arith, more (is_idle 0), more (is_submit_in S.asked.ops 0), k.idle, step);
      clean = let step = clean_step S c (got_of a) n first t in omega (arith, more (is_clean 0), more (is_idle 0), k.clean, step);
      ends_begun = let step = end_step S c (got_of a) n first t in omega (arith, more is_end, more is_begin, k.ends_begun, step);
      begins_due = let step = begin_step S c (got_of a) n first renews on good t fits in omega (arith, more is_begin, more is_any_pending, more is_any_ready, more is_any_clean, k.begins_due, step);
    }

pub kept_reached : (S : Setting) → AsksFirst S → Renews S → StandsOnAll S → (w : World) → FitsGeneration w.control.round.note → Reached S w → Kept S w
kept_reached S asks renews on w fits opens = record {
  named = tt;
  ours = tt;
  in_turn = tt;
  passes = tt;
  ready = omega arith;
  active = omega arith;
  pending_one = omega arith;
  idle = omega arith;
  clean = omega arith;
  ends_begun = omega arith;
  begins_due = omega arith;
}
kept_reached S asks renews on w fits (goes {w = v} r a) =
    let before = fitted S v a fits in
    kept_after S asks renews on v a fits (mine_reached S v r) (good_reached S renews on v before r) (kept_reached S asks renews on v before r)

-- THE LAW

volume_counts : (S : Setting) (w : World) → Kept S w → (v : ℕ) → KeepsVolumeCounts S.asked.ops v w.journal
volume_counts S w k v = at (0 == v) refl
  where
    none : (test : Event → Bool) → ((e : Event) → IsOurs e → test e ≡ false) → count test w.journal ≡ 0
    none test never = count_none test never w.journal k.ours

    zero_counts : KeepsVolumeCounts S.asked.ops 0 w.journal
    zero_counts = record {
      ready = let h = k.ready in omega (arith, h);
      pending = k.pending_one;
      active = let h = k.active in omega (arith, h);
      idle = let h = k.idle in omega (arith, h);
      clean = let h = k.clean in omega (arith, h);
      pass = let h = count_none (is_pass 0) (no_pass 0) w.journal k.ours in omega (arith, h);
      pass_end = let h = count_none (is_pass_end 0) (no_pass_end 0) w.journal k.ours in omega (arith, h);
    }

    at : (b : Bool) → (0 == v) ≡ b → KeepsVolumeCounts S.asked.ops v w.journal
    at true is = let zero_is : 0 ≡ v = grind (arith, nat_tests, is) in subst (λ z. KeepsVolumeCounts S.asked.ops z w.journal) zero_is zero_counts
    at false is = record {
      ready = let h = none (is_ready v) (no_ready v is) in omega (arith, h);
      pending = let h = none (is_pending v) (no_pending v is) in omega (arith, h);
      active = let h = none (is_active v) (no_active v is) in omega (arith, h);
      idle = let h = none (is_idle v) (no_idle v is) in omega (arith, h);
      clean = let h = none (is_clean v) (no_clean v is) in omega (arith, h);
      pass = let h = none (is_pass v) (no_pass v) in omega (arith, h);
      pass_end = let h = none (is_pass_end v) (no_pass_end v) in omega (arith, h);
    }

pub is_journal : (S : Setting) → AsksFirst S → Renews S → StandsOnAll S → (w : World) → FitsGeneration w.control.round.note → Reached S w → IsJournal S.start S.asked w.calls w.journal
is_journal S asks renews on w fits r =
    let k = kept_reached S asks renews on w fits r in
    let counted = counted_reached S w r in
    let never : (test : Event → Bool) → ((e : Event) → IsOurs e → test e ≡ false) → count test w.journal ≡ 0 = λ test no_such. count_none test no_such w.journal k.ours in
    record {
      rises = counted.rises;
      stamped = counted.below;
      named = k.named;
      counts = record {
        volumes = volume_counts S w k;
        disks = λ d. record {
          fault = let h = never (is_fault d) (no_fault d) in omega (arith, h);
          unblock = let h = never (is_unblock d) (no_unblock d) in omega (arith, h);
        };
        takeovers = let h = never is_takeover no_takeover in omega (arith, h);
        ends = let h = k.ends_begun in omega (arith, h);
        spares = let h = never is_spare no_spare in omega (arith, h);
        settled = let h = never is_settled no_settled in omega (arith, h);
        posts = let h = never is_posted no_posted in omega (arith, h);
        begins = let h = k.begins_due in omega (arith, h);
        in_turn = k.in_turn;
        passes = k.passes;
      };
    }
