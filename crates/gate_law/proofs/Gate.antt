-- The write gate law, kept by each turn.
use Rattle.std.proofs.Common.{◌≡◌, ℕ, ◌==◌, Bool, true, false, List, [], ◌∷◌, ◌++◌, length, take, refl, ap, sym, ◌∙◌, subst, arith, append_assoc, ◌⊎◌, inl, inr, Option, Some, None}
use Rattle.std.specs.List.{AllByRecursion}
use Rattle.std.proofs.lemmas.Bool.Decides.{nat_tests}
use Rattle.std.proofs.lemmas.List.{take_all}
use Rattle.units.specs.declared.disk.Sector.{Sector}
use Rattle.device_log.specs.Log.{Call}
use Rattle.array_model.specs.declared.script.OpKind.{OpKind}
use Rattle.array_model.specs.declared.script.OpKind.TheVariants.{Write as OpWrite, Read as OpRead, Whole as OpWhole}
use Rattle.array_model.specs.declared.journal.Entry.{Entry}
use Rattle.array_model.specs.declared.journal.Event.{Event}
use Rattle.array_model.specs.declared.journal.Event.TheVariants.{Submit}
use Rattle.array_model.specs.Script.{kind_at, write_at, write_in}
use Rattle.array_model.specs.Blocks.{Laid}
use Rattle.array_model.specs.Events.{AtEachFrom, is_live, live_at, live_from}
use Rattle.array_model.specs.Moments.{AllBelow}
use Rattle.array_model.specs.Rounds.{DurableOnWorking}
use Rattle.array_model.specs.WriteGate.{WriteGate, IsDirty, ActiveOver, AckWhileLive, IsLiveFor, DirtyWhileLive}
use Rattle.array_model.proofs.Journals.{at_each_more, all_first}
use Rattle.array_model.specs.Renewal.{FitsGeneration}
use Rattle.stage_machine.specs.Setting.{Setting, Renews, has_disk}
use Rattle.stage_machine.specs.Opens.{AsksFirst, StandsOnAll, IsFirstVolume}
use Rattle.stage_machine.specs.Rounds.{Step, Phase, Rest, Going}
use Rattle.stage_machine.specs.States.{State, IsReadonly, IsReadAuto, IsClean, IsPending, IsActive, IsIdle, asked_events}
use Rattle.stage_machine.specs.Jobs.{is_write}
use Rattle.stage_machine.specs.Machine.{Control, World, Action, Reached, opens, goes, happens, call_of, got_of, turned, stamped, calls_after, log_after}
use Rattle.stage_machine.proofs.Turns.{Turns, turns_of, nothing, fails, anchors, settles, ends, begins, readies, actives, cleans, rests, pasts, asks_read, asks_write, puts, syncs, gets, acks}
use Rattle.stage_machine.proofs.Moments.{always_more, always_none, EachFront, counted_reached, at_each_before}
use Rattle.stage_machine.proofs.Clients.{Mine, mine_reached, kind_first}
use Rattle.stage_machine.proofs.Stands.{GoodRound, good_reached, fitted}
use Rattle.stage_machine.proofs.Targets.{Stand, stand_turns, stand_reached, disk}
use Rattle.stage_machine.proofs.Durable.{HeldAtRest, held_at_rest, durable_as}
use Rattle.stage_machine.proofs.Ours.{AreOurs, IsOurs, ours_reached}
use Rattle.stage_machine.proofs.Finished.{IsFine, fine_reached}
use Rattle.gate_law.proofs.Live.{live, live-append, live_reached, others_dead, safe_reached, WritesLive, writes_reached, goes_active}

-- DURABLE FACTS

module _ (S : Setting) (on : StandsOnAll S) (volume : IsFirstVolume S) where
  -- a block is dirty where that of the last finished round is
  pub dirty_as : (y : Bool) (log : List Call) (journal : List Entry) (last : Laid) → AllByRecursion (IsFine S) log → HeldAtRest S last log
      → S.start.words.is_dirty last 0 ≡ y → DurableOnWorking S.start log journal (λ m. S.start.words.is_dirty m 0 ≡ y)
  dirty_as y log journal last fine held is_so =
      durable_as S on volume (λ m. S.start.words.is_dirty m 0 ≡ y) log journal last fine held (λ block says. says.dirty 0 ∙ is_so)

  dirty_at : (log : List Call) (journal : List Entry) (last : Laid) → AllByRecursion (IsFine S) log → HeldAtRest S last log
      → S.start.words.is_dirty last 0 ≡ true → IsDirty S.start log journal 0
  dirty_at = dirty_as true

  -- the same of each volume that is live: there is only volume 0
  dirty_live : (log : List Call) (journal : List Entry) (last : Laid) → AllByRecursion (IsFine S) log → AreOurs journal → HeldAtRest S last log
      → (is_live 0 journal ≡ true → S.start.words.is_dirty last 0 ≡ true) → DirtyWhileLive S.start log journal
  dirty_live log journal last fine ours held dirty v alive = at (0 == v) refl
    where
      at : (b : Bool) → (0 == v) ≡ b → IsDirty S.start log journal v
      at true is =
          let zero_is : 0 ≡ v = grind (arith, nat_tests, is) in
          subst (IsDirty S.start log journal) zero_is (dirty_at log journal last fine held (dirty (subst (λ z. is_live z journal ≡ true) (sym zero_is) alive)))
      at false is = absurd (let dead : is_live v journal ≡ false = others_dead v is journal ours in cc (dead, alive))

-- FRONTS OF A TURN'S ENTRIES

abbrev CalmList : List Event → Type 0
CalmList es = AllByRecursion (λ e. (b : Bool) → live_at 0 b e ≡ true → b ≡ true) es

-- a front of calm entries doesn't make the volume live
calm_front : (es : List Event) (n : ℕ) (p q : List Entry) (b : Bool) → CalmList es → stamped n es ≡ p ++ q → live_from 0 b p ≡ true → b ≡ true
calm_front es n [] q b calm is h = h
calm_front [] n (x ∷ p) q b calm is h = absurd cc
calm_front (e ∷ es) n (x ∷ p) q b calm is h =
    let first : record { stamp = n; event = e } ≡ x = cc is in
    let head : e ≡ x.event = ap (λ (y : Entry). y.event) first in
    calm.0 b (subst (λ z. live_at 0 b z ≡ true) (sym head) (calm_front es n p q (live_at 0 b x.event) calm.1 (cc is) h))

-- a turn enters `active` over dirty metadata, or calm entries
record OverDirty (S : Setting) (c : Control) : Type 0 where
  rest : c.round.phase ≡ Rest
  dirty : S.start.words.is_dirty c.round.last 0 ≡ true

calm_turns : (S : Setting) (c : Control) (got : Sector) {call : Option Call} {es : List Event} {next : Control} → Turns S c got call es next → OverDirty S c ⊎ CalmList es
calm_turns S c got nothing = inr tt
calm_turns S c got (fails d what asked) = inr tt
calm_turns S c got (anchors m d ds is) = inr tt
calm_turns S c got (settles m d e ds is) = inr tt
calm_turns S c got (ends m d is) = inr ((λ b h. h), tt)
calm_turns S c got (begins d ds is some why) = inr ((λ b h. h), tt)
calm_turns S c got (readies is s t) = inr ((λ b h. absurd cc), tt)
calm_turns S c got (actives is s t r) = inl (record { rest = is; dirty = r })
calm_turns S c got (cleans is s t) = inr ((λ b h. absurd cc), tt)
calm_turns S c got (rests t calm) = inr ((λ b h. h), tt)
calm_turns S c got (pasts k i rest has_disk none) = inr ((λ b h. h), ((λ b h. h), tt))
calm_turns S c got (asks_read k i rest place has_disk is w ready) = inr ((λ b h. h), tt)
calm_turns S c got (asks_write k i rest place has_disk is w ready) = inr ((λ b h. h), at c.state)
  where
    at : (state : State) → CalmList (asked_events state)
    at IsReadonly = tt
    at IsReadAuto = ((λ b h. absurd cc), tt)
    at IsClean = ((λ b h. absurd cc), tt)
    at IsPending = tt
    at IsActive = tt
    at IsIdle = tt
calm_turns S c got (puts k i left step d ds has_disk need) = inr tt
calm_turns S c got (syncs k i left step d ds has_disk need) = inr tt
calm_turns S c got (gets k i left step d has_disk need) = inr tt
calm_turns S c got (acks k i left step answer has_disk need) = inr ((λ b h. h), tt)

no_round : (p : Phase) (m : Laid) (step : Step) (left : List ℕ) → p ≡ Rest → p ≡ Going m step left → ⊥
no_round Rest m step left a b = absurd cc
no_round (Going x y z) m step left a b = absurd cc

-- while no round is going on, a turn's call leaves what the targets hold
module _ (S : Setting) (volume : IsFirstVolume S) (log : List Call) (c : Control) (mine : Mine S c) (good : GoodRound S c.round) (stand : Stand S log c.round) (got : Sector) where
  still_turns : {call : Option Call} {es : List Event} {next : Control} → Turns S c got call es next → c.round.phase ≡ Rest → HeldAtRest S c.round.last (log_after log call)
  still_turns nothing rest d target = held_at_rest S c.round.last d (disk S log d) c.round.phase rest (stand d target)
  still_turns (fails e what asked) rest d target = held_at_rest S c.round.last d _ c.round.phase rest (stand_turns S volume log c mine good stand got (fails e what asked) d target)
  still_turns (anchors m e ds is) rest d target = absurd (no_round c.round.phase _ _ _ rest is)
  still_turns (settles m e f ds is) rest d target = absurd (no_round c.round.phase _ _ _ rest is)
  still_turns (ends m e is) rest d target = absurd (no_round c.round.phase _ _ _ rest is)
  still_turns (begins e ds is some why) rest d target = held_at_rest S c.round.last d (disk S log d) c.round.phase rest (stand d target)
  still_turns (readies is s t) rest d target = held_at_rest S c.round.last d (disk S log d) c.round.phase rest (stand d target)
  still_turns (actives is s t r) rest d target = held_at_rest S c.round.last d (disk S log d) c.round.phase rest (stand d target)
  still_turns (cleans is s t) rest d target = held_at_rest S c.round.last d (disk S log d) c.round.phase rest (stand d target)
  still_turns (rests t calm) rest d target = held_at_rest S c.round.last d (disk S log d) c.round.phase rest (stand d target)
  still_turns (pasts k i more there none) rest d target = held_at_rest S c.round.last d (disk S log d) c.round.phase rest (stand d target)
  still_turns (asks_read k i more place there is w ready) rest d target = held_at_rest S c.round.last d (disk S log d) c.round.phase rest (stand d target)
  still_turns (asks_write k i more place there is w ready) rest d target = held_at_rest S c.round.last d (disk S log d) c.round.phase rest (stand d target)
  still_turns (puts k i left step e ds there need) rest d target = held_at_rest S c.round.last d _ c.round.phase rest (stand_turns S volume log c mine good stand got (puts k i left step e ds there need) d target)
  still_turns (syncs k i left step e ds there need) rest d target = held_at_rest S c.round.last d _ c.round.phase rest (stand_turns S volume log c mine good stand got (syncs k i left step e ds there need) d target)
  still_turns (gets k i left step e there need) rest d target = held_at_rest S c.round.last d _ c.round.phase rest (stand_turns S volume log c mine good stand got (gets k i left step e there need) d target)
  still_turns (acks k i left step answer there need) rest d target = held_at_rest S c.round.last d (disk S log d) c.round.phase rest (stand d target)

-- ACKNOWLEDGED WRITES

-- an operation that is done is a write, and its volume is live
live_for : (S : Setting) → AsksFirst S → (i : ℕ) (journal : List Entry) → (is_write S i ≡ true → is_live 0 journal ≡ true) → IsLiveFor (write_at S.asked.ops i) journal
live_for S asks i journal alive = at (kind_at S.asked.ops i) refl
  where
    at : (kind : Option OpKind) → kind_at S.asked.ops i ≡ kind → IsLiveFor (write_in kind) journal
    at None is = tt
    at (Some (OpWrite v s value)) is =
        let zero_is : v.0 ≡ 0 = kind_first S.asked.ops i (OpWrite v s value) asks.volumes is in
        subst (λ z. is_live z journal ≡ true) (sym zero_is) (alive (rw is refl))
    at (Some (OpRead v s)) is = tt
    at (Some (OpWhole v)) is = tt

abbrev Acks : Setting → List Entry → Entry → Type 0
Acks S front e = AckWhileLive S.asked.ops front e.event

acks_turn : (S : Setting) → AsksFirst S → (c : Control) (got : Sector) (n : ℕ) (journal : List Entry) → is_live 0 journal ≡ live c.state → WritesLive S c.state c.clients
    → {call : Option Call} {es : List Event} {next : Control} → Turns S c got call es next → AtEachFrom (Acks S) journal (stamped n es)
acks_turn S asks c got n journal word writing nothing = tt
acks_turn S asks c got n journal word writing (fails d what asked) = tt
acks_turn S asks c got n journal word writing (anchors m d ds is) = tt
acks_turn S asks c got n journal word writing (settles m d e ds is) = tt
acks_turn S asks c got n journal word writing (ends m d is) = (tt, tt)
acks_turn S asks c got n journal word writing (begins d ds is some why) = (tt, tt)
acks_turn S asks c got n journal word writing (readies is s t) = (tt, tt)
acks_turn S asks c got n journal word writing (actives is s t r) = (tt, tt)
acks_turn S asks c got n journal word writing (cleans is s t) = (tt, tt)
acks_turn S asks c got n journal word writing (rests t calm) = (tt, tt)
acks_turn S asks c got n journal word writing (pasts k i more there none) = (tt, ((λ done. absurd cc), tt))
acks_turn S asks c got n journal word writing (asks_read k i more place there is w ready) = (tt, tt)
acks_turn S asks c got n journal word writing (asks_write k i more place there is w ready) = (tt, at c.state)
  where
    at : (state : State) → AtEachFrom (Acks S) (journal ++ record { stamp = n; event = Submit i } ∷ []) (stamped n (asked_events state))
    at IsReadonly = tt
    at IsReadAuto = (tt, tt)
    at IsClean = (tt, tt)
    at IsPending = tt
    at IsActive = tt
    at IsIdle = tt
acks_turn S asks c got n journal word writing (puts k i left step d ds there need) = tt
acks_turn S asks c got n journal word writing (syncs k i left step d ds there need) = tt
acks_turn S asks c got n journal word writing (gets k i left step d there need) = tt
acks_turn S asks c got n journal word writing (acks k i left step answer there need) =
    ((λ done. live_for S asks i journal (λ a_write. word ∙ ap live (goes_active S c k i left step _ writing there need (λ none. absurd cc) a_write))), tt)

-- ENTRIES `ACTIVE`

abbrev Over : Setting → List Call → List Entry → Entry → Type 0
Over S calls front e = ActiveOver S.start calls front e.event

-- a turn that enters `active` makes no call
actives_turn : (S : Setting) (on : StandsOnAll S) (volume : IsFirstVolume S) (log : List Call) (c : Control) (got : Sector) (n : ℕ) (journal : List Entry)
    → n ≡ length log → AllByRecursion (IsFine S) log → Stand S log c.round
    → {call : Option Call} {es : List Event} {next : Control} → Turns S c got call es next
    → AtEachFrom (λ front e. Over S (take e.stamp (log_after log call)) front e) journal (stamped (calls_after n call) es)
actives_turn S on volume log c got n journal count fine stand nothing = tt
actives_turn S on volume log c got n journal count fine stand (fails d what asked) = tt
actives_turn S on volume log c got n journal count fine stand (anchors m d ds is) = tt
actives_turn S on volume log c got n journal count fine stand (settles m d e ds is) = tt
actives_turn S on volume log c got n journal count fine stand (ends m d is) = (tt, tt)
actives_turn S on volume log c got n journal count fine stand (begins d ds is some why) = (tt, tt)
actives_turn S on volume log c got n journal count fine stand (readies is s t) = (tt, tt)
actives_turn S on volume log c got n journal count fine stand (actives is s t r) =
    let whole : take n log ≡ log = take_all n log (omega (arith, count)) in
    let held : HeldAtRest S c.round.last log = λ d target. held_at_rest S c.round.last d (disk S log d) c.round.phase is (stand d target) in
    (subst (λ calls. IsDirty S.start calls journal 0) (sym whole) (dirty_at S on volume log journal c.round.last fine held r), tt)
actives_turn S on volume log c got n journal count fine stand (cleans is s t) = (tt, tt)
actives_turn S on volume log c got n journal count fine stand (rests t calm) = (tt, tt)
actives_turn S on volume log c got n journal count fine stand (pasts k i more there none) = (tt, (tt, tt))
actives_turn S on volume log c got n journal count fine stand (asks_read k i more place there is w ready) = (tt, tt)
actives_turn S on volume log c got n journal count fine stand (asks_write k i more place there is w ready) = (tt, at c.state)
  where
    at : (state : State) → AtEachFrom (λ front e. Over S (take e.stamp log) front e) (journal ++ record { stamp = n; event = Submit i } ∷ []) (stamped n (asked_events state))
    at IsReadonly = tt
    at IsReadAuto = (tt, tt)
    at IsClean = (tt, tt)
    at IsPending = tt
    at IsActive = tt
    at IsIdle = tt
actives_turn S on volume log c got n journal count fine stand (puts k i left step d ds there need) = tt
actives_turn S on volume log c got n journal count fine stand (syncs k i left step d ds there need) = tt
actives_turn S on volume log c got n journal count fine stand (gets k i left step d there need) = tt
actives_turn S on volume log c got n journal count fine stand (acks k i left step answer there need) = (tt, tt)

-- RUNS

module _ (S : Setting) (asks : AsksFirst S) (renews : Renews S) (on : StandsOnAll S) (volume : IsFirstVolume S) where
  fronts : (w : World) (r : Reached S w) (a : Action) → FitsGeneration (happens S w a).control.round.note → EachFront (DirtyWhileLive S.start) (happens S w a).log w.journal (stamped (happens S w a).calls (turned S w.control a).events)
  fronts w r a fits p q parts =
      let before = fitted S w a fits in
      let c = w.control in
      let es = (turned S c a).events in
      let t = turns_of S c a in
      let ours : AreOurs (w.journal ++ p) = all_first (λ (e : Entry). IsOurs e.event) (w.journal ++ p) q (subst AreOurs (ap (λ z. w.journal ++ z) parts ∙ sym (append_assoc w.journal p q)) (ours_reached S (happens S w a) (goes r a))) in
      let fine = fine_reached S renews on volume (happens S w a) fits (goes r a) in
      let still : c.round.phase ≡ Rest → HeldAtRest S c.round.last (happens S w a).log =
      still_turns S volume w.log c (mine_reached S w r) (good_reached S renews on w before r) (stand_reached S renews on volume w before r) (got_of a) t in
      elim (calm_turns S c (got_of a) t) [
        | inl over ↦ dirty_live S on volume (happens S w a).log (w.journal ++ p) c.round.last fine ours (still over.rest) (λ alive. over.dirty)
        | inr calm ↦ λ v alive.
            let back : is_live 0 (w.journal ++ p) ≡ true → live c.state ≡ true = λ h.
            calm_front es (happens S w a).calls p q (live c.state) calm parts (sym (live-append 0 false w.journal p ∙ ap (λ b. live_from 0 b p) (live_reached S w r)) ∙ h) in
            only_zero S (happens S w a).log (w.journal ++ p) ours (λ h.
            let safe = safe_reached S w r (back h) in
            dirty_at S on volume (happens S w a).log (w.journal ++ p) c.round.last fine (still safe.rest) safe.dirty) v alive
      ]
    where
      only_zero : (S : Setting) (log : List Call) (journal : List Entry) → AreOurs journal → (is_live 0 journal ≡ true → IsDirty S.start log journal 0) → DirtyWhileLive S.start log journal
      only_zero S log journal ours dirty v alive = at (0 == v) refl
        where
          at : (b : Bool) → (0 == v) ≡ b → IsDirty S.start log journal v
          at true is =
              let zero_is : 0 ≡ v = grind (arith, nat_tests, is) in
              subst (IsDirty S.start log journal) zero_is (dirty (subst (λ z. is_live z journal ≡ true) (sym zero_is) alive))
          at false is = absurd (let dead : is_live v journal ≡ false = others_dead v is journal ours in cc (dead, alive))

  pub gate_reached : (w : World) → FitsGeneration w.control.round.note → Reached S w → WriteGate S.start S.asked.ops w.log w.journal
  gate_reached w fits opens = record {
    at_active = tt;
    at_ack = tt;
    always = always_none (DirtyWhileLive S.start) (λ v alive. absurd cc);
  }
  gate_reached w fits (goes {w = v} r a) =
      let before = fitted S v a fits in
      let old = gate_reached v before r in
      let c = v.control in
      let n = calls_after v.calls (call_of S c a) in
      let new = stamped n (turned S c a).events in
      let counted = counted_reached S v r in
      let t = turns_of S c a in
      let below : AllBelow (length v.log) v.journal = subst (λ z. AllBelow z v.journal) counted.calls counted.below in
      record {
        at_active = at_each_more (λ front e. Over S (take e.stamp (log_after v.log (call_of S c a))) front e) v.journal new
            (at_each_before (Over S) v.log (call_of S c a) v.journal below old.at_active)
            (actives_turn S on volume v.log c (got_of a) v.calls v.journal counted.calls (fine_reached S renews on volume v before r) (stand_reached S renews on volume v before r) t);
        at_ack = at_each_more (Acks S) v.journal new old.at_ack (acks_turn S asks c (got_of a) n v.journal (live_reached S v r) (writes_reached S v r) t);
        always = always_more (DirtyWhileLive S.start) v.log v.journal v.calls (call_of S c a) (turned S c a).events counted.calls counted.below old.always (fronts v r a fits);
      }
