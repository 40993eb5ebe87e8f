-- Where a round ends, its generation is durable on every working member.
use Rattle.std.proofs.Common.{◌≡◌, ℕ, ◌+◌, true, List, [], ◌∷◌, ◌++◌, length, take, sym, subst, arith, length-append, Option, Some, None}
use Rattle.std.specs.List.{AllByRecursion}
use Rattle.std.proofs.lemmas.List.{take_all}
use Rattle.units.specs.declared.disk.Sector.{Sector}
use Rattle.device_log.specs.Log.{Call, Sync}
use Rattle.array_model.specs.declared.journal.Entry.{Entry}
use Rattle.array_model.specs.declared.journal.Event.{Event}
use Rattle.array_model.specs.declared.journal.Event.TheVariants.{End, Submit}
use Rattle.array_model.specs.Blocks.{Laid}
use Rattle.array_model.specs.Events.{AtEachFrom}
use Rattle.array_model.specs.Moments.{AllBelow}
use Rattle.array_model.specs.Rounds.{EndedOver, EndsOnWorking}
use Rattle.array_model.specs.Renewal.{FitsGeneration}
use Rattle.array_model.proofs.Journals.{at_each_more}
use Rattle.stage_machine.specs.Setting.{Setting, Renews}
use Rattle.stage_machine.specs.Opens.{StandsOnAll, IsFirstVolume}
use Rattle.stage_machine.specs.Rounds.{AtSync, Going}
use Rattle.stage_machine.specs.States.{State, IsReadonly, IsReadAuto, IsClean, IsPending, IsActive, IsIdle, asked_events}
use Rattle.stage_machine.specs.Machine.{Control, World, Reached, opens, goes, call_of, got_of, turned, stamped, calls_after, log_after}
use Rattle.stage_machine.proofs.Turns.{Turns, turns_of, nothing, fails, anchors, settles, ends, begins, readies, actives, cleans, rests, pasts, asks_read, asks_write, puts, syncs, gets, acks}
use Rattle.stage_machine.proofs.Moments.{counted_reached, at_each_before}
use Rattle.stage_machine.proofs.Clients.{Mine, mine_reached}
use Rattle.stage_machine.proofs.Stands.{GoodRound, good_reached, fitted}
use Rattle.stage_machine.proofs.Targets.{Stand, stand_turns, stand_reached}
use Rattle.stage_machine.proofs.Durable.{durable_as}
use Rattle.stage_machine.proofs.Finished.{IsFine, fine_reached}

abbrev Over : Setting → List Call → List Entry → Entry → Type 0
Over S calls front e = EndedOver S.start calls (front ++ e ∷ []) e.event

module _ (S : Setting) (on : StandsOnAll S) (volume : IsFirstVolume S) (log : List Call) (c : Control) (mine : Mine S c) (good : GoodRound S c.round) (stand : Stand S log c.round)
    (journal : List Entry) (n : ℕ) (count : n ≡ length log) (got : Sector) where
  -- the last target was synced
  ended_over : (m : Laid) (d : ℕ) → c.round.phase ≡ Going m AtSync (d ∷ []) → AllByRecursion (IsFine S) (log_after log (Some (record { disk = d; what = Sync; went = true })))
      → Over S (take (n + 1) (log ++ record { disk = d; what = Sync; went = true } ∷ [])) journal (record { stamp = n + 1; event = End (S.start.words.generation m.anchor) })
  ended_over m d is fine =
      let sync : Call = record { disk = d; what = Sync; went = true } in
      let through = journal ++ record { stamp = n + 1; event = End (S.start.words.generation m.anchor) } ∷ [] in
      let whole : take (n + 1) (log ++ sync ∷ []) ≡ log ++ sync ∷ [] = take_all (n + 1) (log ++ sync ∷ []) (omega (arith, count, length-append log (sync ∷ []))) in
      subst (λ calls. EndedOver S.start calls through (End (S.start.words.generation m.anchor))) (sym whole)
      (durable_as S on volume (λ a. S.start.words.generation a.anchor ≡ S.start.words.generation m.anchor) (log ++ sync ∷ []) through m fine
      (stand_turns S volume log c mine good stand got (ends m d is)) (λ block says. says.generation))

  endings_turns : {call : Option Call} {es : List Event} {next : Control} → Turns S c got call es next → AllByRecursion (IsFine S) (log_after log call)
      → AtEachFrom (λ front e. Over S (take e.stamp (log_after log call)) front e) journal (stamped (calls_after n call) es)
  endings_turns nothing fine = tt
  endings_turns (fails d what asked) fine = tt
  endings_turns (anchors m d ds is) fine = tt
  endings_turns (settles m d e ds is) fine = tt
  endings_turns (ends m d is) fine = (ended_over m d is fine, tt)
  endings_turns (begins d ds is some why) fine = (tt, tt)
  endings_turns (readies is s t) fine = (tt, tt)
  endings_turns (actives is s t r) fine = (tt, tt)
  endings_turns (cleans is s t) fine = (tt, tt)
  endings_turns (rests t calm) fine = (tt, tt)
  endings_turns (pasts k i more there none) fine = (tt, (tt, tt))
  endings_turns (asks_read k i more place there is w ready) fine = (tt, tt)
  endings_turns (asks_write k i more place there is w ready) fine = (tt, at c.state)
    where
      at : (state : State) → AtEachFrom (λ front e. Over S (take e.stamp log) front e) (journal ++ record { stamp = n; event = Submit i } ∷ []) (stamped n (asked_events state))
      at IsReadonly = tt
      at IsReadAuto = (tt, tt)
      at IsClean = (tt, tt)
      at IsPending = tt
      at IsActive = tt
      at IsIdle = tt
  endings_turns (puts k i left step d ds there need) fine = tt
  endings_turns (syncs k i left step d ds there need) fine = tt
  endings_turns (gets k i left step d there need) fine = tt
  endings_turns (acks k i left step answer there need) fine = (tt, tt)

pub endings_reached : (S : Setting) → Renews S → StandsOnAll S → IsFirstVolume S → (w : World) → FitsGeneration w.control.round.note → Reached S w → EndsOnWorking S.start w.log w.journal
endings_reached S renews on volume w fits opens = tt
endings_reached S renews on volume w fits (goes {w = v} r a) =
    let before = fitted S v a fits in
    let c = v.control in
    let x = call_of S c a in
    let counted = counted_reached S v r in
    let below : AllBelow (length v.log) v.journal = subst (λ z. AllBelow z v.journal) counted.calls counted.below in
    at_each_more (λ front e. Over S (take e.stamp (log_after v.log x)) front e) v.journal (stamped (calls_after v.calls x) (turned S c a).events)
    (at_each_before (Over S) v.log x v.journal below (endings_reached S renews on volume v before r))
    (endings_turns S on volume v.log c (mine_reached S v r) (good_reached S renews on v before r) (stand_reached S renews on volume v before r)
    v.journal v.calls counted.calls (got_of a) (turns_of S c a) (fine_reached S renews on volume w fits (goes r a)))
