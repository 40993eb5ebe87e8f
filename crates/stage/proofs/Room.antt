-- A turn is taken only where the journal has room for four entries more.
use Rattle.std.proofs.Common.{◌≡◌, ℕ, ◌+◌, ◌≤◌, false, List, [], ◌∷◌, ◌++◌, length, Option, sym, subst}
use Rattle.units.specs.declared.disk.Sector.{Sector}
use Rattle.device_log.specs.Log.{Call}
use Rattle.array_model.specs.declared.journal.Entry.{Entry}
use Rattle.array_model.specs.declared.journal.Event.{Event}
use Rattle.array_model.specs.declared.journal.Event.TheVariants.{Submit}
use Rattle.array_model.specs.Events.{AtEachFrom}
use Rattle.array_model.specs.Room.{BeginsWithRoom, comes_second}
use Rattle.array_model.proofs.Journals.{at_each_more}
use Rattle.stage_machine.specs.Setting.{Setting}
use Rattle.stage_machine.specs.States.{State, IsReadonly, IsReadAuto, IsClean, IsPending, IsActive, IsIdle, asked_events}
use Rattle.stage_machine.specs.Machine.{Control, Action, Out, turned, got_of, stamped}
use Rattle.stage_machine.proofs.Turns.{Turns, turns_of, nothing, fails, anchors, settles, ends, begins, readies, actives, cleans, rests, pasts, asks_read, asks_write, puts, syncs, gets, acks}

-- an entry that isn't of the same turn as the one before it has room for four
abbrev HasRoom : ℕ → List Entry → Entry → Type 0
HasRoom room front e = comes_second e.event ≡ false → length front + 4 ≤ room

module _ (S : Setting) (c : Control) (room : ℕ) (journal : List Entry) (left : length journal + 4 ≤ room) (n : ℕ) where
  -- what a turn enters: nothing, an entry, or a submit and what comes with it
  room_turns : (got : Sector) {call : Option Call} {es : List Event} {next : Control} → Turns S c got call es next
      → AtEachFrom (HasRoom room) journal (stamped n es)
  room_turns got nothing = tt
  room_turns got (fails d what asked) = tt
  room_turns got (anchors m d ds is) = tt
  room_turns got (settles m d e ds is) = tt
  room_turns got (ends m d is) = (λ first. left, tt)
  room_turns got (begins d ds is some why) = (λ first. left, tt)
  room_turns got (readies is s t) = (λ first. left, tt)
  room_turns got (actives is s t r) = (λ first. left, tt)
  room_turns got (cleans is s t) = (λ first. left, tt)
  room_turns got (rests t calm) = (λ first. left, tt)
  room_turns got (pasts k i rest here none) = (λ first. left, (λ first. absurd (cc first), tt))
  room_turns got (asks_read k i rest place here is w ready) = (λ first. left, tt)
  room_turns got (asks_write k i rest place here is w ready) = (λ first. left, at c.state)
    where
      at : (state : State)
          → AtEachFrom (HasRoom room) (journal ++ record { stamp = n; event = Submit i } ∷ []) (stamped n (asked_events state))
      at IsReadonly = tt
      at IsReadAuto = (λ first. absurd (cc first), tt)
      at IsClean = (λ first. absurd (cc first), tt)
      at IsPending = tt
      at IsActive = tt
      at IsIdle = tt
  room_turns got (puts k i rest step d ds here need) = tt
  room_turns got (syncs k i rest step d ds here need) = tt
  room_turns got (gets k i rest step d here need) = tt
  room_turns got (acks k i rest step answer here need) = (λ first. left, tt)

  -- the journal that the turn leaves
  pub room_goes : (a : Action) (out : Out) → out ≡ turned S c a → BeginsWithRoom room journal
      → BeginsWithRoom room (journal ++ stamped n out.events)
  room_goes a out is old =
      at_each_more (HasRoom room) journal (stamped n out.events) old
      (subst (λ (o : Out). AtEachFrom (HasRoom room) journal (stamped n o.events)) (sym is)
      (room_turns (got_of a) (turns_of S c a)))
