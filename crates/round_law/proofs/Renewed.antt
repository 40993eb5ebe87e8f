-- The block of each round that begins is that of the last finished round, edited.
use Rattle.std.proofs.Common.{◌≡◌, ℕ, ◌+◌, ◌≤◌, List, [], ◌∷◌, ◌++◌, length, take, refl, ap, sym, ◌∙◌, subst, arith, Option, Some, None}
use Rattle.std.specs.Prelude.{⊤}
use Rattle.std.proofs.lemmas.List.{take_all}
use Rattle.units.specs.declared.disk.Sector.{Sector}
use Rattle.device_log.specs.Log.{Call}
use Rattle.array_model.specs.declared.journal.Entry.{Entry}
use Rattle.array_model.specs.declared.journal.Event.{Event}
use Rattle.array_model.specs.declared.journal.Event.TheVariants.{Begin, Submit}
use Rattle.array_model.specs.Blocks.{Laid}
use Rattle.array_model.specs.Events.{AtEach, AtEachFrom}
use Rattle.array_model.specs.Moments.{AllBelow}
use Rattle.array_model.specs.Rounds.{IsFinished}
use Rattle.array_model.specs.Causes.{ArrayState, array_state_of, needs_dirty}
use Rattle.array_model.specs.Renewal.{FitsGeneration}
use Rattle.array_model.specs.RoundBlocks.{BeginsRenewed, RoundsAreRenewed}
use Rattle.array_model.proofs.Journals.{at_each_more, at_each_map, at_each_log}
use Rattle.stage_machine.specs.Setting.{Setting, Renews}
use Rattle.stage_machine.specs.Opens.{AsksFirst, StandsOnAll, IsFirstVolume}
use Rattle.stage_machine.specs.Rounds.{AtAnchor, Phase, Rest, Going, Round}
use Rattle.stage_machine.specs.States.{State, IsReadonly, IsReadAuto, IsClean, IsPending, IsActive, IsIdle, next_dirty, asked_events}
use Rattle.stage_machine.specs.Machine.{Control, World, Reached, opens, goes, turned, call_of, got_of, stamped, calls_after, log_after}
use Rattle.stage_machine.proofs.Turns.{Turns, turns_of, nothing, fails, anchors, settles, ends, begins, readies, actives, cleans, rests, pasts, asks_read, asks_write, puts, syncs, gets, acks}
use Rattle.stage_machine.proofs.Moments.{counted_reached}
use Rattle.stage_machine.proofs.Clients.{mine_reached}
use Rattle.stage_machine.proofs.Stands.{GoodRound, good_reached, fitted}
use Rattle.stage_machine.proofs.Finished.{LeftIn, left_reached}
use Rattle.cause_law.proofs.States.{told_reached}
use Rattle.cause_law.proofs.Recorded.{needs_state}
use Rattle.stage_machine.proofs.Marks.{AllMarks, all_marks_map, written_marks}
use Rattle.round_law.proofs.Facts.{gen, KindOf, kind_turns, marks_more}
use Rattle.round_law.proofs.Law.{Kept, GoingFacts, kept_reached, is_finished, has_finished}

-- the state of volume 0 that a journal tells
abbrev told : Setting → List Entry → ArrayState
told S journal = array_state_of S.start S.asked.ops journal 0

-- A ROUND THAT HAS BEGUN

-- where the round of the highest generation goes on, its block is the phase's
abbrev OfPhase : ℕ → ℕ → Laid → Phase → Type 0
OfPhase g note block Rest = ⊤
OfPhase g note block (Going m step left) = g ≡ note → block ≡ m

abbrev Held : ℕ → Laid → Round → Type 0
Held g block r = (g ≤ r.note) × OfPhase g r.note block r.phase

-- A round of generation g began after `calls`, with `front` in the journal: the log has one block of its generation
-- and no other, which is the edit of the block finished by then.
record Begun (S : Setting) (r : Round) (log calls : List Call) (front : List Entry) (g : ℕ) : Type 0 where
  block : Laid
  marks : AllMarks S (λ a. gen S a ≡ g → a ≡ block) log
  held : Held g block r
  edited : (last : Laid) → IsFinished S.start calls front last → block ≡ S.renew last g (needs_dirty (told S front))

abbrev BegunAt : Setting → Round → List Call → List Call → List Entry → Event → Type 0
BegunAt S r log calls front (Begin g) = Begun S r log calls front g
BegunAt S r log calls front _ = ⊤

abbrev IsBegun : Setting → Round → List Call → List Call → List Entry → Entry → Type 0
IsBegun S r log calls front e = BegunAt S r log calls front e.event

abbrev AllBegun : Setting → Round → List Call → List Entry → Type 0
AllBegun S r log journal = AtEach (λ front e. IsBegun S r log (take e.stamp log) front e) journal

-- ONE TURN

held_turns : (S : Setting) (c : Control) (got : Sector) (g : ℕ) (block : Laid)
    → {call : Option Call} {es : List Event} {next : Control} → Turns S c got call es next
    → Held g block c.round → Held g block next.round
held_turns S c got g block nothing h = h
held_turns S c got g block (fails d what asked) h = h
held_turns S c got g block (anchors m d ds is) h = (h.0, subst (OfPhase g c.round.note block) is h.1)
held_turns S c got g block (settles m d e ds is) h = (h.0, subst (OfPhase g c.round.note block) is h.1)
held_turns S c got g block (ends m d is) h = (h.0, tt)
held_turns S c got g block (begins d ds is some why) h =
    let low = h.0 in
    (omega (arith, low), λ same. absurd (omega (arith, low, same)))
held_turns S c got g block (readies is s t) h = h
held_turns S c got g block (actives is s t r) h = h
held_turns S c got g block (cleans is s t) h = h
held_turns S c got g block (rests t calm) h = h
held_turns S c got g block (pasts k i rest here none) h = h
held_turns S c got g block (asks_read k i rest place here is w ready) h = h
held_turns S c got g block (asks_write k i rest place here is w ready) h = h
held_turns S c got g block (puts k i left step d ds here need) h = h
held_turns S c got g block (syncs k i left step d ds here need) h = h
held_turns S c got g block (gets k i left step d here need) h = h
held_turns S c got g block (acks k i left step answer here need) h = h

-- the book is the last finished round's block
book_turns : (S : Setting) (c : Control) (got : Sector)
    → {call : Option Call} {es : List Event} {next : Control} → Turns S c got call es next
    → c.round.book ≡ c.round.last → next.round.book ≡ next.round.last
book_turns S c got nothing h = h
book_turns S c got (fails d what asked) h = h
book_turns S c got (anchors m d ds is) h = h
book_turns S c got (settles m d e ds is) h = h
book_turns S c got (ends m d is) h = refl
book_turns S c got (begins d ds is some why) h = h
book_turns S c got (readies is s t) h = h
book_turns S c got (actives is s t r) h = h
book_turns S c got (cleans is s t) h = h
book_turns S c got (rests t calm) h = h
book_turns S c got (pasts k i rest here none) h = h
book_turns S c got (asks_read k i rest place here is w ready) h = h
book_turns S c got (asks_write k i rest place here is w ready) h = h
book_turns S c got (puts k i left step d ds here need) h = h
book_turns S c got (syncs k i left step d ds here need) h = h
book_turns S c got (gets k i left step d here need) h = h
book_turns S c got (acks k i left step answer here need) h = h

module _ (S : Setting) (volume : IsFirstVolume S) (c : Control) (good : GoodRound S c.round)
    (left : LeftIn S c.round.phase) (log : List Call) (journal : List Entry) (old : Kept S c.round log journal) where
  -- an anchor that is written now is of the round that goes on
  marks_held : (g : ℕ) (block : Laid) (x : Option Call) → KindOf S c x → OfPhase g c.round.note block c.round.phase
      → AllMarks S (λ a. gen S a ≡ g → a ≡ block) log → AllMarks S (λ a. gen S a ≡ g → a ≡ block) (log_after log x)
  marks_held g block x kind held marks =
      marks_more S (λ a. gen S a ≡ g → a ≡ block) c good left of_anchor log x kind marks
    where
      of_anchor : (m : Laid) (rest : List ℕ) → c.round.phase ≡ Going m AtAnchor rest → gen S m ≡ g → m ≡ block
      of_anchor m rest is same =
          let u = (subst (GoingFacts S c.round log journal) is old.going).0 in
          let of_round : g ≡ c.round.note → block ≡ m = subst (OfPhase g c.round.note block) is held in
          sym (of_round (sym same ∙ u.gen_is))

  -- the rounds that had begun before
  begun_more : (got : Sector) {call : Option Call} {es : List Event} {next : Control} → Turns S c got call es next
      → KindOf S c call
      → (calls : List Call) (front : List Entry) (event : Event)
      → BegunAt S c.round log calls front event → BegunAt S next.round (log_after log call) calls front event
  begun_more got {call = x} turn kind calls front (Begin g) b = record {
    block = b.block;
    marks = marks_held g b.block x kind b.held.1 b.marks;
    held = held_turns S c got g b.block turn b.held;
    edited = b.edited;
  }
  begun_more got turn kind calls front _ b = tt

  -- no other block is the last finished round's
  last_alone : (m : Laid) → IsFinished S.start log journal m → c.round.last ≡ m
  last_alone m fin =
      let last = has_finished S volume c.round.last c.round.started log journal old.facts in
      let kept = is_finished S volume c.round.last c.round.started log journal old.facts in
      last.one c.round.last kept ∙ sym (last.one m fin)

  module _ (book : c.round.book ≡ c.round.last) (dirty : needs_dirty (told S journal) ≡ next_dirty c.state)
      (n : ℕ) (count : n ≡ length log) where
    -- the round that begins now
    begun_now : (d : ℕ) (ds : List ℕ)
        → Begun S (record c.round {
          note = c.round.note + 1;
          phase = Going (S.renew c.round.book (c.round.note + 1) (next_dirty c.state)) AtAnchor (d ∷ ds);
        }) log (take n log) journal (c.round.note + 1)
    begun_now d ds =
        let g = c.round.note + 1 in
        let block = S.renew c.round.book g (next_dirty c.state) in
        let whole : take n log ≡ log = take_all n log (omega (arith, count)) in
        record {
          block = block;
          marks = all_marks_map S (λ a. gen S a ≤ c.round.note) (λ a. gen S a ≡ g → a ≡ block)
              (λ a le same. absurd (omega (arith, le, same))) log old.all;
          held = (omega arith, λ same. refl);
          edited = λ last fin.
              let only = last_alone last (subst (λ calls. IsFinished S.start calls journal last) whole fin) in
              ap (λ m. S.renew m g (next_dirty c.state)) (book ∙ only) ∙ ap (S.renew last g) (sym dirty);
        }

    begun_turns : (got : Sector) {call : Option Call} {es : List Event} {next : Control} → Turns S c got call es next
        → AtEachFrom (λ front e. IsBegun S next.round (log_after log call) (take e.stamp (log_after log call)) front e)
        journal (stamped (calls_after n call) es)
    begun_turns got nothing = tt
    begun_turns got (fails d what asked) = tt
    begun_turns got (anchors m d ds is) = tt
    begun_turns got (settles m d e ds is) = tt
    begun_turns got (ends m d is) = (tt, tt)
    begun_turns got (begins d ds is some why) = (begun_now d ds, tt)
    begun_turns got (readies is s t) = (tt, tt)
    begun_turns got (actives is s t r) = (tt, tt)
    begun_turns got (cleans is s t) = (tt, tt)
    begun_turns got (rests t calm) = (tt, tt)
    begun_turns got (pasts k i rest here none) = (tt, (tt, tt))
    begun_turns got (asks_read k i rest place here is w ready) = (tt, tt)
    begun_turns got (asks_write k i rest place here is w ready) = (tt, at c.state)
      where
        at : (state : State)
            → AtEachFrom (λ front e. IsBegun S c.round log (take e.stamp log) front e)
            (journal ++ record { stamp = n; event = Submit i } ∷ []) (stamped n (asked_events state))
        at IsReadonly = tt
        at IsReadAuto = (tt, tt)
        at IsClean = (tt, tt)
        at IsPending = tt
        at IsActive = tt
        at IsIdle = tt
    begun_turns got (puts k i more step d ds here need) = tt
    begun_turns got (syncs k i more step d ds here need) = tt
    begun_turns got (gets k i more step d here need) = tt
    begun_turns got (acks k i more step answer here need) = (tt, tt)

-- the calls before an entry are the same in a longer log
begun_before : (S : Setting) (r : Round) (known log : List Call) (call : Option Call) (journal : List Entry)
    → AllBelow (length log) journal
    → AtEach (λ front e. IsBegun S r known (take e.stamp log) front e) journal
    → AtEach (λ front e. IsBegun S r known (take e.stamp (log_after log call)) front e) journal
begun_before S r known log None journal below h = h
begun_before S r known log (Some x) journal below h = at_each_log (IsBegun S r known) log x [] journal below h

-- RUNS

book_reached : (S : Setting) (w : World) → Reached S w → w.control.round.book ≡ w.control.round.last
book_reached S w opens = refl
book_reached S w (goes {w = v} r a) = book_turns S v.control (got_of a) (turns_of S v.control a) (book_reached S v r)

module _ (S : Setting) (asks : AsksFirst S) (renews : Renews S) (on : StandsOnAll S) (volume : IsFirstVolume S) where
  begun_reached : (w : World) → FitsGeneration w.control.round.note → Reached S w
      → AllBegun S w.control.round w.log w.journal
  begun_reached w fits opens = tt
  begun_reached w fits (goes {w = v} r a) =
      let before = fitted S v a fits in
      let c = v.control in
      let x = call_of S c a in
      let turn = turns_of S c a in
      let kind = kind_turns S volume c (mine_reached S v r) (got_of a) turn in
      let counted = counted_reached S v r in
      let below : AllBelow (length v.log) v.journal = subst (λ z. AllBelow z v.journal) counted.calls counted.below in
      let good = good_reached S renews on v before r in
      let left = left_reached S renews on v before r in
      let old = kept_reached S renews on volume v before r in
      let dirty = ap needs_dirty (told_reached S asks volume v r) ∙ needs_state c.state in
      let log = log_after v.log x in
      let book = book_reached S v r in
      at_each_more (λ front e. IsBegun S w.control.round log (take e.stamp log) front e) v.journal
      (stamped (calls_after v.calls x) (turned S c a).events)
      (at_each_map (λ front e. IsBegun S c.round v.log (take e.stamp log) front e)
      (λ front e. IsBegun S w.control.round log (take e.stamp log) front e)
      (λ front e. begun_more S volume c good left v.log v.journal old (got_of a) turn kind (take e.stamp log)
      front e.event)
      [] v.journal (begun_before S c.round v.log v.log x v.journal below (begun_reached v before r)))
      (begun_turns S volume c good left v.log v.journal old book dirty v.calls counted.calls (got_of a) turn)

  begins_renewed : (r : Round) (log : List Call) (front : List Entry) (stamp : ℕ) (event : Event)
      → BegunAt S r log (take stamp log) front event
      → BeginsRenewed S.renew S.start S.asked.ops log front stamp event
  begins_renewed r log front stamp (Begin g) b = λ m last round fin.
      let only = written_marks S volume (λ a. gen S a ≡ g → a ≡ b.block) log stamp round.disk m b.marks round.written in
      only round.generation ∙ b.edited last fin
  begins_renewed r log front stamp _ b = tt

-- each round's block is the edit of the one finished before it
pub renewed_reached : (S : Setting) → AsksFirst S → Renews S → StandsOnAll S → IsFirstVolume S → (w : World)
    → FitsGeneration w.control.round.note → Reached S w → RoundsAreRenewed S.renew S.start S.asked.ops w.log w.journal
renewed_reached S asks renews on volume w fits r =
    at_each_map (λ front e. IsBegun S w.control.round w.log (take e.stamp w.log) front e)
    (λ front e. BeginsRenewed S.renew S.start S.asked.ops w.log front e.stamp e.event)
    (λ front e. begins_renewed S asks renews on volume w.control.round w.log front e.stamp e.event) [] w.journal
    (begun_reached S asks renews on volume w fits r)
