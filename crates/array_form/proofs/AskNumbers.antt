-- An activation is posted only where each ask was: its number isn't below the number of asks.
use Rattle.std.proofs.Common.{◌≡◌, ℕ, zero, suc, ◌+◌, ◌<◌, ◌≤◌, nat_lt, Bool, true, false, cond, List, [], ◌∷◌, map, length, refl, sym, ◌∙◌, subst, arith, Option, Some, None, slice_set}
use Rattle.std.specs.List.{AllByRecursion}
use Rattle.std.proofs.lemmas.List.{length-set, length-map}
use Rattle.array_model.proofs.Journals.{all-append, all_map}
use Rattle.array_machine.specs.Setting.{Setting}
use Rattle.array_machine.specs.Managers.{AskState, IsUnposted, IsPosted, IsApplied, IsSettled, Want, OfAsk, OfSpareDisk, Update, Manager}
use Rattle.array_machine.specs.Control.{Control}
use Rattle.array_machine.specs.Changes.{Change, RoundEnds, SpareEnds, RoundLapses, ManagerMoves, MonitorKilled, UpdateWord, SaysNothing, Posts, Applies, Declines}
use Rattle.array_machine.specs.Puts.{ask_ended, ask_killed, set_ask, put_manager}
use Rattle.array_machine.specs.ManagerTurns.{activation_by, activation_at, activation, first_unposted, to_post, posted_with}
use Rattle.array_machine.specs.Updates.{taken}
use Rattle.array_form.specs.Behind.{Behind, WordBehind}
use Rattle.array_form.specs.PassStarts.{IsPostedBelow, ArePostedBelow, IsNumberedFor, AskNumbers}

-- ASKS

one_later : (a : AskState) (place p q : ℕ) → p ≤ q → IsPostedBelow a place p → IsPostedBelow a place q
one_later IsUnposted place p q le h = tt
one_later IsPosted place p q le h = omega (arith, h, le)
one_later IsApplied place p q le h = omega (arith, h, le)
one_later IsSettled place p q le h = omega (arith, h, le)

all_later : (place : ℕ) (asks : List AskState) (p q : ℕ) → p ≤ q → ArePostedBelow place asks p
    → ArePostedBelow place asks q
all_later place [] p q le h = tt
all_later place (a ∷ more) p q le h = (one_later a place p q le h.0, all_later (place + 1) more p q le h.1)

one_below : (a : AskState) (place p : ℕ) → place < p → IsPostedBelow a place p
one_below IsUnposted place p lt = tt
one_below IsPosted place p lt = lt
one_below IsApplied place p lt = lt
one_below IsSettled place p lt = lt

set_below : (place : ℕ) (asks : List AskState) (i : ℕ) (state : AskState) (p : ℕ) → place + i < p
    → ArePostedBelow place asks p → ArePostedBelow place (slice_set asks i state) p
set_below place [] i state p lt h = tt
set_below place (a ∷ more) zero state p lt h = (one_below state place p (omega (arith, lt)), h.1)
set_below place (a ∷ more) (suc i) state p lt h =
    (h.0, set_below (place + 1) more i state p (omega (arith, lt)) h.1)

map_below : (f : AskState → AskState) → ((a : AskState) (place p : ℕ) → IsPostedBelow a place p
    → IsPostedBelow (f a) place p) → (place : ℕ) (asks : List AskState) (p : ℕ) → ArePostedBelow place asks p
    → ArePostedBelow place (map f asks) p
map_below f one place [] p h = tt
map_below f one place (a ∷ more) p h = (one a place p h.0, map_below f one (place + 1) more p h.1)

ended_below : (a : AskState) (place p : ℕ) → IsPostedBelow a place p → IsPostedBelow (ask_ended a) place p
ended_below IsUnposted place p h = tt
ended_below IsPosted place p h = h
ended_below IsApplied place p h = h
ended_below IsSettled place p h = h

killed_below : (a : AskState) (place p : ℕ) → IsPostedBelow a place p → IsPostedBelow (ask_killed a) place p
killed_below IsUnposted place p h = tt
killed_below IsPosted place p h = h
killed_below IsApplied place p h = tt
killed_below IsSettled place p h = h

-- WHAT IS POSTED NEXT

first_below : (place : ℕ) (asks : List AskState) (i p : ℕ) → first_unposted place asks ≡ Some i
    → ArePostedBelow place asks p → place ≤ p → i ≤ p
first_below place [] i p is h le = absurd cc
first_below place (IsUnposted ∷ more) i p is h le = let same : place ≡ i = cc is in omega (arith, same, le)
first_below place (IsPosted ∷ more) i p is h le =
    let lt = h.0 in first_below (place + 1) more i p is h.1 (omega (arith, lt))
first_below place (IsApplied ∷ more) i p is h le =
    let lt = h.0 in first_below (place + 1) more i p is h.1 (omega (arith, lt))
first_below place (IsSettled ∷ more) i p is h le =
    let lt = h.0 in first_below (place + 1) more i p is h.1 (omega (arith, lt))

none_unposted : (place : ℕ) (asks : List AskState) (p : ℕ) → first_unposted place asks ≡ None
    → ArePostedBelow place asks p → place ≤ p → place + length asks ≤ p
none_unposted place [] p is h le = omega (arith, le)
none_unposted place (IsUnposted ∷ more) p is h le = absurd cc
none_unposted place (IsPosted ∷ more) p is h le =
    let lt = h.0 in let more = none_unposted (place + 1) more p is h.1 (omega (arith, lt)) in omega (arith, more)
none_unposted place (IsApplied ∷ more) p is h le =
    let lt = h.0 in let more = none_unposted (place + 1) more p is h.1 (omega (arith, lt)) in omega (arith, more)
none_unposted place (IsSettled ∷ more) p is h le =
    let lt = h.0 in let more = none_unposted (place + 1) more p is h.1 (omega (arith, lt)) in omega (arith, more)

-- UPDATES

one_queued : (asks p q : ℕ) (want : Want) (n : ℕ) → p ≤ q → IsNumberedFor asks p want n → IsNumberedFor asks q want n
one_queued asks p q (OfAsk i) n le h = omega (arith, h, le)
one_queued asks p q (OfSpareDisk d i) n le h = h

all_queued : (asks p q : ℕ) → p ≤ q → (queue : List Update)
    → AllByRecursion (λ (u : Update). IsNumberedFor asks p u.want u.number) queue
    → AllByRecursion (λ (u : Update). IsNumberedFor asks q u.want u.number) queue
all_queued asks p q le queue h =
    all_map (λ (u : Update). IsNumberedFor asks p u.want u.number)
    (λ (u : Update). IsNumberedFor asks q u.want u.number) (λ u one. one_queued asks p q u.want u.number le one) queue h

module _ (S : Setting) (asks : ℕ) where
  -- an activation is no ask's
  activation_numbered : (c : Control) (p : ℕ) (want : Want) → activation S c ≡ Some want → asks ≤ p
      → IsNumberedFor asks (p + 1) want p
  activation_numbered c p want is le = at _ _ is
    where
      by : (spare : Option ℕ) (i : ℕ) → activation_by spare i ≡ Some want → IsNumberedFor asks (p + 1) want p
      by None i is = absurd cc
      by (Some d) i is =
          subst (λ w. IsNumberedFor asks (p + 1) w p) (let same : OfSpareDisk d i ≡ want = cc is in same) le

      at : (room : Bool) (failed : Option ℕ) → activation_at S c room failed ≡ Some want
          → IsNumberedFor asks (p + 1) want p
      at true (Some i) is = by _ i is
      at true None is = absurd cc
      at false failed is = absurd cc

  wanted : (c : Control) (want : Want) → AskNumbers asks c.manager
      → to_post S c (first_unposted 0 c.manager.asks) c.manager.queue ≡ Some want
      → IsNumberedFor asks (c.manager.posted + 1) want c.manager.posted
  wanted c want h due = at (first_unposted 0 c.manager.asks) refl c.manager.queue due
    where
      at : (first : Option ℕ) → first_unposted 0 c.manager.asks ≡ first → (queue : List Update)
          → to_post S c first queue ≡ Some want → IsNumberedFor asks (c.manager.posted + 1) want c.manager.posted
      at (Some i) is queue due = few (nat_lt (length queue) 4) due
        where
          few : (b : Bool) → cond b (Some (OfAsk i)) None ≡ Some want
              → IsNumberedFor asks (c.manager.posted + 1) want c.manager.posted
          few false due = absurd cc
          few true due =
              let le = first_below 0 c.manager.asks i c.manager.posted is h.below (omega arith) in
              let lt : i < c.manager.posted + 1 = omega (arith, le) in
              subst (λ w. IsNumberedFor asks (c.manager.posted + 1) w c.manager.posted)
              (let same : OfAsk i ≡ want = cc due in same) lt
      at None is (u ∷ us) due = absurd cc
      at None is [] due =
          let le = none_unposted 0 c.manager.asks c.manager.posted is h.below (omega arith) in
          let long = h.long in
          activation_numbered c c.manager.posted want due (omega (arith, le, long))

  -- the ask of an update stands otherwise now
  set_numbers : (m : Manager) (want : Want) (state : AskState) (n p : ℕ) → IsNumberedFor asks p want n
      → ArePostedBelow 0 m.asks p → ArePostedBelow 0 (set_ask m.asks want state) p
  set_numbers m (OfAsk i) state n p numbered h = set_below 0 m.asks i state p (omega (arith, numbered)) h
  set_numbers m (OfSpareDisk d i) state n p numbered h = h

  set_long : (m : Manager) (want : Want) (state : AskState) → length (set_ask m.asks want state) ≡ length m.asks
  set_long m (OfAsk i) state = length-set m.asks i state
  set_long m (OfSpareDisk d i) state = refl

  posted_numbers : (c : Control) (want : Want) → AskNumbers asks c.manager
      → to_post S c (first_unposted 0 c.manager.asks) c.manager.queue ≡ Some want
      → AskNumbers asks (posted_with S c want)
  posted_numbers c want h due =
      let m = c.manager in
      let numbered = wanted c want h due in
      let le : m.posted ≤ m.posted + 1 = omega arith in
      record {
        long = set_long m want IsPosted ∙ h.long;
        below = set_numbers m want IsPosted m.posted (m.posted + 1) numbered
            (all_later 0 m.asks m.posted (m.posted + 1) le h.below);
        queued = all-append (λ (u : Update). IsNumberedFor asks (m.posted + 1) u.want u.number) m.queue _
            (all_queued asks m.posted (m.posted + 1) le m.queue h.queued) (numbered, tt);
      }

  taken_numbers : (m : Manager) (u : Update) (rest : List Update) (state : AskState) (applied : Option ℕ)
      → m.queue ≡ u ∷ rest → AskNumbers asks m → AskNumbers asks (taken m u rest state applied)
  taken_numbers m u rest state applied queue h =
      let all = subst (λ q. AllByRecursion (λ (u : Update). IsNumberedFor asks m.posted u.want u.number) q) queue
      h.queued in
      record {
        long = set_long m u.want state ∙ h.long;
        below = set_numbers m u.want state u.number m.posted all.0 h.below;
        queued = all.1;
      }

  word_numbers : (b : Control) (more : List Change) (new : Manager) (word : UpdateWord)
      → WordBehind S b more new word → AskNumbers asks b.manager → AskNumbers asks new
  word_numbers b more new SaysNothing word h =
      subst (AskNumbers asks) (sym word.new_is) (record { long = h.long; below = h.below; queued = h.queued })
  word_numbers b more new (Posts n) word h =
      subst (AskNumbers asks) (sym word.new_is) (posted_numbers b word.want h word.due)
  word_numbers b more new (Applies n) word h =
      subst (AskNumbers asks) (sym word.new_is)
      (taken_numbers b.manager word.takes.update word.takes.rest IsApplied _ word.takes.first h)
  word_numbers b more new (Declines n kind) word h =
      subst (AskNumbers asks) (sym word.new_is)
      (taken_numbers b.manager word.takes.update word.takes.rest IsSettled _ word.takes.first h)

  ended_numbers : (f : AskState → AskState) → ((a : AskState) (place p : ℕ) → IsPostedBelow a place p
      → IsPostedBelow (f a) place p) → (m : Manager) (spares : List ℕ) → AskNumbers asks m
      → AskNumbers asks (record m { asks = map f m.asks; spares = spares })
  ended_numbers f one m spares h = record {
    long = length-map m.asks f ∙ h.long;
    below = map_below f one 0 m.asks m.posted h.below;
    queued = h.queued;
  }

  -- each change keeps it
  pub numbers_step : (b c : Control) (prev : Option Change) (more : List Change) (a : Change)
      → Behind S b c prev more a → AskNumbers asks c.manager → AskNumbers asks (put_manager a c.manager)
  numbers_step b c prev more (ManagerMoves new word) behind h =
      word_numbers b more new word behind.1 (subst (λ x. AskNumbers asks x.manager) behind.0 h)
  numbers_step b c prev more (RoundEnds m) behind h = ended_numbers ask_ended ended_below c.manager c.manager.spares h
  numbers_step b c prev more (SpareEnds d) behind h =
      ended_numbers ask_ended ended_below c.manager (d ∷ c.manager.spares) h
  numbers_step b c prev more RoundLapses behind h = ended_numbers ask_ended ended_below c.manager c.manager.spares h
  numbers_step b c prev more MonitorKilled behind h =
      ended_numbers ask_killed killed_below c.manager c.manager.spares h
  numbers_step b c prev more _ behind h = h
