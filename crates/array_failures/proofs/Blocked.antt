-- A disk that failed is blocked until a finished round's block doesn't expect it: through each effect.
use Rattle.std.proofs.Common.{◌≡◌, ℕ, ◌+◌, ◌<◌, ◌==◌, ◌||◌, Bool, true, false, cond, List, [], ◌∷◌, ◌++◌, refl, ap, sym, ◌∙◌, subst, arith, Option, Some, None, inl, inr}
use Rattle.std.specs.List.{AllByRecursion}
use Rattle.std.specs.Str.{bytes_eq}
use Rattle.std.proofs.lemmas.Bool.Decides.{nat_tests}
use Rattle.std.proofs.lemmas.Slice.Eq.{bytes_eq-Decides}
use Rattle.array_model.specs.Blocks.{Laid}
use Rattle.array_model.specs.Candidates.{Disk}
use Rattle.array_machine.specs.Setting.{Setting, Facts, Edit, TakesGeneration, FailsDisk, edited}
use Rattle.array_machine.specs.Numbers.{has, without}
use Rattle.array_machine.specs.EditWords.{expects_after, AreApt}
use Rattle.array_machine.specs.EditFacts.{facts_of}
use Rattle.array_machine.specs.Rounds.{Step, AtExtended, AtAnchor, AtSync, Aim, OfRound, OfSpare, Phase, Rest, Going, Life, Lives, Killed, Takes, Dead, lives, expects, on_with, stepped, dropped}
use Rattle.array_machine.specs.Faults.{fault_base, blocked_with, life_without}
use Rattle.array_machine.specs.Control.{Control}
use Rattle.array_machine.specs.Changes.{DiskFails, RoundBegins, RoundEnds, DiskUnblocks}
use Rattle.array_machine.specs.Puts.{put}
use Rattle.array_paths.specs.InTurn.{InTurn}
use Rattle.array_paths.specs.MayEdit.{IsOneOf, IsNext}
use Rattle.array_paths.specs.Comes.{MayFail, IsTaking}
use Rattle.array_paths.proofs.EditPaths.{failures_among}
use Rattle.array_base.specs.Premises.{MayBeBook, Premises}
use Rattle.array_base.specs.Base.{ledger, Between}
use Rattle.array_base.proofs.Targets.{has_other}
use Rattle.array_gate.specs.Gate.{round_in}
use Rattle.array_gate.proofs.Dirty.{in_on_with, in_dropped}
use Rattle.array_failures.specs.Members.{IsLost, LastLeads}
use Rattle.array_failures.specs.Recorded.{BlocksOrSays, BlocksOrSaysIf, GoesWhileLiving, FailuresAreKept}
use Rattle.array_failures.proofs.Edited.{MayComeIn, unexpected_edited, unexpected_next, all_may}
use Rattle.array_failures.proofs.Current.{round_goes}

-- THE BLOCK OF A ROUND

module _ (S : Setting) (P : Premises S) (c : Control) where
  -- behind the edit that says so, a disk that failed isn't expected
  failed_edited : (f : Facts) (m : Laid) (es : List Edit) (serial : List ℕ) → AllByRecursion (MayComeIn S c) es
      → AreApt S f m es → P.edits.formed m ≡ true → IsLost S c.round.faults serial → IsOneOf (FailsDisk serial) es
      → S.start.words.expects (edited S f m es) serial ≡ false
  failed_edited f m [] serial may apt form lost one = absurd one
  failed_edited f m (e ∷ es) serial may apt form lost (inl here) =
      let self : bytes_eq serial serial ≡ true = (bytes_eq-Decides serial serial).1 refl in
      let gone : S.start.words.expects (S.edit f m e) serial ≡ false = P.edits.expects f m e serial apt.0 form
      ∙ ap (λ z. expects_after z serial (S.start.words.expects m serial)) (sym here) ∙ rw self refl in
      unexpected_edited S P c f (S.edit f m e) es serial may.1 apt.1 (P.edits.keeps f m e apt.0 form) lost gone
  failed_edited f m (e ∷ es) serial may apt form lost (inr later) =
      failed_edited f (S.edit f m e) es serial may.1 apt.1 (P.edits.keeps f m e apt.0 form) lost later

  one_among : (e : Edit) (xs ys : List Edit) → IsOneOf e xs → IsOneOf e (xs ++ ys)
  one_among e [] ys one = absurd one
  one_among e (x ∷ xs) ys (inl here) = inl here
  one_among e (x ∷ xs) ys (inr later) = inr (one_among e xs ys later)

  -- the block of a round that begins expects no disk that failed
  pub failed_next : (t : InTurn) (m : Laid) → IsNext S t c m → MayBeBook S P.edits.formed c.round.book → (d : ℕ)
      → d < S.start.disks.count → has d c.round.faults ≡ true → expects S m d ≡ false
  failed_next t m next book d below failed = at (expects S c.round.book d) refl
    where
      lost : IsLost S c.round.faults (S.start.disks.serial d)
      lost = record { disk = d; is = refl; below = below; failed = failed }

      at : (b : Bool) → expects S c.round.book d ≡ b → expects S m d ≡ false
      at false is = unexpected_next S P c t m next book (S.start.disks.serial d) lost is
      at true is =
          let edit = FailsDisk (S.start.disks.serial d) in
          let one = one_among edit next.edits (TakesGeneration (c.round.note + 1) ∷ [])
          (failures_among S c next.edits next.order d below failed is) in
          ap (λ z. expects S z d) next.is
          ∙ failed_edited (facts_of S c) c.round.book (next.edits ++ TakesGeneration (c.round.note + 1) ∷ [])
          (S.start.disks.serial d) (all_may S P c t m next book) next.apt book.form lost one

-- WHAT GOES ON

-- on with targets
pub living_on : (life : Life) (aim : Aim) (m : Laid) (left late : List ℕ) (done : Bool) → life ≡ Lives
    → GoesWhileLiving life (on_with aim m left late done)
living_on life aim m [] late true is = is
living_on life aim m [] late false is = is
living_on life aim m (d ∷ ds) late done is = is

-- a step of what goes on
pub living_stepped : (life : Life) (phase : Phase) → GoesWhileLiving life phase → GoesWhileLiving life (stepped phase)
living_stepped life Rest is = tt
living_stepped life (Going aim m step [] late done) is = is
living_stepped life (Going aim m AtExtended (d ∷ ds) late done) is = is
living_stepped life (Going aim m AtAnchor (d ∷ ds) late done) is = is
living_stepped life (Going aim m AtSync (d ∷ ds) late done) is = living_on life aim m ds late true is

living_dropped : (d : ℕ) (life : Life) (phase : Phase) → GoesWhileLiving life phase
    → GoesWhileLiving (life_without d life) (dropped d phase)
living_dropped d life Rest is = tt
living_dropped d life (Going aim m step [] late done) is = ap (life_without d) is
living_dropped d life (Going aim m step (e ∷ es) late done) is = at (e == d)
  where
    still : life_without d life ≡ Lives
    still = ap (life_without d) is

    at : (b : Bool) → GoesWhileLiving (life_without d life) (cond b (on_with aim m (without d es) (without d late) done)
        (Going aim m step (e ∷ without d es) (without d late) done))
    at true = living_on (life_without d life) aim m (without d es) (without d late) done still
    at false = still

-- while the monitor doesn't live nothing goes on
pub at_rest : (life : Life) (phase : Phase) → GoesWhileLiving life phase → (life ≡ Lives → ⊥) → phase ≡ Rest
at_rest life Rest living dead = refl
at_rest life (Going aim m step left late done) living dead = absurd (dead living)

-- nor does the monitor live while it reads after a kill
pub taking_dead : (life : Life) → IsTaking life → life ≡ Lives → ⊥
taking_dead Lives taking is = taking
taking_dead Killed taking is = taking
taking_dead (Takes left seen found) taking is = cc is
taking_dead Dead taking is = taking

-- FAULTS

-- a disk among one more, which isn't blocked
in_more : (d x : ℕ) (faults : List ℕ) (b : Bool) → (d == x) ≡ b → has x (d ∷ faults) ≡ true → b ≡ false
    → has x faults ≡ true
in_more d x faults b is h other = subst (λ z. (z || has x faults) ≡ true) (is ∙ other) h

not_blocked : (b : Bool) (d : ℕ) (blocked : List ℕ) → has d (blocked_with b d blocked) ≡ false → b ≡ false
not_blocked false d blocked h = refl
not_blocked true d blocked h =
    absurd (let self : (d == d) ≡ true = grind (arith, nat_tests) in
    let there : has d (d ∷ blocked) ≡ true = rw self refl in cc (there, h))

old_blocked : (b : Bool) (d x : ℕ) (blocked : List ℕ) → has x (blocked_with b d blocked) ≡ false
    → has x blocked ≡ false
old_blocked false d x blocked h = h
old_blocked true d x blocked h = second (d == x) (has x blocked) h
  where
    second : (a b : Bool) → (a || b) ≡ false → b ≡ false
    second true b h = absurd cc
    second false b h = h

module _ (S : Setting) (P : Premises S) (ks : ℕ → Disk) where
  abbrev BetweenOn : Control → Type 0
  BetweenOn c = Between S P ks (ledger c.round) c.round.phase

  -- A DISK FAILS

  module _ (c : Control) (d : ℕ) (may : MayFail S c d) (b : BetweenOn c) (leads : LastLeads S ks c)
      (k : FailuresAreKept S c) where
    abbrev new : Control
    new = put S (DiskFails d) c

    -- where the block that decides doesn't expect it, the last finished round's doesn't
    base_last : expects S (fault_base c.round) d ≡ false → expects S c.round.last d ≡ false
    base_last none = by_life (lives c.round.life) refl none
      where
        in_book : expects S c.round.book d ≡ false → (e : Bool) → expects S c.round.last d ≡ e
            → expects S c.round.last d ≡ false
        in_book none false is = is
        in_book none true is = elim (leads.of_book.expected (S.start.disks.serial d) is) [
          | inl there ↦ absurd (cc (there, none))
          | inr lost ↦
              let same = P.serials d lost.disk may.there lost.below lost.is in
              absurd (let bad = subst (λ x. has x c.round.faults ≡ true) (sym same) lost.failed in
              let sound = may.sound in cc (bad, sound))
        ]

        by_life : (alive : Bool) → lives c.round.life ≡ alive
            → expects S (cond alive c.round.book c.round.last) d ≡ false → expects S c.round.last d ≡ false
        by_life false is none = none
        by_life true is none = in_book none (expects S c.round.last d) refl

    -- nor does the round that goes on
    book_of : (m : Laid) (phase : Phase) → c.round.phase ≡ phase → round_in phase ≡ Some m
        → (c.round.life ≡ Lives) × (c.round.book ≡ m)
    book_of m Rest is there = absurd cc
    book_of m (Going (OfSpare x) n step left late done) is there = absurd cc
    book_of m (Going OfRound n step left late done) is there =
        let same : n ≡ m = cc there in
        let goes = round_goes S P c ks n step left late done is b in
        (subst (GoesWhileLiving c.round.life) is k.living, goes.book ∙ same)

    base_going : (m : Laid) → round_in c.round.phase ≡ Some m → expects S (fault_base c.round) d ≡ false
        → expects S m d ≡ false
    base_going m there none =
        let book = book_of m c.round.phase refl there in
        let base : fault_base c.round ≡ c.round.book = ap (λ l. cond (lives l) c.round.book c.round.last) book.0 in
        sym (ap (λ z. expects S z d) (base ∙ book.1)) ∙ none

    says_more : (m : Laid) → (expects S (fault_base c.round) d ≡ false → expects S m d ≡ false)
        → BlocksOrSays S c.round m → BlocksOrSays S new.round m
    says_more m base old x failed unblocked = at (d == x) refl
      where
        at : (e : Bool) → (d == x) ≡ e → expects S m x ≡ false
        at false other =
            old x (in_more d x c.round.faults false other failed refl)
            (old_blocked (expects S (fault_base c.round) d) d x c.round.blocked unblocked)
        at true here =
            let same : d ≡ x = grind (arith, nat_tests, here) in
            let mine = subst (λ z. has z (blocked_with (expects S (fault_base c.round) d) d c.round.blocked) ≡ false)
            (sym same) unblocked in
            subst (λ z. expects S m z ≡ false) same
            (base (not_blocked (expects S (fault_base c.round) d) d c.round.blocked mine))

    going_more : (o : Option Laid) → round_in c.round.phase ≡ o → BlocksOrSaysIf S c.round o
        → BlocksOrSaysIf S new.round o
    going_more None there old = tt
    going_more (Some m) there old = says_more m (base_going m there) old

    there_more : (x : ℕ) → has x (d ∷ c.round.faults) ≡ true → x < S.start.disks.count
    there_more x failed = at (d == x) refl
      where
        at : (e : Bool) → (d == x) ≡ e → x < S.start.disks.count
        at false other = k.there x (in_more d x c.round.faults false other failed refl)
        at true here =
            let same : d ≡ x = grind (arith, nat_tests, here) in
            subst (λ z. z < S.start.disks.count) same may.there

    -- so failures are kept behind one more
    pub kept_fault : FailuresAreKept S new
    kept_fault = record {
      there = there_more;
      last = says_more c.round.last base_last k.last;
      going = subst (BlocksOrSaysIf S new.round) (sym (in_dropped d c.round.phase))
          (going_more (round_in c.round.phase) refl k.going);
      living = living_dropped d c.round.life c.round.phase k.living;
    }

  -- CHANGES

  module _ (c : Control) (k : FailuresAreKept S c) where
    -- nothing goes on, or nothing of a round
    pub kept_rest : (new : Control) → new.round.faults ≡ c.round.faults → new.round.blocked ≡ c.round.blocked
        → new.round.last ≡ c.round.last → new.round.phase ≡ Rest → FailuresAreKept S new
    kept_rest new faults blocked last rest = record {
      there = λ d f. k.there d (subst (λ fs. has d fs ≡ true) faults f);
      last = λ d f u. ap (λ m. expects S m d) last
          ∙ k.last d (subst (λ fs. has d fs ≡ true) faults f) (subst (λ bs. has d bs ≡ false) blocked u);
      going = subst (λ p. BlocksOrSaysIf S new.round (round_in p)) (sym rest) tt;
      living = subst (GoesWhileLiving new.round.life) (sym rest) tt;
    }

    -- a round begins: its block expects no disk that failed
    pub kept_begin : (t : InTurn) (m : Laid) → c.round.life ≡ Lives → IsNext S t c m → BetweenOn c
        → FailuresAreKept S (put S (RoundBegins m) c)
    kept_begin t m life next b = record {
      there = k.there;
      last = k.last;
      going = subst (BlocksOrSaysIf S (put S (RoundBegins m) c).round) (sym (in_on_with OfRound m _ _ false))
          (λ d failed unblocked. failed_next S P c t m next b.core.hand.book d (k.there d failed) failed);
      living = living_on c.round.life OfRound m _ _ false life;
    }

    -- a round ends: its block is the last from now on
    pub kept_end : (m : Laid) (step : Step) → c.round.phase ≡ Going OfRound m step [] [] true
        → FailuresAreKept S (put S (RoundEnds m) c)
    kept_end m step is = record {
      there = k.there;
      last = subst (λ p. BlocksOrSaysIf S c.round (round_in p)) is k.going;
      going = tt;
      living = tt;
    }

    -- a disk is let go that the last finished round calls failed
    pub kept_unblock : (d : ℕ) → c.round.phase ≡ Rest → expects S c.round.last d ≡ false
        → FailuresAreKept S (put S (DiskUnblocks d) c)
    kept_unblock d rest none = record {
      there = k.there;
      last = λ x f u. at x f u (d == x) refl;
      going = subst (λ p. BlocksOrSaysIf S (put S (DiskUnblocks d) c).round (round_in p)) (sym rest) tt;
      living = k.living;
    }
      where
        at : (x : ℕ) → has x c.round.faults ≡ true → has x (without d c.round.blocked) ≡ false → (e : Bool)
            → (d == x) ≡ e → expects S c.round.last x ≡ false
        at x f u true here =
            let same : d ≡ x = grind (arith, nat_tests, here) in
            subst (λ z. expects S c.round.last z ≡ false) same none
        at x f u false other = k.last x f (sym (has_other d x c.round.blocked other) ∙ u)

    -- what leaves faults, the last finished round and what goes on
    pub kept_same : (new : Control) → new.round.faults ≡ c.round.faults → new.round.blocked ≡ c.round.blocked
        → new.round.last ≡ c.round.last → new.round.phase ≡ c.round.phase → new.round.life ≡ c.round.life
        → FailuresAreKept S new
    kept_same new faults blocked last phase life = record {
      there = λ d f. k.there d (subst (λ fs. has d fs ≡ true) faults f);
      last = λ d f u. ap (λ m. expects S m d) last ∙ k.last d (fault d f) (unblocked d u);
      going = going (round_in c.round.phase) (ap round_in phase) k.going;
      living = subst (GoesWhileLiving new.round.life) (sym phase)
          (subst (λ l. GoesWhileLiving l c.round.phase) (sym life) k.living);
    }
      where
        fault : (d : ℕ) → has d new.round.faults ≡ true → has d c.round.faults ≡ true
        fault d f = subst (λ fs. has d fs ≡ true) faults f

        unblocked : (d : ℕ) → has d new.round.blocked ≡ false → has d c.round.blocked ≡ false
        unblocked d u = subst (λ bs. has d bs ≡ false) blocked u

        says : (o : Option Laid) → BlocksOrSaysIf S c.round o → BlocksOrSaysIf S new.round o
        says None h = tt
        says (Some m) h = λ d f u. h d (fault d f) (unblocked d u)

        going : (o : Option Laid) → round_in new.round.phase ≡ o → BlocksOrSaysIf S c.round o
            → BlocksOrSaysIf S new.round (round_in new.round.phase)
        going o is h = subst (BlocksOrSaysIf S new.round) (sym is) (says o h)
