-- In each run the end of a round says one word at most of each volume's pass.
use Rattle.std.proofs.Common.{◌≡◌, ℕ, ◌+◌, ◌≤◌, ◌==◌, ◌&&◌, nat_lt, Bool, true, false, List, ◌++◌, refl, ap, ◌∙◌, subst, arith, Option, Some, None, inl, inr}
use Rattle.std.proofs.lemmas.Bool.{and_parts}
use Rattle.std.proofs.lemmas.Bool.Decides.{nat_tests}
use Rattle.array_model.specs.declared.journal.Entry.{Entry}
use Rattle.array_model.specs.declared.journal.Event.{Event}
use Rattle.array_model.specs.declared.journal.Event.TheVariants.{End, Ready, Pass as PassOpens, Point, PassEnd}
use Rattle.array_model.specs.Events.{count, is_end, is_ready, is_pass, is_pass_end}
use Rattle.array_machine.specs.Setting.{Setting}
use Rattle.array_machine.specs.States.{ToReady, ToActiveAgain}
use Rattle.array_machine.specs.Volumes.{Slot, Pass, Volume}
use Rattle.array_machine.specs.Control.{Control}
use Rattle.array_machine.specs.Changes.{Change, RoundEnds, StateGoes, ClientMoves, PassMoves, ManagerMoves, IsSilent, PassWord, GoesOnQuietly, OpensAt, Reaches, Closes, SaysNothing, pass_entry, entry_of}
use Rattle.array_machine.specs.Machine.{World, entered, calls_after, Reached}
use Rattle.array_paths.specs.InTurn.{InTurn}
use Rattle.array_base.specs.Premises.{Premises}
use Rattle.array_base.specs.Opening.{Opening}
use Rattle.array_form.specs.StateCounts.{one_if}
use Rattle.array_form.specs.Behind.{is_loud, awaits, goes_on, Behind}
use Rattle.array_form.specs.Follow.{FollowsTurns}
use Rattle.array_form.specs.Passes.{is_point, TellsOfPassesOnce, just_readied, WordsCount}
use Rattle.array_form.proofs.Counting.{sees, count_one, count_same, one_at_most}
use Rattle.array_form.proofs.AlongTurns.{along_turns}

-- what waits behind a word on a volume waited before it
waited : (w v : ℕ) (prev : Option Change) → awaits w prev ≡ true → nat_lt w v ≡ true → awaits v prev ≡ true
waited w v (Some (RoundEnds m)) is less = refl
waited w v (Some (PassMoves u slots new word)) is less =
    let both = and_parts (is_loud word) (nat_lt u w) is in
    let loud = both.0 in
    let before = both.1 in
    let lt : nat_lt u v ≡ true = grind (arith, nat_tests, before, less) in
    rw (loud, lt) refl
waited w v _ is less = absurd cc

module _ (S : Setting) (b : Control) (v : ℕ) (prev : Option Change) (n : ℕ) (journal : List Entry)
    (had : WordsCount b v prev journal) where
  abbrev Then : Change → Type 0
  Then a = WordsCount b v (Some a) (journal ++ entered n (entry_of S a))

  -- nothing is said of the volume's pass, and no more is owed
  aside : (a : Change) → sees (is_point v) (entry_of S a) ≡ false → sees (is_pass_end v) (entry_of S a) ≡ false
      → sees (is_pass v) (entry_of S a) ≡ false → sees is_end (entry_of S a) ≡ false
      → sees (is_ready v) (entry_of S a) ≡ false → just_readied v (Some a) ≡ false
      → one_if (goes_on b.round.phase && awaits v (Some a)) ≤ one_if (goes_on b.round.phase && awaits v prev) → Then a
  aside a no_point no_close no_pass no_end no_ready unready less =
      let p = count_same (is_point v) journal n (entry_of S a) no_point in
      let c = count_same (is_pass_end v) journal n (entry_of S a) no_close in
      let o = count_same (is_pass v) journal n (entry_of S a) no_pass in
      let e = count_same is_end journal n (entry_of S a) no_end in
      let r = count_same (is_ready v) journal n (entry_of S a) no_ready in
      let x = ap one_if unready in
      omega (arith, p, c, o, e, r, x, less, had)

  -- it isn't waited for
  calm : (a : Change) → awaits v (Some a) ≡ false
      → one_if (goes_on b.round.phase && awaits v (Some a)) ≤ one_if (goes_on b.round.phase && awaits v prev)
  calm a is = at (goes_on b.round.phase)
    where
      at : (g : Bool) → one_if (g && awaits v (Some a)) ≤ one_if (g && awaits v prev)
      at true = rw is (omega arith)
      at false = omega arith

  ends_one : (m : _) → Then (RoundEnds m)
  ends_one m =
      let event : Event = End (S.start.words.generation m.anchor) in
      let p = count_same (is_point v) journal n (Some event) refl in
      let c = count_same (is_pass_end v) journal n (Some event) refl in
      let o = count_same (is_pass v) journal n (Some event) refl in
      let e = count_one is_end journal n event refl in
      let r = count_same (is_ready v) journal n (Some event) refl in
      let one = one_at_most (goes_on b.round.phase && awaits v (Some (RoundEnds m))) in
      omega (arith, p, c, o, e, r, one, had)

  readies_one : (w : ℕ) → Then (StateGoes w ToReady)
  readies_one w = at (w == v) refl
    where
      event : Event
      event = Ready (record { 0 = w })

      at : (q : Bool) → (w == v) ≡ q → Then (StateGoes w ToReady)
      at false other =
          aside (StateGoes w ToReady) refl refl refl refl other other (calm (StateGoes w ToReady) refl)
      at true here =
          let p = count_same (is_point v) journal n (Some event) refl in
          let c = count_same (is_pass_end v) journal n (Some event) refl in
          let o = count_same (is_pass v) journal n (Some event) refl in
          let e = count_same is_end journal n (Some event) refl in
          let r = count_one (is_ready v) journal n event here in
          let x = ap one_if here in
          let none = calm (StateGoes w ToReady) refl in
          omega (arith, p, c, o, e, r, x, none, had)

  -- A WORD ON A PASS

  -- of another volume, for which a word is owed
  of_other : (w : ℕ) (slots : List Slot) (new : Option Pass) (word : PassWord) → (w == v) ≡ false
      → awaits w prev ≡ true → Then (PassMoves w slots new word)
  of_other w slots new word other behind =
      aside (PassMoves w slots new word) (no_point word) (no_close word) (no_pass word) (no_end word)
      (no_ready word) refl (less (goes_on b.round.phase) (is_loud word))
    where
      no_point : (word : PassWord) → sees (is_point v) (pass_entry w word) ≡ false
      no_point GoesOnQuietly = refl
      no_point (OpensAt first) = refl
      no_point (Reaches unit) = other
      no_point Closes = refl

      no_close : (word : PassWord) → sees (is_pass_end v) (pass_entry w word) ≡ false
      no_close GoesOnQuietly = refl
      no_close (OpensAt first) = refl
      no_close (Reaches unit) = refl
      no_close Closes = other

      no_pass : (word : PassWord) → sees (is_pass v) (pass_entry w word) ≡ false
      no_pass GoesOnQuietly = refl
      no_pass (OpensAt first) = other
      no_pass (Reaches unit) = refl
      no_pass Closes = refl

      no_end : (word : PassWord) → sees is_end (pass_entry w word) ≡ false
      no_end GoesOnQuietly = refl
      no_end (OpensAt first) = refl
      no_end (Reaches unit) = refl
      no_end Closes = refl

      no_ready : (word : PassWord) → sees (is_ready v) (pass_entry w word) ≡ false
      no_ready GoesOnQuietly = refl
      no_ready (OpensAt first) = refl
      no_ready (Reaches unit) = refl
      no_ready Closes = refl

      less : (g loud : Bool) → one_if (g && (loud && nat_lt w v)) ≤ one_if (g && awaits v prev)
      less g loud = at g loud (nat_lt w v) refl
        where
          at : (g loud lt : Bool) → nat_lt w v ≡ lt → one_if (g && (loud && lt)) ≤ one_if (g && awaits v prev)
          at true true true is =
              let one = ap one_if (waited w v prev behind is) in omega (arith, one)
          at true true false is = omega arith
          at true false lt is = omega arith
          at false loud lt is = omega arith

  -- of the volume itself, for which a word is owed
  of_itself : (w : ℕ) (slots : List Slot) (new : Option Pass) (word : PassWord) → (w == v) ≡ true
      → goes_on b.round.phase ≡ true → awaits w prev ≡ true → Then (PassMoves w slots new word)
  of_itself w slots new word here on behind =
      at word
    where
      same : w ≡ v
      same = grind (arith, nat_tests, here)

      owed : (goes_on b.round.phase && awaits v prev) ≡ true
      owed = let waits = subst (λ u. awaits u prev ≡ true) same behind in rw (on, waits) refl

      not_less : nat_lt w v ≡ false
      not_less = let is = same in grind (arith, nat_tests, is)

      none_owed : (loud : Bool) → one_if (goes_on b.round.phase && (loud && nat_lt w v)) ≡ 0
      none_owed true = rw (on, not_less) refl
      none_owed false = rw on refl

      at : (word : PassWord) → Then (PassMoves w slots new word)
      at GoesOnQuietly =
          let p = count_same (is_point v) journal n None refl in
          let c = count_same (is_pass_end v) journal n None refl in
          let o = count_same (is_pass v) journal n None refl in
          let e = count_same is_end journal n None refl in
          let r = count_same (is_ready v) journal n None refl in
          let x = none_owed false in
          omega (arith, p, c, o, e, r, x, had)
      at (OpensAt first) =
          let event : Event = PassOpens (record { 0 = w }) first in
          let p = count_same (is_point v) journal n (Some event) refl in
          let c = count_same (is_pass_end v) journal n (Some event) refl in
          let o = count_one (is_pass v) journal n event here in
          let e = count_same is_end journal n (Some event) refl in
          let r = count_same (is_ready v) journal n (Some event) refl in
          let x = none_owed true in
          let y = ap one_if owed in
          omega (arith, p, c, o, e, r, x, y, had)
      at (Reaches unit) =
          let event : Event = Point (record { 0 = w }) unit in
          let p = count_one (is_point v) journal n event here in
          let c = count_same (is_pass_end v) journal n (Some event) refl in
          let o = count_same (is_pass v) journal n (Some event) refl in
          let e = count_same is_end journal n (Some event) refl in
          let r = count_same (is_ready v) journal n (Some event) refl in
          let x = none_owed true in
          let y = ap one_if owed in
          omega (arith, p, c, o, e, r, x, y, had)
      at Closes =
          let event : Event = PassEnd (record { 0 = w }) in
          let p = count_same (is_point v) journal n (Some event) refl in
          let c = count_one (is_pass_end v) journal n event here in
          let o = count_same (is_pass v) journal n (Some event) refl in
          let e = count_same is_end journal n (Some event) refl in
          let r = count_same (is_ready v) journal n (Some event) refl in
          let x = none_owed true in
          let y = ap one_if owed in
          omega (arith, p, c, o, e, r, x, y, had)

  told : (w : ℕ) (slots : List Slot) (new : Option Pass) (word : PassWord) → goes_on b.round.phase ≡ true
      → awaits w prev ≡ true → Then (PassMoves w slots new word)
  told w slots new word on behind = at (w == v) refl
    where
      at : (q : Bool) → (w == v) ≡ q → Then (PassMoves w slots new word)
      at true here = of_itself w slots new word here on behind
      at false other = of_other w slots new word other behind

  -- a pass begins behind its volume's ready
  opened : (w first : ℕ) (slots : List Slot) (new : Option Pass) → goes_on b.round.phase ≡ false
      → prev ≡ Some (StateGoes w ToReady) → Then (PassMoves w slots new (OpensAt first))
  opened w first slots new off behind = at (w == v) refl
    where
      event : Event
      event = PassOpens (record { 0 = w }) first

      none_owed : one_if (goes_on b.round.phase && nat_lt w v) ≡ 0
      none_owed = rw off refl

      less : one_if (goes_on b.round.phase && nat_lt w v) ≤ one_if (goes_on b.round.phase && awaits v prev)
      less = let none = none_owed in omega (arith, none)

      at : (q : Bool) → (w == v) ≡ q → Then (PassMoves w slots new (OpensAt first))
      at false other = aside (PassMoves w slots new (OpensAt first)) refl refl other refl refl refl less
      at true here =
          let p = count_same (is_point v) journal n (Some event) refl in
          let c = count_same (is_pass_end v) journal n (Some event) refl in
          let o = count_one (is_pass v) journal n event here in
          let e = count_same is_end journal n (Some event) refl in
          let r = count_same (is_ready v) journal n (Some event) refl in
          let x = none_owed in
          let y = ap one_if (ap (just_readied v) behind ∙ here) in
          omega (arith, p, c, o, e, r, x, y, had)

-- EFFECTS

module _ (S : Setting) where
  words_step : (v : ℕ) (b c : Control) (prev : Option Change) (more : List Change) (a : Change) (n : ℕ)
      (journal : List Entry) → Behind S b c prev more a → WordsCount b v prev journal
      → WordsCount b v (Some a) (journal ++ entered n (entry_of S a))
  words_step v b c prev more (RoundEnds m) n journal behind had = ends_one S b v prev n journal had m
  words_step v b c prev more (StateGoes w ToReady) n journal behind had = readies_one S b v prev n journal had w
  words_step v b c prev more (StateGoes w ToActiveAgain) n journal behind had =
      aside S b v prev n journal had (StateGoes w ToActiveAgain) refl refl refl refl refl refl
      (calm S b v prev n journal had (StateGoes w ToActiveAgain) refl)
  words_step v b c prev more (ClientMoves k client IsSilent) n journal behind had =
      aside S b v prev n journal had (ClientMoves k client IsSilent) refl refl refl refl refl refl
      (calm S b v prev n journal had (ClientMoves k client IsSilent) refl)
  words_step v b c prev more (ManagerMoves new SaysNothing) n journal behind had =
      aside S b v prev n journal had (ManagerMoves new SaysNothing) refl refl refl refl refl refl
      (calm S b v prev n journal had (ManagerMoves new SaysNothing) refl)
  words_step v b c prev more (PassMoves w slots new GoesOnQuietly) n journal behind had =
      aside S b v prev n journal had (PassMoves w slots new GoesOnQuietly) refl refl refl refl refl refl
      (calm S b v prev n journal had (PassMoves w slots new GoesOnQuietly) refl)
  words_step v b c prev more (PassMoves w slots new (OpensAt first)) n journal (inl ready) had =
      opened S b v prev n journal had w first slots new (ap goes_on ready.rested) ready.behind
  words_step v b c prev more (PassMoves w slots new (OpensAt first)) n journal (inr seated) had =
      told S b v prev n journal had w slots new (OpensAt first) seated.went_on seated.behind
  words_step v b c prev more (PassMoves w slots new (Reaches unit)) n journal behind had =
      told S b v prev n journal had w slots new (Reaches unit) behind.ends.went_on behind.ends.behind
  words_step v b c prev more (PassMoves w slots new Closes) n journal behind had =
      told S b v prev n journal had w slots new Closes behind.ends.went_on behind.ends.behind
  words_step v b c prev more a n journal behind had =
      aside S b v prev n journal had a refl refl refl refl refl refl (calm S b v prev n journal had a refl)

  module _ (P : Premises S) (volumes : List Volume) (spares : List ℕ) (o : Opening S P volumes spares) where
    abbrev Q : InTurn → Option Change → List Change → World → Type 0
    Q t prev more w = (v : ℕ) → WordsCount t.before v prev w.journal

    -- a turn begins
    forgets : (b c : Control) (v : ℕ) (prev : Option Change) (journal : List Entry) → WordsCount b v prev journal
        → WordsCount c v None journal
    forgets b c v prev journal had = at (goes_on c.round.phase)
      where
        at : (g : Bool) → count (is_point v) journal + count (is_pass_end v) journal + count (is_pass v) journal
            + one_if (g && false) + 0 ≤ count is_end journal + count (is_ready v) journal
        at true = omega (arith, had)
        at false = omega (arith, had)

    follows : FollowsTurns S P volumes spares Q
    follows = record {
      opens = λ v. omega arith;
      begins = λ t prev w who more had v. forgets t.before w.control v prev w.journal (had v);
      step = λ t prev more w call x a over behind had v.
          words_step v t.before w.control prev more a (calls_after w.calls call) w.journal behind (had v);
    }

    pub words_counted : (w : World) → Reached S volumes spares w → TellsOfPassesOnce w.journal
    words_counted w run v =
        let found = along_turns S P volumes spares o Q follows w run in
        let had = found.1.2 v in
        omega (arith, had)
