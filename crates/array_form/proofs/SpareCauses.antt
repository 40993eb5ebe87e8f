-- Each spare was one at opening, or an ask adds one; so an activation has one.
use Rattle.std.proofs.Common.{◌≡◌, ℕ, zero, suc, ◌+◌, ◌<◌, ◌≤◌, ◌==◌, ◌||◌, ◌&&◌, not, Bool, true, false, cond, List, [], ◌∷◌, refl, ap, sym, ◌∙◌, arith, Option, Some, None, inl, inr, slice_get}
use Rattle.std.specs.List.{AllByRecursion, list_any, range_with_len}
use Rattle.std.proofs.lemmas.Bool.{and_parts}
use Rattle.std.proofs.lemmas.Bool.Decides.{nat_tests}
use Rattle.array_model.specs.declared.script.Ask.{Ask}
use Rattle.array_model.specs.declared.script.Ask.TheVariants.{Add, Rename, Remove}
use Rattle.array_model.specs.Script.{is_add}
use Rattle.array_model.specs.Counts.{has_spare}
use Rattle.array_machine.specs.Setting.{Setting, Edit, ActivatesDisk, NamesVolume, RemovesDisk}
use Rattle.array_machine.specs.Numbers.{has}
use Rattle.array_machine.specs.Rounds.{OfRound, targets, late_targets}
use Rattle.array_machine.specs.Managers.{Want, OfAsk, OfSpareDisk, Manager}
use Rattle.array_machine.specs.Updates.{Verdict, Refuses, EditsBook, WritesSpare, Refusal, unless, rename_refusals, remove_refusals, activation_refusals, ask_verdict, verdict_of, is_free}
use Rattle.array_machine.specs.Turns.{may_call}
use Rattle.array_machine.specs.Control.{Control}
use Rattle.array_machine.specs.Changes.{Change, StepsOn, RoundBegins, RoundEnds, RoundLapses, SpareBegins, SpareEnds, DiskFails, MonitorKilled, MonitorResumes, ManagerMoves, UpdateWord, SaysNothing, Posts, Applies, Declines}
use Rattle.array_machine.specs.Puts.{put}
use Rattle.array_paths.specs.InTurn.{InTurn}
use Rattle.array_paths.specs.Comes.{Comes, ends_spare}
use Rattle.array_paths.proofs.Tests.{may_fail}
use Rattle.array_base.proofs.Targets.{or_first, or_second}
use Rattle.array_form.specs.RoundCounts.{in_spare}
use Rattle.array_form.specs.Behind.{Behind, WordBehind}
use Rattle.array_form.specs.SpareCauses.{AddsOne, SparesKnown}
use Rattle.array_form.proofs.Spares.{spare_on, spare_stepped, spare_dropped}

-- WHAT A VERDICT SAYS

-- a verdict that declines nothing has passed each cause
abbrev pub Passed : List Refusal → Type 0
Passed rs = AllByRecursion (λ r. r.holds ≡ false) rs

pub not_refused : (rs : List Refusal) (done is : Verdict) → ((kind : _) → Refuses kind ≡ is → ⊥) → unless rs done ≡ is
    → Passed rs × (done ≡ is)
not_refused [] done v other is = (tt, is)
not_refused (r ∷ rs) done v other is = at r.holds refl is (not_refused rs done v other)
  where
    at : (b : Bool) → r.holds ≡ b → cond b (Refuses r.kind) (unless rs done) ≡ v
        → (unless rs done ≡ v → Passed rs × (done ≡ v)) → Passed (r ∷ rs) × (done ≡ v)
    at true holds is more = absurd (other r.kind is)
    at false holds is more = let rest = more is in ((holds, rest.0), rest.1)

pub not_false : (b : Bool) → not b ≡ false → b ≡ true
not_false true h = refl
not_false false h = absurd cc

any_at : (asks : List Ask) (i : ℕ) (ask : Ask) → slice_get asks i ≡ Some ask → is_add ask ≡ true
    → list_any is_add asks ≡ true
any_at [] i ask is adds = absurd cc
any_at (x ∷ xs) zero ask is adds =
    let same : x ≡ ask = cc is in
    or_first (is_add x) (list_any is_add xs) (ap is_add same ∙ adds)
any_at (x ∷ xs) (suc i) ask is adds = or_second (is_add x) (list_any is_add xs) (any_at xs i ask is adds)

any_below : (test : ℕ → Bool) (a n d : ℕ) → a ≤ d → d < a + n → test d ≡ true
    → list_any test (range_with_len a n) ≡ true
any_below test a zero d le lt is = absurd (omega (arith, le, lt))
any_below test a (suc n) d le lt is = at (a == d) refl (any_below test (a + 1) n d)
  where
    at : (b : Bool) → (a == d) ≡ b
        → (a + 1 ≤ d → d < a + 1 + n → test d ≡ true → list_any test (range_with_len (a + 1) n) ≡ true)
        → (test a || list_any test (range_with_len (a + 1) n)) ≡ true
    at true here more =
        let same : a ≡ d = grind (arith, nat_tests, here) in
        or_first (test a) (list_any test (range_with_len (a + 1) n)) (ap test same ∙ is)
    at false apart more =
        let above : a + 1 ≤ d = grind (arith, nat_tests, apart, le) in
        or_second (test a) (list_any test (range_with_len (a + 1) n)) (more above (omega (arith, lt)) is)

module _ (S : Setting) where
  -- only an ask to add one has a spare's block written
  ask_writes : (c : Control) (d i : ℕ) (ask : Option Ask) → slice_get S.asked.asks i ≡ ask
      → ask_verdict S c ask ≡ WritesSpare d → AddsOne S.asked
  ask_writes c d i None is verdict = absurd cc
  ask_writes c d i (Some (Add e)) is verdict = any_at S.asked.asks i (Add e) is refl
  ask_writes c d i (Some (Rename v name)) is verdict =
      absurd (let done = (not_refused (rename_refusals S c v name) (EditsBook (NamesVolume v name ∷ [])) (WritesSpare d)
      (λ kind e. cc e) verdict).1 in cc done)
  ask_writes c d i (Some (Remove e)) is verdict =
      absurd (let done = (not_refused (remove_refusals S c e)
      (EditsBook (RemovesDisk (S.start.disks.serial e) ∷ [])) (WritesSpare d) (λ kind e. cc e) verdict).1 in cc done)

  writes_spare : (c : Control) (d seen : ℕ) (want : Want) → verdict_of S c seen want ≡ WritesSpare d → AddsOne S.asked
  writes_spare c d seen (OfAsk i) verdict = ask_writes c d i (slice_get S.asked.asks i) refl verdict
  writes_spare c d seen (OfSpareDisk e i) verdict =
      absurd (let done = (not_refused (activation_refusals S c seen e i)
      (EditsBook (ActivatesDisk (S.start.disks.serial e) i ∷ [])) (WritesSpare d) (λ kind e. cc e) verdict).1 in
      cc done)

  -- an activation has a spare
  pub has_one : (c : Control) (seen d i : ℕ) (edits : List Edit) → SparesKnown S c
      → verdict_of S c seen (OfSpareDisk d i) ≡ EditsBook edits → has_spare S.start S.asked ≡ true
  has_one c seen d i edits known verdict =
      let passed = (not_refused (activation_refusals S c seen d i)
      (EditsBook (ActivatesDisk (S.start.disks.serial d) i ∷ [])) (EditsBook edits) (λ kind e. cc e) verdict).0 in
      let free = not_false (is_free S c d) passed.1.0 in
      let both = and_parts (may_call S c.round d && has d c.manager.spares) _ free in
      let parts = and_parts (may_call S c.round d) (has d c.manager.spares) both.0 in
      let there = (may_fail S c d parts.0).there in
      elim (known.spares d parts.1) [
        | inl is ↦
            or_first (list_any S.start.is_spare (range_with_len 0 S.start.disks.count)) (list_any is_add S.asked.asks)
            (any_below S.start.is_spare 0 S.start.disks.count d (omega arith) (omega (arith, there)) is)
        | inr adds ↦
            or_second (list_any S.start.is_spare (range_with_len 0 S.start.disks.count)) (list_any is_add S.asked.asks)
            adds
      ]

  -- EACH CHANGE

  word_spares : (b : Control) (more : List Change) (new : Manager) (word : UpdateWord) → WordBehind S b more new word
      → new.spares ≡ b.manager.spares
  word_spares b more new SaysNothing word = ap (λ (m : Manager). m.spares) word.new_is
  word_spares b more new (Posts n) word = ap (λ (m : Manager). m.spares) word.new_is
  word_spares b more new (Applies n) word = ap (λ (m : Manager). m.spares) word.new_is
  word_spares b more new (Declines n kind) word = ap (λ (m : Manager). m.spares) word.new_is

  pub spare_ended : (t : InTurn) (c : Control) (d : ℕ) → Comes S t c (SpareEnds d) → in_spare c.round.phase ≡ true
  spare_ended t c _ (ends_spare d m step is) = ap in_spare is

  pub spares_step : (b c : Control) (prev : Option Change) (more : List Change) (a : Change)
      → Behind S b c prev more a → ((d : ℕ) → a ≡ SpareEnds d → in_spare c.round.phase ≡ true) → SparesKnown S c
      → SparesKnown S (put S a c)
  spares_step b c prev more (SpareBegins d m) behind ends had = record {
    spares = had.spares;
    written = λ is. writes_spare b d behind.takes.update.seen behind.takes.update.want behind.verdict_is;
  }
  spares_step b c prev more (SpareEnds d) behind ends had =
      let adds = had.written (ends d refl) in
      record { spares = λ e is. inr adds; written = λ is. absurd cc }
  spares_step b c prev more (ManagerMoves new word) behind ends had = record {
    spares = λ d is. had.spares d (ap (has d) (ap (λ (x : Control). x.manager.spares) behind.0
        ∙ sym (word_spares b more new word behind.1)) ∙ is);
    written = had.written;
  }
  spares_step b c prev more StepsOn behind ends had = record {
    spares = had.spares;
    written = λ is. had.written (sym (spare_stepped c.round.phase) ∙ is);
  }
  spares_step b c prev more (DiskFails d) behind ends had = record {
    spares = had.spares;
    written = λ is. had.written (sym (spare_dropped d c.round.phase) ∙ is);
  }
  spares_step b c prev more (RoundBegins m) behind ends had = record {
    spares = had.spares;
    written = λ is.
        absurd (let round = spare_on OfRound m (targets S c.round m) (late_targets S c.round m) false in
        cc (round, is));
  }
  spares_step b c prev more (RoundEnds m) behind ends had = record { spares = had.spares; written = λ is. absurd cc }
  spares_step b c prev more RoundLapses behind ends had = record { spares = had.spares; written = λ is. absurd cc }
  spares_step b c prev more MonitorKilled behind ends had = record { spares = had.spares; written = λ is. absurd cc }
  spares_step b c prev more (MonitorResumes d) behind ends had = record {
    spares = had.spares;
    written = λ is. absurd cc;
  }
  spares_step b c prev more _ behind ends had = record { spares = had.spares; written = had.written }
