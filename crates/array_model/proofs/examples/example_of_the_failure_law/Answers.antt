use Rattle.std.proofs.Common.{rules, ◌≡◌, ℕ, zero, suc, ◌==◌, ◌||◌, Bool, true, false, List, [], ◌∷◌, take, drop, refl, sym, arith, subst, Some, None, inl, inr}
use Rattle.std.proofs.lemmas.Bool.Decides.{nat_tests}
use Rattle.std.specs.List.{list_all}
use Rattle.device_log.specs.Log.{Call}
use Rattle.array_model.specs.declared.journal.Entry.{Entry}
use Rattle.array_model.specs.Blocks.{Laid}
use Rattle.array_model.specs.Events.{is_faulty}
use Rattle.array_model.specs.Rounds.{IsRound, DurableOnWorking}
use Rattle.array_model.specs.FailureLaw.{WasMeant}
use Rattle.array_model.specs.Script.{sector_of}
use Rattle.array_model.specs.Small.{bytes_at, small_serial, the_value, block, small_start, small_words, small_disks, small_expects, small_slot, failing_log, failing_journal, hasty_journal}
use Rattle.array_model.proofs.Written.{written_passes, call_passes}
use Rattle.array_model.proofs.SmallKeeps.{Stays, keeps_small}
use Rattle.array_model.proofs.examples.example_of_the_failure_law.Goals as goal

abbrev EachCallPasses : (Laid → Bool) → List Call → Type 0
EachCallPasses P log = list_all (λ call. call_passes P call.what) log ≡ true

-- a round's block expects the first disk, and, but for generation 4, the second
abbrev first_expected : Laid → Bool
first_expected m = small_expects m (65 ∷ [])

abbrev second_expected : Laid → Bool
second_expected m = (bytes_at 0 m == 4) || small_expects m (66 ∷ [])

first_stays : (front : List Entry) (stamp g : ℕ) (m : Laid) → EachCallPasses first_expected (drop stamp failing_log) → IsRound small_start failing_log stamp g m → Stays front m (65 ∷ [])
first_stays front stamp g m passes round = inl (written_passes small_words small_disks (λ s. refl) first_expected round.disk (drop stamp failing_log) m passes round.written)

second_stays : (front : List Entry) (stamp g : ℕ) (m : Laid) → (g == 4) ≡ false → EachCallPasses second_expected (drop stamp failing_log) → IsRound small_start failing_log stamp g m → Stays front m (66 ∷ [])
second_stays front stamp g m other passes round =
    inl (at (bytes_at 0 m) round.generation (written_passes small_words small_disks (λ s. refl) second_expected round.disk (drop stamp failing_log) m passes round.written))
  where
    at : (n : ℕ) → n ≡ g → ((n == 4) || small_expects m (66 ∷ [])) ≡ true → small_expects m (66 ∷ []) ≡ true
    at n same h = let no : (n == 4) ≡ false = subst (λ z. (z == 4) ≡ false) (sym same) other in from (n == 4) no h
      where
        from : (b : Bool) → b ≡ false → (b || small_expects m (66 ∷ [])) ≡ true → small_expects m (66 ∷ []) ≡ true
        from true is h = absurd cc
        from false is h = h

-- the last round is durable on the first disk, and calls the second failed
recorded : (front : List Entry) → is_faulty 1 front ≡ true → DurableOnWorking small_start failing_log front (λ m. small_expects m (small_serial 1) ≡ false)
recorded front faulty m finished zero working = record { some = omega arith; each = (refl, tt) }
recorded front faulty m finished (suc zero) working = absurd (let sound : is_faulty 1 front ≡ false = working.sound in cc (sound, faulty))
recorded front faulty m finished (suc (suc d)) working = absurd (let none : false ≡ true = working.expected in cc none)

acked : (front : List Entry) → is_faulty 1 front ≡ true → (d : ℕ) → ((1 == d) || false) ≡ true → DurableOnWorking small_start failing_log front (λ m. small_expects m (small_serial d) ≡ false)
acked front faulty d h = subst (λ e. DurableOnWorking small_start failing_log front (λ m. small_expects m (small_serial e) ≡ false)) one (recorded front faulty)
  where
    one : 1 ≡ d
    one = at (1 == d) refl h
      where
        at : (b : Bool) → (1 == d) ≡ b → (b || false) ≡ true → 1 ≡ d
        at true is h = grind (arith, nat_tests, is)
        at false is h = absurd cc

-- a call that went through
went : {early : Type 0} {A : Type 0} → true ≡ false → early → A
went bad early = absurd cc

no_pass : {A : Type 0} (since : ℕ) → None ≡ Some since → A
no_pass since none = absurd cc

pub returns-clause-meets : goal.returns-clause-meets
returns-clause-meets c = record {
  acks = (tt, (tt, (tt, (tt, (tt, (tt, (tt, (tt, (tt, (tt, (tt, (tt, ((λ done d meant faulty. acked _ refl d faulty), tt)))))))))))));
  calls = (went, (went, (went, (went, (went, (went, (went, (went, (went, ((λ bad early. refl), (went, (went, (went, tt)))))))))))));
  keeps = (
    (λ m last round finished. keeps_small _ last m (first_stays (take 0 failing_journal) 0 2 m refl round) (second_stays (take 0 failing_journal) 0 2 m refl refl round)),
    (
      tt,
      (
        tt,
        (
          tt,
          (
            tt,
            (
              (λ m last round finished. keeps_small _ last m (first_stays (take 5 failing_journal) 4 3 m refl round) (second_stays (take 5 failing_journal) 4 3 m refl refl round)),
              (
                tt,
                (
                  tt,
                  (
                    tt,
                    (
                      (λ m last round finished. keeps_small _ last m (first_stays (take 9 failing_journal) 11 4 m refl round) (inr refl)),
                      (tt, (tt, (tt, tt))),
                    ),
                  ),
                ),
              ),
            ),
          ),
        ),
      ),
    ),
  );
  units = ((λ v since m none. no_pass since none), (tt, (tt, (tt, (tt, ((λ v since m none. no_pass since none), (tt, (tt, (tt, ((λ v since m none. no_pass since none), (tt, (tt, (tt, tt)))))))))))));
}

pub returns-clause-hasty : goal.returns-clause-hasty
returns-clause-hasty c law =
    let second : Laid = record { anchor = block 2 0 0; extended = [] } in
    let third : Laid = record { anchor = block 3 1 0; extended = [] } in
    let meant : WasMeant small_start (take 11 failing_log) (take 10 hasty_journal) (record { volume = 0; sector = 5; value = sector_of the_value }) 1 = record {
      calls = 4;
      early = take 4 hasty_journal;
      late = drop 4 (take 10 hasty_journal);
      block = second;
      moment = record { parts = refl; calls = omega arith; none_above = search rules; all_below = search rules };
      finished = (0, refl, record { disk = 1; written = inl refl; generation = refl; container = refl });
      slot = inr (record { words = small_slot second 1 (66 ∷ []); there = refl; same = refl; expected = refl });
    } in
    let durable = law.acks.1.1.1.1.1.1.1.1.1.1.0 refl 1 meant refl third (4, refl, record { disk = 0; written = inl refl; generation = refl; container = refl }) 0 (record { expected = refl; sound = refl }) in
    let failed : true ≡ false = durable.each.0 in
    cc failed
