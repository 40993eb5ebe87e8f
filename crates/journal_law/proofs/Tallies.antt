-- How often the entries of a turn come, against the control state.
use Rattle.std.proofs.Common.{◌≡◌, ℕ, ◌+◌, ◌≤◌, Bool, true, false, List, ◌∷◌, refl, ap, ◌∙◌, arith, Option, ◌⊎◌, inl, inr}
use Rattle.units.specs.declared.disk.Sector.{Sector}
use Rattle.device_log.specs.Log.{Call}
use Rattle.array_model.specs.declared.journal.Event.{Event}
use Rattle.array_model.specs.declared.journal.Event.TheVariants.{Submit}
use Rattle.array_model.specs.Events.{count, is_begin, is_end, is_ready, is_any_ready, is_active, is_clean, is_any_clean, is_pending, is_any_pending, is_idle, is_submit_in}
use Rattle.array_model.specs.Script.{is_write_in}
use Rattle.array_model.specs.Renewal.{FitsGeneration}
use Rattle.stage_machine.specs.Setting.{Setting, Renews}
use Rattle.stage_machine.specs.Opens.{StandsOnAll}
use Rattle.stage_machine.specs.Rounds.{Phase, Rest, Going, Round}
use Rattle.stage_machine.specs.States.{State, IsReadonly, IsReadAuto, IsClean, IsPending, IsActive, IsIdle, asked_state, asked_events, is_due, next_dirty}
use Rattle.stage_machine.specs.Jobs.{is_write}
use Rattle.stage_machine.specs.Machine.{Control, stamped}
use Rattle.stage_machine.proofs.Stands.{GoodRound, renewed}
use Rattle.stage_machine.proofs.Turns.{Turns, nothing, fails, anchors, settles, ends, begins, readies, actives, cleans, rests, pasts, asks_read, asks_write, puts, syncs, gets, acks}

abbrev pub one : Bool → ℕ
one true = 1
one false = 0

abbrev pub readonly : State → ℕ
readonly IsReadonly = 1
readonly IsReadAuto = 0
readonly IsClean = 0
readonly IsPending = 0
readonly IsActive = 0
readonly IsIdle = 0

abbrev pub pending : State → ℕ
pending IsReadonly = 0
pending IsReadAuto = 0
pending IsClean = 0
pending IsPending = 1
pending IsActive = 0
pending IsIdle = 0

-- a write was asked for, and no `idle` has come since
abbrev pub awake : State → ℕ
awake IsReadonly = 0
awake IsReadAuto = 0
awake IsClean = 0
awake IsPending = 1
awake IsActive = 1
awake IsIdle = 0

abbrev pub resting : State → ℕ
resting IsReadonly = 0
resting IsReadAuto = 0
resting IsClean = 0
resting IsPending = 0
resting IsActive = 0
resting IsIdle = 1

abbrev pub going : Phase → ℕ
going Rest = 0
going (Going m step left) = 1

-- a round is due, or will be once the present one ends
abbrev pub due_in : State → Bool → Bool → ℕ
due_in state false dirty = 1
due_in state true dirty = one (is_due state dirty)

abbrev pub due_at : Setting → State → Round → Phase → ℕ
due_at S state r Rest = due_in state r.started (S.start.words.is_dirty r.book 0)
due_at S state r (Going m step left) = due_in state true (S.start.words.is_dirty m 0)

abbrev pub due : Setting → Control → ℕ
due S c = due_at S c.state c.round c.round.phase

abbrev tally : (Event → Bool) → ℕ → List Event → ℕ
tally test n es = count test (stamped n es)

one_most : (b : Bool) → one b ≤ 1
one_most true = omega arith
one_most false = omega arith

taken : (state : State) → due_in state true (next_dirty state) ≡ 0
taken IsReadonly = refl
taken IsReadAuto = refl
taken IsClean = refl
taken IsPending = refl
taken IsActive = refl
taken IsIdle = refl

module _ (S : Setting) (c : Control) (got : Sector) (n : ℕ) (first : (i : ℕ) → is_write S i ≡ true → is_write_in S.asked.ops 0 i ≡ true) where
  pub ready_step : {call : Option Call} {es : List Event} {next : Control} → Turns S c got call es next
      → tally (is_ready 0) n es + readonly next.state ≤ readonly c.state
  ready_step nothing = omega arith
  ready_step (fails d what asked) = omega arith
  ready_step (anchors m d ds is) = omega arith
  ready_step (settles m d e ds is) = omega arith
  ready_step (ends m d is) = omega arith
  ready_step (begins d ds is some why) = omega arith
  ready_step (readies is s t) = let st = ap readonly t in omega (arith, st)
  ready_step (actives is s t r) = omega arith
  ready_step (cleans is s t) = omega arith
  ready_step (rests t calm) = omega arith
  ready_step (pasts k i rest has none) = omega arith
  ready_step (asks_read k i rest place has is w live) = omega arith
  ready_step (asks_write k i rest place has is w live) = at c.state
    where
      at : (state : State) → tally (is_ready 0) n (Submit i ∷ asked_events state) + readonly (asked_state state) ≤ readonly state
      at IsReadonly = omega arith
      at IsReadAuto = omega arith
      at IsClean = omega arith
      at IsPending = omega arith
      at IsActive = omega arith
      at IsIdle = omega arith
  ready_step (puts k i left step d ds has need) = omega arith
  ready_step (syncs k i left step d ds has need) = omega arith
  ready_step (gets k i left step d has need) = omega arith
  ready_step (acks k i left step answer has need) = omega arith

  pub active_step : {call : Option Call} {es : List Event} {next : Control} → Turns S c got call es next
      → tally (is_active 0) n es + pending next.state ≤ tally (is_pending 0) n es + pending c.state
  active_step nothing = omega arith
  active_step (fails d what asked) = omega arith
  active_step (anchors m d ds is) = omega arith
  active_step (settles m d e ds is) = omega arith
  active_step (ends m d is) = omega arith
  active_step (begins d ds is some why) = omega arith
  active_step (readies is s t) = let st = ap pending t in omega (arith, st)
  active_step (actives is s t r) = let st = ap pending t in omega (arith, st)
  active_step (cleans is s t) = let st = ap pending t in omega (arith, st)
  active_step (rests t calm) = let st = ap pending t in omega (arith, st)
  active_step (pasts k i rest has none) = omega arith
  active_step (asks_read k i rest place has is w live) = omega arith
  active_step (asks_write k i rest place has is w live) = at c.state
    where
      at : (state : State) → tally (is_active 0) n (Submit i ∷ asked_events state) + pending (asked_state state) ≤ tally (is_pending 0) n (Submit i ∷ asked_events state) + pending state
      at IsReadonly = omega arith
      at IsReadAuto = omega arith
      at IsClean = omega arith
      at IsPending = omega arith
      at IsActive = omega arith
      at IsIdle = omega arith
  active_step (puts k i left step d ds has need) = omega arith
  active_step (syncs k i left step d ds has need) = omega arith
  active_step (gets k i left step d has need) = omega arith
  active_step (acks k i left step answer has need) = omega arith

  pub pending_step : {call : Option Call} {es : List Event} {next : Control} → Turns S c got call es next
      → tally (is_pending 0) n es ≤ tally (is_submit_in S.asked.ops 0) n es
  pending_step nothing = omega arith
  pending_step (fails d what asked) = omega arith
  pending_step (anchors m d ds is) = omega arith
  pending_step (settles m d e ds is) = omega arith
  pending_step (ends m d is) = omega arith
  pending_step (begins d ds is some why) = omega arith
  pending_step (readies is s t) = omega arith
  pending_step (actives is s t r) = omega arith
  pending_step (cleans is s t) = omega arith
  pending_step (rests t calm) = omega arith
  pending_step (pasts k i rest has none) = omega arith
  pending_step (asks_read k i rest place has is w live) = omega arith
  pending_step (asks_write k i rest place has is w live) = at c.state (first i w)
    where
      at : (state : State) → is_write_in S.asked.ops 0 i ≡ true → tally (is_pending 0) n (Submit i ∷ asked_events state) ≤ tally (is_submit_in S.asked.ops 0) n (Submit i ∷ asked_events state)
      at IsReadonly in_first = rw in_first (omega arith)
      at IsReadAuto in_first = rw in_first (omega arith)
      at IsClean in_first = rw in_first (omega arith)
      at IsPending in_first = rw in_first (omega arith)
      at IsActive in_first = rw in_first (omega arith)
      at IsIdle in_first = rw in_first (omega arith)
  pending_step (puts k i left step d ds has need) = omega arith
  pending_step (syncs k i left step d ds has need) = omega arith
  pending_step (gets k i left step d has need) = omega arith
  pending_step (acks k i left step answer has need) = omega arith

  pub idle_step : {call : Option Call} {es : List Event} {next : Control} → Turns S c got call es next
      → tally (is_idle 0) n es + awake next.state ≤ tally (is_submit_in S.asked.ops 0) n es + awake c.state
  idle_step nothing = omega arith
  idle_step (fails d what asked) = omega arith
  idle_step (anchors m d ds is) = omega arith
  idle_step (settles m d e ds is) = omega arith
  idle_step (ends m d is) = omega arith
  idle_step (begins d ds is some why) = omega arith
  idle_step (readies is s t) = let st = ap awake t in omega (arith, st)
  idle_step (actives is s t r) = let st = ap awake t in omega (arith, st)
  idle_step (cleans is s t) = let st = ap awake t in omega (arith, st)
  idle_step (rests t calm) = let st = ap awake t in omega (arith, st)
  idle_step (pasts k i rest has none) = omega arith
  idle_step (asks_read k i rest place has is w live) = omega arith
  idle_step (asks_write k i rest place has is w live) = at c.state (first i w)
    where
      at : (state : State) → is_write_in S.asked.ops 0 i ≡ true → tally (is_idle 0) n (Submit i ∷ asked_events state) + awake (asked_state state) ≤ tally (is_submit_in S.asked.ops 0) n (Submit i ∷ asked_events state) + awake state
      at IsReadonly in_first = rw in_first (omega arith)
      at IsReadAuto in_first = rw in_first (omega arith)
      at IsClean in_first = rw in_first (omega arith)
      at IsPending in_first = rw in_first (omega arith)
      at IsActive in_first = rw in_first (omega arith)
      at IsIdle in_first = rw in_first (omega arith)
  idle_step (puts k i left step d ds has need) = omega arith
  idle_step (syncs k i left step d ds has need) = omega arith
  idle_step (gets k i left step d has need) = omega arith
  idle_step (acks k i left step answer has need) = omega arith

  pub clean_step : {call : Option Call} {es : List Event} {next : Control} → Turns S c got call es next
      → tally (is_clean 0) n es + resting next.state ≤ tally (is_idle 0) n es + resting c.state
  clean_step nothing = omega arith
  clean_step (fails d what asked) = omega arith
  clean_step (anchors m d ds is) = omega arith
  clean_step (settles m d e ds is) = omega arith
  clean_step (ends m d is) = omega arith
  clean_step (begins d ds is some why) = omega arith
  clean_step (readies is s t) = let st = ap resting t in omega (arith, st)
  clean_step (actives is s t r) = let st = ap resting t in omega (arith, st)
  clean_step (cleans is s t) = let st = ap resting t in omega (arith, st)
  clean_step (rests t calm) = let st = ap resting t in omega (arith, st)
  clean_step (pasts k i rest has none) = omega arith
  clean_step (asks_read k i rest place has is w live) = omega arith
  clean_step (asks_write k i rest place has is w live) = at c.state
    where
      at : (state : State) → tally (is_clean 0) n (Submit i ∷ asked_events state) + resting (asked_state state) ≤ tally (is_idle 0) n (Submit i ∷ asked_events state) + resting state
      at IsReadonly = omega arith
      at IsReadAuto = omega arith
      at IsClean = omega arith
      at IsPending = omega arith
      at IsActive = omega arith
      at IsIdle = omega arith
  clean_step (puts k i left step d ds has need) = omega arith
  clean_step (syncs k i left step d ds has need) = omega arith
  clean_step (gets k i left step d has need) = omega arith
  clean_step (acks k i left step answer has need) = omega arith

  pub end_step : {call : Option Call} {es : List Event} {next : Control} → Turns S c got call es next
      → tally is_end n es + going next.round.phase ≤ tally is_begin n es + going c.round.phase
  end_step nothing = omega arith
  end_step (fails d what asked) = omega arith
  end_step (anchors m d ds is) = let ph = ap going is in omega (arith, ph)
  end_step (settles m d e ds is) = let ph = ap going is in omega (arith, ph)
  end_step (ends m d is) = let ph = ap going is in omega (arith, ph)
  end_step (begins d ds is some why) = let ph = ap going is in omega (arith, ph)
  end_step (readies is s t) = omega arith
  end_step (actives is s t r) = omega arith
  end_step (cleans is s t) = omega arith
  end_step (rests t calm) = omega arith
  end_step (pasts k i rest has none) = omega arith
  end_step (asks_read k i rest place has is w live) = omega arith
  end_step (asks_write k i rest place has is w live) = at c.state
    where
      at : (state : State) → tally is_end n (Submit i ∷ asked_events state) + going c.round.phase ≤ tally is_begin n (Submit i ∷ asked_events state) + going c.round.phase
      at IsReadonly = omega arith
      at IsReadAuto = omega arith
      at IsClean = omega arith
      at IsPending = omega arith
      at IsActive = omega arith
      at IsIdle = omega arith
  end_step (puts k i left step d ds has need) = omega arith
  end_step (syncs k i left step d ds has need) = omega arith
  end_step (gets k i left step d has need) = omega arith
  end_step (acks k i left step answer has need) = omega arith

  due_most : (state : State) (r : Round) (phase : Phase) → due_at S state r phase ≤ 1
  due_most state r Rest = at r.started
    where
      at : (started : Bool) → due_in state started (S.start.words.is_dirty r.book 0) ≤ 1
      at false = omega arith
      at true = one_most (is_due state (S.start.words.is_dirty r.book 0))
  due_most state r (Going m step left) = one_most (is_due state (S.start.words.is_dirty m 0))

  idle_due : (r : Round) (phase : Phase) → due_at S IsIdle r phase ≡ due_at S IsActive r phase
  idle_due r Rest = at r.started
    where
      at : (started : Bool) → due_in IsIdle started (S.start.words.is_dirty r.book 0) ≡ due_in IsActive started (S.start.words.is_dirty r.book 0)
      at false = refl
      at true = refl
  idle_due r (Going m step left) = refl

  active_due : c.round.phase ≡ Rest → c.round.started ≡ true → due_at S IsActive c.round c.round.phase ≡ 0
  active_due is s = ap (due_at S IsActive c.round) is ∙ ap (λ b. due_in IsActive b (S.start.words.is_dirty c.round.book 0)) s

  -- the round that begins takes in what was due
  begin_due : S.start.words.is_dirty (S.renew c.round.book (c.round.note + 1) (next_dirty c.state)) 0 ≡ next_dirty c.state → c.round.phase ≡ Rest → (c.round.started ≡ false) ⊎ (is_due c.state (S.start.words.is_dirty c.round.book 0) ≡ true)
      → 1 + due_in c.state true (S.start.words.is_dirty (S.renew c.round.book (c.round.note + 1) (next_dirty c.state)) 0) ≤ due S c
  begin_due dirty is why =
      let after = ap (due_in c.state true) dirty ∙ taken c.state in
      let before = ap (due_at S c.state c.round) is in
      let now = due_now why in
      omega (arith, after, before, now)
    where
      due_now : (c.round.started ≡ false) ⊎ (is_due c.state (S.start.words.is_dirty c.round.book 0) ≡ true) → due_in c.state c.round.started (S.start.words.is_dirty c.round.book 0) ≡ 1
      due_now (inl new) = ap (λ b. due_in c.state b (S.start.words.is_dirty c.round.book 0)) new
      due_now (inr yes_due) = at c.round.started
        where
          at : (started : Bool) → due_in c.state started (S.start.words.is_dirty c.round.book 0) ≡ 1
          at false = refl
          at true = ap one yes_due

  pub begin_step : Renews S → StandsOnAll S → GoodRound S c.round → {call : Option Call} {es : List Event} {next : Control} → Turns S c got call es next → FitsGeneration next.round.note
      → tally is_begin n es + due S next ≤ tally is_any_pending n es + tally is_any_ready n es + tally is_any_clean n es + due S c
  begin_step renews on good nothing fits = omega arith
  begin_step renews on good (fails d what asked) fits = omega arith
  begin_step renews on good (anchors m d ds is) fits = let before = ap (due_at S c.state c.round) is in omega (arith, before)
  begin_step renews on good (settles m d e ds is) fits = let before = ap (due_at S c.state c.round) is in omega (arith, before)
  begin_step renews on good (ends m d is) fits = let before = ap (due_at S c.state c.round) is in omega (arith, before)
  begin_step renews on good (begins d ds is some why) fits = let it = renewed S renews on c.round d ds (next_dirty c.state) some fits good in let before = begin_due it.dirty is why in omega (arith, before)
  begin_step renews on good (readies is s t) fits = let most = due_most IsReadAuto c.round c.round.phase in omega (arith, most)
  begin_step renews on good (actives is s t r) fits = let after = active_due is s in omega (arith, after)
  begin_step renews on good (cleans is s t) fits = let most = due_most IsClean c.round c.round.phase in omega (arith, most)
  begin_step renews on good (rests t calm) fits = let before = ap (λ z. due_at S z c.round c.round.phase) t in let same = idle_due c.round c.round.phase in omega (arith, before, same)
  begin_step renews on good (pasts k i rest has none) fits = omega arith
  begin_step renews on good (asks_read k i rest place has is w live) fits = omega arith
  begin_step renews on good (asks_write k i rest place has is w live) fits = at c.state c.round.phase (idle_due c.round c.round.phase) (due_most IsPending c.round c.round.phase)
    where
      at : (state : State) (phase : Phase) → due_at S IsIdle c.round phase ≡ due_at S IsActive c.round phase → due_at S IsPending c.round phase ≤ 1
          → tally is_begin n (Submit i ∷ asked_events state) + due_at S (asked_state state) c.round phase ≤ tally is_any_pending n (Submit i ∷ asked_events state) + tally is_any_ready n (Submit i ∷ asked_events state) + tally is_any_clean n (Submit i ∷ asked_events state) + due_at S state c.round phase
      at IsReadonly phase same most = omega (arith, same, most)
      at IsReadAuto phase same most = omega (arith, same, most)
      at IsClean phase same most = omega (arith, same, most)
      at IsPending phase same most = omega (arith, same, most)
      at IsActive phase same most = omega (arith, same, most)
      at IsIdle phase same most = omega (arith, same, most)
  begin_step renews on good (puts k i left step d ds has need) fits = omega arith
  begin_step renews on good (syncs k i left step d ds has need) fits = omega arith
  begin_step renews on good (gets k i left step d has need) fits = omega arith
  begin_step renews on good (acks k i left step answer has need) fits = omega arith
