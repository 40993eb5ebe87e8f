-- What holds since a pass began goes on to hold where its volume, the book and what is served stay.
use Rattle.std.proofs.Common.{◌≡◌, ℕ, suc, ◌+◌, ◌≤◌, true, List, [], ◌∷◌, length, is_some, refl, ap, sym, ◌∙◌, subst, arith, Option, Some, None, ◌⊎◌, inl, inr}
use Rattle.device_log.specs.Log.{Call}
use Rattle.array_model.specs.Moments.{EachCall, EachCallFrom}
use Rattle.array_machine.specs.Setting.{Setting}
use Rattle.array_machine.specs.States.{StateWord, state_after}
use Rattle.array_machine.specs.Volumes.{Slot, Pass, Volume, volume_at}
use Rattle.array_machine.specs.Operations.{shape_of}
use Rattle.array_machine.specs.Control.{Control}
use Rattle.array_machine.specs.Changes.{StateGoes, PassMoves, PassWord}
use Rattle.array_machine.specs.Puts.{put}
use Rattle.array_machine.specs.Machine.{log_after}
use Rattle.array_base.proofs.Slots.{volume_set}
use Rattle.array_failures.proofs.ToldCalls.{each_call_more}
use Rattle.array_units.specs.Passes.{HasPassed}
use Rattle.array_units.specs.Counted.{IsPassed, IsCounted, IsServed, IsSince}

-- CALLS

pub each_map : (F G : ℕ → Call → Type 0) → ((k : ℕ) (x : Call) → F k x → G k x) → (k : ℕ) (log : List Call)
    → EachCallFrom F k log → EachCallFrom G k log
each_map F G on k [] h = tt
each_map F G on k (x ∷ xs) h = (on k x h.0, each_map F G on (k + 1) xs h.1)

-- none was made from number n on
pub none_since : (F : ℕ → Call → Type 0) (n k : ℕ) (log : List Call) → k + length log ≤ n
    → EachCallFrom (λ before x. n ≤ before → F before x) k log
none_since F n k [] le = tt
none_since F n k (x ∷ xs) le =
    let more : length (x ∷ xs) ≡ suc (length xs) = refl in
    ((λ here. absurd (omega (arith, le, here, more))), none_since F n (k + 1) xs (omega (arith, le, more)))

-- with one call more, if there is one
pub calls_on : (F G : ℕ → Call → Type 0) (log : List Call) (call : Option Call)
    → ((k : ℕ) (x : Call) → F k x → G k x) → ((x : Call) → call ≡ Some x → G (length log) x) → EachCall F log
    → EachCall G (log_after log call)
calls_on F G log None on more h = each_map F G on 0 log h
calls_on F G log (Some x) on more h =
    let here : length log ≡ 0 + length log = omega arith in
    each_call_more G 0 log x (each_map F G on 0 log h) (subst (λ k. G k x) here (more x refl))

module _ (S : Setting) where
  -- a volume that is started, broken and passed as another
  pub record VolumeStays (x y : Volume) : Type 0 where
    pub started : y.started ≡ x.started
    pub broken : y.broken ≡ x.broken
    pub pass : y.pass ≡ x.pass

  pub same_volume : (x y : Volume) → y ≡ x → VolumeStays x y
  same_volume x y is = record {
    started = ap (λ (z : Volume). z.started) is;
    broken = ap (λ (z : Volume). z.broken) is;
    pass = ap (λ (z : Volume). z.pass) is;
  }

  pub state_stays : (c : Control) (u : ℕ) (word : StateWord) (v : ℕ)
      → VolumeStays (volume_at c.volumes v) (volume_at (put S (StateGoes u word) c).volumes v)
  state_stays c u word v =
      elim (volume_set c.volumes u (record (volume_at c.volumes u) { state = state_after word }) v) [
        | inl here ↦ record {
          started = ap (λ (z : Volume). z.started) here.1 ∙ ap (λ k. (volume_at c.volumes k).started) here.0;
          broken = ap (λ (z : Volume). z.broken) here.1 ∙ ap (λ k. (volume_at c.volumes k).broken) here.0;
          pass = ap (λ (z : Volume). z.pass) here.1 ∙ ap (λ k. (volume_at c.volumes k).pass) here.0;
        }
        | inr other ↦ same_volume _ _ other
      ]

  module _ (c new : Control) (log : List Call) (v n : ℕ) (had : IsSince S c log v n) (call : Option Call)
      (more : (x : Call) → call ≡ Some x → IsCounted S new v x) where
    pub since_on : (volume_at new.volumes v).started ≡ true → new.round.ended ≡ true
        → (IsServed S new → (S.start.words.pass new.round.book v ≡ None)
        ⊎ (is_some (volume_at new.volumes v).pass ≡ true))
        → ((k : ℕ) → IsPassed S c v k → IsPassed S new v k) → IsSince S new (log_after log call) v n
    since_on started ended opened keeps = record {
      started = started;
      ended = ended;
      opened = opened;
      calls = calls_on (λ before x. n ≤ before → IsCounted S c v x) (λ before x. n ≤ before → IsCounted S new v x) log
          call (λ k x counted le at is below elsewhere. keeps at (counted le at is below elsewhere))
          (λ x is le. more x is) had.calls;
    }

    -- a volume that stays
    pub since_stays : VolumeStays (volume_at c.volumes v) (volume_at new.volumes v)
        → new.round.ended ≡ c.round.ended
        → (IsServed S new → (S.start.words.pass new.round.book v ≡ None)
        ⊎ (is_some (volume_at c.volumes v).pass ≡ true))
        → IsSince S new (log_after log call) v n
    since_stays stays ended opened =
        since_on (stays.started ∙ had.started) (ended ∙ had.ended)
        (λ served. elim (opened served) [
          | inl none ↦ inl none
          | inr goes ↦ inr (ap is_some stays.pass ∙ goes)
        ])
        (λ k passed. record {
          sound = stays.broken ∙ passed.sound;
          passed = λ p is. passed.passed p (sym stays.pass ∙ is);
        })

    -- the book and what is served stay too
    pub since_same : VolumeStays (volume_at c.volumes v) (volume_at new.volumes v)
        → new.round.ended ≡ c.round.ended → new.round.book ≡ c.round.book → (IsServed S new → IsServed S c)
        → IsSince S new (log_after log call) v n
    since_same stays ended book serves =
        since_stays stays ended (λ served. elim (had.opened (serves served)) [
          | inl none ↦ inl (ap (λ m. S.start.words.pass m v) book ∙ none)
          | inr goes ↦ inr goes
        ])

  -- a pass's change, of this volume or of another
  pub since_moves : (c : Control) (log : List Call) (v n : ℕ) → IsSince S c log v n → (call : Option Call) (u : ℕ)
      (slots : List Slot) (to : Option Pass) (word : PassWord)
      → ((x : Call) → call ≡ Some x → IsCounted S (put S (PassMoves u slots to word) c) v x)
      → (u ≡ v → IsServed S c → (S.start.words.pass c.round.book v ≡ None) ⊎ (is_some to ≡ true))
      → (u ≡ v → (k : ℕ) → IsPassed S c v k → (p : Pass) → to ≡ Some p → HasPassed (shape_of S v).rows p k)
      → IsSince S (put S (PassMoves u slots to word) c) (log_after log call) v n
  since_moves c log v n had call u slots to word more opened passed =
      elim (volume_set c.volumes u (record (volume_at c.volumes u) { slots = slots; pass = to }) v) [
        | inl here ↦
            since_on c (put S (PassMoves u slots to word) c) log v n had call more
            (ap (λ (z : Volume). z.started) here.1 ∙ ap (λ k. (volume_at c.volumes k).started) here.0 ∙ had.started)
            had.ended
            (λ served. elim (opened here.0 served) [
              | inl none ↦ inl none
              | inr goes ↦ inr (ap (λ (z : Volume). is_some z.pass) here.1 ∙ goes)
            ])
            (λ k was. record {
              sound = ap (λ (z : Volume). z.broken) here.1 ∙ ap (λ j. (volume_at c.volumes j).broken) here.0
                  ∙ was.sound;
              passed = λ p is. passed here.0 k was p (sym (ap (λ (z : Volume). z.pass) here.1) ∙ is);
            })
        | inr other ↦
            since_same c (put S (PassMoves u slots to word) c) log v n had call more (same_volume _ _ other) refl refl
            (λ served. served)
      ]

  -- nothing was called since
  pub since_fresh : (new : Control) (log : List Call) (v n : ℕ) → (volume_at new.volumes v).started ≡ true
      → new.round.ended ≡ true
      → (IsServed S new → (S.start.words.pass new.round.book v ≡ None)
      ⊎ (is_some (volume_at new.volumes v).pass ≡ true))
      → n ≡ length log → IsSince S new log v n
  since_fresh new log v n started ended opened fresh = record {
    started = started;
    ended = ended;
    opened = opened;
    calls = none_since (λ before x. IsCounted S new v x) n 0 log (omega (arith, fresh));
  }

  -- a pass's change where nothing was called since
  pub moves_fresh : (c : Control) (log : List Call) (v n : ℕ) → IsSince S c log v n → (u : ℕ) (slots : List Slot)
      (to : Option Pass) (word : PassWord) → (u ≡ v → is_some to ≡ true) → n ≡ length log
      → IsSince S (put S (PassMoves u slots to word) c) log v n
  moves_fresh c log v n had u slots to word goes fresh =
      elim (volume_set c.volumes u (record (volume_at c.volumes u) { slots = slots; pass = to }) v) [
        | inl here ↦
            since_fresh (put S (PassMoves u slots to word) c) log v n
            (ap (λ (z : Volume). z.started) here.1 ∙ ap (λ k. (volume_at c.volumes k).started) here.0 ∙ had.started)
            had.ended (λ served. inr (ap (λ (z : Volume). is_some z.pass) here.1 ∙ goes here.0)) fresh
        | inr other ↦
            since_same c (put S (PassMoves u slots to word) c) log v n had None (λ x is. absurd (cc is))
            (same_volume _ _ other) refl refl (λ served. served)
      ]
