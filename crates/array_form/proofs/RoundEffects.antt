-- Each effect keeps the counts of disks, of the monitor's lives, and of rounds.
use Rattle.std.proofs.Common.{◌≡◌, ℕ, ◌==◌, ◌||◌, not, Bool, true, false, List, [], ◌∷◌, ◌++◌, refl, ap, sym, subst, arith, cond, Option, Some, None}
use Rattle.std.proofs.lemmas.Bool.Decides.{nat_tests}
use Rattle.units.specs.declared.disk.Sector.{Sector}
use Rattle.device_log.specs.Log.{Call, What}
use Rattle.array_model.specs.Blocks.{Laid}
use Rattle.array_model.specs.declared.journal.Entry.{Entry}
use Rattle.array_model.specs.declared.journal.Event.{Event}
use Rattle.array_model.specs.declared.journal.Event.TheVariants.{Begin, End, Unblock, Fault, Kill, Takeover}
use Rattle.array_model.specs.Events.{is_begin, is_end, is_fault, is_unblock, is_kill, is_takeover}
use Rattle.array_machine.specs.Setting.{Setting}
use Rattle.array_machine.specs.Numbers.{has, without}
use Rattle.array_machine.specs.Rounds.{Ended, AtExtended, AtAnchor, AtSync, Aim, Phase, Rest, Going, Life, Lives, Killed, Takes, Dead, expects, on_with, stepped, dropped}
use Rattle.array_machine.specs.Faults.{fault_base, blocked_with, life_without}
use Rattle.array_machine.specs.Control.{Control}
use Rattle.array_machine.specs.Changes.{Change, StepsOn, RoundBegins, DiskFails, DiskUnblocks, IsSilent, GoesOnQuietly, SaysNothing, entry_of}
use Rattle.array_machine.specs.TakeoverTurns.{has_all}
use Rattle.array_machine.specs.Puts.{put}
use Rattle.array_machine.specs.Machine.{entered}
use Rattle.array_paths.specs.InTurn.{InTurn}
use Rattle.array_paths.specs.Comes.{MayFail, IsTaking, IsAwake, Comes, begins, begins_spare, ends, ends_spare, lapses, fails, unblocks, client, pass, manages, kills, takes_over, resumes, dies}
use Rattle.array_paths.specs.AtRows.{AtRows, by_monitor, after_read}
use Rattle.array_paths.specs.Effects.{Effect, quiet, row, row_fails, steps, step_fails}
use Rattle.array_base.proofs.Targets.{has_other}
use Rattle.array_form.specs.StateCounts.{one_if}
use Rattle.array_form.specs.RoundCounts.{is_killed, is_round, in_round, DiskCounts, LifeCounts, PhaseCounts, RoundCounts}
use Rattle.array_form.proofs.Counting.{sees, count_one, count_same, one_at_most}

-- PARTS OF A ROUND

has_none : (d : ℕ) (ds : List ℕ) → has d (without d ds) ≡ false
has_none d [] = refl
has_none d (e ∷ es) = at (e == d) refl (has_none d es)
  where
    at : (b : Bool) → (e == d) ≡ b → has d (without d es) ≡ false
        → has d (cond (not b) (e ∷ without d es) (without d es)) ≡ false
    at true is more = more
    at false is more = rw (is, more) refl

blocked_other : (b : Bool) (d e : ℕ) (blocked : List ℕ) → (d == e) ≡ false
    → has e (blocked_with b d blocked) ≡ has e blocked
blocked_other true d e blocked other = rw other refl
blocked_other false d e blocked other = refl

killed_without : (d : ℕ) (life : Life) → is_killed (life_without d life) ≡ is_killed life
killed_without d Lives = refl
killed_without d Killed = refl
killed_without d (Takes [] seen found) = refl
killed_without d (Takes (e ∷ es) seen found) = at (e == d)
  where
    at : (b : Bool) → is_killed (cond b (Takes (without d es) [] (without d found))
        (Takes (e ∷ without d es) seen (without d found))) ≡ false
    at true = refl
    at false = refl
killed_without d Dead = refl

not_killed : (life : Life) → IsTaking life → is_killed life ≡ false
not_killed Lives takes = absurd takes
not_killed Killed takes = absurd takes
not_killed (Takes left seen found) takes = refl
not_killed Dead takes = absurd takes

awake_lives : (life : Life) → IsAwake life → is_killed life ≡ false
awake_lives Lives awake = refl
awake_lives Killed awake = absurd awake
awake_lives (Takes left seen found) awake = refl
awake_lives Dead awake = absurd awake

on_aim : (aim : Aim) (m : Laid) (left late : List ℕ) (done : Bool)
    → in_round (on_with aim m left late done) ≡ is_round aim
on_aim aim m [] late true = refl
on_aim aim m [] late false = refl
on_aim aim m (d ∷ ds) late done = refl

dropped_aim : (d : ℕ) (phase : Phase) → in_round (dropped d phase) ≡ in_round phase
dropped_aim d Rest = refl
dropped_aim d (Going aim m step [] late done) = refl
dropped_aim d (Going aim m step (e ∷ es) late done) = at (e == d)
  where
    at : (b : Bool) → in_round (cond b (on_with aim m (without d es) (without d late) done)
        (Going aim m step (e ∷ without d es) (without d late) done)) ≡ is_round aim
    at true = on_aim aim m (without d es) (without d late) done
    at false = refl

stepped_aim : (phase : Phase) → in_round (stepped phase) ≡ in_round phase
stepped_aim Rest = refl
stepped_aim (Going aim m step [] late done) = refl
stepped_aim (Going aim m AtExtended (d ∷ ds) late done) = refl
stepped_aim (Going aim m AtAnchor (d ∷ ds) late done) = refl
stepped_aim (Going aim m AtSync (d ∷ ds) late done) = on_aim aim m ds late true

-- EFFECTS

module _ (S : Setting) (n : ℕ) (journal : List Entry) where
  abbrev behind : Change → List Entry
  behind a = journal ++ entered n (entry_of S a)

  -- DISKS

  module _ (d : ℕ) where
    abbrev DiskBehind : Control → Change → Type 0
    DiskBehind c a = DiskCounts d (put S a c).round.faults (put S a c).round.blocked (behind a)

    abbrev DiskBefore : Control → Type 0
    DiskBefore c = DiskCounts d c.round.faults c.round.blocked journal

    disk_aside : (c : Control) (a : Change) → sees (is_fault d) (entry_of S a) ≡ false
        → sees (is_unblock d) (entry_of S a) ≡ false → has d (put S a c).round.faults ≡ has d c.round.faults
        → has d (put S a c).round.blocked ≡ has d c.round.blocked → DiskBefore c → DiskBehind c a
    disk_aside c a no_fault no_unblock faults blocked s =
        let f = count_same (is_fault d) journal n (entry_of S a) no_fault in
        let u = count_same (is_unblock d) journal n (entry_of S a) no_unblock in
        let x = ap (λ b. one_if (not b)) faults in
        let y = ap one_if blocked in
        record { fault = omega (arith, f, x, s.fault); unblock = omega (arith, u, x, y, s.unblock) }

    disk_fails : (c : Control) (e : ℕ) → MayFail S c e → DiskBefore c → DiskBehind c (DiskFails e)
    disk_fails c e may s = at (e == d) refl
      where
        is_blocked : Bool
        is_blocked = expects S (fault_base c.round) e

        at : (b : Bool) → (e == d) ≡ b → DiskBehind c (DiskFails e)
        at false is =
            disk_aside c (DiskFails e) is refl (ap (λ b. b || has d c.round.faults) is)
            (blocked_other is_blocked e d c.round.blocked is) s
        at true is =
            let same : e ≡ d = grind (arith, nat_tests, is) in
            let sound : has d c.round.faults ≡ false = subst (λ k. has k c.round.faults ≡ false) same may.sound in
            let event : Event = Fault (record { 0 = e }) in
            let f = count_one (is_fault d) journal n event is in
            let u = count_same (is_unblock d) journal n (Some event) refl in
            let x = ap (λ b. one_if (not b)) sound in
            let y : one_if (not ((e == d) || has d c.round.faults)) ≡ 0 = rw is refl in
            let one = one_at_most (has d (blocked_with is_blocked e c.round.blocked)) in
            let fault = s.fault in
            let unblock = s.unblock in
            record { fault = omega (arith, f, x, y, fault); unblock = omega (arith, u, x, y, one, unblock) }

    disk_let_go : (c : Control) (e : ℕ) → has e c.round.blocked ≡ true → DiskBefore c → DiskBehind c (DiskUnblocks e)
    disk_let_go c e held s = at (e == d) refl
      where
        at : (b : Bool) → (e == d) ≡ b → DiskBehind c (DiskUnblocks e)
        at false is = disk_aside c (DiskUnblocks e) refl is refl (has_other e d c.round.blocked is) s
        at true is =
            let same : e ≡ d = grind (arith, nat_tests, is) in
            let had : has d c.round.blocked ≡ true = subst (λ k. has k c.round.blocked ≡ true) same held in
            let gone : has d (without e c.round.blocked) ≡ false =
            subst (λ k. has k (without e c.round.blocked) ≡ false) same (has_none e c.round.blocked) in
            let event : Event = Unblock (record { 0 = e }) in
            let f = count_same (is_fault d) journal n (Some event) refl in
            let u = count_one (is_unblock d) journal n event is in
            let x = ap one_if had in
            let y = ap one_if gone in
            let unblock = s.unblock in
            record { fault = omega (arith, f, s.fault); unblock = omega (arith, u, x, y, unblock) }

    disk_comes : (t : InTurn) (c : Control) (a : Change) → Comes S t c a → DiskBefore c → DiskBehind c a
    disk_comes t c _ (fails e who may) s = disk_fails c e may s
    disk_comes t c _ (unblocks e rest held ended told) s = disk_let_go c e held s
    disk_comes t c a (client k new IsSilent move) s = disk_aside c a refl refl refl refl s
    disk_comes t c a (pass v slots new GoesOnQuietly move) s = disk_aside c a refl refl refl refl s
    disk_comes t c a (manages new SaysNothing move) s = disk_aside c a refl refl refl refl s
    disk_comes t c a _ s = disk_aside c a refl refl refl refl s

  -- THE MONITOR'S LIFE

  abbrev LifeBehind : Control → Change → Type 0
  LifeBehind c a = LifeCounts (put S a c).round.life (behind a)

  life_aside : (c : Control) (a : Change) → sees is_kill (entry_of S a) ≡ false
      → sees is_takeover (entry_of S a) ≡ false → is_killed (put S a c).round.life ≡ is_killed c.round.life
      → LifeCounts c.round.life journal → LifeBehind c a
  life_aside c a no_kill no_takeover same s =
      let k = count_same is_kill journal n (entry_of S a) no_kill in
      let u = count_same is_takeover journal n (entry_of S a) no_takeover in
      let x = ap one_if same in
      omega (arith, k, u, x, s)

  life_comes : (t : InTurn) (c : Control) (a : Change) → Comes S t c a → LifeCounts c.round.life journal
      → LifeBehind c a
  life_comes t c _ (kills who awake) s =
      let k = count_one is_kill journal n Kill refl in
      let u = count_same is_takeover journal n (Some Kill) refl in
      let x = ap one_if (awake_lives c.round.life awake) in
      omega (arith, k, u, x, s)
  life_comes t c _ (takes_over who killed) s =
      let k = count_same is_kill journal n (Some Takeover) refl in
      let u = count_one is_takeover journal n Takeover refl in
      let x = ap (λ life. one_if (is_killed life)) killed in
      omega (arith, k, u, x, s)
  life_comes t c a (resumes d taking high) s = life_aside c a refl refl (sym (not_killed c.round.life taking)) s
  life_comes t c a (dies taking) s = life_aside c a refl refl (sym (not_killed c.round.life taking)) s
  life_comes t c a (fails d who may) s = life_aside c a refl refl (killed_without d c.round.life) s
  life_comes t c a (client k new IsSilent move) s = life_aside c a refl refl refl s
  life_comes t c a (pass v slots new GoesOnQuietly move) s = life_aside c a refl refl refl s
  life_comes t c a (manages new SaysNothing move) s = life_aside c a refl refl refl s
  life_comes t c a _ s = life_aside c a refl refl refl s

  -- ROUNDS

  abbrev PhaseBehind : Control → Change → Type 0
  PhaseBehind c a = PhaseCounts (put S a c).round.phase (behind a)

  phase_aside : (c : Control) (a : Change) → sees is_begin (entry_of S a) ≡ false
      → sees is_end (entry_of S a) ≡ false → in_round (put S a c).round.phase ≡ in_round c.round.phase
      → PhaseCounts c.round.phase journal → PhaseBehind c a
  phase_aside c a no_begin no_end same s =
      let b = count_same is_begin journal n (entry_of S a) no_begin in
      let e = count_same is_end journal n (entry_of S a) no_end in
      let x = ap one_if same in
      omega (arith, b, e, x, s)

  -- nothing goes on any more
  phase_rests : (c : Control) (a : Change) → sees is_begin (entry_of S a) ≡ false
      → sees is_end (entry_of S a) ≡ false → in_round (put S a c).round.phase ≡ false
      → PhaseCounts c.round.phase journal → PhaseBehind c a
  phase_rests c a no_begin no_end rests s =
      let b = count_same is_begin journal n (entry_of S a) no_begin in
      let e = count_same is_end journal n (entry_of S a) no_end in
      let x = ap one_if rests in
      omega (arith, b, e, x, s)

  phase_comes : (t : InTurn) (c : Control) (a : Change) → Comes S t c a → PhaseCounts c.round.phase journal
      → PhaseBehind c a
  phase_comes t c _ (begins m life rest target next) s =
      let event : Event = Begin (S.start.words.generation m.anchor) in
      let b = count_one is_begin journal n event refl in
      let e = count_same is_end journal n (Some event) refl in
      let one = one_at_most (in_round (put S (RoundBegins m) c).round.phase) in
      omega (arith, b, e, one, s)
  phase_comes t c _ (ends m step is) s =
      let event : Event = End (S.start.words.generation m.anchor) in
      let b = count_same is_begin journal n (Some event) refl in
      let e = count_one is_end journal n event refl in
      let x = ap (λ phase. one_if (in_round phase)) is in
      omega (arith, b, e, x, s)
  phase_comes t c a (begins_spare d m life rest target may is listed large) s = phase_rests c a refl refl refl s
  phase_comes t c a (ends_spare d m step is) s = phase_rests c a refl refl refl s
  phase_comes t c a (lapses aim m step late is) s = phase_rests c a refl refl refl s
  phase_comes t c a (kills who awake) s = phase_rests c a refl refl refl s
  phase_comes t c a (resumes d taking high) s = phase_rests c a refl refl refl s
  phase_comes t c a (fails d who may) s = phase_aside c a refl refl (dropped_aim d c.round.phase) s
  phase_comes t c a (client k new IsSilent move) s = phase_aside c a refl refl refl s
  phase_comes t c a (pass v slots new GoesOnQuietly move) s = phase_aside c a refl refl refl s
  phase_comes t c a (manages new SaysNothing move) s = phase_aside c a refl refl refl s
  phase_comes t c a _ s = phase_aside c a refl refl refl s

  -- ALL OF THEM

  abbrev RoundBehind : Control → Change → Type 0
  RoundBehind c a = RoundCounts (put S a c).round (behind a)

  comes : (t : InTurn) (c : Control) (a : Change) → Comes S t c a → RoundCounts c.round journal → RoundBehind c a
  comes t c a come s = record {
    disks = λ d. disk_comes d t c a come (s.disks d);
    life = life_comes t c a come s.life;
    phase = phase_comes t c a come s.phase;
  }

  fault : (c : Control) (d : ℕ) → MayFail S c d → RoundCounts c.round journal → RoundBehind c (DiskFails d)
  fault c d may s = record {
    disks = λ e. disk_fails e c d may (s.disks e);
    life = life_aside c (DiskFails d) refl refl (killed_without d c.round.life) s.life;
    phase = phase_aside c (DiskFails d) refl refl (dropped_aim d c.round.phase) s.phase;
  }

  -- a call that went through: nothing is said, and a takeover goes on to read
  went : (c : Control) (a : Change) → entry_of S a ≡ None → (put S a c).round.faults ≡ c.round.faults
      → (put S a c).round.blocked ≡ c.round.blocked
      → is_killed (put S a c).round.life ≡ is_killed c.round.life
      → in_round (put S a c).round.phase ≡ in_round c.round.phase → RoundCounts c.round journal → RoundBehind c a
  went c a silent faults blocked life phase s =
      let none = λ (test : Event → Bool). ap (sees test) silent in
      record {
        disks = λ d. disk_aside d c a (none (is_fault d)) (none (is_unblock d)) (ap (has d) faults) (ap (has d) blocked)
            (s.disks d);
        life = life_aside c a (none is_kill) (none is_takeover) life s.life;
        phase = phase_aside c a (none is_begin) (none is_end) phase s.phase;
      }

  reads : (c : Control) (d : ℕ) (left : List ℕ) (seen : List Sector) (found : List ℕ) → is_killed c.round.life ≡ false
      → (all : Bool) → RoundCounts c.round journal → RoundBehind c (after_read S c d left seen found all)
  reads c d left seen found taking true s =
      went c (after_read S c d left seen found true) refl refl refl (sym taking) refl s
  reads c d left seen found taking false s =
      went c (after_read S c d left seen found false) refl refl refl (sym taking) refl s

  at_rows : (c : Control) (d : ℕ) (what : What) (x : Ended) (a : Change) → AtRows S c d what x a
      → RoundCounts c.round journal → RoundBehind c a
  at_rows c d _ _ _ (by_monitor left seen found x life) s =
      reads c d left (seen ++ x.got ∷ []) found (ap is_killed life) (has_all S (seen ++ x.got ∷ [])) s
  at_rows c d _ _ a _ s = went c a refl refl refl refl refl s

  pub rounds_effect : (t : InTurn) (c : Control) (call : Option Call) (x : Ended) (a : Change) → Effect S t c call x a
      → RoundCounts c.round journal → RoundBehind c a
  rounds_effect t c _ _ _ (quiet x a come) s = comes t c a come s
  rounds_effect t c _ _ _ (row d what x a may call ok why) s = at_rows c d what x a why s
  rounds_effect t c _ _ _ (row_fails d what x may call failed lost) s = fault c d may s
  rounds_effect t c _ _ _ (steps d m step x at ok) s =
      went c StepsOn refl refl refl refl (stepped_aim c.round.phase) s
  rounds_effect t c _ _ _ (step_fails d m step x at failed) s = fault c d at.may s
