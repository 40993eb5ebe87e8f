-- In each run a pass of a volume begins at most as often as the volume is made ready and updates are applied.
use Rattle.std.proofs.Common.{◌≡◌, ℕ, ◌<◌, ◌==◌, Bool, true, false, List, ◌++◌, length, refl, ap, sym, ◌∙◌, subst, arith, Option, Some}
use Rattle.std.proofs.lemmas.Bool.Decides.{nat_tests}
use Rattle.std.proofs.lemmas.List.{get_or-set_same}
use Rattle.array_model.specs.Blocks.{Laid}
use Rattle.array_model.specs.declared.journal.Entry.{Entry}
use Rattle.array_model.specs.declared.journal.Event.{Event}
use Rattle.array_model.specs.declared.journal.Event.TheVariants.{Ready, Pass as PassOpens, Applied}
use Rattle.array_model.specs.Events.{is_ready, is_pass, is_applied}
use Rattle.array_machine.specs.Setting.{Setting}
use Rattle.array_machine.specs.States.{ToReady}
use Rattle.array_machine.specs.Volumes.{Slot, Pass, Volume, no_volume, volume_at}
use Rattle.array_machine.specs.RoundEnds.{seated}
use Rattle.array_machine.specs.Control.{Control}
use Rattle.array_machine.specs.Changes.{Change, RoundBegins, StateGoes, PassMoves, ManagerMoves, OpensAt, Applies, entry_of}
use Rattle.array_machine.specs.Puts.{put}
use Rattle.array_machine.specs.Machine.{entered}
use Rattle.array_paths.specs.PassMove.{slots_of}
use Rattle.array_base.specs.Premises.{Premises}
use Rattle.array_form.specs.StateCounts.{one_if}
use Rattle.array_form.specs.RoundCounts.{just_applied}
use Rattle.array_form.specs.Passes.{gives_others, NoneGives, just_readied, PassCounts}
use Rattle.array_form.proofs.Counting.{sees, count_one, count_same, one_at_most}
use Rattle.array_form.proofs.NoOthers.{GivenNone}
use Rattle.array_form.proofs.Others.{other_seated}

module _ (S : Setting) (P : Premises S) (v : ℕ) where
  -- ONE CHANGE

  module _ (prev : Option Change) (c : Control) (n : ℕ) (journal : List Entry)
      (had : PassCounts S v prev c journal) where
    abbrev pub Then : Change → Type 0
    Then a = PassCounts S v (Some a) (put S a c) (journal ++ entered n (entry_of S a))

    -- nothing is said that counts, and no block gives other disks that didn't
    pub aside : (a : Change) → sees (is_pass v) (entry_of S a) ≡ false → sees (is_ready v) (entry_of S a) ≡ false
        → sees is_applied (entry_of S a) ≡ false → just_readied v (Some a) ≡ false → just_applied (Some a) ≡ false
        → (S.start.is_started v ≡ true → had.owed ≡ false → NoneGives S v c → NoneGives S v (put S a c)) → Then a
    aside a no_pass no_ready no_update not_readied not_applied none =
        let p = count_same (is_pass v) journal n (entry_of S a) no_pass in
        let r = count_same (is_ready v) journal n (entry_of S a) no_ready in
        let u = count_same is_applied journal n (entry_of S a) no_update in
        let x = ap one_if not_readied in
        let counts = had.counts in
        record {
          owed = had.owed;
          counts = omega (arith, p, r, u, x, counts);
          none = λ free started. none started free (had.none free started);
          unapplied = λ free. not_applied;
        }

    pub applies : (new : _) (u : ℕ) → Then (ManagerMoves new (Applies u))
    applies new u =
        let event : Event = Applied u in
        let p = count_same (is_pass v) journal n (Some event) refl in
        let r = count_same (is_ready v) journal n (Some event) refl in
        let a = count_one is_applied journal n event refl in
        let one = one_at_most had.owed in
        let counts = had.counts in
        record {
          owed = true;
          counts = omega (arith, p, r, a, one, counts);
          none = λ free started. absurd cc;
          unapplied = λ free. absurd cc;
        }

    -- the volume that is made ready may begin a pass
    pub readies : (w : ℕ) → (NoneGives S v c → NoneGives S v (put S (StateGoes w ToReady) c))
        → Then (StateGoes w ToReady)
    readies w stays = at (w == v) refl
      where
        event : Event
        event = Ready (record { 0 = w })

        at : (b : Bool) → (w == v) ≡ b → Then (StateGoes w ToReady)
        at false other =
            aside (StateGoes w ToReady) refl other refl other refl (λ started free none. stays none)
        at true here =
            let p = count_same (is_pass v) journal n (Some event) refl in
            let r = count_one (is_ready v) journal n event here in
            let u = count_same is_applied journal n (Some event) refl in
            let x = ap one_if here in
            let counts = had.counts in
            record {
              owed = had.owed;
              counts = omega (arith, p, r, u, x, counts);
              none = λ free started. stays (had.none free started);
              unapplied = λ free. refl;
            }

    -- A PASS MOVES

    -- as many passes as were owed, and one more
    pub opens_ready : (w first : ℕ) (slots : List Slot) (new : Option Pass) → prev ≡ Some (StateGoes w ToReady)
        → (NoneGives S v c → NoneGives S v (put S (PassMoves w slots new (OpensAt first)) c))
        → Then (PassMoves w slots new (OpensAt first))
    opens_ready w first slots new behind stays = at (w == v) refl
      where
        at : (b : Bool) → (w == v) ≡ b → Then (PassMoves w slots new (OpensAt first))
        at false other =
            aside (PassMoves w slots new (OpensAt first)) other refl refl refl refl
            (λ started free none. stays none)
        at true same =
            let event : Event = PassOpens (record { 0 = w }) first in
            let p = count_one (is_pass v) journal n event same in
            let r = count_same (is_ready v) journal n (Some event) refl in
            let u = count_same is_applied journal n (Some event) refl in
            let x = ap one_if (ap (just_readied v) behind ∙ same) in
            let counts = had.counts in
            record {
              owed = had.owed;
              counts = omega (arith, p, r, u, x, counts);
              none = λ free started. stays (had.none free started);
              unapplied = λ free. refl;
            }

    pub opens_seated : (w first : ℕ) (slots : List Slot) (new : Option Pass)
        → S.start.is_started w ≡ true → w < length c.volumes
        → gives_others S c.round.last w (slots_of c w) ≡ true
        → slots ≡ seated S (S.start.words.slots c.round.last w) (slots_of c w)
        → ((s : List Slot) → gives_others S c.round.last v s ≡ false → GivenNone S P v c s)
        → (NoneGives S v c → NoneGives S v (put S (PassMoves w slots new (OpensAt first)) c))
        → Then (PassMoves w slots new (OpensAt first))
    opens_seated w first slots new started there other is settled stays = at (w == v) refl
      where
        at : (b : Bool) → (w == v) ≡ b → Then (PassMoves w slots new (OpensAt first))
        at false apart =
            aside (PassMoves w slots new (OpensAt first)) apart refl refl refl refl
            (λ started free none. stays none)
        at true same = by had.owed refl
          where
            one : w ≡ v
            one = grind (arith, nat_tests, same)

            by : (b : Bool) → had.owed ≡ b → Then (PassMoves w slots new (OpensAt first))
            by false free =
                let none = (had.none free (subst (λ u. S.start.is_started u ≡ true) one started)).in_last in
                let gives_some = subst (λ u. gives_others S c.round.last u (slots_of c u) ≡ true) one other in
                absurd (cc (none, gives_some))
            by true owed =
                let event : Event = PassOpens (record { 0 = w }) first in
                let p = count_one (is_pass v) journal n event same in
                let r = count_same (is_ready v) journal n (Some event) refl in
                let u = count_same is_applied journal n (Some event) refl in
                let x = ap one_if owed in
                let counts = had.counts in
                let now : slots_of (put S (PassMoves w slots new (OpensAt first)) c) v ≡ slots =
                subst (λ u. slots_of (put S (PassMoves w slots new (OpensAt first)) c) u ≡ slots) one
                (ap (λ (y : Volume). y.slots) (get_or-set_same c.volumes w
                (record (volume_at c.volumes w) { slots = slots; pass = new }) no_volume there)) in
                let own : gives_others S c.round.last v slots ≡ false =
                subst (λ u. gives_others S c.round.last u slots ≡ false) one
                (ap (λ s. gives_others S c.round.last w s) is
                ∙ other_seated S (S.start.words.slots c.round.last w) (slots_of c w)) in
                record {
                  owed = false;
                  counts = omega (arith, p, r, u, x, counts);
                  none = λ free st. subst (GivenNone S P v c) (sym now) (settled slots own);
                  unapplied = λ free. refl;
                }

    -- A ROUND BEGINS FOR AN UPDATE

    pub begins_applied : (m : Laid) → just_applied prev ≡ true → Then (RoundBegins m)
    begins_applied m now =
        aside (RoundBegins m) refl refl refl refl refl
        (λ started free none. absurd (let before = had.unapplied free in cc (before, now)))
