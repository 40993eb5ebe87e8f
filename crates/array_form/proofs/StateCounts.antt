-- Each effect keeps the counts of a volume's states.
use Rattle.std.proofs.Common.{◌≡◌, ℕ, ◌+◌, ◌≤◌, ◌==◌, ◌&&◌, not, Bool, true, false, List, ◌++◌, refl, ap, subst, arith, Option, Some, None, ◌⊎◌, inl, inr}
use Rattle.array_model.specs.declared.script.Op.{Op}
use Rattle.array_model.specs.declared.journal.Entry.{Entry}
use Rattle.array_model.specs.declared.journal.Event.{Event}
use Rattle.array_model.specs.declared.journal.Event.TheVariants.{Ready, Pending, Active, Idle, Clean, Submit}
use Rattle.array_model.specs.Script.{is_write_in}
use Rattle.array_model.specs.Events.{count, is_ready, is_pending, is_active, is_idle, is_clean, is_submit_in}
use Rattle.array_machine.specs.States.{State, IsReadonly, IsReadAuto, IsClean, IsPending, IsActive, IsIdle}
use Rattle.array_machine.specs.Machine.{entered}
use Rattle.array_form.specs.StateCounts.{one_if, StateCounts, is_taken}
use Rattle.array_form.proofs.Counting.{sees, count_one, count_same}

-- the entry is of the volume's state, or submits a write to it
abbrev pub speaks_of : List Op → ℕ → Event → Bool
speaks_of ops v (Ready w) = w.0 == v
speaks_of ops v (Pending w) = w.0 == v
speaks_of ops v (Active w) = w.0 == v
speaks_of ops v (Idle w) = w.0 == v
speaks_of ops v (Clean w) = w.0 == v
speaks_of ops v (Submit i) = is_write_in ops v i
speaks_of ops v _ = false

-- the tests that are so
data IsStateTest (ops : List Op) (v : ℕ) : (Event → Bool) → Type 0 where
  of_ready : IsStateTest ops v (is_ready v)
  of_pending : IsStateTest ops v (is_pending v)
  of_active : IsStateTest ops v (is_active v)
  of_idle : IsStateTest ops v (is_idle v)
  of_clean : IsStateTest ops v (is_clean v)
  of_submit : IsStateTest ops v (is_submit_in ops v)

module _ (ops : List Op) (v : ℕ) where
  unseen : (test : Event → Bool) → IsStateTest ops v test → (e : Event) → speaks_of ops v e ≡ false → test e ≡ false
  unseen _ of_ready (Ready w) not_one = not_one
  unseen _ of_ready _ not_one = refl
  unseen _ of_pending (Pending w) not_one = not_one
  unseen _ of_pending _ not_one = refl
  unseen _ of_active (Active w) not_one = not_one
  unseen _ of_active _ not_one = refl
  unseen _ of_idle (Idle w) not_one = not_one
  unseen _ of_idle _ not_one = refl
  unseen _ of_clean (Clean w) not_one = not_one
  unseen _ of_clean _ not_one = refl
  unseen _ of_submit (Submit i) not_one = not_one
  unseen _ of_submit _ not_one = refl

  sees_none : (test : Event → Bool) → IsStateTest ops v test → (o : Option Event) → sees (speaks_of ops v) o ≡ false
      → sees test o ≡ false
  sees_none test t None not_one = refl
  sees_none test t (Some e) not_one = unseen test t e not_one

  less_asked : (taken a b : Bool) → (b ≡ true → a ≡ true) → one_if (b && taken) ≤ one_if (a && taken)
  less_asked taken true true h = omega arith
  less_asked true true false h = omega arith
  less_asked false true false h = omega arith
  less_asked taken false true h = absurd (let bad = h refl in cc bad)
  less_asked taken false false h = omega arith

  -- nothing is said of the volume, and it isn't asked for unless it was
  pub states_aside : (state : State) (asked asked' : Bool) (journal : List Entry) (n : ℕ) (o : Option Event)
      → sees (speaks_of ops v) o ≡ false → (asked' ≡ true → asked ≡ true) → StateCounts ops v state asked journal
      → StateCounts ops v state asked' (journal ++ entered n o)
  states_aside state asked asked' journal n o not_one less s =
      let same = λ (test : Event → Bool) (t : IsStateTest ops v test).
      count_same test journal n o (sees_none test t o not_one) in
      let r = same (is_ready v) of_ready in
      let p = same (is_pending v) of_pending in
      let a = same (is_active v) of_active in
      let i = same (is_idle v) of_idle in
      let c = same (is_clean v) of_clean in
      let w = same (is_submit_in ops v) of_submit in
      let l = less_asked (not (is_taken state)) asked asked' less in
      record {
        ready = omega (arith, r, s.ready);
        pending = omega (arith, p, w, l, s.pending);
        active = omega (arith, a, p, s.active);
        idle = omega (arith, i, w, l, s.idle);
        clean = omega (arith, c, i, s.clean);
      }

  module _ (w n : ℕ) (journal : List Entry) (here : (w == v) ≡ true) where
    abbrev behind : Event → List Entry
    behind e = journal ++ entered n (Some e)

    -- the other tests don't see it
    abbrev unsaid : (test : Event → Bool) (e : Event) → test e ≡ false → count test (behind e) ≡ count test journal
    unsaid test e not_one = count_same test journal n (Some e) not_one

    -- THE STATE GOES

    pub states_ready : (asked : Bool) → StateCounts ops v IsReadonly asked journal
        → StateCounts ops v IsReadAuto asked (behind (Ready (record { 0 = w })))
    states_ready asked s =
        let e : Event = Ready (record { 0 = w }) in
        let r = count_one (is_ready v) journal n e here in
        let p = unsaid (is_pending v) e refl in
        let a = unsaid (is_active v) e refl in
        let i = unsaid (is_idle v) e refl in
        let c = unsaid (is_clean v) e refl in
        let u = unsaid (is_submit_in ops v) e refl in
        record {
          ready = omega (arith, r, s.ready);
          pending = omega (arith, p, u, s.pending);
          active = omega (arith, a, p, s.active);
          idle = omega (arith, i, u, s.idle);
          clean = omega (arith, c, i, s.clean);
        }

    pub states_pending : (state : State) → (state ≡ IsReadAuto) ⊎ (state ≡ IsClean)
        → StateCounts ops v state true journal → StateCounts ops v IsPending true (behind (Pending (record { 0 = w })))
    states_pending state which s = at state which s
      where
        e : Event
        e = Pending (record { 0 = w })

        r : count (is_ready v) (behind e) ≡ count (is_ready v) journal
        r = unsaid (is_ready v) e refl

        p : count (is_pending v) (behind e) ≡ count (is_pending v) journal + 1
        p = count_one (is_pending v) journal n e here

        a : count (is_active v) (behind e) ≡ count (is_active v) journal
        a = unsaid (is_active v) e refl

        i : count (is_idle v) (behind e) ≡ count (is_idle v) journal
        i = unsaid (is_idle v) e refl

        c : count (is_clean v) (behind e) ≡ count (is_clean v) journal
        c = unsaid (is_clean v) e refl

        u : count (is_submit_in ops v) (behind e) ≡ count (is_submit_in ops v) journal
        u = unsaid (is_submit_in ops v) e refl

        rested : (x : State) → is_taken x ≡ false → StateCounts ops v x true journal
            → StateCounts ops v IsPending true (behind e)
        rested x rest s = record {
          ready = omega (arith, r, s.ready);
          pending =
              let had : count (is_pending v) journal + 1 ≤ count (is_submit_in ops v) journal =
              subst (λ t. count (is_pending v) journal + one_if (true && not t) ≤ count (is_submit_in ops v) journal)
              rest s.pending in
              omega (arith, p, u, had);
          active = let had = s.active in omega (arith, a, p, had);
          idle =
              let had : count (is_idle v) journal + 0 + 1 ≤ count (is_submit_in ops v) journal =
              subst (λ t. count (is_idle v) journal + one_if t + one_if (true && not t)
              ≤ count (is_submit_in ops v) journal) rest s.idle in
              omega (arith, i, u, had);
          clean = let had = s.clean in omega (arith, c, i, had);
        }

        at : (x : State) → (x ≡ IsReadAuto) ⊎ (x ≡ IsClean) → StateCounts ops v x true journal
            → StateCounts ops v IsPending true (behind e)
        at x (inl is) s = rested x (ap is_taken is) s
        at x (inr is) s = rested x (ap is_taken is) s

    pub states_active : (asked : Bool) → StateCounts ops v IsPending asked journal
        → StateCounts ops v IsActive asked (behind (Active (record { 0 = w })))
    states_active asked s =
        let e : Event = Active (record { 0 = w }) in
        let r = unsaid (is_ready v) e refl in
        let p = unsaid (is_pending v) e refl in
        let a = count_one (is_active v) journal n e here in
        let i = unsaid (is_idle v) e refl in
        let c = unsaid (is_clean v) e refl in
        let u = unsaid (is_submit_in ops v) e refl in
        record {
          ready = omega (arith, r, s.ready);
          pending = omega (arith, p, u, s.pending);
          active = omega (arith, a, p, s.active);
          idle = omega (arith, i, u, s.idle);
          clean = omega (arith, c, i, s.clean);
        }

    pub states_idle : StateCounts ops v IsActive false journal
        → StateCounts ops v IsIdle false (behind (Idle (record { 0 = w })))
    states_idle s =
        let e : Event = Idle (record { 0 = w }) in
        let r = unsaid (is_ready v) e refl in
        let p = unsaid (is_pending v) e refl in
        let a = unsaid (is_active v) e refl in
        let i = count_one (is_idle v) journal n e here in
        let c = unsaid (is_clean v) e refl in
        let u = unsaid (is_submit_in ops v) e refl in
        record {
          ready = omega (arith, r, s.ready);
          pending = omega (arith, p, u, s.pending);
          active = omega (arith, a, p, s.active);
          idle = omega (arith, i, u, s.idle);
          clean = omega (arith, c, i, s.clean);
        }

    pub states_clean : (asked : Bool) → StateCounts ops v IsIdle asked journal
        → StateCounts ops v IsClean asked (behind (Clean (record { 0 = w })))
    states_clean asked s =
        let e : Event = Clean (record { 0 = w }) in
        let r = unsaid (is_ready v) e refl in
        let p = unsaid (is_pending v) e refl in
        let a = unsaid (is_active v) e refl in
        let i = unsaid (is_idle v) e refl in
        let c = count_one (is_clean v) journal n e here in
        let u = unsaid (is_submit_in ops v) e refl in
        record {
          ready = omega (arith, r, s.ready);
          pending = omega (arith, p, u, s.pending);
          active = omega (arith, a, p, s.active);
          idle = omega (arith, i, u, s.idle);
          clean = omega (arith, c, i, s.clean);
        }

  -- what is idle is active again, where it is asked for: nothing is entered
  pub states_again : (journal : List Entry) (n : ℕ) → StateCounts ops v IsIdle true journal
      → StateCounts ops v IsActive true (journal ++ entered n None)
  states_again journal n s =
      let same = λ (test : Event → Bool). count_same test journal n None refl in
      let r = same (is_ready v) in
      let p = same (is_pending v) in
      let a = same (is_active v) in
      let i = same (is_idle v) in
      let c = same (is_clean v) in
      let u = same (is_submit_in ops v) in
      record {
        ready = omega (arith, r, s.ready);
        pending = omega (arith, p, u, s.pending);
        active = omega (arith, a, p, s.active);
        idle = omega (arith, i, u, s.idle);
        clean = omega (arith, c, i, s.clean);
      }

  -- a write to the volume is submitted
  pub states_submit : (state : State) (asked asked' : Bool) (journal : List Entry) (n i : ℕ)
      → is_write_in ops v i ≡ true → StateCounts ops v state asked journal
      → StateCounts ops v state asked' (journal ++ entered n (Some (Submit i)))
  states_submit state asked asked' journal n i writes s =
      let e : Event = Submit i in
      let same = λ (test : Event → Bool) (not_one : test e ≡ false). count_same test journal n (Some e) not_one in
      let r = same (is_ready v) refl in
      let p = same (is_pending v) refl in
      let a = same (is_active v) refl in
      let i = same (is_idle v) refl in
      let c = same (is_clean v) refl in
      let u = count_one (is_submit_in ops v) journal n e writes in
      let one = at_most_one (asked' && not (is_taken state)) in
      record {
        ready = omega (arith, r, s.ready);
        pending = omega (arith, p, u, one, s.pending);
        active = omega (arith, a, p, s.active);
        idle = omega (arith, i, u, one, s.idle);
        clean = omega (arith, c, i, s.clean);
      }
    where
      at_most_one : (b : Bool) → one_if b ≤ 1
      at_most_one true = omega arith
      at_most_one false = omega arith
