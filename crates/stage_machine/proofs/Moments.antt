-- What holds at each moment of a run goes on to hold after a turn.
use Rattle.std.proofs.Common.{◌≡◌, ℕ, ◌+◌, ◌<◌, ◌≤◌, List, [], ◌∷◌, ◌++◌, length, take, refl, sym, subst, arith, length-append, ◌⊎◌, inl, inr, Option, Some, None}
use Rattle.std.proofs.lemmas.List.{append-nil, take-append-le, take_all}
use Rattle.device_log.specs.Log.{Call}
use Rattle.array_model.specs.declared.journal.Entry.{Entry}
use Rattle.array_model.specs.declared.journal.Event.{Event}
use Rattle.array_model.specs.Moments.{AllBelow, NoneBelow, Always}
use Rattle.array_model.specs.Form.{RisesFrom}
use Rattle.array_model.proofs.Journals.{all-append, all_first, below_later, at_each_log}
use Rattle.stage_machine.specs.Setting.{Setting}
use Rattle.stage_machine.specs.Machine.{World, Action, Reached, opens, goes, happens, turned, call_of, stamped, calls_after, log_after, run}
use Rattle.array_model.specs.Events.{AtEach}

-- of two cuts of one list, one is further
cuts : (xs ys front rest : List Entry) → xs ++ ys ≡ front ++ rest
    → ((x : List Entry) × (xs ≡ front ++ x) × (rest ≡ x ++ ys)) ⊎ ((p : List Entry) × (front ≡ xs ++ p) × (ys ≡ p ++ rest))
cuts xs ys [] rest e = inl (xs, refl, sym e)
cuts [] ys (f ∷ front) rest e = inr (f ∷ front, refl, e)
cuts (x ∷ xs) ys (f ∷ front) rest e =
    let head : x ≡ f = cc e in
    elim (cuts xs ys front rest (cc e)) [
      | inl l ↦ inl (l.0, cc (head, l.1), l.2)
      | inr r ↦ inr (r.0, cc (head, r.1), r.2)
    ]

all_rest : (c : ℕ) (xs ys : List Entry) → AllBelow c (xs ++ ys) → AllBelow c ys
all_rest c [] ys h = h
all_rest c (x ∷ xs) ys h = all_rest c xs ys h.1

-- what is stamped above c isn't below it
nothing_between : (c n : ℕ) (xs : List Entry) → n < c → AllBelow n xs → NoneBelow c xs → xs ≡ []
nothing_between c n [] lt a b = refl
nothing_between c n (x ∷ xs) lt a b = absurd (omega (arith, a.0, b.0))

-- p is stamped n, or there is none of it
stamp_of_front : (n c : ℕ) (es : List Event) (p rest : List Entry) → stamped n es ≡ p ++ rest → (front : List Entry) → AllBelow c (front ++ p) → (p ≡ []) ⊎ (n ≤ c)
stamp_of_front n c es [] rest e front h = inl refl
stamp_of_front n c [] (x ∷ p) rest e front h = absurd cc
stamp_of_front n c (ev ∷ es) (x ∷ p) rest e front h =
    let below = (all_rest c front (x ∷ p) h).0 in
    let is : record { stamp = n; event = ev } ≡ x = cc e in
    inr (subst (λ (y : Entry). y.stamp ≤ c) (sym is) below)

-- a turn's fronts
abbrev pub EachFront : (List Call → List Entry → Type 0) → List Call → List Entry → List Entry → Type 0
EachFront P log journal new = (p q : List Entry) → new ≡ p ++ q → P log (journal ++ p)

at_most : (c n : ℕ) → c ≤ n + 1 → (c ≤ n) ⊎ (c ≡ n + 1)
at_most c n le = grind arith

-- a front of the old journal, at a moment of the new log
old_front : (P : List Call → List Entry → Type 0) (log : List Call) (journal : List Entry) (calls : ℕ) (k : Call)
    → calls ≡ length log → AllBelow calls journal → Always P log journal → P (log ++ k ∷ []) journal
    → (c : ℕ) (front x : List Entry) → c ≤ length log + 1 → journal ≡ front ++ x → AllBelow c front → NoneBelow c x
    → P (take c (log ++ k ∷ [])) front
old_front P log journal calls k n below old now c front x le parts none_above all_below =
    elim (at_most c (length log) le) [
      | inl less ↦ rw (take-append-le c log (k ∷ []) less) (old c front x (record { parts = parts; calls = less; none_above = none_above; all_below = all_below }))
      | inr last ↦
          let none : x ≡ [] = nothing_between c calls x (omega arith) (all_rest calls front x (subst (AllBelow calls) parts below)) all_below in
          let here : front ≡ journal = cc (parts, none, append-nil front) in
          let whole : take c (log ++ k ∷ []) ≡ log ++ k ∷ [] = take_all c (log ++ k ∷ []) (omega (arith, length-append log (k ∷ []))) in
          rw (whole, here) now
    ]

pub always_more : (P : List Call → List Entry → Type 0) (log : List Call) (journal : List Entry) (calls : ℕ) (call : Option Call) (es : List Event)
    → calls ≡ length log → AllBelow calls journal
    → Always P log journal
    → EachFront P (log_after log call) journal (stamped (calls_after calls call) es)
    → Always P (log_after log call) (journal ++ stamped (calls_after calls call) es)
always_more P log journal calls None es n below old each c front rest mo =
    elim (cuts journal (stamped calls es) front rest mo.parts) [
      | inl l ↦ old c front l.0 (record { parts = l.1; calls = mo.calls; none_above = mo.none_above; all_below = all_first (λ e. c ≤ e.stamp) l.0 (stamped calls es) (subst (NoneBelow c) l.2 mo.all_below) })
      | inr r ↦
          elim (stamp_of_front calls c es r.0 rest r.2 journal (subst (AllBelow c) r.1 mo.none_above)) [
            | inl none ↦
                let here : front ≡ journal = cc (r.1, none, append-nil journal) in
                old c front [] (record { parts = cc (here, append-nil front); calls = mo.calls; none_above = mo.none_above; all_below = tt })
            | inr le ↦
                let whole : take c log ≡ log = take_all c log (omega arith) in
                rw (whole, r.1) (each r.0 rest r.2)
          ]
    ]
always_more P log journal calls (Some k) es n below old each c front rest mo =
    let now : P (log ++ k ∷ []) journal = subst (P (log ++ k ∷ [])) (append-nil journal) (each [] (stamped (calls + 1) es) refl) in
    let le : c ≤ length log + 1 = omega (arith, mo.calls, length-append log (k ∷ [])) in
    elim (cuts journal (stamped (calls + 1) es) front rest mo.parts) [
      | inl l ↦ old_front P log journal calls k n below old now c front l.0 le l.1 mo.none_above (all_first (λ e. c ≤ e.stamp) l.0 (stamped (calls + 1) es) (subst (NoneBelow c) l.2 mo.all_below))
      | inr r ↦
          elim (stamp_of_front (calls + 1) c es r.0 rest r.2 journal (subst (AllBelow c) r.1 mo.none_above)) [
            | inl none ↦
                let here : front ≡ journal = cc (r.1, none, append-nil journal) in
                old_front P log journal calls k n below old now c front [] le (cc (here, append-nil front)) mo.none_above tt
            | inr last ↦
                let whole : take c (log ++ k ∷ []) ≡ log ++ k ∷ [] = take_all c (log ++ k ∷ []) (omega (arith, length-append log (k ∷ []))) in
                rw (whole, r.1) (each r.0 rest r.2)
          ]
    ]

-- nothing was made and entered
pub always_none : (P : List Call → List Entry → Type 0) → P [] [] → Always P [] []
always_none P h c [] rest mo = let none : List Call = [] in let whole : take c none ≡ none = take_all c none (omega arith) in rw whole h
always_none P h c (x ∷ front) rest mo = absurd (cc mo.parts)

-- COUNTED CALLS, AND STAMPS

-- the calls are counted, and no entry is stamped above
pub record Counted (w : World) : Type 0 where
  pub calls : w.calls ≡ length w.log
  pub below : AllBelow w.calls w.journal
  pub rises : RisesFrom 0 w.journal

stamped_below : (n : ℕ) (es : List Event) → AllBelow n (stamped n es)
stamped_below n [] = tt
stamped_below n (e ∷ es) = (omega arith, stamped_below n es)

stamped_rises : (n m : ℕ) (es : List Event) → m ≤ n → RisesFrom m (stamped n es)
stamped_rises n m [] le = tt
stamped_rises n m (e ∷ es) le = (le, stamped_rises n n es (omega arith))

rises_more : (m n : ℕ) (xs : List Entry) (es : List Event) → m ≤ n → AllBelow n xs → RisesFrom m xs → RisesFrom m (xs ++ stamped n es)
rises_more m n [] es le below h = stamped_rises n m es le
rises_more m n (x ∷ xs) es le below h = (h.0, rises_more x.stamp n xs es below.0 below.1 h.1)

later : (n : ℕ) (call : Option Call) → n ≤ calls_after n call
later n None = omega arith
later n (Some k) = omega arith

calls_more : (n : ℕ) (log : List Call) (call : Option Call) → n ≡ length log → calls_after n call ≡ length (log_after log call)
calls_more n log None is = is
calls_more n log (Some k) is = omega (arith, length-append log (k ∷ []), is)

counted_after : (S : Setting) (w : World) (a : Action) → Counted w → Counted (happens S w a)
counted_after S w a k =
    let n = calls_after w.calls (call_of S w.control a) in
    let below = below_later w.calls n w.journal (later w.calls (call_of S w.control a)) k.below in
    record {
      calls = calls_more w.calls w.log (call_of S w.control a) k.calls;
      below = all-append (λ (e : Entry). e.stamp ≤ n) w.journal (stamped n (turned S w.control a).events) below (stamped_below n (turned S w.control a).events);
      rises = rises_more 0 n w.journal (turned S w.control a).events (omega arith) below k.rises;
    }

pub counted_reached : (S : Setting) (w : World) → Reached S w → Counted w
counted_reached S w opens = record { calls = refl; below = tt; rises = tt }
counted_reached S w (goes {w = v} r a) = counted_after S v a (counted_reached S v r)

-- what is said of the calls before an entry goes on to hold of the entries before a turn, in the log after it
pub at_each_before : (Q : List Call → List Entry → Entry → Type 0) (log : List Call) (call : Option Call) (journal : List Entry) → AllBelow (length log) journal
    → AtEach (λ front e. Q (take e.stamp log) front e) journal → AtEach (λ front e. Q (take e.stamp (log_after log call)) front e) journal
at_each_before Q log None journal below h = h
at_each_before Q log (Some x) journal below h = at_each_log Q log x [] journal below h

-- a run of turns leads to a world that is reached
pub reached_by : (S : Setting) (w : World) → Reached S w → (turns : List Action) → Reached S (run S w turns)
reached_by S w r [] = r
reached_by S w r (a ∷ more) = reached_by S (happens S w a) (goes r a) more
