-- What holds at each moment of a run goes on to hold after an effect, where it holds behind its call and behind its
-- entry.
use Rattle.std.proofs.Common.{◌≡◌, ℕ, ◌+◌, ◌<◌, ◌≤◌, List, [], ◌∷◌, ◌++◌, length, take, refl, sym, ◌∙◌, ap, subst, arith, length-append, ◌⊎◌, inl, inr, Option, Some, None}
use Rattle.std.proofs.lemmas.List.{append-nil, take-append-le, take_all}
use Rattle.device_log.specs.Log.{Call}
use Rattle.array_model.specs.declared.journal.Entry.{Entry}
use Rattle.array_model.specs.declared.journal.Event.{Event}
use Rattle.array_model.specs.Moments.{AllBelow, NoneBelow, Always}
use Rattle.array_model.proofs.Journals.{all_first, fronts_of_one}
use Rattle.array_machine.specs.Machine.{calls_after, log_after, entered}

-- FRONTS

-- a front of two lists is one of the first, or reaches into the second
cuts : (xs ys front rest : List Entry) → xs ++ ys ≡ front ++ rest
    → ((x : List Entry) × (xs ≡ front ++ x) × (rest ≡ x ++ ys)) ⊎
    ((p : List Entry) × (front ≡ xs ++ p) × (ys ≡ p ++ rest))
cuts xs ys [] rest e = inl (xs, refl, sym e)
cuts [] ys (f ∷ front) rest e = inr (f ∷ front, refl, e)
cuts (x ∷ xs) ys (f ∷ front) rest e =
    let head : x ≡ f = cc e in
    elim (cuts xs ys front rest (cc e)) [
      | inl l ↦ inl (l.0, cc (head, l.1), l.2)
      | inr r ↦ inr (r.0, cc (head, r.1), r.2)
    ]

below_rest : (c : ℕ) (xs ys : List Entry) → AllBelow c (xs ++ ys) → AllBelow c ys
below_rest c [] ys h = h
below_rest c (x ∷ xs) ys h = below_rest c xs ys h.1

nothing_between : (c n : ℕ) (xs : List Entry) → n < c → AllBelow n xs → NoneBelow c xs → xs ≡ []
nothing_between c n [] lt a b = refl
nothing_between c n (x ∷ xs) lt a b = absurd (omega (arith, a.0, b.0))

-- what a front reaches into of one entry: nothing, or all of it
into_entry : (n : ℕ) (e : Option Event) (p rest : List Entry) → entered n e ≡ p ++ rest
    → (p ≡ []) ⊎ ((p ≡ entered n e) × ((c : ℕ) → AllBelow c p → n ≤ c))
into_entry n None [] rest is = inl refl
into_entry n None (x ∷ p) rest is = absurd cc
into_entry n (Some e) p rest is = elim (fronts_of_one (record { stamp = n; event = e }) p rest is) [
  | inl none ↦ inl none
  | inr all ↦ inr (all, λ c h. (subst (AllBelow c) all h).0)
]

no_later : (n c : ℕ) → c ≤ n + 1 → (c ≤ n) ⊎ (c ≡ n + 1)
no_later n c le = grind arith

-- MOMENTS

module _ (P : List Call → List Entry → Type 0) where
  -- at a front of the journal before, which has all entries of the moment
  at_old : (log : List Call) (call : Option Call) (journal : List Entry) (calls : ℕ) → calls ≡ length log
      → AllBelow calls journal → Always P log journal → P (log_after log call) journal
      → (c : ℕ) (front x : List Entry) → c ≤ length (log_after log call) → journal ≡ front ++ x → AllBelow c front
      → NoneBelow c x → P (take c (log_after log call)) front
  at_old log None journal calls n below old behind c front x le parts none_above all_below =
      old c front x (record { parts = parts; calls = le; none_above = none_above; all_below = all_below })
  at_old log (Some k) journal calls n below old behind c front x le parts none_above all_below =
      elim (no_later (length log) c (let long = length-append log (k ∷ []) in omega (arith, le, long))) [
        | inl less ↦ rw (take-append-le c log (k ∷ []) less)
            (old c front x (record { parts = parts; calls = less; none_above = none_above; all_below = all_below }))
        | inr last ↦
            let none : x ≡ [] = nothing_between c calls x (omega (arith, n, last))
            (below_rest calls front x (subst (AllBelow calls) parts below)) all_below in
            let here : front ≡ journal = cc (parts, none, append-nil front) in
            let whole : take c (log ++ k ∷ []) ≡ log ++ k ∷ [] = take_all c (log ++ k ∷ [])
            (let long = length-append log (k ∷ []) in omega (arith, long, last)) in
            rw (whole, here) behind
      ]

  pub always_more : (log : List Call) (call : Option Call) (journal : List Entry) (calls : ℕ) (e : Option Event)
      → calls ≡ length log → calls_after calls call ≡ length (log_after log call) → AllBelow calls journal
      → Always P log journal → P (log_after log call) journal
      → P (log_after log call) (journal ++ entered (calls_after calls call) e)
      → Always P (log_after log call) (journal ++ entered (calls_after calls call) e)
  always_more log call journal calls e n m below old behind now c front rest moment =
      elim (cuts journal (entered (calls_after calls call) e) front rest moment.parts) [
        | inl l ↦ at_old log call journal calls n below old behind c front l.0 moment.calls l.1 moment.none_above
            (all_first (λ (x : Entry). c ≤ x.stamp) l.0 (entered (calls_after calls call) e)
            (subst (NoneBelow c) l.2 moment.all_below))
        | inr r ↦ elim (into_entry (calls_after calls call) e r.0 rest r.2) [
          | inl none ↦
              let here : front ≡ journal = cc (r.1, none, append-nil journal) in
              at_old log call journal calls n below old behind c front [] moment.calls (cc (here, append-nil front))
              moment.none_above tt
          | inr all ↦
              let last : calls_after calls call ≤ c = all.1 c
              (below_rest c journal r.0 (subst (AllBelow c) r.1 moment.none_above)) in
              let whole : take c (log_after log call) ≡ log_after log call = take_all c (log_after log call)
              (let le = moment.calls in omega (arith, last, m, le)) in
              let here : front ≡ journal ++ (entered (calls_after calls call) e) = r.1 ∙ ap (λ p. journal ++ p) all.0 in
              rw (whole, here) now
        ]
      ]

-- nothing was made and entered
pub always_none : (P : List Call → List Entry → Type 0) → P [] [] → Always P [] []
always_none P h c [] rest moment =
    let none : List Call = [] in let whole : take c none ≡ none = take_all c none (omega arith) in rw whole h
always_none P h c (x ∷ front) rest moment = absurd (cc moment.parts)
