-- The best generation that a counted sync found on a disk, and the mark, which is the greatest of them.
use Rattle.std.proofs.Common.{◌≡◌, ℕ, zero, suc, ◌<◌, ◌≤◌, ◌==◌, max, Bool, true, false, List, [], ◌∷◌, ◌++◌, refl, ap, sym, ◌∙◌, subst, arith, ◌⊎◌, inl, inr}
use Rattle.std.proofs.lemmas.Bool.Decides.{nat_tests}
use Rattle.std.proofs.lemmas.Bool.{eqb-true}
use Rattle.device_log.specs.Log.{Call, What, Read, Write, Sync}
use Rattle.array_model.specs.Blocks.{Laid, Words}
use Rattle.array_model.specs.Start.{Disks}
use Rattle.array_model.specs.Candidates.{Disk, In, standing, disk_called, disk_from, disk_after, mark_below, mark}
use Rattle.array_disks.specs.Held.{AccountForEnd}
use Rattle.array_disks.specs.Calls.{call_on, behind, after_call}
use Rattle.array_disks.specs.Marks.{Raises}
use Rattle.array_disks.proofs.Logs.{each_disk, each_called, disk_after-append, here_changes, other_stays}
use Rattle.array_disks.proofs.Rows.{write_best}
use Rattle.array_disks.proofs.Syncs.{sync_raises}
use Rattle.array_disks.proofs.Accounts.{account_stands}

max_left : (x y : ℕ) → x ≤ max x y
max_left x y = grind arith

max_right : (x y : ℕ) → y ≤ max x y
max_right x y = grind arith

max_both : (x y z : ℕ) → x ≤ z → y ≤ z → max x y ≤ z
max_both x y z p q = grind (arith, p, q)

max_or : (x y : ℕ) → (max x y ≡ x) ⊎ ((max x y ≡ y) × (x < y))
max_or x y = grind arith

below_max : (g x y : ℕ) → g < max x y → (g < x) ⊎ (g < y)
below_max g x y lt = grind (arith, lt)

-- ONE DISK

module _ (W : Words) (disks : Disks) (d : ℕ) (k : Disk) where
  -- the best generation stays, or the call raises it
  pub best_call : (what : What) (went : Bool) → ((behind W disks d k what went).best ≡ k.best)
      ⊎ Raises W disks d k what went (behind W disks d k what went).best
  best_call (Read place) went = inl refl
  best_call (Write place sectors stored) went = inl (write_best W disks d k place sectors stored went)
  best_call Sync went = elim (sync_raises W disks d k went) [
    | inl same ↦ inl same
    | inr counted ↦ elim (max_or k.best (W.generation m.anchor)) [
      | inl same ↦ inl (counted.2 ∙ same)
      | inr more ↦
          let is : (behind W disks d k Sync went).best ≡ W.generation m.anchor = counted.2 ∙ more.0 in
          inr (record {
            settled = counted.0.settled;
            block = m;
            standing = record { stands = refl; known = counted.0.known };
            whole = counted.0.whole;
            container = counted.1;
            generation = sym is;
            above = subst (λ b. k.best < b) (sym is) more.1;
          })
    ]
  ]
    where
      m : Laid
      m = standing W (disks.sectors d) k.cells

  -- it never falls
  pub best_at_least : (what : What) (went : Bool) → k.best ≤ (behind W disks d k what went).best
  best_at_least what went = elim (best_call what went) [
    | inl same ↦ omega (arith, same)
    | inr raised ↦ let above = raised.above in omega (arith, above)
  ]

-- a block whose generation is raised to was a candidate, where candidates account for what stands
pub raised_was : (W : Words) (disks : Disks) (d : ℕ) (k : Disk) (what : What) (went : Bool) (g : ℕ)
    → AccountForEnd (disks.sectors d) k → (r : Raises W disks d k what went g) → In r.block k.candidates
raised_was W disks d k what went g account r = account_stands W (disks.sectors d) k r.block account r.standing

-- THE GREATEST OF THE DISKS

-- what is below the mark is below the best generation of some disk of the bank
pub below_mark : (n : ℕ) (ks : ℕ → Disk) (g : ℕ) → g < mark_below n ks → (d : ℕ) × (d < n) × (g < (ks d).best)
below_mark zero ks g lt = absurd (omega (arith, lt))
below_mark (suc n) ks g lt = elim (below_max g (ks n).best (mark_below n ks) lt) [
  | inl here ↦ (n, omega arith, here)
  | inr more ↦ let found = below_mark n ks g more in let less = found.1 in (found.0, omega (arith, less), found.2)
]

-- no disk of the bank is above the mark
pub mark_at_least : (n : ℕ) (ks : ℕ → Disk) (d : ℕ) → d < n → (ks d).best ≤ mark_below n ks
mark_at_least zero ks d lt = absurd (omega (arith, lt))
mark_at_least (suc n) ks d lt = at (d == n) refl (λ less. mark_at_least n ks d less)
  where
    at : (b : Bool) → (d == n) ≡ b → (d < n → (ks d).best ≤ mark_below n ks)
        → (ks d).best ≤ max (ks n).best (mark_below n ks)
    at true is rest =
        subst (λ x. (ks x).best ≤ max (ks n).best (mark_below n ks)) (sym (eqb-true d n is))
        (max_left (ks n).best (mark_below n ks))
    at false is rest =
        let most = rest (grind (arith, nat_tests, is, lt)) in
        let more = max_right (ks n).best (mark_below n ks) in
        omega (arith, most, more)

-- and the mark is no higher than the highest of them
pub mark_at_most : (n : ℕ) (ks : ℕ → Disk) (g : ℕ) → ((d : ℕ) → d < n → (ks d).best ≤ g) → mark_below n ks ≤ g
mark_at_most zero ks g each = omega arith
mark_at_most (suc n) ks g each =
    let rest = mark_at_most n ks g (λ d lt. each d (omega (arith, lt))) in
    max_both (ks n).best (mark_below n ks) g (each n (omega arith)) rest

mark_same : (n : ℕ) (ks ls : ℕ → Disk) → ((d : ℕ) → (ls d).best ≡ (ks d).best) → mark_below n ls ≡ mark_below n ks
mark_same zero ks ls same = refl
mark_same (suc n) ks ls same =
    ap (λ x. max x (mark_below n ls)) (same n) ∙ ap (max (ks n).best) (mark_same n ks ls same)

module _ (W : Words) (disks : Disks) where
  -- A LOG

  best_called : (call : Call) (d : ℕ) (k : Disk) → k.best ≤ (disk_called W disks d k call).best
  best_called call =
      each_called W disks (λ d k l. k.best ≤ l.best) call
      (λ d here k. best_at_least W disks d k call.what call.went) (λ d k. omega arith)

  best_from : (d : ℕ) (k : Disk) (more : List Call) → k.best ≤ (disk_from W disks d k more).best
  best_from d k [] = omega arith
  best_from d k (call ∷ more) =
      let first = best_called call d k in
      let rest = best_from d (disk_called W disks d k call) more in
      omega (arith, first, rest)

  -- the best generation of a disk never falls
  pub best_grows : (log more : List Call) (d : ℕ)
      → (disk_after W disks log d).best ≤ (disk_after W disks (log ++ more) d).best
  best_grows log more d =
      subst (λ (k : Disk). (disk_after W disks log d).best ≤ k.best) (sym (disk_after-append W disks d log more))
      (best_from d (disk_after W disks log d) more)

  -- nor does the mark
  pub mark_grows : (log more : List Call) → mark W disks log ≤ mark W disks (log ++ more)
  mark_grows log more = mark_at_most disks.count (disk_after W disks log) (mark W disks (log ++ more)) (λ d lt.
      let grows = best_grows log more d in
      let least = mark_at_least disks.count (disk_after W disks (log ++ more)) d lt in
      omega (arith, grows, least))

  -- ONE CALL MORE

  module _ (log : List Call) (d : ℕ) (what : What) (went : Bool) where
    abbrev ks : ℕ → Disk
    ks = disk_after W disks log

    abbrev ls : ℕ → Disk
    ls = after_call W disks log d what went

    -- the best generation of the disk that is called, behind it
    abbrev now : ℕ
    now = (behind W disks d (disk_after W disks log d) what went).best

    -- a call that leaves the best generation of its disk leaves the mark
    pub mark_stays : (behind W disks d (disk_after W disks log d) what went).best ≡ (disk_after W disks log d).best
        → mark W disks (log ++ call_on d what went ∷ []) ≡ mark W disks log
    mark_stays same =
        mark_same disks.count ks ls
        (each_disk W disks (λ e k l. l.best ≡ k.best) log d what went same (λ e k. refl))

    here_now : (ls d).best ≡ now
    here_now = ap (λ (k : Disk). k.best) (here_changes W disks log d what went)

    each_now : (e : ℕ) → ((ls e).best ≡ (ks e).best) ⊎ ((d ≡ e) × ((ls e).best ≡ now))
    each_now e = at (d == e) refl
      where
        at : (b : Bool) → (d == e) ≡ b → ((ls e).best ≡ (ks e).best) ⊎ ((d ≡ e) × ((ls e).best ≡ now))
        at true is = let same = eqb-true d e is in inr (same, subst (λ x. (ls x).best ≡ now) same here_now)
        at false is = inl (ap (λ (k : Disk). k.best) (other_stays W disks e log (call_on d what went) is))

    -- where the disk that is called is now above the mark, the mark is its best generation
    is_mark : d < disks.count → mark W disks log < now → now ≡ mark W disks (log ++ call_on d what went ∷ [])
    is_mark there less = omega (arith, least, here, most)
      where
        least : (ls d).best ≤ mark_below disks.count ls
        least = mark_at_least disks.count ls d there

        here : (ls d).best ≡ now
        here = here_now

        most : mark_below disks.count ls ≤ now
        most = mark_at_most disks.count ls now (λ e inside. elim (each_now e) [
          | inl same ↦ let old = mark_at_least disks.count ks e inside in omega (arith, same, old, less)
          | inr is ↦ let equal = is.1 in omega (arith, equal)
        ])

    raised_by : d < disks.count → mark W disks log < now
        → Raises W disks d (disk_after W disks log d) what went (mark W disks (log ++ call_on d what went ∷ []))
    raised_by there less =
        subst (Raises W disks d (disk_after W disks log d) what went) (is_mark there less)
        (elim (best_call W disks d (disk_after W disks log d) what went) [
          | inl same ↦ absurd (let old = mark_at_least disks.count ks d there in omega (arith, same, old, less))
          | inr is ↦ is
        ])

    -- one that raises the mark is a sync on a disk of the bank, and raises the best generation there to just the mark
    pub mark_raised : mark W disks log < mark W disks (log ++ call_on d what went ∷ [])
        → (d < disks.count)
        × Raises W disks d (disk_after W disks log d) what went (mark W disks (log ++ call_on d what went ∷ []))
    mark_raised lt = at (below_mark disks.count ls (mark W disks log) lt)
      where
        at : (e : ℕ) × (e < disks.count) × (mark W disks log < (ls e).best)
            → (d < disks.count)
            × Raises W disks d (disk_after W disks log d) what went (mark W disks (log ++ call_on d what went ∷ []))
        at (e, inside, above) = elim (each_now e) [
          | inl same ↦ absurd (let old = mark_at_least disks.count ks e inside in omega (arith, same, old, above))
          | inr is ↦
              let there : d < disks.count = subst (λ x. x < disks.count) (sym is.0) inside in
              (there, raised_by there (let equal = is.1 in omega (arith, equal, above)))
        ]
