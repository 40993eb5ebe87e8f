-- Known blocks only grow, and are those of the opening with those that the log wrote, in whole or from a stamp on.
use Rattle.std.proofs.Common.{◌≡◌, ℕ, zero, suc, ◌≤◌, ◌==◌, Bool, true, false, cond, List, [], ◌∷◌, ◌++◌, drop, length, refl, ap, sym, ◌∙◌, subst, arith, Option, Some, None, ◌⊎◌, inl, inr}
use Rattle.std.proofs.lemmas.Bool.Decides.{nat_tests}
use Rattle.std.proofs.lemmas.List.{drop-append-le}
use Rattle.units.specs.declared.disk.Sector.{Sector}
use Rattle.device_log.specs.Log.{Call, What, Read, Write, Sync}
use Rattle.array_model.specs.Blocks.{Laid, Words, block_of}
use Rattle.array_model.specs.Start.{Disks}
use Rattle.array_model.specs.Candidates.{Disk, In, Part, NoPart, ExtendedPart, AnchorPart, OtherPart, part_of, disk_called, disk_from, disk_after, opened, writes}
use Rattle.array_disks.specs.Brought.{blank, disk_since, as_list, completed, brought_by, brought_to}
use Rattle.array_disks.proofs.Members.{in-append, in_front, in_back}
use Rattle.array_disks.proofs.Logs.{disk_from-append, disk_after-append, disk_after_call}
use Rattle.array_disks.proofs.Brought.{pend_by, pend_behind, pend_to, pend_called, known_called, known_is}

-- FEWER EXTENDED SECTORS

-- none wait for their anchor, or the same
abbrev AreFewer : List Sector → List Sector → Type 0
AreFewer xs ys = (xs ≡ []) ⊎ (xs ≡ ys)

abbrev alone : Sector → Option Laid
alone s = Some (record { anchor = s; extended = [] })

abbrev behind_it : Sector → List Sector → Option Laid
behind_it s ys = Some (record { anchor = s; extended = ys })

-- with no extended sector before it an anchor completes a block only where it has none
block_with_fewer : (W : Words) (xs ys : List Sector) (s : Sector) → AreFewer xs ys
    → (a : Laid) → In a (as_list (block_of W xs s)) → In a (as_list (block_of W ys s))
block_with_fewer W xs ys s (inr same) a i = subst (λ zs. In a (as_list (block_of W zs s))) same i
block_with_fewer W xs ys s (inl none) a i =
    at (W.extra s == 0) refl (subst (λ zs. In a (as_list (block_of W zs s))) none i)
  where
    at : (b : Bool) → (W.extra s == 0) ≡ b
        → In a (as_list (cond b (alone s) (cond (0 == W.extra s) (alone s) None)))
        → In a (as_list (cond b (alone s) (cond (length ys == W.extra s) (behind_it s ys) None)))
    at true is j = j
    at false is j =
        let other : (0 == W.extra s) ≡ false = grind (arith, nat_tests, is) in
        absurd (subst (λ b. In a (as_list (cond b (alone s) None))) other j)

completed_with_fewer : (W : Words) (xs ys : List Sector) → AreFewer xs ys
    → (p : Part) (a : Laid) → In a (completed W xs p) → In a (completed W ys p)
completed_with_fewer W xs ys fewer NoPart a i = i
completed_with_fewer W xs ys fewer (ExtendedPart sectors) a i = i
completed_with_fewer W xs ys fewer (AnchorPart s) a i = block_with_fewer W xs ys s fewer a i
completed_with_fewer W xs ys fewer OtherPart a i = i

pend_with_fewer : (xs ys : List Sector) → AreFewer xs ys → (p : Part) → AreFewer (pend_behind xs p) (pend_behind ys p)
pend_with_fewer xs ys fewer NoPart = fewer
pend_with_fewer xs ys fewer (ExtendedPart sectors) = inr refl
pend_with_fewer xs ys fewer (AnchorPart s) = inl refl
pend_with_fewer xs ys fewer OtherPart = inl refl

pend_less : (n : ℕ) (xs ys : List Sector) (what : What) → AreFewer xs ys
    → AreFewer (pend_by n xs what) (pend_by n ys what)
pend_less n xs ys (Read place) fewer = fewer
pend_less n xs ys (Write place sectors stored) fewer = pend_with_fewer xs ys fewer (part_of n place sectors)
pend_less n xs ys Sync fewer = fewer

brought_less : (W : Words) (n : ℕ) (xs ys : List Sector) (what : What) → AreFewer xs ys
    → (a : Laid) → In a (brought_by W n xs what) → In a (brought_by W n ys what)
brought_less W n xs ys (Read place) fewer a i = i
brought_less W n xs ys (Write place sectors stored) fewer a i =
    completed_with_fewer W xs ys fewer (part_of n place sectors) a i
brought_less W n xs ys Sync fewer a i = i

module _ (W : Words) (disks : Disks) (d : ℕ) where
  -- A LOG FROM A LATER START

  -- disk k saw a later part of the log than disk l
  record SawLess (k l : Disk) : Type 0 where
    pend : AreFewer k.pend l.pend
    known : (a : Laid) → In a k.known → In a l.known

  saw_less_called : (k l : Disk) (call : Call) → SawLess k l
      → SawLess (disk_called W disks d k call) (disk_called W disks d l call)
  saw_less_called k l call less = record {
    pend = subst (λ xs. AreFewer xs (disk_called W disks d l call).pend) (sym (pend_called W disks d k call))
        (subst (AreFewer (pend_to W disks d k.pend call)) (sym (pend_called W disks d l call)) (pends here));
    known = λ a i. subst (In a) (sym (known_called W disks d l call)) (elim (split a i) [
      | inl new ↦ in_front a (brought_to W disks d l.pend call) l.known (fresh (call.disk == d) a new)
      | inr old ↦ in_back a (brought_to W disks d l.pend call) l.known (less.known a old)
    ]);
  }
    where
      here : Bool
      here = call.disk == d

      pends : (b : Bool) → AreFewer (cond b (pend_by (disks.sectors d) k.pend call.what) k.pend)
          (cond b (pend_by (disks.sectors d) l.pend call.what) l.pend)
      pends true = pend_less (disks.sectors d) k.pend l.pend call.what less.pend
      pends false = less.pend

      split : (a : Laid) → In a (disk_called W disks d k call).known
          → In a (brought_to W disks d k.pend call) ⊎ In a k.known
      split a i =
          in-append a (brought_to W disks d k.pend call) k.known (subst (In a) (known_called W disks d k call) i)

      fresh : (b : Bool) (a : Laid) → In a (cond b (brought_by W (disks.sectors d) k.pend call.what) [])
          → In a (cond b (brought_by W (disks.sectors d) l.pend call.what) [])
      fresh true a i = brought_less W (disks.sectors d) k.pend l.pend call.what less.pend a i
      fresh false a i = i

  saw_less : (k l : Disk) (log : List Call) → SawLess k l
      → SawLess (disk_from W disks d k log) (disk_from W disks d l log)
  saw_less k l [] less = less
  saw_less k l (call ∷ log) less =
      saw_less (disk_called W disks d k call) (disk_called W disks d l call) log (saw_less_called k l call less)

  since_in : (stamp : ℕ) (k : Disk) (log : List Call) (a : Laid)
      → In a (writes W disks d (drop stamp log)) → In a (disk_from W disks d k log).known
  since_in zero k log a i = (saw_less blank k log (record { pend = inl refl; known = λ b j. absurd j })).known a i
  since_in (suc stamp) k [] a i = absurd i
  since_in (suc stamp) k (call ∷ log) a i = since_in stamp (disk_called W disks d k call) log a i

  -- what a log writes from a stamp on, it writes
  pub writes_since : (stamp : ℕ) (log : List Call) (a : Laid)
      → In a (writes W disks d (drop stamp log)) → In a (writes W disks d log)
  writes_since stamp log a i = since_in stamp blank log a i

  -- and it is known
  pub since_known : (stamp : ℕ) (log : List Call) (a : Laid)
      → In a (writes W disks d (drop stamp log)) → In a (disk_after W disks log d).known
  since_known stamp log a i = since_in stamp (opened W disks d) log a i

  -- KNOWN, WRITTEN, OPENED

  -- a known block was written, or was known at opening
  pub known_origin : (log : List Call) (a : Laid) → In a (disk_after W disks log d).known
      → In a (writes W disks d log) ⊎ In a (opened W disks d).known
  known_origin log a i =
      in-append a (writes W disks d log) (opened W disks d).known (subst (In a) (known_is W disks d log) i)

  -- a block that was written is known
  pub written_known : (log : List Call) (a : Laid)
      → In a (writes W disks d log) → In a (disk_after W disks log d).known
  written_known log a i =
      subst (In a) (sym (known_is W disks d log)) (in_front a (writes W disks d log) (opened W disks d).known i)

  -- and so is one that was known at opening
  pub opened_known : (log : List Call) (a : Laid)
      → In a (opened W disks d).known → In a (disk_after W disks log d).known
  opened_known log a i =
      subst (In a) (sym (known_is W disks d log)) (in_back a (writes W disks d log) (opened W disks d).known i)

  -- MORE CALLS

  known_stays : (k : Disk) (more : List Call) (a : Laid) → In a k.known → In a (disk_from W disks d k more).known
  known_stays k [] a i = i
  known_stays k (call ∷ more) a i =
      known_stays (disk_called W disks d k call) more a
      (subst (In a) (sym (known_called W disks d k call)) (in_back a (brought_to W disks d k.pend call) k.known i))

  -- known blocks go on to be
  pub known_grows : (log more : List Call) (a : Laid)
      → In a (disk_after W disks log d).known → In a (disk_after W disks (log ++ more) d).known
  known_grows log more a i =
      subst (λ (k : Disk). In a k.known) (sym (disk_after-append W disks d log more))
      (known_stays (disk_after W disks log d) more a i)

  -- and so do those that the log writes
  pub writes_grow : (log more : List Call) (a : Laid)
      → In a (writes W disks d log) → In a (writes W disks d (log ++ more))
  writes_grow log more a i =
      subst (λ (k : Disk). In a k.known) (sym (disk_from-append W disks d blank log more))
      (known_stays (disk_from W disks d blank log) more a i)

  -- with one call more: what was known, and the block that the call completes
  pub known_call : (log : List Call) (call : Call)
      → (disk_after W disks (log ++ call ∷ []) d).known
      ≡ brought_to W disks d (disk_after W disks log d).pend call ++ (disk_after W disks log d).known
  known_call log call =
      ap (λ (k : Disk). k.known) (disk_after_call W disks d log call)
      ∙ known_called W disks d (disk_after W disks log d) call

  -- SINCE A STAMP

  -- behind a call a disk since a stamp is the disk since that stamp, called
  pub disk_since_call : (log : List Call) (stamp : ℕ) (call : Call) → stamp ≤ length log
      → disk_since W disks (log ++ call ∷ []) stamp d ≡ disk_called W disks d (disk_since W disks log stamp d) call
  disk_since_call log stamp call le =
      ap (disk_from W disks d blank) (drop-append-le stamp log (call ∷ []) le)
      ∙ disk_from-append W disks d blank (drop stamp log) (call ∷ [])

  -- what was written since a stamp was so by a longer log
  pub since_grows : (log more : List Call) (stamp : ℕ) (a : Laid) → stamp ≤ length log
      → In a (writes W disks d (drop stamp log)) → In a (writes W disks d (drop stamp (log ++ more)))
  since_grows log more stamp a le i =
      subst (λ calls. In a (writes W disks d calls)) (sym (drop-append-le stamp log more le))
      (writes_grow (drop stamp log) more a i)

  -- with one call more: what was written since, and the block that the call completes
  pub since_call : (log : List Call) (stamp : ℕ) (call : Call) (a : Laid) → stamp ≤ length log
      → In a (writes W disks d (drop stamp (log ++ call ∷ [])))
      → In a (writes W disks d (drop stamp log))
      ⊎ In a (brought_to W disks d (disk_since W disks log stamp d).pend call)
  since_call log stamp call a le i = elim (in-append a new (writes W disks d (drop stamp log)) (subst (In a) known i)) [
    | inl now ↦ inr now
    | inr old ↦ inl old
  ]
    where
      new : List Laid
      new = brought_to W disks d (disk_since W disks log stamp d).pend call

      known : writes W disks d (drop stamp (log ++ call ∷ []))
          ≡ brought_to W disks d (disk_since W disks log stamp d).pend call ++ writes W disks d (drop stamp log)
      known =
          ap (λ (k : Disk). k.known) (disk_since_call log stamp call le)
          ∙ known_called W disks d (disk_since W disks log stamp d) call
