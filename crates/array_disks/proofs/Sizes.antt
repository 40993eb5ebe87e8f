-- Each known block has as many extended sectors as its anchor says, so that one without any is told by its anchor.
use Rattle.std.proofs.Common.{◌≡◌, ℕ, ◌-◌, ◌==◌, Bool, true, false, cond, List, [], ◌∷◌, length, refl, ap, sym, ◌∙◌, subst, Some, None, inl, inr}
use Rattle.std.proofs.lemmas.Bool.{eqb-true}
use Rattle.units.specs.declared.disk.Sector.{Sector}
use Rattle.units.specs.Places.{anchor_place}
use Rattle.device_log.specs.Log.{Call, What, Read, Write, Sync}
use Rattle.device_log.specs.Cells.{resting}
use Rattle.array_model.specs.Blocks.{Laid, Words, block_of}
use Rattle.array_model.specs.Start.{Disks}
use Rattle.array_model.specs.Candidates.{Disk, In, Part, NoPart, ExtendedPart, AnchorPart, OtherPart, part_of, disk_called, disk_from, disk_after, opened, writes}
use Rattle.array_disks.specs.Held.{first_block, IsFresh}
use Rattle.array_disks.specs.Brought.{blank, as_list, completed, brought_by, brought_to}
use Rattle.array_disks.proofs.Members.{in-append, laid_same}
use Rattle.array_disks.proofs.Places.{standing_length}
use Rattle.array_disks.proofs.Brought.{known_called}
use Rattle.array_disks.proofs.Syncs.{in_alone}
use Rattle.array_disks.proofs.Openings.{opened_known_is}

-- it has as many as its anchor says
abbrev HasAll : Words → Laid → Type 0
HasAll W a = W.extra a.anchor ≡ length a.extended

abbrev alone : Sector → Laid
alone s = record { anchor = s; extended = [] }

abbrev behind_it : List Sector → Sector → Laid
behind_it pend s = record { anchor = s; extended = pend }

block_sized : (W : Words) (pend : List Sector) (s : Sector) (a : Laid) → In a (as_list (block_of W pend s)) → HasAll W a
block_sized W pend s a = at (W.extra s == 0) refl (length pend == W.extra s) refl
  where
    at : (b : Bool) → (W.extra s == 0) ≡ b → (c : Bool) → (length pend == W.extra s) ≡ c
        → In a (as_list (cond b (Some (alone s)) (cond c (Some (behind_it pend s)) None))) → HasAll W a
    at true none c same i = subst (HasAll W) (sym (in_alone a (alone s) i)) (eqb-true (W.extra s) 0 none)
    at false some true same i =
        subst (HasAll W) (sym (in_alone a (behind_it pend s) i)) (sym (eqb-true (length pend) (W.extra s) same))
    at false some false same i = absurd i

completed_sized : (W : Words) (pend : List Sector) (p : Part) (a : Laid) → In a (completed W pend p) → HasAll W a
completed_sized W pend NoPart a i = absurd i
completed_sized W pend (ExtendedPart sectors) a i = absurd i
completed_sized W pend (AnchorPart s) a i = block_sized W pend s a i
completed_sized W pend OtherPart a i = absurd i

brought_sized : (W : Words) (n : ℕ) (pend : List Sector) (what : What) (a : Laid) → In a (brought_by W n pend what)
    → HasAll W a
brought_sized W n pend (Read place) a i = absurd i
brought_sized W n pend (Write place sectors stored) a i = completed_sized W pend (part_of n place sectors) a i
brought_sized W n pend Sync a i = absurd i

no_more : (xs : List Sector) → length xs ≡ 0 → xs ≡ []
no_more [] none = refl
no_more (x ∷ xs) none = absurd cc

module _ (W : Words) (disks : Disks) (d : ℕ) where
  sized_call : (k : Disk) (call : Call) → ((a : Laid) → In a k.known → HasAll W a)
      → (a : Laid) → In a (disk_called W disks d k call).known → HasAll W a
  sized_call k call all a i =
      elim (in-append a (brought_to W disks d k.pend call) k.known (subst (In a) (known_called W disks d k call) i)) [
        | inl new ↦ at (call.disk == d) new
        | inr old ↦ all a old
      ]
    where
      at : (b : Bool) → In a (cond b (brought_by W (disks.sectors d) k.pend call.what) []) → HasAll W a
      at true i = brought_sized W (disks.sectors d) k.pend call.what a i
      at false i = absurd i

  sized_from : (k : Disk) (log : List Call) → ((a : Laid) → In a k.known → HasAll W a)
      → (a : Laid) → In a (disk_from W disks d k log).known → HasAll W a
  sized_from k [] all = all
  sized_from k (call ∷ log) all = sized_from (disk_called W disks d k call) log (sized_call k call all)

  first_sized : HasAll W (first_block W disks d)
  first_sized =
      let count = W.extra (first_block W disks d).anchor in
      sym (standing_length (λ p. resting (disks.opening d p)) (anchor_place (disks.sectors d) - count) count)

  -- each known block does, and each that a log writes
  pub known_sized : (log : List Call) (a : Laid) → In a (disk_after W disks log d).known
      → W.extra a.anchor ≡ length a.extended
  known_sized log =
      sized_from (opened W disks d) log (λ a i. subst (HasAll W) (sym (opened_known_is W disks d a i).0) first_sized)

  -- and so does each that a log writes
  pub writes_sized : (log : List Call) (a : Laid) → In a (writes W disks d log) → W.extra a.anchor ≡ length a.extended
  writes_sized log = sized_from blank log (λ a i. absurd i)

  -- so no other known block has the anchor of a block of one sector
  pub fresh_short : (log : List Call) (m : Laid) → W.extra m.anchor ≡ 0 → m.extended ≡ []
      → IsFresh (disk_after W disks log d) m
  fresh_short log m none short a i same =
      let extended : a.extended ≡ [] = no_more a.extended (sym (known_sized log a i) ∙ ap W.extra same ∙ none) in
      laid_same a m same (extended ∙ sym short)
