-- A disk as it was opened: what is known of it, and what it may hold.
use Rattle.std.proofs.Common.{◌≡◌, ℕ, ◌==◌, max, Bool, true, false, cond, List, [], ◌∷◌, refl, ap, sym, ◌∙◌, subst, arith, ◌⊎◌, inl, inr}
use Rattle.device_log.specs.Log.{Call}
use Rattle.device_log.specs.Cells.{Cell, resting, cell_at, cell_called, cell_after}
use Rattle.array_model.specs.Blocks.{Laid, Words, is_container}
use Rattle.array_model.specs.Start.{Disks}
use Rattle.array_model.specs.Candidates.{Disk, In, best_with, opened, opened_with, disk_called, disk_from, disk_after}
use Rattle.array_disks.specs.Held.{first_block, IsWholeOn, AccountForEnd, AccountForEnds}
use Rattle.array_disks.specs.Calls.{behind}
use Rattle.array_disks.specs.Changes.{EachKnown, EachCandidate}
use Rattle.array_disks.proofs.Syncs.{in_alone}

module _ (W : Words) (disks : Disks) (d : ℕ) where
  abbrev first : Laid
  first = first_block W disks d

  abbrev is_whole : Bool
  is_whole = W.is_whole (disks.serial d) (disks.sectors d) (first_block W disks d)

  -- the disk, where that block is whole, or isn't
  abbrev opened_as : Bool → Disk
  opened_as b = opened_with W (λ p. resting (disks.opening d p)) (first_block W disks d) b

  opened_is : (b : Bool) → is_whole ≡ b → opened W disks d ≡ opened_as b
  opened_is b is = ap opened_as is

  -- only the block that stood there is known, where it is whole
  pub opened_known_is : (a : Laid) → In a (opened W disks d).known
      → (a ≡ first_block W disks d) × IsWholeOn W disks d (first_block W disks d)
  opened_known_is a i = at is_whole refl
    where
      at : (b : Bool) → is_whole ≡ b → (a ≡ first) × IsWholeOn W disks d first
      at true is = (in_alone a first (subst (λ (k : Disk). In a k.known) (opened_is true is) i), is)
      at false is = absurd (subst (λ (k : Disk). In a k.known) (opened_is false is) i)

  -- each known block is a candidate
  pub opened_candidates : (opened W disks d).candidates ≡ (opened W disks d).known
  opened_candidates = at is_whole
    where
      at : (b : Bool) → (opened_as b).candidates ≡ (opened_as b).known
      at true = refl
      at false = refl

  -- the block that stood there whole is a candidate
  pub opened_has : IsWholeOn W disks d (first_block W disks d)
      → In (first_block W disks d) (opened W disks d).candidates
  opened_has is = subst (λ (k : Disk). In first k.candidates) (sym (opened_is true is)) (inl refl)

  -- the best generation is that of the block which stood there, whole and a container's, or 0
  pub opened_best : ((opened W disks d).best ≡ 0)
      ⊎ (IsWholeOn W disks d (first_block W disks d) × (is_container W (first_block W disks d) ≡ true)
      × ((opened W disks d).best ≡ W.generation (first_block W disks d).anchor))
  opened_best = at is_whole refl (is_container W first) refl
    where
      g : ℕ
      g = W.generation first.anchor

      max_zero : max 0 g ≡ g
      max_zero = grind arith

      best : (c : Bool) → is_container W first ≡ c → is_whole ≡ true → (opened W disks d).best ≡ best_with c 0 g
      best c container is = ap (λ (k : Disk). k.best) (opened_is true is) ∙ ap (λ c. best_with c 0 g) container

      at : (b : Bool) → is_whole ≡ b → (c : Bool) → is_container W first ≡ c
          → ((opened W disks d).best ≡ 0)
          ⊎ (IsWholeOn W disks d first × (is_container W first ≡ true) × ((opened W disks d).best ≡ g))
      at false is c container = inl (ap (λ (k : Disk). k.best) (opened_is false is))
      at true is false container = inl (best false container is)
      at true is true container = inr (is, container, best true container is ∙ max_zero)

  -- candidates account for what stands
  pub opened_account : AccountForEnd (disks.sectors d) (opened W disks d)
  opened_account = record {
    known = λ a i. subst (In a) opened_candidates i;
    own = λ a b i j same. (opened_known_is a i).0 ∙ sym (opened_known_is b j).0;
    stand = λ a i here. subst (In a) (sym opened_candidates) i;
  }

  -- PLACES

  opened_cells : (p : ℕ) → (opened W disks d).cells p ≡ resting (disks.opening d p)
  opened_cells p = at is_whole
    where
      at : (b : Bool) → (opened_as b).cells p ≡ resting (disks.opening d p)
      at true = refl
      at false = refl

  called_cells : (k : Disk) (call : Call) (p : ℕ)
      → (disk_called W disks d k call).cells p ≡ cell_called d p (k.cells p) call
  called_cells k call p = at (call.disk == d)
    where
      at : (b : Bool) → (cond b (behind W disks d k call.what call.went) k).cells p
          ≡ cond b (cell_at p (k.cells p) call.what call.went) (k.cells p)
      at true = refl
      at false = refl

  cells_from : (k : Disk) (log : List Call) (p : ℕ)
      → (disk_from W disks d k log).cells p ≡ cell_after d p (k.cells p) log
  cells_from k [] p = refl
  cells_from k (call ∷ log) p =
      cells_from (disk_called W disks d k call) log p
      ∙ ap (λ (c : Cell). cell_after d p c log) (called_cells k call p)

  -- the places of a disk go on as the device log says, however blocks are read
  pub cells_after : (log : List Call) (p : ℕ)
      → (disk_after W disks log d).cells p ≡ cell_after d p (resting (disks.opening d p)) log
  cells_after log p =
      cells_from (opened W disks d) log p ∙ ap (λ (c : Cell). cell_after d p c log) (opened_cells p)

-- ALL DISKS

module _ (W : Words) (disks : Disks) where
  pub account_opened : AccountForEnds W disks []
  account_opened d = opened_account W disks d

  -- what holds of each whole block that stood on a disk holds of each known one
  pub each_known_opened : (P : ℕ → Laid → Type 0)
      → ((d : ℕ) → IsWholeOn W disks d (first_block W disks d) → P d (first_block W disks d))
      → EachKnown P (disk_after W disks [])
  each_known_opened P holds d a i =
      let known = opened_known_is W disks d a i in
      subst (P d) (sym known.0) (holds d known.1)

  -- and of each candidate
  pub each_candidate_opened : (P : ℕ → Laid → Type 0)
      → ((d : ℕ) → IsWholeOn W disks d (first_block W disks d) → P d (first_block W disks d))
      → EachCandidate P (disk_after W disks [])
  each_candidate_opened P holds d a i = each_known_opened P holds d a (subst (In a) (opened_candidates W disks d) i)
