-- A sync: what it finds, and what it counts.
use Rattle.std.proofs.Common.{◌≡◌, ℕ, ◌&&◌, max, Bool, true, false, [], ◌∷◌, refl, ap, sym, ◌∙◌, subst, ◌⊎◌, inl, inr}
use Rattle.std.proofs.lemmas.Bool.{and_parts, and_from}
use Rattle.device_log.specs.Log.{Sync}
use Rattle.array_model.specs.Blocks.{Laid, Words, is_container}
use Rattle.array_model.specs.Start.{Disks}
use Rattle.array_model.specs.Candidates.{Disk, In, is_among, standing, counted, best_with, noted}
use Rattle.array_disks.specs.Held.{HasCandidate, IsStanding, IsWholeOn, IsSole, AccountForEnd}
use Rattle.array_disks.specs.Calls.{behind, IsSettled}
use Rattle.array_disks.specs.Changes.{BestStays}
use Rattle.array_disks.proofs.Members.{in_from_test, test_from_in}

-- a block alone in a list
pub in_alone : (a m : Laid) → In a (m ∷ []) → a ≡ m
in_alone a m (inl here) = here
in_alone a m (inr none) = absurd none

module _ (W : Words) (disks : Disks) (d : ℕ) (k : Disk) where
  abbrev pub stands_at : Laid
  stands_at = standing W (disks.sectors d) k.cells

  abbrev is_whole : Bool
  is_whole = W.is_whole (disks.serial d) (disks.sectors d) stands_at

  -- a sync that goes through finds the block that stands there whole and known, and counts it
  pub record Finds (went : Bool) : Type 0 where
    pub settled : IsSettled Sync went
    pub whole : IsWholeOn W disks d stands_at
    pub known : In stands_at k.known
    pub counted : noted W (disks.serial d) (disks.sectors d) k Sync went ≡ counted W k stands_at true

  -- any sync finds so, or changes nothing of the blocks
  pub sync_cases : (went : Bool) → (noted W (disks.serial d) (disks.sectors d) k Sync went ≡ k) ⊎ Finds went
  sync_cases false = inl refl
  sync_cases true = at (is_whole && is_among stands_at k.known) refl
    where
      at : (b : Bool) → (is_whole && is_among stands_at k.known) ≡ b
          → (noted W (disks.serial d) (disks.sectors d) k Sync true ≡ k) ⊎ Finds true
      at false is = inl (ap (counted W k stands_at) is)
      at true is =
          let both = and_parts is_whole (is_among stands_at k.known) is in
          inr (record {
            settled = tt;
            whole = both.0;
            known = in_from_test stands_at k.known both.1;
            counted = ap (counted W k stands_at) is;
          })

  sync_counts : IsWholeOn W disks d stands_at → In stands_at k.known
      → noted W (disks.serial d) (disks.sectors d) k Sync true ≡ counted W k stands_at true
  sync_counts whole known = ap (counted W k stands_at) (and_from _ _ whole (test_from_in stands_at k.known known))

  -- THE SYNC BEHIND THE WRITE OF A BLOCK

  module _ (m : Laid) (there : IsStanding W (disks.sectors d) k m) (whole : IsWholeOn W disks d m) where
    counts : noted W (disks.serial d) (disks.sectors d) k Sync true ≡ counted W k m true
    counts =
        sync_counts (subst (IsWholeOn W disks d) (sym there.stands) whole)
        (subst (λ x. In x k.known) (sym there.stands) there.known)
        ∙ ap (λ x. counted W k x true) there.stands

    -- it leaves the block as the sole candidate
    pub sync_leaves : (behind W disks d k Sync true).candidates ≡ m ∷ []
    sync_leaves = ap (λ (x : Disk). x.candidates) counts

    -- so that it is the one that a stop may leave
    pub sync_sole : IsSole (behind W disks d k Sync true) m
    sync_sole = record {
      there = subst (In m) (sym sync_leaves) (inl refl);
      only = λ a i. in_alone a m (subst (In a) sync_leaves i);
    }

    -- and counts the generation of a container's block
    pub sync_best : is_container W m ≡ true → (behind W disks d k Sync true).best ≡ max k.best (W.generation m.anchor)
    sync_best container =
        ap (λ (x : Disk). x.best) counts ∙ ap (λ b. best_with b k.best (W.generation m.anchor)) container

  -- ANY SYNC

  -- a candidate behind it was one, or is what stood, whole and known
  pub sync_found : (went : Bool) (a : Laid) → In a (behind W disks d k Sync went).candidates
      → In a k.candidates ⊎ (IsStanding W (disks.sectors d) k a × IsWholeOn W disks d a)
  sync_found went a i = elim (sync_cases went) [
    | inl same ↦ inl (subst (λ (x : Disk). In a x.candidates) same i)
    | inr found ↦
        let is : stands_at ≡ a = sym (in_alone a stands_at (subst (λ (x : Disk). In a x.candidates) found.counted i)) in
        let known = subst (λ x. In x k.known) is found.known in
        inr (record { stands = is; known = known }, subst (IsWholeOn W disks d) is found.whole)
  ]

  -- a disk that had a candidate has one
  pub sync_some : (went : Bool) → HasCandidate k → HasCandidate (behind W disks d k Sync went)
  sync_some went some = elim (sync_cases went) [
    | inl same ↦ (some.0, subst (λ (x : Disk). In some.0 x.candidates) (sym same) some.1)
    | inr found ↦ (stands_at, subst (λ (x : Disk). In stands_at x.candidates) (sym found.counted) (inl refl))
  ]

  -- the best generation stays, or is with that of the container's block which was found
  pub sync_raises : (went : Bool) → ((behind W disks d k Sync went).best ≡ k.best)
      ⊎ (Finds went × (is_container W stands_at ≡ true)
      × ((behind W disks d k Sync went).best ≡ max k.best (W.generation stands_at.anchor)))
  sync_raises went = elim (sync_cases went) [
    | inl same ↦ inl (ap (λ (x : Disk). x.best) same)
    | inr found ↦ at found (is_container W stands_at) refl
  ]
    where
      at : Finds went → (b : Bool) → is_container W stands_at ≡ b
          → ((behind W disks d k Sync went).best ≡ k.best)
          ⊎ (Finds went × (is_container W stands_at ≡ true)
          × ((behind W disks d k Sync went).best ≡ max k.best (W.generation stands_at.anchor)))
      at found false is =
          inl (ap (λ (x : Disk). x.best) found.counted
          ∙ ap (λ b. best_with b k.best (W.generation stands_at.anchor)) is)
      at found true is = inr (
        found,
        is,
        ap (λ (x : Disk). x.best) found.counted ∙ ap (λ b. best_with b k.best (W.generation stands_at.anchor)) is,
      )

  -- where candidates account for what stands, what it finds was one
  module _ (account : AccountForEnd (disks.sectors d) k) where
    -- each candidate was one
    pub sync_narrows : (went : Bool) (a : Laid) → In a (behind W disks d k Sync went).candidates → In a k.candidates
    sync_narrows went a i = elim (sync_found went a i) [
      | inl was ↦ was
      | inr found ↦ account.stand a found.0.known (sym (ap (λ (x : Laid). x.anchor) found.0.stands))
    ]

    -- and a generation that is counted is that of a candidate
    pub sync_best_stays : (went : Bool) → BestStays W k (behind W disks d k Sync went)
    sync_best_stays went = elim (sync_raises went) [
      | inl same ↦ inl same
      | inr raised ↦ inr (
        stands_at,
        record {
          was = account.stand stands_at raised.0.known refl;
          sole = record {
            there = subst (λ (x : Disk). In stands_at x.candidates) (sym raised.0.counted) (inl refl);
            only = λ a i. in_alone a stands_at (subst (λ (x : Disk). In a x.candidates) raised.0.counted i);
          };
          container = raised.1;
          best = raised.2;
        },
      )
    ]
