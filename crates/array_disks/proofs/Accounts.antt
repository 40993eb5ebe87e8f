-- Candidates account for what stands: behind each call of a run they do, where they did before it.
use Rattle.std.proofs.Common.{◌≡◌, ℕ, ◌≤◌, nat_lt, Bool, true, false, ◌∷◌, refl, ap, sym, ◌∙◌, subst, ◌⊎◌, inl, inr}
use Rattle.units.specs.declared.bounds.TheConstants.{METADATA_SECTORS}
use Rattle.units.specs.Places.{anchor_place}
use Rattle.device_log.specs.Log.{What, Write, Sync}
use Rattle.device_log.specs.Cells.{Cell, brought}
use Rattle.array_model.specs.Blocks.{Laid, Words}
use Rattle.array_model.specs.Start.{Disks}
use Rattle.array_model.specs.Candidates.{Disk, In, is_among, standing}
use Rattle.array_disks.specs.Held.{IsPending, IsFresh, IsStanding, AccountForEnd}
use Rattle.array_disks.specs.Calls.{behind, RowCall, row_read, row_write, row_sync, FitsEnd, extended_write, anchor_write, RunCall, at_rows, of_extended, of_anchor}
use Rattle.array_disks.proofs.Members.{in_from_test, test_from_in}
use Rattle.array_disks.proofs.Rows.{row_same, row_known, row_anchor}
use Rattle.array_disks.proofs.Blocks.{extended_known, extended_candidates, extended_anchor, anchor_known, anchor_candidates, anchor_cell}
use Rattle.array_disks.proofs.Syncs.{sync_cases, sync_found}

-- the block that stands is a candidate, where it is known
pub account_stands : (W : Words) (n : ℕ) (k : Disk) (m : Laid) → AccountForEnd n k → IsStanding W n k m
    → In m k.candidates
account_stands W n k m account there = account.stand m there.known (sym (ap (λ (x : Laid). x.anchor) there.stands))

-- what stands is a candidate, or it isn't known
pub account_end : (W : Words) (n : ℕ) (k : Disk) → AccountForEnd n k
    → In (standing W n k.cells) k.candidates ⊎ (In (standing W n k.cells) k.known → ⊥)
account_end W n k account = at (is_among (standing W n k.cells) k.known) refl
  where
    m : Laid
    m = standing W n k.cells

    at : (b : Bool) → is_among m k.known ≡ b → In m k.candidates ⊎ (In m k.known → ⊥)
    at true is = inl (account.stand m (in_from_test m k.known is) refl)
    at false is = inr (λ i. let there = test_from_in m k.known i in absurd (cc (is, there)))

-- disks with the same blocks, on which the same anchor stands
account_same : (n : ℕ) (k l : Disk) → l.candidates ≡ k.candidates → l.known ≡ k.known
    → (l.cells (anchor_place n)).stood ≡ (k.cells (anchor_place n)).stood → AccountForEnd n k → AccountForEnd n l
account_same n k l candidates known stood account = record {
  known = λ a i. back a (account.known a (subst (In a) candidates i));
  own = λ a b i j same. account.own a b (subst (In a) known i) (subst (In b) known j) same;
  stand = λ a i here. subst (In a) (sym candidates) (account.stand a (subst (In a) known i) (here ∙ stood));
}
  where
    back : (a : Laid) → In a k.known → In a l.known
    back a i = subst (In a) (sym known) i

-- a disk with one block more, known and a candidate, of which the anchor was stored or not
account_more : (n : ℕ) (k l : Disk) (m : Laid) (b : Bool) → l.candidates ≡ m ∷ k.candidates → l.known ≡ m ∷ k.known
    → (l.cells (anchor_place n)).stood ≡ (brought (k.cells (anchor_place n)) m.anchor b).stood → IsFresh k m
    → AccountForEnd n k → AccountForEnd n l
account_more n k l m b candidates known stood fresh account = record {
  known = λ a i. subst (In a) (sym known) (elim (subst (In a) candidates i) [
    | inl new ↦ inl new
    | inr old ↦ inr (account.known a old)
  ]);
  own = λ x y i j same. own x y (subst (In x) known i) (subst (In y) known j) same;
  stand = λ a i here. subst (In a) (sym candidates) (stands b a (subst (In a) known i) (here ∙ stood));
}
  where
    own : (x y : Laid) → In x (m ∷ k.known) → In y (m ∷ k.known) → x.anchor ≡ y.anchor → x ≡ y
    own x y (inl new) (inl other) same = new ∙ sym other
    own x y (inl new) (inr old) same = new ∙ sym (fresh y old (sym same ∙ ap (λ (z : Laid). z.anchor) new))
    own x y (inr old) (inl new) same = fresh x old (same ∙ ap (λ (z : Laid). z.anchor) new) ∙ sym new
    own x y (inr old) (inr other) same = account.own x y old other same

    stands : (b : Bool) (a : Laid) → In a (m ∷ k.known)
        → a.anchor ≡ (brought (k.cells (anchor_place n)) m.anchor b).stood → In a (m ∷ k.candidates)
    stands b a (inl new) here = inl new
    stands true a (inr old) here = inl (fresh a old here)
    stands false a (inr old) here = inr (account.stand a old here)

module _ (W : Words) (disks : Disks) (d : ℕ) (k : Disk) (account : AccountForEnd (disks.sectors d) k) where
  account_sync : (went : Bool) → AccountForEnd (disks.sectors d) (behind W disks d k Sync went)
  account_sync went = record {
    known = λ a i. subst (In a) (sym same) (elim (sync_found W disks d k went a i) [
      | inl was ↦ account.known a was
      | inr found ↦ found.0.known
    ]);
    own = λ a b i j anchors. account.own a b (subst (In a) same i) (subst (In b) same j) anchors;
    stand = λ a i here. stand a (subst (In a) same i) (here ∙ row_anchor W disks d k Sync went row_sync);
  }
    where
      same : (behind W disks d k Sync went).known ≡ k.known
      same = row_known W disks d k Sync went row_sync

      stand : (a : Laid) → In a k.known → a.anchor ≡ (k.cells (anchor_place (disks.sectors d))).stood
          → In a (behind W disks d k Sync went).candidates
      stand a i here = elim (sync_cases W disks d k went) [
        | inl none ↦ subst (λ (x : Disk). In a x.candidates) (sym none) (account.stand a i here)
        | inr found ↦
            let is = account.own a (standing W (disks.sectors d) k.cells) i found.known here in
            subst (λ (x : Disk). In a x.candidates) (sym found.counted) (inl is)
      ]

  -- they do behind a call at rows
  pub account_row : (what : What) (went : Bool) → RowCall (disks.sectors d) what
      → AccountForEnd (disks.sectors d) (behind W disks d k what went)
  account_row _ went row_sync = account_sync went
  account_row _ went (row_read place) = account_same (disks.sectors d) k _ refl refl refl account
  account_row _ went (row_write place sectors stored before) =
      let what : What = Write place sectors stored in
      let row : RowCall (disks.sectors d) what = row_write place sectors stored before in
      let same = row_same W disks d k what went row (λ settled. settled) in
      let stood = row_anchor W disks d k what went row in
      account_same (disks.sectors d) k (behind W disks d k what went) same.candidates same.known stood account

  module _ (m : Laid) (room : METADATA_SECTORS ≤ disks.sectors d) (fits : FitsEnd W m) (stored : ℕ) (went : Bool) where
    -- behind the write of extended sectors
    pub account_extended
        : AccountForEnd (disks.sectors d) (behind W disks d k (extended_write (disks.sectors d) m stored) went)
    account_extended =
        account_same (disks.sectors d) k (behind W disks d k (extended_write (disks.sectors d) m stored) went)
        (extended_candidates W disks d m room fits k stored went) (extended_known W disks d m room fits k stored went)
        (extended_anchor W disks d m room fits k stored went) account

    -- and behind that of an anchor, which no other known block has
    pub account_anchor : IsPending k m → IsFresh k m
        → AccountForEnd (disks.sectors d) (behind W disks d k (anchor_write (disks.sectors d) m stored) went)
    account_anchor pending fresh =
        account_more (disks.sectors d) k (behind W disks d k (anchor_write (disks.sectors d) m stored) went)
        m (nat_lt 0 stored) (anchor_candidates W disks d m room fits k stored went pending)
        (anchor_known W disks d m room fits k stored went pending)
        (ap (λ (c : Cell). c.stood) (anchor_cell W disks d m room fits k stored went)) fresh account

  -- any call of a run
  pub account_call : (what : What) (went : Bool) → RunCall W (disks.sectors d) k what
      → AccountForEnd (disks.sectors d) (behind W disks d k what went)
  account_call _ went (at_rows what row) = account_row what went row
  account_call _ went (of_extended m stored room fits) = account_extended m room fits stored went
  account_call _ went (of_anchor m stored room fits pending fresh) =
      account_anchor m room fits stored went pending fresh
