-- What the blocks of a log have in common, where each block has one sector.
use Rattle.std.proofs.Common.{◌≡◌, ℕ, ◌+◌, ◌-◌, ◌==◌, ◌&&◌, Bool, true, false, if◌then◌else◌, nat_le, List, [], ◌∷◌, length, refl, sym, subst, inl, inr}
use Rattle.std.specs.List.{AllByRecursion, list_all}
use Rattle.std.proofs.lemmas.Bool.{and_parts}
use Rattle.units.specs.declared.disk.Sector.{Sector}
use Rattle.units.specs.Places.{anchor_place}
use Rattle.units.specs.declared.bounds.TheConstants.{METADATA_SECTORS}
use Rattle.device_log.specs.Log.{Call, What, Read, Write, Sync}
use Rattle.array_model.specs.Blocks.{Laid, Words}
use Rattle.array_model.specs.Start.{Disks}
use Rattle.array_model.specs.Candidates.{Disk, In, Part, NoPart, ExtendedPart, AnchorPart, OtherPart, part_of, part_at_end, written, standing, counted, noted, disk_at, disk_called, disk_from, writes, is_among}

pub in_all : (P : Laid → Type 0) (m : Laid) (ms : List Laid) → In m ms → AllByRecursion P ms → P m
in_all P m [] i h = absurd i
in_all P m (x ∷ xs) (inl same) h = subst P (sym same) h.0
in_all P m (x ∷ xs) (inr i) h = in_all P m xs i h.1

in_passing : (P : Laid → Bool) (m : Laid) (ms : List Laid) → In m ms → list_all P ms ≡ true → P m ≡ true
in_passing P m [] i h = absurd i
in_passing P m (x ∷ xs) (inl same) h = subst (λ z. P z ≡ true) (sym same) (and_parts (P x) (list_all P xs) h).0
in_passing P m (x ∷ xs) (inr i) h = in_passing P m xs i (and_parts (P x) (list_all P xs) h).1

abbrev alone : Sector → Laid
alone s = record { anchor = s; extended = [] }

-- each sector of a write, as a block, passes
abbrev pub call_passes : (Laid → Bool) → What → Bool
call_passes P (Read place) = true
call_passes P (Write place sectors stored) = list_all (λ s. P (alone s)) sectors
call_passes P Sync = true

abbrev PartPasses : (Laid → Bool) → Part → Type 0
PartPasses P (AnchorPart s) = P (alone s) ≡ true
PartPasses P NoPart = Unit {0}
PartPasses P (ExtendedPart sectors) = Unit {0}
PartPasses P OtherPart = Unit {0}

choose : (P : Laid → Bool) (b : Bool) (x y : Part) → PartPasses P x → PartPasses P y → PartPasses P (if b then x else y)
choose P true x y p q = p
choose P false x y p q = q

end_passes : (P : Laid → Bool) (n place : ℕ) (sectors : List Sector) → list_all (λ s. P (alone s)) sectors ≡ true → PartPasses P (part_at_end n place sectors)
end_passes P n place [] h = tt
end_passes P n place (s ∷ []) h =
    choose P (place == anchor_place n) _ _ (and_parts (P (alone s)) true h).0
    (choose P (place + 1 == anchor_place n) (ExtendedPart (s ∷ [])) OtherPart tt tt)
end_passes P n place (s ∷ t ∷ more) h = choose P (place + length (s ∷ t ∷ more) == anchor_place n) (ExtendedPart (s ∷ t ∷ more)) OtherPart tt tt

part_passes : (P : Laid → Bool) (n place : ℕ) (sectors : List Sector) → list_all (λ s. P (alone s)) sectors ≡ true → PartPasses P (part_of n place sectors)
part_passes P n place sectors h = choose P (nat_le (place + length sectors) (n - METADATA_SECTORS)) NoPart _ tt (end_passes P n place sectors h)

pub counted_known : (W : Words) (k : Disk) (m : Laid) (b : Bool) → (counted W k m b).known ≡ k.known
counted_known W k m true = refl
counted_known W k m false = refl

-- the words W of blocks of one sector, on any disks
module _ (W : Words) (disks : Disks) (short : (s : Sector) → W.extra s ≡ 0) where
  written_all : (P : Laid → Bool) (k : Disk) (p : Part) → PartPasses P p → list_all P k.known ≡ true → list_all P (written W k p).known ≡ true
  written_all P k NoPart passes h = h
  written_all P k (ExtendedPart sectors) passes h = h
  written_all P k (AnchorPart s) passes h = rw (short s, passes) h
  written_all P k OtherPart passes h = h

  noted_all : (P : Laid → Bool) (serial : List ℕ) (n : ℕ) (k : Disk) (what : What) (went : Bool) → call_passes P what ≡ true → list_all P k.known ≡ true
      → list_all P (noted W serial n k what went).known ≡ true
  noted_all P serial n k (Read place) went passes h = h
  noted_all P serial n k (Write place sectors stored) went passes h = written_all P k (part_of n place sectors) (part_passes P n place sectors passes) h
  noted_all P serial n k Sync false passes h = h
  noted_all P serial n k Sync true passes h =
      let m = standing W n k.cells in
      rw (counted_known W k m (W.is_whole serial n m && is_among m k.known)) h

  disk_all : (P : Laid → Bool) (d : ℕ) (k : Disk) (log : List Call) → list_all (λ call. call_passes P call.what) log ≡ true → list_all P k.known ≡ true
      → list_all P (disk_from W disks d k log).known ≡ true
  disk_all P d k [] passes h = h
  disk_all P d k (call ∷ log) passes h =
      let both = and_parts (call_passes P call.what) (list_all (λ call. call_passes P call.what) log) passes in
      disk_all P d (disk_called W disks d k call) log both.1 (at (call.disk == d) both.0)
    where
      at : (b : Bool) → call_passes P call.what ≡ true
          → list_all P (if b then disk_at W (disks.serial d) (disks.sectors d) k call.what call.went else k).known ≡ true
      at true passes = noted_all P (disks.serial d) (disks.sectors d) k call.what call.went passes h
      at false passes = h

  -- a block that the log writes to some disk passes, where each sector of each write does
  pub written_passes : (P : Laid → Bool) (d : ℕ) (log : List Call) (m : Laid) → list_all (λ call. call_passes P call.what) log ≡ true
      → In m (writes W disks d log) → P m ≡ true
  written_passes P d log m passes i = in_passing P m (writes W disks d log) i (disk_all P d _ log passes refl)
