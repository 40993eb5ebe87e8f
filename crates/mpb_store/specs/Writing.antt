-- How a metadata block is written to a disk: its extended part in one write, then its anchor, then a sync.
-- Source: store_imsm_mpb of super-intel.c; the sync is this project's own.
use Rattle.std.specs.Prelude.{ℕ, ◌-◌, ◌==◌, if◌then◌else◌, List, [], ◌∷◌, ◌++◌}
use Rattle.units.specs.Places.{anchor_place, extended_count}
use Rattle.mpb_store.specs.declared.writing.Step.{Step}
use Rattle.mpb_store.specs.declared.writing.Step.TheVariants.{Extended, Anchor, Sync, Over}

-- a block of one sector has no extended part
abbrev pub extended_steps : ℕ → ℕ → List Step
extended_steps size n =
    let count = extended_count size in
    if count == 0 then [] else Extended (anchor_place n - count) count ∷ []

-- all steps for a block of so many bytes, on a disk of n sectors
abbrev pub steps_of : ℕ → ℕ → List Step
steps_of size n = extended_steps size n ++ Anchor (anchor_place n) ∷ Sync ∷ []

-- the first of the steps that are left
abbrev pub first_step : List Step → Step
first_step [] = Over
first_step (s ∷ ss) = s

-- what is left where this step is next
abbrev pub steps_from : ℕ → Step → List Step
steps_from anchor (Extended place count) = Extended place count ∷ Anchor anchor ∷ Sync ∷ []
steps_from anchor (Anchor place) = Anchor place ∷ Sync ∷ []
steps_from anchor Sync = Sync ∷ []
steps_from anchor Over = []
