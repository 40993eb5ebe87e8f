-- Where the steps of a block are on a disk. Source: this project's own.
use Rattle.std.specs.Prelude.{ℕ, ◌+◌, ◌<◌, ◌≤◌, ⊤}
use Rattle.mpb_store.specs.declared.writing.Step.{Step}
use Rattle.mpb_store.specs.declared.writing.Step.TheVariants.{Extended, Anchor, Sync, Over}

-- the places of a step are those of a disk of n sectors, and a write has 1 to 15 sectors
abbrev pub IsPlaced : ℕ → Step → Type 0
IsPlaced n (Extended place count) = (1 ≤ count) × (count ≤ 15) × (place + count ≤ n)
IsPlaced n (Anchor place) = place < n
IsPlaced n Sync = ⊤
IsPlaced n Over = ⊤
