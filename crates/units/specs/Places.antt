-- Where a metadata block stands on a disk. Source: load_imsm_mpb of super-intel.c.
use Rattle.std.specs.Prelude.{ℕ, ◌+◌, ◌-◌, ◌/◌}

-- the first sector of the block that stands at the end of a disk of n sectors: the second to last
abbrev pub anchor_place : ℕ → ℕ
anchor_place n = n - 2

-- how many sectors more a block of so many bytes has: they stand in order just before the anchor
abbrev pub extended_count : ℕ → ℕ
extended_count size = (size + 511) / 512 - 1
