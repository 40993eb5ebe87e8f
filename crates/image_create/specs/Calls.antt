-- The device calls by which a block is laid down on new disks: every disk has its zeros before the first one has the
-- block. Source: this project's own; how a block is written is that of mpb_store.
use Rattle.std.specs.Prelude.{ℕ, ◌+◌, ◌-◌, ◌*◌, ◌/◌, min, true, List, [], ◌∷◌, ◌++◌, map, length, replicate, slice_index}
use Rattle.std.specs.List.{range_with_len, flat_map, slice_range}
use Rattle.units.specs.declared.bounds.TheConstants.{MAX_WRITE_SECTORS}
use Rattle.units.specs.declared.disk.Sector.{Sector}
use Rattle.units.specs.Places.{anchor_place}
use Rattle.device_log.specs.Log.{Call, Write, Sync}
use Rattle.mpb_store.specs.declared.writing.Step.{Step}
use Rattle.mpb_store.specs.declared.writing.Step.TheVariants.{Extended, Anchor, Sync as SyncStep, Over}
use Rattle.mpb_store.specs.Banks.{blank_sector}
use Rattle.mpb_store.specs.Sectors.{block_sectors}
use Rattle.mpb_store.specs.Writing.{steps_of}

-- calls that went through
abbrev pub write_call : ℕ → ℕ → List Sector → Call
write_call d place sectors = record { disk = d; what = Write place sectors (length sectors); went = true }

abbrev pub sync_call : ℕ → Call
sync_call d = record { disk = d; what = Sync; went = true }

-- ZEROS

abbrev pub zero_sectors : ℕ → List Sector
zero_sectors count = replicate count blank_sector

-- the rows are zeroed in pieces of 16 sectors, of which the last has what is left
abbrev pub piece_count : ℕ → ℕ
piece_count rows = (rows + 15) / MAX_WRITE_SECTORS

abbrev pub piece_call : ℕ → ℕ → ℕ → Call
piece_call d rows k = write_call d (16 * k) (zero_sectors (min MAX_WRITE_SECTORS (rows - 16 * k)))

abbrev pub row_calls : ℕ → ℕ → List Call
row_calls d rows = map (piece_call d rows) (range_with_len 0 (piece_count rows))

-- disk d, of n sectors, has zeros at the rows and at the anchor's place
abbrev pub zero_calls : ℕ → ℕ → ℕ → List Call
zero_calls rows d n = row_calls d rows ++ write_call d (anchor_place n) (zero_sectors 1) ∷ sync_call d ∷ []

-- THE BLOCK

-- the call of a step, where these are the sectors of the block
abbrev pub step_calls : ℕ → List Sector → Step → List Call
step_calls d sectors (Extended place count) = write_call d place (slice_range sectors 1 (1 + count)) ∷ []
step_calls d sectors (Anchor place) = write_call d place (slice_range sectors 0 1) ∷ []
step_calls d sectors SyncStep = sync_call d ∷ []
step_calls d sectors Over = []

-- disk d, of n sectors, has the block of so many bytes
abbrev pub block_calls : List Sector → ℕ → ℕ → ℕ → List Call
block_calls sectors size d n = flat_map (step_calls d sectors) (steps_of size n)

-- ALL DISKS

-- the calls on the first disks of these sizes, one disk after another
abbrev pub calls_on : (ℕ → ℕ → List Call) → List ℕ → ℕ → List Call
calls_on calls sizes count = flat_map (λ d. calls d (slice_index sizes d)) (range_with_len 0 count)

-- all calls: zeros on each disk, and then the block on each
abbrev pub create_calls : List ℕ → ℕ → List ℕ → List Call
create_calls sizes rows bytes =
    calls_on (zero_calls rows) sizes (length sizes)
    ++ calls_on (block_calls (block_sectors bytes) (length bytes)) sizes (length sizes)
