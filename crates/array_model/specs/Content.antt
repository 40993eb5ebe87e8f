-- What a volume's sectors hold by the journal, and which of them are unsure. Source: this project's own.
use Rattle.std.specs.Prelude.{ℕ, ◌&&◌, ◌||◌, not, Bool, false, List, [], ◌∷◌, length, Option, Some, None, if◌then◌else◌}
use Rattle.std.specs.List.{list_any, range_with_len}
use Rattle.units.specs.declared.disk.Sector.{Sector}
use Rattle.array_model.specs.declared.script.Op.{Op}
use Rattle.array_model.specs.declared.journal.Entry.{Entry}
use Rattle.array_model.specs.declared.journal.Event.{Event}
use Rattle.array_model.specs.declared.journal.Event.TheVariants.{Ack}
use Rattle.array_model.specs.Script.{VolumeWrite, write_at, is_write_to, is_at}
use Rattle.array_model.specs.Events.{has, is_submit, is_ack_done, is_done}
use Rattle.array_model.specs.Start.{Start}

abbrev pub left_by : ℕ → ℕ → Sector → Option VolumeWrite → Sector
left_by v s x None = x
left_by v s x (Some t) = if is_at v s (Some t) then t.value else x

abbrev pub content_at : List Op → ℕ → ℕ → Sector → Event → Sector
content_at ops v s x (Ack i answer) = if is_done answer then left_by v s x (write_at ops i) else x
content_at ops v s x _ = x

abbrev pub content_from : List Op → ℕ → ℕ → Sector → List Entry → Sector
content_from ops v s x [] = x
content_from ops v s x (e ∷ es) = content_from ops v s (content_at ops v s x e.event) es

-- sector s of volume v: what it held at opening, overwritten by the writes that were acknowledged as done, in the
-- order of their acks
abbrev pub content : Start → List Op → List Entry → ℕ → ℕ → Sector
content start ops journal v s = content_from ops v s (start.content v s) journal

-- op i is a write to the sector that was submitted and wasn't acknowledged as done
abbrev pub is_open : List Op → List Entry → ℕ → ℕ → ℕ → Bool
is_open ops journal v s i = is_write_to ops v s i && has (is_submit i) journal && not (has (is_ack_done i) journal)

abbrev pub is_in_doubt : List Op → List Entry → ℕ → ℕ → Bool
is_in_doubt ops journal v s = list_any (is_open ops journal v s) (range_with_len 0 (length ops))

abbrev pub is_write_done : List Op → ℕ → ℕ → Event → Bool
is_write_done ops v s (Ack i answer) = is_done answer && is_write_to ops v s i
is_write_done ops v s _ = false

-- a write to the sector was acknowledged as done
abbrev pub is_rewritten : List Op → List Entry → ℕ → ℕ → Bool
is_rewritten ops journal v s = has (is_write_done ops v s) journal

-- the sector was unsure at opening, and no write to it was acknowledged as done since
abbrev pub is_still_unsure : Start → List Op → List Entry → ℕ → ℕ → Bool
is_still_unsure start ops journal v s = start.unsure v s && not (is_rewritten ops journal v s)

-- the sector is unsure
abbrev pub is_unsure : Start → List Op → List Entry → ℕ → ℕ → Bool
is_unsure start ops journal v s = is_in_doubt ops journal v s || is_still_unsure start ops journal v s
