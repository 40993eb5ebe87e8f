use Rattle.std.proofs.Common.{ℕ, ◌++◌, ◌∙◌, ap}
use Rattle.byteorder.specs.Endian.{little_bytes}
use Rattle.new_container.proofs.Pushed.{entries_more}
use Rattle.new_container.proofs.parts.push_entries.Goals as goal

pub loop-slot-preserved : goal.loop-slot-preserved
loop-slot-preserved c =
    entries_more _ _ _ c.loop-slot.slot c.loop-slot.invariant
    (c.in_ok-push_u32.ensures ∙ ap (λ (k : ℕ). c.loop-slot.bytes.items ++ little_bytes 4 k) c.from.ensures)
