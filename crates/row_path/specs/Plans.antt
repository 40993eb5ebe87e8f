-- What a job reads, as the machine has it, seen in the code's types. Source: this project's own.
use Rattle.std.specs.Prelude.{ℕ, ◌==◌, ◌&&◌, not, Bool, false, List, [], ◌∷◌, filter, slice_index_or}
use Rattle.units.specs.declared.volume.Slot.{Slot}
use Rattle.array_model.specs.Placement.{Shape, Placement}
use Rattle.array_machine.specs.Numbers.{without}
use Rattle.array_machine.specs.RowJobs.{pair_of, others_of}
use Rattle.row_path.specs.declared.job.Plan.{Plan}
use Rattle.row_path.specs.declared.job.Plan.TheVariants.{Nothing, Main, Other, Pair, Others, OtherData}

-- the slots of a plan, in order
abbrev pub slots_of : Shape → Placement → Plan → List ℕ
slots_of shape p Nothing = []
slots_of shape p Main = p.main ∷ []
slots_of shape p Other = p.other ∷ []
slots_of shape p Pair = pair_of p
slots_of shape p Others = others_of shape p.main
slots_of shape p OtherData = without p.other (others_of shape p.main)

abbrev pub number_of : Slot → ℕ
number_of s = s.0

-- a plan over all slots but that of the data, or but that and the parity's, has this slot
abbrev pub is_planned : Placement → (data_alone : Bool) → ℕ → Bool
is_planned p data_alone s = not (s == p.main) && not (data_alone && s == p.other)

-- those of some slots that have no mark
abbrev pub unmarked : List Bool → List ℕ → List ℕ
unmarked marks slots = filter (λ s. not (slice_index_or marks s false)) slots
