use Rattle.array_openings.proofs.NewBanks.{new_rests}
use Rattle.array_openings.proofs.EditedBanks.{edited_rests}
use Rattle.array_openings.proofs.law.new_and_edited_containers_rest.Goals as goal

pub returns : goal.returns
returns c = record { made = new_rests; edited = edited_rests }
