use Rattle.std.proofs.Common.{sym}
use Rattle.imsm_base.specs.Parts.{block_in}
use Rattle.imsm_base.proofs.Joined.{spelled_once, block_in-spelled, room_of-spelled}
use Rattle.imsm_base.proofs.Apart.{spells_apart}
use Rattle.imsm_base.proofs.parts.parts_are_determined.Goals as goal

pub returns : goal.returns
returns c = record {
  one = spelled_once;
  found = λ bytes b s. sym (block_in-spelled bytes b s);
  room = λ bytes. (room_of-spelled bytes (block_in bytes), spells_apart bytes);
}
