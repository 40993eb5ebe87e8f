-- Bytes begin with a whole block exactly where each step of the check finds them right.
use Rattle.std.proofs.Common.{◌≡◌, ℕ, ◌+◌, ◌*◌, ◌-◌, ◌%◌, ◌≤◌, min, List, length, take, sym, ◌∙◌, ap, subst, arith}
use Rattle.std.proofs.lemmas.List.{length-take, length-drop, take-take, length-take-le}
use Rattle.imsm_base.specs.Fields.{number_at}
use Rattle.imsm_base.specs.Layout.{Block}
use Rattle.imsm_base.specs.Whole.{IsWholeBlock, IsWhole, IsSize, the_signature}
use Rattle.imsm_base.specs.Parts.{block_in, room_of, behind_disks, behind_volumes, volumes_in, volumes_room}
use Rattle.imsm_base.proofs.Joined.{block_in-spelled, room_of-spelled}
use Rattle.imsm_base.proofs.Apart.{spells_apart}
use Rattle.imsm_base.proofs.Spliced.{number_at-take}
use Rattle.imsm_codec.specs.Given.{size_in, given_block, IsGiven}
use Rattle.imsm_codec.specs.Laid.{IsLaid}
use Rattle.imsm_codec.specs.Checked.{IsChecked}
use Rattle.imsm_codec.proofs.Twins.{apart_from_no_twins, no_twins_from_apart}

pub length-given : (bytes : List ℕ) → IsGiven bytes → length (given_block bytes) ≡ size_in bytes
length-given bytes g = length-take-le (size_in bytes) bytes g.given

pub size_in-given : (bytes : List ℕ) → IsGiven bytes → size_in (given_block bytes) ≡ size_in bytes
size_in-given bytes g = number_at-take 4 36 (size_in bytes) bytes (let sized = g.sized.sized in omega arith)

-- the steps find what makes the parts fit
pub room_of-checked : (bytes : List ℕ) → IsChecked bytes → room_of (block_in bytes) ≤ length bytes
unfolding block_in
room_of-checked bytes c =
    let n : ℕ = number_at 1 56 bytes in
    let room : volumes_room (volumes_in (number_at 1 57 bytes) (behind_disks bytes)) ≤ length (behind_disks bytes) = c.filled.room in
    let table : 216 + 48 * n ≤ length bytes = c.filled.distinct.tabled.table.room in
    let tail : number_at 4 72 bytes ≤ length (behind_volumes bytes) = c.tail.room in
    let behind : length (behind_disks bytes) ≡ length bytes - (216 + 48 * n) = length-drop (216 + 48 * n) bytes in
    let rest : length (behind_volumes bytes) ≡ length (behind_disks bytes) - volumes_room (volumes_in (number_at 1 57 bytes) (behind_disks bytes)) =
    length-drop (volumes_room (volumes_in (number_at 1 57 bytes) (behind_disks bytes))) (behind_disks bytes) in
    omega arith

-- a block of which header and parts are right is whole
whole_block : (bytes : List ℕ) → take 24 bytes ≡ the_signature → IsSize (size_in bytes) → size_in bytes ≡ length bytes → IsChecked bytes → IsWholeBlock bytes (block_in bytes)
unfolding block_in
whole_block bytes signed sized given c = record {
  signed = signed;
  sized = sized;
  given = given;
  summed = c.filled.distinct.tabled.summed;
  counted = c.filled.distinct.tabled.table.counts;
  apart = apart_from_no_twins (block_in bytes).disks c.filled.distinct.apart;
  spells = spells_apart bytes (room_of-checked bytes c);
  tail = c.tail.accepted;
}

signed_given : (bytes : List ℕ) → IsGiven bytes → take 24 (given_block bytes) ≡ the_signature
signed_given bytes g = take-take 24 (size_in bytes) bytes (let sized = g.sized.sized in omega arith) ∙ g.sized.signed.signed

pub whole_from_checks : (bytes : List ℕ) → IsGiven bytes → IsChecked (given_block bytes) → IsWholeBlock (given_block bytes) (block_in (given_block bytes))
whole_from_checks bytes g c =
    whole_block (given_block bytes) (signed_given bytes g) (subst IsSize (sym (size_in-given bytes g)) g.sized.sized)
    (size_in-given bytes g ∙ sym (length-given bytes g)) c

-- the view's facts
pub laid_from_checks : (bytes : List ℕ) → IsGiven bytes → IsChecked (given_block bytes) → IsLaid (given_block bytes)
laid_from_checks bytes g c =
    let size = g.sized.sized in
    record {
      room = room_of-checked (given_block bytes) c;
      size = (whole_from_checks bytes g c).sized.most;
      words = ap (λ (n : ℕ). n % 4) (length-given bytes g) ∙ size.words;
    }

-- and back: the parts of a whole block are right
pub whole_apart : (bytes : List ℕ) (b : Block) → IsWholeBlock bytes b → IsWholeBlock bytes (block_in bytes)
whole_apart bytes b w = subst (IsWholeBlock bytes) (sym (block_in-spelled bytes b w.spells)) w

pub header_of-whole : (bytes : List ℕ) → IsWholeBlock bytes (block_in bytes) → (take 24 bytes ≡ the_signature) × IsSize (size_in bytes) × (size_in bytes ≡ length bytes)
unfolding block_in
header_of-whole bytes w = (w.signed, w.sized, w.given)

checks_of-whole : (bytes : List ℕ) → IsWholeBlock bytes (block_in bytes) → IsChecked bytes
unfolding block_in
checks_of-whole bytes w =
    let n : ℕ = number_at 1 56 bytes in
    let vs : ℕ = volumes_room (volumes_in (number_at 1 57 bytes) (behind_disks bytes)) in
    let fits : 216 + 48 * n + vs + number_at 4 72 bytes ≤ length bytes = room_of-spelled bytes (block_in bytes) w.spells in
    let behind : length (behind_disks bytes) ≡ length bytes - (216 + 48 * n) = length-drop (216 + 48 * n) bytes in
    let rest : length (behind_volumes bytes) ≡ length (behind_disks bytes) - vs = length-drop vs (behind_disks bytes) in
    record {
      filled = record {
        distinct = record {
          tabled = record { summed = w.summed; table = record { counts = w.counted; room = omega arith } };
          apart = no_twins_from_apart (block_in bytes).disks w.apart;
        };
        room = omega arith;
      };
      tail = record { room = omega arith; accepted = w.tail };
    }

pub checks_from_whole : (bytes : List ℕ) → IsWhole (given_block bytes) → IsGiven bytes × IsChecked (given_block bytes)
checks_from_whole bytes (b, w) =
    let block : List ℕ = given_block bytes in
    let whole : IsWholeBlock block (block_in block) = whole_apart block b w in
    let header = header_of-whole block whole in
    let sized : IsSize (size_in block) = header.1 in
    let size : size_in block ≡ length block = header.2 in
    let len : length block ≡ min (size_in bytes) (length bytes) = length-take (size_in bytes) bytes in
    let same : size_in block ≡ size_in bytes = number_at-take 4 36 (size_in bytes) bytes (omega arith) in
    let signed : take 24 block ≡ take 24 bytes = take-take 24 (size_in bytes) bytes (omega arith) in (
      record {
        sized = record {
          signed = record { long = omega arith; signed = sym signed ∙ header.0 };
          sized = subst IsSize same sized;
        };
        given = omega arith;
      },
      checks_of-whole block whole,
    )
