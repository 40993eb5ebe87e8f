use Rattle.array_edits.proofs.Stays.{whole_stays, activated_whole, stays_whole, placed, anchors_differ}
use Rattle.array_edits.proofs.law.edited_blocks_are_whole.Goals as goal

pub returns : goal.returns
returns c = record {
  expected = stays_whole;
  stays = whole_stays;
  activated = activated_whole;
  placed = placed;
  anchors = anchors_differ;
}
