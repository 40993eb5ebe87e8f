use Rattle.array_disks.proofs.Rounds.{round_known, round_more, finished_more, no_round_yet}
use Rattle.array_disks.proofs.what_rounds_keep.Goals as goal

pub returns : goal.returns
returns c = record {
  known = λ start log stamp g m r. (r.disk, round_known start log stamp g m r);
  more = round_more;
  finished = finished_more;
  fresh = no_round_yet;
}
