use Rattle.array_disks.proofs.Waits.{pending_behind, ready_behind, candidates_behind, known_behind, standing_behind, sole_behind, best_behind, ready_stays, standing_stays, sole_behind_all}
use Rattle.array_disks.proofs.what_a_block_leaves.Goals as goal

pub returns : goal.returns
returns c = record {
  pending = λ W disks log d m stored went room fits. pending_behind W disks log d m room fits stored went;
  ready = λ W disks log d m stored went room fits. ready_behind W disks log d m room fits stored went;
  candidates = λ W disks log d m stored went room fits. candidates_behind W disks log d m room fits stored went;
  known = λ W disks log d m stored went room fits. known_behind W disks log d m room fits stored went;
  standing = λ W disks log d m stored went room fits. standing_behind W disks log d m room fits stored went;
  sole = sole_behind;
  counted = best_behind;
  all = sole_behind_all;
  kept = λ W disks log d what went e m row room fits. (
    ready_stays W disks log d what went row e m room fits,
    standing_stays W disks log d what went row e m room fits,
  );
}
