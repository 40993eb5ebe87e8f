-- In each world of each run each job that goes on is on a volume that takes operations, and what it has still to read can
-- be read.
use Rattle.std.proofs.Common.{ℕ, List, [], ◌∷◌, Option, Some, None}
use Rattle.device_log.specs.Log.{Call}
use Rattle.array_machine.specs.Setting.{Setting}
use Rattle.array_machine.specs.Volumes.{Volume}
use Rattle.array_machine.specs.Rounds.{Ended}
use Rattle.array_machine.specs.Control.{Control}
use Rattle.array_machine.specs.Changes.{Change, RoundEnds}
use Rattle.array_machine.specs.Puts.{put, puts}
use Rattle.array_machine.specs.Machine.{World, Reached, opens, goes}
use Rattle.array_paths.specs.InTurn.{InTurn}
use Rattle.array_paths.specs.Effects.{Path, ends_here, goes_on}
use Rattle.array_paths.specs.Follows.{in_turn}
use Rattle.array_paths.specs.Ready.{JobsFit}
use Rattle.array_paths.proofs.JobsFit.{jobs_fit}
use Rattle.array_paths.proofs.TurnPath.{turns_are_paths}
use Rattle.array_base.specs.Premises.{Premises}
use Rattle.array_base.specs.Opening.{Opening}
use Rattle.array_base.proofs.Runs.{each_world_has}
use Rattle.array_rest.specs.Jobs.{JobsStand}
use Rattle.array_rest.specs.Seats.{OpensAble}
use Rattle.array_rest.proofs.JobSteps.{jobs_change, jobs_end}
use Rattle.array_rest.proofs.SeatRuns.{phase_of, each_seated}
use Rattle.array_rest.proofs.SeatSteps.{comes_or_called, Seated, seated_change}
use Rattle.array_rest.proofs.Turns.{Turns, next, round_ends}
use Rattle.array_rest.proofs.Reach.{turn_made, idle_at_first, each_leaves}

module _ (S : Setting) (P : Premises S) (A : Type 0) where
  -- what holds of a control state within a turn
  record Holds (c : Control) : Type 0 where
    seated : Seated S P.edits.formed A c
    fits : JobsFit S c
    jobs : JobsStand S A c

  walk_jobs : (t : InTurn) (c : Control) (call : Option Call) (x : Ended) (changes : List Change)
      → Path S t c call x changes → Turns S c changes → Holds c → JobsStand S A (puts S changes c)
  walk_jobs t c None x [] (ends_here _) turns h = h.jobs
  walk_jobs t c (Some call) x [] path turns h = elim path [ ]
  walk_jobs t c call x (a ∷ more) (goes_on effect path) (next _ fine turns) h =
      walk_jobs t (put S a c) None x more path turns (record {
        seated = seated_change S P A t c h.seated a fine (comes_or_called S t c a effect);
        fits = jobs_fit S c h.fits t call x a effect;
        jobs = jobs_change S P A c h.jobs h.seated h.fits a fine;
      })
  walk_jobs t c call x (RoundEnds m ∷ _) (goes_on effect path) (round_ends _ submitted) h =
      let phase = phase_of S P A t c m (comes_or_called S t c (RoundEnds m) effect) in
      jobs_end S P A c h.jobs h.seated m phase.0 phase.1

module _ (S : Setting) (P : Premises S) (volumes : List Volume) (spares : List ℕ) (o : Opening S P volumes spares) where
  pub each_jobs_stand : (w : World) → Reached S volumes spares w → JobsStand S (OpensAble S volumes) w.control
  each_jobs_stand w opens k i r is = absurd (let none = idle_at_first S k in cc (none, is))
  each_jobs_stand w (goes {w = u} run a fits) k i r is =
      let had = each_leaves S P volumes spares o u run in
      let base = each_world_has S P volumes spares o u run in
      walk_jobs S P (OpensAble S volumes) (in_turn u.control a.actor) u.control _ _ _
      (turns_are_paths S P.rows u.control base.ready a fits)
      (turn_made S P u.control had.kept had.over base.base.core.hand.book base.ready fits a.ended a.actor)
      (record {
        seated = each_seated S P volumes spares o u run;
        fits = base.ready.jobs;
        jobs = each_jobs_stand u run;
      }) k i r is
