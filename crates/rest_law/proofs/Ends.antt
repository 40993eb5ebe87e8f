-- Whether a turn has anything to do doesn't hang on how its call would end.
use Rattle.std.proofs.Common.{◌≡◌, ℕ, List, [], ◌∷◌, refl, Option, Some, None}
use Rattle.units.specs.declared.disk.Sector.{Sector}
use Rattle.stage_machine.specs.Setting.{Setting}
use Rattle.stage_machine.specs.Rounds.{Phase, Rest, Going, Ended, round_call}
use Rattle.stage_machine.specs.Jobs.{Job, NoJob, Busy, client_at, Need, NoNeed, Reads, Writes, Syncs, Answers, need_call}
use Rattle.stage_machine.specs.Machine.{Control, Monitors, Asks, turned_unless, call_unless, monitor_at, meet, need_now, client_by, job_call}
use Rattle.rest_law.specs.Rest.{IsStill}

pub monitor_still : (S : Setting) (c : Control) (x y : Ended) → IsStill S c (Monitors x) → IsStill S c (Monitors y)
monitor_still S c x y still = let both = at c.failed still.calls still.enters in record { calls = both.0; enters = both.1 }
  where
    by : (phase : Phase) → round_call S x phase ≡ None → (monitor_at S c x phase).events ≡ [] → (round_call S y phase ≡ None) × ((monitor_at S c y phase).events ≡ [])
    by Rest call e = (refl, e)
    by (Going m step []) call e = (refl, e)
    by (Going m step (d ∷ ds)) call e = absurd (cc call)

    at : (failed : Option ℕ) → call_unless S c (Monitors x) failed ≡ None → (turned_unless S c (Monitors x) failed).events ≡ []
        → (call_unless S c (Monitors y) failed ≡ None) × ((turned_unless S c (Monitors y) failed).events ≡ [])
    at None call e = by c.round.phase call e
    at (Some d) call e = (refl, refl)

pub client_still : (S : Setting) (c : Control) (k : ℕ) (x y : Ended) (got given : Sector) → IsStill S c (Asks k x got) → IsStill S c (Asks k y given)
client_still S c k x y got given still = let both = at c.failed still.calls still.enters in record { calls = both.0; enters = both.1 }
  where
    by_need : (left : List ℕ) (i : ℕ) (need : Need) → need_call S x i need ≡ None → (meet S c k x got left i need).events ≡ []
        → (need_call S y i need ≡ None) × ((meet S c k y given left i need).events ≡ [])
    by_need left i NoNeed call e = (refl, refl)
    by_need left i (Reads d) call e = absurd (cc call)
    by_need left i (Writes d ds) call e = absurd (cc call)
    by_need left i (Syncs d ds) call e = absurd (cc call)
    by_need left i (Answers answer) call e = (refl, e)

    by : (left : List ℕ) (job : Job) → job_call S c k x job ≡ None → (client_by S c k x got left job).events ≡ []
        → (job_call S c k y job ≡ None) × ((client_by S c k y given left job).events ≡ [])
    by left NoJob call e = (refl, e)
    by left (Busy i step) call e = by_need left i (need_now S c k i step) call e

    at : (failed : Option ℕ) → call_unless S c (Asks k x got) failed ≡ None → (turned_unless S c (Asks k x got) failed).events ≡ []
        → (call_unless S c (Asks k y given) failed ≡ None) × ((turned_unless S c (Asks k y given) failed).events ≡ [])
    at None call e = by (client_at c.clients k).left (client_at c.clients k).job call e
    at (Some d) call e = (refl, refl)
