-- The place of a log's first call.
use Rattle.std.proofs.Common.{ℕ, List, [], ◌∷◌}
use Rattle.device_log.specs.Log.{Call, What, Read, Write, Sync}

abbrev pub place_of : What → ℕ
place_of (Read place) = place
place_of (Write place sectors stored) = place
place_of Sync = 0

abbrev pub first_place : List Call → ℕ
first_place [] = 0
first_place (call ∷ more) = place_of call.what
