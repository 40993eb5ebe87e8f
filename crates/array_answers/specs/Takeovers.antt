-- What a takeover has read of a disk: an anchor that so many sectors as are kept for metadata may belong to. So it
-- reads nowhere but there. Source: this project's own.
use Rattle.std.specs.Prelude.{⊤, ◌≡◌, false, ◌∷◌}
use Rattle.array_machine.specs.Setting.{Setting}
use Rattle.array_machine.specs.Rounds.{Life, Takes}
use Rattle.array_machine.specs.TakeoverTurns.{is_too_long}

abbrev pub ReadsMetadata : Setting → Life → Type 0
ReadsMetadata S (Takes left (a ∷ more) found) = is_too_long S a ≡ false
ReadsMetadata S _ = ⊤
