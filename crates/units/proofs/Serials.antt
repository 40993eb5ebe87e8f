-- Serials are the same where their bytes are.
use Rattle.std.proofs.Common.{◌≡◌, ℕ, List, ap}
use Rattle.units.specs.declared.disk.Serial.{Serial}

pub same_serial : (s t : Serial) → s.0 ≡ t.0 → s ≡ t
same_serial s t same = ap (λ (bytes : List ℕ). let serial : Serial = record { 0 = bytes } in serial) same
