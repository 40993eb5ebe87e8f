use Rattle.std.proofs.Common.{◌≡◌, length, take}
use Rattle.units.specs.declared.bounds.TheConstants.{MAX_WRITE_SECTORS}
use Rattle.member_bank.specs.Files.{bytes_of}
use Rattle.member_bank.proofs.files.joined.Given as goal

abbrev pub invariant-loop-number : goal.invariant-loop-number
invariant-loop-number l =
    (length l.bytes ≡ MAX_WRITE_SECTORS) × (take l.number l.bytes ≡ bytes_of (take l.number l.from))
