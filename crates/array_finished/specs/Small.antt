-- Small traces for the example: a round of two disks, one that ends unwritten, and one of two blocks. Source: this
-- project's own.
use Rattle.std.specs.Prelude.{List, [], ◌∷◌}
use Rattle.device_log.specs.Log.{Call}
use Rattle.array_model.specs.declared.journal.Entry.{Entry}
use Rattle.array_model.specs.declared.journal.Event.TheVariants.{Begin, End}
use Rattle.array_model.specs.Small.{block, puts, syncs, at}

-- the first round goes to both disks, and ends
abbrev pub round_log : List Call
round_log = puts 0 4094 (block 2 0 0) ∷ syncs 0 ∷ puts 1 4094 (block 2 0 0) ∷ syncs 1 ∷ []

abbrev pub round_journal : List Entry
round_journal = at 0 (Begin 2) ∷ at 4 (End 2) ∷ []

-- it ends before a disk was given its block
abbrev pub unwritten_journal : List Entry
unwritten_journal = at 0 (Begin 2) ∷ at 0 (End 2) ∷ []

-- the second disk is given another block of its generation
abbrev pub two_blocks_log : List Call
two_blocks_log = puts 0 4094 (block 2 0 0) ∷ syncs 0 ∷ puts 1 4094 (block 2 1 0) ∷ syncs 1 ∷ []
