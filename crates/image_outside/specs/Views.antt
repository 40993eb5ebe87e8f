-- What a shelf, a source and a sink tell, by their ghost members. Source: this project's own.
use Rattle.std.specs.Prelude.{ℕ, List}
use Rattle.std.specs.Option.{option_map}
use Rattle.member_bank.specs.declared.Bank as bank
use Rattle.image_outside.specs.declared.outside.Shelf as shelf
use Rattle.image_outside.specs.declared.outside.Source as source
use Rattle.image_outside.specs.declared.outside.Sink as sink
use Rattle.image_outside.specs.Outside.{BreaksOff}
use Rattle.image_outside.specs.Told.{ShelfTold, SourceTold, SinkTold, bank_told}

abbrev pub shelf_told : {H B : Type 0} → shelf.Ghosts H B → bank.Ghosts B → H → ShelfTold
shelf_told g gb h = record { bank = option_map (bank_told gb) (g.held h); paths = g.paths h; faults = g.faults_of h }

abbrev pub source_told : {S : Type 0} → source.Ghosts S → S → SourceTold
source_told g s = record { left = g.left s; faults = g.faults_of s }

abbrev pub sink_told : {K : Type 0} → sink.Ghosts K → K → SinkTold
sink_told g k = record { written = g.written k; faults = g.faults_of k }

-- a write to the sink failed before all of these bytes were added
abbrev pub WriteBreaksOff : {K : Type 0} → sink.Ghosts K → (old new : K) → (bytes : List ℕ) → Type 0
WriteBreaksOff g old new bytes = BreaksOff (g.written old) (g.written new) (g.faults_of old) (g.faults_of new) bytes
