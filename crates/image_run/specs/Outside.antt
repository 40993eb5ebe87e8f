-- The outside of a command at one moment: a shelf, a source and a sink. Source: this project's own.
use Rattle.member_bank.specs.declared.Bank as bank
use Rattle.image_outside.specs.declared.outside.Shelf as shelf
use Rattle.image_outside.specs.declared.outside.Source as source
use Rattle.image_outside.specs.declared.outside.Sink as sink
use Rattle.image_outside.specs.Told.{ShelfTold, SourceTold, SinkTold}
use Rattle.image_outside.specs.Views.{shelf_told, source_told, sink_told}

pub record Outside : Type 0 where
  pub shelf : ShelfTold
  pub source : SourceTold
  pub sink : SinkTold

abbrev pub outside_told : {H B S K : Type 0} → shelf.Ghosts H B → bank.Ghosts B → source.Ghosts S → sink.Ghosts K
    → H → S → K → Outside
outside_told h b s k shelf source sink =
    record { shelf = shelf_told h b shelf; source = source_told s source; sink = sink_told k sink }
