use Rattle.std.proofs.Common.{◌≤◌, take}
use Rattle.image_outside.specs.Views.{shelf_told}
use Rattle.image_words.specs.Args.{words_of}
use Rattle.image_run.specs.Openings.{OpensFresh}
use Rattle.image_run.proofs.opening.open_all.Given as goal

abbrev pub invariant-loop-i : goal.invariant-loop-i
invariant-loop-i g l = record {
  opens : OpensFresh (take l.i (words_of l.images)) (shelf_told g.H.Shelf g.H.Held.Bank l.initial.shelf) (shelf_told g.H.Shelf g.H.Held.Bank l.shelf);
  later : g.H.Shelf.faults_of l.initial.shelf ≤ g.H.Shelf.faults_of l.shelf;
}
