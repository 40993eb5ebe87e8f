-- The book is the block of the last finished round, the targets stay, and a round that goes on has a target left.
use Rattle.std.proofs.Common.{◌≡◌, List, [], ◌∷◌, refl, Option}
use Rattle.std.specs.Prelude.{⊤}
use Rattle.units.specs.declared.disk.Sector.{Sector}
use Rattle.device_log.specs.Log.{Call}
use Rattle.array_model.specs.declared.journal.Event.{Event}
use Rattle.stage_machine.specs.Setting.{Setting}
use Rattle.stage_machine.specs.Rounds.{Phase, Rest, Going, Round}
use Rattle.stage_machine.specs.Machine.{Control, World, Reached, opens, goes, got_of}
use Rattle.stage_machine.proofs.Turns.{Turns, turns_of, nothing, fails, anchors, settles, ends, begins, readies, actives, cleans, rests, pasts, asks_read, asks_write, puts, syncs, gets, acks}

abbrev pub HasTarget : Phase → Type 0
HasTarget Rest = ⊤
HasTarget (Going m step []) = ⊥
HasTarget (Going m step (d ∷ ds)) = ⊤

pub record Tidy (S : Setting) (r : Round) : Type 0 where
  pub book : r.book ≡ r.last
  pub working : r.working ≡ S.targets
  pub phase : HasTarget r.phase

tidy_turns : (S : Setting) (c : Control) (got : Sector) {call : Option Call} {es : List Event} {next : Control} → Turns S c got call es next → Tidy S c.round → Tidy S next.round
tidy_turns S c got nothing tidy = tidy
tidy_turns S c got (fails d what asked) tidy = tidy
tidy_turns S c got (anchors m d ds is) tidy = record { book = tidy.book; working = tidy.working; phase = tt }
tidy_turns S c got (settles m d e ds is) tidy = record { book = tidy.book; working = tidy.working; phase = tt }
tidy_turns S c got (ends m d is) tidy = record { book = refl; working = tidy.working; phase = tt }
tidy_turns S c got (begins d ds is some why) tidy = record { book = tidy.book; working = tidy.working; phase = tt }
tidy_turns S c got (readies is s t) tidy = tidy
tidy_turns S c got (actives is s t r) tidy = tidy
tidy_turns S c got (cleans is s t) tidy = tidy
tidy_turns S c got (rests t calm) tidy = tidy
tidy_turns S c got (pasts k i rest has none) tidy = tidy
tidy_turns S c got (asks_read k i rest place has is w ready) tidy = tidy
tidy_turns S c got (asks_write k i rest place has is w ready) tidy = tidy
tidy_turns S c got (puts k i left step d ds has need) tidy = tidy
tidy_turns S c got (syncs k i left step d ds has need) tidy = tidy
tidy_turns S c got (gets k i left step d has need) tidy = tidy
tidy_turns S c got (acks k i left step answer has need) tidy = tidy

pub tidy_reached : (S : Setting) (w : World) → Reached S w → Tidy S w.control.round
tidy_reached S w opens = record { book = refl; working = refl; phase = tt }
tidy_reached S w (goes {w = v} r a) = tidy_turns S v.control (got_of a) (turns_of S v.control a) (tidy_reached S v r)
