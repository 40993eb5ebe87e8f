-- Whether an actor has nothing to do, from its parts.
use Rattle.std.proofs.Common.{◌≡◌, ℕ, ◌==◌, Bool, List, [], ◌∷◌, length, None, refl, ap, sym, ◌∙◌, arith}
use Rattle.std.proofs.lemmas.Bool.Decides.{nat_tests}
use Rattle.std.specs.Prelude.{Option, Some, is_some, false}
use Rattle.units.specs.declared.disk.DiskNo.{DiskNo}
use Rattle.array_model.specs.Blocks.{Laid}
use Rattle.stage_machine.specs.Setting.{Setting}
use Rattle.stage_machine.specs.Rounds as rounds
use Rattle.stage_machine.specs.Machine as machine
use Rattle.control_state.specs.Seen.{numbers}
use Rattle.control_state.specs.Rounds.{next_ask}
use Rattle.control_state.specs.Controls.{failed_of}
use Rattle.control_state.specs.Still.{is_silent, does_nothing, is_still}

pub begins_nothing : (r : rounds.Round) (m : Laid) (disks : List DiskNo) (b : Bool) → b ≡ (length disks == 0)
    → b ≡ is_silent (rounds.begin_with r m (numbers disks)).events
begins_nothing r m [] b is = is
begins_nothing r m (d ∷ ds) b is = grind (arith, nat_tests, is)

pub asks_nothing : (S : Setting) (x : rounds.Ended) (p : rounds.Phase) (out : machine.Out) (b : Bool) → next_ask p ≡ None → b ≡ is_silent out.events
    → b ≡ does_nothing (rounds.round_call S x p) out
asks_nothing S x rounds.Rest out b rests is = is
asks_nothing S x (rounds.Going m step []) out b rests is = is
asks_nothing S x (rounds.Going m step (d ∷ ds)) out b rests is = absurd (cc rests)

pub live_seen : (failed : Option DiskNo) → is_some failed ≡ false → failed_of failed ≡ None
live_seen None live = refl
live_seen (Some d) live = absurd (cc live)

-- where no call has failed
pub live_still : (S : Setting) (c : machine.Control) (a : machine.Action) (b : Bool) → c.failed ≡ None
    → b ≡ does_nothing (machine.turn_call S c a) (machine.turn S c a) → b ≡ is_still S c a
live_still S c a b live is =
    is ∙ sym (ap (λ (f : Option ℕ). does_nothing (machine.call_unless S c a f) (machine.turned_unless S c a f)) live)
