-- A spare is activated only where there is one: a disk was a spare at opening, or an ask makes one. Source:
-- imsm_activate_spare of super-intel.c.
use Rattle.std.specs.Prelude.{◌≡◌, ℕ, true, ◌⊎◌}
use Rattle.std.specs.List.{list_any}
use Rattle.array_model.specs.Script.{Asked, is_add}
use Rattle.array_machine.specs.Setting.{Setting}
use Rattle.array_machine.specs.Numbers.{has}
use Rattle.array_machine.specs.Control.{Control}
use Rattle.array_form.specs.RoundCounts.{in_spare}

-- some ask makes a disk a spare
abbrev pub AddsOne : Asked → Type 0
AddsOne asked = list_any is_add asked.asks ≡ true

-- each spare was one at opening, or an ask adds one; and so where the block of one is written
pub record SparesKnown (S : Setting) (c : Control) : Type 0 where
  pub spares : (d : ℕ) → has d c.manager.spares ≡ true → (S.start.is_spare d ≡ true) ⊎ AddsOne S.asked
  pub written : in_spare c.round.phase ≡ true → AddsOne S.asked
