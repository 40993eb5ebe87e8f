-- In each run stamps rise up to the calls made, and submits and acks name operations.
use Rattle.std.proofs.Common.{ℕ, List}
use Rattle.array_machine.specs.Setting.{Setting}
use Rattle.array_machine.specs.Volumes.{Volume}
use Rattle.array_machine.specs.Machine.{World, Reached}
use Rattle.array_base.specs.Premises.{Premises}
use Rattle.array_base.specs.Opening.{Opening}
use Rattle.array_base.specs.Laws.{FollowsBase}
use Rattle.array_base.proofs.Runs.{along_base}
use Rattle.array_told.specs.Told.{Stamps}
use Rattle.array_told.proofs.Stamps.{stamps_effect, stamps_open}
use Rattle.array_order.proofs.Runs.{asks_in_order}
use Rattle.array_form.specs.Stamped.{IsStamped}

module _ (S : Setting) (P : Premises S) (volumes : List Volume) (spares : List ℕ) (o : Opening S P volumes spares) where
  follows : FollowsBase S P volumes spares (λ t w. Stamps w)
  follows = record {
    opens = λ who. stamps_open S volumes spares;
    begins = λ t w who had. had;
    step = λ t w call x a over had. stamps_effect S w call a had;
  }

  pub stamped : (w : World) → Reached S volumes spares w → IsStamped S.asked.ops w.calls w.journal
  stamped w run =
      let stamps = (along_base S P volumes spares o (λ t w. Stamps w) follows w run).1 in
      record {
        rises = stamps.rises;
        stamped = stamps.below;
        named = (asks_in_order S P volumes spares o w run).named;
      }
