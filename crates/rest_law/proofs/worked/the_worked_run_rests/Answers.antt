use Rattle.std.proofs.Common.{◌≡◌, ℕ, zero, suc, List, [], ◌∷◌, refl, arith}
use Rattle.std.specs.List.{AllByRecursion}
use Rattle.stage_machine.specs.Jobs.{Client, no_client, client_at}
use Rattle.stage_machine.specs.Machine.{Control, opens, run, begins_at}
use Rattle.stage_machine.specs.Worked.{small_setting, the_turns}
use Rattle.rest_law.proofs.Told.{nothing_left}
use Rattle.rest_law.proofs.worked.the_worked_run_rests.Goals as goal
use Rattle.stage_machine.proofs.Moments.{reached_by}

abbrev end : Control
end = (run small_setting (begins_at small_setting) the_turns).control

each_done : (clients : List Client) → AllByRecursion (λ x. x ≡ no_client) clients → (k : ℕ) → client_at clients k ≡ no_client
each_done [] done k = refl
each_done (x ∷ xs) done zero = done.0
each_done (x ∷ xs) done (suc k) = each_done xs done.1 k

done : (k : ℕ) → client_at end.clients k ≡ no_client
done = each_done end.clients (refl, (refl, (refl, (refl, (refl, (refl, (refl, (refl, (refl, (refl, (refl, (refl, (refl, (refl, (refl, (refl, tt))))))))))))))))

pub returns-clause-can_end : goal.returns-clause-can_end
returns-clause-can_end c = record { rows_alone = (refl, (refl, tt)); target = omega arith; member = omega arith }

pub returns-clause-reached : goal.returns-clause-reached
returns-clause-reached c = reached_by small_setting (begins_at small_setting) opens the_turns

pub returns-clause-went : goal.returns-clause-went
returns-clause-went c = refl

pub returns-clause-rests : goal.returns-clause-rests
returns-clause-rests c = record {
  monitor = λ x. record { calls = refl; enters = refl };
  clients = λ k below x got. nothing_left small_setting end k x got refl (done k);
  quiet = record { calls = refl; enters = refl };
}
