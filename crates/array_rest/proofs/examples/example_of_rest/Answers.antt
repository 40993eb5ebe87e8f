use Rattle.std.proofs.Common.{◌≡◌, ℕ, zero, suc, List, [], ◌∷◌, refl, sym, subst}
use Rattle.std.specs.Prelude.{⊤}
use Rattle.std.specs.List.{AllByRecursion}
use Rattle.array_machine.specs.Rounds.{Ended}
use Rattle.array_machine.specs.Control.{Control}
use Rattle.array_machine.specs.Clients.{Client as AClient, no_client, client_at}
use Rattle.array_machine.specs.ClientTurns.{client_by}
use Rattle.array_machine.specs.Machine.{Actor, Monitor, Manager, Sync, Client, Quiet, Fail, Kill, Takeover, turn_of}
use Rattle.array_rows.specs.Runs.{run_of, unbounded}
use Rattle.array_rows.specs.SmallSettings.{setting}
use Rattle.array_rest.specs.Rests.{IsStill, GoesOnBy, IsAtRest}
use Rattle.array_rest.specs.Small.{asked_mirror}
use Rattle.array_rest.proofs.examples.example_of_rest.Goals as goal

abbrev at_end : Control
at_end = (run_of asked_mirror unbounded []).world.control

-- no client has anything left
none_left : (clients : List AClient) → AllByRecursion (λ x. x ≡ no_client) clients → (k : ℕ) → client_at clients k ≡ no_client
none_left [] all k = refl
none_left (x ∷ xs) all zero = all.0
none_left (x ∷ xs) all (suc k) = none_left xs all.1 k

still : (ends : Actor → Ended) (who : Actor) → GoesOnBy who → IsStill (turn_of (setting asked_mirror) at_end (ends who) who)
still ends Monitor by = record { calls = refl; changes = refl }
still ends Manager by = record { calls = refl; changes = refl }
still ends (Sync zero) by = record { calls = refl; changes = refl }
still ends (Sync (suc v)) by = record { calls = refl; changes = refl }
still ends (Client k) by =
    subst (λ (x : AClient). IsStill (client_by (setting asked_mirror) at_end k (ends (Client k)) x.left x.job))
    (sym (none_left at_end.clients (refl, (refl, (refl, (refl, (refl, (refl, (refl, (refl, (refl, (refl, (refl, (refl, (refl, (refl, (refl, (refl, tt)))))))))))))))) k)) (record { calls = refl; changes = refl })
still ends (Quiet zero) by = record { calls = refl; changes = refl }
still ends (Quiet (suc v)) by = record { calls = refl; changes = refl }
still ends (Fail d) by = absurd by
still ends Kill by = absurd by
still ends Takeover by = absurd by

pub returns-clause-rests : goal.returns-clause-rests
returns-clause-rests c ends = record { lives = refl; still = still ends }

pub returns-clause-goes_on : goal.returns-clause-goes_on
returns-clause-goes_on c ends rest = cc ((rest.still Monitor tt).calls)
