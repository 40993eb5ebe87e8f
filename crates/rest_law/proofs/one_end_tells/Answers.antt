use Rattle.rest_law.proofs.Ends.{monitor_still, client_still}
use Rattle.rest_law.proofs.one_end_tells.Goals as goal

pub returns : goal.returns
returns _ S c x ends gives monitor clients quiet = record {
  monitor = λ y. monitor_still S c x y monitor;
  clients = λ k below y given. client_still S c k (ends k) y (gives k) given (clients k below);
  quiet = quiet;
}
