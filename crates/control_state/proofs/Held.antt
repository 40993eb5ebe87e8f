-- Who holds a row, from one client to the next.
use Rattle.std.proofs.Common.{◌≡◌, ℕ, ◌+◌, ◌<◌, ◌||◌, Bool, true, false, List, length, drop, get_or, ap, ◌∙◌}
use Rattle.std.proofs.lemmas.List.{drop_more}
use Rattle.stage_machine.specs.Jobs.{locked_from}
use Rattle.control_state.specs.declared.plan.Plan.{Plan}
use Rattle.control_state.specs.declared.client.Client.{Client}
use Rattle.control_state.specs.Seen.{clients_of, plan_setting, locks}

locked_more : (p : Plan) (row but j : ℕ) (cs : List Client) (d : Client) → j < length cs
    → locked_from (plan_setting p) row but j (clients_of p (drop j cs))
    ≡ (locks p row but j (get_or cs j d) || locked_from (plan_setting p) row but (j + 1) (clients_of p (drop (j + 1) cs)))
locked_more p row but j cs d below = ap (λ (xs : List Client). locked_from (plan_setting p) row but j (clients_of p xs)) (drop_more cs j d below)

pub locked_on : (p : Plan) (row but j : ℕ) (cs : List Client) (d : Client) → j < length cs → locks p row but j (get_or cs j d) ≡ false
    → locked_from (plan_setting p) row but j (clients_of p (drop j cs)) ≡ locked_from (plan_setting p) row but (j + 1) (clients_of p (drop (j + 1) cs))
locked_on p row but j cs d below free =
    locked_more p row but j cs d below ∙ ap (λ (b : Bool). b || locked_from (plan_setting p) row but (j + 1) (clients_of p (drop (j + 1) cs))) free

pub locked_here : (p : Plan) (row but j : ℕ) (cs : List Client) (d : Client) → j < length cs → locks p row but j (get_or cs j d) ≡ true
    → locked_from (plan_setting p) row but j (clients_of p (drop j cs)) ≡ true
locked_here p row but j cs d below held =
    locked_more p row but j cs d below ∙ ap (λ (b : Bool). b || locked_from (plan_setting p) row but (j + 1) (clients_of p (drop (j + 1) cs))) held
