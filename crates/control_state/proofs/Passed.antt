-- A client whose place moves over the operations of others is seen as it was.
use Rattle.std.proofs.Common.{◌≡◌, ℕ, zero, suc, ◌-◌, ◌<◌, List, [], ◌∷◌, length, get_or, ap, subst, arith}
use Rattle.std.specs.Prelude.{slice_set, filter}
use Rattle.std.specs.List.{range_with_len}
use Rattle.array_model.specs.declared.script.Op.{Op}
use Rattle.array_model.specs.Script.{is_of_client}
use Rattle.control_state.specs.declared.plan.Plan.{Plan}
use Rattle.control_state.specs.declared.client.Client.{Client}
use Rattle.control_state.specs.Seen.{client_of, clients_of, job_of, left_from, numbers}

none_over : (n : ℕ) → n - n ≡ 0
none_over n = omega arith

-- at the end of the operations none is left
pub left_end : (ops : List Op) (k : ℕ) → left_from ops k (length ops) ≡ []
left_end ops k = ap (λ (n : ℕ). filter (is_of_client ops k) (range_with_len (length ops) n)) (none_over (length ops))

pub passed_same : (p : Plan) (cs : List Client) (k : ℕ) (d c : Client) → k < length cs → client_of p c ≡ client_of p (get_or cs k d)
    → clients_of p (slice_set cs k c) ≡ clients_of p cs
passed_same p [] k d c below same = absurd (omega (arith, below))
passed_same p (x ∷ xs) zero d c below same = ap (λ y. y ∷ clients_of p xs) same
passed_same p (x ∷ xs) (suc k) d c below same = ap (λ ys. client_of p x ∷ ys) (passed_same p xs k d c (omega (arith, below)) same)

pub moved_same : (p : Plan) (c : Client) (seen : List Op) (next : ℕ) → seen ≡ p.ops.items → left_from seen c.number next ≡ left_from seen c.number c.next
    → client_of p (record c { next = next }) ≡ client_of p c
moved_same p c seen next is same =
    ap (λ (l : List ℕ). record { left = l; job = job_of (numbers p.members.items) c.read c.work })
    (subst (λ (ops : List Op). left_from ops c.number next ≡ left_from ops c.number c.next) is same)
