-- What a client's next operation is, and how it is submitted.
use Rattle.std.proofs.Common.{◌≡◌, ℕ, ◌<◌, Bool, false, List, [], ◌∷◌, zero, suc, ◌+◌, arith, subst, length, get_or, Some, refl, ap, sym}
use Rattle.array_model.specs.declared.script.OpKind.TheVariants.{Write, Read}
use Rattle.array_model.specs.declared.script.Op.{Op}
use Rattle.array_model.specs.Script.{kind_at}
use Rattle.stage_machine.specs.Setting.{Setting}
use Rattle.stage_machine.specs.Jobs.{client_at, placement_at}
use Rattle.stage_machine.specs.Machine as machine
use Rattle.control_state.specs.declared.plan.Plan.{Plan}
use Rattle.control_state.specs.declared.client.Client.{Client}
use Rattle.control_state.specs.Seen.{clients_of, left_from}

pub submits_write : (S : Setting) (c : machine.Control) (k i : ℕ) (rest : List ℕ) (v : _) (s value : ℕ) (readonly : Bool) → readonly ≡ false
    → kind_at S.asked.ops i ≡ Some (Write v s value) → machine.submit_write c k i rest (placement_at S i) ≡ machine.submit_unless S c k i rest readonly
submits_write S c k i rest v s value readonly live is = rw live (sym (ap (machine.submit_kind S c k i rest) is))

pub submits_read : (S : Setting) (c : machine.Control) (k i : ℕ) (rest : List ℕ) (v : _) (s : ℕ) (readonly : Bool) → readonly ≡ false
    → kind_at S.asked.ops i ≡ Some (Read v s) → machine.submit_read c k i rest (placement_at S i) ≡ machine.submit_unless S c k i rest readonly
submits_read S c k i rest v s readonly live is = rw live (sym (ap (machine.submit_kind S c k i rest) is))

pub left_at : (p : Plan) (cs : List Client) (k : ℕ) (d : Client) → k < length cs
    → (client_at (clients_of p cs) k).left ≡ left_from p.ops.items (get_or cs k d).number (get_or cs k d).next
left_at p [] k d below = absurd (omega (arith, below))
left_at p (c ∷ cs) zero d below = refl
left_at p (c ∷ cs) (suc k) d below = left_at p cs k d (omega (arith, below))

pub left_is : (ops seen : List Op) (number next i : ℕ) → seen ≡ ops → left_from seen number next ≡ i ∷ left_from seen number (i + 1)
    → left_from ops number next ≡ i ∷ left_from ops number (i + 1)
left_is ops seen number next i same is = subst (λ (xs : List Op). left_from xs number next ≡ i ∷ left_from xs number (i + 1)) same is
