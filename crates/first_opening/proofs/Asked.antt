-- The operations of a script, as a test.
use Rattle.std.proofs.Common.{◌≡◌, ℕ, ◌<◌, Bool, true, List, [], ◌∷◌, nat_lt}
use Rattle.std.specs.List.{list_all, AllByRecursion}
use Rattle.std.proofs.lemmas.Bool.{and_parts, ltb-true, eqb-true}
use Rattle.units.specs.declared.disk.Sector.{Sector}
use Rattle.array_model.specs.declared.script.Op.{Op}
use Rattle.array_model.specs.declared.script.OpKind.{OpKind}
use Rattle.array_model.specs.declared.script.OpKind.TheVariants.{Write, Read, Whole}
use Rattle.array_model.specs.Script.{Asked}
use Rattle.stage_machine.specs.Opens.{AsksFirst, IsInFirst}
use Rattle.first_opening.specs.Opened.{Opened, setting_of, is_in_first, is_first_op}

in-first : (kind : OpKind) → is_in_first kind ≡ true → IsInFirst kind
in-first (Write v s value) e = eqb-true v.0 0 e
in-first (Read v s) e = eqb-true v.0 0 e
in-first (Whole v) e = tt

clients-below : (ops : List Op) → list_all is_first_op ops ≡ true → AllByRecursion (λ op. op.client < 16) ops
clients-below [] all = tt
clients-below (op ∷ ops) all =
    let both = and_parts (is_first_op op) (list_all is_first_op ops) all in
    (ltb-true op.client 16 (and_parts (nat_lt op.client 16) (is_in_first op.kind) both.0).0, clients-below ops both.1)

volumes-first : (ops : List Op) → list_all is_first_op ops ≡ true → AllByRecursion (λ op. IsInFirst op.kind) ops
volumes-first [] all = tt
volumes-first (op ∷ ops) all =
    let both = and_parts (is_first_op op) (list_all is_first_op ops) all in
    (in-first op.kind (and_parts (nat_lt op.client 16) (is_in_first op.kind) both.0).1, volumes-first ops both.1)

pub asks-first : (o : Opened) (asked : Asked) (content : ℕ → ℕ → Sector) (unsure : ℕ → ℕ → Bool) → list_all is_first_op asked.ops ≡ true → AsksFirst (setting_of o asked content unsure)
asks-first o asked content unsure all = record { clients = clients-below asked.ops all; volumes = volumes-first asked.ops all }
