use Rattle.std.proofs.Common.{◌≡◌, ℕ, ◌==◌, not, true, false, sym, ◌∙◌, ap}
use Rattle.std.specs.Prelude.{Result, Ok, Err, OnOk}
use Rattle.std.proofs.lemmas.Bool.{ne_eqb}
use Rattle.imsm_base.specs.Layout.{Block, migration_state_of}
use Rattle.imsm_base.specs.Volumes.{has_pass}
use Rattle.imsm_codec.specs.Mpb.{volume_at}
use Rattle.imsm_buffer.specs.Buffer.{parts_of}
use Rattle.imsm_edit.proofs.Opened.{left_alone, opened_block}
use Rattle.imsm_edit.proofs.passes.open_pass.Goals as goal

-- whether a pass is open, by the state that was read
is_open : (read b : Block) (k n : ℕ) → n ≡ migration_state_of (volume_at k read) → read ≡ b → (n ≡ 0 → ⊥) → has_pass (volume_at k b) ≡ true
is_open read b k n is same other =
    ap not (ne_eqb (migration_state_of (volume_at k b)) 0 (λ e. other (is ∙ ap (λ (x : Block). migration_state_of (volume_at k x)) same ∙ e)))

is_closed : (read b : Block) (k n : ℕ) → n ≡ migration_state_of (volume_at k read) → read ≡ b → n ≡ 0 → has_pass (volume_at k b) ≡ false
is_closed read b k n is same zero_is =
    ap (λ (m : ℕ). not (m == 0)) (sym (is ∙ ap (λ (x : Block). migration_state_of (volume_at k x)) same) ∙ zero_is)

on_ok : {T E : Type 0} (r : Result T E) (P Q : Type 0) → (P → Q) → OnOk r P → OnOk r Q
on_ok (Ok x) P Q f p = f p
on_ok (Err e) P Q f p = p

pub returns-then-migr_state-ne0-clause-block : goal.returns-then-migr_state-ne0-clause-block
returns-then-migr_state-ne0-clause-block c =
    let b : Block = parts_of c.args.book.now in
    left_alone b c.args.v.0 (is_open _ b c.args.v.0 c.migr_state.result c.migr_state.ensures c.parts.ensures.parts c.if-migr_state-ne0.true)

pub returns-clause-block : goal.returns-clause-block
returns-clause-block c =
    let b : Block = parts_of c.args.book.now in
    on_ok c.open_migration.result _ _
    (opened_block b (parts_of c.open_migration.new.self) c.args.v.0 (is_closed _ b c.args.v.0 c.migr_state.result c.migr_state.ensures c.parts.ensures.parts c.if-migr_state-ne0.false))
    c.open_migration.ensures.block
