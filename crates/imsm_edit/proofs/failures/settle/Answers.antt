use Rattle.std.proofs.Common.{◌≡◌, ℕ, ◌==◌, ◌⊎◌, inl, inr, Bool, true, false, List, sym, ◌∙◌, ap}
use Rattle.std.proofs.lemmas.Bool.{eq-eqb, ne_eqb}
use Rattle.imsm_base.specs.Layout.{Block, Volume}
use Rattle.imsm_codec.specs.Mpb.{volume_at}
use Rattle.imsm_buffer.specs.Buffer.{parts_of}
use Rattle.imsm_buffer.proofs.Replaced.{unchanged_at}
use Rattle.imsm_edit.proofs.Lost.{idle_is, settled_by}
use Rattle.imsm_edit.proofs.failures.settle.Goals as goal

not_idle : (P : Type 0) (t : Bool) → (P × (t ≡ false)) ⊎ (P → ⊥) → P → t ≡ false
not_idle P t (inl both) p = both.1
not_idle P t (inr other) p = absurd (other p)

pub returns-then-is_idle-clause-block : goal.returns-then-is_idle-clause-block
returns-then-is_idle-clause-block c =
    let b : Block = parts_of c.args.book.now in
    let v : Volume = volume_at c.args.v.0 b in
    settled_by b (parts_of c.close_migration.new.self) c.args.v.0 c.args.broken true true
    (ap (λ (n : ℕ). n == 1) (sym c.requires.state) ∙ eq-eqb c.args.view.now.state 1 c.if-keeps.true)
    (sym (idle_is b v c.args.view.now c.requires.told) ∙ sym c.is_idle_rebuild-is_idle.ensures ∙ c.if-is_idle.true) c.close_migration.ensures.block

pub returns-then-keeps-2-clause-block : goal.returns-then-keeps-2-clause-block
returns-then-keeps-2-clause-block c =
    let b : Block = parts_of c.args.book.now in
    let v : Volume = volume_at c.args.v.0 b in
    settled_by b b c.args.v.0 c.args.broken true false
    (ap (λ (n : ℕ). n == 1) (sym c.requires.state) ∙ eq-eqb c.args.view.now.state 1 c.if-keeps-2.true)
    (sym (idle_is b v c.args.view.now c.requires.told) ∙ sym c.is_idle_rebuild-is_idle.ensures ∙ not_idle (c.args.view.now.state ≡ 1) c.is_idle_rebuild-is_idle.result c.else-keeps.either c.if-keeps-2.true)
    (ap (λ (vs : List Volume). record b { volumes = vs }) (sym (unchanged_at c.args.v.0 b.volumes)))

pub returns-then-is_idle-2-clause-block : goal.returns-then-is_idle-2-clause-block
returns-then-is_idle-2-clause-block c =
    let b : Block = parts_of c.args.book.now in
    let v : Volume = volume_at c.args.v.0 b in
    settled_by b (parts_of c.close_pass.new.book) c.args.v.0 c.args.broken false true
    (ap (λ (n : ℕ). n == 1) (sym c.requires.state) ∙ ne_eqb c.args.view.now.state 1 c.if-keeps-2.false)
    (sym (idle_is b v c.args.view.now c.requires.told) ∙ sym c.is_idle_rebuild-is_idle.ensures ∙ c.if-is_idle-2.true) c.close_pass.ensures.block

pub returns-clause-block : goal.returns-clause-block
returns-clause-block c =
    let b : Block = parts_of c.args.book.now in
    let v : Volume = volume_at c.args.v.0 b in
    settled_by b (parts_of c.set_states.new.book) c.args.v.0 c.args.broken false false
    (ap (λ (n : ℕ). n == 1) (sym c.requires.state) ∙ ne_eqb c.args.view.now.state 1 c.if-keeps-2.false)
    (sym (idle_is b v c.args.view.now c.requires.told) ∙ sym c.is_idle_rebuild-is_idle.ensures ∙ c.if-is_idle-2.false) c.set_states.ensures.block
