use Rattle.std.proofs.Common.{◌≡◌, List, ℕ, true, false, None, refl, sym, ap, subst, ◌∙◌, inl}
use Rattle.array_model.specs.Script.{sector_of}
use Rattle.array_model.specs.Kept.{JournalState}
use Rattle.stage_machine.specs.Machine.{Asks}
use Rattle.control_state.specs.Book.{laid_at}
use Rattle.control_state.specs.Still.{is_still}
use Rattle.control_state.specs.Controls.{control_of, out_of, failed_of}
use Rattle.stage.specs.declared.turned.Turned.TheVariants.{Idle, JournalFull, Member}
use Rattle.stage.specs.Runs.{run_setting}
use Rattle.stage.specs.Stages.{Seen, IsStage, Answered, setting_of, given_of, is_full}
use Rattle.stage.proofs.Staged.{entered_within, stage_goes, turns_made, not_full}
use Rattle.stage.proofs.Stilled.{still_same, answers_made}
use Rattle.stage.proofs.stage.Stage.client_acts.Goals as goal

pub invariant_of-self : goal.invariant_of-self
invariant_of-self g c =
    let p = c.self.inside.plan in
    let newest = laid_at c.self.inside.newest in
    let sizes = g.B.Bank.sizes c.self.inside.bank in
    let contents = g.B.Bank.opening c.self.inside.bank in
    let told = g.B.Bank.log c.self.inside.bank in
    let C = control_of p c.self.inside.control in
    let made = c.self.inside.calls in
    let free = not_full c.self.inside.journal.room _ made (sym c.is_full.ensures ∙ c.if-is_full.false) in
    let out = out_of p c.client_part-events.new.control c.client_part-events.result in
    let held = g.B.Bank.opening c.client_part-events.new.bank in
    let now = g.B.Bank.log c.client_part-events.new.bank in
    let m = c.client_part-events.ensures.made newest in
    subst (λ (sz : List ℕ). IsStage (run_setting p newest sz) p sz out.next c.client_part-events.new.calls c.enter.new.journal.entries c.enter.new.journal.room held now) (sym c.client_part-events.ensures.sizes)
    (subst (λ (j : JournalState). IsStage (run_setting p newest sizes) p sizes out.next c.client_part-events.new.calls j.entries j.room held now) (sym c.enter.ensures)
    (stage_goes (run_setting p newest sizes) p sizes C made c.self.inside.journal.entries c.self.inside.journal.room contents told (Asks c.args.k m.0 m.1) out c.client_part-events.new.calls _ held now c.self.invariant free (entered_within c.self.inside.journal.room made c.self.inside.journal.entries c.client_part-events.new.calls c.client_part-events.new.control.clients c.client_part-events.result (sym c.is_full.ensures ∙ c.if-is_full.false)) m.2 c.client_part-events.ensures.opening refl))

-- a call failed before
pub returns-in-Some-clause-answered : goal.returns-in-Some-clause-answered
returns-in-Some-clause-answered g c =
    (record { went = true; stored = 0 }, sector_of 0, subst (λ (v : Seen g.row.B.Denot). Answered v v (Asks c.args.k (record { went = true; stored = 0 }) (sector_of 0)) (Member c.in-Some.disk)) c.self.view_is (ap failed_of c.in-Some.is, inl refl))

-- there is nothing to do
pub returns-then-client_is_still-clause-answered : goal.returns-then-client_is_still-clause-answered
returns-then-client_is_still-clause-answered g c =
    let p = c.self.inside.plan in
    let newest = laid_at c.self.inside.newest in
    let sizes = g.B.Bank.sizes c.self.inside.bank in
    let C = control_of p c.self.inside.control in
    (record { went = true; stored = 0 }, sector_of 0, subst (λ (v : Seen g.row.B.Denot). Answered v v (Asks c.args.k (record { went = true; stored = 0 }) (sector_of 0)) Idle) c.self.view_is (refl, ap failed_of c.in_default.is, sym (still_same p newest sizes C (Asks c.args.k (record { went = true; stored = 0 }) (sector_of 0))) ∙ sym (c.client_is_still.ensures.still (record { went = true; stored = 0 }) (sector_of 0)) ∙ c.if-client_is_still.true))

-- there is no room
pub returns-then-is_full-clause-answered : goal.returns-then-is_full-clause-answered
returns-then-is_full-clause-answered g c =
    let p = c.self.inside.plan in
    let newest = laid_at c.self.inside.newest in
    let sizes = g.B.Bank.sizes c.self.inside.bank in
    let C = control_of p c.self.inside.control in
    (record { went = true; stored = 0 }, sector_of 0, subst (λ (v : Seen g.row.B.Denot). Answered v v (Asks c.args.k (record { went = true; stored = 0 }) (sector_of 0)) JournalFull) c.self.view_is (refl, ap failed_of c.in_default.is, sym (still_same p newest sizes C (Asks c.args.k (record { went = true; stored = 0 }) (sector_of 0))) ∙ sym (c.client_is_still.ensures.still (record { went = true; stored = 0 }) (sector_of 0)) ∙ c.if-client_is_still.false, sym c.is_full.ensures ∙ c.if-is_full.true))

-- the turn was made
pub returns-clause-answered : goal.returns-clause-answered
returns-clause-answered g c =
    let p = c.self.inside.plan in
    let newest = laid_at c.self.inside.newest in
    let sizes = g.B.Bank.sizes c.self.inside.bank in
    let told = g.B.Bank.log c.self.inside.bank in
    let C = control_of p c.self.inside.control in
    let made = c.self.inside.calls in
    let out = out_of p c.client_part-events.new.control c.client_part-events.result in
    let now = g.B.Bank.log c.client_part-events.new.bank in
    let m = c.client_part-events.ensures.made newest in
    let cause = subst (λ (v : Seen g.row.B.Denot). (v.control.failed ≡ None) × (is_still (setting_of v.given) v.control (Asks c.args.k m.0 m.1) ≡ false) × (is_full v ≡ false)) c.self.view_is
    (ap failed_of c.in_default.is, sym (still_same p newest sizes C (Asks c.args.k m.0 m.1)) ∙ sym (c.client_is_still.ensures.still m.0 m.1) ∙ c.if-client_is_still.false, sym c.is_full.ensures ∙ c.if-is_full.false) in
    (m.0, m.1, answers_made c.args.self.now _ (Asks c.args.k m.0 m.1) c.client_part-events.new.control.failed c.answer.result c.answer.ensures refl (turns_made _ _ _ (Asks c.args.k m.0 m.1) out told now c.self.view_is m.2.makes (ap (given_of p newest) c.client_part-events.ensures.sizes) (ap (λ (j : JournalState). j.room) c.enter.ensures) refl (ap (λ (j : JournalState). j.entries) c.enter.ensures), cause.0, cause.1, cause.2))
