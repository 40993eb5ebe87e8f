use Rattle.std.proofs.Common.{◌≡◌, false, None, refl, sym, ap, subst, ◌∙◌, inl}
use Rattle.array_model.specs.Kept.{JournalState}
use Rattle.stage_machine.specs.Machine.{Quiets}
use Rattle.control_state.specs.Book.{laid_at}
use Rattle.control_state.specs.Still.{is_still}
use Rattle.control_state.specs.Controls.{control_of, out_of, failed_of}
use Rattle.stage.specs.declared.turned.Turned.TheVariants.{Idle, JournalFull, Member}
use Rattle.stage.specs.Runs.{run_setting}
use Rattle.stage.specs.Stages.{Seen, IsStage, Answered, setting_of, given_of, is_full}
use Rattle.stage.proofs.Going.{silent_true}
use Rattle.stage.proofs.Monitors.{makes_none, called_live}
use Rattle.stage.proofs.Same.{quiet_same}
use Rattle.stage.proofs.Staged.{entered_within, stage_goes, turns_made, not_full}
use Rattle.stage.proofs.Stilled.{still_same, answers_made}
use Rattle.control_state.specs.Seen.{plan_setting}
use Rattle.stage.specs.Causes.{KeepsBank}
use Rattle.stage.proofs.Kept.{failed_in, quiet_live, bank_still}
use Rattle.stage.proofs.stage.Stage.quiet.Goals as goal

pub invariant_of-self : goal.invariant_of-self
invariant_of-self g c =
    let p = c.self.inside.plan in
    let newest = laid_at c.self.inside.newest in
    let sizes = g.B.Bank.sizes c.self.inside.bank in
    let contents = g.B.Bank.opening c.self.inside.bank in
    let told = g.B.Bank.log c.self.inside.bank in
    let C = control_of p c.self.inside.control in
    let made = c.self.inside.calls in
    let free = not_full c.self.inside.journal.room _ made (sym c.is_full.ensures ∙ c.if-is_full.false) in
    let out = out_of p c.quiet-events.new.self c.quiet-events.result in
    let makes = makes_none (run_setting p newest sizes) told C made Quiets out (ap failed_of c.in_default.is) refl (c.quiet-events.ensures ∙ quiet_same p newest sizes C C.state) in
    subst (λ (j : JournalState). IsStage (run_setting p newest sizes) p sizes out.next made j.entries j.room contents told) (sym c.enter.ensures)
    (stage_goes (run_setting p newest sizes) p sizes C made c.self.inside.journal.entries c.self.inside.journal.room contents told Quiets out made _ contents told c.self.invariant free
    (entered_within c.self.inside.journal.room made c.self.inside.journal.entries made c.quiet-events.new.self.clients c.quiet-events.result (sym c.is_full.ensures ∙ c.if-is_full.false))
    (silent_true (run_setting p newest sizes) told C made Quiets out made contents told (called_live (run_setting p newest sizes) C Quiets (ap failed_of c.in_default.is)) makes) (λ opening at. at) refl)

-- a call failed before
pub returns-in-Some-clause-answered : goal.returns-in-Some-clause-answered
returns-in-Some-clause-answered g c =
    subst (λ (v : Seen g.row.B.Denot). Answered v v (Quiets) (Member c.in-Some.disk)) c.self.view_is (ap failed_of c.in-Some.is, inl refl)

-- there is nothing to do
pub returns-then-quiet_is_still-clause-answered : goal.returns-then-quiet_is_still-clause-answered
returns-then-quiet_is_still-clause-answered g c =
    let p = c.self.inside.plan in
    let newest = laid_at c.self.inside.newest in
    let sizes = g.B.Bank.sizes c.self.inside.bank in
    let C = control_of p c.self.inside.control in
    subst (λ (v : Seen g.row.B.Denot). Answered v v (Quiets) Idle) c.self.view_is (refl, ap failed_of c.in_default.is, sym (still_same p newest sizes C (Quiets)) ∙ sym (c.quiet_is_still.ensures) ∙ c.if-quiet_is_still.true)

-- there is no room
pub returns-then-is_full-clause-answered : goal.returns-then-is_full-clause-answered
returns-then-is_full-clause-answered g c =
    let p = c.self.inside.plan in
    let newest = laid_at c.self.inside.newest in
    let sizes = g.B.Bank.sizes c.self.inside.bank in
    let C = control_of p c.self.inside.control in
    subst (λ (v : Seen g.row.B.Denot). Answered v v (Quiets) JournalFull) c.self.view_is (refl, ap failed_of c.in_default.is, sym (still_same p newest sizes C (Quiets)) ∙ sym (c.quiet_is_still.ensures) ∙ c.if-quiet_is_still.false, sym c.is_full.ensures ∙ c.if-is_full.true)

-- the turn was made
pub returns-clause-answered : goal.returns-clause-answered
returns-clause-answered g c =
    let p = c.self.inside.plan in
    let newest = laid_at c.self.inside.newest in
    let sizes = g.B.Bank.sizes c.self.inside.bank in
    let told = g.B.Bank.log c.self.inside.bank in
    let C = control_of p c.self.inside.control in
    let made = c.self.inside.calls in
    let out = out_of p c.quiet-events.new.self c.quiet-events.result in
    let makes = makes_none (run_setting p newest sizes) told C made Quiets out (ap failed_of c.in_default.is) refl (c.quiet-events.ensures ∙ quiet_same p newest sizes C C.state) in
    let cause = subst (λ (v : Seen g.row.B.Denot). (v.control.failed ≡ None) × (is_still (setting_of v.given) v.control (Quiets) ≡ false) × (is_full v ≡ false)) c.self.view_is
    (ap failed_of c.in_default.is, sym (still_same p newest sizes C (Quiets)) ∙ sym (c.quiet_is_still.ensures) ∙ c.if-quiet_is_still.false, sym c.is_full.ensures ∙ c.if-is_full.false) in
    answers_made c.args.self.now _ (Quiets) c.quiet-events.new.self.failed c.answer.result c.answer.ensures refl (turns_made _ _ _ Quiets out told told c.self.view_is makes refl (ap (λ (j : JournalState). j.room) c.enter.ensures) refl (ap (λ (j : JournalState). j.entries) c.enter.ensures), cause.0, cause.1, cause.2)

-- no call was made
pub returns-clause-bank : goal.returns-clause-bank
returns-clause-bank g c =
    let p = c.self.inside.plan in
    let C = control_of p c.self.inside.control in
    let sizes = g.B.Bank.sizes c.self.inside.bank in
    let given = given_of p (laid_at c.self.inside.newest) sizes in
    let old : Seen g.row.B.Denot = record { bank = c.self.inside.bank; given = given; control = C; calls = c.self.inside.calls; journal = c.self.inside.journal.entries; room = c.self.inside.journal.room } in
    let new : Seen g.row.B.Denot = record { bank = c.self.inside.bank; given = given; control = control_of p c.quiet-events.new.self; calls = c.self.inside.calls; journal = c.enter.new.journal.entries; room = c.enter.new.journal.room } in
    let live = ap failed_of c.in_default.is in
    let kept = ap failed_in c.quiet-events.ensures ∙ quiet_live (plan_setting p) C C.state ∙ live in
    subst (λ (v : Seen g.row.B.Denot). KeepsBank g.B.Bank.serials g.B.Bank.sizes g.B.Bank.log g.B.Bank.faults_of v new) c.self.view_is
    (bank_still g.B.Bank.serials g.B.Bank.sizes g.B.Bank.log g.B.Bank.faults_of old new refl refl live kept)
