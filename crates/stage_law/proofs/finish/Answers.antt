use Rattle.stage_law.proofs.Laws.{keeps_form, keeps_laws, answers_all, comes_to_rest, works_on, ends_at}
use Rattle.stage.specs.Stages.{setting_of}
use Rattle.stage_law.proofs.finish.Goals as goal

pub returns-clause-form : goal.returns-clause-form
returns-clause-form g c o asked run =
    let s = c.args.stage in
    keeps_form o asked s.given run s.control s.calls s.journal (g.B.Bank.opening s.bank) (g.B.Bank.log s.bank) c.close.ensures.fits c.close.ensures.honest

pub returns-clause-laws : goal.returns-clause-laws
returns-clause-laws g c o asked run all known =
    let s = c.args.stage in
    let it = keeps_laws o asked s.given run s.control s.calls s.journal (g.B.Bank.opening s.bank) (g.B.Bank.log s.bank) c.close.ensures.fits c.close.ensures.honest all known in
    (it.0, it.1, it.2, λ rows still. it.3 rows still.live (record { monitor = still.monitor; clients = still.clients; quiet = still.quiet }))

pub returns-clause-answered : goal.returns-clause-answered
returns-clause-answered g c o asked run rows still =
    let s = c.args.stage in
    answers_all o asked s.given run s.control s.calls s.journal (g.B.Bank.opening s.bank) (g.B.Bank.log s.bank) c.close.ensures.fits c.close.ensures.honest rows still.live
    (record { monitor = still.monitor; clients = still.clients; quiet = still.quiet })

pub returns-clause-ends : goal.returns-clause-ends
returns-clause-ends g c all log known since =
    let s = c.args.stage in
    ends_at (setting_of s.given) s.control s.calls s.journal (g.B.Bank.log s.bank) c.close.ensures.ran all log known since

pub returns-clause-rests : goal.returns-clause-rests
returns-clause-rests g c o asked run rows still =
    let s = c.args.stage in
    comes_to_rest o asked s.given run s.control s.calls s.journal (g.B.Bank.opening s.bank) (g.B.Bank.log s.bank) c.close.ensures.fits c.close.ensures.honest rows still.live
    (record { monitor = still.monitor; clients = still.clients; quiet = still.quiet })

pub returns-clause-works : goal.returns-clause-works
returns-clause-works g c o asked run actor waits told =
    let s = c.args.stage in
    works_on o asked s.given run s.control s.calls s.journal (g.B.Bank.opening s.bank) (g.B.Bank.log s.bank) c.close.ensures.fits c.close.ensures.honest actor waits told

pub returns-clause-room : goal.returns-clause-room
returns-clause-room g c = c.close.ensures.room
