use Rattle.std.proofs.Common.{List, subst, sym}
use Rattle.array_model.specs.declared.journal.Entry.{Entry}
use Rattle.array_model.specs.Kept.{asked_by}
use Rattle.image_outside.specs.Told.{bank_told}
use Rattle.image_verdict.specs.Images.{anchor_reads, IsFoundOn}
use Rattle.image_start.specs.Openings.{opened_on}
use Rattle.image_replay.specs.Runs.{LeavesRun}
use Rattle.image_replay.proofs.Leaves.{found_still, leaves, only_anchors, run_on}
use Rattle.image_replay.proofs.runs.run.Goals as goal

pub open-requires-clause-reads : goal.open-requires-clause-reads
open-requires-clause-reads g c = only_anchors (g.B.Bank.log c.args.bank) c.args.images.now c.requires.reads

pub returns-clause-run : goal.returns-clause-run
returns-clause-run g c contents stands =
    let B = g.B.Bank in
    let images = c.args.images.now in
    let asked = asked_by c.args.script.now in
    let last = c.run_out-end.new.stage in
    let o = opened_on images contents in
    let left = c.run_out-end.ensures in
    let closed = c.finish-bank.ensures in
    let run = run_on B c.args.bank c.opening_of.result images c.args.script.now c.args.limit c.in_ok-stage.stage last c.run_out-end.result
    c.requires.reads c.in_ok-stage.ensures.ok left.follows left.bank left.opening left.ends left.over
    contents c.requires.starts stands (sym c.requires.found.sized) c.requires.rows c.requires.first (c.opening_of.ensures.opens contents) in
    let it = leaves B c.args.bank c.opening_of.result images c.args.script.now c.args.limit c.in_ok-stage.stage last c.run_out-end.result
    c.requires.reads c.in_ok-stage.ensures.ok left.follows left.bank left.opening left.ends left.over
    contents c.requires.starts stands (sym c.requires.found.sized) c.requires.rows c.requires.first (c.opening_of.ensures.opens contents)
    (closed.form o asked run) (closed.laws o asked run) (closed.rests o asked run) (closed.works o asked run) closed.ends closed.room c.requires.limit in
    subst (λ (b : g.row.B.Denot). LeavesRun o asked c.args.limit (anchor_reads images) (bank_told B b) c.finish-bank.result.1.entries c.run_out-end.result) (sym closed.parts.0)
    (subst (λ (j : List Entry). LeavesRun o asked c.args.limit (anchor_reads images) (bank_told B last.bank) j c.run_out-end.result) (sym closed.parts.1) it)

pub returns-clause-found : goal.returns-clause-found
returns-clause-found g c =
    let B = g.B.Bank in
    let images = c.args.images.now in
    let left = c.run_out-end.ensures in
    subst (λ (b : g.row.B.Denot). IsFoundOn (bank_told B b) images) (sym c.finish-bank.ensures.parts.0)
    (found_still B c.args.bank c.opening_of.result images c.args.script.now c.args.limit c.in_ok-stage.stage c.run_out-end.new.stage c.run_out-end.result
    c.requires.reads c.in_ok-stage.ensures.ok left.follows left.bank left.opening left.ends left.over c.requires.found)
