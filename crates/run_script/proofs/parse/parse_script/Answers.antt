use Rattle.std.proofs.Common.{◌+◌, ℕ, List, take, sym, ◌∙◌, ap, arith}
use Rattle.std.proofs.lemmas.Result.{err_from_is_err_and}
use Rattle.run_script.specs.Grammar.{asked_by, lines_of}
use Rattle.run_script.specs.Scripts.{IsCause, orders_in, script_of, with_line}
use Rattle.run_script.proofs.Bounds.{within_more}
use Rattle.run_script.proofs.Lines.{Next, few_lines, next_line, script_more, right_more, wrong_next, cause}
use Rattle.run_script.proofs.parse.parse_script.Goals as goal

pub overflow_add-number : goal.overflow_add-number
overflow_add-number c =
    let next = next_line (lines_of c.args.text.now) c.loop-line.number c.loop-line.lines c.in-Some.line.now c.next.new.self
    c.loop-line.invariant.count c.loop-line.invariant.left c.in-Some.ensures in
    omega (arith, few_lines c.args.text.now, next.count)

pub loop-line-preserved : goal.loop-line-preserved
loop-line-preserved c =
    let lines : List (List ℕ) = lines_of c.args.text.now in
    let n : ℕ = c.loop-line.number in
    let line : List ℕ = c.in-Some.line.now in
    let next : Next lines n line c.next.new.self =
    next_line lines n c.loop-line.lines line c.next.new.self c.loop-line.invariant.count c.loop-line.invariant.left c.in-Some.ensures in
    record {
      count = next.count;
      left = next.left;
      script = c.in_ok-push_line.ensures.ok ∙ ap (λ s. with_line s (asked_by c.args.turns line)) c.loop-line.invariant.script
          ∙ sym (ap (λ front. script_of (orders_in c.args.turns front)) next.front ∙ script_more c.args.turns (take n lines) line);
      within = rw (c.in_ok-push_line.ensures.ok) (within_more c.loop-line.script (n + 1) c.args.turns line c.loop-line.invariant.within c.in_ok-push_line.ensures.right);
      right = right_more c.args.turns lines n c.loop-line.invariant.right
          (wrong_next c.args.turns lines n line c.loop-line.script next.at c.loop-line.invariant.script ∙ c.in_ok-push_line.ensures.right);
    }

pub returns-in_err-push_line-clause-fault : goal.returns-in_err-push_line-clause-fault
returns-in_err-push_line-clause-fault c =
    let lines : List (List ℕ) = lines_of c.args.text.now in
    let n : ℕ = c.loop-line.number in
    let line : List ℕ = c.in-Some.line.now in
    let next : Next lines n line c.next.new.self =
    next_line lines n c.loop-line.lines line c.next.new.self c.loop-line.invariant.count c.loop-line.invariant.left c.in-Some.ensures in
    let because : IsCause c.args.turns lines c.in_err-push_line.field-0.0 =
    cause c.args.turns lines n _ _ (wrong_next c.args.turns lines n line c.loop-line.script next.at c.loop-line.invariant.script)
    c.loop-line.invariant.right c.in_err-push_line.ensures.err in
    let p = err_from_is_err_and c.from_residual.result c.from_residual.ensures.1 in
    rw (p.1, p.2) because
