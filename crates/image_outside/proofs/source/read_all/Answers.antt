use Rattle.std.proofs.Common.{ℕ, List, ◌++◌, length, take, refl, subst, arith, length-append, length-take}
use Rattle.std.proofs.lemmas.Grind.{common_steps}
use Rattle.image_outside.specs.Outside.{Takes, IsAtEnd}
use Rattle.image_outside.proofs.Taken.{takes_all, takes_more}
use Rattle.image_outside.proofs.Written.{on_err}
use Rattle.image_outside.proofs.source.read_all.Goals as goal

pub returns-then-count-eq0-clause-all : goal.returns-then-count-eq0-clause-all
returns-then-count-eq0-clause-all g c =
    let over : IsAtEnd (g.S.Source.left c.loop-piece.source) = c.in_ok-count.ensures.end c.if-count-eq0.true (grind (arith, common_steps)) in
    takes_all (g.S.Source.left c.args.source.now) (g.S.Source.left c.loop-piece.source) (g.S.Source.left c.read.new.self) c.loop-piece.bytes.items c.loop-piece.invariant.taken
    (subst (λ (n : ℕ). Takes (g.S.Source.left c.loop-piece.source) (g.S.Source.left c.read.new.self) (take n c.read.new.into)) c.if-count-eq0.true c.in_ok-count.ensures.moved) over

pub returns-in_err-extend_from_slice-clause-front : goal.returns-in_err-extend_from_slice-clause-front
returns-in_err-extend_from_slice-clause-front g c =
    let read : List ℕ = c.loop-piece.bytes.items ++ take c.in_ok-count.count c.read.new.into in
    on_err c.from_residual-in_err-extend_from_slice.result _ (
      length read,
      grind (arith, common_steps, length-append, length-take),
      record {
        front = read;
        counted = refl;
        takes = takes_more (g.S.Source.left c.args.source.now) (g.S.Source.left c.loop-piece.source) (g.S.Source.left c.read.new.self) c.loop-piece.bytes.items (take c.in_ok-count.count c.read.new.into)
            c.loop-piece.invariant.taken c.in_ok-count.ensures.moved;
      },
    )
