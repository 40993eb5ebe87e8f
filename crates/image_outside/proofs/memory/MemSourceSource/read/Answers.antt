use Rattle.std.proofs.Common.{◌≡◌, ◌++◌, List, ℕ, take, drop, ap, subst, Some}
use Rattle.image_outside.specs.Memory.{SourceState}
use Rattle.image_outside.proofs.Taken.{moved_front, rest_of}
use Rattle.image_outside.proofs.memory.MemSourceSource.read.Goals as goal

pub returns-clause-moved : goal.returns-clause-moved
returns-clause-moved c = λ now is.
    let bytes : List ℕ = c.self.inside.bytes.items in
    let same : c.deref-2.result.now ≡ bytes = c.deref-2.ensures.value in
    let front : take c.move_front-count.result c.move_front-count.new.into ≡ take c.move_front-count.result (drop c.self.inside.at bytes) =
    rest_of c.deref-2.result.now bytes c.self.inside.at c.move_front-count.result _ same c.move_front-count.ensures.moved in
    let left : drop c.self.inside.at bytes ≡ c.args.self.now.left = ap (λ (s : SourceState). s.left) c.self.view_is in
    subst (λ (l : List ℕ). Some l ≡ Some (take c.move_front-count.result c.move_front-count.new.into ++ now)) left
    (moved_front bytes c.self.inside.at c.move_front-count.result (take c.move_front-count.result c.move_front-count.new.into) now front is)
