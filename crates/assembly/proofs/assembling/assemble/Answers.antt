use Rattle.std.proofs.Common.{List, subst, sym}
use Rattle.container.specs.declared.seen.Seen.{Seen}
use Rattle.container.specs.Seen.{AreSound}
use Rattle.assembly.proofs.Seen.{all_sound}
use Rattle.assembly.proofs.assembling.assemble.Goals as goal

pub judge-requires-clause-sound : goal.judge-requires-clause-sound
judge-requires-clause-sound g c =
    subst (λ (l : List Seen). AreSound l) (sym c.as_slice.ensures.value) (all_sound (λ k. k) c.in-Ok.seen.items c.in-Ok.ensures.seen.each)
