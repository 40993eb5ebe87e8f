use Rattle.std.proofs.Common.{◌≡◌, ◌⊎◌, true, inl, inr}
use Rattle.image_run.specs.Scripts.{IsStopped}
use Rattle.refused_commands.proofs.Changes.{cannot_change}
use Rattle.refused_commands.proofs.Memory.{left_read, not_nine}
use Rattle.refused_commands.proofs.Rises.{cannot_rise}
use Rattle.refused_commands.proofs.Statuses.{is_plain, does_end}
use Rattle.refused_commands.proofs.forged_ends_are_refused.Goals as goal

not_six : (is_plain 6 ≡ true) ⊎ IsStopped 6 → ⊥
not_six (inl plain) = cc plain
not_six (inr (inl four)) = cc four
not_six (inr (inr (inl five))) = cc five
not_six (inr (inr (inr ten))) = cc ten

pub returns-clause-faultless : goal.returns-clause-faultless
returns-clause-faultless c request before after still carries = elim carries [
  | inl ends ↦ elim ends [
    | inl written ↦ not_six (does_end request before after written.lines 6 written.ends)
    | inr cut ↦ cannot_rise before.sink.faults after.sink.faults still cut.1.breaks.cause
  ]
  | inr memory ↦ let nine : 6 ≡ 9 = memory.0 in cc nine
]

pub returns-clause-written : goal.returns-clause-written
returns-clause-written c request before after unused tells carries = elim carries [
  | inl ends ↦ not_nine request before after ends
  | inr memory ↦ cannot_change after.shelf.bank (left_read request before after unused memory.2) tells
]
