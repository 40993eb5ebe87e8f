use Rattle.std.proofs.Common.{◌≡◌, ◌+◌, ◌<◌, ◌≤◌, ◌==◌, ◌||◌, not, Bool, true, false, List, [], ◌∷◌, length, length-append, refl, ap, subst, ◌∙◌, arith, inl, inr}
use Rattle.device_log.specs.Log.{Call}
use Rattle.array_model.specs.Small.{worked_log}
use Rattle.refused_runs.specs.Wrong.{unrecorded_log}
use Rattle.refused_runs.proofs.Last.{passes_at_end}
use Rattle.refused_runs.proofs.wrong_ends_are_refused.Goals as goal

pub returns-clause-idle : goal.returns-clause-idle
returns-clause-idle c limit calls admitted = let answered : false ≡ true = admitted.ends.rests.answered 0 (omega arith) in cc answered

pub returns-clause-half : goal.returns-clause-half
returns-clause-half c limit calls admitted = let answered : false ≡ true = admitted.ends.rests.answered 1 (omega arith) in cc answered

pub returns-clause-silent : goal.returns-clause-silent
returns-clause-silent c limit calls admitted = let answered : false ≡ true = admitted.ends.rests.answered 1 (omega arith) in cc answered

pub returns-clause-unrecorded : goal.returns-clause-unrecorded
returns-clause-unrecorded c limit calls admitted = let went : false ≡ true = admitted.ends.went.1.1.1.1.1.1.1.1.1.1.1.1.1.1.1.1.0 in cc went

pub returns-clause-rested : goal.returns-clause-rested
returns-clause-rested c limit calls admitted = admitted.ends.works c.example_of_the_rest.ensures.meets

pub returns-clause-roomy : goal.returns-clause-roomy
returns-clause-roomy c calls admitted = let spent : 13 < 13 = admitted.ends.spent in omega (arith, spent)

pub returns-clause-blamed : goal.returns-clause-blamed
returns-clause-blamed c d limit calls admitted =
    let went : admitted.ends.last.went ≡ true = passes_at_end (λ call. call.went) worked_log admitted.ends.before admitted.ends.last admitted.ends.parts refl in
    cc (went, admitted.ends.fails)

-- a call that went through, or one on another disk than the first
abbrev is_other : Call → Bool
is_other call = call.went || not (call.disk == 0)

pub returns-clause-other : goal.returns-clause-other
returns-clause-other c d is limit calls admitted =
    let last = admitted.ends.last in
    let passes : (last.went || not (last.disk == 0)) ≡ true = passes_at_end is_other unrecorded_log admitted.ends.before last admitted.ends.parts refl in
    let first : last.disk ≡ 0 = admitted.ends.on_disk ∙ is in
    let none : false ≡ true = subst (λ n. (false || not (n == 0)) ≡ true) first (subst (λ b. (b || not (last.disk == 0)) ≡ true) admitted.ends.fails passes) in
    cc none

pub returns-clause-unheeded : goal.returns-clause-unheeded
returns-clause-unheeded c calls admitted = let room : 9 ≤ 8 = admitted.room.1.1.1.1.1.0 refl in omega (arith, room)

pub returns-clause-heedless : goal.returns-clause-heedless
returns-clause-heedless c d limit calls admitted =
    let it = admitted.ends in
    let count : 13 ≡ length it.before + 1 = ap (λ (xs : List Call). length xs) it.parts ∙ length-append it.before (it.last ∷ []) in
    let last : 13 ≤ length it.before = it.behind.1.1.1.1.1.1.1.1.1.1.0 in
    omega (arith, count, last)
