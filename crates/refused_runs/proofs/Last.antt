-- The last call of a log.
use Rattle.std.proofs.Common.{◌≡◌, Bool, true, List, [], ◌∷◌, ◌++◌, subst}
use Rattle.std.specs.List.{list_all}
use Rattle.std.proofs.lemmas.Bool.{and_parts}
use Rattle.device_log.specs.Log.{Call}

last_passes : (test : Call → Bool) (before : List Call) (last : Call) → list_all test (before ++ last ∷ []) ≡ true → test last ≡ true
last_passes test [] last h = (and_parts (test last) true h).0
last_passes test (call ∷ before) last h = last_passes test before last (and_parts (test call) (list_all test (before ++ last ∷ [])) h).1

-- what each call of a log passes its last one passes
pub passes_at_end : (test : Call → Bool) (log before : List Call) (last : Call) → log ≡ before ++ last ∷ [] → list_all test log ≡ true → test last ≡ true
passes_at_end test log before last parts h = last_passes test before last (subst (λ l. list_all test l ≡ true) parts h)
