-- A law at every moment, from each split of the journal.
use Rattle.std.proofs.Common.{ℕ, ◌≤◌, List, [], ◌∷◌, ◌++◌, length, take, sym, subst, append_assoc}
use Rattle.std.proofs.lemmas.List.{append-nil}
use Rattle.device_log.specs.Log.{Call}
use Rattle.array_model.specs.declared.journal.Entry.{Entry}
use Rattle.array_model.specs.Moments.{AllBelow, NoneBelow, Always}

abbrev pub EachSplit : (List Entry → List Entry → Type 0) → List Entry → List Entry → Type 0
EachSplit Q front [] = Q front []
EachSplit Q front (e ∷ es) = Q front (e ∷ es) × EachSplit Q (front ++ e ∷ []) es

pub record AtSplit (P : List Call → List Entry → Type 0) (log : List Call) (front rest : List Entry) : Type 0 where
  pub holds : (c : ℕ) → c ≤ length log → AllBelow c front → NoneBelow c rest → P (take c log) front

split : (Q : List Entry → List Entry → Type 0) (done front rest : List Entry) → EachSplit Q done (front ++ rest) → Q (done ++ front) rest
split Q done [] [] each = subst (λ z. Q z []) (sym (append-nil done)) each
split Q done [] (e ∷ es) each = subst (λ z. Q z (e ∷ es)) (sym (append-nil done)) each.0
split Q done (f ∷ front) rest each = subst (λ z. Q z rest) (append_assoc done (f ∷ []) front) (split Q (done ++ f ∷ []) front rest each.1)

pub always_by : (P : List Call → List Entry → Type 0) (log : List Call) (journal : List Entry) → EachSplit (AtSplit P log) [] journal → Always P log journal
always_by P log journal each c front rest moment =
    (split (AtSplit P log) [] front rest (subst (EachSplit (AtSplit P log) []) moment.parts each)).holds c moment.calls moment.none_above moment.all_below
