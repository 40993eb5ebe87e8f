-- A drive makes its turns, one more each time.
use Rattle.std.proofs.Common.{◌≡◌, ℕ, ◌+◌, ◌<◌, suc, List, [], ◌∷◌, ◌++◌, length, get_or, take, drop, ◌⊎◌, inl, inr, refl, ap, sym, subst, ◌∙◌, add-one, drop-cons}
use Rattle.std.proofs.lemmas.List.{take-append-drop}
use Rattle.std.proofs.Math.Seq.{take-suc}
use Rattle.array_model.specs.declared.script.Turn.{Turn}
use Rattle.stage.specs.declared.turned.Turned.{Turned}
use Rattle.stage.specs.declared.turned.Turned.TheVariants.{Moved, Idle}
use Rattle.stage.specs.Stages.{Seen}
use Rattle.stage.specs.Turns.{TurnMade, GoesOn, MadeAll, Stopped}

pub made_more : {B : Type 0} (a : Seen B) (ts : List Turn) (b c : Seen B) (t : Turn) (r : Turned) → MadeAll a ts b → TurnMade b c t r → GoesOn r → MadeAll a (ts ++ t ∷ []) c
made_more {B} a [] b c t r all one on = (c, r, subst (λ (x : Seen B). TurnMade x c t r) all one, on, refl)
made_more {B} a (u ∷ us) b c t r all one on = (all.0, all.1, all.2, all.3, made_more all.0 us b c t r all.4 one on)

pub made_next : {B : Type 0} (a b c : Seen B) (ts : List Turn) (i : ℕ) (d : Turn) (r : Turned) → i < length ts → MadeAll a (take i ts) b → TurnMade b c (get_or ts i d) r → GoesOn r → MadeAll a (take (i + 1) ts) c
made_next {B} a b c ts i d r below all one on =
    subst (λ (us : List Turn). MadeAll a us c) (sym (ap (λ (n : ℕ). take n ts) (add-one i) ∙ take-suc ts i d below)) (made_more a (take i ts) b c (get_or ts i d) r all one on)

pub stopped_at : {B : Type 0} (a b c : Seen B) (ts : List Turn) (i : ℕ) (d : Turn) (r s : Turned) → i < length ts → MadeAll a (take i ts) b → TurnMade b c (get_or ts i d) r → r ≡ s → Stopped a ts c s
stopped_at {B} a b c ts i d r s below all one is = record {
  made = take i ts;
  last = get_or ts i d;
  left = drop (suc i) ts;
  order = sym (take-append-drop i ts) ∙ ap (λ (us : List Turn). take i ts ++ us) (drop-cons ts i d below);
  before = b;
  goes = all;
  stops = subst (TurnMade b c (get_or ts i d)) is one;
}

-- a turn that moved the run, or had nothing to do
pub went_on : (r : Turned) → (r ≡ Moved) ⊎ (r ≡ Idle) → GoesOn r
went_on r (inl is) = subst GoesOn (sym is) tt
went_on r (inr is) = subst GoesOn (sym is) tt
