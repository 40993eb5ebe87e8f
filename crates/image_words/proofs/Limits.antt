-- A word gives one limit.
use Rattle.std.proofs.Common.{◌≡◌, ◌<◌, ℕ, List, Result, Ok, Err, Some, None, Option, IfSome, ap, arith, sym, ◌∙◌}
use Rattle.std.specs.Result.{OkIff, result_ok}
use Rattle.std.proofs.lemmas.Fmt.{decimal_injective}
use Rattle.image_words.specs.Words.{IsLimit}

pub one_limit : (word : List ℕ) (limit other : ℕ) → IsLimit limit word → IsLimit other word → limit ≡ other
one_limit word limit other one is = decimal_injective limit other (omega (arith, one.high)) (omega (arith, is.high)) (sym one.word_is ∙ is.word_is)

pub if_some : {X : Type 0} (r : Option X) (P Q : X → Type 0) → ((x : X) → P x → Q x) → IfSome r P → IfSome r Q
if_some None P Q more p = tt
if_some (Some x) P Q more p = more x p

pub parsed_ok : {E : Type 0} (r : Result ℕ E) (limit : ℕ) → result_ok r ≡ Some limit → r ≡ Ok limit
parsed_ok (Ok n) limit is = ap Ok (cc)
parsed_ok (Err e) limit is = absurd (cc)

-- a number that fits a narrower type is narrowed, to itself
pub narrowed : {E : Type 0} (r : Result ℕ E) (bound number : ℕ) → OkIff r (number < bound) number → None ≡ result_ok r → number < bound → ⊥
narrowed (Ok m) bound number only failed fits = absurd (cc)
narrowed (Err e) bound number only failed fits = only fits
