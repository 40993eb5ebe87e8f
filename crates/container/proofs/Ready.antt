-- Whether a container is opened, by a test.
use Rattle.std.proofs.Common.{◌≡◌, ◌==◌, ◌&&◌, ◌||◌, ℕ, suc, ap, Bool, true, false, List, [], ◌∷◌, length, inl, inr, refl, sym, ◌∙◌, arith}
use Rattle.std.proofs.lemmas.Bool.Decides.{nat_tests}
use Rattle.container.specs.declared.missing.Missing.{Missing}
use Rattle.container.specs.declared.volume.VolumeVerdict.{VolumeVerdict}
use Rattle.container.specs.Steps.{is_ready}
use Rattle.container.specs.Verdicts.{IsReady}
use Rattle.container.specs.Volumes.{is_any_started}

both : (a b : Bool) → (a && b) ≡ true → (a ≡ true) × (b ≡ true)
both true true is = (refl, refl)
both true false is = absurd (cc is)
both false b is = absurd (cc is)

-- some list isn't empty
some_there : (n : ℕ) (b c : Bool) → (suc n == 0 || b) ≡ c → b ≡ c
some_there n b c is = let one : (suc n == 0) ≡ false = grind (arith, nat_tests) in sym (ap (λ (t : Bool). t || b) one) ∙ is

pub ready_by : (run : Bool) (missing : List Missing) (list : List VolumeVerdict) → is_ready run missing list ≡ true → IsReady run missing list
ready_by run [] list is = inl refl
ready_by run (m ∷ ms) list is = inr (both run (is_any_started list) (some_there (length ms) _ _ is))
