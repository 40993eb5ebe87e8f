-- One sector more in a sum.
use Rattle.std.proofs.Common.{◌≡◌, subst, ℕ, Bool, true, List, [], ◌∷◌, ◌++◌, refl, ap, sym, ◌∙◌, arith}
use Rattle.std.specs.Prelude.{⊤}
use Rattle.units.specs.declared.disk.Sector.{Sector}
use Rattle.array_model.specs.AnswerLaw.{xor_bytes}
use Rattle.array_machine.specs.Setting.{Setting}
use Rattle.array_machine.specs.Volumes.{Got}
use Rattle.array_machine.specs.RowJobs.{xor_all}
use Rattle.row_path.specs.declared.job.JobKind.{JobKind}
use Rattle.row_path.specs.declared.job.JobKind.TheVariants.{Read, Write}
use Rattle.row_path.specs.Jobs.{AddsBytes, sum_of, some_got}

xor_more : (S : Setting) (x : Sector) (got : List Got) (g : Got)
    → xor_all S x (got ++ g ∷ []) ≡ S.xor (xor_all S x got) g.sector
xor_more S x [] g = refl
xor_more S x (h ∷ hs) g = xor_more S (S.xor x h.sector) hs g

-- a read has read something
abbrev pub IsNotFirst : JobKind → Bool → Type 0
IsNotFirst Read has_read = has_read ≡ true
IsNotFirst (Write value) has_read = ⊤

some_more : (S : Setting) (kind : JobKind) (got : List Got) (g : Got) → IsNotFirst kind (some_got got)
    → sum_of S kind (got ++ g ∷ []) ≡ S.xor (sum_of S kind got) g.sector
some_more S Read [] g not_first = absurd (grind (arith, not_first))
some_more S Read (h ∷ hs) g not_first = xor_more S h.sector hs g
some_more S (Write value) got g not_first = xor_more S value got g

same_sector : (a b : Sector) → a.0 ≡ b.0 → a ≡ b
same_sector a b is = ap (λ bytes. record { 0 = bytes }) is

pub sum_more : (kind : JobKind) (has_read : Bool) (old x new : Sector) → IsNotFirst kind has_read
    → new.0 ≡ xor_bytes old.0 x.0 → (S : Setting) (got : List Got) (slot : ℕ) → AddsBytes S → some_got got ≡ has_read
    → sum_of S kind got ≡ old → sum_of S kind (got ++ record { slot = slot; sector = x } ∷ []) ≡ new
sum_more kind has_read old x new not_first added S got slot adds is_read is_sum =
    some_more S kind got (record { slot = slot; sector = x }) (subst (IsNotFirst kind) (sym is_read) not_first)
    ∙ ap (λ sum. S.xor sum x) is_sum ∙ same_sector (S.xor old x) new (adds old x ∙ sym added)
