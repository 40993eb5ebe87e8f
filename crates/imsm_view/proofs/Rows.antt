-- The rows of a volume, and the tests of its geometry.
use Rattle.std.proofs.Common.{◌≡◌, ℕ, ◌+◌, ◌-◌, ◌*◌, ◌/◌, ◌%◌, ◌<◌, ◌≤◌, sym, subst, min, arith}
use Rattle.std.proofs.Math.Nat.{div-eq_of_lt-le, mul-le-mul, mul-le-mul_right, mul_comm}
use Rattle.std.proofs.lemmas.Grind.{div_ceil_times}
use Rattle.units.specs.Levels.{rounded_up}

-- the quotient, rounded up, is the one of the definition
pub ceil_is : (a b q : ℕ) → 0 < b → q ≡ a / b + min 1 (a % b) → q ≡ rounded_up a b
ceil_is a b q pos is =
    let t = div_ceil_times a b pos in
    let low : a ≤ q * b = subst (λ (x : ℕ). a ≤ x * b) (sym is) t.0 in
    let high : q * b < a + b = subst (λ (x : ℕ). x * b < a + b) (sym is) t.1 in
    sym (div-eq_of_lt-le {k = q} b {m = a + (b - 1)} (omega arith) (omega arith))

-- the rows of whole stripes are below the size and one stripe
pub rows_bound : (d s n q : ℕ) → 1 ≤ d → 0 < d * s → q ≡ n / (d * s) + min 1 (n % (d * s)) → s * q < n + d * s
rows_bound d s n q some pos is =
    let high : q * (d * s) < n + d * s = subst (λ (x : ℕ). x * (d * s) < n + d * s) (sym is) (div_ceil_times n (d * s) pos).1 in
    let one : 1 * s ≤ d * s = mul-le-mul_right s some in
    let wide : s * q ≤ d * s * q = mul-le-mul {n₁ = s} {m₁ = q} {n₂ = d * s} {m₂ = q} (omega arith) (omega arith) in
    let turned : d * s * q ≡ q * (d * s) = mul_comm (d * s) q in
    omega arith

pub stripe_some : (d s : ℕ) → 1 ≤ d → 1 ≤ s → 0 < d * s
stripe_some d s some pos = let product : 1 * 1 ≤ d * s = mul-le-mul {n₁ = 1} {m₁ = 1} {n₂ = d} {m₂ = s} some pos in omega arith
