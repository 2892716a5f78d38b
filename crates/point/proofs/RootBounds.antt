-- Roots of quotients in whole numbers: a bound of the quotient rounded up is one of the quotient.
use Rattle.std.proofs.Common.{ℕ, ◌+◌, ◌*◌, ◌<◌, ◌≤◌, mul-le-mul_right, arith}
use Rattle.std.specs.Int.{div_ceil}
use Rattle.std.proofs.lemmas.Grind.{div_ceil_times}

pub times_ceil : (top bottom q : ℕ) → 0 < bottom → div_ceil top bottom ≤ q → top ≤ q * bottom
times_ceil top bottom q o h = omega (arith, (div_ceil_times top bottom o).0, mul-le-mul_right bottom h)

pub ceil_times : (top bottom q : ℕ) → 0 < bottom → q < div_ceil top bottom → q * bottom < top
ceil_times top bottom q o h = let k : (q + 1) * bottom ≤ div_ceil top bottom * bottom = mul-le-mul_right bottom (omega arith) in omega (arith, (div_ceil_times top bottom o).1)
