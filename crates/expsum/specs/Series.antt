-- The exponential as a sum: e(x) is the sum of xᵏ/k! for k from 0 to 20, an exact fraction. Assumes nothing.
use Rattle.std.specs.Prelude.{ℕ, zero, suc, ◌*◌}
use Rattle.exact.specs.Fractions.{Fraction, nat, add, mul, div}

-- xᵏ
unfoldable pub power : Fraction → ℕ → Fraction
power x zero = nat 1
power x (suc k) = mul (power x k) x

-- k!
unfoldable pub factorial : ℕ → ℕ
factorial zero = 1
factorial (suc k) = factorial k * suc k

-- xᵏ/k!
unfoldable pub term : Fraction → ℕ → Fraction
term x k = div (power x k) (nat (factorial k))

-- the sum of xᵏ/k! for k from 0 to n
unfoldable pub series : Fraction → ℕ → Fraction
series x zero = term x 0
series x (suc n) = add (series x n) (term x (suc n))

-- e(x)
unfoldable pub e : Fraction → Fraction
e x = series x 20
