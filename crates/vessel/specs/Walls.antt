-- How a steel vessel's volume goes with temperature and pressure. Assumes nothing.
use Rattle.std.specs.Prelude.{ℕ, ℤ}
use Rattle.exact.specs.Fractions.{Fraction, whole, nat, add, sub, mul, div}

-- degrees Celsius above 20 °C, of a temperature in 0.01 °C
unfoldable pub above_20 : ℤ → Fraction
above_20 temperature = sub (div (whole temperature) (nat 100)) (nat 20)

-- a coefficient in 10⁻⁸ per °C
unfoldable pub per_degree : ℕ → Fraction
per_degree coefficient = div (nat coefficient) (nat 100000000)

-- CTS of a pipe: 1 + 3α(t − 20 °C), α the linear coefficient of its wall
unfoldable pub pipe_cts : ℕ → ℤ → Fraction
pipe_cts α wall = add (nat 1) (mul (mul (nat 3) (per_degree α)) (above_20 wall))

-- CTS of a compact prover: (1 + α_k(t − 20 °C))·(1 + α_d(t_d − 20 °C)), α_k the area coefficient of its tube, α_d the linear one of its rod
unfoldable pub compact_cts : ℕ → ℕ → ℤ → ℤ → Fraction
compact_cts αk αd wall rod = mul (add (nat 1) (mul (per_degree αk) (above_20 wall))) (add (nat 1) (mul (per_degree αd) (above_20 rod)))

-- CPS: 1 + 0.95·P·D/(E·s), with P in kPa and E in MPa; bore D and wall s are in one unit
unfoldable pub cps : ℕ → ℕ → ℕ → ℤ → Fraction
cps bore wall modulus pressure =
    add (nat 1) (div (mul (mul (div (nat 95) (nat 100)) (div (whole pressure) (nat 1000))) (nat bore)) (mul (nat modulus) (nat wall)))

-- the volume in microlitres, from the certified one in millilitres
unfoldable pub volume_of : ℕ → Fraction → Fraction → Fraction
volume_of certified cts cps = mul (mul (mul (nat 1000) (nat certified)) cts) cps
