-- The exponential liquid's pair as it is worked out, in whole units of 10⁻¹². Temperatures are in 0.01 °C above −10 °C,
-- so that 15 °C is 2,500; n is a temperature and p a pressure in kPa. Assumes nothing.
use Rattle.std.specs.Prelude.{ℕ, ◌+◌, ◌-◌, ◌*◌, ◌/◌, cond, pos, nat_le, unsigned_abs}
use Rattle.expsum.specs.Terms.{terms}
use Rattle.pass.specs.Ranges.{raised}
use Rattle.exact.specs.Ends.{Ends}
use Rattle.liquid.specs.declared.question.Question.{Question}
use Rattle.petroleum.specs.declared.exponential.Exponential.{Exponential}

-- e(a) and e(−a), for an argument of this size
unfoldable pub rising : ℕ → ℕ
rising size = (terms size 9).even + (terms size 9).odd

unfoldable pub falling : ℕ → ℕ
falling size = (terms size 9).even - (terms size 9).odd

-- b times 10⁸r², where r is in 0.01 kg/m³
unfoldable pub slope : Exponential → ℕ
slope l = (100000000 * l.coefficients.k0 + 1000000 * l.coefficients.k1 * l.density.hundredths) - l.coefficients.minus_k2 * (l.density.hundredths * l.density.hundredths)

-- the distance from 15 °C
abbrev pub away : ℕ → ℕ
away n = (n - 2500) + (2500 - n)

-- the size of bΔ, and of 0.8(bΔ)²
unfoldable pub straight : Exponential → ℕ → ℕ
straight l n = (100 * slope l * away n) / (l.density.hundredths * l.density.hundredths)

unfoldable pub bent : ℕ → ℕ
bent y = (4 * y * y) / 5000000000000

-- e(−bΔ(1 + 0.8bΔ)): the argument is negative above 15 °C
unfoldable pub thermal_units : Exponential → ℕ → ℕ
thermal_units l n = cond (nat_le 2500 n) (falling (straight l n + bent (straight l n))) (rising (straight l n - bent (straight l n)))

-- The part of the compression's exponent that is over r², and the part that is not. Their constants are the formula's, moved by
-- the 1,000 hundredths that temperatures are raised by: 8,709,600,000 − 420,920·1,000, and 16,208,000,000 + 21,592·1,000.
unfoldable pub over_density_lem : Exponential → ℕ → ℕ
over_density_lem l n = (1000000000000 * (8288680000 + 420920 * n)) / (l.density.hundredths * l.density.hundredths)

unfoldable pub beside_density_lem : ℕ → ℕ
beside_density_lem n = 100 * (16229592000 - 21592 * n)

-- 1,000·g, the exponential of their difference
unfoldable pub compressibility_units : Exponential → ℕ → ℕ
compressibility_units l n =
    cond (nat_le (beside_density_lem n) (over_density_lem l n)) (rising (over_density_lem l n - beside_density_lem n)) (falling (beside_density_lem n - over_density_lem l n))

-- 1 − gP, with 10⁶·gP the exponential of their difference, times p
unfoldable pub elastic_rising : ℕ → ℕ → ℕ
elastic_rising size p = (1000000000000000000 - rising size * p) / 1000000

unfoldable pub elastic_falling : ℕ → ℕ → ℕ
elastic_falling size p = (1000000000000000000 + (terms size 9).odd * p - (terms size 9).even * p) / 1000000

unfoldable pub elastic_units : Exponential → ℕ → ℕ → ℕ
elastic_units l n p =
    cond (nat_le (beside_density_lem n) (over_density_lem l n)) (elastic_rising (over_density_lem l n - beside_density_lem n) p)
    (elastic_falling (beside_density_lem n - over_density_lem l n) p)

-- the carry factor in steps, rounded down
unfoldable pub carried : Exponential → ℕ → ℕ → ℕ → ℕ → ℕ
carried l tp pp tv pv =
    (100000000 * thermal_units l tv * elastic_units l tp pp) / (thermal_units l tp * elastic_units l tv pv)

abbrev pub exponential_steps : Exponential → Question → ℕ
exponential_steps l q = carried l (raised q.densitometer_temperature) (unsigned_abs q.densitometer_pressure) (raised q.wall_temperature) (unsigned_abs q.vessel_pressure)

-- the pair: one step below it, and two above
abbrev pub exponential_answer : Exponential → Question → Ends
exponential_answer l q = record { low = pos (exponential_steps l q - 1); high = pos (exponential_steps l q + 2) }
