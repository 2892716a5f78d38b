-- The exponential liquid: c(t_v, P_v)/c(t_p, P_p), where c(t, P) = e(−bΔ(1 + 0.8bΔ))/(1 − gP). Assumes nothing.
use Rattle.std.specs.Prelude.{◌≡◌, ℕ, ◌+◌, ◌*◌, ◌<◌, Bool, cond, ◌&&◌, ℤ, pos, negsuc, neg_ℤ, Ok, Err, Result, nat_le}
use Rattle.exact.specs.Fractions.{Fraction, Le, nat, add, neg, sub, mul, div}
use Rattle.exact.specs.Pairs.{parts}
use Rattle.expsum.specs.Series.{e}
use Rattle.pass.specs.Ranges.{between}
use Rattle.pass.specs.declared.ranges.Density.{Density}
use Rattle.pass.specs.declared.denials.Denial.{Denial}
use Rattle.pass.specs.declared.denials.Denial.TheVariants.{Figure}
use Rattle.liquid.specs.Questions.{degrees, megapascals}
use Rattle.liquid.specs.declared.question.Question.{Question}
use Rattle.petroleum.specs.declared.coefficients.Coefficients.{Coefficients}
use Rattle.petroleum.specs.declared.exponential.Exponential.{Exponential}

-- the figures of the liquid: the density at 15 °C in 0.01 kg/m³, K0 and K1 in 10⁻⁴, K2 in 10⁻⁸
pub record Figures : Type 0 where
  pub density : ℤ
  pub k0 : ℤ
  pub k1 : ℤ
  pub k2 : ℤ

-- r, in kg/m³
abbrev pub density_at_15 : Figures → Fraction
density_at_15 f = parts 100 f.density

-- r²
abbrev pub density_squared : Figures → Fraction
density_squared f = mul (density_at_15 f) (density_at_15 f)

-- b = K0/r² + K1/r + K2, the thermal expansion at 15 °C, per °C
unfoldable pub expansion_at_15 : Figures → Fraction
expansion_at_15 f =
    add (add (div (parts 10000 f.k0) (density_squared f)) (div (parts 10000 f.k1) (density_at_15 f)))
    (parts 100000000 f.k2)

-- bΔ, where Δ is the temperature above 15 °C
unfoldable pub expanded : Figures → ℤ → Fraction
expanded f t = mul (expansion_at_15 f) (sub (degrees t) (nat 15))

-- e(−bΔ(1 + 0.8bΔ))
unfoldable pub thermal : Figures → ℤ → Fraction
thermal f t = e (neg (mul (expanded f t) (add (nat 1) (mul (parts 10 (pos 8)) (expanded f t)))))

-- −1.62080 + 0.00021592·t + 870,960/r² + 4,209.2·t/r²
unfoldable pub compression_exponent : Figures → ℤ → Fraction
compression_exponent f t =
    add (add (add (neg (parts 100000 (pos 162080))) (mul (parts 100000000 (pos 21592)) (degrees t))) (div (nat 870960) (density_squared f)))
    (div (mul (parts 10 (pos 42092)) (degrees t)) (density_squared f))

-- g = 0.001·e(that), the compressibility, per MPa
unfoldable pub compressibility : Figures → ℤ → Fraction
compressibility f t = mul (parts 1000 (pos 1)) (e (compression_exponent f t))

-- 1 − gP
unfoldable pub elastic : Figures → ℤ → ℤ → Fraction
elastic f t p = sub (nat 1) (mul (compressibility f t) (megapascals p))

-- c(t, P): the density at t and P as part of that at 15 °C without pressure
unfoldable pub density_ratio : Figures → ℤ → ℤ → Fraction
density_ratio f t p = div (thermal f t) (elastic f t p)

-- the carry factor
unfoldable pub exponential_factor : Figures → Question → Fraction
exponential_factor f q =
    div (density_ratio f q.wall_temperature q.vessel_pressure) (density_ratio f q.densitometer_temperature q.densitometer_pressure)

-- a ≤ b, as a test
abbrev pub no_more : Fraction → Fraction → Bool
no_more a b = nat_le (a.plus * b.bottom + b.minus * a.bottom) (b.plus * a.bottom + a.minus * b.bottom)

-- b is 0.0001 to 0.002
abbrev pub expansive : Figures → Bool
expansive f = no_more (parts 10000 (pos 1)) (expansion_at_15 f) && no_more (expansion_at_15 f) (parts 1000 (pos 2))

-- The place of the first figure out of range; 0 if all are in range: r 600 to 1,200 kg/m³, K0 0 to 3,000, K1 0 to 1,
-- K2 −0.0034 to 0, and then b.
abbrev pub exponential_place : Figures → ℕ
exponential_place f =
    cond (between (pos 60000) (pos 120000) f.density)
    (cond (between (pos 0) (pos 30000000) f.k0) (cond (between (pos 0) (pos 10000) f.k1) (cond (between (negsuc 339999) (pos 0) f.k2) (cond (expansive f) 0 5) 4) 3) 2) 1

-- the figures of a density and coefficients, and of an open liquid
abbrev pub figures_of : Density → Coefficients → Figures
figures_of r c = record { density = pos r.hundredths; k0 = pos c.k0; k1 = pos c.k1; k2 = neg_ℤ (pos c.minus_k2) }

abbrev pub figures : Exponential → Figures
figures l = figures_of l.density l.coefficients

-- Opening gives a liquid with exactly these figures, or the place of the first out of range.
abbrev pub ExponentialOpened : Figures → Result Exponential Denial → Type 0
ExponentialOpened f (Ok l) = (exponential_place f ≡ 0) × (f.density ≡ pos l.density.hundredths) × (f.k0 ≡ pos l.coefficients.k0) × (f.k1 ≡ pos l.coefficients.k1) × (f.k2 ≡ neg_ℤ (pos l.coefficients.minus_k2))
ExponentialOpened f (Err d) = (0 < exponential_place f) × (d ≡ Figure (exponential_place f))

-- The worked figures, of a gasoline of 715.40 kg/m³ without pressure: at 25 °C its density is between 0.98704 and 0.98705 of
-- that at 15 °C, and at 22 °C between 708.92 and 708.93 kg/m³.
abbrev pub gasoline : Figures
gasoline = record { density = pos 71540; k0 = pos 3464228; k1 = pos 4388; k2 = pos 0 }

abbrev pub ExponentialExample : Type 0
ExponentialExample =
    Le (parts 100000 (pos 98704)) (density_ratio gasoline (pos 2500) (pos 0)) × Le (density_ratio gasoline (pos 2500) (pos 0)) (parts 100000 (pos 98705))
    × Le (parts 100 (pos 70892)) (mul (density_at_15 gasoline) (density_ratio gasoline (pos 2200) (pos 0))) × Le (mul (density_at_15 gasoline) (density_ratio gasoline (pos 2200) (pos 0))) (parts 100 (pos 70893))
