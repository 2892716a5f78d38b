-- The linear liquid: 1 + β(t_p − t_v) + γ(P_v − P_p). Assumes nothing.
use Rattle.std.specs.Prelude.{◌≡◌, ℕ, ◌+◌, ◌-◌, ◌*◌, ◌<◌, cond, ℤ, pos, Ok, Err, Result, unsigned_abs}
use Rattle.exact.specs.Fractions.{Fraction, Same, nat, add, sub, mul}
use Rattle.exact.specs.Pairs.{parts, floor, ceiling}
use Rattle.pass.specs.Ranges.{between, raised}
use Rattle.pass.specs.declared.denials.Denial.{Denial}
use Rattle.pass.specs.declared.denials.Denial.TheVariants.{Figure}
use Rattle.liquid.specs.Questions.{degrees, megapascals}
use Rattle.exact.specs.Ends.{Ends}
use Rattle.liquid.specs.declared.question.Question.{Question}
use Rattle.liquid.specs.declared.linear.Linear.{Linear}

-- The exact factor: a liquid that is warmer at the densitometer is denser in the vessel.
-- β is in 10⁻⁶ per °C and γ in 10⁻⁶ per MPa.
unfoldable pub linear_factor : ℤ → ℤ → Question → Fraction
linear_factor β γ q =
    add (add (nat 1) (mul (parts 1000000 β) (sub (degrees q.densitometer_temperature) (degrees q.wall_temperature))))
    (mul (parts 1000000 γ) (sub (megapascals q.vessel_pressure) (megapascals q.densitometer_pressure)))

-- the place of the first figure out of range, β 0 to 2,000 and γ 0 to 5,000; 0 if both are in range
abbrev pub linear_place : ℤ → ℤ → ℕ
linear_place β γ = cond (between (pos 0) (pos 2000) β) (cond (between (pos 0) (pos 5000) γ) 0 2) 1

-- Opening gives a liquid with exactly these figures, or the place of the first out of range.
abbrev pub LinearOpened : ℤ → ℤ → Result Linear Denial → Type 0
LinearOpened β γ (Ok l) = (linear_place β γ ≡ 0) × (β ≡ pos l.expansion) × (γ ≡ pos l.compressibility)
LinearOpened β γ (Err d) = (0 < linear_place β γ) × (d ≡ Figure (linear_place β γ))

-- the factor in tenths of a step, a whole number
abbrev pub tenths : ℕ → ℕ → ℕ → ℕ → ℕ → ℕ → ℕ
tenths β γ tp pp tv pv = (1000000000 + (10 * β * tp + γ * pv)) - (10 * β * tv + γ * pp)

-- the pair: the tenths, rounded to steps outward
abbrev pub linear_tenths : Linear → Question → ℕ
linear_tenths l q = tenths l.expansion l.compressibility (raised q.densitometer_temperature) (unsigned_abs q.densitometer_pressure) (raised q.wall_temperature) (unsigned_abs q.vessel_pressure)

abbrev pub linear_answer : Linear → Question → Ends
linear_answer l q = record { low = pos (floor (linear_tenths l q) 10); high = pos (ceiling (linear_tenths l q) 10) }

-- The worked figure: β 800, γ 700, t_p 21 °C, t_v 20 °C, P_v 1.5 MPa and P_p 1 MPa give 1.00115.
abbrev pub LinearExample : Type 0
LinearExample =
    Same (linear_factor (pos 800) (pos 700) (record { wall_temperature = pos 2000; vessel_pressure = pos 1500; densitometer_temperature = pos 2100; densitometer_pressure = pos 1000 })) (parts 100000 (pos 100115))
