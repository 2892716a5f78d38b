-- Counting in the gate: pulses between two detector trips, as a meter and a master meter count them. Assumes nothing.
-- The gate runs from trip to trip (the detector time); the counted pulses run from the first after one trip to the first after
-- the other (the pulse time). Scaling by the two times gives the count, parts of a pulse included.
use Rattle.std.specs.Prelude.{ℕ, ◌*◌, Bool, ℤ, pos, ◌-ℤ◌, ◌*ℤ◌, int_le, unsigned_abs}
use Rattle.exact.specs.Fractions.{Fraction, whole, nat, mul, div}
use Rattle.exact.specs.Pairs.{floor, ceiling}

-- the two times differ by at most the mean time of a pulse: |Td − Tp|·N ≤ Tp
abbrev pub matched : ℤ → ℤ → ℤ → Bool
matched pulses detector pulse = int_le (pos (unsigned_abs (detector -ℤ pulse)) *ℤ pulses) pulse

-- the interpolated count N·Td/Tp
unfoldable pub interpolated : ℤ → ℤ → ℤ → Fraction
interpolated pulses detector pulse = div (mul (whole pulses) (whole detector)) (whole pulse)

-- the mass of a count, in milligrams; the factor is in ten-thousandths of a pulse per tonne
unfoldable pub mass_of : ℤ → Fraction → Fraction
mass_of factor count = div (mul (nat 10000000000000) count) (whole factor)

-- that mass rounded down and up to whole milligrams, in naturals: 10¹³·N·Td/(Tp·K)
abbrev pub mass_low : ℕ → ℕ → ℕ → ℕ → ℕ
mass_low factor pulses detector pulse = floor (10000000000000 * (pulses * detector)) (pulse * factor)

abbrev pub mass_high : ℕ → ℕ → ℕ → ℕ → ℕ
mass_high factor pulses detector pulse = ceiling (10000000000000 * (pulses * detector)) (pulse * factor)
