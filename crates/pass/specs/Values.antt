-- The kinds of value of a meter, and when a pass is accepted. Assumes nothing.
use Rattle.std.specs.Prelude.{◌≡◌, ℕ, ◌+◌, ◌*◌, ◌/◌, Bool, true, false, ◌&&◌, ℤ, pos, ◌+ℤ◌, ◌≤ℤ◌, Ok, Err, Result, int_le, nat_le, unsigned_abs}
use Rattle.exact.specs.Fractions.{Fraction, whole}
use Rattle.exact.specs.Figures.{number}
use Rattle.exact.specs.Pairs.{Holds, steps, floor, ceiling}
use Rattle.exact.specs.declared.pair.Pair.{Pair}
use Rattle.pass.specs.Kinds.{Kind, value}
use Rattle.pass.specs.declared.denials.Denial.{Denial}
use Rattle.pass.specs.declared.denials.Denial.TheVariants.{Value}
use Rattle.pass.specs.declared.masses.CountedMass.{CountedMass}
use Rattle.pass.specs.declared.masses.ReferenceMass.{ReferenceMass}
use Rattle.pass.specs.declared.masses.Masses.{Masses}

-- What a reference may give: a mass in 10,000,000 to 30,000,000,000 mg, whose ends differ by at most a 500,000th of the lower one (whole part) and 6 mg.
abbrev pub weighable : ℤ → ℤ → Bool
weighable low high = int_le (pos 10000000) low && int_le high (pos 30000000000)

abbrev pub fine : ℤ → ℤ → Bool
fine low high = nat_le (unsigned_abs high) (unsigned_abs low + (unsigned_abs low / 500000 + 6))

-- The pair of the meter factor M0/M, in steps: the lower end from the reference's lower over the meter's upper, the upper end the other way.
abbrev pub factor_low : Pair → Pair → ℕ
factor_low meter reference = floor (100000000 * unsigned_abs reference.low) (unsigned_abs meter.high)

abbrev pub factor_high : Pair → Pair → ℕ
factor_high meter reference = ceiling (100000000 * unsigned_abs reference.high) (unsigned_abs meter.low)

-- a pair of a meter factor that lies wholly in 90,000,000 to 110,000,000 steps
abbrev pub near_one_lem : ℤ → ℤ → Bool
near_one_lem low high = int_le (pos 90000000) low && int_le high (pos 110000000)

-- a pass is accepted if its meter factor's pair is such a one, whatever kind of value is wanted
abbrev pub acceptable : Pair → Pair → Bool
acceptable meter reference = near_one_lem (pos (factor_low meter reference)) (pos (factor_high meter reference))

abbrev pub Accepted : CountedMass → ReferenceMass → Result Masses Denial → Type 0
Accepted meter reference (Ok m) = (acceptable meter.pair reference.pair ≡ true) × (m.meter ≡ meter) × (m.reference ≡ reference)
Accepted meter reference (Err d) = (acceptable meter.pair reference.pair ≡ false) × (d ≡ Value)

-- a pair of steps holds the value of a kind, whichever masses the two pairs hold, and its ends are at most 300 steps apart
pub record Valued (kind : Kind) (masses : Masses) (p : Pair) : Type 0 where
  pub holds : (m m0 : Fraction) → Holds whole masses.meter.pair.low masses.meter.pair.high (number m)
      → Holds whole masses.reference.pair.low masses.reference.pair.high (number m0) → Holds steps p.low p.high (number (value kind m m0))
  pub narrow : p.high ≤ℤ (p.low +ℤ pos 300)
