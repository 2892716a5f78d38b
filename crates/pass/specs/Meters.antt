-- The meter under test: which records it takes, and the mass that it counts. Assumes nothing.
use Rattle.std.specs.Prelude.{◌≡◌, ℕ, Bool, true, false, cond, ◌&&◌, ℤ, pos, ◌+ℤ◌, ◌≤ℤ◌, Ok, Err, Result, unsigned_abs}
use Rattle.exact.specs.Fractions.{Fraction, whole}
use Rattle.exact.specs.Figures.{number}
use Rattle.exact.specs.Pairs.{Holds, parts}
use Rattle.exact.specs.declared.pair.Pair.{Pair}
use Rattle.pass.specs.Ranges.{countable, lasting, settable}
use Rattle.pass.specs.Gates.{matched, interpolated, mass_of, mass_low, mass_high}
use Rattle.pass.specs.declared.readings.Record.{Record}
use Rattle.pass.specs.declared.denials.Field.{Field}
use Rattle.pass.specs.declared.denials.Field.TheVariants.{Pulses, DetectorTime, PulseTime}
use Rattle.pass.specs.declared.denials.Denial.{Denial}
use Rattle.pass.specs.declared.denials.Denial.TheVariants.{Figure, Meter as MeterDenial}
use Rattle.pass.specs.declared.gate.Gate.{Gate}
use Rattle.pass.specs.declared.masses.CountedMass.{CountedMass}
use Rattle.pass.specs.declared.meter.Meter.{Meter}

-- the meter takes a record exactly if fields 1 to 3 are in range and the two times match
abbrev pub meter_takes : Record → Bool
meter_takes r = countable r.pulses && (lasting r.detector_time && (lasting r.pulse_time && matched r.pulses r.detector_time r.pulse_time))

-- otherwise it names the lowest field out of range, or the pulse time where the two times do not match
abbrev pub meter_fault : Record → Field
meter_fault r = cond (countable r.pulses) (cond (lasting r.detector_time) PulseTime DetectorTime) Pulses

-- the interpolated count of the meter
abbrev pub meter_count : Record → Fraction
meter_count r = interpolated r.pulses r.detector_time r.pulse_time

-- the mass that the meter counts, in milligrams, at its set factor
abbrev pub meter_mass : ℕ → Record → Fraction
meter_mass factor r = mass_of (pos factor) (meter_count r)

-- its pair: rounded down and up once to whole milligrams
abbrev pub meter_low : ℕ → Record → ℕ
meter_low factor r = mass_low factor (unsigned_abs r.pulses) (unsigned_abs r.detector_time) (unsigned_abs r.pulse_time)

abbrev pub meter_high : ℕ → Record → ℕ
meter_high factor r = mass_high factor (unsigned_abs r.pulses) (unsigned_abs r.detector_time) (unsigned_abs r.pulse_time)

-- Opening a meter gives one with exactly this set factor, or the denial of figure 1.
abbrev pub MeterOpened : ℤ → Result Meter Denial → Type 0
MeterOpened factor (Ok m) = (settable factor ≡ true) × (factor ≡ pos m.factor.ten_thousandths)
MeterOpened factor (Err d) = (settable factor ≡ false) × (d ≡ Figure 1)

-- Asked for its gate, its count or its mass, the meter answers where it takes the record, and names the fault otherwise.
abbrev pub Gated : Record → Result Gate Denial → Type 0
Gated r (Ok g) = (meter_takes r ≡ true) × (r.pulses ≡ pos g.pulses) × (r.detector_time ≡ pos g.detector_time) × (r.pulse_time ≡ pos g.pulse_time)
Gated r (Err d) = (meter_takes r ≡ false) × (d ≡ MeterDenial (meter_fault r))

abbrev pub Counted : Record → Result Pair Denial → Type 0
Counted r (Ok p) = (meter_takes r ≡ true) × Holds (parts 10000) p.low p.high (number (meter_count r)) × (p.high ≤ℤ (p.low +ℤ pos 1))
Counted r (Err d) = (meter_takes r ≡ false) × (d ≡ MeterDenial (meter_fault r))

abbrev pub Metered : ℕ → Record → Result CountedMass Denial → Type 0
Metered factor r (Ok m) = (meter_takes r ≡ true) × (m.pair.low ≡ pos (meter_low factor r)) × (m.pair.high ≡ pos (meter_high factor r))
    × Holds whole m.pair.low m.pair.high (number (meter_mass factor r)) × (m.pair.high ≤ℤ (m.pair.low +ℤ pos 1))
Metered factor r (Err d) = (meter_takes r ≡ false) × (d ≡ MeterDenial (meter_fault r))
