-- The master meter: which records it takes, and the mass that it gives. Assumes nothing.
use Rattle.std.specs.Prelude.{◌≡◌, ℕ, Bool, true, false, cond, ◌&&◌, ℤ, pos, Ok, Err, Result, unsigned_abs}
use Rattle.exact.specs.Fractions.{Fraction}
use Rattle.exact.specs.Ends.{Ends}
use Rattle.pass.specs.Ranges.{countable, lasting, settable}
use Rattle.pass.specs.Gates.{matched, interpolated, mass_of, mass_low, mass_high}
use Rattle.pass.specs.Values.{weighable}
use Rattle.pass.specs.declared.readings.Record.{Record}
use Rattle.pass.specs.declared.denials.Field.{Field}
use Rattle.pass.specs.declared.denials.Field.TheVariants.{Together, DetectorTime, MasterPulses, MasterTime}
use Rattle.pass.specs.declared.denials.Device.TheVariants.{Master, Mass}
use Rattle.pass.specs.declared.denials.Fault.{Fault}
use Rattle.pass.specs.declared.denials.Denial.{Denial}
use Rattle.pass.specs.declared.denials.Denial.TheVariants.{Figure}
use Rattle.pass.specs.declared.gate.Gate.{Gate}
use Rattle.pass.specs.declared.passes.Passes.{Passes}
use Rattle.reference.specs.References.{faulted}
use Rattle.reference.specs.declared.master.MasterMeter.{MasterMeter}

-- the exact mass in milligrams: 10¹³·N_m·Td/(T_m·K_m)
abbrev pub master_mass : ℕ → Record → Fraction
master_mass factor r = mass_of (pos factor) (interpolated r.master_pulses r.detector_time r.master_time)

-- its pair: rounded down and up once to whole milligrams
abbrev pub master_low : ℕ → Record → ℕ
master_low factor r = mass_low factor (unsigned_abs r.master_pulses) (unsigned_abs r.detector_time) (unsigned_abs r.master_time)

abbrev pub master_high : ℕ → Record → ℕ
master_high factor r = mass_high factor (unsigned_abs r.master_pulses) (unsigned_abs r.detector_time) (unsigned_abs r.master_time)

abbrev pub master_answer : MasterMeter → Record → Ends
master_answer m r = record { low = pos (master_low m.factor.ten_thousandths r); high = pos (master_high m.factor.ten_thousandths r) }

-- fields 2, 10 and 11 are in range, and the two times match
abbrev pub master_counts : Record → Bool
master_counts r = lasting r.detector_time && (countable r.master_pulses && (lasting r.master_time && matched r.master_pulses r.detector_time r.master_time))

-- the master meter takes a record exactly if it counts, and the pair lies in a reference's range
abbrev pub master_takes : ℕ → Record → Bool
master_takes factor r = master_counts r && weighable (pos (master_low factor r)) (pos (master_high factor r))

-- otherwise it names the lowest field out of range, field 11 where the two times do not match, and then the mass
abbrev pub master_field : Record → Field
master_field r = cond (lasting r.detector_time) (cond (countable r.master_pulses) MasterTime MasterPulses) DetectorTime

abbrev pub master_fault : Record → Fault
master_fault r = cond (master_counts r) (faulted Mass Together) (faulted Master (master_field r))

-- Opening gives a master meter with exactly this factor, or the denial of figure 1.
abbrev pub MasterOpened : ℤ → Result MasterMeter Denial → Type 0
MasterOpened factor (Ok m) = (settable factor ≡ true) × (factor ≡ pos m.factor.ten_thousandths)
MasterOpened factor (Err d) = (settable factor ≡ false) × (d ≡ Figure 1)

abbrev pub Gated : Record → Result Gate Fault → Type 0
Gated r (Ok g) = (master_counts r ≡ true) × (r.master_pulses ≡ pos g.pulses) × (r.detector_time ≡ pos g.detector_time) × (r.master_time ≡ pos g.pulse_time)
Gated r (Err f) = (master_counts r ≡ false) × (f ≡ faulted Master (master_field r))

-- it uses fields 2, 10 and 11
abbrev pub MasterAlike : Record → Record → Type 0
MasterAlike p q = (p.detector_time ≡ q.detector_time) × (p.master_pulses ≡ q.master_pulses) × (p.master_time ≡ q.master_time)

abbrev pub master_passes : Passes
master_passes = record { working = 5; check = 7 }
