-- The mass of a pass by a prover: the vessel's volume, the density at the densitometer, and the liquid's carry factor. Assumes nothing.
use Rattle.std.specs.Prelude.{◌≡◌, ◌*◌, Bool, true, false, cond, ◌&&◌, ℤ, pos, Ok, Err, Result, unsigned_abs}
use Rattle.exact.specs.Fractions.{Fraction, whole, nat, mul, div}
use Rattle.exact.specs.Pairs.{floor, ceiling}
use Rattle.exact.specs.Ends.{Ends, Has}
use Rattle.exact.specs.declared.pair.Pair.{Pair}
use Rattle.pass.specs.Ranges.{temperate, pressed, dense}
use Rattle.pass.specs.Values.{weighable}
use Rattle.pass.specs.declared.readings.Record.{Record}
use Rattle.pass.specs.declared.ranges.Density.{Density}
use Rattle.pass.specs.declared.denials.Field.{Field}
use Rattle.pass.specs.declared.denials.Field.TheVariants.{Together, DensitometerTemperature, DensitometerPressure, Density as DensityField}
use Rattle.pass.specs.declared.denials.Device.TheVariants.{Vessel, Densitometer, Liquid, Mass}
use Rattle.pass.specs.declared.denials.Fault.{Fault}
use Rattle.liquid.specs.Asking.{question_of}
use Rattle.liquid.specs.Questions.{takes as liquid_takes, fault as liquid_fault}
use Rattle.reference.specs.References.{faulted}

-- volume × ρ × carry factor, in milligrams: the volume in µl and ρ in 0.01 kg/m³ make 10⁻⁵ mg
unfoldable pub mass_of : Fraction → ℤ → Fraction → Fraction
mass_of volume density factor = div (mul (mul volume (whole density)) factor) (nat 100000)

-- its pair, from the pairs of volume and factor (in steps): one product and one rounding at each end
abbrev pub mass_ends : Ends → ℤ → Ends → Ends
mass_ends v density c = record {
  low = pos (floor (unsigned_abs v.low * unsigned_abs density * unsigned_abs c.low) 10000000000000);
  high = pos (ceiling (unsigned_abs v.high * unsigned_abs density * unsigned_abs c.high) 10000000000000);
}

-- fields 7 to 9 are in range
abbrev pub measured : Record → Bool
measured r = temperate r.densitometer_temperature && (pressed r.densitometer_pressure && dense r.density)

abbrev pub unmeasured : Record → Field
unmeasured r = cond (temperate r.densitometer_temperature) (cond (pressed r.densitometer_pressure) DensityField DensitometerPressure) DensitometerTemperature

-- the prover takes a record exactly if the vessel takes it, fields 7 to 9 are in range, the liquid takes the question and the pair lies in its range
abbrev pub prover_takes : Bool → Record → Ends → Bool
prover_takes vessel r e = vessel && (measured r && (liquid_takes (question_of r) && weighable e.low e.high))

-- otherwise the first of these is at fault, in this order
abbrev pub prover_fault : Bool → Field → Record → Fault
prover_fault vessel field r =
    cond vessel (cond (measured r) (cond (liquid_takes (question_of r)) (faulted Mass Together) (faulted Liquid (liquid_fault (question_of r)))) (faulted Densitometer (unmeasured r))) (faulted Vessel field)

-- Each device in turn: what it gives, or its fault under its name.
abbrev pub VolumeGiven : Bool → Ends → Field → Result Pair Fault → Type 0
VolumeGiven takes e field (Ok p) = (takes ≡ true) × Has p e
VolumeGiven takes e field (Err f) = (takes ≡ false) × (f ≡ faulted Vessel field)

abbrev pub DensityGiven : Record → Result Density Fault → Type 0
DensityGiven r (Ok d) = (measured r ≡ true) × (r.density ≡ pos d.hundredths)
DensityGiven r (Err f) = (measured r ≡ false) × (f ≡ faulted Densitometer (unmeasured r))

abbrev pub CarryGiven : Record → Ends → Result Pair Fault → Type 0
CarryGiven r e (Ok p) = (liquid_takes (question_of r) ≡ true) × Has p e
CarryGiven r e (Err f) = (liquid_takes (question_of r) ≡ false) × (f ≡ faulted Liquid (liquid_fault (question_of r)))
