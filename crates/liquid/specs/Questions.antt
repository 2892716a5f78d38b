-- What a liquid is asked: the densitometer's conditions and the vessel's. Assumes nothing.
use Rattle.std.specs.Prelude.{◌≡◌, Bool, true, false, cond, ◌&&◌, ℤ, Ok, Err, Result, unsigned_abs}
use Rattle.exact.specs.Fractions.{Fraction}
use Rattle.exact.specs.Pairs.{parts}
use Rattle.pass.specs.Ranges.{temperate, pressed, raised}
use Rattle.pass.specs.declared.denials.Field.{Field}
use Rattle.pass.specs.declared.denials.Field.TheVariants.{WallTemperature, VesselPressure, DensitometerTemperature, DensitometerPressure}
use Rattle.liquid.specs.declared.question.Question.{Question}
use Rattle.liquid.specs.declared.conditions.Conditions.{Conditions}

-- every liquid takes a question exactly if the four fields are in range
abbrev pub takes : Question → Bool
takes q = temperate q.wall_temperature && (pressed q.vessel_pressure && (temperate q.densitometer_temperature && pressed q.densitometer_pressure))

-- and otherwise names the lowest field of the record that is out of range
abbrev pub fault : Question → Field
fault q = cond (temperate q.wall_temperature) (cond (pressed q.vessel_pressure) (cond (temperate q.densitometer_temperature) DensitometerPressure DensitometerTemperature) VesselPressure) WallTemperature

-- a temperature in °C, from hundredths
abbrev pub degrees : ℤ → Fraction
degrees t = parts 100 t

-- a pressure in MPa, from kPa
abbrev pub megapascals : ℤ → Fraction
megapascals p = parts 1000 p

-- The conditions of a question that is taken, as natural numbers.
abbrev pub Read : Question → Result Conditions Field → Type 0
Read q (Ok c) =
    (takes q ≡ true) × (c.wall_temperature.raised ≡ raised q.wall_temperature) × (c.vessel_pressure.kilopascals ≡ unsigned_abs q.vessel_pressure)
    × (c.densitometer_temperature.raised ≡ raised q.densitometer_temperature) × (c.densitometer_pressure.kilopascals ≡ unsigned_abs q.densitometer_pressure)
Read q (Err f) = (takes q ≡ false) × (f ≡ fault q)
