-- The numbers of denials, and what each carries. Assumes nothing.
use Rattle.std.specs.Prelude.{◌≡◌, ℕ}
use Rattle.pass.specs.declared.denials.Field.{Field}
use Rattle.pass.specs.declared.denials.Field.TheVariants.{Together, Pulses, DetectorTime, PulseTime, WallTemperature, VesselPressure, RodTemperature, DensitometerTemperature, DensitometerPressure, Density, MasterPulses, MasterTime}
use Rattle.pass.specs.declared.denials.Device.{Device}
use Rattle.pass.specs.declared.denials.Device.TheVariants.{Vessel, Densitometer, Master, Liquid, Mass}
use Rattle.pass.specs.declared.denials.Fault.{Fault}
use Rattle.pass.specs.declared.denials.Denial.{Denial}
use Rattle.pass.specs.declared.denials.Denial.TheVariants.{Figure, Meter, Reference, Value}

-- a field's number in the record; 0 for none alone
abbrev pub field_number : Field → ℕ
field_number Together = 0
field_number Pulses = 1
field_number DetectorTime = 2
field_number PulseTime = 3
field_number WallTemperature = 4
field_number VesselPressure = 5
field_number RodTemperature = 6
field_number DensitometerTemperature = 7
field_number DensitometerPressure = 8
field_number Density = 9
field_number MasterPulses = 10
field_number MasterTime = 11

-- a device's number
abbrev pub device_number : Device → ℕ
device_number Vessel = 1
device_number Densitometer = 2
device_number Master = 3
device_number Liquid = 4
device_number Mass = 5

-- a denial's number
abbrev pub denial_number : Denial → ℕ
denial_number (Figure place) = 1
denial_number (Meter field) = 4
denial_number (Reference fault) = 5
denial_number Value = 6

-- what it carries, 0 where there is nothing: the place of a figure; the field of the meter; the device and the field of the reference
abbrev pub carried : Denial → ℕ × ℕ
carried (Figure place) = (place, 0)
carried (Meter field) = (field_number field, 0)
carried (Reference fault) = (device_number fault.device, field_number fault.field)
carried Value = (0, 0)

-- the denial of what a reference faults
abbrev pub ReferenceDenied : Fault → Denial → Type 0
ReferenceDenied fault denial = denial ≡ Reference fault
