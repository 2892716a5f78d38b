-- The record of a pass as a list of numbers. Assumes nothing.
use Rattle.std.specs.Prelude.{◌≡◌, List, length, ℤ, pos, slice_index_or}
use Rattle.pass.specs.declared.readings.Record.{Record}

-- the list has the record's eleven fields, each at its number's place
pub record InOrder (r : Record) (xs : List ℤ) : Type 0 where
  pub eleven : length xs ≡ 11
  pub pulses : r.pulses ≡ slice_index_or xs 0 (pos 0)
  pub detector_time : r.detector_time ≡ slice_index_or xs 1 (pos 0)
  pub pulse_time : r.pulse_time ≡ slice_index_or xs 2 (pos 0)
  pub wall_temperature : r.wall_temperature ≡ slice_index_or xs 3 (pos 0)
  pub vessel_pressure : r.vessel_pressure ≡ slice_index_or xs 4 (pos 0)
  pub rod_temperature : r.rod_temperature ≡ slice_index_or xs 5 (pos 0)
  pub densitometer_temperature : r.densitometer_temperature ≡ slice_index_or xs 6 (pos 0)
  pub densitometer_pressure : r.densitometer_pressure ≡ slice_index_or xs 7 (pos 0)
  pub density : r.density ≡ slice_index_or xs 8 (pos 0)
  pub master_pulses : r.master_pulses ≡ slice_index_or xs 9 (pos 0)
  pub master_time : r.master_time ≡ slice_index_or xs 10 (pos 0)
