-- The ranges of readings. Assumes nothing.
use Rattle.std.specs.Prelude.{ℕ, Bool, ◌&&◌, ℤ, pos, negsuc, ◌+ℤ◌, int_le, unsigned_abs}

abbrev pub between : ℤ → ℤ → ℤ → Bool
between least most z = int_le least z && int_le z most

-- pulses: 1,100 to 800,000
abbrev pub countable : ℤ → Bool
countable pulses = between (pos 1100) (pos 800000) pulses

-- a time in µs: 1 to 600,000,000
abbrev pub lasting : ℤ → Bool
lasting time = between (pos 1) (pos 600000000) time

-- a temperature in 0.01 °C: −1,000 to 5,000
abbrev pub temperate : ℤ → Bool
temperate temperature = between (negsuc 999) (pos 5000) temperature

-- a temperature as hundredths of a degree above −10 °C, the least that is read
abbrev pub raised : ℤ → ℕ
raised temperature = unsigned_abs (temperature +ℤ pos 1000)

-- a gauge pressure in kPa: 0 to 10,000
abbrev pub pressed : ℤ → Bool
pressed pressure = between (pos 0) (pos 10000) pressure

-- a density in 0.01 kg/m³: 60,000 to 120,000
abbrev pub dense : ℤ → Bool
dense density = between (pos 60000) (pos 120000) density

-- a meter's factor, in ten-thousandths of a pulse per tonne: 10⁷ to 10⁹
abbrev pub settable : ℤ → Bool
settable factor = between (pos 10000000) (pos 1000000000) factor
