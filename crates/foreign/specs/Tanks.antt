-- A reference that weighs the liquid of a pass. Assumes nothing.
use Rattle.std.specs.Prelude.{ℕ, Bool, true, ◌&&◌, pos, nat_le}
use Rattle.exact.specs.Fractions.{Fraction, nat}
use Rattle.exact.specs.Ends.{Ends}
use Rattle.pass.specs.declared.readings.Record.{Record}
use Rattle.pass.specs.declared.denials.Field.TheVariants.{Together}
use Rattle.pass.specs.declared.denials.Device.TheVariants.{Mass}
use Rattle.pass.specs.declared.denials.Fault.{Fault}
use Rattle.pass.specs.declared.passes.Passes.{Passes}
use Rattle.reference.specs.References.{faulted}
use Rattle.foreign.specs.declared.tank.TankScale.{TankScale}

-- what a scale may show
abbrev pub showing : ℕ → Bool
showing n = nat_le 10000000 n && nat_le n 30000000000

abbrev pub every : TankScale → Record → Bool
every s r = true

-- it takes every record, so it names no fault
abbrev pub faultless : TankScale → Record → Fault
faultless s r = faulted Mass Together

abbrev pub shown_mass : TankScale → Record → Fraction
shown_mass s r = nat s.shown

abbrev pub shown_ends : TankScale → Record → Ends
shown_ends s r = record { low = pos s.shown; high = pos s.shown }

-- it uses no field
abbrev pub Any : Record → Record → Type 0
Any p q = Unit {0}

abbrev pub passes : Passes
passes = record { working = 5; check = 20 }
