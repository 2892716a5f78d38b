-- A vessel that takes no record. Assumes nothing.
use Rattle.std.specs.Prelude.{Bool, false, pos}
use Rattle.exact.specs.Fractions.{Fraction, nat}
use Rattle.exact.specs.Ends.{Ends}
use Rattle.pass.specs.declared.readings.Record.{Record}
use Rattle.pass.specs.declared.denials.Field.{Field}
use Rattle.pass.specs.declared.denials.Field.TheVariants.{WallTemperature}

abbrev pub never : Record → Bool
never r = false

abbrev pub faulty : Record → Field
faulty r = WallTemperature

-- of a record that is not taken, the volume and the pair say nothing
abbrev pub nothing : Record → Fraction
nothing r = nat 0

abbrev pub none : Record → Ends
none r = record { low = pos 0; high = pos 0 }

-- it uses no field, so any two records are alike
abbrev pub Any : Record → Record → Type 0
Any p q = Unit {0}
