-- What every reference owes. Assumes nothing.
use Rattle.std.specs.Prelude.{◌≡◌, ◌+◌, ◌/◌, ◌≤◌, Bool, true, false, pos, ◌≤ℤ◌, Ok, Err, Result, unsigned_abs}
use Rattle.exact.specs.Fractions.{Fraction, whole}
use Rattle.exact.specs.Figures.{number}
use Rattle.exact.specs.Pairs.{Holds}
use Rattle.exact.specs.Ends.{Ends, Has}
use Rattle.pass.specs.declared.denials.Field.{Field}
use Rattle.pass.specs.declared.denials.Device.{Device}
use Rattle.pass.specs.declared.denials.Fault.{Fault}
use Rattle.pass.specs.declared.masses.ReferenceMass.{ReferenceMass}

-- The pair of a mass, in milligrams: it holds the mass, lies in the range of masses, and its ends differ by at most
-- lower/500,000 (whole part) and 6.
pub record Weighs (mass : Fraction) (e : Ends) : Type 0 where
  pub holds : Holds whole e.low e.high (number mass)
  pub least : pos 10000000 ≤ℤ e.low
  pub most : e.high ≤ℤ pos 30000000000
  pub narrow : unsigned_abs e.high ≤ unsigned_abs e.low + (unsigned_abs e.low / 500000 + 6)

-- the same of two records
pub record Same (takes takes' : Bool) (fault fault' : Fault) (mass mass' : Fraction) (answer answer' : Ends) : Type 0 where
  pub takes_same : takes ≡ takes'
  pub fault_same : fault ≡ fault'
  pub mass_same : mass ≡ mass'
  pub answer_same : answer ≡ answer'

-- asked, a reference gives its pair exactly if it takes the record, and names the fault otherwise
abbrev pub Asked : Bool → Ends → Fault → Result ReferenceMass Fault → Type 0
Asked true e f (Ok m) = Has m.pair e
Asked true e f (Err g) = ⊥
Asked false e f (Ok m) = ⊥
Asked false e f (Err g) = g ≡ f

abbrev pub faulted : Device → Field → Fault
faulted device field = record { device = device; field = field }
