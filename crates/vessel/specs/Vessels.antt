-- What every vessel owes. Assumes nothing.
use Rattle.std.specs.Prelude.{◌≡◌, ℕ, ◌+◌, ◌*◌, ◌/◌, ◌≤◌, Bool, true, false, pos, ◌≤ℤ◌, Ok, Err, Result, unsigned_abs}
use Rattle.exact.specs.Fractions.{Fraction, whole}
use Rattle.exact.specs.Figures.{number}
use Rattle.exact.specs.Pairs.{Holds}
use Rattle.exact.specs.Ends.{Ends, Has}
use Rattle.exact.specs.declared.pair.Pair.{Pair}
use Rattle.pass.specs.declared.denials.Field.{Field}

-- The pair of a volume, in microlitres: it holds the volume, lies in the range of volumes, and its ends differ by at most
-- width·lower/10⁹ (whole part) and 3.
pub record Good (width : ℕ) (volume : Fraction) (e : Ends) : Type 0 where
  pub holds : Holds whole e.low e.high (number volume)
  pub least : pos 9000000 ≤ℤ e.low
  pub most : e.high ≤ℤ pos 23000000000
  pub narrow : unsigned_abs e.high ≤ unsigned_abs e.low + (width * unsigned_abs e.low / 1000000000 + 3)

-- the same of two records
pub record Same (takes takes' : Bool) (fault fault' : Field) (volume volume' : Fraction) (answer answer' : Ends) : Type 0 where
  pub takes_same : takes ≡ takes'
  pub fault_same : fault ≡ fault'
  pub volume_same : volume ≡ volume'
  pub answer_same : answer ≡ answer'

-- asked, a vessel gives its pair exactly if it takes the record, and names the field at fault otherwise
abbrev pub Asked : Bool → Ends → Field → Result Pair Field → Type 0
Asked true e f (Ok p) = Has p e
Asked true e f (Err g) = ⊥
Asked false e f (Ok p) = ⊥
Asked false e f (Err g) = g ≡ f
