-- The sheet of a pass against a reference: which figures stand on it, and when it is denied. Assumes nothing.
use Rattle.std.specs.Prelude.{◌≡◌, ℕ, ◌*◌, Bool, true, false, cond, ◌&&◌, ℤ, pos, ◌+ℤ◌, ◌≤ℤ◌, Ok, Err, Result, unsigned_abs}
use Rattle.exact.specs.Fractions.{Fraction, whole}
use Rattle.exact.specs.Figures.{number}
use Rattle.exact.specs.Pairs.{Holds, parts, steps, floor, ceiling}
use Rattle.exact.specs.Ends.{Ends, Has}
use Rattle.exact.specs.declared.pair.Pair.{Pair}
use Rattle.pass.specs.Kinds.{Kind, K, MF, F, value}
use Rattle.pass.specs.Meters.{meter_takes, meter_fault, meter_count, meter_mass, meter_low, meter_high}
use Rattle.pass.specs.Values.{near_one_lem}
use Rattle.pass.specs.declared.readings.Record.{Record}
use Rattle.pass.specs.declared.denials.Denial.{Denial}
use Rattle.pass.specs.declared.denials.Denial.TheVariants.{Meter, Reference, Value}
use Rattle.pass.specs.declared.denials.Fault.{Fault}
use Rattle.reference.specs.References.{Weighs}
use Rattle.sheet.specs.declared.figures.Sheet.{Sheet}

-- a pair holds an exact number, and its ends are at most so many units apart
pub record Within (unit : ℤ → Fraction) (apart : ℕ) (p : Pair) (x : Fraction) : Type 0 where
  pub holds : Holds unit p.low p.high (number x)
  pub narrow : p.high ≤ℤ (p.low +ℤ pos apart)

-- the exact value of a kind, of a pass whose reference mass is given
abbrev pub exact_value : Kind → ℕ → Fraction → Record → Fraction
exact_value kind set mass r = value kind (meter_mass set r) mass

-- every pair of the sheet holds its exact figure; the reference's is the one that it answers
pub record Stands (set : ℕ) (mass : Fraction) (answer : Ends) (r : Record) (s : Sheet) : Type 0 where
  pub count : Within (parts 10000) 1 s.count (meter_count r)
  pub meter : Within whole 1 s.meter_mass (meter_mass set r)
  pub reference : Has s.reference_mass answer
  pub weighs : Weighs mass answer
  pub pulse_factor : Within steps 300 s.pulse_factor (exact_value K set mass r)
  pub meter_factor : Within steps 300 s.meter_factor (exact_value MF set mass r)
  pub correction : Within steps 300 s.correction (exact_value F set mass r)

-- the meter factor's pair lies wholly in 0.9 to 1.1
abbrev pub acceptable : ℕ → Ends → Record → Bool
acceptable set e r = near_one_lem (pos (floor (100000000 * unsigned_abs e.low) (meter_high set r))) (pos (ceiling (100000000 * unsigned_abs e.high) (meter_low set r)))

-- the meter is asked first, then the reference, then the value
abbrev pub first_denial : Bool → Fault → Record → Denial
first_denial takes fault r = cond (meter_takes r) (cond takes Value (Reference fault)) (Meter (meter_fault r))

-- A pass by a meter's set factor and a reference that takes it or faults it, has this exact mass and answers these ends.
abbrev pub WorkedOut : ℕ → Bool → Fault → Fraction → Ends → Record → Result Sheet Denial → Type 0
WorkedOut set takes fault mass answer r (Ok s) = (meter_takes r ≡ true) × (takes ≡ true) × (acceptable set answer r ≡ true) × Stands set mass answer r s
WorkedOut set takes fault mass answer r (Err d) = ((meter_takes r && (takes && acceptable set answer r)) ≡ false) × (d ≡ first_denial takes fault r)
