-- What a liquid means: an exact carry factor from the densitometer's conditions to the vessel's, and a pair in steps. Assumes nothing.
use Rattle.std.specs.Prelude.{◌≡◌, true, false, pos, ◌+ℤ◌, ◌≤ℤ◌, Ok, Err, Result}
use Rattle.exact.specs.Fractions.{Fraction}
use Rattle.exact.specs.Figures.{number}
use Rattle.exact.specs.Pairs.{Holds, steps}
use Rattle.exact.specs.Ends.{Ends}
use Rattle.exact.specs.declared.pair.Pair.{Pair}
use Rattle.pass.specs.declared.denials.Field.{Field}
use Rattle.liquid.specs.declared.question.Question.{Question}
use Rattle.liquid.specs.Questions.{takes, fault}

-- the pair holds the factor, lies in 0.8 to 1.2, and its ends are at most 40 steps apart
pub record Carries (factor : Fraction) (p : Ends) : Type 0 where
  pub holds : Holds steps p.low p.high (number factor)
  pub least : pos 80000000 ≤ℤ p.low
  pub most : p.high ≤ℤ pos 120000000
  pub narrow : p.high ≤ℤ (p.low +ℤ pos 40)

-- Asked, a liquid gives its pair if it takes the question, and otherwise names the fault.
abbrev pub Asked : Question → Ends → Result Pair Field → Type 0
Asked q e (Ok p) = (takes q ≡ true) × (p.low ≡ e.low) × (p.high ≡ e.high)
Asked q e (Err f) = (takes q ≡ false) × (f ≡ fault q)
