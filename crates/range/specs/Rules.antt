-- Which rule gives the error, and when a change of rule is near. Assumes nothing.
use Rattle.std.specs.Prelude.{ℕ, cond, pos}
use Rattle.std.proofs.Common.{arith}
use Rattle.exact.specs.Fractions.{Fraction, Le, Lt, whole, nat, add, mul, div}
use Rattle.exact.specs.Figures.{Figure, root, times, plus, AtMost, AtLeast}
use Rattle.exact.specs.Pairs.{steps}
use Rattle.range.specs.Ranges.{at_most}

-- a/b, for a factor that is written out
abbrev pub part : ℕ → ℕ → Fraction
part a b = div (nat a) (nat b)

pub part_positive : (a b : ℕ) → Le (nat 0) (part a b)
unfolding whole div
part_positive a b = record { le = omega arith }

-- The error is the systematic limit, the random limit, or a part of both together.
pub data Rule : Type 0 where
  systematic random mixed : Rule

-- Θ² > 64·S0²: systematic. Θ² < 0.64·S0²: random. Otherwise mixed.
abbrev pub rule : Fraction → Fraction → Rule
rule θ² s² = cond (at_most θ² (mul (nat 64) s²)) (cond (at_most (mul (part 64 100) s²) θ²) mixed random) systematic

-- the error by a rule: Θ, ε or 0.81·(Θ + ε)
abbrev pub error_by : Rule → Fraction → Fraction → Figure
error_by systematic θ² ε² = root θ²
error_by random θ² ε² = root ε²
error_by mixed θ² ε² = times (part 81 100) (part_positive 81 100) (plus (root θ²) (root ε²))

-- the error
abbrev pub error : Fraction → Fraction → Fraction → Figure
error θ² s² ε² = error_by (rule θ² s²) θ² ε²

-- No number that is at least f lies over d below one that is at most g, and the other way round: f and g are at most d apart.
abbrev pub NotBelow : Fraction → Figure → Figure → Type 0
NotBelow d f g = (u v : Fraction) → AtLeast u f → AtMost v g → Lt (add u d) v → ⊥

pub record Near (d : Fraction) (f g : Figure) : Type 0 where
  pub not_below : NotBelow d f g
  pub not_above : NotBelow d g f

-- Θ within 4,500 steps of 8·S0, or of 0.8·S0
abbrev pub NearUpper : Fraction → Fraction → Type 0
NearUpper θ² s² = Near (steps (pos 4500)) (root θ²) (times (part 8 1) (part_positive 8 1) (root s²))

abbrev pub NearLower : Fraction → Fraction → Type 0
NearLower θ² s² = Near (steps (pos 4500)) (root θ²) (times (part 8 10) (part_positive 8 10) (root s²))
