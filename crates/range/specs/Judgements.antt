-- What the figures worked out for a range promise. Assumes nothing.
use Rattle.std.specs.Prelude.{ℕ, ◌≤◌, List, length, Some, None, Option}
use Rattle.std.specs.List.{AllByRecursion}
use Rattle.exact.specs.Fractions.{Fraction}
use Rattle.exact.specs.Figures.{number, root}
use Rattle.exact.specs.Pairs.{Holds, steps}
use Rattle.pass.specs.Kinds.{Kind}
use Rattle.point.specs.declared.figures.Point.{Point}
use Rattle.range.specs.declared.figures.Range.{Range}
use Rattle.range.specs.Ranges.{S0², ε², ΘA, Θ², given}
use Rattle.range.specs.Outcomes.{Decided, ErrorHolds}
use Rattle.range.specs.Reaches.{PointsHold}

-- given limits: at most eight, each at most 1,000,000 steps
pub record Limits (limits : List ℕ) : Type 0 where
  pub few : length limits ≤ 8
  pub small : AllByRecursion (λ g. g ≤ 1000000) limits

-- a range that can be worked out: 2 to 10 points, and such limits
pub record Workable (points : List Point) (limits : List ℕ) : Type 0 where
  pub some : 2 ≤ length points
  pub few : length points ≤ 10
  pub given : Limits limits

-- Each pair of the range holds the exact figure of the points' values xss and the given limits, and the rule is decided as far as the
-- pairs tell. That the pairs are narrow is an invariant of the type, and of the error said by ErrorHolds.
pub record RangeHolds (k : Kind) (xss : List (List Fraction)) (limits : List ℕ) (r : Range) : Type 0 where
  pub of_mean : Holds steps r.of_mean.low r.of_mean.high (root (S0² k xss))
  pub random : Holds steps r.random.low r.random.high (root (ε² k xss))
  pub neighbours : Holds steps r.neighbours.low r.neighbours.high (number (ΘA k xss))
  pub systematic : Holds steps r.systematic.low r.systematic.high (root (Θ² (given limits) (ΘA k xss)))
  pub left : Decided (Θ² (given limits) (ΘA k xss)) (S0² k xss) r.left
  pub error : ErrorHolds (Θ² (given limits) (ΘA k xss)) (S0² k xss) (ε² k xss) r.error.low r.error.high

-- A maker who asks for a range's figures gets them exactly where the range can be worked out.
abbrev pub Answered : List Point → List ℕ → Option Range → Type 0
Answered points limits None = Workable points limits → ⊥
Answered points limits (Some r) = Workable points limits × ((k : Kind) (xss : List (List Fraction)) → PointsHold k points xss → RangeHolds k xss limits r)
