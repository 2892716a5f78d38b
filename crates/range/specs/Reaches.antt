-- The figures of points taken together. Assumes nothing.
use Rattle.std.specs.Prelude.{List, [], ◌∷◌, pos}
use Rattle.exact.specs.Fractions.{Fraction}
use Rattle.exact.specs.Figures.{number, root}
use Rattle.exact.specs.Pairs.{Holds, steps}
use Rattle.pass.specs.Kinds.{Kind}
use Rattle.point.specs.Points.{mean}
use Rattle.point.specs.Levels.{level as level_of}
use Rattle.point.specs.Outcomes.{PointHolds}
use Rattle.point.specs.declared.figures.Point.{Point}
use Rattle.range.specs.declared.reach.Reach.{Reach}
use Rattle.range.specs.Ranges.{S0², ε², ΘA}
use Rattle.range.specs.Span.{SpanHolds}

-- each point holds the exact figures of the values at its place
pub data PointsHold (k : Kind) : List Point → List (List Fraction) → Type 0 where
  none : PointsHold k [] []
  more : {p : Point} {xs : List Fraction} {ps : List Point} {xss : List (List Fraction)} → PointHolds k xs p → PointsHold k ps xss → PointsHold k (p ∷ ps) (xs ∷ xss)

-- The reach of the points xs and xss, of which xs is the first, holds their exact figures; that its ends are in order, near and small
-- is an invariant of their types.
pub record Reaches (k : Kind) (xs : List Fraction) (xss : List (List Fraction)) (r : Reach) : Type 0 where
  pub level : Holds steps (pos r.level.low) (pos r.level.high) (number (level_of k (mean xs)))
  pub of_mean : SpanHolds r.of_mean (root (S0² k (xs ∷ xss)))
  pub random : SpanHolds r.random (root (ε² k (xs ∷ xss)))
  pub neighbours : SpanHolds r.neighbours (number (ΘA k (xs ∷ xss)))

-- where p holds the figures of one point, and r those of the points that follow it, t holds the figures of all
pub record Extends (r : Reach) (p : Point) (t : Reach) : Type 0 where
  pub holds : (k : Kind) (xs ys : List Fraction) (yss : List (List Fraction)) → PointHolds k xs p → Reaches k ys yss r → Reaches k xs (ys ∷ yss) t
