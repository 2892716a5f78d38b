-- What the figures worked out for a point promise. Assumes nothing.
use Rattle.std.specs.Prelude.{◌≤◌, List, length, pos, Some, None, Option}
use Rattle.std.specs.List.{AllByRecursion}
use Rattle.exact.specs.Fractions.{Fraction}
use Rattle.exact.specs.Figures.{number}
use Rattle.exact.specs.Pairs.{Holds, steps}
use Rattle.pass.specs.Kinds.{Kind}
use Rattle.point.specs.declared.ends.Ends.{Ends}
use Rattle.point.specs.declared.figures.Point.{Point}
use Rattle.point.specs.Points.{mean as mean_of, scatter as scatter_of, of_mean as scatter_of_mean, random as random_of}
use Rattle.point.specs.Levels.{level as level_of}
use Rattle.point.specs.Rows.{Held, Fits}

-- rows from which a point's figures can be worked out: 5 to 20, and each fits its kind
pub record Workable (k : Kind) (rows : List Ends) : Type 0 where
  pub some : 5 ≤ length rows
  pub few : length rows ≤ 20
  pub fits : AllByRecursion (Fits k) rows

-- each pair of the point holds the exact figure of the values xs; that the pairs are narrow is an invariant of the type
pub record PointHolds (k : Kind) (xs : List Fraction) (p : Point) : Type 0 where
  pub mean : Holds steps p.mean.low p.mean.high (number (mean_of xs))
  pub level : Holds steps (pos p.level.low) (pos p.level.high) (number (level_of k (mean_of xs)))
  pub scatter : Holds steps p.scatter.low p.scatter.high (scatter_of k xs)
  pub of_mean : Holds steps p.of_mean.low p.of_mean.high (scatter_of_mean k xs)
  pub random : Holds steps p.random.low p.random.high (random_of k xs)

-- A maker who asks for a point's figures gets them exactly where the rows are workable.
abbrev pub Answered : Kind → List Ends → Option Point → Type 0
Answered k rows None = Workable k rows → ⊥
Answered k rows (Some p) = Workable k rows × ((xs : List Fraction) → Held rows xs → PointHolds k xs p)
