-- The rows of several points, and what their figures promise. Assumes nothing.
use Rattle.std.specs.Prelude.{ℕ, ◌≤◌, List, [], ◌∷◌, length, Some, None, Option}
use Rattle.std.specs.Borrow.{Bor}
use Rattle.std.specs.List.{AllByRecursion}
use Rattle.exact.specs.Fractions.{Fraction}
use Rattle.pass.specs.Kinds.{Kind}
use Rattle.point.specs.Rows.{Held}
use Rattle.point.specs.Outcomes.{Workable}
use Rattle.point.specs.declared.ends.Ends.{Ends}
use Rattle.range.specs.Reaches.{Reaches}
use Rattle.range.specs.Judgements.{Limits, RangeHolds}
use Rattle.range.specs.declared.figures.Range.{Range}
use Rattle.range.specs.declared.reach.Reach.{Reach}

-- the rows of one point, as they are passed
abbrev pub Rows : Type 0
Rows = Bor (List Ends)

-- each point's rows hold the values at its place
pub data AllHeld : List Rows → List (List Fraction) → Type 0 where
  none : AllHeld [] []
  more : {rows : Rows} {xs : List Fraction} {rest : List Rows} {xss : List (List Fraction)} → Held rows.now xs → AllHeld rest xss → AllHeld (rows ∷ rest) (xs ∷ xss)

-- every point's rows are workable
abbrev pub AllWorkable : Kind → List Rows → Type 0
AllWorkable k points = AllByRecursion (λ rows. Workable k rows.now) points

-- points and limits whose figures can be worked out: 2 to 10 points of workable rows, at most eight limits in their range
pub record Complete (k : Kind) (points : List Rows) (limits : List ℕ) : Type 0 where
  pub some : 2 ≤ length points
  pub few : length points ≤ 10
  pub rows : AllWorkable k points
  pub given : Limits limits

-- Points are gathered exactly where all their rows are workable, and their reach then holds the exact figures.
abbrev pub Gathered : Kind → List Rows → Option Reach → Type 0
Gathered k points None = AllWorkable k points → ⊥
Gathered k points (Some r) = AllWorkable k points × ((xs : List Fraction) (xss : List (List Fraction)) → AllHeld points (xs ∷ xss) → Reaches k xs xss r)

-- A maker who asks for the figures gets them exactly where points and limits are complete.
abbrev pub Answered : Kind → List Rows → List ℕ → Option Range → Type 0
Answered k points limits None = Complete k points limits → ⊥
Answered k points limits (Some r) = Complete k points limits × ((xss : List (List Fraction)) → AllHeld points xss → RangeHolds k xss limits r)
