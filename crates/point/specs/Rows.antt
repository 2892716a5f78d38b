-- Rows of two ends, in steps, and the exact values that they hold. Assumes nothing.
use Rattle.std.specs.Prelude.{List, [], ◌∷◌, pos, ◌+ℤ◌, ◌≤ℤ◌}
use Rattle.exact.specs.Fractions.{Fraction}
use Rattle.exact.specs.Figures.{number}
use Rattle.exact.specs.Pairs.{Holds, steps}
use Rattle.pass.specs.Kinds.{Kind, least, most}
use Rattle.point.specs.declared.ends.Ends.{Ends}

-- each row holds the value at its place
pub data Held : List Ends → List Fraction → Type 0 where
  none : Held [] []
  more : {e : Ends} {x : Fraction} {es : List Ends} {xs : List Fraction} → Holds steps e.low e.high (number x) → Held es xs → Held (e ∷ es) (x ∷ xs)

-- a row is the pair of an accepted pass's value: in order, in the kind's range, and at most 300 steps wide
pub record Fits (k : Kind) (e : Ends) : Type 0 where
  pub floor : least k ≤ℤ e.low
  pub ordered : e.low ≤ℤ e.high
  pub top : e.high ≤ℤ most k
  pub narrow : e.high ≤ℤ (e.low +ℤ pos 300)
