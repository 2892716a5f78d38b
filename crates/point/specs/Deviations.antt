-- Distances between two figures near 1 of which the ends are known, in steps: the first lies from a to A, the second from p to P.
-- Assumes nothing.
use Rattle.std.specs.Prelude.{ℕ, ◌+◌, ◌-◌, ◌*◌, max, List, pos}
use Rattle.exact.specs.Fractions.{Fraction, Le, nat, div}
use Rattle.exact.specs.Pairs.{steps}
use Rattle.pass.specs.Kinds.{Kind}
use Rattle.point.specs.declared.ends.Ends.{Ends}
use Rattle.point.specs.Points.{mean, deviation, against}
use Rattle.point.specs.Levels.{raised}

-- how near they may lie to each other: 0 where their pairs meet
abbrev pub nearest : ℕ → ℕ → ℕ → ℕ → ℕ
nearest a A p P = (a - P) + (p - A)

-- how far they may lie from each other
abbrev pub farthest : ℕ → ℕ → ℕ → ℕ → ℕ
farthest a A p P = max (A - p) (P - a)

-- the least and the greatest square of one row's deviation from a mean between p and P
abbrev pub nearest² : Kind → ℕ → ℕ → Ends → ℕ
nearest² k p P e = nearest (raised k e.low) (raised k e.high) p P * nearest (raised k e.low) (raised k e.high) p P

abbrev pub farthest² : Kind → ℕ → ℕ → Ends → ℕ
farthest² k p P e = farthest (raised k e.low) (raised k e.high) p P * farthest (raised k e.low) (raised k e.high) p P

-- a whole number of squared steps
abbrev pub squares : ℕ → Fraction
squares n = div (nat n) (nat 10000000000000000)

-- Scatter is worked out from these: D lies between two numbers of squared steps, and what it is measured against between two ends.
pub record Deviates (k : Kind) (xs : List Fraction) (least most low high : ℕ) : Type 0 where
  pub over : Le (squares least) (deviation xs)
  pub under : Le (deviation xs) (squares most)
  pub floor : Le (steps (pos low)) (against k (mean xs))
  pub top : Le (against k (mean xs)) (steps (pos high))
