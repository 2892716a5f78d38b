-- Pairs of whole numbers, and the figures that they hold. Assumes nothing.
use Rattle.std.specs.Prelude.{ℕ, ◌+◌, ◌-◌, ◌/◌, ℤ}
use Rattle.exact.specs.Fractions.{Fraction, Le, Lt, whole, nat, add, div}
use Rattle.exact.specs.Figures.{Figure, AtMost, AtLeast, Keeps, Exceeds, Within}

-- What a whole number of some unit is worth: `whole` of the unit itself, as of milligrams or microlitres, and `parts k` of its k-th part.
abbrev pub parts : ℕ → ℤ → Fraction
parts k z = div (whole z) (nat k)

-- A step is a hundred-millionth: one percent is 1,000,000 steps.
abbrev pub steps : ℤ → Fraction
steps = parts 100000000

-- the pair from low to high, in whole numbers of the unit, holds the figure: it lies between the ends, or on one
pub record Holds (unit : ℤ → Fraction) (low high : ℤ) (f : Figure) : Type 0 where
  pub least : AtMost (unit low) f
  pub most : AtLeast (unit high) f

-- What a verdict rests on, for every figure, every pair that holds it and every limit:
-- an upper end that keeps the limit makes the figure keep it;
-- a lower end above the limit makes the figure exceed it;
-- a pair that reaches over the limit, and whose ends are at most d apart, puts the figure within d of it.
abbrev pub VerdictLaws : Type 0
VerdictLaws =
    ((unit : ℤ → Fraction) (low high : ℤ) (f : Figure) (L : Fraction) → Holds unit low high f → Le (unit high) L → Keeps f L)
    × ((unit : ℤ → Fraction) (low high : ℤ) (f : Figure) (L : Fraction) → Holds unit low high f → Lt L (unit low) → Exceeds f L)
    × ((unit : ℤ → Fraction) (low high : ℤ) (f : Figure) (L d : Fraction) → Holds unit low high f → Le (unit low) L → Le L (unit high) → Le (unit high) (add (unit low) d) → Within f d L)

-- n/d rounded down, and rounded up
abbrev pub floor : ℕ → ℕ → ℕ
floor n d = n / d

abbrev pub ceiling : ℕ → ℕ → ℕ
ceiling n d = (n + (d - 1)) / d
