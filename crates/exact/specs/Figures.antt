-- A figure is a fraction, a root, or made of these. It is known by which numbers are at most it, and which are at least it.
-- Assumes nothing.
use Rattle.std.specs.Prelude.{◌⊎◌}
use Rattle.exact.specs.Fractions.{Fraction, Le, Lt, nat, add, sub, mul}

pub data Figure : Type 0 where
  -- a fraction of whole numbers
  number : Fraction → Figure
  -- the root of a fraction
  root : Fraction → Figure
  -- a factor, which is not negative, times a figure
  times : (factor : Fraction) → Le (nat 0) factor → Figure → Figure
  -- the sum of two figures
  plus : Figure → Figure → Figure
  -- the larger of two figures
  larger : Figure → Figure → Figure

-- u is at most the figure. It is at most the root of q if it is negative or its square is at most q;
-- what is at most a product or a sum is judged by numbers at most the figures in it.
abbrev pub AtMost : Fraction → Figure → Type 0
AtMost u (number q) = Le u q
AtMost u (root q) = Le (nat 0) u → Le (mul u u) q
AtMost u (times c p f) = (a : Fraction) × AtMost a f × Le u (mul a c)
AtMost u (plus f g) = (a : Fraction) × (b : Fraction) × AtMost a f × AtMost b g × Le u (add a b)
AtMost u (larger f g) = AtMost u f ⊎ AtMost u g

-- u is at least the figure. It is at least the root of q if it is not negative and its square is at least q.
abbrev pub AtLeast : Fraction → Figure → Type 0
AtLeast u (number q) = Le q u
AtLeast u (root q) = Le (nat 0) u × Le q (mul u u)
AtLeast u (times c p f) = (a : Fraction) × AtLeast a f × Le (mul a c) u
AtLeast u (plus f g) = (a : Fraction) × (b : Fraction) × AtLeast a f × AtLeast b g × Le (add a b) u
AtLeast u (larger f g) = AtLeast u f × AtLeast u g

-- the figure exceeds the limit L: some number above L is at most it
abbrev pub Exceeds : Figure → Fraction → Type 0
Exceeds f L = (u : Fraction) × Lt L u × AtMost u f

-- the figure keeps the limit L: it does not exceed it
abbrev pub Keeps : Figure → Fraction → Type 0
Keeps f L = Exceeds f L → ⊥

-- the figure is within d of L: L − d is at most it, and L + d at least it
pub record Within (f : Figure) (d L : Fraction) : Type 0 where
  pub below : AtMost (sub L d) f
  pub above : AtLeast (add L d) f

-- The laws of figures: what is below a number at most the figure is at most it; what is above a number at least it is
-- at least it; and no number at most it is above one at least it.
abbrev pub FigureLaws : Type 0
FigureLaws =
    ((f : Figure) (u v : Fraction) → Le u v → AtMost v f → AtMost u f)
    × ((f : Figure) (u v : Fraction) → Le u v → AtLeast u f → AtLeast v f)
    × ((f : Figure) (u v : Fraction) → AtMost u f → AtLeast v f → Le u v)
