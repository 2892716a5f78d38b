-- The exact figures of the range that flow points span. Assumes nothing.
-- A range is the list of its points in the order of flow; a point is the list of the exact values of its passes, all of one kind.
use Rattle.std.specs.Prelude.{ℕ, ◌+◌, ◌*◌, Bool, cond, List, [], ◌∷◌, map, pos, nat_le}
use Rattle.exact.specs.Fractions.{Fraction, nat, add, sub, mul, div}
use Rattle.exact.specs.Pairs.{steps}
use Rattle.pass.specs.Kinds.{Kind}
use Rattle.point.specs.Points.{square, sum, mean, of_mean², random²}
use Rattle.point.specs.Levels.{level}

-- whether a ≤ b
unfoldable pub at_most : Fraction → Fraction → Bool
at_most a b = nat_le (a.plus * b.bottom + b.minus * a.bottom) (b.plus * a.bottom + a.minus * b.bottom)

-- the greater of two numbers
abbrev pub greater : Fraction → Fraction → Fraction
greater a b = cond (at_most a b) b a

-- the greatest of numbers that are not negative
abbrev pub greatest : List Fraction → Fraction
greatest [] = nat 0
greatest (x ∷ xs) = greater x (greatest xs)

-- S0 and ε of the range are each the largest over the points, and so are their squares.
abbrev pub S0² : Kind → List (List Fraction) → Fraction
S0² k points = greatest (map (of_mean² k) points)

abbrev pub ε² : Kind → List (List Fraction) → Fraction
ε² k points = greatest (map (random² k) points)

-- how far apart two neighbouring levels are: |x − y|/(2·(x + y))
unfoldable pub half_gap_lem : Fraction → Fraction → Fraction
half_gap_lem x y = div (greater (sub x y) (sub y x)) (mul (nat 2) (add x y))

-- of each level and the next
abbrev pub half_gaps : Fraction → List Fraction → List Fraction
half_gaps x [] = []
half_gaps x (y ∷ ys) = half_gap_lem x y ∷ half_gaps y ys

abbrev pub of_neighbours : List Fraction → Fraction
of_neighbours [] = nat 0
of_neighbours (x ∷ xs) = greatest (half_gaps x xs)

-- Θ_A: the largest half-gap of the means of neighbouring points, taking 1 + F for F
abbrev pub ΘA : Kind → List (List Fraction) → Fraction
ΘA k points = of_neighbours (map (λ xs. level k (mean xs)) points)

-- Θ² = 1.21·(Θ_A² + the squares of the given limits)
unfoldable pub Θ² : List Fraction → Fraction → Fraction
Θ² limits a = mul (div (nat 121) (nat 100)) (add (square a) (sum (map square limits)))

-- the given limits, which come in whole steps
abbrev pub given : List ℕ → List Fraction
given limits = map (λ g. steps (pos g)) limits
