-- The exact figures of one flow point. Assumes nothing.
-- A point is the list of the exact values of its passes, all of one kind: x₁ to xₙ.
use Rattle.std.specs.Prelude.{ℕ, ◌-◌, List, [], ◌∷◌, length, slice_index}
use Rattle.exact.specs.Fractions.{Fraction, nat, add, sub, mul, div}
use Rattle.exact.specs.Figures.{Figure, root}
use Rattle.pass.specs.Kinds.{Kind, K, MF, F}

abbrev pub square : Fraction → Fraction
square x = mul x x

-- Σxᵢ
unfoldable pub sum : List Fraction → Fraction
sum [] = nat 0
sum (x ∷ xs) = add x (sum xs)

-- the mean x = Σxᵢ/n
unfoldable pub mean : List Fraction → Fraction
mean xs = div (sum xs) (nat (length xs))

-- the squared distances from a number, added up: Σ(xᵢ − m)²
unfoldable pub spread : Fraction → List Fraction → Fraction
spread m [] = nat 0
spread m (x ∷ xs) = add (square (sub x m)) (spread m xs)

-- D = Σ(xᵢ − x)²
abbrev pub deviation : List Fraction → Fraction
deviation xs = spread (mean xs) xs

-- What scatter is measured against: the mean of a ratio; for F, whose mean may be 0, the number 1.
abbrev pub against : Kind → Fraction → Fraction
against K m = m
against MF m = m
against F m = nat 1

-- S² = D/((n − 1)·x²) for ratio values, D/(n − 1) for F
unfoldable pub scatter² : Kind → List Fraction → Fraction
scatter² k xs = div (deviation xs) (mul (nat (length xs - 1)) (square (against k (mean xs))))

-- S, the scatter of single values
abbrev pub scatter : Kind → List Fraction → Figure
scatter k xs = root (scatter² k xs)

-- S0² = S²/n
unfoldable pub of_mean² : Kind → List Fraction → Fraction
of_mean² k xs = div (scatter² k xs) (nat (length xs))

-- S0, the scatter of the mean
abbrev pub of_mean : Kind → List Fraction → Figure
of_mean k xs = root (of_mean² k xs)

-- Student's t at 0.95 for 5 to 20 passes, in thousandths
abbrev pub student : ℕ → ℕ
student n = slice_index (2776 ∷ 2571 ∷ 2447 ∷ 2365 ∷ 2306 ∷ 2262 ∷ 2228 ∷ 2201 ∷ 2179 ∷ 2160 ∷ 2145 ∷ 2131 ∷ 2120 ∷ 2110 ∷ 2101 ∷ 2093 ∷ []) (n - 5)

-- ε² = t²·S0²
unfoldable pub random² : Kind → List Fraction → Fraction
random² k xs = mul (square (div (nat (student (length xs))) (nat 1000))) (of_mean² k xs)

-- ε = t·S0, the random limit
abbrev pub random : Kind → List Fraction → Figure
random k xs = root (random² k xs)
