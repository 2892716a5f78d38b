-- Exact numbers: fractions of whole numbers, signed, never rounded. Assumes nothing.
use Rattle.std.specs.Prelude.{◌≡◌, ℕ, ◌+◌, ◌-◌, ◌*◌, ◌<◌, ◌≤◌, max, ◌⊎◌, ℤ, pos}
use Rattle.std.proofs.Common.{mul-pos, arith, lit<}
use borrow.Author.Differences.{up, down}

-- (plus − minus)/bottom; the bottom is never 0
pub record Fraction : Type 0 where
  pub plus : ℕ
  pub minus : ℕ
  pub bottom : ℕ
  pub positive : 0 < bottom

-- Order and equality of values, by cross-multiplication.
-- a ≤ b
pub record Le (a b : Fraction) : Type 0 where
  pub le : a.plus * b.bottom + b.minus * a.bottom ≤ b.plus * a.bottom + a.minus * b.bottom

-- a < b
pub record Lt (a b : Fraction) : Type 0 where
  pub lt : a.plus * b.bottom + b.minus * a.bottom < b.plus * a.bottom + a.minus * b.bottom

-- a = b
pub record Same (a b : Fraction) : Type 0 where
  pub same : a.plus * b.bottom + b.minus * a.bottom ≡ b.plus * a.bottom + a.minus * b.bottom

-- a whole number: up z is z where z is not negative, down z is −z where it is, and each is 0 otherwise
unfoldable pub whole : ℤ → Fraction
whole z = record { plus = up z; minus = down z; bottom = 1; positive = lit< tt }

abbrev pub nat : ℕ → Fraction
nat n = whole (pos n)

-- a + b
unfoldable pub add : Fraction → Fraction → Fraction
add a b = record { plus = a.plus * b.bottom + b.plus * a.bottom; minus = a.minus * b.bottom + b.minus * a.bottom; bottom = a.bottom * b.bottom; positive = mul-pos a.positive b.positive }

-- −a
unfoldable pub neg : Fraction → Fraction
neg a = record { plus = a.minus; minus = a.plus; bottom = a.bottom; positive = a.positive }

-- a − b
abbrev pub sub : Fraction → Fraction → Fraction
sub a b = add a (neg b)

-- a · b
unfoldable pub mul : Fraction → Fraction → Fraction
mul a b = record { plus = a.plus * b.plus + a.minus * b.minus; minus = a.plus * b.minus + a.minus * b.plus; bottom = a.bottom * b.bottom; positive = mul-pos a.positive b.positive }

pub positive_max : (n : ℕ) → 0 < max 1 n
positive_max n = omega arith

-- a / b, where b is above 0; the bottom is kept from 0 elsewhere, where the quotient has no meaning
unfoldable pub div : Fraction → Fraction → Fraction
div a b = record { plus = a.plus * b.bottom; minus = a.minus * b.bottom; bottom = max 1 (a.bottom * (b.plus - b.minus)); positive = positive_max (a.bottom * (b.plus - b.minus)) }

-- The laws that everything later rests on: the order is reflexive, transitive and total; sums, negations and products keep bounds;
-- a quotient by b, which is above 0, is at least q exactly if q·b ≤ a, and at most q exactly if a ≤ q·b.
abbrev pub FractionLaws : Type 0
FractionLaws =
    ((a : Fraction) → Le a a)
    × ((a b c : Fraction) → Le a b → Le b c → Le a c)
    × ((a b : Fraction) → Le a b ⊎ Lt b a)
    × ((a b : Fraction) → Lt a b → Le b a → ⊥)
    × ((a b c d : Fraction) → Le a b → Le c d → Le (add a c) (add b d))
    × ((a b : Fraction) → Le a b → Le (neg b) (neg a))
    × ((a b c d : Fraction) → Le (nat 0) b → Le (nat 0) c → Le a b → Le c d → Le (mul a c) (mul b d))
    × ((a b q : Fraction) → Lt (nat 0) b → (Le (mul q b) a → Le q (div a b)) × (Le q (div a b) → Le (mul q b) a))
    × ((a b q : Fraction) → Lt (nat 0) b → (Le a (mul q b) → Le (div a b) q) × (Le (div a b) q → Le a (mul q b)))
