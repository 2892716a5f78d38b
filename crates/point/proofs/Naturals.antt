-- Squares and roots of natural numbers.
use Rattle.std.proofs.Common.{◌≡◌, ℕ, ◌+◌, ◌-◌, ◌*◌, ◌<◌, ◌≤◌, sym, subst, mul-le-mul, mul-le-mul_left, arith}
use native.Mathlib.Decide.{dec_le}

pub square_mono : (x y : ℕ) → x ≤ y → x * x ≤ y * y
square_mono x y h = mul-le-mul h h

-- x² < y² gives x < y
pub root_lt : (x y : ℕ) → x * x < y * y → x < y
root_lt x y h = elim (dec_le y x) [ yes k ↦ absurd (omega (arith, square_mono y x k)) | no k ↦ omega arith ]

-- x² ≤ y² gives x ≤ y
pub root_le : (x y : ℕ) → x * x ≤ y * y → x ≤ y
root_le x y h = elim (dec_le x y) [ yes k ↦ k | no k ↦ absurd (let l : (y + 1) * (y + 1) ≤ x * x = square_mono (y + 1) x (omega arith) in omega arith) ]

twice_up : (x y : ℕ) → x ≤ y → 2 * (x * y) ≤ x * x + y * y
twice_up x y h =
    let e : y ≡ x + (y - x) = omega arith in
    subst (λ (z : ℕ). 2 * (x * z) ≤ x * x + z * z) (sym e) (go x (y - x))
  where
    go : (x e : ℕ) → 2 * (x * (x + e)) ≤ x * x + (x + e) * (x + e)
    go x e = omega arith

-- 2xy ≤ x² + y²
twice : (x y : ℕ) → 2 * (x * y) ≤ x * x + y * y
twice x y = elim (dec_le x y) [ yes h ↦ twice_up x y h | no h ↦ (let k : y ≤ x = omega arith in omega (arith, twice_up y x k)) ]

-- A number at most w above another: k·s·A² ≤ k·(s + k)·a² + s·(s + k)·w².
-- It bounds the root of a sum of squares without a root: for s near the root and k near w·√n it is sharp.
pub stretched : (k s a A w : ℕ) → A ≤ a + w → (k * s) * (A * A) ≤ (k * (s + k)) * (a * a) + (s * (s + k)) * (w * w)
stretched k s a A w h =
    let q : A * A ≤ (a + w) * (a + w) = square_mono A (a + w) h in
    let r : (k * s) * (A * A) ≤ (k * s) * ((a + w) * (a + w)) = mul-le-mul_left (k * s) q in
    go (twice (k * a) (s * w)) r
  where
    go : 2 * ((k * a) * (s * w)) ≤ (k * a) * (k * a) + (s * w) * (s * w) → (k * s) * (A * A) ≤ (k * s) * ((a + w) * (a + w)) → (k * s) * (A * A) ≤ (k * (s + k)) * (a * a) + (s * (s + k)) * (w * w)
    go t r = omega arith
