-- The laws of figures: which numbers are at most one and which at least keeps the order of numbers.
use Rattle.std.proofs.Common.{◌≡◌, ℕ, ◌+◌, ◌-◌, ◌*◌, ◌<◌, ◌≤◌, ◌⊎◌, inl, inr, mul-le-mul_right, mul-le-mul_left, arith}
use Rattle.std.proofs.lemmas.Bool.{cases_lt}
use Rattle.exact.specs.Fractions.{Fraction, Le, Lt, whole, nat, mul}
use Rattle.exact.specs.Figures.{Figure, number, root, times, plus, larger, AtMost, AtLeast}
use Rattle.exact.proofs.Order.{le_trans, le_or_lt, lt_le}
use Rattle.exact.proofs.Arithmetic.{add_mono, mul_left, mul_mono}

-- squares keep the order of numbers that are not negative
pub square_mono : {u v : Fraction} → Le (nat 0) u → Le u v → Le (mul u u) (mul v v)
square_mono p h = mul_mono (le_trans p h) p h h

-- The same strictly, in whole numbers: of a/b and A/B with a = p − m and A = P − M.
square_lt_n : (x y : ℕ) → x < y → x * x < y * y
square_lt_n x y h = omega (arith, mul-le-mul_left x h, mul-le-mul_right y h)

blocks : (a m X A M Y : ℕ) → ((M + A) * (M + A) + M * M) * Y + ((m + a) * m + m * (m + a)) * X ≤ ((m + a) * (m + a) + m * m) * X + ((M + A) * M + M * (M + A)) * Y → (A * A) * Y ≤ (a * a) * X
blocks a m X A M Y h = omega arith

numerator : (p m b P M B : ℕ) → 0 < b → m ≤ p → p * B + M * b < P * b + m * B → M ≤ P
numerator p m b P M B o h k = elim (cases_lt P M) [ inl l ↦ absurd (omega (arith, mul-le-mul_right B h, mul-le-mul_right b l)) | inr l ↦ l ]

crossed : (a m b A M B p P : ℕ) → p ≡ m + a → P ≡ M + A → p * B + M * b < P * b + m * B → (P * P + M * M) * (b * b) + (p * m + m * p) * (B * B) ≤ (p * p + m * m) * (B * B) + (P * M + M * P) * (b * b) → ⊥
crossed a m b A M B p P e f h k =
    let g : (m + a) * B + M * b < (M + A) * b + m * B = rw (← e, ← f) h in
    let l : a * B < A * b = omega arith in
    let s = square_lt_n (a * B) (A * b) l in
    let j : ((M + A) * (M + A) + M * M) * (b * b) + ((m + a) * m + m * (m + a)) * (B * B) ≤ ((m + a) * (m + a) + m * m) * (B * B) + ((M + A) * M + M * (M + A)) * (b * b) = rw (← e, ← f) k in
    let t : (A * A) * (b * b) ≤ (a * a) * (B * B) = blocks a m (B * B) A M (b * b) j in
    omega (arith, s, t)

-- 0 ≤ v < u gives v² < u²
pub square_lt : {v u : Fraction} → Le (nat 0) v → Lt v u → Le (mul u u) (mul v v) → ⊥
unfolding whole mul
square_lt {v} {u} p h k =
    let m : v.minus ≤ v.plus = omega (arith, p.le) in
    let less : v.plus * u.bottom + u.minus * v.bottom < u.plus * v.bottom + v.minus * u.bottom = h.lt in
    let c : u.minus ≤ u.plus = numerator v.plus v.minus v.bottom u.plus u.minus u.bottom v.positive m less in
    crossed (v.plus - v.minus) v.minus v.bottom (u.plus - u.minus) u.minus u.bottom v.plus u.plus (omega arith) (omega arith) less k.le

-- a number at most a root is at most any that is at least it
root_order : {u v q : Fraction} → (Le (nat 0) u → Le (mul u u) q) → Le (nat 0) v → Le q (mul v v) → Le u v
root_order {u} {v} {q} h p k = go (le_or_lt u v)
  where
    go : Le u v ⊎ Lt v u → Le u v
    go (inl e) = e
    go (inr e) = absurd (square_lt p e (le_trans (h (le_trans p (lt_le e))) k))

-- what is below a number at most the figure is at most it
pub lower : (f : Figure) (u v : Fraction) → Le u v → AtMost v f → AtMost u f
lower (number q) u v h k = le_trans h k
lower (root q) u v h k = λ p. le_trans (square_mono p h) (k (le_trans p h))
lower (times c p f) u v h k = (k.0, k.1, le_trans h k.2)
lower (plus f g) u v h k = (k.0, k.1, k.2, k.3, le_trans h k.4)
lower (larger f g) u v h (inl k) = inl (lower f u v h k)
lower (larger f g) u v h (inr k) = inr (lower g u v h k)

-- what is above a number at least the figure is at least it
pub higher : (f : Figure) (u v : Fraction) → Le u v → AtLeast u f → AtLeast v f
higher (number q) u v h k = le_trans k h
higher (root q) u v h k = (le_trans k.0 h, le_trans k.1 (square_mono k.0 h))
higher (times c p f) u v h k = (k.0, k.1, le_trans k.2 h)
higher (plus f g) u v h k = (k.0, k.1, k.2, k.3, le_trans k.4 h)
higher (larger f g) u v h k = (higher f u v h k.0, higher g u v h k.1)

-- no number at most the figure is above one at least it
pub apart : (f : Figure) (u v : Fraction) → AtMost u f → AtLeast v f → Le u v
apart (number q) u v h k = le_trans h k
apart (root q) u v h k = root_order h k.0 k.1
apart (times c p f) u v h k = le_trans h.2 (le_trans (mul_left c p (apart f h.0 k.0 h.1 k.1)) k.2)
apart (plus f g) u v h k =
    le_trans h.4 (le_trans (add_mono (apart f h.0 k.0 h.2 k.2) (apart g h.1 k.1 h.3 k.3)) k.4)
apart (larger f g) u v (inl h) k = apart f u v h k.0
apart (larger f g) u v (inr h) k = apart g u v h k.1
