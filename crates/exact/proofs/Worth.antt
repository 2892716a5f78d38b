-- What a fraction is worth: (p − m)/b. A formula's worth follows its operations, and an order of worths is one of naturals,
-- so that no other proof looks inside a fraction.
use Rattle.std.proofs.Common.{◌≡◌, ℕ, ◌+◌, ◌-◌, ◌*◌, ◌<◌, ◌≤◌, max, ◌⊎◌, ℤ, sym, ap, inl, inr, le_of_eq, mul-le-mul_right, mul_comm, le_antisymm, mul-pos, le_of_mul-le-mul_right, arith, lit<}
use native.Mathlib.Decide.{dec_le}
use borrow.Author.Differences.{up, down}
use Rattle.std.proofs.lemmas.Bool.{cases_lt}
use Rattle.exact.specs.Fractions.{Fraction, Le, Lt, Same, whole, nat, add, neg, mul, div}
use Rattle.exact.proofs.Order.{le_or_lt, not_lt, same_from}

pub record Worth (x : Fraction) (p m b : ℕ) : Type 0 where
  pub positive : 0 < b
  pub is : x.plus * b + m * x.bottom ≡ p * x.bottom + x.minus * b

pub worth_itself : (x : Fraction) → Worth x x.plus x.minus x.bottom
worth_itself x = record { positive = x.positive; is = omega arith }

pub worth_whole : (z : ℤ) → Worth (whole z) (up z) (down z) 1
unfolding whole
worth_whole z = record { positive = lit< tt; is = omega arith }

pub worth_nat : (n : ℕ) → Worth (nat n) n 0 1
unfolding whole
worth_nat n = record { positive = lit< tt; is = omega arith }

pub worth_neg : {x : Fraction} {p m b : ℕ} → Worth x p m b → Worth (neg x) m p b
unfolding neg
worth_neg h = record { positive = h.positive; is = omega (arith, h.is) }

-- an equation of sums, times k
times_n : (a b c d k : ℕ) → a + b ≡ c + d → a * k + b * k ≡ c * k + d * k
times_n a b c d k h = omega (arith, ap (λ (z : ℕ). z * k) h)

-- a sum of two products, times u·v
spread_n : (x y k l u v : ℕ) → (x * k + y * l) * (u * v) ≡ x * u * (k * v) + y * v * (l * u)
spread_n x y k l u v = omega arith

spread_m : (x y k l u v : ℕ) → (x * k + y * l) * (u * v) ≡ x * u * (k * v) + y * u * (l * v)
spread_m x y k l u v = omega arith

add_n : (xp xm xb yp ym yb p m b q n c : ℕ) → xp * b + m * xb ≡ p * xb + xm * b → yp * c + n * yb ≡ q * yb + ym * c
    → (xp * yb + yp * xb) * (b * c) + (m * c + n * b) * (xb * yb) ≡ (p * c + q * b) * (xb * yb) + (xm * yb + ym * xb) * (b * c)
add_n xp xm xb yp ym yb p m b q n c h k =
    go (times_n (xp * b) (m * xb) (p * xb) (xm * b) (yb * c) h) (times_n (yp * c) (n * yb) (q * yb) (ym * c) (xb * b) k)
    (spread_n xp yp yb xb b c) (spread_n m n c b xb yb) (spread_n p q c b xb yb) (spread_n xm ym yb xb b c)
  where
    go : xp * b * (yb * c) + m * xb * (yb * c) ≡ p * xb * (yb * c) + xm * b * (yb * c) → yp * c * (xb * b) + n * yb * (xb * b) ≡ q * yb * (xb * b) + ym * c * (xb * b)
        → (xp * yb + yp * xb) * (b * c) ≡ xp * b * (yb * c) + yp * c * (xb * b) → (m * c + n * b) * (xb * yb) ≡ m * xb * (c * yb) + n * yb * (b * xb)
        → (p * c + q * b) * (xb * yb) ≡ p * xb * (c * yb) + q * yb * (b * xb) → (xm * yb + ym * xb) * (b * c) ≡ xm * b * (yb * c) + ym * c * (xb * b)
        → (xp * yb + yp * xb) * (b * c) + (m * c + n * b) * (xb * yb) ≡ (p * c + q * b) * (xb * yb) + (xm * yb + ym * xb) * (b * c)
    go a d e f g i = rw (e, f, g, i, mul_comm c yb, mul_comm b xb) (omega arith)

pub worth_add : {x y : Fraction} {p m b q n c : ℕ} → Worth x p m b → Worth y q n c → Worth (add x y) (p * c + q * b) (m * c + n * b) (b * c)
unfolding add
worth_add {x} {y} {p} {m} {b} {q} {n} {c} h k = record {
  positive = mul-pos h.positive k.positive;
  is = add_n x.plus x.minus x.bottom y.plus y.minus y.bottom p m b q n c h.is k.is;
}

-- of the product of two signed numbers: each equation times both parts of the other number
mul_n : (xp xm xb yp ym yb p m b q n c : ℕ) → xp * b + m * xb ≡ p * xb + xm * b → yp * c + n * yb ≡ q * yb + ym * c
    → (xp * yp + xm * ym) * (b * c) + (p * n + m * q) * (xb * yb) ≡ (p * q + m * n) * (xb * yb) + (xp * ym + xm * yp) * (b * c)
mul_n xp xm xb yp ym yb p m b q n c h k =
    go (times_n (xp * b) (m * xb) (p * xb) (xm * b) (yp * c) h) (times_n (xp * b) (m * xb) (p * xb) (xm * b) (ym * c) h)
    (times_n (yp * c) (n * yb) (q * yb) (ym * c) (p * xb) k) (times_n (yp * c) (n * yb) (q * yb) (ym * c) (m * xb) k)
  where
    end : (a1 a2 a3 a4 b1 b2 b3 b4 c1 c2 c3 c4 : ℕ) → a1 + b1 ≡ b2 + a2 → a3 + b3 ≡ b4 + a4 → b2 + c1 ≡ c2 + b4 → b1 + c3 ≡ c4 + b3 → (a1 + a4) + (c1 + c4) ≡ (c2 + c3) + (a3 + a2)
    end a1 a2 a3 a4 b1 b2 b3 b4 c1 c2 c3 c4 h k l o = omega arith

    go : xp * b * (yp * c) + m * xb * (yp * c) ≡ p * xb * (yp * c) + xm * b * (yp * c) → xp * b * (ym * c) + m * xb * (ym * c) ≡ p * xb * (ym * c) + xm * b * (ym * c)
        → yp * c * (p * xb) + n * yb * (p * xb) ≡ q * yb * (p * xb) + ym * c * (p * xb) → yp * c * (m * xb) + n * yb * (m * xb) ≡ q * yb * (m * xb) + ym * c * (m * xb)
        → (xp * yp + xm * ym) * (b * c) + (p * n + m * q) * (xb * yb) ≡ (p * q + m * n) * (xb * yb) + (xp * ym + xm * yp) * (b * c)
    go e f g i =
        rw (spread_m xp xm yp ym b c, spread_m p m n q xb yb, spread_m p m q n xb yb, spread_m xp xm ym yp b c)
        (end (xp * b * (yp * c)) (xm * b * (yp * c)) (xp * b * (ym * c)) (xm * b * (ym * c)) (m * xb * (yp * c)) (p * xb * (yp * c)) (m * xb * (ym * c)) (p * xb * (ym * c))
        (p * xb * (n * yb)) (p * xb * (q * yb)) (m * xb * (n * yb)) (m * xb * (q * yb)) e f
        (rw (mul_comm (p * xb) (yp * c), mul_comm (p * xb) (n * yb), mul_comm (p * xb) (q * yb), mul_comm (p * xb) (ym * c)) g)
        (rw (mul_comm (m * xb) (yp * c), mul_comm (m * xb) (n * yb), mul_comm (m * xb) (q * yb), mul_comm (m * xb) (ym * c)) i))

pub worth_mul : {x y : Fraction} {p m b q n c : ℕ} → Worth x p m b → Worth y q n c → Worth (mul x y) (p * q + m * n) (p * n + m * q) (b * c)
unfolding mul
worth_mul {x} {y} {p} {m} {b} {q} {n} {c} h k = record {
  positive = mul-pos h.positive k.positive;
  is = mul_n x.plus x.minus x.bottom y.plus y.minus y.bottom p m b q n c h.is k.is;
}

-- y is above 0, so that its top has a gap: (y.plus − y.minus)·c = q·y.bottom
gap_n : (yp ym yb q c : ℕ) → 0 < q → 0 < yb → 0 < c → yp * c + 0 * yb ≡ q * yb + ym * c → (0 < yp - ym) × ((yp - ym) * c ≡ q * yb)
gap_n yp ym yb q c o b d h = elim (dec_le yp ym) [
  | yes l ↦ absurd (let k : yp * c ≤ ym * c = mul-le-mul_right c l in let r : 0 < q * yb = mul-pos o b in omega arith)
  | no l ↦ (omega arith, (let e : yp ≡ ym + (yp - ym) = omega arith in let f : yp * c ≡ (ym + (yp - ym)) * c = ap (λ (z : ℕ). z * c) e in omega arith))
]

div_n : (xp xm xb yb g p m b q c : ℕ) → xp * b + m * xb ≡ p * xb + xm * b → g * c ≡ q * yb
    → xp * yb * (b * q) + m * c * (xb * g) ≡ p * c * (xb * g) + xm * yb * (b * q)
div_n xp xm xb yb g p m b q c h e =
    let k = times_n (xp * b) (m * xb) (p * xb) (xm * b) (q * yb) h in
    let f : m * xb * (g * c) ≡ m * xb * (q * yb) = ap (λ (z : ℕ). m * xb * z) e in
    let i : p * xb * (g * c) ≡ p * xb * (q * yb) = ap (λ (z : ℕ). p * xb * z) e in
    end xp xm xb yb g p m b q c k f i
  where
    end : (xp xm xb yb g p m b q c : ℕ) → xp * b * (q * yb) + m * xb * (q * yb) ≡ p * xb * (q * yb) + xm * b * (q * yb) → m * xb * (g * c) ≡ m * xb * (q * yb) → p * xb * (g * c) ≡ p * xb * (q * yb)
        → xp * yb * (b * q) + m * c * (xb * g) ≡ p * c * (xb * g) + xm * yb * (b * q)
    end xp xm xb yb g p m b q c k f i = omega arith

-- a quotient by what is above 0
pub worth_div : {x y : Fraction} {p m b q c : ℕ} → 0 < q → Worth x p m b → Worth y q 0 c → Worth (div x y) (p * c) (m * c) (b * q)
unfolding div
worth_div {x} {y} {p} {m} {b} {q} {c} o h k =
    let s = gap_n y.plus y.minus y.bottom q c o y.positive k.positive k.is in
    let above : 0 < x.bottom * (y.plus - y.minus) = mul-pos x.positive s.0 in
    let bottom : max 1 (x.bottom * (y.plus - y.minus)) ≡ x.bottom * (y.plus - y.minus) = omega arith in
    record {
      positive = mul-pos h.positive o;
      is = rw bottom (div_n x.plus x.minus x.bottom y.bottom (y.plus - y.minus) p m b q c h.is s.1);
    }

-- the order of two fractions against the order of their worths
cross_n : {x y : Fraction} {p m b q n c : ℕ} → Worth x p m b → Worth y q n c
    → (x.plus * y.bottom + y.minus * x.bottom) * (b * c) + (m * c + q * b) * (x.bottom * y.bottom) ≡ (p * c + n * b) * (x.bottom * y.bottom) + (x.minus * y.bottom + y.plus * x.bottom) * (b * c)
cross_n {x} {y} {p} {m} {b} {q} {n} {c} h k =
    add_n x.plus x.minus x.bottom y.minus y.plus y.bottom p m b n q c h.is (omega (arith, k.is))

pub worth_le : {x y : Fraction} {p m b q n c : ℕ} → Worth x p m b → Worth y q n c → p * c + n * b ≤ q * b + m * c → Le x y
worth_le {x} {y} {p} {m} {b} {q} {n} {c} h k l =
    let e = cross_n h k in
    let j : (p * c + n * b) * (x.bottom * y.bottom) ≤ (q * b + m * c) * (x.bottom * y.bottom) = mul-le-mul_right (x.bottom * y.bottom) l in
    record { le = le_of_mul-le-mul_right (go _ _ _ _ _ _ (b * c) (x.bottom * y.bottom) e j) (mul-pos h.positive k.positive) }
  where
    go : (u v w z s t i j : ℕ) → u * i + (s + t) * j ≡ w * j + (v + z) * i → w * j ≤ (t + s) * j → u * i ≤ (z + v) * i
    go u v w z s t i j e l = omega arith

pub le_worth : {x y : Fraction} {p m b q n c : ℕ} → Worth x p m b → Worth y q n c → Le x y → p * c + n * b ≤ q * b + m * c
le_worth {x} {y} {p} {m} {b} {q} {n} {c} h k l =
    let e = cross_n h k in
    let j = mul-le-mul_right (b * c) l.le in
    le_of_mul-le-mul_right (go _ _ _ _ _ _ (b * c) (x.bottom * y.bottom) e j) (mul-pos x.positive y.positive)
  where
    go : (u v w z s t i j : ℕ) → u * i + (s + t) * j ≡ w * j + (v + z) * i → u * i ≤ (z + v) * i → w * j ≤ (t + s) * j
    go u v w z s t i j e l = omega arith

pub worth_lt : {x y : Fraction} {p m b q n c : ℕ} → Worth x p m b → Worth y q n c → p * c + n * b < q * b + m * c → Lt x y
worth_lt {x} {y} {p} {m} {b} {q} {n} {c} h k l = go (le_or_lt y x)
  where
    go : Le y x ⊎ Lt x y → Lt x y
    go (inl e) = absurd (omega (arith, le_worth k h e))
    go (inr e) = e

pub lt_worth : {x y : Fraction} {p m b q n c : ℕ} → Worth x p m b → Worth y q n c → Lt x y → p * c + n * b < q * b + m * c
lt_worth {x} {y} {p} {m} {b} {q} {n} {c} h k l = elim (cases_lt (p * c + n * b) (q * b + m * c)) [
  | inl e ↦ e
  | inr e ↦ absurd (not_lt l (worth_le k h (omega arith)))
]

pub worth_same : {x y : Fraction} {p m b q n c : ℕ} → Worth x p m b → Worth y q n c → p * c + n * b ≡ q * b + m * c → Same x y
worth_same h k e = same_from (worth_le h k (omega arith)) (worth_le k h (omega arith))

-- the same worth, written another way
pub worth_of : {x : Fraction} {p m b q n c : ℕ} → Worth x p m b → 0 < c → p * c + n * b ≡ q * b + m * c → Worth x q n c
worth_of {x} {p} {m} {b} {q} {n} {c} h o e =
    let j = times_n (x.plus * b) (m * x.bottom) (p * x.bottom) (x.minus * b) c h.is in
    let k = times_n (p * c) (n * b) (q * b) (m * c) x.bottom e in
    let l : (x.plus * c + n * x.bottom) * b ≡ (q * x.bottom + x.minus * c) * b = go x.plus x.minus x.bottom p m b q n c j k in
    record { positive = o; is = le_antisymm (le_of_mul-le-mul_right (le_of_eq l) h.positive) (le_of_mul-le-mul_right (le_of_eq (sym l)) h.positive) }
  where
    go : (xp xm xb p m b q n c : ℕ) → xp * b * c + m * xb * c ≡ p * xb * c + xm * b * c → p * c * xb + n * b * xb ≡ q * b * xb + m * c * xb → (xp * c + n * xb) * b ≡ (q * xb + xm * c) * b
    go xp xm xb p m b q n c j k = omega arith
