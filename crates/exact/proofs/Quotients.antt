-- Quotients by what is above 0: bounds go through them, and floor and ceiling enclose them.
use Rattle.std.proofs.Common.{◌≡◌, ℕ, ◌+◌, ◌-◌, ◌*◌, ◌/◌, ◌^◌, ◌<◌, ◌≤◌, ℤ, pos, negsuc, nat_abs, ◌≤ℤ◌, refl, ap, lt_of_mul-lt-mul_right, mul-le-mul_left, le_of_mul-le-mul_right, arith}
use Rattle.std.specs.Int.{div_ceil}
use Rattle.std.proofs.lemmas.Grind.{div_ceil_times}
use Rattle.exact.specs.Fractions.{Fraction, Le, Lt, nat, mul, div}
use Rattle.exact.specs.Pairs.{floor, ceiling}
use Rattle.exact.proofs.Worth.{Worth, worth_itself, worth_nat, worth_mul, worth_div, worth_le, le_worth, worth_of, lt_worth}

-- what is above 0 is worth a natural above 0 over its bottom
above : (b : Fraction) → Lt (nat 0) b → (0 < b.plus - b.minus) × Worth b (b.plus - b.minus) 0 b.bottom
above b h =
    let l = lt_worth (worth_nat 0) (worth_itself b) h in
    let g : 0 < b.plus - b.minus = omega arith in
    (g, worth_of (worth_itself b) b.positive (go b.plus b.minus b.bottom (omega arith)))
  where
    go : (p m d : ℕ) → m < p → p * d + 0 * d ≡ (p - m) * d + m * d
    go p m d h = let e : p ≡ m + (p - m) = omega arith in let f : p * d ≡ (m + (p - m)) * d = ap (λ (z : ℕ). z * d) e in omega arith

-- q·b ≤ a gives q ≤ a/b
pub quotient_least : {a b q : Fraction} → Lt (nat 0) b → Le (mul q b) a → Le q (div a b)
quotient_least {a} {b} {q} o h =
    let w = above b o in
    let l = le_worth (worth_mul (worth_itself q) w.1) (worth_itself a) h in
    worth_le (worth_itself q) (worth_div w.0 (worth_itself a) w.1) (go q.plus q.minus q.bottom a.plus a.minus a.bottom (b.plus - b.minus) b.bottom l)
  where
    go : (qp qm qb ap am ab g bb : ℕ) → (qp * g + qm * 0) * ab + am * (qb * bb) ≤ ap * (qb * bb) + (qp * 0 + qm * g) * ab → qp * (ab * g) + am * bb * qb ≤ ap * bb * qb + qm * (ab * g)
    go qp qm qb ap am ab g bb h = omega arith

-- a ≤ q·b gives a/b ≤ q
pub quotient_most : {a b q : Fraction} → Lt (nat 0) b → Le a (mul q b) → Le (div a b) q
quotient_most {a} {b} {q} o h =
    let w = above b o in
    let l = le_worth (worth_itself a) (worth_mul (worth_itself q) w.1) h in
    worth_le (worth_div w.0 (worth_itself a) w.1) (worth_itself q) (go q.plus q.minus q.bottom a.plus a.minus a.bottom (b.plus - b.minus) b.bottom l)
  where
    go : (qp qm qb ap am ab g bb : ℕ) → ap * (qb * bb) + (qp * 0 + qm * g) * ab ≤ (qp * g + qm * 0) * ab + am * (qb * bb) → ap * bb * qb + qm * (ab * g) ≤ qp * (ab * g) + am * bb * qb
    go qp qm qb ap am ab g bb h = omega arith

-- and back
pub least_quotient : {a b q : Fraction} → Lt (nat 0) b → Le q (div a b) → Le (mul q b) a
least_quotient {a} {b} {q} o h =
    let w = above b o in
    let l = le_worth (worth_itself q) (worth_div w.0 (worth_itself a) w.1) h in
    worth_le (worth_mul (worth_itself q) w.1) (worth_itself a) (go q.plus q.minus q.bottom a.plus a.minus a.bottom (b.plus - b.minus) b.bottom l)
  where
    go : (qp qm qb ap am ab g bb : ℕ) → qp * (ab * g) + am * bb * qb ≤ ap * bb * qb + qm * (ab * g) → (qp * g + qm * 0) * ab + am * (qb * bb) ≤ ap * (qb * bb) + (qp * 0 + qm * g) * ab
    go qp qm qb ap am ab g bb h = omega arith

pub most_quotient : {a b q : Fraction} → Lt (nat 0) b → Le (div a b) q → Le a (mul q b)
most_quotient {a} {b} {q} o h =
    let w = above b o in
    let l = le_worth (worth_div w.0 (worth_itself a) w.1) (worth_itself q) h in
    worth_le (worth_itself a) (worth_mul (worth_itself q) w.1) (go q.plus q.minus q.bottom a.plus a.minus a.bottom (b.plus - b.minus) b.bottom l)
  where
    go : (qp qm qb ap am ab g bb : ℕ) → ap * bb * qb + qm * (ab * g) ≤ qp * (ab * g) + am * bb * qb → ap * (qb * bb) + (qp * 0 + qm * g) * ab ≤ (qp * g + qm * 0) * ab + am * (qb * bb)
    go qp qm qb ap am ab g bb h = omega arith

-- floor and ceiling of naturals
pub floor_under : (n d : ℕ) → 0 < d → (n / d * d ≤ n) × (n < n / d * d + d)
floor_under n d p = (omega arith, omega arith)

pub ceil_over : (n d : ℕ) → 0 < d → (n ≤ ceiling n d * d) × (ceiling n d * d < n + d)
ceil_over n d p = let h = floor_under (n + (d - 1)) d p in (omega arith, omega arith)

-- the library's quotient rounded up is the same
pub div_ceil_ceiling : (n d : ℕ) → 0 < d → div_ceil n d ≡ ceiling n d
div_ceil_ceiling n d o =
    let f = div_ceil_times n d o in
    let g = ceil_over n d o in
    let u : div_ceil n d * d < (ceiling n d + 1) * d = omega arith in
    let v : ceiling n d * d < (div_ceil n d + 1) * d = omega arith in
    let a : div_ceil n d < ceiling n d + 1 = lt_of_mul-lt-mul_right d u in
    let b : ceiling n d < div_ceil n d + 1 = lt_of_mul-lt-mul_right d v in
    omega arith

-- q·d ≤ n and n ≤ q·d, as bounds of n/d
pub nat_least : (n d q : ℕ) → 0 < d → q * d ≤ n → Le (nat q) (div (nat n) (nat d))
nat_least n d q o h = worth_le (worth_nat q) (worth_div o (worth_nat n) (worth_nat d)) (omega arith)

pub nat_most : (n d q : ℕ) → 0 < d → n ≤ q * d → Le (div (nat n) (nat d)) (nat q)
nat_most n d q o h = worth_le (worth_div o (worth_nat n) (worth_nat d)) (worth_nat q) (omega arith)

-- a quotient that is at most k, its floor and its ceiling
pub floor_most : (n d k : ℕ) → 0 < d → n ≤ k * d → n / d ≤ k
floor_most n d k o h = let f = floor_under n d o in le_of_mul-le-mul_right (omega (arith, f.0)) o

pub ceil_most : (n d k : ℕ) → 0 < d → n ≤ k * d → ceiling n d ≤ k
ceil_most n d k o h =
    let f = ceil_over n d o in
    let l : ceiling n d * d < (k + 1) * d = omega (arith, f.1) in
    omega (arith, lt_of_mul-lt-mul_right d l)

pub floor_ceil : (n d : ℕ) → 0 < d → (n / d ≤ ceiling n d) × (ceiling n d ≤ n / d + 1)
floor_ceil n d o =
    let f = floor_under n d o in
    let g = ceil_over n d o in
    (le_of_mul-le-mul_right (omega (arith, f.0, g.0)) o, ceil_most n d (n / d + 1) o (omega (arith, f.1)))

-- the ends of a quotient stay in order
pub ratio_ordered : (k a A b B : ℕ) → 0 < b → a ≤ A → b ≤ B → floor (k * a) B ≤ ceiling (k * A) b
ratio_ordered k a A b B o h j =
    let f = floor_under (k * a) B (omega arith) in
    let g = ceil_over (k * A) b o in
    let m : k * a ≤ k * A = mul-le-mul_left k h in
    let n : ceiling (k * A) b * b ≤ ceiling (k * A) b * B = mul-le-mul_left (ceiling (k * A) b) j in
    let l : floor (k * a) B * B ≤ ceiling (k * A) b * B = omega (arith, f.0, g.0) in
    le_of_mul-le-mul_right l (omega arith)

-- a whole number that is not negative
pub sized : (z : ℤ) → pos 0 ≤ℤ z → z ≡ pos (nat_abs z)
sized (pos n) h = refl
sized (negsuc n) h = absurd h.le

-- a floor that is at least k
pub floor_least : (n d k : ℕ) → 0 < d → k * d ≤ n → k ≤ n / d
floor_least n d k o h =
    let f = floor_under n d o in
    let l : k * d < (n / d + 1) * d = omega (arith, f.1) in
    omega (arith, lt_of_mul-lt-mul_right d l)

-- a quotient of at most 10⁹, in steps, fits 63 bits
pub floor_fits : (n d : ℕ) → 0 < d → n ≤ 1000000000 * d → floor (100000000 * n) d < 2 ^ 63
floor_fits n d o h = let l = floor_most (100000000 * n) d 100000000000000000 o (omega arith) in omega arith

pub ceil_fits : (n d : ℕ) → 0 < d → n ≤ 1000000000 * d → ceiling (100000000 * n) d < 2 ^ 63
ceil_fits n d o h = let l = ceil_most (100000000 * n) d 100000000000000000 o (omega arith) in omega arith
