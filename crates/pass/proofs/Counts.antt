-- Counts in the gate in whole numbers: n pulses, d the detector time, p the pulse time, k the factor.
use Rattle.std.proofs.Common.{◌≡◌, ℕ, ◌+◌, ◌-◌, ◌*◌, ◌<◌, ◌≤◌, ℤ, pos, negsuc, nat_abs, ◌≤ℤ◌, refl, mul-le-mul_right, mul-le-mul_left, mul-pos, arith}
use Rattle.std.proofs.lemmas.Int.{ints}
use Rattle.exact.specs.Fractions.{Same, whole, nat, mul, div}
use Rattle.exact.specs.Figures.{number}
use Rattle.exact.specs.Pairs.{Holds}
use Rattle.exact.proofs.Pairs.{holds_same, holds_quotient}
use Rattle.exact.proofs.Worth.{worth_nat, worth_mul, worth_div, worth_same}
use Rattle.pass.specs.Gates.{interpolated, mass_of, mass_low, mass_high}

-- the count is at most one pulse from the pulses that were counted
pub count_most : (n d p : ℕ) → n ≤ 800000 → ((d - p) + (p - d)) * n ≤ p → n * d ≤ 800001 * p
count_most n d p few close =
    let a : n * d ≤ n * (p + (d - p)) = mul-le-mul_left n (omega arith) in
    let b : n * p ≤ 800000 * p = mul-le-mul_right p few in
    omega arith

pub count_least : (n d p : ℕ) → 1100 ≤ n → ((d - p) + (p - d)) * n ≤ p → 1099 * p ≤ n * d
count_least n d p some close =
    let a : n * p ≤ n * (d + (p - d)) = mul-le-mul_left n (omega arith) in
    let b : 1100 * p ≤ n * p = mul-le-mul_right p some in
    omega arith

-- of the mass: 10¹³·c over p·k, c being the product n·d
pub mass_most : (c p k : ℕ) → c ≤ 800001 * p → 10000000 ≤ k → 10000000000000 * c ≤ 800001000000 * (p * k)
mass_most c p k h l = let a : p * 10000000 ≤ p * k = mul-le-mul_left p l in omega arith

pub mass_least : (c p k : ℕ) → 1099 * p ≤ c → k ≤ 1000000000 → 10990000 * (p * k) ≤ 10000000000000 * c
mass_least c p k h l = let a : p * k ≤ p * 1000000000 = mul-le-mul_left p l in omega arith

pub mass_same : (c n d p k : ℕ) → c ≡ n * d → 0 < p → 0 < k → Same (div (nat (10000000000000 * c)) (nat (p * k))) (mass_of (pos k) (interpolated (pos n) (pos d) (pos p)))
unfolding mass_of interpolated
mass_same c n d p k e o q =
    worth_same (worth_div (mul-pos o q) (worth_nat (10000000000000 * c)) (worth_nat (p * k)))
    (worth_div q (worth_mul (worth_nat 10000000000000) (worth_div o (worth_mul (worth_nat n) (worth_nat d)) (worth_nat p))) (worth_nat k)) (rw e (omega arith))

pub count_same : (c n d p : ℕ) → c ≡ n * d → 0 < p → Same (div (nat (10000 * c)) (nat p)) (mul (interpolated (pos n) (pos d) (pos p)) (nat 10000))
unfolding interpolated
count_same c n d p e o =
    worth_same (worth_div o (worth_nat (10000 * c)) (worth_nat p))
    (worth_mul (worth_div o (worth_mul (worth_nat n) (worth_nat d)) (worth_nat p)) (worth_nat 10000)) (rw e (omega arith))

-- the pair of a counted mass holds it
pub mass_holds : (k n d p : ℕ) → 0 < p → 0 < k → Holds whole (pos (mass_low k n d p)) (pos (mass_high k n d p)) (number (mass_of (pos k) (interpolated (pos n) (pos d) (pos p))))
mass_holds k n d p o q = holds_same (mass_same (n * d) n d p k refl o q) (holds_quotient (10000000000000 * (n * d)) (p * k) (mul-pos o q))

-- the same of a record's fields that are in range
pub mass_holds_read : (k : ℕ) (n d p : ℤ) → 0 < k → pos 0 ≤ℤ n → pos 0 ≤ℤ d → pos 1 ≤ℤ p
    → Holds whole (pos (mass_low k (nat_abs n) (nat_abs d) (nat_abs p))) (pos (mass_high k (nat_abs n) (nat_abs d) (nat_abs p))) (number (mass_of (pos k) (interpolated n d p)))
mass_holds_read k (pos n) (pos d) (pos p) q a b c = mass_holds k n d p (omega (arith, ints)) q
mass_holds_read k (negsuc n) d p q a b c = absurd a.le
mass_holds_read k (pos n) (negsuc d) p q a b c = absurd b.le
mass_holds_read k (pos n) (pos d) (negsuc p) q a b c = absurd c.le
