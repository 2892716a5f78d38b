-- The widths of values, in whole numbers: the reference's mass lies between a and A, the meter's between b and B, in milligrams.
use Rattle.std.proofs.Common.{◌≡◌, ℕ, ◌+◌, ◌*◌, ◌/◌, ◌<◌, ◌≤◌, Bool, true, ℤ, pos, subst, mul-le-mul_right, mul-le-mul_left, arith}
use Rattle.std.proofs.lemmas.Bool.Decides.{nat_tests}
use Rattle.exact.specs.Pairs.{floor, ceiling}
use Rattle.exact.proofs.Quotients.{floor_under, ceil_over, floor_least, floor_most, ceil_most}
use Rattle.pass.specs.Values.{near_one_lem}

-- the test of a meter factor's pair, taken apart
near_low : (q r : ℕ) → near_one_lem (pos q) (pos r) ≡ true → 90000000 ≤ q
near_low q r h = grind (arith, nat_tests)

near_high : (q r : ℕ) → near_one_lem (pos q) (pos r) ≡ true → r ≤ 110000000
near_high q r h = grind (arith, nat_tests)

-- the test at ends that are given otherwise
pub near_same : {t : Bool} {low high l h : ℤ} → t ≡ near_one_lem low high → low ≡ l → high ≡ h → t ≡ near_one_lem l h
near_same {t} {low} {high} {l} {h} e f g = subst (λ (z : ℤ). t ≡ near_one_lem l z) g (subst (λ (z : ℤ). t ≡ near_one_lem z high) f e)

-- a meter factor in 0.9 to 1.1: 9·B ≤ 10·a and 10·A ≤ 11·b
pub near_masses : (a A b B : ℕ) → 0 < b → 0 < B → near_one_lem (pos (floor (100000000 * a) B)) (pos (ceiling (100000000 * A) b)) ≡ true → (9 * B ≤ 10 * a) × (10 * A ≤ 11 * b)
near_masses a A b B o O h =
    let l : 90000000 * B ≤ floor (100000000 * a) B * B = mul-le-mul_right B (near_low (floor (100000000 * a) B) (ceiling (100000000 * A) b) h) in
    let m : ceiling (100000000 * A) b * b ≤ 110000000 * b = mul-le-mul_right b (near_high (floor (100000000 * a) B) (ceiling (100000000 * A) b) h) in
    (omega (arith, (floor_under (100000000 * a) B O).0), omega (arith, (ceil_over (100000000 * A) b o).0))

-- a reference's allowance, as parts of its mass: 10⁸·(A − a) ≤ 260·a
allowance : (a A : ℕ) → 10000000 ≤ a → A ≤ a + (a / 500000 + 6) → 100000000 * A ≤ 100000260 * a
allowance a A h k = omega arith

-- the meter factor's pair: from 10⁸·a/B down to 10⁸·A/b up
pub factor_narrow : (a A b B : ℕ) → 10000000 ≤ a → A ≤ a + (a / 500000 + 6) → 10990000 ≤ b → B ≤ b + 1 → 10 * A ≤ 11 * b → 9 * B ≤ 10 * a → a ≤ A → b ≤ B
    → ceiling (100000000 * A) b ≤ floor (100000000 * a) B + 300
factor_narrow a A b B r s t u v w x y =
    let O : 0 < B = omega arith in
    let q = floor (100000000 * a) B in
    let few : floor (100000000 * a) B ≤ 110000000 = floor_most (100000000 * a) B 110000000 O (omega arith) in
    let near = (floor_under (100000000 * a) B O).1 in
    let step : (floor (100000000 * a) B + 1) * B ≤ (floor (100000000 * a) B + 1) * (b + 1) = mul-le-mul_left (floor (100000000 * a) B + 1) u in
    ceil_most (100000000 * A) b (floor (100000000 * a) B + 300) (omega arith)
    (go (floor (100000000 * a) B) few near step (allowance a A r s))
  where
    go : (q : ℕ) → q ≤ 110000000 → 100000000 * a < q * B + B → (q + 1) * B ≤ (q + 1) * (b + 1) → 100000000 * A ≤ 100000260 * a → 100000000 * A ≤ (q + 300) * b
    go q few near step more = omega arith

-- the pulse factor's pair: from 10⁸·b/A down to 10⁸·B/a up
pub pulse_narrow : (a A b B : ℕ) → 10000000 ≤ a → A ≤ a + (a / 500000 + 6) → B ≤ b + 1 → 9 * B ≤ 10 * a → a ≤ A → b ≤ B
    → ceiling (100000000 * B) a ≤ floor (100000000 * b) A + 300
pulse_narrow a A b B r s u w x y =
    let few : floor (100000000 * b) A ≤ 111111112 = floor_most (100000000 * b) A 111111112 (omega arith) (omega arith) in
    let near = (floor_under (100000000 * b) A (omega arith)).1 in
    let step : (floor (100000000 * b) A + 1) * (100000000 * A) ≤ (floor (100000000 * b) A + 1) * (100000260 * a) = mul-le-mul_left (floor (100000000 * b) A + 1) (allowance a A r s) in
    let part : (floor (100000000 * b) A + 1) * (260 * a) ≤ 111111113 * (260 * a) = mul-le-mul_right (260 * a) (omega arith) in
    ceil_most (100000000 * B) a (floor (100000000 * b) A + 300) (omega arith) (go (floor (100000000 * b) A) near step part)
  where
    go : (q : ℕ) → 100000000 * b < q * A + A → (q + 1) * (100000000 * A) ≤ (q + 1) * (100000260 * a) → (q + 1) * (260 * a) ≤ 111111113 * (260 * a) → 100000000 * B ≤ (q + 300) * a
    go q near step part = omega arith

-- and their ranges
pub factor_low : (a B : ℕ) → 0 < B → 9 * B ≤ 10 * a → 90000000 ≤ floor (100000000 * a) B
factor_low a B o h = floor_least (100000000 * a) B 90000000 o (omega arith)

pub factor_high : (A b : ℕ) → 0 < b → 10 * A ≤ 11 * b → ceiling (100000000 * A) b ≤ 110000000
factor_high A b o h = ceil_most (100000000 * A) b 110000000 o (omega arith)

pub pulse_low : (A b : ℕ) → 0 < A → 10 * A ≤ 11 * b → 90000000 ≤ floor (100000000 * b) A
pulse_low A b o h = floor_least (100000000 * b) A 90000000 o (omega arith)

pub pulse_high : (a B : ℕ) → 0 < a → 9 * B ≤ 10 * a → ceiling (100000000 * B) a ≤ 111111112
pulse_high a B o h = ceil_most (100000000 * B) a 111111112 o (omega arith)
