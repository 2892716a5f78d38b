-- The test of b, in whole numbers: b times 10⁸r², where r is in 0.01 kg/m³.
use Rattle.std.specs.Prelude.{◌≡◌, ℕ, ◌+◌, ◌*◌, ◌<◌, ◌≤◌, ◌&&◌, pos, neg_ℤ, nat_le, refl}
use Rattle.std.proofs.Common.{◌∙◌, inl, inr, arith, mul-le-mul, lit<}
use Rattle.std.proofs.lemmas.Bool.{cases_lt}
use Rattle.std.proofs.lemmas.Bool.Decides.{nat_tests}
use Rattle.exact.specs.Fractions.{Fraction}
use Rattle.exact.specs.Pairs.{parts}
use Rattle.exact.proofs.Worth.{Worth, worth_le, worth_lt}
use Rattle.liquid.specs.Readings.{parts_worth}
use Rattle.petroleum.specs.Exponential.{expansion_at_15, no_more, expansive}
use Rattle.petroleum.specs.Openings.{square_most, expansion_worth}

-- what K0 and K1 add, and what K2 takes away
pub above_most : (r k0 k1 : ℕ) → r ≤ 120000 → k0 ≤ 30000000 → k1 ≤ 10000 → 100000000 * k0 + 1000000 * k1 * r ≤ 4200000000000000
above_most r k0 k1 h i k = let a : k1 * r ≤ 10000 * 120000 = mul-le-mul k h in omega arith

pub below_most : (r k2 : ℕ) → r ≤ 120000 → k2 ≤ 340000 → k2 * (r * r) ≤ 4896000000000000
below_most r k2 h k = let a : k2 * (r * r) ≤ 340000 * 14400000000 = mul-le-mul k (square_most r h) in omega arith

-- the test of two numbers on their worths, as one of naturals
test_is : {x y : Fraction} {p m b q n c : ℕ} → Worth x p m b → Worth y q n c → no_more x y ≡ nat_le (p * c + n * b) (q * b + m * c)
test_is {x} {y} {p} {m} {b} {q} {n} {c} h k = elim (cases_lt (q * b + m * c) (p * c + n * b)) [
  | inl l ↦ (let w = (worth_lt k h (omega arith)).lt in grind (arith, nat_tests))
  | inr l ↦ (let w = (worth_le h k l).le in grind (arith, nat_tests))
]

-- and against the two ends of its range
least_is : (r k0 k1 k2 : ℕ) → 0 < r → no_more (parts 10000 (pos 1)) (expansion_at_15 (record { density = pos r; k0 = pos k0; k1 = pos k1; k2 = neg_ℤ (pos k2) })) ≡ nat_le (10000 * (r * r) + k2 * (r * r)) (100000000 * k0 + 1000000 * k1 * r)
least_is r k0 k1 k2 o = test_is (parts_worth 10000 1 (lit< tt)) (expansion_worth r k0 k1 k2 o) ∙ go (r * r) (100000000 * k0 + 1000000 * k1 * r) (k2 * (r * r))
  where
    go : (s a b : ℕ) → nat_le (1 * (100000000 * s) + b * 10000) (a * 10000 + 0 * (100000000 * s)) ≡ nat_le (10000 * s + b) a
    go s a b = grind (arith, nat_tests)

most_is : (r k0 k1 k2 : ℕ) → 0 < r → no_more (expansion_at_15 (record { density = pos r; k0 = pos k0; k1 = pos k1; k2 = neg_ℤ (pos k2) })) (parts 1000 (pos 2)) ≡ nat_le (100000000 * k0 + 1000000 * k1 * r) (200000 * (r * r) + k2 * (r * r))
most_is r k0 k1 k2 o = test_is (expansion_worth r k0 k1 k2 o) (parts_worth 1000 2 (lit< tt)) ∙ go (r * r) (100000000 * k0 + 1000000 * k1 * r) (k2 * (r * r))
  where
    go : (s a b : ℕ) → nat_le (a * 1000 + 0 * (100000000 * s)) (2 * (100000000 * s) + b * 1000) ≡ nat_le a (200000 * s + b)
    go s a b = grind (arith, nat_tests)

-- the tests of b together
pub expansive_is : (r k0 k1 k2 : ℕ) → 0 < r → expansive (record { density = pos r; k0 = pos k0; k1 = pos k1; k2 = neg_ℤ (pos k2) })
    ≡ (nat_le (10000 * (r * r) + k2 * (r * r)) (100000000 * k0 + 1000000 * k1 * r) && nat_le (100000000 * k0 + 1000000 * k1 * r) (200000 * (r * r) + k2 * (r * r)))
expansive_is r k0 k1 k2 o = rw (least_is r k0 k1 k2 o, most_is r k0 k1 k2 o) refl
