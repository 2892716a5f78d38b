-- b against its range, in whole numbers: b times 10⁸r², where r is in 0.01 kg/m³.
use Rattle.std.specs.Prelude.{◌≡◌, ℕ, ◌+◌, ◌*◌, ◌<◌, ◌≤◌, pos, neg_ℤ, refl}
use Rattle.std.proofs.Common.{arith, mul-pos, mul-le-mul, lit<}
use Rattle.std.proofs.lemmas.Int.{ints}
use Rattle.exact.specs.Pairs.{parts}
use Rattle.exact.proofs.Worth.{Worth, worth_whole, worth_nat, worth_add, worth_mul, worth_div, worth_of}
use Rattle.petroleum.specs.Exponential.{Figures, density_at_15, density_squared, expansion_at_15}
use Rattle.liquid.specs.Readings.{parts_worth}

pub square_most : (r : ℕ) → r ≤ 120000 → r * r ≤ 14400000000
square_most r h = let a : r * r ≤ 120000 * 120000 = mul-le-mul h h in omega arith

pub square_least : (r : ℕ) → 60000 ≤ r → 3600000000 ≤ r * r
square_least r h = let a : 60000 * 60000 ≤ r * r = mul-le-mul h h in omega arith

-- the density and its square
pub density_worth : (f : Figures) (r : ℕ) → f.density ≡ pos r → Worth (density_at_15 f) r 0 100
density_worth f r e = worth_of (worth_div (lit< tt) (worth_whole f.density) (worth_nat 100)) (lit< tt) (omega (arith, ints))

pub squared_worth : (f : Figures) (r : ℕ) → f.density ≡ pos r → Worth (density_squared f) (r * r) 0 10000
squared_worth f r e = worth_of (worth_mul (density_worth f r e) (density_worth f r e)) (lit< tt) (omega arith)

-- what is taken away
minus_worth : (k2 : ℕ) → Worth (parts 100000000 (neg_ℤ (pos k2))) 0 k2 100000000
minus_worth k2 =
    worth_of (worth_div (lit< tt) (worth_whole (neg_ℤ (pos k2))) (worth_nat 100000000)) (lit< tt) (omega (arith, ints))

-- b is (k0·10⁸ + k1·10⁶·r − k2·r²)/(10⁸r²)
expansion_n : (r k0 k1 k2 : ℕ) → ((k0 * 10000 * (10000 * r) + k1 * 100 * (10000 * (r * r))) * 100000000 + 0 * (10000 * (r * r) * (10000 * r))) * (100000000 * (r * r)) + k2 * (r * r) * (10000 * (r * r) * (10000 * r) * 100000000)
    ≡ (100000000 * k0 + 1000000 * k1 * r) * (10000 * (r * r) * (10000 * r) * 100000000) + ((0 * 10000 * (10000 * r) + 0 * 100 * (10000 * (r * r))) * 100000000 + k2 * (10000 * (r * r) * (10000 * r))) * (100000000 * (r * r))
expansion_n r k0 k1 k2 = omega arith

pub expansion_worth : (r k0 k1 k2 : ℕ) → 0 < r → Worth (expansion_at_15 (record { density = pos r; k0 = pos k0; k1 = pos k1; k2 = neg_ℤ (pos k2) })) (100000000 * k0 + 1000000 * k1 * r) (k2 * (r * r)) (100000000 * (r * r))
unfolding expansion_at_15
expansion_worth r k0 k1 k2 o =
    let f : Figures = record { density = pos r; k0 = pos k0; k1 = pos k1; k2 = neg_ℤ (pos k2) } in
    let s : 0 < r * r = mul-pos o o in
    worth_of (worth_add (worth_add (worth_div s (parts_worth 10000 k0 (lit< tt)) (squared_worth f r refl)) (worth_div o (parts_worth 10000 k1 (lit< tt)) (density_worth f r refl))) (minus_worth k2)) (omega arith)
    (expansion_n r k0 k1 k2)
