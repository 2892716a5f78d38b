-- The thermal part of the exponential liquid: e(−bΔ(1 + 0.8bΔ)) in whole units of 10⁻¹².
-- Here y is the size of bΔ in units and s that of 0.8(bΔ)²; exactly they are N/M and 8N²/(10M²).
use Rattle.std.specs.Prelude.{◌≡◌, ℕ, ◌+◌, ◌-◌, ◌*◌, ◌<◌, ◌≤◌, ℤ, pos, ◌+ℤ◌, ◌-ℤ◌, nat_le, refl}
use Rattle.std.proofs.Common.{arith, leb-true, leb-false, mul-pos, mul-le-mul, mul-le-mul_left, mul-le-mul_right, le_of_mul-le-mul_right, lit<}
use Rattle.std.proofs.lemmas.Int.{ints}
use Rattle.std.proofs.lemmas.Bool.{cond_both}
use Rattle.exact.specs.Fractions.{Fraction, nat, add, neg, sub, mul}
use Rattle.exact.specs.Pairs.{parts}
use Rattle.exact.proofs.Worth.{Worth, worth_nat, worth_add, worth_neg, worth_mul, worth_of}
use Rattle.exact.proofs.Quotients.{floor_under}
use Rattle.expsum.specs.Series.{e}
use Rattle.expsum.specs.Terms.{terms}
use Rattle.expsum.proofs.Near.{Near}
use Rattle.expsum.proofs.Bounds.{Sized, sized}
use Rattle.expsum.proofs.Sums.{sum_rising, sum_falling}
use Rattle.petroleum.specs.Exponential.{Figures, figures, expansion_at_15, expanded, thermal}
use Rattle.petroleum.specs.Rounded.{rising, falling, slope, away, straight, bent, thermal_units}
use Rattle.liquid.specs.Questions.{degrees}
use Rattle.petroleum.specs.declared.exponential.Exponential.{Exponential}
use Rattle.liquid.specs.Readings.{parts_worth, degrees_worth}
use Rattle.petroleum.specs.Openings.{expansion_worth}

-- b is the slope over 10⁸r²
slope_is : (l : Exponential) → slope l + l.coefficients.minus_k2 * (l.density.hundredths * l.density.hundredths) ≡ 100000000 * l.coefficients.k0 + 1000000 * l.coefficients.k1 * l.density.hundredths
unfolding slope
slope_is l = omega (arith, l.least)

pub slope_most : (l : Exponential) → slope l ≤ 200000 * (l.density.hundredths * l.density.hundredths)
unfolding slope
slope_most l = omega (arith, l.most)

density_positive : (l : Exponential) → 0 < l.density.hundredths
density_positive l = omega (arith, l.density.ranged.0)

slope_worth : (l : Exponential) → Worth (expansion_at_15 (figures l)) (slope l) 0 (100000000 * (l.density.hundredths * l.density.hundredths))
slope_worth l =
    worth_of (expansion_worth l.density.hundredths l.coefficients.k0 l.coefficients.k1 l.coefficients.minus_k2 (density_positive l)) (omega (arith, mul-pos (density_positive l) (density_positive l))) (go (slope l) (l.coefficients.minus_k2 * (l.density.hundredths * l.density.hundredths)) (100000000 * l.coefficients.k0 + 1000000 * l.coefficients.k1 * l.density.hundredths) (100000000 * (l.density.hundredths * l.density.hundredths)) (slope_is l))
  where
    go : (s m a b : ℕ) → s + m ≡ a → a * b + 0 * b ≡ s * b + m * b
    go s m a b h = rw (← h) (omega arith)

-- bΔ above and below 15 °C
warm_worth : (f : Figures) (t : ℤ) (n a s b : ℕ) → n ≡ 2500 + a → t +ℤ pos 1000 ≡ pos n → Worth (expansion_at_15 f) s 0 (100000000 * b) → Worth (expanded f t) (s * a) 0 (10000000000 * b)
unfolding expanded
warm_worth f t n a s b h i w =
    let Δ : Worth (sub (degrees t) (nat 15)) a 0 100 = worth_of (worth_add (degrees_worth t n i) (worth_neg (worth_nat 15))) (lit< tt) (omega arith) in
    worth_of (worth_mul w Δ) (omega (arith, w.positive)) (omega arith)

cold_worth : (f : Figures) (t : ℤ) (n a s b : ℕ) → n + a ≡ 2500 → t +ℤ pos 1000 ≡ pos n → Worth (expansion_at_15 f) s 0 (100000000 * b) → Worth (expanded f t) 0 (s * a) (10000000000 * b)
unfolding expanded
cold_worth f t n a s b h i w =
    let Δ : Worth (sub (degrees t) (nat 15)) 0 a 100 = worth_of (worth_add (degrees_worth t n i) (worth_neg (worth_nat 15))) (lit< tt) (omega arith) in
    worth_of (worth_mul w Δ) (omega (arith, w.positive)) (omega arith)

-- the exponent's size: N(10M + 8N)/(10M²) above 15 °C, and N(10M − 8N)/(10M²) below

bend_warm : (y : Fraction) (N M : ℕ) → Worth y N 0 M → Worth (neg (neg (mul y (add (nat 1) (mul (parts 10 (pos 8)) y))))) (N * (10 * M + 8 * N)) 0 (M * (10 * M))
bend_warm y N M w =
    let v : Worth (add (nat 1) (mul (parts 10 (pos 8)) y)) (10 * M + 8 * N) 0 (10 * M) = worth_of (worth_add (worth_nat 1) (worth_mul (parts_worth 10 8 (lit< tt)) w)) (omega (arith, w.positive)) (omega arith) in
    worth_of (worth_neg (worth_neg (worth_mul w v))) (mul-pos w.positive v.positive) (omega arith)

bend_cold : (y : Fraction) (N M D : ℕ) → D + 8 * N ≡ 10 * M → Worth y 0 N M → Worth (neg (mul y (add (nat 1) (mul (parts 10 (pos 8)) y)))) (N * D) 0 (M * (10 * M))
bend_cold y N M D h w =
    let v : Worth (add (nat 1) (mul (parts 10 (pos 8)) y)) D 0 (10 * M) = worth_of (worth_add (worth_nat 1) (worth_mul (parts_worth 10 8 (lit< tt)) w)) (omega (arith, w.positive)) (go D N M h) in
    worth_of (worth_neg (worth_mul w v)) (mul-pos w.positive v.positive) (omega arith)
  where
    go : (D N M : ℕ) → D + 8 * N ≡ 10 * M → (1 * (10 * M) + (8 * 0 + 0 * N) * 1) * (10 * M) + 0 * (1 * (10 * M)) ≡ D * (1 * (10 * M)) + (0 * (10 * M) + (8 * N + 0 * 0) * 1) * (10 * M)
    go D N M h =
        let k : (D + 8 * N) * (10 * M) ≡ 10 * M * (10 * M) = rw h refl in
        omega arith

-- s is near 0.8y²
square_least : (y s N M : ℕ) → y * M ≤ 1000000000000 * N → s * 5000000000000 ≤ 4 * y * y → 10 * s * (M * M) ≤ 8 * 1000000000000 * (N * N)
square_least y s N M h k =
    let a : y * M * (y * M) ≤ 1000000000000 * N * (1000000000000 * N) = mul-le-mul h h in
    let b : s * 5000000000000 * (M * M) ≤ 4 * y * y * (M * M) = mul-le-mul_right (M * M) k in
    omega arith

square_most : (y s N M : ℕ) → y ≤ 70000000000 → 1000000000000 * N ≤ y * M + M → 4 * y * y ≤ s * 5000000000000 + 5000000000000 → 8 * 1000000000000 * (N * N) ≤ (10 * s + 12) * (M * M)
square_most y s N M l h k =
    let a : 1000000000000 * N * (1000000000000 * N) ≤ (y * M + M) * (y * M + M) = mul-le-mul h h in
    let b : 4 * y * y * (M * M) ≤ (s * 5000000000000 + 5000000000000) * (M * M) = mul-le-mul_right (M * M) k in
    let c : (16 * y + 8) * (M * M) ≤ 2000000000000 * (M * M) = mul-le-mul_right (M * M) (omega arith) in
    omega arith

-- the exponent is near its size
near_warm : (y s N M : ℕ) → y ≤ 70000000000 → y * M ≤ 1000000000000 * N → 1000000000000 * N ≤ y * M + M → s * 5000000000000 ≤ 4 * y * y → 4 * y * y ≤ s * 5000000000000 + 5000000000000
    → ((y + s) * (M * (10 * M)) ≤ 1000000000000 * (N * (10 * M + 8 * N)) + 4 * (M * (10 * M))) × (1000000000000 * (N * (10 * M + 8 * N)) ≤ (y + s) * (M * (10 * M)) + 4 * (M * (10 * M)))
near_warm y s N M l h i j k =
    let a = square_least y s N M h j in
    let b = square_most y s N M l i k in
    let c : y * M * (10 * M) ≤ 1000000000000 * N * (10 * M) = mul-le-mul_right (10 * M) h in
    let d : 1000000000000 * N * (10 * M) ≤ (y * M + M) * (10 * M) = mul-le-mul_right (10 * M) i in
    (omega arith, omega arith)

near_cold : (y s z N M D : ℕ) → y ≤ 70000000000 → z + s ≡ y → D + 8 * N ≡ 10 * M → y * M ≤ 1000000000000 * N → 1000000000000 * N ≤ y * M + M → s * 5000000000000 ≤ 4 * y * y → 4 * y * y ≤ s * 5000000000000 + 5000000000000
    → (z * (M * (10 * M)) ≤ 1000000000000 * (N * D) + 4 * (M * (10 * M))) × (1000000000000 * (N * D) ≤ z * (M * (10 * M)) + 4 * (M * (10 * M)))
near_cold y s z N M D l o p h i j k =
    let a = square_least y s N M h j in
    let b = square_most y s N M l i k in
    let c : y * M * (10 * M) ≤ 1000000000000 * N * (10 * M) = mul-le-mul_right (10 * M) h in
    let d : 1000000000000 * N * (10 * M) ≤ (y * M + M) * (10 * M) = mul-le-mul_right (10 * M) i in
    let f : N * (D + 8 * N) ≡ N * (10 * M) = rw p refl in
    let g : (z + s) * (M * M) ≡ y * (M * M) = rw o refl in
    (omega arith, omega arith)

-- the whole numbers behind the exponent
pub record Bent (l : Exponential) (n y s N M : ℕ) : Type 0 where
  pub under : y * M ≤ 1000000000000 * N
  pub over : 1000000000000 * N ≤ y * M + M
  pub bent_under : s * 5000000000000 ≤ 4 * y * y
  pub bent_over : 4 * y * y ≤ s * 5000000000000 + 5000000000000
  pub straight_most : y ≤ 20000000 * away n

straight_n : (y c a b : ℕ) → 0 < b → c ≤ 200000 * b → y * b ≤ 100 * c * a → y ≤ 20000000 * a
straight_n y c a b o h k =
    let m : c * a ≤ 200000 * b * a = mul-le-mul_right a h in
    let t : y * b ≤ 20000000 * a * b = omega arith in
    le_of_mul-le-mul_right t o

pub bent_is : (l : Exponential) (n : ℕ) → Bent l n (straight l n) (bent (straight l n)) (slope l * away n) (10000000000 * (l.density.hundredths * l.density.hundredths))
unfolding straight bent
bent_is l n =
    let o = mul-pos (density_positive l) (density_positive l) in
    let f = floor_under (100 * slope l * away n) (l.density.hundredths * l.density.hundredths) o in
    let g = floor_under (4 * straight l n * straight l n) 5000000000000 (lit< tt) in
    let t = go (straight l n) (slope l) (away n) (l.density.hundredths * l.density.hundredths) o (slope_most l) f.0 (omega (arith, f.1)) in
    record { under = t.0; over = t.1; straight_most = t.2; bent_under = g.0; bent_over = omega (arith, g.1) }
  where
    go : (y c a b : ℕ) → 0 < b → c ≤ 200000 * b → y * b ≤ 100 * c * a → 100 * c * a ≤ y * b + b
        → (y * (10000000000 * b) ≤ 1000000000000 * (c * a)) × (1000000000000 * (c * a) ≤ y * (10000000000 * b) + 10000000000 * b) × (y ≤ 20000000 * a)
    go y c a b o h i j = (omega arith, omega arith, straight_n y c a b o h i)

-- how large the exponent is
warm_most : (y s : ℕ) → y ≤ 70000000000 → s * 5000000000000 ≤ 4 * y * y → y + s ≤ 73920000000
warm_most y s h k = let a : y * y ≤ 70000000000 * 70000000000 = mul-le-mul h h in omega arith

cold_less : (y s : ℕ) → y ≤ 70000000000 → s * 5000000000000 ≤ 4 * y * y → s ≤ y
cold_less y s h k = let a : y * y ≤ y * 70000000000 = mul-le-mul_left y h in omega arith

-- what the thermal part is: near the exact one, and in its range
pub record Thermal (units : ℕ) (x : Fraction) : Type 0 where
  pub near : Near 400 units x
  pub least : 926000000000 ≤ units
  pub most : units ≤ 1053000000000

falling_range : (size even odd : ℕ) → size ≤ 73920000000 → Sized size even odd → (926000000000 ≤ even - odd) × (even - odd ≤ 1053000000000)
falling_range size even odd h s =
    let a : size * size ≤ size * 73920000000 = mul-le-mul_left size h in
    let b = s.least in
    let c = s.odd_least in
    let d = s.most in
    (omega arith, omega arith)

rising_range : (size even odd : ℕ) → size ≤ 50000000000 → Sized size even odd → (926000000000 ≤ even + odd) × (even + odd ≤ 1053000000000)
rising_range size even odd h s =
    let a : size * size ≤ size * 50000000000 = mul-le-mul_left size h in
    let b = s.least in
    let c = s.odd_least in
    let d = s.most in
    (omega arith, omega arith)

thermal_falling : (x : Fraction) (size : ℕ) → size ≤ 73920000000 → Near 4 size (neg x) → Thermal (falling size) (e x)
unfolding falling
thermal_falling x size h n =
    let r = falling_range size (terms size 9).even (terms size 9).odd h (sized size (omega arith)) in
    record { near = sum_falling x size (omega arith) n; least = r.0; most = r.1 }

thermal_rising : (x : Fraction) (size : ℕ) → size ≤ 50000000000 → Near 4 size x → Thermal (rising size) (e x)
unfolding rising
thermal_rising x size h n =
    let r = rising_range size (terms size 9).even (terms size 9).odd h (sized size (omega arith)) in
    record { near = sum_rising x size (omega arith) n; least = r.0; most = r.1 }

-- above 15 °C
thermal_warm : (l : Exponential) (t : ℤ) (n : ℕ) → 2500 ≤ n → n ≤ 6000 → t +ℤ pos 1000 ≡ pos n → Thermal (falling (straight l n + bent (straight l n))) (thermal (figures l) t)
unfolding thermal
thermal_warm l t n h k i =
    let b = bent_is l n in
    let m : straight l n ≤ 70000000000 = omega (arith, b.straight_most) in
    let w = warm_worth (figures l) t n (away n) (slope l) (l.density.hundredths * l.density.hundredths) (omega arith) i (slope_worth l) in
    let s = near_warm (straight l n) (bent (straight l n)) (slope l * away n) (10000000000 * (l.density.hundredths * l.density.hundredths)) m b.under b.over b.bent_under b.bent_over in
    thermal_falling (neg (mul (expanded (figures l) t) (add (nat 1) (mul (parts 10 (pos 8)) (expanded (figures l) t))))) (straight l n + bent (straight l n)) (warm_most (straight l n) (bent (straight l n)) m b.bent_under)
    (record { top = slope l * away n * (10 * (10000000000 * (l.density.hundredths * l.density.hundredths)) + 8 * (slope l * away n)); bottom = 10000000000 * (l.density.hundredths * l.density.hundredths) * (10 * (10000000000 * (l.density.hundredths * l.density.hundredths))); worth = bend_warm (expanded (figures l) t) (slope l * away n) (10000000000 * (l.density.hundredths * l.density.hundredths)) w; least = s.0; most = s.1 })

-- below 15 °C, where 8N ≤ 10M
cold_room : (y N M : ℕ) → y ≤ 70000000000 → 1000000000000 * N ≤ y * M + M → 8 * N ≤ 10 * M
cold_room y N M h k = let a : y * M ≤ 70000000000 * M = mul-le-mul_right M h in omega arith

thermal_cold : (l : Exponential) (t : ℤ) (n : ℕ) → n < 2500 → t +ℤ pos 1000 ≡ pos n → Thermal (rising (straight l n - bent (straight l n))) (thermal (figures l) t)
unfolding thermal
thermal_cold l t n h i =
    let b = bent_is l n in
    let m : straight l n ≤ 50000000000 = omega (arith, b.straight_most) in
    let w = cold_worth (figures l) t n (away n) (slope l) (l.density.hundredths * l.density.hundredths) (omega arith) i (slope_worth l) in
    let less : bent (straight l n) ≤ straight l n = cold_less (straight l n) (bent (straight l n)) (omega arith) b.bent_under in
    let room = cold_room (straight l n) (slope l * away n) (10000000000 * (l.density.hundredths * l.density.hundredths)) (omega arith) b.over in
    let is : (10 * (10000000000 * (l.density.hundredths * l.density.hundredths)) - 8 * (slope l * away n)) + 8 * (slope l * away n) ≡ 10 * (10000000000 * (l.density.hundredths * l.density.hundredths)) = omega arith in
    let s = near_cold (straight l n) (bent (straight l n)) (straight l n - bent (straight l n)) (slope l * away n) (10000000000 * (l.density.hundredths * l.density.hundredths)) (10 * (10000000000 * (l.density.hundredths * l.density.hundredths)) - 8 * (slope l * away n)) (omega arith) (omega arith) is b.under b.over b.bent_under b.bent_over in
    thermal_rising (neg (mul (expanded (figures l) t) (add (nat 1) (mul (parts 10 (pos 8)) (expanded (figures l) t))))) (straight l n - bent (straight l n)) (omega arith)
    (record { top = slope l * away n * (10 * (10000000000 * (l.density.hundredths * l.density.hundredths)) - 8 * (slope l * away n)); bottom = 10000000000 * (l.density.hundredths * l.density.hundredths) * (10 * (10000000000 * (l.density.hundredths * l.density.hundredths))); worth = bend_cold (expanded (figures l) t) (slope l * away n) (10000000000 * (l.density.hundredths * l.density.hundredths)) (10 * (10000000000 * (l.density.hundredths * l.density.hundredths)) - 8 * (slope l * away n)) is w; least = s.0; most = s.1 })

pub thermal_is : (l : Exponential) (t : ℤ) (n : ℕ) → n ≤ 6000 → t +ℤ pos 1000 ≡ pos n → Thermal (thermal_units l n) (thermal (figures l) t)
unfolding thermal_units
thermal_is l t n k i =
    cond_both (nat_le 2500 n) (falling (straight l n + bent (straight l n))) (rising (straight l n - bent (straight l n))) (λ (u : ℕ). Thermal u (thermal (figures l) t))
    (λ h. thermal_warm l t n (leb-true 2500 n h) k i) (λ h. thermal_cold l t n (leb-false 2500 n h) i)

-- what the program asks of them
pub straight_small : (l : Exponential) (n : ℕ) → n ≤ 6000 → straight l n ≤ 70000000000
straight_small l n h = let b = (bent_is l n).straight_most in omega arith

pub bent_less : (y : ℕ) → y ≤ 70000000000 → bent y ≤ y
unfolding bent
bent_less y h = let g = floor_under (4 * y * y) 5000000000000 (lit< tt) in cold_less y (bent y) h g.0

pub warm_range : (l : Exponential) (n : ℕ) → 2500 ≤ n → n ≤ 6000 → (926000000000 ≤ falling (straight l n + bent (straight l n))) × (falling (straight l n + bent (straight l n)) ≤ 1053000000000)
warm_range l n h k = let t = thermal_warm l (pos n -ℤ pos 1000) n h k (omega (arith, ints)) in (t.least, t.most)

pub cold_range : (l : Exponential) (n : ℕ) → n < 2500 → (926000000000 ≤ rising (straight l n - bent (straight l n))) × (rising (straight l n - bent (straight l n)) ≤ 1053000000000)
cold_range l n h = let t = thermal_cold l (pos n -ℤ pos 1000) n h (omega (arith, ints)) in (t.least, t.most)
