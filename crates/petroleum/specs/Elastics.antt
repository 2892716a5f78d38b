-- The elastic part of the exponential liquid: 1 − gP in whole units of 10⁻¹².
-- The exponent of 1,000·g is U/b − W/10¹⁰, where b is the density's square in its unit.
use Rattle.std.specs.Prelude.{◌≡◌, ℕ, ◌+◌, ◌-◌, ◌*◌, ◌/◌, ◌<◌, ◌≤◌, Bool, true, false, cond, ℤ, pos, ◌+ℤ◌, ◌-ℤ◌, nat_le, refl}
use Rattle.std.proofs.Common.{arith, leb-true, leb-false, mul-pos, mul-le-mul, mul-le-mul_left, mul-le-mul_right, le_of_mul-le-mul_right, lit<}
use Rattle.std.proofs.lemmas.Int.{ints}
use Rattle.std.proofs.lemmas.Bool.{cond_both}
use Rattle.exact.specs.Fractions.{Fraction, neg}
use Rattle.exact.proofs.Worth.{Worth, worth_nat, worth_add, worth_neg, worth_mul, worth_div, worth_of}
use Rattle.exact.proofs.Quotients.{floor_under}
use Rattle.expsum.specs.Series.{e}
use Rattle.expsum.specs.Terms.{terms}
use Rattle.expsum.proofs.Near.{Near, Close, near_close}
use Rattle.expsum.proofs.Bounds.{Sized, sized, odd_less}
use Rattle.expsum.proofs.Sums.{sum_rising, sum_falling}
use Rattle.petroleum.specs.Exponential.{Figures, figures, density_squared, compression_exponent, compressibility, elastic}
use Rattle.petroleum.specs.Rounded.{rising, falling, over_density_lem, beside_density_lem, elastic_rising, elastic_falling, compressibility_units, elastic_units}
use Rattle.petroleum.specs.declared.exponential.Exponential.{Exponential}
use Rattle.liquid.specs.Readings.{parts_worth, degrees_worth, megapascals_worth}
use Rattle.petroleum.specs.Openings.{squared_worth, square_least, square_most}

-- the exponent's worth
exponent_n : (n b : ℕ) → (((0 * (100000000 * 100) + (21592 * n + 0 * 1000) * 100000) * (1 * b) + 870960 * 10000 * (100000 * (100000000 * 100))) * (10 * 100 * b) + (42092 * n + 0 * 1000) * 10000 * (100000 * (100000000 * 100) * (1 * b))) * (10000000000 * b)
    + 16229592000 * b * (100000 * (100000000 * 100) * (1 * b) * (10 * 100 * b))
    ≡ (10000000000 * (8288680000 + 420920 * n) + 21592 * n * b) * (100000 * (100000000 * 100) * (1 * b) * (10 * 100 * b))
    + (((162080 * (100000000 * 100) + (21592 * 1000 + 0 * n) * 100000) * (1 * b) + 0 * 10000 * (100000 * (100000000 * 100))) * (10 * 100 * b) + (42092 * 1000 + 0 * n) * 10000 * (100000 * (100000000 * 100) * (1 * b))) * (10000000000 * b)
exponent_n n b = omega arith

exponent_worth : (f : Figures) (t : ℤ) (n b : ℕ) → 0 < b → Worth (density_squared f) b 0 10000 → t +ℤ pos 1000 ≡ pos n
    → Worth (compression_exponent f t) (10000000000 * (8288680000 + 420920 * n) + 21592 * n * b) (16229592000 * b) (10000000000 * b)
unfolding compression_exponent
exponent_worth f t n b o w i =
    worth_of (worth_add (worth_add (worth_add (worth_neg (parts_worth 100000 162080 (lit< tt))) (worth_mul (parts_worth 100000000 21592 (lit< tt)) (degrees_worth t n i))) (worth_div o (worth_nat 870960) w))
    (worth_div o (worth_mul (parts_worth 10 42092 (lit< tt)) (degrees_worth t n i)) w)) (omega arith) (exponent_n n b)

-- a difference of two numbers, P/D and Q/D, near that of their units, p and q, of which p is the larger
difference_near : {x : Fraction} (p q P Q D : ℕ) → Worth x P Q D → q ≤ p → 1000000000000 * Q ≤ p * D → p * D ≤ 1000000000000 * P → 1000000000000 * P ≤ p * D + D
    → q * D ≤ 1000000000000 * Q → 1000000000000 * Q ≤ q * D + D → Near 4 (p - q) x
difference_near {x} p q P Q D w l o a b c d =
    let t : (p - q + q) * D ≡ p * D = (let e : p - q + q ≡ p = omega arith in rw e refl) in
    let r : Q ≤ P = omega arith in
    record { top = P - Q; bottom = D; worth = worth_of w w.positive (go (P - Q) Q P D (omega arith)); least = omega arith; most = omega arith }
  where
    go : (Z Q P D : ℕ) → Z + Q ≡ P → P * D + 0 * D ≡ Z * D + Q * D
    go Z Q P D h = rw (← h) (omega arith)

-- how large the exponent is: u is U/b in units, and W/10¹⁰ is 100·W units
-- where it is not negative
above_most : (u W U b n : ℕ) → 3600000000 ≤ b → n ≤ 6000 → U ≡ 8288680000 + 420920 * n → W + 21592 * n ≡ 16229592000 → u * b ≤ 1000000000000 * U → u ≤ 1400000000000 + 100 * W
above_most u W U b n o m h i k =
    let a : (1400000000000 + 100 * W) * 3600000000 ≤ (1400000000000 + 100 * W) * b = mul-le-mul_left (1400000000000 + 100 * W) o in
    let c : u * b ≤ (1400000000000 + 100 * W) * b = omega arith in
    le_of_mul-le-mul_right c (omega arith)

-- where it is negative
below_most : (u W U b n : ℕ) → b ≤ 14400000000 → U ≡ 8288680000 + 420920 * n → W + 21592 * n ≡ 16229592000 → 1000000000000 * U ≤ u * b + b → 100 * W ≤ u + 1050000000000
below_most u W U b n o h i k =
    let a : (u + 1) * b ≤ (u + 1) * 14400000000 = mul-le-mul_left (u + 1) o in
    omega arith

-- the exponent's two parts in units
over_under : (l : Exponential) (n : ℕ) → (over_density_lem l n * (l.density.hundredths * l.density.hundredths) ≤ 1000000000000 * (8288680000 + 420920 * n)) × (1000000000000 * (8288680000 + 420920 * n) ≤ over_density_lem l n * (l.density.hundredths * l.density.hundredths) + l.density.hundredths * l.density.hundredths)
unfolding over_density_lem
over_under l n =
    let d : 0 < l.density.hundredths = omega (arith, l.density.ranged.0) in
    let f = floor_under (1000000000000 * (8288680000 + 420920 * n)) (l.density.hundredths * l.density.hundredths) (mul-pos d d) in
    (f.0, omega (arith, f.1))

beside_is : (n : ℕ) → beside_density_lem n ≡ 100 * (16229592000 - 21592 * n)
unfolding beside_density_lem
beside_is n = refl

-- the exponent is U/b − W/10¹⁰, its parts over one bottom
exponent_at : (l : Exponential) (t : ℤ) (n W : ℕ) → t +ℤ pos 1000 ≡ pos n → W + 21592 * n ≡ 16229592000 → Worth (compression_exponent (figures l) t) (10000000000 * (8288680000 + 420920 * n)) (W * (l.density.hundredths * l.density.hundredths)) (10000000000 * (l.density.hundredths * l.density.hundredths))
exponent_at l t n W i h =
    let d : 0 < l.density.hundredths = omega (arith, l.density.ranged.0) in
    let w = exponent_worth (figures l) t n (l.density.hundredths * l.density.hundredths) (mul-pos d d) (squared_worth (figures l) l.density.hundredths refl) i in
    worth_of w w.positive (go (l.density.hundredths * l.density.hundredths) (10000000000 * (8288680000 + 420920 * n)) (10000000000 * (l.density.hundredths * l.density.hundredths)))
  where
    go : (b U d : ℕ) → (U + 21592 * n * b) * d + W * b * d ≡ U * d + 16229592000 * b * d
    go b U d = let k : (W + 21592 * n) * b ≡ 16229592000 * b = rw h refl in let m : (W * b + 21592 * n * b) * d ≡ 16229592000 * b * d = rw (← k) (omega arith) in omega arith

-- and their units
parts_near : (u W U b : ℕ) → u * b ≤ 1000000000000 * U → 1000000000000 * U ≤ u * b + b
    → (u * (10000000000 * b) ≤ 1000000000000 * (10000000000 * U)) × (1000000000000 * (10000000000 * U) ≤ u * (10000000000 * b) + 10000000000 * b) × (100 * W * (10000000000 * b) ≡ 1000000000000 * (W * b))
parts_near u W U b h i = (omega arith, omega arith, omega arith)

module _ (l : Exponential) (t : ℤ) (n : ℕ) (warm : n ≤ 6000) (at : t +ℤ pos 1000 ≡ pos n) where
  above_exponent : beside_density_lem n ≤ over_density_lem l n → (over_density_lem l n - beside_density_lem n ≤ 1400000000000) × Near 4 (over_density_lem l n - beside_density_lem n) (compression_exponent (figures l) t)
  above_exponent h =
      let W = 16229592000 - 21592 * n in
      let U = 8288680000 + 420920 * n in
      let b = l.density.hundredths * l.density.hundredths in
      let o = over_under l n in
      let k = beside_is n in
      let is : W + 21592 * n ≡ 16229592000 = omega arith in
      let s = parts_near (over_density_lem l n) W U b o.0 o.1 in
      let m = above_most (over_density_lem l n) W U b n (square_least l.density.hundredths l.density.ranged.0) warm refl is o.0 in
      let g : 100 * W ≤ over_density_lem l n = omega arith in
      (omega arith, rw k (difference_near (over_density_lem l n) (100 * W) (10000000000 * U) (W * b) (10000000000 * b) (exponent_at l t n W at is) g (omega (arith, s.2, mul-le-mul_right (10000000000 * b) g)) s.0 s.1 (omega (arith, s.2)) (omega (arith, s.2))))

  below_exponent : over_density_lem l n < beside_density_lem n → (beside_density_lem n - over_density_lem l n ≤ 1050000000000) × Near 4 (beside_density_lem n - over_density_lem l n) (neg (compression_exponent (figures l) t))
  below_exponent h =
      let W = 16229592000 - 21592 * n in
      let U = 8288680000 + 420920 * n in
      let b = l.density.hundredths * l.density.hundredths in
      let o = over_under l n in
      let k = beside_is n in
      let is : W + 21592 * n ≡ 16229592000 = omega arith in
      let s = parts_near (over_density_lem l n) W U b o.0 o.1 in
      let m = below_most (over_density_lem l n) W U b n (square_most l.density.hundredths l.density.ranged.1) refl is o.1 in
      let g : over_density_lem l n + 1 ≤ 100 * W = omega arith in
      (omega arith, rw k (difference_near (100 * W) (over_density_lem l n) (W * b) (10000000000 * U) (10000000000 * b) (worth_neg (exponent_at l t n W at is)) (omega arith) (omega (arith, s.1, s.2, mul-le-mul_right (10000000000 * b) g)) (omega (arith, s.2)) (omega (arith, s.2)) s.0 s.1))

-- the size of the exponent
pub above_small : (l : Exponential) (n : ℕ) → n ≤ 6000 → beside_density_lem n ≤ over_density_lem l n → over_density_lem l n - beside_density_lem n ≤ 1400000000000
above_small l n h k = (above_exponent l (pos n -ℤ pos 1000) n h (omega (arith, ints)) k).0

pub below_small : (l : Exponential) (n : ℕ) → n ≤ 6000 → over_density_lem l n < beside_density_lem n → beside_density_lem n - over_density_lem l n ≤ 1050000000000
below_small l n h k = (below_exponent l (pos n -ℤ pos 1000) n h (omega (arith, ints)) k).0

-- the sums for an exponent of at most 1.4
pub sums_most : (size even odd : ℕ) → size ≤ 1400000000000 → Sized size even odd → even + odd ≤ 4360000000000
sums_most size even odd h s =
    let a : size * size ≤ 1400000000000 * 1400000000000 = mul-le-mul h h in
    let b = s.most in
    omega arith

-- what 1,000·g is: near the exact one, and in its range
pub record Compressibility (units : ℕ) (x : Fraction) : Type 0 where
  pub near : Near 400 units x
  pub most : units ≤ 4360000000000

compressibility_rises : (x : Fraction) (size : ℕ) → size ≤ 1400000000000 → Near 4 size x → Compressibility (rising size) (e x)
unfolding rising
compressibility_rises x size h n =
    record { near = sum_rising x size (omega arith) n; most = sums_most size (terms size 9).even (terms size 9).odd h (sized size (omega arith)) }

compressibility_falls : (x : Fraction) (size : ℕ) → size ≤ 1050000000000 → Near 4 size (neg x) → Compressibility (falling size) (e x)
unfolding falling
compressibility_falls x size h n =
    let m = sums_most size (terms size 9).even (terms size 9).odd (omega arith) (sized size (omega arith)) in
    record { near = sum_falling x size h n; most = omega arith }

compressibility_is : (l : Exponential) (t : ℤ) (n : ℕ) → n ≤ 6000 → t +ℤ pos 1000 ≡ pos n → Compressibility (compressibility_units l n) (e (compression_exponent (figures l) t))
unfolding compressibility_units
compressibility_is l t n k at =
    cond_both (nat_le (beside_density_lem n) (over_density_lem l n)) (rising (over_density_lem l n - beside_density_lem n)) (falling (beside_density_lem n - over_density_lem l n)) (λ (u : ℕ). Compressibility u (e (compression_exponent (figures l) t)))
    (λ h. let s = above_exponent l t n k at (leb-true (beside_density_lem n) (over_density_lem l n) h) in compressibility_rises (compression_exponent (figures l) t) (over_density_lem l n - beside_density_lem n) s.0 s.1)
    (λ h. let s = below_exponent l t n k at (leb-false (beside_density_lem n) (over_density_lem l n) h) in compressibility_falls (compression_exponent (figures l) t) (beside_density_lem n - over_density_lem l n) s.0 s.1)

-- the answer from it, whichever way the exponent goes
rising_is : (size p : ℕ) → elastic_rising size p ≡ (1000000000000000000 - rising size * p) / 1000000
unfolding elastic_rising
rising_is size p = refl

falling_is : (size p : ℕ) → size ≤ 1050000000000 → elastic_falling size p ≡ (1000000000000000000 - falling size * p) / 1000000
unfolding elastic_falling falling
falling_is size p h = go (terms size 9).even (terms size 9).odd (omega (arith, odd_less size h))
  where
    go : (even odd : ℕ) → odd ≤ even → (1000000000000000000 + odd * p - even * p) / 1000000 ≡ (1000000000000000000 - (even - odd) * p) / 1000000
    go even odd l =
        let e : (even - odd) + odd ≡ even = omega arith in
        let f : ((even - odd) + odd) * p ≡ even * p = rw e refl in
        let g : 1000000000000000000 + odd * p - even * p ≡ 1000000000000000000 - (even - odd) * p = omega arith in
        rw g refl

pub elastic_units_is : (l : Exponential) (n p : ℕ) → n ≤ 6000 → elastic_units l n p ≡ (1000000000000000000 - compressibility_units l n * p) / 1000000
unfolding elastic_units compressibility_units
elastic_units_is l n p k =
    go (nat_le (beside_density_lem n) (over_density_lem l n)) (over_density_lem l n - beside_density_lem n) (beside_density_lem n - over_density_lem l n) (λ h. below_small l n k (leb-false (beside_density_lem n) (over_density_lem l n) h))
  where
    go : (above : Bool) (y z : ℕ) → (above ≡ false → z ≤ 1050000000000) → cond above (elastic_rising y p) (elastic_falling z p) ≡ (1000000000000000000 - cond above (rising y) (falling z) * p) / 1000000
    go true y z h = rising_is y p
    go false y z h = falling_is z p (h refl)

-- 1 − gP from e(z): P and M are the units of e(z), H is 10⁶ times the answer before it is rounded
taken_n : (P M p ep em b : ℕ) → P ≤ 4360000000000 → p ≤ 10000 → 1000000000000 * ep + M * b ≤ P * b + 1000000000000 * em + 400 * b → ep * p ≤ 1000000 * b + em * p
taken_n P M p ep em b h i k =
    let a : (1000000000000 * ep + M * b) * p ≤ (P * b + 1000000000000 * em + 400 * b) * p = mul-le-mul_right p k in
    let c : P * p ≤ 4360000000000 * 10000 = mul-le-mul h i in
    let d : P * p * b ≤ 4360000000000 * 10000 * b = mul-le-mul_right b c in
    let f : 400 * p * b ≤ 400 * 10000 * b = mul-le-mul_right b (omega arith) in
    omega arith

elastic_n : (P M p ep em b H G T : ℕ) → p ≤ 10000 → H + P * p ≡ 1000000000000000000 + M * p → T + ep * p ≡ 1000000 * b + em * p
    → G * 1000000 ≤ H → H ≤ G * 1000000 + 1000000
    → P * b + 1000000000000 * em ≤ 1000000000000 * ep + M * b + 400 * b → 1000000000000 * ep + M * b ≤ P * b + 1000000000000 * em + 400 * b
    → (G * (1000000 * b) ≤ 1000000000000 * T + 5 * (1000000 * b)) × (1000000000000 * T ≤ G * (1000000 * b) + 5 * (1000000 * b))
elastic_n P M p ep em b H G T i h t g k c d =
    let a : (H + P * p) * b ≡ (1000000000000000000 + M * p) * b = rw h refl in
    let c1 : (P * b + 1000000000000 * em) * p ≤ (1000000000000 * ep + M * b + 400 * b) * p = mul-le-mul_right p c in
    let d1 : (1000000000000 * ep + M * b) * p ≤ (P * b + 1000000000000 * em + 400 * b) * p = mul-le-mul_right p d in
    let f : 400 * p * b ≤ 400 * 10000 * b = mul-le-mul_right b (omega arith) in
    let g1 : G * 1000000 * b ≤ H * b = mul-le-mul_right b g in
    let k1 : H * b ≤ (G * 1000000 + 1000000) * b = mul-le-mul_right b k in
    (omega arith, omega arith)

-- the worth of 1 − gP
elastic_worth : (f : Figures) (t q : ℤ) (p ep em b T : ℕ) → q ≡ pos p → Worth (e (compression_exponent f t)) ep em b → T + ep * p ≡ 1000000 * b + em * p → Worth (elastic f t q) T 0 (1000000 * b)
unfolding elastic compressibility
elastic_worth f t q p ep em b T i w h =
    worth_of (worth_add (worth_nat 1) (worth_neg (worth_mul (worth_mul (parts_worth 1000 1 (lit< tt)) w) (megapascals_worth q p i)))) (omega (arith, w.positive)) (go T p ep em b h)
  where
    go : (T p ep em b : ℕ) → T + ep * p ≡ 1000000 * b + em * p
        → (1 * (1000 * b * 1000) + ((1 * ep + 0 * em) * 0 + (1 * em + 0 * ep) * p) * 1) * (1000000 * b) + 0 * (1 * (1000 * b * 1000)) ≡ T * (1 * (1000 * b * 1000)) + (0 * (1000 * b * 1000) + ((1 * ep + 0 * em) * p + (1 * em + 0 * ep) * 0) * 1) * (1000000 * b)
    go T p ep em b h = let k : (T + ep * p) * b ≡ (1000000 * b + em * p) * b = rw h refl in omega arith

pub elastic_near : (f : Figures) (t q : ℤ) (p P M H : ℕ) → p ≤ 10000 → P ≤ 4360000000000 → q ≡ pos p → H + P * p ≡ 1000000000000000000 + M * p
    → Close 400 P M (e (compression_exponent f t)) → Near 5 (H / 1000000) (elastic f t q)
elastic_near f t q p P M H i small j h c =
    let g = floor_under H 1000000 (lit< tt) in
    let room = taken_n P M p c.plus c.minus c.bottom small i c.most in
    let is : ((1000000 * c.bottom + c.minus * p) - c.plus * p) + c.plus * p ≡ 1000000 * c.bottom + c.minus * p = omega arith in
    let s = elastic_n P M p c.plus c.minus c.bottom H (H / 1000000) ((1000000 * c.bottom + c.minus * p) - c.plus * p) i h is g.0 (omega (arith, g.1)) c.least c.most in
    record {
      top = (1000000 * c.bottom + c.minus * p) - c.plus * p;
      bottom = 1000000 * c.bottom;
      worth = elastic_worth f t q p c.plus c.minus c.bottom ((1000000 * c.bottom + c.minus * p) - c.plus * p) j c.worth is;
      least = s.0;
      most = s.1;
    }

-- what the elastic part is: near the exact one, and in its range
pub record Elastic (units : ℕ) (x : Fraction) : Type 0 where
  pub near : Near 5 units x
  pub least : 956000000000 ≤ units
  pub most : units ≤ 1001000000000

elastic_at : (f : Figures) (t q : ℤ) (p P : ℕ) → p ≤ 10000 → q ≡ pos p → Compressibility P (e (compression_exponent f t)) → Elastic ((1000000000000000000 - P * p) / 1000000) (elastic f t q)
elastic_at f t q p P i j c =
    let H = 1000000000000000000 - P * p in
    let g = floor_under H 1000000 (lit< tt) in
    let a : P * p ≤ 4360000000000 * 10000 = mul-le-mul c.most i in
    record {
      near = elastic_near f t q p P 0 H i c.most j (omega arith) (near_close c.near);
      least = omega (arith, g.1);
      most = omega (arith, g.0);
    }

-- the same from the exponent's size, where it is not negative and where it is
pub elastic_rises : (f : Figures) (t q : ℤ) (p size : ℕ) → p ≤ 10000 → q ≡ pos p → size ≤ 1400000000000 → Near 4 size (compression_exponent f t) → Elastic (elastic_rising size p) (elastic f t q)
elastic_rises f t q p size i j h n = rw (rising_is size p) (elastic_at f t q p (rising size) i j (compressibility_rises (compression_exponent f t) size h n))

pub elastic_falls : (f : Figures) (t q : ℤ) (p size : ℕ) → p ≤ 10000 → q ≡ pos p → size ≤ 1050000000000 → Near 4 size (neg (compression_exponent f t)) → Elastic (elastic_falling size p) (elastic f t q)
elastic_falls f t q p size i j h n = rw (falling_is size p h) (elastic_at f t q p (falling size) i j (compressibility_falls (compression_exponent f t) size h n))

pub elastic_is : (l : Exponential) (t q : ℤ) (n p : ℕ) → n ≤ 6000 → p ≤ 10000 → t +ℤ pos 1000 ≡ pos n → q ≡ pos p → Elastic (elastic_units l n p) (elastic (figures l) t q)
unfolding elastic_units
elastic_is l t q n p k i at j =
    cond_both (nat_le (beside_density_lem n) (over_density_lem l n)) (elastic_rising (over_density_lem l n - beside_density_lem n) p) (elastic_falling (beside_density_lem n - over_density_lem l n) p) (λ (u : ℕ). Elastic u (elastic (figures l) t q))
    (λ h. let s = above_exponent l t n k at (leb-true (beside_density_lem n) (over_density_lem l n) h) in elastic_rises (figures l) t q p (over_density_lem l n - beside_density_lem n) i j s.0 s.1)
    (λ h. let s = below_exponent l t n k at (leb-false (beside_density_lem n) (over_density_lem l n) h) in elastic_falls (figures l) t q p (beside_density_lem n - over_density_lem l n) i j s.0 s.1)

-- what the program asks of them
pub taken_most : (l : Exponential) (n p : ℕ) → n ≤ 6000 → p ≤ 10000 → compressibility_units l n * p ≤ 43600000000000000
taken_most l n p h k =
    let a : compressibility_units l n * p ≤ 4360000000000 * 10000 = mul-le-mul (compressibility_is l (pos n -ℤ pos 1000) n h (omega (arith, ints))).most k in
    omega arith

pub elastic_range : (l : Exponential) (n p : ℕ) → n ≤ 6000 → p ≤ 10000 → (956000000000 ≤ elastic_units l n p) × (elastic_units l n p ≤ 1001000000000)
elastic_range l n p h k =
    let t = elastic_is l (pos n -ℤ pos 1000) (pos p) n p h k (omega (arith, ints)) refl in
    (t.least, t.most)
