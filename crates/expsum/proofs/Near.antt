-- Whole units of 10⁻¹² near an exact number: by how many units they may differ, through products, quotients and sums.
use Rattle.std.proofs.Common.{◌≡◌, ℕ, ◌+◌, ◌-◌, ◌*◌, ◌<◌, ◌≤◌, refl, mul-pos, mul-le-mul_left, mul-le-mul_right, arith}
use Rattle.exact.specs.Fractions.{Fraction, Same, nat, add, neg, mul, div}
use Rattle.exact.proofs.Worth.{Worth, worth_nat, worth_add, worth_mul, worth_div, worth_of}

-- the worth of one form of a number is that of another
pub worth_same_of : {x y : Fraction} {p m b : ℕ} → Same x y → Worth x p m b → Worth y p m b
worth_same_of {x} {y} {p} {m} {b} s w =
    let itself : Worth y x.plus x.minus x.bottom = record { positive = x.positive; is = omega (arith, s.same) } in
    worth_of itself w.positive w.is

-- x is not negative, and a units are within d units of it
pub record Near (d a : ℕ) (x : Fraction) : Type 0 where
  pub top : ℕ
  pub bottom : ℕ
  pub worth : Worth x top 0 bottom
  pub least : a * bottom ≤ 1000000000000 * top + d * bottom
  pub most : 1000000000000 * top ≤ a * bottom + d * bottom

-- p − m units are within d units of x
pub record Close (d p m : ℕ) (x : Fraction) : Type 0 where
  pub plus : ℕ
  pub minus : ℕ
  pub bottom : ℕ
  pub worth : Worth x plus minus bottom
  pub least : p * bottom + 1000000000000 * minus ≤ 1000000000000 * plus + m * bottom + d * bottom
  pub most : 1000000000000 * plus + m * bottom ≤ p * bottom + 1000000000000 * minus + d * bottom

pub near_same : {d a : ℕ} {x y : Fraction} → Same x y → Near d a x → Near d a y
near_same s n = record { top = n.top; bottom = n.bottom; worth = worth_same_of s n.worth; least = n.least; most = n.most }

pub close_same : {d p m : ℕ} {x y : Fraction} → Same x y → Close d p m x → Close d p m y
close_same s n = record { plus = n.plus; minus = n.minus; bottom = n.bottom; worth = worth_same_of s n.worth; least = n.least; most = n.most }

-- a term from the one before: t near p/b, a near q/c, and r is t·a over k, rounded down
step_least : (k t a r p b q c d δ f : ℕ) → r * (k * 1000000000000) ≤ t * a
    → t * b ≤ 1000000000000 * p + d * b → a * c ≤ 1000000000000 * q + δ * c → 1000000000000 * q ≤ a * c + δ * c
    → (t + d) * δ + d * a + k * 1000000000000 ≤ f * (k * 1000000000000)
    → r * (b * c * k) ≤ 1000000000000 * (p * q) + f * (b * c * k)
step_least k t a r p b q c d δ f u h i j n =
    let u1 : r * (k * 1000000000000) * (b * c) ≤ t * a * (b * c) = mul-le-mul_right (b * c) u in
    let h1 : t * b * (a * c) ≤ t * b * (1000000000000 * q + δ * c) = mul-le-mul_left (t * b) i in
    let h2 : t * b * (1000000000000 * q) ≤ (1000000000000 * p + d * b) * (1000000000000 * q) = mul-le-mul_right (1000000000000 * q) h in
    let h3 : d * b * (1000000000000 * q) ≤ d * b * (a * c + δ * c) = mul-le-mul_left (d * b) j in
    let h4 : ((t + d) * δ + d * a + k * 1000000000000) * (b * c) ≤ f * (k * 1000000000000) * (b * c) = mul-le-mul_right (b * c) n in
    omega arith

step_most : (k t a r p b q c d δ f : ℕ) → t * a ≤ r * (k * 1000000000000) + k * 1000000000000
    → 1000000000000 * p ≤ t * b + d * b → 1000000000000 * q ≤ a * c + δ * c
    → (t + d) * δ + d * a + k * 1000000000000 ≤ f * (k * 1000000000000)
    → 1000000000000 * (p * q) ≤ r * (b * c * k) + f * (b * c * k)
step_most k t a r p b q c d δ f u h i n =
    let u1 : t * a * (b * c) ≤ (r * (k * 1000000000000) + k * 1000000000000) * (b * c) = mul-le-mul_right (b * c) u in
    let h1 : 1000000000000 * p * (1000000000000 * q) ≤ (t * b + d * b) * (1000000000000 * q) = mul-le-mul_right (1000000000000 * q) h in
    let h2 : (t * b + d * b) * (1000000000000 * q) ≤ (t * b + d * b) * (a * c + δ * c) = mul-le-mul_left (t * b + d * b) i in
    let h4 : ((t + d) * δ + d * a + k * 1000000000000) * (b * c) ≤ f * (k * 1000000000000) * (b * c) = mul-le-mul_right (b * c) n in
    omega arith

pub near_step : {d δ t a : ℕ} {y x : Fraction} (f k r : ℕ) → 0 < k → r * (k * 1000000000000) ≤ t * a → t * a ≤ r * (k * 1000000000000) + k * 1000000000000
    → (t + d) * δ + d * a + k * 1000000000000 ≤ f * (k * 1000000000000)
    → Near d t y → Near δ a x → Near f r (div (mul y x) (nat k))
near_step {d} {δ} {t} {a} {y} {x} f k r o u v n h i = record {
  top = h.top * i.top;
  bottom = h.bottom * i.bottom * k;
  worth = worth_of (worth_div o (worth_mul h.worth i.worth) (worth_nat k)) (mul-pos (mul-pos h.worth.positive i.worth.positive) o) (go h.top i.top h.bottom i.bottom);
  least = step_least k t a r h.top h.bottom i.top i.bottom d δ f u h.least i.least i.most n;
  most = step_most k t a r h.top h.bottom i.top i.bottom d δ f v h.most i.most n;
}
  where
    go : (p q b c : ℕ) → (p * q + 0 * 0) * 1 * (b * c * k) + 0 * (b * c * k) ≡ p * q * (b * c * k) + (p * 0 + 0 * q) * 1 * (b * c * k)
    go p q b c = omega arith

pub close_wider : {d f p m : ℕ} {x : Fraction} → d ≤ f → Close d p m x → Close f p m x
close_wider {d} {f} {p} {m} {x} l n =
    let w : d * n.bottom ≤ f * n.bottom = mul-le-mul_right n.bottom l in
    record { plus = n.plus; minus = n.minus; bottom = n.bottom; worth = n.worth; least = omega (arith, n.least); most = omega (arith, n.most) }

-- the worth of a number from that of its negative
worth_back : (x : Fraction) {p b : ℕ} → Worth (neg x) p 0 b → Worth x 0 p b
unfolding neg
worth_back x w = record { positive = w.positive; is = omega (arith, w.is) }

pub near_close : {d a : ℕ} {x : Fraction} → Near d a x → Close d a 0 x
near_close n = record { plus = n.top; minus = 0; bottom = n.bottom; worth = n.worth; least = omega (arith, n.least); most = omega (arith, n.most) }

-- a sum with one more number, which is not negative, or not positive
more_least : (p m t P M B T C d f : ℕ) → p * B + 1000000000000 * M ≤ 1000000000000 * P + m * B + d * B → t * C ≤ 1000000000000 * T + f * C
    → (p + t) * (B * C) + 1000000000000 * (M * C + 0 * B) ≤ 1000000000000 * (P * C + T * B) + m * (B * C) + (d + f) * (B * C)
more_least p m t P M B T C d f h i = omega (arith, mul-le-mul_right C h, mul-le-mul_right B i)

more_most : (p m t P M B T C d f : ℕ) → 1000000000000 * P + m * B ≤ p * B + 1000000000000 * M + d * B → 1000000000000 * T ≤ t * C + f * C
    → 1000000000000 * (P * C + T * B) + m * (B * C) ≤ (p + t) * (B * C) + 1000000000000 * (M * C + 0 * B) + (d + f) * (B * C)
more_most p m t P M B T C d f h i = omega (arith, mul-le-mul_right C h, mul-le-mul_right B i)

pub close_more : {d f p m t : ℕ} {y x : Fraction} → Close d p m y → Near f t x → Close (d + f) (p + t) m (add y x)
close_more {d} {f} {p} {m} {t} h i = record {
  plus = h.plus * i.bottom + i.top * h.bottom;
  minus = h.minus * i.bottom + 0 * h.bottom;
  bottom = h.bottom * i.bottom;
  worth = worth_add h.worth i.worth;
  least = more_least p m t h.plus h.minus h.bottom i.top i.bottom d f h.least i.least;
  most = more_most p m t h.plus h.minus h.bottom i.top i.bottom d f h.most i.most;
}

less_least : (p m t P M B T C d f : ℕ) → p * B + 1000000000000 * M ≤ 1000000000000 * P + m * B + d * B → 1000000000000 * T ≤ t * C + f * C
    → p * (B * C) + 1000000000000 * (M * C + T * B) ≤ 1000000000000 * (P * C + 0 * B) + (m + t) * (B * C) + (d + f) * (B * C)
less_least p m t P M B T C d f h i = omega (arith, mul-le-mul_right C h, mul-le-mul_right B i)

less_most : (p m t P M B T C d f : ℕ) → 1000000000000 * P + m * B ≤ p * B + 1000000000000 * M + d * B → t * C ≤ 1000000000000 * T + f * C
    → 1000000000000 * (P * C + 0 * B) + (m + t) * (B * C) ≤ p * (B * C) + 1000000000000 * (M * C + T * B) + (d + f) * (B * C)
less_most p m t P M B T C d f h i = omega (arith, mul-le-mul_right C h, mul-le-mul_right B i)

pub close_less : {d f p m t : ℕ} {y : Fraction} (x : Fraction) → Close d p m y → Near f t (neg x) → Close (d + f) p (m + t) (add y x)
close_less {d} {f} {p} {m} {t} x h i = record {
  plus = h.plus * i.bottom + 0 * h.bottom;
  minus = h.minus * i.bottom + i.top * h.bottom;
  bottom = h.bottom * i.bottom;
  worth = worth_add h.worth (worth_back x i.worth);
  least = less_least p m t h.plus h.minus h.bottom i.top i.bottom d f h.least i.most;
  most = less_most p m t h.plus h.minus h.bottom i.top i.bottom d f h.most i.least;
}

-- units that stay above 0 after what is taken away
near_n : (d p m a P M b : ℕ) → m + a ≡ p → M ≤ P → p * b + 1000000000000 * M ≤ 1000000000000 * P + m * b + d * b → 1000000000000 * P + m * b ≤ p * b + 1000000000000 * M + d * b
    → (a * b ≤ 1000000000000 * (P - M) + d * b) × (1000000000000 * (P - M) ≤ a * b + d * b)
near_n d p m a P M b s o h k =
    let t : (m + a) * b ≡ p * b = rw s refl in
    (omega arith, omega arith)

pub close_near : {d p m : ℕ} {x : Fraction} (a : ℕ) → m + a ≡ p → d ≤ a → Close d p m x → Near d a x
close_near {d} {p} {m} {x} a s l c =
    let t : (m + a) * c.bottom ≡ p * c.bottom = rw s refl in
    let u : d * c.bottom ≤ a * c.bottom = mul-le-mul_right c.bottom l in
    let o : c.minus ≤ c.plus = omega (arith, c.least) in
    let n = near_n d p m a c.plus c.minus c.bottom s o c.least c.most in
    record {
      top = c.plus - c.minus;
      bottom = c.bottom;
      worth = worth_of c.worth c.worth.positive (go c.plus c.minus c.bottom o);
      least = n.0;
      most = n.1;
    }
  where
    go : (p m b : ℕ) → m ≤ p → p * b + 0 * b ≡ (p - m) * b + m * b
    go p m b h = let e : p ≡ (p - m) + m = omega arith in let f : p * b ≡ ((p - m) + m) * b = rw (← e) refl in omega arith
