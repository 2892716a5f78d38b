-- The exponential liquid's carry factor: the pair in steps from the four parts in whole units.
-- K is the factor in steps, rounded down. E and G are the thermal and the elastic part in the vessel, F and H at the densitometer.
use Rattle.std.specs.Prelude.{◌≡◌, ℕ, ◌+◌, ◌-◌, ◌*◌, ◌/◌, ◌<◌, ◌≤◌, true, pos, unsigned_abs, refl}
use Rattle.std.proofs.Common.{arith, mul-pos, mul-le-mul, mul-le-mul_left, mul-le-mul_right, lit<}
use Rattle.std.proofs.lemmas.Int.{ints}
use Rattle.exact.specs.Fractions.{Fraction, Le, div}
use Rattle.exact.specs.Pairs.{steps}
use Rattle.exact.proofs.Worth.{Worth, worth_div, worth_of, worth_le}
use Rattle.exact.proofs.Quotients.{floor_under, floor_least, floor_most}
use Rattle.expsum.proofs.Near.{Near}
use Rattle.liquid.specs.Questions.{takes}
use Rattle.pass.specs.Ranges.{raised}
use Rattle.liquid.specs.Liquids.{Carries}
use Rattle.petroleum.specs.Exponential.{figures, thermal, elastic, density_ratio, exponential_factor}
use Rattle.petroleum.specs.Rounded.{thermal_units, elastic_units, carried, exponential_steps, exponential_answer}
use Rattle.liquid.specs.declared.question.Question.{Question}
use Rattle.petroleum.specs.declared.exponential.Exponential.{Exponential}
use Rattle.liquid.specs.Readings.{taken, parts_worth}
use Rattle.petroleum.specs.Thermals.{thermal_is}
use Rattle.petroleum.specs.Elastics.{elastic_is}

-- the four parts, each in its range
pub record Parts (E G F H : ℕ) : Type 0 where
  pub e_least : 926000000000 ≤ E
  pub e_most : E ≤ 1053000000000
  pub g_least : 956000000000 ≤ G
  pub g_most : G ≤ 1001000000000
  pub f_least : 926000000000 ≤ F
  pub f_most : F ≤ 1053000000000
  pub h_least : 956000000000 ≤ H
  pub h_most : H ≤ 1001000000000

-- the factor's range
pub factor_positive : (E G F H : ℕ) → Parts E G F H → 0 < F * G
factor_positive E G F H p =
    let f = p.f_least in
    let g = p.g_least in
    mul-pos (let a : 0 < F = omega arith in a) (omega arith)

factor_most : (E G F H : ℕ) → Parts E G F H → 100000000 * E * H ≤ 119100000 * (F * G)
factor_most E G F H p =
    let a : E * H ≤ 1053000000000 * 1001000000000 = mul-le-mul p.e_most p.h_most in
    let b : 926000000000 * 956000000000 ≤ F * G = mul-le-mul p.f_least p.g_least in
    omega arith

factor_least : (E G F H : ℕ) → Parts E G F H → 83900000 * (F * G) ≤ 100000000 * E * H
factor_least E G F H p =
    let a : 926000000000 * 956000000000 ≤ E * H = mul-le-mul p.e_least p.h_least in
    let b : F * G ≤ 1053000000000 * 1001000000000 = mul-le-mul p.f_most p.g_most in
    omega arith

pub product_most : (E G F H : ℕ) → Parts E G F H → 100000000 * E * H ≤ 105405300000000000000000000000000
product_most E G F H p =
    let a : E * H ≤ 1053000000000 * 1001000000000 = mul-le-mul p.e_most p.h_most in
    omega arith

pub steps_range : (E G F H : ℕ) → Parts E G F H → (83900000 ≤ (100000000 * E * H) / (F * G)) × ((100000000 * E * H) / (F * G) ≤ 119100000)
steps_range E G F H p =
    let o = factor_positive E G F H p in
    (floor_least (100000000 * E * H) (F * G) 83900000 o (factor_least E G F H p), floor_most (100000000 * E * H) (F * G) 119100000 o (factor_most E G F H p))

-- one step below is under the factor, whatever the parts are within their distances
low_n : (E G F H e h k : ℕ) → Parts E G F H → k ≤ 120000000 → e + 400 ≡ E → h + 5 ≡ H → (k + 1) * (F * G) ≤ 100000000 * E * H → k * (F + 400) * (G + 5) ≤ 100000000 * e * h
low_n E G F H e h k p m i j l =
    let a : k * F ≤ 120000000 * 1053000000000 = mul-le-mul m p.f_most in
    let b : k * G ≤ 120000000 * 1001000000000 = mul-le-mul m p.g_most in
    let c : 926000000000 * 956000000000 ≤ F * G = mul-le-mul p.f_least p.g_least in
    let d = p.e_most in
    let f = p.h_most in
    let s : (k + 1) * (F * G) ≤ 100000000 * (e + 400) * (h + 5) = rw (i, j) l in
    omega arith

-- and two steps above are over it
high_n : (E G F H f g k : ℕ) → Parts E G F H → k ≤ 120000000 → f + 400 ≡ F → g + 5 ≡ G → 100000000 * E * H ≤ k * (F * G) + F * G → 100000000 * (E + 400) * (H + 5) ≤ (k + 2) * f * g
high_n E G F H f g k p m i j l =
    let fm : f ≤ 1053000000000 = omega (arith, p.f_most) in
    let gm : g ≤ 1001000000000 = omega (arith, p.g_most) in
    let fl : 925000000000 ≤ f = omega (arith, p.f_least) in
    let gl : 955000000000 ≤ g = omega (arith, p.g_least) in
    let a : k * f ≤ 120000000 * 1053000000000 = mul-le-mul m fm in
    let b : k * g ≤ 120000000 * 1001000000000 = mul-le-mul m gm in
    let c : 925000000000 * 955000000000 ≤ f * g = mul-le-mul fl gl in
    let d = p.e_most in
    let h = p.h_most in
    let s : 100000000 * E * H ≤ k * ((f + 400) * (g + 5)) + (f + 400) * (g + 5) = rw (i, j) l in
    omega arith

-- from the units to the exact parts
chain : (k h p q r s A B C D u v w z : ℕ) → k * r * s ≤ h * p * q → u ≤ r * C → v ≤ s * B → p * A ≤ w → q * D ≤ z → k * (A * D) * (u * v) ≤ h * (B * C) * (w * z)
chain k h p q r s A B C D u v w z l a b c d =
    let m : k * (A * D) * (u * v) ≤ k * (A * D) * (r * C * (s * B)) = mul-le-mul_left (k * (A * D)) (mul-le-mul a b) in
    let n : h * (B * C) * (p * A * (q * D)) ≤ h * (B * C) * (w * z) = mul-le-mul_left (h * (B * C)) (mul-le-mul c d) in
    let o : k * r * s * (A * D * (B * C)) ≤ h * p * q * (A * D * (B * C)) = mul-le-mul_right (A * D * (B * C)) l in
    omega arith

-- an exact part against its units, less and more
under : (d a x b y : ℕ) → y + d ≡ a → a * b ≤ 1000000000000 * x + d * b → y * b ≤ 1000000000000 * x
under d a x b y i h = let s : (y + d) * b ≡ a * b = rw i refl in omega arith

over : (d a x b : ℕ) → 1000000000000 * x ≤ a * b + d * b → 1000000000000 * x ≤ (a + d) * b
over d a x b h = omega arith

-- an exact part is above 0
near_positive : {d a : ℕ} {x : Fraction} → d < a → (n : Near d a x) → 0 < n.top
near_positive {d} {a} {x} l n =
    let s : (d + 1) * n.bottom ≤ a * n.bottom = mul-le-mul_right n.bottom (omega arith) in
    omega (arith, n.least, n.worth.positive)

module _ (x y z w : Fraction) (E G F H : ℕ) (p : Parts E G F H) (nx : Near 400 E x) (ny : Near 5 G y) (nz : Near 400 F z) (nw : Near 5 H w) where
  ratio_worth : Worth (div (div x y) (div z w)) (nx.top * ny.bottom * (nz.bottom * nw.top)) 0 (nx.bottom * ny.top * (nz.top * nw.bottom))
  ratio_worth =
      let yo : 0 < ny.top = near_positive (omega (arith, p.g_least)) ny in
      let zo : 0 < nz.top = near_positive (omega (arith, p.f_least)) nz in
      let wo : 0 < nw.top = near_positive (omega (arith, p.h_least)) nw in
      let a : Worth (div x y) (nx.top * ny.bottom) 0 (nx.bottom * ny.top) = worth_of (worth_div yo nx.worth ny.worth) (mul-pos nx.worth.positive yo) (omega arith) in
      let b : Worth (div z w) (nz.top * nw.bottom) 0 (nz.bottom * nw.top) = worth_of (worth_div wo nz.worth nw.worth) (mul-pos nz.worth.positive wo) (omega arith) in
      let o : 0 < nz.top * nw.bottom = mul-pos zo nw.worth.positive in
      worth_of (worth_div o a b) (mul-pos (mul-pos nx.worth.positive yo) o) (omega arith)

  ratio_least : (k : ℕ) → k ≤ 120000000 → (k + 1) * (F * G) ≤ 100000000 * E * H → Le (steps (pos k)) (div (div x y) (div z w))
  ratio_least k m l =
      let ei : (E - 400) + 400 ≡ E = omega (arith, p.e_least) in
      let hi : (H - 5) + 5 ≡ H = omega (arith, p.h_least) in
      let c = chain k 100000000 (E - 400) (H - 5) (F + 400) (G + 5) nx.bottom ny.bottom nz.bottom nw.bottom (1000000000000 * nz.top) (1000000000000 * ny.top) (1000000000000 * nx.top) (1000000000000 * nw.top)
      (low_n E G F H (E - 400) (H - 5) k p m ei hi l) (over 400 F nz.top nz.bottom nz.most) (over 5 G ny.top ny.bottom ny.most) (under 400 E nx.top nx.bottom (E - 400) ei nx.least) (under 5 H nw.top nw.bottom (H - 5) hi nw.least) in
      worth_le (parts_worth 100000000 k (lit< tt)) ratio_worth (go k nx.top nx.bottom ny.top ny.bottom nz.top nz.bottom nw.top nw.bottom c)
    where
      go : (k a A b B c C d D : ℕ) → k * (A * D) * (1000000000000 * c * (1000000000000 * b)) ≤ 100000000 * (B * C) * (1000000000000 * a * (1000000000000 * d)) → k * (A * b * (c * D)) + 0 * 100000000 ≤ a * B * (C * d) * 100000000 + 0 * (A * b * (c * D))
      go k a A b B c C d D h = omega arith

  ratio_most : (k : ℕ) → k ≤ 120000000 → 100000000 * E * H ≤ k * (F * G) + F * G → Le (div (div x y) (div z w)) (steps (pos (k + 2)))
  ratio_most k m l =
      let fi : (F - 400) + 400 ≡ F = omega (arith, p.f_least) in
      let gi : (G - 5) + 5 ≡ G = omega (arith, p.g_least) in
      let c = chain 100000000 (k + 2) (F - 400) (G - 5) (E + 400) (H + 5) nz.bottom nw.bottom nx.bottom ny.bottom (1000000000000 * nx.top) (1000000000000 * nw.top) (1000000000000 * nz.top) (1000000000000 * ny.top)
      (high_n E G F H (F - 400) (G - 5) k p m fi gi l) (over 400 E nx.top nx.bottom nx.most) (over 5 H nw.top nw.bottom nw.most) (under 400 F nz.top nz.bottom (F - 400) fi nz.least) (under 5 G ny.top ny.bottom (G - 5) gi ny.least) in
      worth_le ratio_worth (parts_worth 100000000 (k + 2) (lit< tt)) (go (k + 2) nx.top nx.bottom ny.top ny.bottom nz.top nz.bottom nw.top nw.bottom c)
    where
      go : (k a A b B c C d D : ℕ) → 100000000 * (C * B) * (1000000000000 * a * (1000000000000 * d)) ≤ k * (D * A) * (1000000000000 * c * (1000000000000 * b)) → a * B * (C * d) * 100000000 + 0 * (A * b * (c * D)) ≤ k * (A * b * (c * D)) + 0 * 100000000
      go k a A b B c C d D h = omega arith

  -- the pair from one step below to two above
  ratio_carries : (k : ℕ) → k ≡ (100000000 * E * H) / (F * G) → Carries (div (div x y) (div z w)) (record { low = pos (k - 1); high = pos (k + 2) })
  ratio_carries k i =
      let o = factor_positive E G F H p in
      let f = floor_under (100000000 * E * H) (F * G) o in
      let u : k * (F * G) ≤ 100000000 * E * H = rw i f.0 in
      let v : 100000000 * E * H ≤ k * (F * G) + F * G = rw i (omega (arith, f.1)) in
      let r = steps_range E G F H p in
      let l : 83900000 ≤ k = rw i r.0 in
      let m : k ≤ 119100000 = rw i r.1 in
      let s : (k - 1) + 1 ≡ k = omega arith in
      record {
        holds = record { least = ratio_least (k - 1) (omega arith) (rw s u); most = ratio_most k (omega arith) v };
        least = omega (arith, ints);
        most = omega (arith, ints);
        narrow = omega (arith, ints);
      }

pub exponential_carries : (l : Exponential) (q : Question) → takes q ≡ true → Carries (exponential_factor (figures l) q) (exponential_answer l q)
unfolding exponential_factor density_ratio carried
exponential_carries l q h =
    let k = taken q h in
    let e = thermal_is l q.wall_temperature (raised q.wall_temperature) k.wall_most k.wall_is in
    let g = elastic_is l q.wall_temperature q.vessel_pressure (raised q.wall_temperature) (unsigned_abs q.vessel_pressure) k.wall_most k.vessel_most k.wall_is k.vessel_is in
    let f = thermal_is l q.densitometer_temperature (raised q.densitometer_temperature) k.temperature_most k.temperature_is in
    let j = elastic_is l q.densitometer_temperature q.densitometer_pressure (raised q.densitometer_temperature) (unsigned_abs q.densitometer_pressure) k.temperature_most k.pressure_most k.temperature_is k.pressure_is in
    ratio_carries (thermal (figures l) q.wall_temperature) (elastic (figures l) q.wall_temperature q.vessel_pressure) (thermal (figures l) q.densitometer_temperature) (elastic (figures l) q.densitometer_temperature q.densitometer_pressure)
    (thermal_units l (raised q.wall_temperature)) (elastic_units l (raised q.wall_temperature) (unsigned_abs q.vessel_pressure)) (thermal_units l (raised q.densitometer_temperature)) (elastic_units l (raised q.densitometer_temperature) (unsigned_abs q.densitometer_pressure))
    (record { e_least = e.least; e_most = e.most; g_least = g.least; g_most = g.most; f_least = f.least; f_most = f.most; h_least = j.least; h_most = j.most }) e.near g.near f.near j.near (exponential_steps l q) refl
