-- What the temperature and pressure factors are worth, in whole numbers.
use Rattle.std.specs.Prelude.{◌≡◌, ℕ, ◌+◌, ◌-◌, ◌*◌, ◌<◌, ◌≤◌, ℤ, pos, ◌+ℤ◌}
use Rattle.std.proofs.Common.{arith, mul-pos, lit<}
use Rattle.std.proofs.lemmas.Int.{ints}
use Rattle.exact.specs.Fractions.{Fraction, nat, add, mul, div}
use Rattle.exact.proofs.Worth.{Worth, worth_nat, worth_whole, worth_add, worth_neg, worth_mul, worth_div, worth_of}
use Rattle.vessel.specs.Walls.{above_20, per_degree, pipe_cts, compact_cts, cps, volume_of}
use Rattle.vessel.specs.Provers.{stretch}

-- t − 20 °C, of a temperature that is τ hundredths above −10 °C
above_worth : (t : ℤ) (τ : ℕ) → t +ℤ pos 1000 ≡ pos τ → Worth (above_20 t) τ 3000 100
unfolding above_20
above_worth t τ e = worth_of (worth_add (worth_div (lit< tt) (worth_whole t) (worth_nat 100)) (worth_neg (worth_nat 20))) (lit< tt) (omega (arith, ints))

degree_worth : (c : ℕ) → Worth (per_degree c) (c * 1) (0 * 1) (1 * 100000000)
unfolding per_degree
degree_worth c = worth_div (lit< tt) (worth_nat c) (worth_nat 100000000)

small_stretch : (c τ : ℕ) → c ≤ 9000 → c * 3000 ≤ 10000000000 + c * τ
small_stretch c τ h = omega arith

-- 1 + x·(t − 20 °C), where x is worth c/10⁸
stretch_worth : (x : Fraction) (c τ : ℕ) (t : ℤ) → c ≤ 9000 → Worth x c 0 100000000 → t +ℤ pos 1000 ≡ pos τ → Worth (add (nat 1) (mul x (above_20 t))) (stretch c τ) 0 10000000000
stretch_worth x c τ t h w e =
    worth_of (worth_add (worth_nat 1) (worth_mul w (above_worth t τ e))) (lit< tt) (go c (c * τ) (small_stretch c τ h))
  where
    go : (c d : ℕ) → c * 3000 ≤ 10000000000 + d → (1 * (100000000 * 100) + (d + 0 * 3000) * 1) * 10000000000 + 0 * (1 * (100000000 * 100)) ≡ (10000000000 + d - c * 3000) * (1 * (100000000 * 100)) + (0 * (100000000 * 100) + (c * 3000 + 0 * τ) * 1) * 10000000000
    go c d l = omega arith

plain : {x : Fraction} {c : ℕ} → Worth x (c * 1) (0 * 1) (1 * 100000000) → Worth x c 0 100000000
plain {x} {c} w = worth_of w (lit< tt) (omega arith)

pub pipe_worth : (α τ : ℕ) (t : ℤ) → α ≤ 3000 → t +ℤ pos 1000 ≡ pos τ → Worth (pipe_cts α t) (stretch (3 * α) τ) 0 10000000000
unfolding pipe_cts
pipe_worth α τ t h e =
    stretch_worth (mul (nat 3) (per_degree α)) (3 * α) τ t (omega arith) (worth_of (worth_mul (worth_nat 3) (degree_worth α)) (lit< tt) (omega arith)) e

pub compact_worth : (k d τ σ : ℕ) (t u : ℤ) → k ≤ 6000 → d ≤ 3000 → t +ℤ pos 1000 ≡ pos τ → u +ℤ pos 1000 ≡ pos σ
    → Worth (compact_cts k d t u) (stretch k τ * stretch d σ) 0 100000000000000000000
unfolding compact_cts
compact_worth k d τ σ t u h j e f =
    worth_of (worth_mul (stretch_worth (per_degree k) k τ t (omega arith) (plain (degree_worth k)) e) (stretch_worth (per_degree d) d σ u (omega arith) (plain (degree_worth d)) f)) (lit< tt)
    (go (stretch k τ) (stretch d σ))
  where
    go : (a b : ℕ) → (a * b + 0 * 0) * 100000000000000000000 + 0 * (10000000000 * 10000000000) ≡ a * b * (10000000000 * 10000000000) + (a * 0 + 0 * b) * 100000000000000000000
    go a b = omega arith

-- 0.95·P·D, P in kPa and the rest in MPa
push_worth : (pressure bore : ℕ) → Worth (mul (mul (div (nat 95) (nat 100)) (div (nat pressure) (nat 1000))) (nat bore)) (95 * (pressure * bore)) 0 100000
push_worth pressure bore =
    worth_of (worth_mul (worth_mul (worth_div (lit< tt) (worth_nat 95) (worth_nat 100)) (worth_div (lit< tt) (worth_nat pressure) (worth_nat 1000))) (worth_nat bore)) (lit< tt) (omega arith)

stiff_worth : (modulus wall : ℕ) → Worth (mul (nat modulus) (nat wall)) (modulus * wall) 0 1
stiff_worth modulus wall = worth_of (worth_mul (worth_nat modulus) (worth_nat wall)) (lit< tt) (omega arith)

pub pressure_worth : (bore wall modulus pressure : ℕ) → 0 < wall → 0 < modulus → Worth (cps bore wall modulus (pos pressure)) (20000 * modulus * wall + 19 * pressure * bore) 0 (20000 * modulus * wall)
unfolding cps
pressure_worth bore wall modulus pressure o p =
    worth_of (worth_add (worth_nat 1) (worth_div (mul-pos p o) (push_worth pressure bore) (stiff_worth modulus wall))) (mul-pos (mul-pos (lit< tt) p) o) (omega arith)

-- 1000·V·CTS·CPS, with CTS worth a over A and CPS worth c over S
pub volume_worth : (V : ℕ) (cts cps : Fraction) (a A c S : ℕ) → Worth cts a 0 A → Worth cps c 0 S → Worth (volume_of V cts cps) (1000 * V * a * c) 0 (A * S)
unfolding volume_of
volume_worth V cts cps a A c S h k =
    worth_of (worth_mul (worth_mul (worth_mul (worth_nat 1000) (worth_nat V)) h) k) (mul-pos h.positive k.positive) (omega arith)
