-- What a question that is taken gives: temperatures and pressures as natural numbers, and what they are worth.
use Rattle.std.specs.Prelude.{◌≡◌, ℕ, ◌+◌, ◌*◌, ◌<◌, ◌≤◌, true, ◌&&◌, ℤ, pos, ◌+ℤ◌, unsigned_abs}
use Rattle.std.proofs.Common.{arith, lit<}
use Rattle.std.proofs.lemmas.Int.{ints}
use Rattle.exact.specs.Fractions.{Fraction, sub}
use Rattle.exact.specs.Pairs.{parts}
use Rattle.exact.proofs.Worth.{Worth, worth_whole, worth_nat, worth_add, worth_neg, worth_div, worth_of}
use Rattle.pass.proofs.Taken.{both, temperate_raised, pressed_natural}
use Rattle.pass.specs.Ranges.{temperate, pressed, raised}
use Rattle.liquid.specs.Questions.{takes, degrees, megapascals}
use Rattle.liquid.specs.declared.question.Question.{Question}

-- the four conditions of a question that is taken
pub record Taken (q : Question) : Type 0 where
  pub wall_is : q.wall_temperature +ℤ pos 1000 ≡ pos (raised q.wall_temperature)
  pub wall_most : raised q.wall_temperature ≤ 6000
  pub vessel_is : q.vessel_pressure ≡ pos (unsigned_abs q.vessel_pressure)
  pub vessel_most : unsigned_abs q.vessel_pressure ≤ 10000
  pub temperature_is : q.densitometer_temperature +ℤ pos 1000 ≡ pos (raised q.densitometer_temperature)
  pub temperature_most : raised q.densitometer_temperature ≤ 6000
  pub pressure_is : q.densitometer_pressure ≡ pos (unsigned_abs q.densitometer_pressure)
  pub pressure_most : unsigned_abs q.densitometer_pressure ≤ 10000

pub taken : (q : Question) → takes q ≡ true → Taken q
taken q h =
    let a = both (temperate q.wall_temperature) (pressed q.vessel_pressure && (temperate q.densitometer_temperature && pressed q.densitometer_pressure)) h in
    let b = both (pressed q.vessel_pressure) (temperate q.densitometer_temperature && pressed q.densitometer_pressure) a.1 in
    let c = both (temperate q.densitometer_temperature) (pressed q.densitometer_pressure) b.1 in
    let wall = temperate_raised q.wall_temperature a.0 in
    let vessel = pressed_natural q.vessel_pressure b.0 in
    let temperature = temperate_raised q.densitometer_temperature c.0 in
    let pressure = pressed_natural q.densitometer_pressure c.1 in
    record {
      wall_is = wall.0;
      wall_most = wall.1;
      vessel_is = vessel.0;
      vessel_most = vessel.1;
      temperature_is = temperature.0;
      temperature_most = temperature.1;
      pressure_is = pressure.0;
      pressure_most = pressure.1;
    }

-- a natural number of k-th parts
pub parts_worth : (k n : ℕ) → 0 < k → Worth (parts k (pos n)) n 0 k
parts_worth k n o = worth_of (worth_div o (worth_nat n) (worth_nat k)) o (omega arith)

-- a temperature, and a pressure
pub degrees_worth : (t : ℤ) (n : ℕ) → t +ℤ pos 1000 ≡ pos n → Worth (degrees t) n 1000 100
degrees_worth t n e = worth_of (worth_div (lit< tt) (worth_whole t) (worth_nat 100)) (lit< tt) (omega (arith, ints))

pub megapascals_worth : (p : ℤ) (n : ℕ) → p ≡ pos n → Worth (megapascals p) n 0 1000
megapascals_worth p n e = worth_of (worth_div (lit< tt) (worth_whole p) (worth_nat 1000)) (lit< tt) (omega (arith, ints))

-- a difference over one bottom
difference_n : (p m q n c : ℕ) → (p * c + n * c) * c + (m + q) * (c * c) ≡ (p + n) * (c * c) + (m * c + q * c) * c
difference_n p m q n c = omega arith

pub worth_sub : {x y : Fraction} {p m q n c : ℕ} → Worth x p m c → Worth y q n c → Worth (sub x y) (p + n) (m + q) c
worth_sub {x} {y} {p} {m} {q} {n} {c} h k = worth_of (worth_add h (worth_neg k)) h.positive (difference_n p m q n c)
