-- The linear liquid's factor in tenths of a step.
use Rattle.std.specs.Prelude.{◌≡◌, ℕ, ◌+◌, ◌*◌, ◌≤◌, true, pos, ◌+ℤ◌, unsigned_abs}
use Rattle.std.proofs.Common.{arith, mul-le-mul, lit<}
use Rattle.std.proofs.lemmas.Int.{ints}
use Rattle.exact.specs.Fractions.{Fraction, Same, nat, mul, div}
use Rattle.exact.specs.Pairs.{floor, ceiling}
use Rattle.exact.proofs.Worth.{Worth, worth_nat, worth_add, worth_mul, worth_div, worth_of, worth_same}
use Rattle.exact.proofs.Pairs.{holds_parts, holds_same, holds_quotient}
use Rattle.exact.proofs.Quotients.{floor_ceil, floor_least, ceil_most}
use Rattle.liquid.specs.Questions.{takes}
use Rattle.pass.specs.Ranges.{raised}
use Rattle.liquid.specs.Liquids.{Carries}
use Rattle.liquid.specs.Linear.{linear_factor, tenths}
use Rattle.liquid.specs.declared.question.Question.{Question}
use Rattle.liquid.specs.Readings.{taken, parts_worth, degrees_worth, megapascals_worth, worth_sub}

-- the factor is (more − less)/10⁹
factor_n : (β γ tp pp tv pv : ℕ) → ((1 * (1000000 * 100) + (β * (tp + 1000) + 0 * (1000 + tv)) * 1) * (1000000 * 1000) + (γ * (pv + 0) + 0 * (0 + pp)) * (1 * (1000000 * 100))) * 1000000000
    + (10 * β * tv + γ * pp) * (1 * (1000000 * 100) * (1000000 * 1000))
    ≡ (1000000000 + (10 * β * tp + γ * pv)) * (1 * (1000000 * 100) * (1000000 * 1000))
    + ((0 * (1000000 * 100) + (β * (1000 + tv) + 0 * (tp + 1000)) * 1) * (1000000 * 1000) + (γ * (0 + pp) + 0 * (pv + 0)) * (1 * (1000000 * 100))) * 1000000000
factor_n β γ tp pp tv pv = omega arith

factor_worth : (β γ tp pp tv pv : ℕ) (q : Question) → q.densitometer_temperature +ℤ pos 1000 ≡ pos tp → q.densitometer_pressure ≡ pos pp → q.wall_temperature +ℤ pos 1000 ≡ pos tv → q.vessel_pressure ≡ pos pv
    → Worth (linear_factor (pos β) (pos γ) q) (1000000000 + (10 * β * tp + γ * pv)) (10 * β * tv + γ * pp) 1000000000
unfolding linear_factor
factor_worth β γ tp pp tv pv q a b c d =
    worth_of (worth_add (worth_add (worth_nat 1) (worth_mul (parts_worth 1000000 β (lit< tt)) (worth_sub (degrees_worth q.densitometer_temperature tp a) (degrees_worth q.wall_temperature tv c))))
    (worth_mul (parts_worth 1000000 γ (lit< tt)) (worth_sub (megapascals_worth q.vessel_pressure pv d) (megapascals_worth q.densitometer_pressure pp b)))) (lit< tt) (factor_n β γ tp pp tv pv)

-- what is taken away is less than 0.17
pub parts_most : (β γ t p : ℕ) → β ≤ 2000 → γ ≤ 5000 → t ≤ 6000 → p ≤ 10000 → 10 * β * t + γ * p ≤ 170000000
parts_most β γ t p h i j k =
    let a : β * t ≤ 2000 * 6000 = mul-le-mul h j in
    let b : γ * p ≤ 5000 * 10000 = mul-le-mul i k in
    omega arith

same_n : (more less n : ℕ) → n + less ≡ more → n * 1 * (1000000000 * 1) + (more * 0 + less * 100000000) * (1 * 10) ≡ (more * 100000000 + less * 0) * (1 * 10) + 0 * 1 * (1000000000 * 1)
same_n more less n e = omega arith

tenths_same : {x : Fraction} (more less n : ℕ) → n + less ≡ more → Worth x more less 1000000000 → Same (div (nat n) (nat 10)) (mul x (nat 100000000))
tenths_same more less n e w =
    worth_same (worth_div (lit< tt) (worth_nat n) (worth_nat 10)) (worth_mul w (worth_nat 100000000)) (same_n more less n e)

carries_n : {x : Fraction} (more less n : ℕ) → n + less ≡ more → 830000000 ≤ n → n ≤ 1170000000 → Worth x more less 1000000000 → Carries x (record { low = pos (floor n 10); high = pos (ceiling n 10) })
carries_n {x} more less n e l m w =
    let f = floor_ceil n 10 (lit< tt) in
    let g = floor_least n 10 80000000 (lit< tt) (omega arith) in
    let h = ceil_most n 10 120000000 (lit< tt) (omega arith) in
    record {
      holds = holds_parts 100000000 (lit< tt) _ _ x (holds_same (tenths_same more less n e w) (holds_quotient n 10 (lit< tt)));
      least = omega (arith, ints, g);
      most = omega (arith, ints, h);
      narrow = omega (arith, ints, f.1);
    }

pub linear_carries : (β γ : ℕ) (q : Question) → β ≤ 2000 → γ ≤ 5000 → takes q ≡ true
    → Carries (linear_factor (pos β) (pos γ) q) (record { low = pos (floor (tenths β γ (raised q.densitometer_temperature) (unsigned_abs q.densitometer_pressure) (raised q.wall_temperature) (unsigned_abs q.vessel_pressure)) 10); high = pos (ceiling (tenths β γ (raised q.densitometer_temperature) (unsigned_abs q.densitometer_pressure) (raised q.wall_temperature) (unsigned_abs q.vessel_pressure)) 10) })
linear_carries β γ q b g h =
    let k = taken q h in
    let tv = raised q.wall_temperature in
    let pv = unsigned_abs q.vessel_pressure in
    let tp = raised q.densitometer_temperature in
    let pp = unsigned_abs q.densitometer_pressure in
    let more = parts_most β γ tp pv b g k.temperature_most k.vessel_most in
    let less = parts_most β γ tv pp b g k.wall_most k.pressure_most in
    carries_n (1000000000 + (10 * β * tp + γ * pv)) (10 * β * tv + γ * pp) (tenths β γ tp pp tv pv) (omega arith) (omega arith) (omega arith)
    (factor_worth β γ tp pp tv pv q k.temperature_is k.pressure_is k.wall_is k.vessel_is)
