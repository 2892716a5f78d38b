-- What scatter is measured against, between the ends of the divisor.
use Rattle.std.proofs.Common.{◌≡◌, ℕ, ℤ, pos, ◌+ℤ◌, nat_abs, sym, subst, arith}
use Rattle.std.proofs.lemmas.Int.{ints}
use Rattle.exact.specs.Fractions.{Fraction, Le}
use Rattle.exact.specs.Pairs.{steps}
use Rattle.exact.proofs.Worth.{worth_nat, worth_le}
use Rattle.pass.specs.Kinds.{Kind, K, MF, F}
use Rattle.point.specs.Points.{against}
use Rattle.point.specs.Levels.{level, raise, against_end}
use Rattle.point.proofs.Steps.{worth_step}

same_step : (a n : ℕ) {x : Fraction} → a ≡ n → Le (steps (pos n)) x → Le (steps (pos a)) x
same_step a n {x} e h = subst (λ (z : ℕ). Le (steps (pos z)) x) (sym e) h

step_same : (a n : ℕ) {x : Fraction} → a ≡ n → Le x (steps (pos n)) → Le x (steps (pos a))
step_same a n {x} e h = subst (λ (z : ℕ). Le x (steps (pos z))) (sym e) h

pub against_least : (k : Kind) (z : ℤ) (n : ℕ) (m : Fraction) → z +ℤ pos (raise k) ≡ pos n → Le (steps (pos n)) (level k m) → Le (steps (pos (against_end k z))) (against k m)
against_least K z n m e h = same_step (nat_abs z) n (omega (arith, ints)) h
against_least MF z n m e h = same_step (nat_abs z) n (omega (arith, ints)) h
against_least F z n m e h = worth_le (worth_step 100000000) (worth_nat 1) (omega arith)

pub against_most : (k : Kind) (z : ℤ) (n : ℕ) (m : Fraction) → z +ℤ pos (raise k) ≡ pos n → Le (level k m) (steps (pos n)) → Le (against k m) (steps (pos (against_end k z)))
against_most K z n m e h = step_same (nat_abs z) n (omega (arith, ints)) h
against_most MF z n m e h = step_same (nat_abs z) n (omega (arith, ints)) h
against_most F z n m e h = worth_le (worth_nat 1) (worth_step 100000000) (omega arith)
