-- Ends in steps that are not negative, and what figures they hold.
use Rattle.std.proofs.Common.{ℕ, ◌*◌, ◌⊎◌, pos, inl, inr, arith, lit<}
use Rattle.exact.specs.Fractions.{Fraction, Le, Lt, Same, nat, neg, mul}
use Rattle.exact.specs.Figures.{root}
use Rattle.exact.specs.Pairs.{Holds, steps}
use Rattle.exact.proofs.Order.{le_trans, le_or_lt, lt_le, same_le, same_sym}
use Rattle.exact.proofs.Worth.{Worth, worth_itself, worth_nat, worth_neg, worth_mul, worth_div, worth_le, le_worth, worth_same, worth_of}
use Rattle.exact.proofs.Figures.{square_mono}
use Rattle.point.specs.Deviations.{squares}

pub worth_step : (n : ℕ) → Worth (steps (pos n)) n 0 100000000
worth_step n = worth_of (worth_div (lit< tt) (worth_nat n) (worth_nat 100000000)) (lit< tt) (omega arith)

pub step_positive : (n : ℕ) → Le (nat 0) (steps (pos n))
step_positive n = worth_le (worth_nat 0) (worth_step n) (omega arith)

pub worth_squares : (n : ℕ) → Worth (squares n) n 0 10000000000000000
worth_squares n = worth_of (worth_div (lit< tt) (worth_nat n) (worth_nat 10000000000000000)) (lit< tt) (omega arith)

pub worth_square : (n : ℕ) → Worth (mul (steps (pos n)) (steps (pos n))) (n * n) 0 10000000000000000
worth_square n = worth_of (worth_mul (worth_step n) (worth_step n)) (lit< tt) (omega arith)

pub square_step : (n : ℕ) → Same (mul (steps (pos n)) (steps (pos n))) (squares (n * n))
square_step n = worth_same (worth_square n) (worth_squares (n * n)) (omega arith)

-- the square of a number and of its negative
square_neg : (x : Fraction) → Same (mul (neg x) (neg x)) (mul x x)
square_neg x = worth_same (worth_mul (worth_neg (worth_itself x)) (worth_neg (worth_itself x))) (worth_mul (worth_itself x) (worth_itself x)) (omega arith)

neg_least : (x : Fraction) → Le x (nat 0) → Le (nat 0) (neg x)
neg_least x h = worth_le (worth_nat 0) (worth_neg (worth_itself x)) (omega (arith, le_worth (worth_itself x) (worth_nat 0) h))

-- a number at least u steps from 0 on either side: its square is at least u²
pub square_least : (u : ℕ) (x : Fraction) → Le (steps (pos u)) x ⊎ Le (steps (pos u)) (neg x) → Le (squares (u * u)) (mul x x)
square_least u x (inl h) = le_trans (same_le (same_sym (square_step u))) (square_mono (step_positive u) h)
square_least u x (inr h) = le_trans (same_le (same_sym (square_step u))) (le_trans (square_mono (step_positive u) h) (same_le (square_neg x)))

-- a number at most u steps from 0 on both sides: its square is at most u²
pub square_most : (u : ℕ) (x : Fraction) → Le x (steps (pos u)) → Le (neg x) (steps (pos u)) → Le (mul x x) (squares (u * u))
square_most u x h k = go (le_or_lt (nat 0) x)
  where
    go : Le (nat 0) x ⊎ Lt x (nat 0) → Le (mul x x) (squares (u * u))
    go (inl p) = le_trans (square_mono p h) (same_le (square_step u))
    go (inr p) = le_trans (same_le (same_sym (square_neg x))) (le_trans (square_mono (neg_least x (lt_le p)) k) (same_le (square_step u)))

-- a root between two ends, by squares
pub root_holds : (l h : ℕ) (q : Fraction) → Le (squares (l * l)) q → Le q (squares (h * h)) → Holds steps (pos l) (pos h) (root q)
root_holds l h q a b = record { least = λ _. le_trans (same_le (square_step l)) a; most = (step_positive h, le_trans b (same_le (same_sym (square_step h)))) }

pub holds_least : (l h : ℕ) (q : Fraction) → Holds steps (pos l) (pos h) (root q) → Le (squares (l * l)) q
holds_least l h q k = le_trans (same_le (same_sym (square_step l))) (k.least (step_positive l))

pub holds_most : (l h : ℕ) (q : Fraction) → Holds steps (pos l) (pos h) (root q) → Le q (squares (h * h))
holds_most l h q k = le_trans k.most.1 (same_le (square_step h))
