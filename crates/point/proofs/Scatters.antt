-- S and S0 from the sum of squared deviations and what scatter is measured against.
use Rattle.std.proofs.Common.{◌≡◌, ℕ, ◌+◌, ◌-◌, ◌*◌, ◌<◌, ◌≤◌, List, length, pos, mul-le-mul, mul-pos, arith, lit<}
use Rattle.exact.specs.Fractions.{Fraction, Le, Lt, nat, mul, div}
use Rattle.exact.specs.Figures.{root}
use Rattle.exact.specs.Pairs.{Holds, steps}
use Rattle.exact.proofs.Order.{le_refl, le_trans, lt_le, lt_le_trans, nat_le, nat_positive}
use Rattle.exact.proofs.Worth.{Worth, worth_nat, worth_mul, worth_div, worth_le, worth_lt, worth_of}
use Rattle.exact.proofs.Arithmetic.{mul_mono}
use Rattle.exact.proofs.Quotients.{quotient_least, quotient_most}
use Rattle.exact.proofs.Figures.{square_mono}
use Rattle.pass.specs.Kinds.{Kind}
use Rattle.point.specs.Points.{square, mean, deviation, against, scatter², of_mean², random², student}
use Rattle.point.specs.Deviations.{squares}
use Rattle.point.proofs.Steps.{worth_squares, worth_square, step_positive, root_holds, holds_least, holds_most}

-- (n − 1)·m² for m between x and X steps
below_bottom : (P x : ℕ) (m : Fraction) → Le (steps (pos x)) m → Le (mul (nat P) (mul (steps (pos x)) (steps (pos x)))) (mul (nat P) (square m))
below_bottom P x m h =
    mul_mono (nat_le (omega arith)) (worth_le (worth_nat 0) (worth_square x) (omega arith)) (le_refl (nat P)) (square_mono (step_positive x) h)

above_bottom : (P x X : ℕ) (m : Fraction) → Le (steps (pos x)) m → Le m (steps (pos X)) → Le (mul (nat P) (square m)) (mul (nat P) (mul (steps (pos X)) (steps (pos X))))
above_bottom P x X m h k =
    let p : Le (nat 0) m = le_trans (step_positive x) h in
    mul_mono (nat_le (omega arith)) (le_trans (worth_le (worth_nat 0) (worth_square x) (omega arith)) (square_mono (step_positive x) h)) (le_refl (nat P)) (square_mono p k)

worth_bottom : (P x : ℕ) → Worth (mul (nat P) (mul (steps (pos x)) (steps (pos x)))) (P * (x * x)) 0 10000000000000000
worth_bottom P x = worth_of (worth_mul (worth_nat P) (worth_square x)) (lit< tt) (omega arith)

bottom_positive : (P x : ℕ) (m : Fraction) → 0 < P → 0 < x → Le (steps (pos x)) m → Lt (nat 0) (mul (nat P) (square m))
bottom_positive P x m o q h =
    let z : 0 < P * (x * x) = mul-pos o (mul-pos q q) in
    lt_le_trans (worth_lt (worth_nat 0) (worth_bottom P x) (omega arith)) (below_bottom P x m h)

-- t squared steps are at most D/(P·m²)
relative_least : (t P x X D : ℕ) (q d m : Fraction) → Worth q t 0 10000000000000000 → 0 < P → 0 < x → t * (P * (X * X)) ≤ D * 10000000000000000
    → Le (squares D) d → Le (steps (pos x)) m → Le m (steps (pos X)) → Le q (div d (mul (nat P) (square m)))
relative_least t P x X D q d m w o z i h a b =
    quotient_least (bottom_positive P x m o z a)
    (le_trans (mul_mono (worth_le (worth_nat 0) w (omega arith)) (lt_le (bottom_positive P x m o z a)) (le_refl q) (above_bottom P x X m a b))
    (le_trans (worth_le (worth_mul w (worth_bottom P X)) (worth_squares D) (go t (P * (X * X)) D i)) h))
  where
    go : (t B D : ℕ) → t * B ≤ D * 10000000000000000 → (t * B + 0 * 0) * 10000000000000000 + 0 * (10000000000000000 * 10000000000000000) ≤ D * (10000000000000000 * 10000000000000000) + (t * 0 + 0 * B) * 10000000000000000
    go t B D i = omega arith

relative_most : (t P x D : ℕ) (q d m : Fraction) → Worth q t 0 10000000000000000 → 0 < P → 0 < x → D * 10000000000000000 ≤ t * (P * (x * x))
    → Le d (squares D) → Le (steps (pos x)) m → Le (div d (mul (nat P) (square m))) q
relative_most t P x D q d m w o z i h a =
    quotient_most (bottom_positive P x m o z a)
    (le_trans h (le_trans (worth_le (worth_squares D) (worth_mul w (worth_bottom P x)) (go t (P * (x * x)) D i))
    (mul_mono (worth_le (worth_nat 0) w (omega arith)) (worth_le (worth_nat 0) (worth_bottom P x) (omega arith)) (le_refl q) (below_bottom P x m a))))
  where
    go : (t B D : ℕ) → D * 10000000000000000 ≤ t * B → D * (10000000000000000 * 10000000000000000) + (t * 0 + 0 * B) * 10000000000000000 ≤ (t * B + 0 * 0) * 10000000000000000 + 0 * (10000000000000000 * 10000000000000000)
    go t B D i = omega arith

-- S: l²·(n − 1)·X² ≤ D⁻·10¹⁶ and D⁺·10¹⁶ ≤ h²·(n − 1)·x²
pub scatter_holds : (k : Kind) (xs : List Fraction) (n l h x X D E : ℕ) → length xs ≡ n → 0 < n - 1 → 0 < x
    → (l * l) * ((n - 1) * (X * X)) ≤ D * 10000000000000000 → E * 10000000000000000 ≤ (h * h) * ((n - 1) * (x * x))
    → Le (squares D) (deviation xs) → Le (deviation xs) (squares E) → Le (steps (pos x)) (against k (mean xs)) → Le (against k (mean xs)) (steps (pos X))
    → Holds steps (pos l) (pos h) (root (scatter² k xs))
unfolding scatter²
scatter_holds k xs n l h x X D E e o z i j a b c d =
    root_holds l h (div (deviation xs) (mul (nat (length xs - 1)) (square (against k (mean xs)))))
    (rw e (relative_least (l * l) (n - 1) x X D (squares (l * l)) (deviation xs) (against k (mean xs)) (worth_squares (l * l)) o z i a c d))
    (rw e (relative_most (h * h) (n - 1) x E (squares (h * h)) (deviation xs) (against k (mean xs)) (worth_squares (h * h)) o z j b c))

-- S0: the same with n·(n − 1) for n − 1
worth_times : (t n : ℕ) → Worth (mul (squares t) (nat n)) (t * n) 0 10000000000000000
worth_times t n = worth_of (worth_mul (worth_squares t) (worth_nat n)) (lit< tt) (omega arith)

shuffle : (t n m Q : ℕ) → t * ((n * m) * Q) ≡ t * n * (m * Q)
shuffle t n m Q = omega arith

pub of_mean_holds : (k : Kind) (xs : List Fraction) (n l h x X D E : ℕ) → length xs ≡ n → 0 < n - 1 → 0 < x
    → (l * l) * ((n * (n - 1)) * (X * X)) ≤ D * 10000000000000000 → E * 10000000000000000 ≤ (h * h) * ((n * (n - 1)) * (x * x))
    → Le (squares D) (deviation xs) → Le (deviation xs) (squares E) → Le (steps (pos x)) (against k (mean xs)) → Le (against k (mean xs)) (steps (pos X))
    → Holds steps (pos l) (pos h) (root (of_mean² k xs))
unfolding of_mean² scatter²
of_mean_holds k xs n l h x X D E e o z i j a b c d =
    let N : 0 < n = omega arith in
    let i' : (l * l * n) * ((n - 1) * (X * X)) ≤ D * 10000000000000000 = rw (← shuffle (l * l) n (n - 1) (X * X)) i in
    let j' : E * 10000000000000000 ≤ (h * h * n) * ((n - 1) * (x * x)) = rw (← shuffle (h * h) n (n - 1) (x * x)) j in
    root_holds l h (div (div (deviation xs) (mul (nat (length xs - 1)) (square (against k (mean xs))))) (nat (length xs)))
    (rw e (quotient_least (nat_positive N) (relative_least (l * l * n) (n - 1) x X D (mul (squares (l * l)) (nat n)) (deviation xs) (against k (mean xs)) (worth_times (l * l) n) o z i' a c d)))
    (rw e (quotient_most (nat_positive N) (relative_most (h * h * n) (n - 1) x E (mul (squares (h * h)) (nat n)) (deviation xs) (against k (mean xs)) (worth_times (h * h) n) o z j' b c)))

-- ε from S0: 1000·l ≤ t·s and t·S ≤ 1000·h
worth_factor : (t : ℕ) → Worth (square (div (nat t) (nat 1000))) (t * t) 0 1000000
worth_factor t = worth_of (worth_mul (worth_div (lit< tt) (worth_nat t) (worth_nat 1000)) (worth_div (lit< tt) (worth_nat t) (worth_nat 1000))) (lit< tt) (omega arith)

pub random_holds : (k : Kind) (xs : List Fraction) (t s S l h : ℕ) → student (length xs) ≡ t → l * 1000 ≤ t * s → t * S ≤ h * 1000
    → Holds steps (pos s) (pos S) (root (of_mean² k xs)) → Holds steps (pos l) (pos h) (root (random² k xs))
unfolding random²
random_holds k xs t s S l h e i j c =
    root_holds l h (mul (square (div (nat (student (length xs))) (nat 1000))) (of_mean² k xs))
    (rw e (le_trans (worth_le (worth_squares (l * l)) (worth_mul (worth_factor t) (worth_squares (s * s))) (least (mul-le-mul i i)))
    (mul_mono (worth_le (worth_nat 0) (worth_factor t) (omega arith)) (worth_le (worth_nat 0) (worth_squares (s * s)) (omega arith)) (le_refl _) (holds_least s S (of_mean² k xs) c))))
    (rw e (le_trans (mul_mono (worth_le (worth_nat 0) (worth_factor t) (omega arith)) (le_trans (worth_le (worth_nat 0) (worth_squares (s * s)) (omega arith)) (holds_least s S (of_mean² k xs) c)) (le_refl _) (holds_most s S (of_mean² k xs) c))
    (worth_le (worth_mul (worth_factor t) (worth_squares (S * S))) (worth_squares (h * h)) (most (mul-le-mul j j)))))
  where
    least : (l * 1000) * (l * 1000) ≤ (t * s) * (t * s) → (l * l) * (1000000 * 10000000000000000) + (t * t * 0 + 0 * (s * s)) * 10000000000000000 ≤ (t * t * (s * s) + 0 * 0) * 10000000000000000 + 0 * (1000000 * 10000000000000000)
    least g = omega arith

    most : (t * S) * (t * S) ≤ (h * 1000) * (h * 1000) → (t * t * (S * S) + 0 * 0) * 10000000000000000 + 0 * (1000000 * 10000000000000000) ≤ (h * h) * (1000000 * 10000000000000000) + (t * t * 0 + 0 * (S * S)) * 10000000000000000
    most g = omega arith
