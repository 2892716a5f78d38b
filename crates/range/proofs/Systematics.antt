-- Θ from Θ_A and the given limits.
use Rattle.std.proofs.Common.{All, ◌≡◌, ℕ, pred, ◌+◌, ◌*◌, ◌<◌, ◌≤◌, List, [], ◌∷◌, map, pos, sum_by, mul-le-mul, arith, lit<}
use native.Mathlib.Decide.{dec_le}
use Rattle.std.proofs.lemmas.List.Elements.{All-from_recursion}
use Rattle.std.proofs.lemmas.List.Sums.{sum_by-cons, sum_by-le}
use Rattle.exact.specs.Fractions.{Fraction, Le, Same, nat, add, mul, div}
use Rattle.exact.specs.Figures.{number, root}
use Rattle.exact.specs.Pairs.{Holds, steps}
use Rattle.exact.proofs.Order.{le_refl, le_trans, same_le, same_sym, same_trans}
use Rattle.exact.proofs.Worth.{Worth, worth_nat, worth_add, worth_mul, worth_div, worth_le, worth_same, worth_of}
use Rattle.exact.proofs.Arithmetic.{add_mono, add_same, mul_mono}
use Rattle.exact.proofs.Figures.{square_mono}
use Rattle.point.specs.Points.{square, sum}
use Rattle.point.specs.Deviations.{squares}
use Rattle.point.proofs.Naturals.{root_lt, root_le, square_mono as square_mono_n}
use Rattle.point.proofs.Steps.{worth_squares, square_step, step_positive, root_holds}
use Rattle.range.specs.Ranges.{Θ², given}
use Rattle.range.specs.Judgements.{Limits}

squares_add : (a b : ℕ) → Same (add (squares a) (squares b)) (squares (a + b))
squares_add a b = worth_same (worth_add (worth_squares a) (worth_squares b)) (worth_squares (a + b)) (omega arith)

-- the squares of the given limits, added up
given_sum : (limits : List ℕ) → Same (sum (map square (given limits))) (squares (sum_by (λ g. g * g) limits))
unfolding sum
given_sum [] = worth_same (worth_nat 0) (worth_squares 0) (omega arith)
given_sum (g ∷ gs) = rw (sum_by-cons (λ g. g * g) g gs) (same_trans (add_same (square_step g) (given_sum gs)) (squares_add (g * g) (sum_by (λ g. g * g) gs)))

-- at most eight squares of at most 1,000,000 each
pub squares_small : (limits : List ℕ) → Limits limits → sum_by (λ g. g * g) limits ≤ 8000000000000
squares_small limits l =
    let small : All (λ g. g ≤ 1000000) limits = All-from_recursion (λ g. g ≤ 1000000) limits l.small in
    omega (arith, l.few, sum_by-le (λ g. g * g) 1000000000000 limits (λ k d m. mul-le-mul (small k d m) (small k d m)))

worth_factor : Worth (div (nat 121) (nat 100)) 121 0 100
worth_factor = worth_of (worth_div (lit< tt) (worth_nat 121) (worth_nat 100)) (lit< tt) (omega arith)

-- 121·(a² + G) against 100·l²: Θ_A lies from a to A, G is the sum of the squares of the limits
pub systematic_holds : (limits : List ℕ) (x : Fraction) (a A G l h : ℕ) → G ≡ sum_by (λ g. g * g) limits → (l * l) * 100 ≤ 121 * (a * a + G) → 121 * (A * A + G) ≤ (h * h) * 100
    → Holds steps (pos a) (pos A) (number x) → Holds steps (pos l) (pos h) (root (Θ² (given limits) x))
unfolding Θ²
systematic_holds limits x a A G l h e u v k =
    let positive : Le (nat 0) x = le_trans (step_positive a) k.least in
    let s = sum (map square (given limits)) in
    let both : Same s (squares G) = rw e (given_sum limits) in
    let low : Le (squares (a * a + G)) (add (square x) s) = le_trans (same_le (same_sym (squares_add (a * a) G))) (add_mono (le_trans (same_le (same_sym (square_step a))) (square_mono (step_positive a) k.least)) (same_le (same_sym both))) in
    let high : Le (add (square x) s) (squares (A * A + G)) = le_trans (add_mono (le_trans (square_mono positive k.most) (same_le (square_step A))) (same_le both)) (same_le (squares_add (A * A) G)) in
    let p : Le (nat 0) (squares (a * a + G)) = worth_le (worth_nat 0) (worth_squares (a * a + G)) (omega arith) in
    let q : Le (nat 0) (div (nat 121) (nat 100)) = worth_le (worth_nat 0) worth_factor (omega arith) in
    root_holds l h (mul (div (nat 121) (nat 100)) (add (square x) s))
    (le_trans (worth_le (worth_squares (l * l)) (worth_mul worth_factor (worth_squares (a * a + G))) (under (l * l) (a * a + G) u)) (mul_mono q p (le_refl (div (nat 121) (nat 100))) low))
    (le_trans (mul_mono q (le_trans p low) (le_refl (div (nat 121) (nat 100))) high) (worth_le (worth_mul worth_factor (worth_squares (A * A + G))) (worth_squares (h * h)) (over (h * h) (A * A + G) v)))
  where
    under : (t b : ℕ) → t * 100 ≤ 121 * b → t * (100 * 10000000000000000) + (121 * 0 + 0 * b) * 10000000000000000 ≤ (121 * b + 0 * 0) * 10000000000000000 + 0 * (100 * 10000000000000000)
    under t b i = omega arith

    over : (t b : ℕ) → 121 * b ≤ t * 100 → (121 * b + 0 * 0) * 10000000000000000 + 0 * (100 * 10000000000000000) ≤ t * (100 * 10000000000000000) + (121 * 0 + 0 * b) * 10000000000000000
    over t b i = omega arith

-- Θ's ends are at most 309 apart, where those of Θ_A are at most 280: the upper end stays within 308 of the lower one's successor.
pub systematic_narrow : (a A G l H : ℕ) → a ≤ A → A ≤ a + 280 → A ≤ 6000000 → G ≤ 8000000000000 → (l * l) * 100 ≤ 121 * (a * a + G) → 121 * (a * a + G) < ((l + 1) * (l + 1)) * 100 → 121 * (A * A + G) ≤ (H * H) * 100
    → ((j : ℕ) → H ≡ j + 1 → (j * j) * 100 < 121 * (A * A + G)) → (l ≤ H) × (H ≤ l + 309) × (H ≤ 20000000)
systematic_narrow a A G l H o h m g u v w f =
    let mono : a * a ≤ A * A = mul-le-mul o o in
    let order : l * l ≤ H * H = omega arith in
    let near : (11 * a) * (11 * a) < (10 * (l + 1)) * (10 * (l + 1)) = omega arith in
    let less = root_lt (11 * a) (10 * (l + 1)) near in
    let more : A * A ≤ (a + 280) * (a + 280) = mul-le-mul h h in
    let top : 121 * (A * A + G) ≤ ((l + 1 + 308) * (l + 1 + 308)) * 100 = go (l + 1) v less more in
    let cap : A * A ≤ 6000000 * 6000000 = mul-le-mul m m in
    (root_le l H order, omega (arith, most (l + 1 + 308) top), most 20000000 (omega arith))
  where
    go : (s : ℕ) → 121 * (a * a + G) < (s * s) * 100 → 11 * a < 10 * s → A * A ≤ (a + 280) * (a + 280) → 121 * (A * A + G) ≤ ((s + 308) * (s + 308)) * 100
    go s i j k = omega arith

    most : (r : ℕ) → 121 * (A * A + G) ≤ (r * r) * 100 → H ≤ r
    most r i = elim (dec_le H r) [
      | yes k ↦ k
      | no k ↦ absurd (let e : H ≡ pred H + 1 = omega arith in let q : r * r ≤ pred H * pred H = square_mono_n r (pred H) (omega arith) in omega (arith, f (pred H) e))
    ]
