-- What pairs that hold figures give: the three consequences that a verdict rests on, and pairs of quotients.
use Rattle.std.proofs.Common.{◌≡◌, ℕ, ◌*◌, ◌/◌, ◌<◌, ◌≤◌, ℤ, pos, ◌+ℤ◌, nat_abs, ◌≤ℤ◌, sym, subst, arith, lit<, le→leb}
use Rattle.std.proofs.lemmas.Int.{ints}
use Rattle.exact.specs.Fractions.{Fraction, Le, Lt, Same, whole, nat, add, sub, mul, div}
use Rattle.exact.specs.Figures.{Figure, number, Exceeds, Keeps, Within}
use Rattle.exact.specs.Pairs.{Holds, parts, steps, floor, ceiling}
use Rattle.exact.proofs.Order.{le_refl, le_trans, le_whole, lt_le, lt_le_trans, not_lt, same_le, same_sym, nat_le, nat_positive}
use Rattle.exact.proofs.Worth.{Worth, worth_nat, worth_whole, worth_add, worth_neg, worth_mul, worth_div, worth_le, le_worth, worth_same}
use Rattle.exact.proofs.Arithmetic.{add_mono, sub_mono, sub_least, mul_mono}
use Rattle.exact.proofs.Quotients.{ratio_ordered as ratio_ordered_n, sized, quotient_least, quotient_most, floor_under, ceil_over, nat_least, nat_most}
use Rattle.exact.proofs.Figures.{lower, higher, apart}

pub keeps : (unit : ℤ → Fraction) (low high : ℤ) (f : Figure) (L : Fraction) → Holds unit low high f → Le (unit high) L → Keeps f L
keeps unit low high f L h k = λ e. not_lt e.1 (le_trans (apart f e.0 (unit high) e.2 h.most) k)

pub exceeds : (unit : ℤ → Fraction) (low high : ℤ) (f : Figure) (L : Fraction) → Holds unit low high f → Lt L (unit low) → Exceeds f L
exceeds unit low high f L h k = (unit low, k, h.least)

pub within : (unit : ℤ → Fraction) (low high : ℤ) (f : Figure) (L d : Fraction) → Holds unit low high f → Le (unit low) L → Le L (unit high) → Le (unit high) (add (unit low) d) → Within f d L
within unit low high f L d h k l m = record {
  below = lower f (sub L d) (unit low) (sub_least L (unit low) d (le_trans l m)) h.least;
  above = higher f (unit high) (add L d) (le_trans m (add_mono k (le_refl d))) h.most;
}

-- a number's pair holds any other form of the number
pub holds_same : {unit : ℤ → Fraction} {low high : ℤ} {x y : Fraction} → Same x y → Holds unit low high (number x) → Holds unit low high (number y)
holds_same e h = record { least = le_trans h.least (same_le e); most = le_trans (same_le (same_sym e)) h.most }

-- the same ends, written another way
pub holds_ends : {unit : ℤ → Fraction} {low high l h : ℤ} {f : Figure} → l ≡ low → h ≡ high → Holds unit low high f → Holds unit l h f
holds_ends {unit} {low} {high} {l} {h} {f} e d k = subst (λ (z : ℤ). Holds unit z h f) (sym e) (subst (λ (z : ℤ). Holds unit low z f) (sym d) k)

-- n/d between its floor and its ceiling
pub holds_quotient : (n d : ℕ) → 0 < d → Holds whole (pos (n / d)) (pos (ceiling n d)) (number (div (nat n) (nat d)))
holds_quotient n d o = record { least = nat_least n d (n / d) o (floor_under n d o).0; most = nat_most n d (ceiling n d) o (ceil_over n d o).0 }

-- a pair of whole numbers that holds k times a number holds the number, in its k-th parts
pub holds_parts : (k : ℕ) → 0 < k → (low high : ℤ) (x : Fraction) → Holds whole low high (number (mul x (nat k))) → Holds (parts k) low high (number x)
holds_parts k o low high x h = record { least = quotient_most (nat_positive o) h.least; most = quotient_least (nat_positive o) h.most }

-- steps that are not negative
steps_worth : (n : ℕ) → Worth (steps (pos n)) (n * 1) (0 * 1) (1 * 100000000)
steps_worth n = worth_div (lit< tt) (worth_nat n) (worth_nat 100000000)

steps_positive : (n : ℕ) → Le (nat 0) (steps (pos n))
steps_positive n = worth_le (worth_nat 0) (steps_worth n) (omega arith)

-- the quotient of two figures above 0: the lower end from the lower over the upper, the upper end the other way
holds_ratio_n : (a A b B : ℕ) (x y : Fraction) → 0 < b → 0 < B → Holds whole (pos a) (pos A) (number x) → Holds whole (pos b) (pos B) (number y)
    → Holds steps (pos (floor (100000000 * a) B)) (pos (ceiling (100000000 * A) b)) (number (div x y))
holds_ratio_n a A b B x y o O h k =
    let y-above : Lt (nat 0) y = lt_le_trans (nat_positive o) k.least in
    let y-positive : Le (nat 0) y = lt_le y-above in
    record {
      least = quotient_least y-above (le_trans (mul_mono (steps_positive (floor (100000000 * a) B)) y-positive (le_refl (steps (pos (floor (100000000 * a) B)))) k.most)
          (le_trans (under (floor (100000000 * a) B) (floor_under (100000000 * a) B O).0) h.least));
      most = quotient_most y-above (le_trans h.most (le_trans (over (ceiling (100000000 * A) b) (ceil_over (100000000 * A) b o).0)
          (mul_mono (steps_positive (ceiling (100000000 * A) b)) (nat_le (omega arith)) (le_refl (steps (pos (ceiling (100000000 * A) b)))) k.least)));
    }
  where
    under : (q : ℕ) → q * B ≤ 100000000 * a → Le (mul (steps (pos q)) (nat B)) (nat a)
    under q l = worth_le (worth_mul (steps_worth q) (worth_nat B)) (worth_nat a) (omega arith)

    over : (q : ℕ) → 100000000 * A ≤ q * b → Le (nat A) (mul (steps (pos q)) (nat b))
    over q l = worth_le (worth_nat A) (worth_mul (steps_worth q) (worth_nat b)) (omega arith)

-- the same of signed ends
pub holds_ratio : (a A b B : ℤ) → a ≤ℤ A → b ≤ℤ B → pos 0 ≤ℤ a → pos 1 ≤ℤ b → (x y : Fraction) → Holds whole a A (number x) → Holds whole b B (number y)
    → Holds steps (pos (floor (100000000 * nat_abs a) (nat_abs B))) (pos (ceiling (100000000 * nat_abs A) (nat_abs b))) (number (div x y))
holds_ratio a A b B i j z o x y h k =
    holds_ratio_n (nat_abs a) (nat_abs A) (nat_abs b) (nat_abs B) x y (omega (arith, ints)) (omega (arith, ints))
    (holds_ends (sym (sized a z)) (sym (sized A (omega (arith, ints)))) h)
    (holds_ends (sym (sized b (omega (arith, ints)))) (sym (sized B (omega (arith, ints)))) k)

pub ratio_ordered : (a A b B : ℤ) → a ≤ℤ A → b ≤ℤ B → pos 0 ≤ℤ a → pos 1 ≤ℤ b → pos (floor (100000000 * nat_abs a) (nat_abs B)) ≤ℤ pos (ceiling (100000000 * nat_abs A) (nat_abs b))
ratio_ordered a A b B i j z o =
    let n = ratio_ordered_n 100000000 (nat_abs a) (nat_abs A) (nat_abs b) (nat_abs B) (omega (arith, ints)) (omega (arith, ints)) (omega (arith, ints)) in
    record { le = le→leb _ _ n }

-- steps less 1
steps_less : (l z : ℤ) → z ≡ l +ℤ pos 100000000 → Same (steps l) (sub (steps z) (nat 1))
steps_less l z e = worth_same (worth_div (lit< tt) (worth_whole l) (worth_nat 100000000)) (worth_add (worth_div (lit< tt) (worth_whole z) (worth_nat 100000000)) (worth_neg (worth_nat 1))) (omega (arith, ints))

pub holds_less : (low high l h : ℤ) → low ≡ l +ℤ pos 100000000 → high ≡ h +ℤ pos 100000000 → (x : Fraction) → Holds steps low high (number x) → Holds steps l h (number (sub x (nat 1)))
holds_less low high l h e d x k = record {
  least = le_trans (same_le (steps_less l low e)) (sub_mono k.least (le_refl (nat 1)));
  most = le_trans (sub_mono k.most (le_refl (nat 1))) (same_le (same_sym (steps_less h high d)));
}

-- ends that hold a number are in order
pub ordered_whole : {low high : ℤ} {x : Fraction} → Holds whole low high (number x) → low ≤ℤ high
ordered_whole h = le_whole (le_trans h.least h.most)

pub ordered_steps : {low high : ℤ} {x : Fraction} → Holds steps low high (number x) → low ≤ℤ high
ordered_steps {low} {high} h =
    let l = le_worth (worth_div (lit< tt) (worth_whole low) (worth_nat 100000000)) (worth_div (lit< tt) (worth_whole high) (worth_nat 100000000)) (le_trans h.least h.most) in
    omega (arith, ints, l)
