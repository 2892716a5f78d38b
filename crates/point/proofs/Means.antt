-- The mean of values that rows hold, worked out on their levels.
use Rattle.std.proofs.Common.{◌≡◌, ℕ, suc, ◌+◌, ◌*◌, ◌<◌, ◌≤◌, List, [], ◌∷◌, length, ℤ, pos, ◌+ℤ◌, sum_by, refl, ap, subst, arith, lit<}
use Rattle.std.specs.List.{AllByRecursion}
use Rattle.std.specs.Int.{div_ceil}
use Rattle.std.proofs.lemmas.Grind.{div_ceil_times}
use Rattle.std.proofs.lemmas.Int.{ints}
use Rattle.std.proofs.lemmas.List.Sums.{sum_by-cons}
use Rattle.exact.specs.Fractions.{Fraction, Le, Same, nat, add, mul, div}
use Rattle.exact.specs.Figures.{number}
use Rattle.exact.specs.Pairs.{Holds, steps, floor}
use Rattle.exact.proofs.Order.{le_trans, same_le, same_sym, same_refl, nat_positive}
use Rattle.exact.proofs.Worth.{Worth, worth_itself, worth_nat, worth_whole, worth_add, worth_mul, worth_div, worth_le, le_worth, worth_same, worth_of}
use Rattle.exact.proofs.Arithmetic.{add_mono}
use Rattle.exact.proofs.Quotients.{quotient_least, quotient_most, floor_under, ceil_over, floor_least, floor_most, ceil_most, div_ceil_ceiling}
use Rattle.pass.specs.Kinds.{Kind, K, MF, F}
use Rattle.point.specs.declared.ends.Ends.{Ends}
use Rattle.point.specs.Points.{sum, mean}
use Rattle.point.specs.Levels.{level, raise, raised}
use Rattle.point.specs.Rows.{Held, none, more, Fits}
use Rattle.point.proofs.Steps.{worth_step}

-- the level of a row that fits its kind, in natural numbers
pub level_range : (k : Kind) (e : Ends) → Fits k e
    → (e.low +ℤ pos (raise k) ≡ pos (raised k e.low)) × (e.high +ℤ pos (raise k) ≡ pos (raised k e.high))
    × (90000000 ≤ raised k e.low) × (raised k e.low ≤ raised k e.high) × (raised k e.high ≤ 111111112) × (raised k e.high ≤ raised k e.low + 300)
level_range K e f = (omega (arith, ints), omega (arith, ints), omega (arith, ints), omega (arith, ints), omega (arith, ints), omega (arith, ints))
level_range MF e f = (omega (arith, ints), omega (arith, ints), omega (arith, ints), omega (arith, ints), omega (arith, ints), omega (arith, ints))
level_range F e f = (omega (arith, ints), omega (arith, ints), omega (arith, ints), omega (arith, ints), omega (arith, ints), omega (arith, ints))

-- an end's level is worth the end of the level
raised_worth : (z : ℤ) (r n : ℕ) → z +ℤ pos r ≡ pos n → Worth (steps z) n r 100000000
raised_worth z r n e = worth_of (worth_div (lit< tt) (worth_whole z) (worth_nat 100000000)) (lit< tt) (omega (arith, ints))

level_least : (k : Kind) (z : ℤ) (n : ℕ) (x : Fraction) → z +ℤ pos (raise k) ≡ pos n → Le (steps z) x → Le (steps (pos n)) (level k x)
level_least K z n x e h = worth_le (worth_step n) (worth_itself x) (omega (arith, le_worth (raised_worth z 0 n e) (worth_itself x) h))
level_least MF z n x e h = worth_le (worth_step n) (worth_itself x) (omega (arith, le_worth (raised_worth z 0 n e) (worth_itself x) h))
level_least F z n x e h = worth_le (worth_step n) (worth_add (worth_nat 1) (worth_itself x)) (omega (arith, le_worth (raised_worth z 100000000 n e) (worth_itself x) h))

level_most : (k : Kind) (z : ℤ) (n : ℕ) (x : Fraction) → z +ℤ pos (raise k) ≡ pos n → Le x (steps z) → Le (level k x) (steps (pos n))
level_most K z n x e h = worth_le (worth_itself x) (worth_step n) (omega (arith, le_worth (worth_itself x) (raised_worth z 0 n e) h))
level_most MF z n x e h = worth_le (worth_itself x) (worth_step n) (omega (arith, le_worth (worth_itself x) (raised_worth z 0 n e) h))
level_most F z n x e h = worth_le (worth_add (worth_nat 1) (worth_itself x)) (worth_step n) (omega (arith, le_worth (worth_itself x) (raised_worth z 100000000 n e) h))

-- a pair and its raised pair hold a value and its level
pub level_holds : (k : Kind) (low high : ℤ) (l h : ℕ) (x : Fraction) → low +ℤ pos (raise k) ≡ pos l → high +ℤ pos (raise k) ≡ pos h → Holds steps low high (number x) → Holds steps (pos l) (pos h) (number (level k x))
level_holds k low high l h x e f p = record { least = level_least k low l x e p.least; most = level_most k high h x f p.most }

back_least : (k : Kind) (z : ℤ) (n : ℕ) (x : Fraction) → z +ℤ pos (raise k) ≡ pos n → Le (steps (pos n)) (level k x) → Le (steps z) x
back_least K z n x e h = worth_le (raised_worth z 0 n e) (worth_itself x) (omega (arith, le_worth (worth_step n) (worth_itself x) h))
back_least MF z n x e h = worth_le (raised_worth z 0 n e) (worth_itself x) (omega (arith, le_worth (worth_step n) (worth_itself x) h))
back_least F z n x e h = worth_le (raised_worth z 100000000 n e) (worth_itself x) (omega (arith, le_worth (worth_step n) (worth_add (worth_nat 1) (worth_itself x)) h))

back_most : (k : Kind) (z : ℤ) (n : ℕ) (x : Fraction) → z +ℤ pos (raise k) ≡ pos n → Le (level k x) (steps (pos n)) → Le x (steps z)
back_most K z n x e h = worth_le (worth_itself x) (raised_worth z 0 n e) (omega (arith, le_worth (worth_itself x) (worth_step n) h))
back_most MF z n x e h = worth_le (worth_itself x) (raised_worth z 0 n e) (omega (arith, le_worth (worth_itself x) (worth_step n) h))
back_most F z n x e h = worth_le (worth_itself x) (raised_worth z 100000000 n e) (omega (arith, le_worth (worth_add (worth_nat 1) (worth_itself x)) (worth_step n) h))

pub value_holds : (k : Kind) (low high : ℤ) (l h : ℕ) (x : Fraction) → low +ℤ pos (raise k) ≡ pos l → high +ℤ pos (raise k) ≡ pos h → Holds steps (pos l) (pos h) (number (level k x)) → Holds steps low high (number x)
value_holds k low high l h x e f p = record { least = back_least k low l x e p.least; most = back_most k high h x f p.most }

-- Sums. The levels of n values add up to their sum and n times the raise.
abbrev level_sum : Kind → ℕ → Fraction → Fraction
level_sum K n s = s
level_sum MF n s = s
level_sum F n s = add (nat n) s

sum_none : (k : Kind) → Same (level_sum k 0 (nat 0)) (nat 0)
sum_none K = same_refl (nat 0)
sum_none MF = same_refl (nat 0)
sum_none F = worth_same (worth_add (worth_nat 0) (worth_nat 0)) (worth_nat 0) (omega arith)

sum_more : (k : Kind) (n : ℕ) (x s : Fraction) → Same (add (level k x) (level_sum k n s)) (level_sum k (suc n) (add x s))
sum_more K n x s = same_refl (add x s)
sum_more MF n x s = same_refl (add x s)
sum_more F n x s =
    worth_same (worth_add (worth_add (worth_nat 1) (worth_itself x)) (worth_add (worth_nat n) (worth_itself s)))
    (worth_add (worth_nat (suc n)) (worth_add (worth_itself x) (worth_itself s))) (go x.plus x.minus x.bottom s.plus s.minus s.bottom n)
  where
    go : (p m b q l c n : ℕ) → ((1 * b + p * 1) * (1 * c) + (n * c + q * 1) * (1 * b)) * (1 * (b * c)) + (0 * (b * c) + (m * c + l * b) * 1) * ((1 * b) * (1 * c)) ≡ (suc n * (b * c) + (p * c + q * b) * 1) * ((1 * b) * (1 * c)) + ((0 * b + m * 1) * (1 * c) + (0 * c + l * 1) * (1 * b)) * (1 * (b * c))
    go p m b q l c n = omega arith

step_add : (a b : ℕ) → Same (add (steps (pos a)) (steps (pos b))) (steps (pos (a + b)))
step_add a b = worth_same (worth_add (worth_step a) (worth_step b)) (worth_step (a + b)) (omega arith)

pub held_length : {es : List Ends} {xs : List Fraction} → Held es xs → length es ≡ length xs
held_length none = refl
held_length (more h t) = ap suc (held_length t)

sum_least : (k : Kind) (es : List Ends) (xs : List Fraction) → AllByRecursion (Fits k) es → Held es xs → Le (steps (pos (sum_by (λ e. raised k e.low) es))) (level_sum k (length xs) (sum xs))
unfolding sum
sum_least k _ _ f none = le_trans (worth_le (worth_step 0) (worth_nat 0) (omega arith)) (same_le (same_sym (sum_none k)))
sum_least k _ _ f (more {e} {x} {es} {xs} h t) =
    rw (sum_by-cons (λ e. raised k e.low) e es)
    (le_trans (same_le (same_sym (step_add (raised k e.low) (sum_by (λ e. raised k e.low) es))))
    (le_trans (add_mono (level_least k e.low (raised k e.low) x (level_range k e f.0).0 h.least) (sum_least k es xs f.1 t)) (same_le (sum_more k (length xs) x (sum xs)))))

sum_most : (k : Kind) (es : List Ends) (xs : List Fraction) → AllByRecursion (Fits k) es → Held es xs → Le (level_sum k (length xs) (sum xs)) (steps (pos (sum_by (λ e. raised k e.high) es)))
unfolding sum
sum_most k _ _ f none = le_trans (same_le (sum_none k)) (worth_le (worth_nat 0) (worth_step 0) (omega arith))
sum_most k _ _ f (more {e} {x} {es} {xs} h t) =
    rw (sum_by-cons (λ e. raised k e.high) e es)
    (le_trans (same_le (same_sym (sum_more k (length xs) x (sum xs))))
    (le_trans (add_mono (level_most k e.high (raised k e.high) x (level_range k e f.0).1 h.most) (sum_most k es xs f.1 t)) (same_le (step_add (raised k e.high) (sum_by (λ e. raised k e.high) es)))))

mean_level : (k : Kind) (xs : List Fraction) → 0 < length xs → Same (level k (mean xs)) (div (level_sum k (length xs) (sum xs)) (nat (length xs)))
unfolding mean
mean_level K xs o = same_refl (div (sum xs) (nat (length xs)))
mean_level MF xs o = same_refl (div (sum xs) (nat (length xs)))
mean_level F xs o =
    worth_same (worth_add (worth_nat 1) (worth_div o (worth_itself (sum xs)) (worth_nat (length xs)))) (worth_div o (worth_add (worth_nat (length xs)) (worth_itself (sum xs))) (worth_nat (length xs)))
    (go (sum xs).plus (sum xs).minus (sum xs).bottom (length xs))
  where
    go : (p m b n : ℕ) → (1 * (b * n) + p * 1 * 1) * (1 * b * n) + ((0 * b + m * 1) * 1) * (1 * (b * n)) ≡ ((n * b + p * 1) * 1) * (1 * (b * n)) + (0 * (b * n) + m * 1 * 1) * (1 * b * n)
    go p m b n = omega arith

-- the mean's level lies between the mean of the lower ends rounded down and that of the upper ends rounded up
pub mean_holds : (k : Kind) (es : List Ends) (xs : List Fraction) (l h : ℕ) → AllByRecursion (Fits k) es → Held es xs → 0 < length es
    → l ≡ floor (sum_by (λ e. raised k e.low) es) (length es) → h ≡ div_ceil (sum_by (λ e. raised k e.high) es) (length es) → Holds steps (pos l) (pos h) (number (level k (mean xs)))
mean_holds k es xs l h f t o a b =
    let n = held_length t in
    let under = floor_under (sum_by (λ e. raised k e.low) es) (length es) o in
    let over = div_ceil_times (sum_by (λ e. raised k e.high) es) (length es) o in
    let O : 0 < length xs = subst (λ (m : ℕ). 0 < m) n o in
    record {
      least = le_trans (quotient_least (nat_positive O) (le_trans (go_least l (length xs) (sum_by (λ e. raised k e.low) es) (rw (a, ← n) under.0)) (sum_least k es xs f t))) (same_le (same_sym (mean_level k xs O)));
      most = le_trans (same_le (mean_level k xs O)) (quotient_most (nat_positive O) (le_trans (sum_most k es xs f t) (go_most h (length xs) (sum_by (λ e. raised k e.high) es) (rw (b, ← n) over.0))));
    }
  where
    go_least : (l n s : ℕ) → l * n ≤ s → Le (mul (steps (pos l)) (nat n)) (steps (pos s))
    go_least l n s i = worth_le (worth_mul (worth_step l) (worth_nat n)) (worth_step s) (omega arith)

    go_most : (h n s : ℕ) → s ≤ h * n → Le (steps (pos s)) (mul (steps (pos h)) (nat n))
    go_most h n s i = worth_le (worth_step s) (worth_mul (worth_step h) (worth_nat n)) (omega arith)

-- the sums of n rows' levels, between n times the least and n times the greatest level, and their mean's pair
pub sums_range : (k : Kind) (es : List Ends) → AllByRecursion (Fits k) es
    → (length es * 90000000 ≤ sum_by (λ e. raised k e.low) es) × (sum_by (λ e. raised k e.low) es ≤ sum_by (λ e. raised k e.high) es)
    × (sum_by (λ e. raised k e.high) es ≤ length es * 111111112) × (sum_by (λ e. raised k e.high) es ≤ sum_by (λ e. raised k e.low) es + length es * 300)
sums_range k [] f = (omega arith, omega arith, omega arith, omega arith)
sums_range k (e ∷ es) f =
    let r = level_range k e f.0 in
    let t = sums_range k es f.1 in
    let l = sum_by-cons (λ e. raised k e.low) e es in
    let h = sum_by-cons (λ e. raised k e.high) e es in
    (omega arith, omega arith, omega arith, omega arith)

pub mean_range : (n s S : ℕ) → 0 < n → n * 90000000 ≤ s → s ≤ S → S ≤ n * 111111112 → S ≤ s + n * 300
    → ((90000000 ≤ floor s n) × (floor s n ≤ div_ceil S n) × (div_ceil S n ≤ 111111112)) × (div_ceil S n ≤ floor s n + 301)
mean_range n s S o a b c d =
    let u = floor_under s n o in
    let v = ceil_over S n o in
    let x = floor_least s n 90000000 o (omega arith) in
    let y = ceil_most S n 111111112 o (omega arith) in
    let z = ceil_most S n (floor s n + 301) o (omega arith) in
    let w = floor_most s n _ o (omega arith) in
    rw (div_ceil_ceiling S n o) ((x, w, y), z)
