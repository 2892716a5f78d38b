-- The sum of squared deviations of values that rows hold, worked out on their levels.
use Rattle.std.proofs.Common.{◌≡◌, ℕ, ◌+◌, ◌*◌, ◌<◌, ◌≤◌, ◌⊎◌, List, pos, sum_by, sym, subst, inl, inr, arith}
use Rattle.std.specs.List.{AllByRecursion}
use Rattle.std.proofs.lemmas.List.Sums.{sum_by-cons}
use Rattle.std.proofs.lemmas.Bool.{cases_lt}
use Rattle.exact.specs.Fractions.{Fraction, Le, Lt, Same, nat, add, neg, sub, mul}
use Rattle.exact.specs.Figures.{number}
use Rattle.exact.specs.Pairs.{Holds, steps}
use Rattle.exact.proofs.Order.{le_trans, le_or_lt, lt_le, same_le, same_sym, same_refl}
use Rattle.exact.proofs.Worth.{worth_itself, worth_nat, worth_add, worth_neg, worth_le, le_worth, worth_same}
use Rattle.exact.proofs.Arithmetic.{add_mono, sub_mono}
use Rattle.pass.specs.Kinds.{Kind, K, MF, F}
use Rattle.point.specs.declared.ends.Ends.{Ends}
use Rattle.point.specs.Points.{spread}
use Rattle.point.specs.Levels.{level, raised}
use Rattle.point.specs.Rows.{Held, none, more, Fits}
use Rattle.point.specs.Deviations.{nearest, farthest, nearest², farthest², squares}
use Rattle.point.proofs.Steps.{worth_step, worth_squares, square_least, square_most}
use Rattle.point.proofs.Means.{level_range, level_holds}

-- a deviation is that of the levels
level_sub : (k : Kind) (x m : Fraction) → Same (sub (level k x) (level k m)) (sub x m)
level_sub K x m = same_refl (sub x m)
level_sub MF x m = same_refl (sub x m)
level_sub F x m =
    worth_same (worth_add (worth_add (worth_nat 1) (worth_itself x)) (worth_neg (worth_add (worth_nat 1) (worth_itself m)))) (worth_add (worth_itself x) (worth_neg (worth_itself m)))
    (go x.plus x.minus x.bottom m.plus m.minus m.bottom)
  where
    go : (p n b q l c : ℕ) → ((1 * b + p * 1) * (1 * c) + (0 * c + l * 1) * (1 * b)) * (b * c) + (n * c + q * b) * ((1 * b) * (1 * c)) ≡ (p * c + l * b) * ((1 * b) * (1 * c)) + ((0 * b + n * 1) * (1 * c) + (1 * c + q * 1) * (1 * b)) * (b * c)
    go p n b q l c = omega arith

-- the difference of two levels, between the differences of their ends
pub gap_least : (u a P : ℕ) (y m : Fraction) → u + P ≤ a → Le (steps (pos a)) y → Le m (steps (pos P)) → Le (steps (pos u)) (sub y m)
gap_least u a P y m i h k =
    le_trans (worth_le (worth_step u) (worth_add (worth_step a) (worth_neg (worth_step P))) (omega arith)) (sub_mono h k)

pub gap_most : (u A p : ℕ) (y m : Fraction) → A ≤ u + p → Le y (steps (pos A)) → Le (steps (pos p)) m → Le (sub y m) (steps (pos u))
gap_most u A p y m i h k =
    le_trans (sub_mono h k) (worth_le (worth_add (worth_step A) (worth_neg (worth_step p))) (worth_step u) (omega arith))

neg_sub : (y m : Fraction) → Same (sub m y) (neg (sub y m))
neg_sub y m = worth_same (worth_add (worth_itself m) (worth_neg (worth_itself y))) (worth_neg (worth_add (worth_itself y) (worth_neg (worth_itself m)))) (omega arith)

neg_same : {a b : Fraction} → Same a b → Same (neg a) (neg b)
neg_same {a} {b} h = worth_same (worth_neg (worth_itself a)) (worth_neg (worth_itself b)) (omega (arith, h.same))

-- one squared deviation: a ≤ y ≤ A and p ≤ m ≤ P, and d = y − m
nearest_square : (a A p P : ℕ) (y m d : Fraction) → Same (sub y m) d → p ≤ P → a ≤ A → Holds steps (pos a) (pos A) (number y) → Holds steps (pos p) (pos P) (number m)
    → Le (squares (nearest a A p P * nearest a A p P)) (mul d d)
nearest_square a A p P y m d e i j h k = go (cases_lt P a) (cases_lt A p)
  where
    go : (P < a) ⊎ (a ≤ P) → (A < p) ⊎ (p ≤ A) → Le (squares (nearest a A p P * nearest a A p P)) (mul d d)
    go (inl l) _ = square_least (nearest a A p P) d (inl (le_trans (gap_least (nearest a A p P) a P y m (omega arith) h.least k.most) (same_le e)))
    go (inr l) (inl r) = square_least (nearest a A p P) d (inr (le_trans (gap_least (nearest a A p P) p A m y (omega arith) k.least h.most) (le_trans (same_le (neg_sub y m)) (same_le (neg_same e)))))
    go (inr l) (inr r) =
        let z : nearest a A p P ≡ 0 = omega arith in
        subst (λ (u : ℕ). Le (squares (u * u)) (mul d d)) (sym z) (square_least 0 d (either (le_or_lt (nat 0) d)))
      where
        either : Le (nat 0) d ⊎ Lt d (nat 0) → Le (steps (pos 0)) d ⊎ Le (steps (pos 0)) (neg d)
        either (inl o) = inl (worth_le (worth_step 0) (worth_itself d) (omega (arith, le_worth (worth_nat 0) (worth_itself d) o)))
        either (inr o) = inr (worth_le (worth_step 0) (worth_neg (worth_itself d)) (omega (arith, le_worth (worth_itself d) (worth_nat 0) (lt_le o))))

farthest_square : (a A p P : ℕ) (y m d : Fraction) → Same (sub y m) d → Holds steps (pos a) (pos A) (number y) → Holds steps (pos p) (pos P) (number m)
    → Le (mul d d) (squares (farthest a A p P * farthest a A p P))
farthest_square a A p P y m d e h k =
    square_most (farthest a A p P) d (le_trans (same_le (same_sym e)) (gap_most (farthest a A p P) A p y m (omega arith) h.most k.least))
    (le_trans (same_le (same_sym (neg_same e))) (le_trans (same_le (same_sym (neg_sub y m))) (gap_most (farthest a A p P) P a m y (omega arith) k.most h.least)))

squares_add : (a b : ℕ) → Same (add (squares a) (squares b)) (squares (a + b))
squares_add a b = worth_same (worth_add (worth_squares a) (worth_squares b)) (worth_squares (a + b)) (omega arith)

pub spread_least : (k : Kind) (es : List Ends) (xs : List Fraction) (m : Fraction) (p P : ℕ) → p ≤ P → AllByRecursion (Fits k) es → Held es xs → Holds steps (pos p) (pos P) (number (level k m))
    → Le (squares (sum_by (nearest² k p P) es)) (spread m xs)
unfolding spread
spread_least k _ _ m p P o f none c = worth_le (worth_squares 0) (worth_nat 0) (omega arith)
spread_least k _ _ m p P o f (more {e} {x} {es} {xs} h t) c =
    let r = level_range k e f.0 in
    rw (sum_by-cons (nearest² k p P) e es)
    (le_trans (same_le (same_sym (squares_add _ _)))
    (add_mono (nearest_square (raised k e.low) (raised k e.high) p P (level k x) (level k m) (sub x m) (level_sub k x m) o r.3 (level_holds k e.low e.high _ _ x r.0 r.1 h) c)
    (spread_least k es xs m p P o f.1 t c)))

pub spread_most : (k : Kind) (es : List Ends) (xs : List Fraction) (m : Fraction) (p P : ℕ) → AllByRecursion (Fits k) es → Held es xs → Holds steps (pos p) (pos P) (number (level k m))
    → Le (spread m xs) (squares (sum_by (farthest² k p P) es))
unfolding spread
spread_most k _ _ m p P f none c = worth_le (worth_nat 0) (worth_squares 0) (omega arith)
spread_most k _ _ m p P f (more {e} {x} {es} {xs} h t) c =
    let r = level_range k e f.0 in
    rw (sum_by-cons (farthest² k p P) e es)
    (le_trans (add_mono (farthest_square (raised k e.low) (raised k e.high) p P (level k x) (level k m) (sub x m) (level_sub k x m) (level_holds k e.low e.high _ _ x r.0 r.1 h) c)
    (spread_most k es xs m p P f.1 t c)) (same_le (squares_add _ _)))
