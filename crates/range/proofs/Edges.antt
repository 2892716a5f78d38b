-- The two edges between rules: Θ lies from t to T, S0 from s to S, in steps.
use Rattle.std.proofs.Common.{◌≡◌, ℕ, ◌+◌, ◌*◌, ◌<◌, ◌≤◌, true, false, ◌⊎◌, pos, ◌∙◌, inl, inr, mul-le-mul, arith, lit<}
use Rattle.std.proofs.lemmas.Bool.{cond-true, cond-false, cases_Bool}
use Rattle.exact.specs.Fractions.{Fraction, Le, nat, add, mul}
use Rattle.exact.specs.Figures.{Figure, root, times, AtMost, AtLeast}
use Rattle.exact.specs.Pairs.{Holds, steps}
use Rattle.exact.proofs.Order.{le_refl, le_trans, lt_le_trans, le_lt_trans, not_lt, nat_le}
use Rattle.exact.proofs.Worth.{Worth, worth_nat, worth_add, worth_mul, worth_div, worth_le, worth_lt, worth_of}
use Rattle.exact.proofs.Arithmetic.{add_mono, mul_mono}
use Rattle.exact.proofs.Figures.{apart}
use Rattle.point.specs.Deviations.{squares}
use Rattle.point.proofs.Steps.{worth_step, worth_squares, holds_least, holds_most}
use Rattle.range.specs.Ranges.{at_most}
use Rattle.range.specs.Rules.{systematic, random, mixed, part, part_positive, rule, Near, NearUpper, NearLower}
use Rattle.range.proofs.Greaters.{le_at_most, lt_at_most}

-- figures whose pairs reach no more than w over each other are near
near : (w a b c d : Fraction) (f g : Figure) → AtMost a f → AtLeast b f → AtMost c g → AtLeast d g → Le d (add a w) → Le b (add c w) → Near w f g
near w a b c d f g k l m n h i = record {
  not_below = λ u v p q e. not_lt e (le_trans (apart g v d q n) (le_trans h (add_mono (apart f a u k p) (le_refl w))));
  not_above = λ u v p q e. not_lt e (le_trans (apart f v b q l) (le_trans i (add_mono (apart g c u m p) (le_refl w))));
}

pub worth_part : (a b : ℕ) → 0 < b → Worth (part a b) a 0 b
worth_part a b o = worth_of (worth_div o (worth_nat a) (worth_nat b)) o (omega arith)

times_least : (c q p : Fraction) → Le (nat 0) c → Le (nat 0) q → Le q p → Le (mul c q) (mul c p)
times_least c q p o z h = mul_mono o z (le_refl c) h

squares_positive : (n : ℕ) → Le (nat 0) (squares n)
squares_positive n = worth_le (worth_nat 0) (worth_squares n) (omega arith)

module _ (t T s S : ℕ) (θ² s² : Fraction) (h : Holds steps (pos t) (pos T) (root θ²)) (k : Holds steps (pos s) (pos S) (root s²)) where
  -- near an edge, where the pairs reach over it; Θ's ends are at most 310 apart, S0's at most 520
  pub near_upper : T ≤ t + 310 → S ≤ s + 520 → t ≤ 8 * S → 8 * s ≤ T → NearUpper θ² s²
  near_upper a b c d =
      near (steps (pos 4500)) (steps (pos t)) (steps (pos T)) (mul (steps (pos s)) (part 8 1)) (mul (steps (pos S)) (part 8 1)) (root θ²) (times (part 8 1) (part_positive 8 1) (root s²))
      h.least h.most (steps (pos s), k.least, le_refl (mul (steps (pos s)) (part 8 1))) (steps (pos S), k.most, le_refl (mul (steps (pos S)) (part 8 1)))
      (worth_le (worth_mul (worth_step S) (worth_part 8 1 (lit< tt))) (worth_add (worth_step t) (worth_step 4500)) (omega arith))
      (worth_le (worth_step T) (worth_add (worth_mul (worth_step s) (worth_part 8 1 (lit< tt))) (worth_step 4500)) (omega arith))

  pub near_lower : T ≤ t + 310 → S ≤ s + 520 → 10 * t ≤ 8 * S → 8 * s ≤ 10 * T → NearLower θ² s²
  near_lower a b c d =
      near (steps (pos 4500)) (steps (pos t)) (steps (pos T)) (mul (steps (pos s)) (part 8 10)) (mul (steps (pos S)) (part 8 10)) (root θ²) (times (part 8 10) (part_positive 8 10) (root s²))
      h.least h.most (steps (pos s), k.least, le_refl (mul (steps (pos s)) (part 8 10))) (steps (pos S), k.most, le_refl (mul (steps (pos S)) (part 8 10)))
      (worth_le (worth_mul (worth_step S) (worth_part 8 10 (lit< tt))) (worth_add (worth_step t) (worth_step 4500)) (omega arith))
      (worth_le (worth_step T) (worth_add (worth_mul (worth_step s) (worth_part 8 10 (lit< tt))) (worth_step 4500)) (omega arith))

  -- decisions, by squares: above the upper edge
  above_upper : 8 * S < t → at_most θ² (mul (nat 64) s²) ≡ false
  above_upper i =
      let i' : 8 * S + 1 ≤ t = omega arith in
      let q : (8 * S + 1) * (8 * S + 1) ≤ t * t = mul-le-mul i' i' in
      lt_at_most θ² (mul (nat 64) s²) (lt_le_trans (le_lt_trans (times_least (nat 64) s² (squares (S * S)) (nat_le (omega arith)) (le_trans (squares_positive (s * s)) (holds_least s S s² k)) (holds_most s S s² k))
      (worth_lt (worth_mul (worth_nat 64) (worth_squares (S * S))) (worth_squares (t * t)) (go (S * S) (t * t) (omega arith)))) (holds_least t T θ² h))
    where
      go : (a b : ℕ) → 64 * a < b → (64 * a + 0 * 0) * 10000000000000000 + 0 * (1 * 10000000000000000) < b * (1 * 10000000000000000) + (64 * 0 + 0 * a) * 10000000000000000
      go a b e = omega arith

  -- not above it
  pub not_above_upper : T ≤ 8 * s → at_most θ² (mul (nat 64) s²) ≡ true
  not_above_upper i =
      let q : T * T ≤ (8 * s) * (8 * s) = mul-le-mul i i in
      le_at_most θ² (mul (nat 64) s²) (le_trans (holds_most t T θ² h) (le_trans (worth_le (worth_squares (T * T)) (worth_mul (worth_nat 64) (worth_squares (s * s))) (go (T * T) (s * s) (omega arith)))
      (times_least (nat 64) (squares (s * s)) s² (nat_le (omega arith)) (squares_positive (s * s)) (holds_least s S s² k))))
    where
      go : (a b : ℕ) → a ≤ 64 * b → a * (1 * 10000000000000000) + (64 * 0 + 0 * b) * 10000000000000000 ≤ (64 * b + 0 * 0) * 10000000000000000 + 0 * (1 * 10000000000000000)
      go a b e = omega arith

  -- below the lower edge
  below_lower : 10 * T < 8 * s → at_most (mul (part 64 100) s²) θ² ≡ false
  below_lower i =
      let i' : 10 * T + 1 ≤ 8 * s = omega arith in
      let q : (10 * T + 1) * (10 * T + 1) ≤ (8 * s) * (8 * s) = mul-le-mul i' i' in
      lt_at_most (mul (part 64 100) s²) θ² (lt_le_trans (le_lt_trans (holds_most t T θ² h) (worth_lt (worth_squares (T * T)) (worth_mul (worth_part 64 100 (lit< tt)) (worth_squares (s * s))) (go (T * T) (s * s) (omega arith))))
      (times_least (part 64 100) (squares (s * s)) s² (part_positive 64 100) (squares_positive (s * s)) (holds_least s S s² k)))
    where
      go : (a b : ℕ) → 100 * a < 64 * b → a * (100 * 10000000000000000) + (64 * 0 + 0 * b) * 10000000000000000 < (64 * b + 0 * 0) * 10000000000000000 + 0 * (100 * 10000000000000000)
      go a b e = omega arith

  -- not below it
  pub not_below_lower : 8 * S ≤ 10 * t → at_most (mul (part 64 100) s²) θ² ≡ true
  not_below_lower i =
      let q : (8 * S) * (8 * S) ≤ (10 * t) * (10 * t) = mul-le-mul i i in
      le_at_most (mul (part 64 100) s²) θ² (le_trans (times_least (part 64 100) s² (squares (S * S)) (part_positive 64 100) (le_trans (squares_positive (s * s)) (holds_least s S s² k)) (holds_most s S s² k))
      (le_trans (worth_le (worth_mul (worth_part 64 100 (lit< tt)) (worth_squares (S * S))) (worth_squares (t * t)) (go (S * S) (t * t) (omega arith))) (holds_least t T θ² h)))
    where
      go : (a b : ℕ) → 64 * a ≤ 100 * b → (64 * a + 0 * 0) * 10000000000000000 + 0 * (100 * 10000000000000000) ≤ b * (100 * 10000000000000000) + (64 * 0 + 0 * a) * 10000000000000000
      go a b e = omega arith

  -- the rule from its two tests
  pub systematic_sure : 8 * S < t → rule θ² s² ≡ systematic
  systematic_sure i = cond-false _ _ _ (above_upper i)

  pub random_sure : 10 * T < 8 * s → rule θ² s² ≡ random
  random_sure i = cond-true _ _ _ (not_above_upper (omega arith)) ∙ cond-false _ _ _ (below_lower i)

  pub mixed_sure : T ≤ 8 * s → 8 * S ≤ 10 * t → rule θ² s² ≡ mixed
  mixed_sure i j = cond-true _ _ _ (not_above_upper i) ∙ cond-true _ _ _ (not_below_lower j)

  pub not_random : 8 * S ≤ 10 * t → (rule θ² s² ≡ systematic) ⊎ (rule θ² s² ≡ mixed)
  not_random i = elim (cases_Bool (at_most θ² (mul (nat 64) s²))) [
    | inl e ↦ inr (cond-true _ _ _ e ∙ cond-true _ _ _ (not_below_lower i))
    | inr e ↦ inl (cond-false _ _ _ e)
  ]

  pub not_systematic : T ≤ 8 * s → (rule θ² s² ≡ random) ⊎ (rule θ² s² ≡ mixed)
  not_systematic i = elim (cases_Bool (at_most (mul (part 64 100) s²) θ²)) [
    | inl e ↦ inr (cond-true _ _ _ (not_above_upper i) ∙ cond-true _ _ _ e)
    | inr e ↦ inl (cond-true _ _ _ (not_above_upper i) ∙ cond-false _ _ _ e)
  ]
