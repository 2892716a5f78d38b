-- The greater of two numbers, and the pair that holds it.
use Rattle.std.proofs.Common.{◌≡◌, ℕ, ◌*◌, ◌≤◌, min, max, true, false, pos, sym, ap, subst, inl, inr, mul-le-mul, arith}
use Rattle.std.proofs.lemmas.Bool.{cases_lt, cond_both, leb-true, leb-false, le-leb, lt-leb}
use Rattle.exact.specs.Fractions.{Fraction, Le, Lt, nat}
use Rattle.exact.specs.Figures.{number, root}
use Rattle.exact.specs.Pairs.{Holds, steps}
use Rattle.exact.proofs.Order.{le_refl, le_trans, lt_le}
use Rattle.exact.proofs.Pairs.{holds_ends}
use Rattle.exact.proofs.Worth.{worth_nat, worth_le}
use Rattle.point.specs.Deviations.{squares}
use Rattle.point.proofs.Steps.{worth_step, worth_squares, root_holds, holds_least, holds_most}
use Rattle.range.specs.Ranges.{at_most, greater}

-- the test and the order
pub at_most_true : (a b : Fraction) → at_most a b ≡ true → Le a b
unfolding at_most
at_most_true a b e = record { le = leb-true _ _ e }

pub at_most_false : (a b : Fraction) → at_most a b ≡ false → Lt b a
unfolding at_most
at_most_false a b e = record { lt = leb-false _ _ e }

pub le_at_most : (a b : Fraction) → Le a b → at_most a b ≡ true
unfolding at_most
le_at_most a b h = le-leb _ _ h.le

pub lt_at_most : (a b : Fraction) → Lt b a → at_most a b ≡ false
unfolding at_most
lt_at_most a b h = lt-leb _ _ h.lt

-- the greater is at least both, and no more than what bounds both
pub greater_left : (a b : Fraction) → Le a (greater a b)
greater_left a b = cond_both (at_most a b) b a (λ z. Le a z) (at_most_true a b) (λ _. le_refl a)

pub greater_right : (a b : Fraction) → Le b (greater a b)
greater_right a b = cond_both (at_most a b) b a (λ z. Le b z) (λ _. le_refl b) (λ e. lt_le (at_most_false a b e))

pub greater_most : (a b v : Fraction) → Le a v → Le b v → Le (greater a b) v
greater_most a b v h k = cond_both (at_most a b) b a (λ z. Le z v) (λ _. k) (λ _. h)

pub step_mono : {a b : ℕ} → a ≤ b → Le (steps (pos a)) (steps (pos b))
step_mono {a} {b} h = worth_le (worth_step a) (worth_step b) (omega arith)

squares_mono : (a b : ℕ) → a ≤ b → Le (squares (a * a)) (squares (b * b))
squares_mono a b h = let q : a * a ≤ b * b = mul-le-mul h h in worth_le (worth_squares (a * a)) (worth_squares (b * b)) (omega arith)

-- what holds of both numbers holds of the greater one, and of the smaller one
pub max_case : (P : ℕ → Type 0) (a b : ℕ) → P a → P b → P (max a b)
max_case P a b h k = elim (cases_lt a b) [
  | inl l ↦ (let e : max a b ≡ b = omega arith in subst P (sym e) k)
  | inr l ↦ (let e : max a b ≡ a = omega arith in subst P (sym e) h)
]

pub min_case : (P : ℕ → Type 0) (a b : ℕ) → P a → P b → P (min a b)
min_case P a b h k = elim (cases_lt a b) [
  | inl l ↦ (let e : min a b ≡ a = omega arith in subst P (sym e) h)
  | inr l ↦ (let e : min a b ≡ b = omega arith in subst P (sym e) k)
]

-- pairs of roots, and of numbers: the larger end of each gives the pair of the greater
pub holds_greater_root : (a A b B : ℕ) (p q : Fraction) → Holds steps (pos a) (pos A) (root p) → Holds steps (pos b) (pos B) (root q) → Holds steps (pos (max a b)) (pos (max A B)) (root (greater p q))
holds_greater_root a A b B p q h k =
    root_holds (max a b) (max A B) (greater p q)
    (max_case (λ n. Le (squares (n * n)) (greater p q)) a b (le_trans (holds_least a A p h) (greater_left p q)) (le_trans (holds_least b B q k) (greater_right p q)))
    (greater_most p q (squares (max A B * max A B)) (le_trans (holds_most a A p h) (squares_mono A (max A B) (omega arith))) (le_trans (holds_most b B q k) (squares_mono B (max A B) (omega arith))))

pub holds_greater : (a A b B : ℕ) (p q : Fraction) → Holds steps (pos a) (pos A) (number p) → Holds steps (pos b) (pos B) (number q) → Holds steps (pos (max a b)) (pos (max A B)) (number (greater p q))
holds_greater a A b B p q h k = record {
  least = max_case (λ n. Le (steps (pos n)) (greater p q)) a b (le_trans h.least (greater_left p q)) (le_trans k.least (greater_right p q));
  most = greater_most p q (steps (pos (max A B))) (le_trans h.most (step_mono (omega arith))) (le_trans k.most (step_mono (omega arith)));
}

-- no figure yet: 0
pub holds_nought_root : Holds steps (pos 0) (pos 0) (root (nat 0))
holds_nought_root = root_holds 0 0 (nat 0) (worth_le (worth_squares 0) (worth_nat 0) (omega arith)) (worth_le (worth_nat 0) (worth_squares 0) (omega arith))

pub holds_nought : Holds steps (pos 0) (pos 0) (number (nat 0))
holds_nought = record { least = worth_le (worth_step 0) (worth_nat 0) (omega arith); most = worth_le (worth_nat 0) (worth_step 0) (omega arith) }

-- one figure alone: the greater of it and 0
pub holds_first_root : (a A : ℕ) (p : Fraction) → Holds steps (pos a) (pos A) (root p) → Holds steps (pos a) (pos A) (root (greater p (nat 0)))
holds_first_root a A p h = holds_ends (ap pos (omega arith)) (ap pos (omega arith)) (holds_greater_root a A 0 0 p (nat 0) h holds_nought_root)
