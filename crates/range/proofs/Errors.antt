-- The error's pair: by one rule, and over the rules that are left.
use Rattle.std.proofs.Common.{◌≡◌, ℕ, ◌+◌, ◌*◌, ◌≤◌, min, max, ◌⊎◌, ℤ, pos, sym, refl, subst, inl, inr, arith, lit<}
use Rattle.std.proofs.lemmas.Int.{ints}
use Rattle.exact.specs.Fractions.{Fraction, add}
use Rattle.exact.specs.Figures.{Figure, root, AtMost, AtLeast}
use Rattle.exact.specs.Pairs.{Holds, steps}
use Rattle.exact.proofs.Order.{le_refl}
use Rattle.exact.proofs.Worth.{worth_add, worth_neg, worth_mul, worth_le}
use Rattle.exact.proofs.Figures.{lower, higher}
use Rattle.point.proofs.Steps.{worth_step}
use Rattle.range.specs.Rules.{Rule, systematic, random, mixed, rule, error_by, error, NearUpper, NearLower}
use Rattle.range.specs.Outcomes.{NearChange, May, Spans, ErrorHolds}
use Rattle.range.proofs.Edges.{worth_part}
use Rattle.range.proofs.Greaters.{step_mono, min_case, max_case}

-- 0.81·(Θ + ε): Θ lies from t to T, ε from e to E
pub mixed_holds : (t T e E l h : ℕ) (θ² ε² : Fraction) → l * 100 ≤ 81 * (t + e) → 81 * (T + E) ≤ h * 100 → Holds steps (pos t) (pos T) (root θ²) → Holds steps (pos e) (pos E) (root ε²) → Holds steps (pos l) (pos h) (error_by mixed θ² ε²)
mixed_holds t T e E l h θ² ε² i j p q = record {
  least = (
    add (steps (pos t)) (steps (pos e)),
    (steps (pos t), steps (pos e), p.least, q.least, le_refl (add (steps (pos t)) (steps (pos e)))),
    worth_le (worth_step l) (worth_mul (worth_add (worth_step t) (worth_step e)) (worth_part 81 100 (lit< tt))) (omega arith),
  );
  most = (
    add (steps (pos T)) (steps (pos E)),
    (steps (pos T), steps (pos E), p.most, q.most, le_refl (add (steps (pos T)) (steps (pos E)))),
    worth_le (worth_mul (worth_add (worth_step T) (worth_step E)) (worth_part 81 100 (lit< tt))) (worth_step h) (omega arith),
  );
}

-- a wider pair holds what a pair inside it holds
pub holds_wider : (f : Figure) (l h low high : ℕ) → low ≤ l → h ≤ high → Holds steps (pos l) (pos h) f → Holds steps (pos low) (pos high) f
holds_wider f l h low high a b k = record { least = lower f _ _ (step_mono a) k.least; most = higher f _ _ (step_mono b) k.most }

-- the exact error is the one by the exact rule
pub holds_by : (θ² s² ε² : Fraction) (r : Rule) (low high : ℤ) → rule θ² s² ≡ r → Holds steps low high (error_by r θ² ε²) → Holds steps low high (error θ² s² ε²)
holds_by θ² s² ε² r low high e h = subst (λ (q : Rule). Holds steps low high (error_by q θ² ε²)) (sym e) h

-- The lower end of the pair lies at most 1,450 below the exact error by a rule that may give it, and the upper end at most as much above one.
pub record Lowest (θ² s² ε² : Fraction) (low : ℕ) : Type 0 where
  pub by : Rule
  pub may : May θ² s² by
  pub top : AtLeast (steps (pos (low + 1450))) (error_by by θ² ε²)

pub record Highest (θ² s² ε² : Fraction) (high : ℕ) : Type 0 where
  pub by : Rule
  pub may : May θ² s² by
  pub end : ℕ
  pub near : high ≤ end + 1450
  pub floor : AtMost (steps (pos end)) (error_by by θ² ε²)

pub lowest : (θ² s² ε² : Fraction) (r : Rule) (l h : ℕ) → May θ² s² r → h ≤ l + 1450 → Holds steps (pos l) (pos h) (error_by r θ² ε²) → Lowest θ² s² ε² l
lowest θ² s² ε² r l h m w k = record { by = r; may = m; top = higher (error_by r θ² ε²) _ _ (step_mono w) k.most }

pub highest : (θ² s² ε² : Fraction) (r : Rule) (l h : ℕ) → May θ² s² r → h ≤ l + 1450 → Holds steps (pos l) (pos h) (error_by r θ² ε²) → Highest θ² s² ε² h
highest θ² s² ε² r l h m w k = record { by = r; may = m; end = l; near = w; floor = k.least }

reached : (θ² s² ε² : Fraction) (low high : ℕ) → Lowest θ² s² ε² low → Highest θ² s² ε² high
    → (a : Rule) × (b : Rule) × May θ² s² a × May θ² s² b × Spans (pos low) (pos high) (error_by a θ² ε²) (error_by b θ² ε²)
reached θ² s² ε² low high l h = (
  l.by,
  h.by,
  l.may,
  h.may,
  (
    steps (pos (low + 1450)),
    l.top,
    lower (error_by h.by θ² ε²) _ (steps (pos h.end)) (worth_le (worth_add (worth_step (low + 1450)) (worth_add (worth_step high) (worth_neg (worth_add (worth_step low) (worth_step 2900))))) (worth_step h.end) (go h.end h.near)) h.floor,
  ),
)
  where
    go : (e : ℕ) → high ≤ e + 1450
        → ((low + 1450) * (100000000 * (100000000 * 100000000)) + (high * (100000000 * 100000000) + (0 * 100000000 + 0 * 100000000) * 100000000) * 100000000) * 100000000 + 0 * (100000000 * (100000000 * (100000000 * 100000000)))
        ≤ e * (100000000 * (100000000 * (100000000 * 100000000))) + (0 * (100000000 * (100000000 * 100000000)) + (0 * (100000000 * 100000000) + (low * 100000000 + 2900 * 100000000) * 100000000) * 100000000) * 100000000
    go e n = omega arith

-- one rule is left
pub error_one : (θ² s² ε² : Fraction) (r : Rule) (l h : ℕ) → rule θ² s² ≡ r → h ≤ l + 1450 → Holds steps (pos l) (pos h) (error_by r θ² ε²) → ErrorHolds θ² s² ε² (pos l) (pos h)
error_one θ² s² ε² r l h e w k = record {
  holds = holds_by θ² s² ε² r (pos l) (pos h) e k;
  narrow = λ _. omega (arith, ints);
  reach = reached θ² s² ε² l h (lowest θ² s² ε² r l h (inl e) w k) (highest θ² s² ε² r l h (inl e) w k);
}

-- several are left, so that a change is near
pub error_several : (θ² s² ε² : Fraction) (low high : ℕ) → NearChange θ² s² → Holds steps (pos low) (pos high) (error θ² s² ε²) → Lowest θ² s² ε² low → Highest θ² s² ε² high → ErrorHolds θ² s² ε² (pos low) (pos high)
error_several θ² s² ε² low high n k l h = record { holds = k; narrow = λ f. absurd (f n); reach = reached θ² s² ε² low high l h }

-- two rules are left: the pair reaches around both
pub error_two : (θ² s² ε² : Fraction) (a b : Rule) (l h m n : ℕ) → NearChange θ² s² → May θ² s² a → May θ² s² b → (rule θ² s² ≡ a) ⊎ (rule θ² s² ≡ b)
    → h ≤ l + 1450 → n ≤ m + 1450 → Holds steps (pos l) (pos h) (error_by a θ² ε²) → Holds steps (pos m) (pos n) (error_by b θ² ε²) → (low high : ℕ) → low ≡ min l m → high ≡ max h n → ErrorHolds θ² s² ε² (pos low) (pos high)
error_two θ² s² ε² a b l h m n near may must e u v p q low high c d =
    error_several θ² s² ε² low high near (go e) (subst (Lowest θ² s² ε²) (sym c) (min_case (Lowest θ² s² ε²) l m (lowest θ² s² ε² a l h may u p) (lowest θ² s² ε² b m n must v q)))
    (subst (Highest θ² s² ε²) (sym d) (max_case (Highest θ² s² ε²) h n (highest θ² s² ε² a l h may u p) (highest θ² s² ε² b m n must v q)))
  where
    go : (rule θ² s² ≡ a) ⊎ (rule θ² s² ≡ b) → Holds steps (pos low) (pos high) (error θ² s² ε²)
    go (inl i) = holds_by θ² s² ε² a (pos low) (pos high) i (holds_wider (error_by a θ² ε²) l h low high (omega arith) (omega arith) p)
    go (inr i) = holds_by θ² s² ε² b (pos low) (pos high) i (holds_wider (error_by b θ² ε²) m n low high (omega arith) (omega arith) q)

-- all three are left: Θ lies from t to T, ε from e to E, both together from m to M
pub error_three : (θ² s² ε² : Fraction) (t T e E m M : ℕ) → NearUpper θ² s² → NearLower θ² s² → T ≤ t + 1450 → E ≤ e + 1450 → M ≤ m + 1450
    → Holds steps (pos t) (pos T) (error_by systematic θ² ε²) → Holds steps (pos e) (pos E) (error_by random θ² ε²) → Holds steps (pos m) (pos M) (error_by mixed θ² ε²)
    → (low high : ℕ) → low ≡ min (min t e) m → high ≡ max (max T E) M → ErrorHolds θ² s² ε² (pos low) (pos high)
error_three θ² s² ε² t T e E m M up down u v w p q r low high c d =
    error_several θ² s² ε² low high (inl up) (go (rule θ² s²) refl)
    (subst (Lowest θ² s² ε²) (sym c) (min_case (Lowest θ² s² ε²) (min t e) m (min_case (Lowest θ² s² ε²) t e (lowest θ² s² ε² systematic t T (inr up) u p) (lowest θ² s² ε² random e E (inr down) v q)) (lowest θ² s² ε² mixed m M (inr (inl up)) w r)))
    (subst (Highest θ² s² ε²) (sym d) (max_case (Highest θ² s² ε²) (max T E) M (max_case (Highest θ² s² ε²) T E (highest θ² s² ε² systematic t T (inr up) u p) (highest θ² s² ε² random e E (inr down) v q)) (highest θ² s² ε² mixed m M (inr (inl up)) w r)))
  where
    go : (a : Rule) → rule θ² s² ≡ a → Holds steps (pos low) (pos high) (error θ² s² ε²)
    go systematic i = holds_by θ² s² ε² systematic (pos low) (pos high) i (holds_wider (error_by systematic θ² ε²) t T low high (omega arith) (omega arith) p)
    go random i = holds_by θ² s² ε² random (pos low) (pos high) i (holds_wider (error_by random θ² ε²) e E low high (omega arith) (omega arith) q)
    go mixed i = holds_by θ² s² ε² mixed (pos low) (pos high) i (holds_wider (error_by mixed θ² ε²) m M low high (omega arith) (omega arith) r)
