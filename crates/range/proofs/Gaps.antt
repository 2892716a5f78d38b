-- The half-gap of two levels: y lies from a to A, z from p to P, in steps.
use Rattle.std.proofs.Common.{◌≡◌, ℕ, ◌+◌, ◌*◌, ◌<◌, ◌≤◌, ◌⊎◌, pos, sym, subst, inl, inr, mul-le-mul_left, arith, lit<}
use Rattle.std.proofs.lemmas.Bool.{cases_lt}
use Rattle.exact.specs.Fractions.{Fraction, Le, Lt, nat, add, sub, mul}
use Rattle.exact.specs.Figures.{number}
use Rattle.exact.specs.Pairs.{Holds, steps, floor, ceiling}
use Rattle.exact.proofs.Order.{le_refl, le_trans, le_or_lt, lt_le, lt_le_trans, nat_le}
use Rattle.exact.proofs.Worth.{Worth, worth_itself, worth_nat, worth_add, worth_neg, worth_mul, worth_le, worth_lt, le_worth, worth_of}
use Rattle.exact.proofs.Arithmetic.{add_mono, mul_mono}
use Rattle.exact.proofs.Quotients.{quotient_least, quotient_most, floor_under, ceil_over, floor_most, ceil_most}
use Rattle.point.specs.Deviations.{nearest, farthest}
use Rattle.point.specs.declared.level.Level.{Level}
use Rattle.point.proofs.Steps.{worth_step, step_positive}
use Rattle.point.proofs.Spreads.{gap_least, gap_most}
use Rattle.range.specs.Gaps.{half_gap_low, half_gap_high}
use Rattle.range.specs.Ranges.{greater, half_gap_lem}
use Rattle.range.proofs.Greaters.{greater_left, greater_right, greater_most}

-- the gap itself, between the nearest and the farthest that the ends allow
gap_positive : (y z : Fraction) → Le (nat 0) (greater (sub y z) (sub z y))
gap_positive y z = go (le_or_lt (nat 0) (sub y z))
  where
    go : Le (nat 0) (sub y z) ⊎ Lt (sub y z) (nat 0) → Le (nat 0) (greater (sub y z) (sub z y))
    go (inl h) = le_trans h (greater_left (sub y z) (sub z y))
    go (inr h) = le_trans (worth_le (worth_nat 0) (worth_add (worth_itself z) (worth_neg (worth_itself y))) (omega (arith, le_worth (worth_add (worth_itself y) (worth_neg (worth_itself z))) (worth_nat 0) (lt_le h)))) (greater_right (sub y z) (sub z y))

gap_floor : (a A p P : ℕ) (y z : Fraction) → p ≤ P → a ≤ A → Holds steps (pos a) (pos A) (number y) → Holds steps (pos p) (pos P) (number z) → Le (steps (pos (nearest a A p P))) (greater (sub y z) (sub z y))
gap_floor a A p P y z i j h k = go (cases_lt P a) (cases_lt A p)
  where
    go : (P < a) ⊎ (a ≤ P) → (A < p) ⊎ (p ≤ A) → Le (steps (pos (nearest a A p P))) (greater (sub y z) (sub z y))
    go (inl l) _ = le_trans (gap_least (nearest a A p P) a P y z (omega arith) h.least k.most) (greater_left (sub y z) (sub z y))
    go (inr l) (inl r) = le_trans (gap_least (nearest a A p P) p A z y (omega arith) k.least h.most) (greater_right (sub y z) (sub z y))
    go (inr l) (inr r) =
        let e : nearest a A p P ≡ 0 = omega arith in
        subst (λ (n : ℕ). Le (steps (pos n)) (greater (sub y z) (sub z y))) (sym e) (le_trans (worth_le (worth_step 0) (worth_nat 0) (omega arith)) (gap_positive y z))

gap_top : (a A p P : ℕ) (y z : Fraction) → Holds steps (pos a) (pos A) (number y) → Holds steps (pos p) (pos P) (number z) → Le (greater (sub y z) (sub z y)) (steps (pos (farthest a A p P)))
gap_top a A p P y z h k =
    greater_most (sub y z) (sub z y) (steps (pos (farthest a A p P))) (gap_most (farthest a A p P) A p y z (omega arith) h.most k.least) (gap_most (farthest a A p P) P a z y (omega arith) k.most h.least)

-- twice the sum, between twice the sums of the ends
worth_twice : (a p : ℕ) → Worth (mul (nat 2) (add (steps (pos a)) (steps (pos p)))) (2 * (a + p)) 0 100000000
worth_twice a p = worth_of (worth_mul (worth_nat 2) (worth_add (worth_step a) (worth_step p))) (lit< tt) (omega arith)

twice_least : (a p : ℕ) (y z : Fraction) → Le (steps (pos a)) y → Le (steps (pos p)) z → Le (mul (nat 2) (add (steps (pos a)) (steps (pos p)))) (mul (nat 2) (add y z))
twice_least a p y z h k =
    mul_mono (nat_le (omega arith)) (worth_le (worth_nat 0) (worth_add (worth_step a) (worth_step p)) (omega arith)) (le_refl (nat 2)) (add_mono h k)

twice_most : (a p A P : ℕ) (y z : Fraction) → Le (steps (pos a)) y → Le (steps (pos p)) z → Le y (steps (pos A)) → Le z (steps (pos P)) → Le (mul (nat 2) (add y z)) (mul (nat 2) (add (steps (pos A)) (steps (pos P))))
twice_most a p A P y z u v h k =
    mul_mono (nat_le (omega arith)) (le_trans (worth_le (worth_nat 0) (worth_add (worth_step a) (worth_step p)) (omega arith)) (add_mono u v)) (le_refl (nat 2)) (add_mono h k)

half_gap_holds : (a A p P l h : ℕ) (y z : Fraction) → 0 < a → a ≤ A → p ≤ P → l * (2 * (A + P)) ≤ 100000000 * nearest a A p P → 100000000 * farthest a A p P ≤ h * (2 * (a + p))
    → Holds steps (pos a) (pos A) (number y) → Holds steps (pos p) (pos P) (number z) → Holds steps (pos l) (pos h) (number (half_gap_lem y z))
unfolding half_gap_lem
half_gap_holds a A p P l h y z o i j u v m n =
    let above : Lt (nat 0) (mul (nat 2) (add y z)) = lt_le_trans (worth_lt (worth_nat 0) (worth_twice a p) (omega arith)) (twice_least a p y z m.least n.least) in
    record {
      least = quotient_least above (le_trans (mul_mono (step_positive l) (lt_le above) (le_refl (steps (pos l))) (twice_most a p A P y z m.least n.least m.most n.most))
          (le_trans (worth_le (worth_mul (worth_step l) (worth_twice A P)) (worth_step (nearest a A p P)) (low l (2 * (A + P)) (nearest a A p P) u)) (gap_floor a A p P y z j i m n)));
      most = quotient_most above (le_trans (gap_top a A p P y z m n) (le_trans (worth_le (worth_step (farthest a A p P)) (worth_mul (worth_step h) (worth_twice a p)) (high h (2 * (a + p)) (farthest a A p P) v))
          (mul_mono (step_positive h) (worth_le (worth_nat 0) (worth_twice a p) (omega arith)) (le_refl (steps (pos h))) (twice_least a p y z m.least n.least))));
    }
  where
    low : (l b g : ℕ) → l * b ≤ 100000000 * g → (l * b + 0 * 0) * 100000000 + 0 * (100000000 * 100000000) ≤ g * (100000000 * 100000000) + (l * 0 + 0 * b) * 100000000
    low l b g e = omega arith

    high : (h b g : ℕ) → 100000000 * g ≤ h * b → g * (100000000 * 100000000) + (h * 0 + 0 * b) * 100000000 ≤ (h * b + 0 * 0) * 100000000 + 0 * (100000000 * 100000000)
    high h b g e = omega arith

-- its ends, from the nearest n and the farthest f, over b to B: at most 280 apart and at most 6,000,000
half_gap_narrow : (n f b B : ℕ) → n ≤ f → f ≤ n + 602 → f ≤ 21111112 → 360000000 ≤ b → b ≤ B → B ≤ b + 1204
    → (floor (100000000 * n) B ≤ ceiling (100000000 * f) b) × (ceiling (100000000 * f) b ≤ floor (100000000 * n) B + 280) × (ceiling (100000000 * f) b ≤ 6000000)
half_gap_narrow n f b B i j k o h m =
    let u = floor_under (100000000 * n) B (omega arith) in
    let few : floor (100000000 * n) B ≤ 5900000 = floor_most (100000000 * n) B 5900000 (omega arith) (omega arith) in
    let v = ceil_over (100000000 * f) b (omega arith) in
    let q = floor (100000000 * n) B in
    let turn : (floor (100000000 * n) B + 1) * B ≤ (floor (100000000 * n) B + 1) * (b + 1204) = mul-le-mul_left (floor (100000000 * n) B + 1) m in
    let wide = ceil_most (100000000 * f) b (floor (100000000 * n) B + 280) (omega arith) (go (floor (100000000 * n) B) few u.1 turn) in
    let most = ceil_most (100000000 * f) b 6000000 (omega arith) (omega arith) in
    let up : ceiling (100000000 * f) b * b ≤ ceiling (100000000 * f) b * B = mul-le-mul_left (ceiling (100000000 * f) b) h in
    let order = floor_most (100000000 * n) B (ceiling (100000000 * f) b) (omega arith) (omega (arith, v.0)) in
    (order, wide, most)
  where
    go : (q : ℕ) → q ≤ 5900000 → 100000000 * n < q * B + B → (q + 1) * B ≤ (q + 1) * (b + 1204) → 100000000 * f ≤ (q + 280) * b
    go q few near turn = omega arith

-- both, for levels: at least 90,000,000 steps, at most 301 wide
pub level_gap_holds : (a p : Level) (y z : Fraction) → Holds steps (pos a.low) (pos a.high) (number y) → Holds steps (pos p.low) (pos p.high) (number z)
    → Holds steps (pos (half_gap_low a.low a.high p.low p.high)) (pos (half_gap_high a.low a.high p.low p.high)) (number (half_gap_lem y z))
level_gap_holds a p y z h k =
    half_gap_holds a.low a.high p.low p.high (half_gap_low a.low a.high p.low p.high) (half_gap_high a.low a.high p.low p.high) y z (omega arith) a.ranged.1 p.ranged.1
    (floor_under (100000000 * nearest a.low a.high p.low p.high) (2 * (a.high + p.high)) (omega arith)).0 (ceil_over (100000000 * farthest a.low a.high p.low p.high) (2 * (a.low + p.low)) (omega arith)).0 h k

distance_narrow : (a p : Level) → (nearest a.low a.high p.low p.high ≤ farthest a.low a.high p.low p.high) × (farthest a.low a.high p.low p.high ≤ nearest a.low a.high p.low p.high + 602)
distance_narrow a p = (omega arith, omega arith)

distance_most : (a p : Level) → farthest a.low a.high p.low p.high ≤ 21111112
distance_most a p = omega arith

pub level_gap_narrow : (a p : Level)
    → (half_gap_low a.low a.high p.low p.high ≤ half_gap_high a.low a.high p.low p.high)
    × (half_gap_high a.low a.high p.low p.high ≤ half_gap_low a.low a.high p.low p.high + 280)
    × (half_gap_high a.low a.high p.low p.high ≤ 6000000)
level_gap_narrow a p =
    let d = distance_narrow a p in
    half_gap_narrow (nearest a.low a.high p.low p.high) (farthest a.low a.high p.low p.high) (2 * (a.low + p.low)) (2 * (a.high + p.high)) d.0 d.1 (distance_most a p) (omega arith) (omega arith) (omega arith)
