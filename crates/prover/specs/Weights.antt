-- The product of a volume's pair, a density and a carry factor's pair: v to w the volume, c to d the factor in steps, ρ the density.
use Rattle.std.specs.Prelude.{◌≡◌, ℕ, ◌+◌, ◌*◌, ◌/◌, ◌<◌, ◌≤◌, Bool, true, false, cond, ◌&&◌, ℤ, pos, ◌≤ℤ◌, Ok, Err, unsigned_abs, refl}
use Rattle.std.proofs.Common.{sym, subst, ap, ◌∙◌, arith, mul-le-mul, mul-le-mul_left, mul-le-mul_right, le_of_mul-le-mul_right, lit<}
use Rattle.std.proofs.lemmas.Int.{ints}
use Rattle.exact.specs.Fractions.{Fraction, Le, whole, nat, mul}
use Rattle.exact.specs.Figures.{number}
use Rattle.exact.specs.Pairs.{Holds, steps, floor, ceiling}
use Rattle.exact.specs.Ends.{Ends, Has}
use Rattle.exact.proofs.Order.{le_refl, le_trans, nat_le, nat_positive}
use Rattle.exact.proofs.Worth.{Worth, worth_nat, worth_mul, worth_div, worth_le}
use Rattle.exact.proofs.Arithmetic.{mul_mono}
use Rattle.exact.proofs.Quotients.{quotient_least, quotient_most, floor_under, ceil_over, ceil_most, sized}
use Rattle.exact.proofs.Pairs.{holds_ends, ordered_whole, ordered_steps}
use Rattle.std.proofs.lemmas.Bool.Decides.{nat_tests}
use Rattle.pass.specs.Values.{weighable, fine}
use Rattle.pass.specs.Ranges.{temperate, pressed, dense}
use Rattle.pass.proofs.Taken.{both, least_of, most_of, weighable_least, weighable_most}
use Rattle.pass.specs.declared.readings.Record.{Record}
use Rattle.pass.specs.declared.denials.Field.{Field}
use Rattle.pass.specs.declared.denials.Field.TheVariants.{Together}
use Rattle.pass.specs.declared.denials.Device.TheVariants.{Mass}
use Rattle.pass.specs.declared.denials.Fault.{Fault}
use Rattle.pass.specs.declared.masses.ReferenceMass.{ReferenceMass}
use Rattle.vessel.specs.Vessels.{Good, Same as SameVolume}
use Rattle.liquid.specs.Liquids.{Carries}
use Rattle.liquid.specs.Asking.{question_of}
use Rattle.liquid.specs.Questions.{takes as liquid_takes}
use Rattle.liquid.specs.declared.question.Question.{Question}
use Rattle.reference.specs.References.{Weighs, Same, faulted, Asked as Weighed}
use Rattle.prover.specs.Masses.{mass_of, mass_ends, measured, prover_takes, prover_fault}

steps_worth : (n : ℕ) → Worth (steps (pos n)) (n * 1) (0 * 1) (1 * 100000000)
steps_worth n = worth_div (lit< tt) (worth_nat n) (worth_nat 100000000)

steps_positive : (n : ℕ) → Le (nat 0) (steps (pos n))
steps_positive n = worth_le (worth_nat 0) (steps_worth n) (omega arith)

zero_nat : (n : ℕ) → Le (nat 0) (nat n)
zero_nat n = nat_le (omega arith)

-- a product of numbers that are not negative is none either
zero_mul : {a b : Fraction} → Le (nat 0) a → Le (nat 0) b → Le (nat 0) (mul a b)
zero_mul {a} {b} h k = le_trans (worth_le (worth_nat 0) (worth_mul (worth_nat 0) (worth_nat 0)) (omega arith)) (mul_mono h (le_refl (nat 0)) h k)

-- the pair holds the mass
pub holds_mass : (v w ρ c d : ℕ) (x y : Fraction) → Holds whole (pos v) (pos w) (number x) → Holds steps (pos c) (pos d) (number y)
    → Holds whole (pos (floor (v * ρ * c) 10000000000000)) (pos (ceiling (w * ρ * d) 10000000000000)) (number (mass_of x (pos ρ) y))
unfolding mass_of
holds_mass v w ρ c d x y h k =
    let x-positive = le_trans (zero_nat v) h.least in
    let y-positive = le_trans (steps_positive c) k.least in
    record {
      least = quotient_least (nat_positive (lit< tt)) (le_trans (under (floor (v * ρ * c) 10000000000000) (floor_under (v * ρ * c) 10000000000000 (lit< tt)).0)
          (mul_mono (zero_mul x-positive (zero_nat ρ)) (steps_positive c) (mul_mono x-positive (zero_nat ρ) h.least (le_refl (nat ρ))) k.least));
      most = quotient_most (nat_positive (lit< tt)) (le_trans (mul_mono (zero_mul (zero_nat w) (zero_nat ρ)) y-positive (mul_mono (zero_nat w) (zero_nat ρ) h.most (le_refl (nat ρ))) k.most)
          (over (ceiling (w * ρ * d) 10000000000000) (ceil_over (w * ρ * d) 10000000000000 (lit< tt)).0));
    }
  where
    under : (q : ℕ) → q * 10000000000000 ≤ v * ρ * c → Le (mul (nat q) (nat 100000)) (mul (mul (nat v) (nat ρ)) (steps (pos c)))
    under q l = worth_le (worth_mul (worth_nat q) (worth_nat 100000)) (worth_mul (worth_mul (worth_nat v) (worth_nat ρ)) (steps_worth c)) (omega arith)

    over : (q : ℕ) → w * ρ * d ≤ q * 10000000000000 → Le (mul (mul (nat w) (nat ρ)) (steps (pos d))) (mul (nat q) (nat 100000))
    over q l = worth_le (worth_mul (worth_mul (worth_nat w) (worth_nat ρ)) (steps_worth d)) (worth_mul (worth_nat q) (worth_nat 100000)) (omega arith)

-- The width, where vessel and liquid use all that they are allowed: w ≤ v + t + 3 with 10⁹·t ≤ 1200·v, and d ≤ c + 40.
-- With Y = v·ρ, X = Y·c, T = t·ρ and l the lower end: w·ρ·d ≤ (Y + T + 3ρ)·d.
pub narrow_mass : (v w ρ c d t l : ℕ) → w ≤ v + (t + 3) → 1000000000 * t ≤ 1200 * v → ρ ≤ 120000 → 80000000 ≤ c → d ≤ c + 40 → d ≤ 120000000
    → v * ρ * c < l * 10000000000000 + 10000000000000 → 10000000 ≤ l → w * ρ * d ≤ (l + (l / 500000 + 6)) * 10000000000000
narrow_mass v w ρ c d t l a b r e f g near least =
    let wide : w * ρ * d ≤ (v + (t + 3)) * ρ * d = mul-le-mul_right d (mul-le-mul_right ρ a) in
    let share : 1000000000 * t * (ρ * d) ≤ 1200 * v * (ρ * d) = mul-le-mul_right (ρ * d) b in
    let factor : v * ρ * d ≤ v * ρ * (c + 40) = mul-le-mul_left (v * ρ) f in
    let third : 3 * ρ * d ≤ 3 * 120000 * 120000000 = mul-le-mul (mul-le-mul_left 3 r) g in
    let low : v * ρ * 80000000 ≤ v * ρ * c = mul-le-mul_left (v * ρ) e in
    go (v * ρ) (v * ρ * c) (v * ρ * d) (t * ρ * d) (ρ * d) (w * ρ * d) (l / 500000) (omega arith) (omega arith) (omega arith) (omega arith) (omega arith) near (omega arith)
  where
    go : (Y X Z T R W q : ℕ) → W ≤ Z + T + 3 * R → 1000000000 * T ≤ 1200 * Z → Z ≤ X + 40 * Y → 3 * R ≤ 43200000000000 → 80000000 * Y ≤ X
        → X < l * 10000000000000 + 10000000000000 → (l < 500000 * q + 500000) × (20 ≤ q) → W ≤ (l + (q + 6)) * 10000000000000
    go Y X Z T R W q h i j k m n o = omega arith

-- the ends stay in order
pub mass_ordered : (v w ρ c d : ℕ) → v ≤ w → c ≤ d → floor (v * ρ * c) 10000000000000 ≤ ceiling (w * ρ * d) 10000000000000
mass_ordered v w ρ c d h k =
    let f = (floor_under (v * ρ * c) 10000000000000 (lit< tt)).0 in
    let g = (ceil_over (w * ρ * d) 10000000000000 (lit< tt)).0 in
    let m : v * ρ * c ≤ w * ρ * d = mul-le-mul (mul-le-mul_right ρ h) k in
    let l : floor (v * ρ * c) 10000000000000 * 10000000000000 ≤ ceiling (w * ρ * d) 10000000000000 * 10000000000000 = omega arith in
    le_of_mul-le-mul_right l (lit< tt)

-- The allowance of a reference, from what the vessel and the liquid owe.
pub mass_narrow : (u : ℕ) (x y : Fraction) (v c : Ends) (ρ : ℤ) → u ≤ 1200 → Good u x v → Carries y c → dense ρ ≡ true → pos 10000000 ≤ℤ (mass_ends v ρ c).low
    → unsigned_abs (mass_ends v ρ c).high ≤ unsigned_abs (mass_ends v ρ c).low + (unsigned_abs (mass_ends v ρ c).low / 500000 + 6)
mass_narrow u x y v c ρ few good carries ranged least =
    let low = unsigned_abs v.low * unsigned_abs ρ * unsigned_abs c.low in
    let most = most_of (pos 60000) (pos 120000) ρ ranged in
    let some = least_of (pos 60000) (pos 120000) ρ ranged in
    let ordered = ordered_steps carries.holds in
    let part : u * unsigned_abs v.low ≤ 1200 * unsigned_abs v.low = mul-le-mul_right (unsigned_abs v.low) few in
    ceil_most (unsigned_abs v.high * unsigned_abs ρ * unsigned_abs c.high) 10000000000000 (floor low 10000000000000 + (floor low 10000000000000 / 500000 + 6)) (lit< tt)
    (narrow_mass (unsigned_abs v.low) (unsigned_abs v.high) (unsigned_abs ρ) (unsigned_abs c.low) (unsigned_abs c.high) (u * unsigned_abs v.low / 1000000000) (floor low 10000000000000)
    good.narrow (omega arith) (omega (arith, ints)) (omega (arith, ints, carries.least)) (omega (arith, ints, carries.narrow, carries.least)) (omega (arith, ints, carries.most, carries.least, carries.narrow))
    (floor_under low 10000000000000 (lit< tt)).1 (least_n (floor low 10000000000000) least))
  where
    least_n : (n : ℕ) → pos 10000000 ≤ℤ pos n → 10000000 ≤ n
    least_n n h = omega (arith, ints)

-- what the prover's pair owes
pub mass_weighs : (u : ℕ) (x y : Fraction) (v c : Ends) (ρ : ℤ) → u ≤ 1200 → Good u x v → Carries y c → dense ρ ≡ true
    → weighable (mass_ends v ρ c).low (mass_ends v ρ c).high ≡ true → Weighs (mass_of x ρ y) (mass_ends v ρ c)
mass_weighs u x y v c ρ few good carries ranged taken = record {
  holds = holds;
  least = least;
  most = weighable_most (mass_ends v ρ c).low (mass_ends v ρ c).high taken;
  narrow = mass_narrow u x y v c ρ few good carries ranged least;
}
  where
    least : pos 10000000 ≤ℤ (mass_ends v ρ c).low
    least = weighable_least (mass_ends v ρ c).low (mass_ends v ρ c).high taken

    some : pos 60000 ≤ℤ ρ
    some = least_of (pos 60000) (pos 120000) ρ ranged

    holds : Holds whole (mass_ends v ρ c).low (mass_ends v ρ c).high (number (mass_of x ρ y))
    holds =
        let above = ordered_whole good.holds in
        let ordered = ordered_steps carries.holds in
        subst (λ (z : ℤ). Holds whole (mass_ends v ρ c).low (mass_ends v ρ c).high (number (mass_of x z y))) (sym (sized ρ (omega (arith, ints, some))))
        (holds_mass (unsigned_abs v.low) (unsigned_abs v.high) (unsigned_abs ρ) (unsigned_abs c.low) (unsigned_abs c.high) x y
        (holds_ends (sym (sized v.low (omega (arith, ints, good.least)))) (sym (sized v.high (omega (arith, ints, good.least)))) good.holds)
        (holds_ends (sym (sized c.low (omega (arith, ints, carries.least)))) (sym (sized c.high (omega (arith, ints, carries.least)))) carries.holds))

-- a pair that is fine wherever it is weighable
pub not_weighable : (b f : Bool) → (b && f) ≡ false → (b ≡ true → f ≡ true) → b ≡ false
not_weighable true f e h = sym (h refl) ∙ e
not_weighable false f e h = refl

fine_true : (l h : ℤ) → unsigned_abs h ≤ unsigned_abs l + (unsigned_abs l / 500000 + 6) → fine l h ≡ true
fine_true l h k = grind (arith, nat_tests)

-- the prover's pair is refused for its range alone
pub mass_refused : (u : ℕ) (x y : Fraction) (v c : Ends) (ρ : ℤ) (l h : ℤ) → u ≤ 1200 → Good u x v → Carries y c → dense ρ ≡ true → l ≡ (mass_ends v ρ c).low → h ≡ (mass_ends v ρ c).high
    → (weighable l h && fine l h) ≡ false → weighable (mass_ends v ρ c).low (mass_ends v ρ c).high ≡ false
mass_refused u x y v c ρ l h few good carries ranged low high e =
    not_weighable (weighable L H) (fine L H) (subst (λ (z : ℤ). (weighable L z && fine L z) ≡ false) high (subst (λ (z : ℤ). (weighable z h && fine z h) ≡ false) low e))
    (λ t. fine_true L H (mass_narrow u x y v c ρ few good carries ranged (weighable_least L H t)))
  where
    L : ℤ
    L = (mass_ends v ρ c).low

    H : ℤ
    H = (mass_ends v ρ c).high

-- the same product, of ends that are given otherwise
pub product_same : (f : ℕ → ℕ → ℕ) {v w c d ρ : ℤ} {n : ℕ} → v ≡ w → ρ ≡ pos n → c ≡ d → pos (f (unsigned_abs v * n * unsigned_abs c) 10000000000000) ≡ pos (f (unsigned_abs w * unsigned_abs ρ * unsigned_abs d) 10000000000000)
product_same f {v} {w} {c} {d} {ρ} {n} h k j =
    let m : n ≡ unsigned_abs ρ = sym (ap unsigned_abs k) in
    subst (λ (z : ℕ). pos (f (unsigned_abs v * n * unsigned_abs c) 10000000000000) ≡ pos (f (unsigned_abs w * z * unsigned_abs d) 10000000000000)) m
    (subst (λ (z : ℤ). pos (f (unsigned_abs v * n * unsigned_abs c) 10000000000000) ≡ pos (f (unsigned_abs z * n * unsigned_abs d) 10000000000000)) h
    (ap (λ (z : ℤ). pos (f (unsigned_abs v * n * unsigned_abs z) 10000000000000)) j))

-- the mass is at fault where all else is taken
pub mass_fault : (a b c d : Bool) (e : Ends) (f g h : Fault) → a ≡ true → b ≡ true → c ≡ true → d ≡ false
    → Weighed (a && (b && (c && d))) e (cond a (cond b (cond c (faulted Mass Together) f) g) h) (Err (faulted Mass Together))
mass_fault true true true false e f g h i j k l = refl
mass_fault false b c d e f g h i j k l = absurd (grind arith)
mass_fault true false c d e f g h i j k l = absurd (grind arith)
mass_fault true true false d e f g h i j k l = absurd (grind arith)
mass_fault true true true true e f g h i j k l = absurd (grind arith)

-- what the prover's pair owes of a record that it takes, from what its vessel and its liquid owe
pub prover_weighs : (t : Bool) (u : ℕ) (x y : Fraction) (v c : Ends) (r : Record) → u ≤ 1200 → (t ≡ true → Good u x v) → (liquid_takes (question_of r) ≡ true → Carries y c)
    → prover_takes t r (mass_ends v r.density c) ≡ true → Weighs (mass_of x r.density y) (mass_ends v r.density c)
prover_weighs t u x y v c r few good carries h =
    let e = mass_ends v r.density c in
    let a = both t (measured r && (liquid_takes (question_of r) && weighable e.low e.high)) h in
    let b = both (measured r) (liquid_takes (question_of r) && weighable e.low e.high) a.1 in
    let d = both (liquid_takes (question_of r)) (weighable e.low e.high) b.1 in
    let f = both (temperate r.densitometer_temperature) (pressed r.densitometer_pressure && dense r.density) b.0 in
    let i = both (pressed r.densitometer_pressure) (dense r.density) f.1 in
    mass_weighs u x y v c r.density few (good a.0) (carries d.0) i.1 d.1

-- records that are alike to the vessel, put the same question and have the same density get the same
pub prover_same : {t t' : Bool} {f f' : Field} {x x' : Fraction} {v v' : Ends} (y : Question → Fraction) (c : Question → Ends) (p q : Record)
    → SameVolume t t' f f' x x' v v' → question_of p ≡ question_of q → p.density ≡ q.density
    → Same (prover_takes t p (mass_ends v p.density (c (question_of p)))) (prover_takes t' q (mass_ends v' q.density (c (question_of q))))
    (prover_fault t f p) (prover_fault t' f' q)
    (mass_of x p.density (y (question_of p))) (mass_of x' q.density (y (question_of q)))
    (mass_ends v p.density (c (question_of p))) (mass_ends v' q.density (c (question_of q)))
prover_same y c p q h question density =
    let takes_same = h.takes_same in
    let fault_same = h.fault_same in
    let volume_same = h.volume_same in
    let answer_same = h.answer_same in
    let temperature = ap (λ (z : Question). z.densitometer_temperature) question in
    let pressure = ap (λ (z : Question). z.densitometer_pressure) question in
    record { takes_same = cc; fault_same = cc; mass_same = cc; answer_same = cc }

-- the mass is given where all is taken
pub mass_given : (a b c d : Bool) (e : Ends) (f : Fault) (m : ReferenceMass) → a ≡ true → b ≡ true → c ≡ true → d ≡ true → Has m.pair e → Weighed (a && (b && (c && d))) e f (Ok m)
mass_given true true true true e f m h i j k l = l
mass_given false b c d e f m h i j k l = absurd (grind arith)
mass_given true false c d e f m h i j k l = absurd (grind arith)
mass_given true true false d e f m h i j k l = absurd (grind arith)
mass_given true true true false e f m h i j k l = absurd (grind arith)
