-- The order of fractions: reflexive, transitive and total; equal values.
use Rattle.std.proofs.Common.{ℕ, ◌+◌, ◌*◌, ◌<◌, ◌≤◌, ◌⊎◌, ℤ, ◌≤ℤ◌, ◌<ℤ◌, inl, inr, mul-le-mul_right, le_of_mul-le-mul_right, arith}
use Rattle.std.proofs.lemmas.Int.{ints}
use Rattle.std.proofs.lemmas.Bool.{cases_lt}
use Rattle.exact.specs.Fractions.{Fraction, Le, Lt, Same, whole, nat}

pub le_refl : (a : Fraction) → Le a a
le_refl a = record { le = omega arith }

trans_n : (ap am ad bp bm bd cp cm cd : ℕ) → 0 < bd
    → ap * bd + bm * ad ≤ bp * ad + am * bd → bp * cd + cm * bd ≤ cp * bd + bm * cd
    → ap * cd + cm * ad ≤ cp * ad + am * cd
trans_n ap am ad bp bm bd cp cm cd p h k =
    let l : (ap * cd + cm * ad) * bd ≤ (cp * ad + am * cd) * bd = omega (arith, mul-le-mul_right cd h, mul-le-mul_right ad k) in
    le_of_mul-le-mul_right l p

pub le_trans : {a b c : Fraction} → Le a b → Le b c → Le a c
le_trans {a} {b} {c} h k = record { le = trans_n a.plus a.minus a.bottom b.plus b.minus b.bottom c.plus c.minus c.bottom b.positive h.le k.le }

-- either a ≤ b or b < a
pub le_or_lt : (a b : Fraction) → Le a b ⊎ Lt b a
le_or_lt a b =
    elim (cases_lt (b.plus * a.bottom + a.minus * b.bottom) (a.plus * b.bottom + b.minus * a.bottom)) [ inl h ↦ inr (record { lt = h }) | inr h ↦ inl (record { le = h }) ]

pub lt_le : {a b : Fraction} → Lt a b → Le a b
lt_le h = record { le = omega (arith, h.lt) }

-- and never both
pub not_lt : {a b : Fraction} → Lt a b → Le b a → ⊥
not_lt h k = omega (arith, h.lt, k.le)

pub lt_le_trans : {a b c : Fraction} → Lt a b → Le b c → Lt a c
lt_le_trans {a} {b} {c} h k = go (le_or_lt c a)
  where
    go : Le c a ⊎ Lt a c → Lt a c
    go (inl e) = absurd (not_lt h (le_trans k e))
    go (inr e) = e

pub le_lt_trans : {a b c : Fraction} → Le a b → Lt b c → Lt a c
le_lt_trans {a} {b} {c} h k = go (le_or_lt c a)
  where
    go : Le c a ⊎ Lt a c → Lt a c
    go (inl e) = absurd (not_lt k (le_trans e h))
    go (inr e) = e

-- equal values
pub same_le : {a b : Fraction} → Same a b → Le a b
same_le h = record { le = omega (arith, h.same) }

pub same_from : {a b : Fraction} → Le a b → Le b a → Same a b
same_from h k = record { same = omega (arith, h.le, k.le) }

pub same_refl : (a : Fraction) → Same a a
same_refl a = record { same = omega arith }

pub same_sym : {a b : Fraction} → Same a b → Same b a
same_sym h = record { same = omega (arith, h.same) }

pub same_trans : {a b c : Fraction} → Same a b → Same b c → Same a c
same_trans h k = same_from (le_trans (same_le h) (same_le k)) (le_trans (same_le (same_sym k)) (same_le (same_sym h)))

-- whole numbers keep their order
pub whole_le : {a b : ℤ} → a ≤ℤ b → Le (whole a) (whole b)
unfolding whole
whole_le {a} {b} h = record { le = omega (arith, ints) }

pub whole_lt : {a b : ℤ} → a <ℤ b → Lt (whole a) (whole b)
unfolding whole
whole_lt {a} {b} h = record { lt = omega (arith, ints) }

pub le_whole : {a b : ℤ} → Le (whole a) (whole b) → a ≤ℤ b
unfolding whole
le_whole {a} {b} h = omega (arith, ints, h.le)

pub nat_le : {a b : ℕ} → a ≤ b → Le (nat a) (nat b)
unfolding whole
nat_le h = record { le = omega arith }

pub nat_positive : {n : ℕ} → 0 < n → Lt (nat 0) (nat n)
unfolding whole
nat_positive h = record { lt = omega arith }
