-- Sums, differences and products of fractions: bounds go through them, and they have the laws of arithmetic.
use Rattle.std.proofs.Common.{◌≡◌, ℕ, ◌+◌, ◌-◌, ◌*◌, ◌≤◌, sym, ap, subst, mul-le-mul_right, arith}
use Rattle.exact.specs.Fractions.{Fraction, Le, Same, whole, nat, add, neg, sub, mul}
use Rattle.exact.proofs.Order.{le_trans, same_le, same_sym, same_from}

-- sums
pub add_comm : (a b : Fraction) → Same (add a b) (add b a)
unfolding add
add_comm a b = record { same = omega arith }

add_left : {a b : Fraction} (c : Fraction) → Le a b → Le (add a c) (add b c)
unfolding add
add_left c h = record { le = omega (arith, mul-le-mul_right (c.bottom * c.bottom) h.le) }

pub add_mono : {a b c d : Fraction} → Le a b → Le c d → Le (add a c) (add b d)
add_mono {a} {b} {c} {d} h k =
    le_trans (add_left c h) (le_trans (same_le (add_comm b c)) (le_trans (add_left b k) (same_le (add_comm d b))))

pub neg_mono : {a b : Fraction} → Le a b → Le (neg b) (neg a)
unfolding neg
neg_mono h = record { le = omega (arith, h.le) }

pub sub_mono : {a b c d : Fraction} → Le a b → Le d c → Le (sub a c) (sub b d)
sub_mono h k = add_mono h (neg_mono k)

-- L ≤ x + d gives L − d ≤ x
pub sub_least : (L x d : Fraction) → Le L (add x d) → Le (sub L d) x
unfolding add neg
sub_least L x d h = record { le = omega (arith, mul-le-mul_right d.bottom h.le) }

pub add_same : {a b c d : Fraction} → Same a b → Same c d → Same (add a c) (add b d)
add_same h k = same_from (add_mono (same_le h) (same_le k)) (add_mono (same_le (same_sym h)) (same_le (same_sym k)))

-- products
pub mul_comm : (a b : Fraction) → Same (mul a b) (mul b a)
unfolding mul
mul_comm a b = record { same = omega arith }

pub mul_assoc : (a b c : Fraction) → Same (mul (mul a b) c) (mul a (mul b c))
unfolding mul
mul_assoc a b c = record { same = omega arith }

mul_n : (ap am ad bp bm bd e f cd : ℕ) → ap * bd + bm * ad ≤ bp * ad + am * bd
    → (ap * (e + f) + am * f) * (bd * cd) + (bp * f + bm * (e + f)) * (ad * cd) ≤ (bp * (e + f) + bm * f) * (ad * cd) + (ap * f + am * (e + f)) * (bd * cd)
mul_n ap am ad bp bm bd e f cd h = omega (arith, mul-le-mul_right (e * cd) h)

not_negative : (c : Fraction) → Le (nat 0) c → c.minus ≤ c.plus
unfolding whole
not_negative c h = omega (arith, h.le)

-- a ≤ b and 0 ≤ c give a·c ≤ b·c
pub mul_left : {a b : Fraction} (c : Fraction) → Le (nat 0) c → Le a b → Le (mul a c) (mul b c)
unfolding mul
mul_left {a} {b} c z h = record {
  le =
      let cs : c.minus ≤ c.plus = not_negative c z in
      let is : c.plus ≡ (c.plus - c.minus) + c.minus = omega arith in
      subst (λ (p : ℕ). (a.plus * p + a.minus * c.minus) * (b.bottom * c.bottom) + (b.plus * c.minus + b.minus * p) * (a.bottom * c.bottom) ≤ (b.plus * p + b.minus * c.minus) * (a.bottom * c.bottom) + (a.plus * c.minus + a.minus * p) * (b.bottom * c.bottom)) (sym is)
      (mul_n a.plus a.minus a.bottom b.plus b.minus b.bottom (c.plus - c.minus) c.minus c.bottom h.le);
}

-- 0 ≤ a ≤ b and 0 ≤ c ≤ d give a·c ≤ b·d
pub mul_mono : {a b c d : Fraction} → Le (nat 0) b → Le (nat 0) c → Le a b → Le c d → Le (mul a c) (mul b d)
mul_mono {a} {b} {c} {d} p q h k =
    le_trans (mul_left c q h) (le_trans (same_le (mul_comm b c)) (le_trans (mul_left b p k) (same_le (mul_comm d b))))
