-- How large the terms are: each is at most half of the one before from the third on, so that the sum is bounded by its first terms.
use Rattle.std.proofs.Common.{◌≡◌, ℕ, zero, suc, ◌+◌, ◌*◌, ◌<◌, ◌≤◌, mul-le-mul, mul-le-mul_left, inl, inr, arith}
use Rattle.std.proofs.lemmas.Bool.{cases_lt}
use Rattle.exact.proofs.Quotients.{floor_under}
use Rattle.expsum.specs.Terms.{next_term_lem, Terms, more_terms, terms}

-- a rounded term against the exact product
pub next_under : (size k t : ℕ) → 0 < k → (next_term_lem size k t * (k * 1000000000000) ≤ t * size) × (t * size ≤ next_term_lem size k t * (k * 1000000000000) + k * 1000000000000)
next_under size k t o =
    let f = floor_under (t * size) (k * 1000000000000) (omega arith) in
    (f.0, omega (arith, f.1))

-- halved, for an argument of at most 1.5
halved_n : (size k t r : ℕ) → size ≤ 1500000000000 → 3 ≤ k → r * (k * 1000000000000) ≤ t * size → 2 * r ≤ t
halved_n size k t r s o h =
    let a : t * size ≤ t * 1500000000000 = mul-le-mul_left t s in
    let b : r * 3 ≤ r * k = mul-le-mul_left r o in
    omega arith

pub halved : (size k t : ℕ) → size ≤ 1500000000000 → 3 ≤ k → 2 * next_term_lem size k t ≤ t
halved size k t s o = halved_n size k t (next_term_lem size k t) s o (next_under size k t (omega arith)).0

-- and small
small_n : (size k t r : ℕ) → size ≤ 1500000000000 → t ≤ 1500000000000 → 2 ≤ k → r * (k * 1000000000000) ≤ t * size → r ≤ 1500000000000
small_n size k t r s l o h =
    let a : t * size ≤ 1500000000000 * 1500000000000 = mul-le-mul l s in
    let b : r * 2 ≤ r * k = mul-le-mul_left r o in
    omega arith

pub next_small : (size k t : ℕ) → size ≤ 1500000000000 → t ≤ 1500000000000 → 2 ≤ k → next_term_lem size k t ≤ 1500000000000
next_small size k t s l o = small_n size k t (next_term_lem size k t) s l o (next_under size k t (omega arith)).0

pub record Bounded (size h : ℕ) (s : Terms) : Type 0 where
  pub even_least : 1000000000000 + h ≤ s.even
  pub odd_least : size ≤ s.odd
  pub odd_most : 3 * s.odd + 2 * s.last ≤ 3 * size + 2 * h
  pub last_most : s.last ≤ h
  pub all_most : s.even + s.odd + s.last ≤ 1000000000000 + size + 2 * h

bounded_more : (size h j : ℕ) (s : Terms) → size ≤ 1500000000000 → Bounded size h s → Bounded size h (more_terms size j s)
bounded_more size h j s small b =
    let m = halved size (2 * j + 3) s.last small (omega arith) in
    let n = halved size (2 * j + 4) (next_term_lem size (2 * j + 3) s.last) small (omega arith) in
    go (next_term_lem size (2 * j + 3) s.last) (next_term_lem size (2 * j + 4) (next_term_lem size (2 * j + 3) s.last)) m n
  where
    go : (u v : ℕ) → 2 * u ≤ s.last → 2 * v ≤ u → Bounded size h (record { even = s.even + v; odd = s.odd + u; last = v })
    go u v m n = record {
      even_least = omega (arith, b.even_least);
      odd_least = omega (arith, b.odd_least);
      odd_most = omega (arith, b.odd_most);
      last_most = omega (arith, b.last_most);
      all_most = omega (arith, b.all_most);
    }

pub bounded : (size j : ℕ) → size ≤ 1500000000000 → Bounded size (next_term_lem size 2 size) (terms size j)
unfolding terms
bounded size zero small = go (next_term_lem size 2 size)
  where
    go : (h : ℕ) → Bounded size h (record { even = 1000000000000 + h; odd = size; last = h })
    go h = record { even_least = omega arith; odd_least = omega arith; odd_most = omega arith; last_most = omega arith; all_most = omega arith }
bounded size (suc j) small = bounded_more size (next_term_lem size 2 size) j (terms size j) small (bounded size j small)

-- how large the sums and the last term are
pub sums_most : (size j even odd : ℕ) → size ≤ 1500000000000 → even ≡ (terms size j).even → odd ≡ (terms size j).odd → even + odd ≤ 5500000000000
sums_most size j even odd s e o =
    let b = (bounded size j s).all_most in
    let h = next_small size 2 size s s (omega arith) in
    omega arith

pub last_most : (size j last : ℕ) → size ≤ 1500000000000 → last ≡ (terms size j).last → last ≤ 1500000000000
last_most size j last s e =
    let b = (bounded size j s).last_most in
    let h = next_small size 2 size s s (omega arith) in
    omega arith

-- The two sums: e(−a) is at least 1 − a, and e(a) at most 1 + a + a².
pub record Sized (size even odd : ℕ) : Type 0 where
  pub least : odd + 1000000000000 ≤ even + size
  pub odd_least : size ≤ odd
  pub most : 1000000000000 * (even + odd) ≤ 1000000000000 * 1000000000000 + 1000000000000 * size + size * size

pub sized : (size : ℕ) → size ≤ 1500000000000 → Sized size (terms size 9).even (terms size 9).odd
sized size small =
    let b = bounded size 9 small in
    let h = (next_under size 2 size (omega arith)).0 in
    go (next_term_lem size 2 size) (terms size 9).even (terms size 9).odd (terms size 9).last h b.even_least b.odd_least b.all_most
  where
    go : (h even odd last : ℕ) → h * (2 * 1000000000000) ≤ size * size → 1000000000000 + h ≤ even → size ≤ odd → even + odd + last ≤ 1000000000000 + size + 2 * h → Sized size even odd
    go h even odd last l e o m = record { least = omega arith; odd_least = o; most = omega arith }

-- e(−a) is well above 0 for an argument of at most 1.05
pub odd_less : (size : ℕ) → size ≤ 1050000000000 → (terms size 9).odd + 400 ≤ (terms size 9).even
odd_less size small =
    let b = bounded size 9 (omega arith) in
    let h = (next_under size 2 size (omega arith)).1 in
    go (next_term_lem size 2 size) (terms size 9).even (terms size 9).odd (terms size 9).last h b.even_least b.odd_most
  where
    go : (h even odd last : ℕ) → size * size ≤ h * (2 * 1000000000000) + 2 * 1000000000000 → 1000000000000 + h ≤ even → 3 * odd + 2 * last ≤ 3 * size + 2 * h → odd + 400 ≤ even
    go h even odd last l e o = elim (cases_lt size 900000000000) [
      | inl k ↦ omega arith
      | inr k ↦ omega (arith, small, mul-le-mul_left size k)
    ]
