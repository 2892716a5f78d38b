-- The terms of the sum in whole units of 10⁻¹², for an argument of a given size: each is rounded down from the one before.
-- The argument's sign is the sign of every odd term, so that even and odd terms are summed apart. Assumes nothing.
use Rattle.std.specs.Prelude.{ℕ, zero, suc, ◌+◌, ◌*◌, ◌/◌}

-- from the term before to the k-th: times the argument, over k
abbrev pub next_term_lem : ℕ → ℕ → ℕ → ℕ
next_term_lem size k term = (term * size) / (k * 1000000000000)

-- the sum of the even terms, the sum of the odd ones, and the last even one
pub record Terms : Type 0 where
  pub even : ℕ
  pub odd : ℕ
  pub last : ℕ

-- the terms 0 to 2
abbrev pub first_terms : ℕ → Terms
first_terms size = record { even = 1000000000000 + next_term_lem size 2 size; odd = size; last = next_term_lem size 2 size }

-- an odd and an even term more, 2j + 3 and 2j + 4
abbrev pub more_terms : ℕ → ℕ → Terms → Terms
more_terms size j s = record {
  even = s.even + next_term_lem size (2 * j + 4) (next_term_lem size (2 * j + 3) s.last);
  odd = s.odd + next_term_lem size (2 * j + 3) s.last;
  last = next_term_lem size (2 * j + 4) (next_term_lem size (2 * j + 3) s.last);
}

-- the terms 0 to 2j + 2
unfoldable pub terms : ℕ → ℕ → Terms
terms size zero = first_terms size
terms size (suc j) = more_terms size j (terms size j)
