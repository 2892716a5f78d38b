-- The ends of the half-gap of two levels, in steps: the first lies from a to A, the second from p to P. Assumes nothing.
use Rattle.std.specs.Prelude.{ℕ, ◌+◌, ◌*◌}
use Rattle.exact.specs.Pairs.{floor, ceiling}
use Rattle.point.specs.Deviations.{nearest, farthest}

abbrev pub half_gap_low : ℕ → ℕ → ℕ → ℕ → ℕ
half_gap_low a A p P = floor (100000000 * nearest a A p P) (2 * (A + P))

abbrev pub half_gap_high : ℕ → ℕ → ℕ → ℕ → ℕ
half_gap_high a A p P = ceiling (100000000 * farthest a A p P) (2 * (a + p))
