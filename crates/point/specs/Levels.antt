-- Levels: a ratio value itself, and 1 + F for F. Every level lies near 1, so that levels are compared alike for all kinds,
-- and no end of one is negative. Assumes nothing.
use Rattle.std.specs.Prelude.{ℕ, ℤ, pos, ◌+ℤ◌, unsigned_abs}
use Rattle.exact.specs.Fractions.{Fraction, nat, add}
use Rattle.pass.specs.Kinds.{Kind, K, MF, F}

abbrev pub level : Kind → Fraction → Fraction
level K x = x
level MF x = x
level F x = add (nat 1) x

-- the same of an end, in steps
abbrev pub raise : Kind → ℕ
raise K = 0
raise MF = 0
raise F = 100000000

abbrev pub raised : Kind → ℤ → ℕ
raised k z = unsigned_abs (z +ℤ pos (raise k))

-- the end that scatter is divided by: the mean's own for a ratio, 1 for F
abbrev pub against_end : Kind → ℤ → ℕ
against_end K z = unsigned_abs z
against_end MF z = unsigned_abs z
against_end F z = 100000000
