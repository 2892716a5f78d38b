-- The kinds of value of a meter. Assumes nothing.
use Rattle.std.specs.Prelude.{ℤ, pos, negsuc}
use Rattle.exact.specs.Fractions.{Fraction, nat, sub, div}

-- K, the meter's pulses per tonne as a part of its set factor; MF, the meter factor; F, the correction
pub data Kind : Type 0 where
  K MF F : Kind

-- the exact value of a pass, from the mass that the meter counted and the reference's mass
abbrev pub value : Kind → Fraction → Fraction → Fraction
value K meter reference = div meter reference
value MF meter reference = div reference meter
value F meter reference = sub (div reference meter) (nat 1)

-- between which whole steps the pair of an accepted pass lies
abbrev pub least : Kind → ℤ
least K = pos 90000000
least MF = pos 90000000
least F = negsuc 9999999

abbrev pub most : Kind → ℤ
most K = pos 111111112
most MF = pos 110000000
most F = pos 10000000
