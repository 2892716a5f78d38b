-- Figures of a range worked by hand, of the definitions. Assumes nothing.
use Rattle.std.specs.Prelude.{[], ◌∷◌, pos}
use Rattle.exact.specs.Fractions.{Same, nat, mul}
use Rattle.exact.specs.Pairs.{Holds, parts}
use Rattle.pass.specs.Kinds.{MF}
use Rattle.range.specs.Ranges.{ΘA, Θ²}
use Rattle.range.specs.Rules.{part, error}

-- Means 1 and 1.001 of the meter factor: Θ_A is 50/2001 percent. (Each point is given by one value, its mean.)
abbrev pub NeighboursWorked : Type 0
NeighboursWorked = Same (ΘA MF ((nat 1 ∷ []) ∷ (part 1001 1000 ∷ []) ∷ [])) (part 50 200100)

-- Given limits 0.03 and 0.04 and Θ_A 0: Θ is 0.055. Here and below all is in percent.
abbrev pub SystematicWorked : Type 0
SystematicWorked = Same (Θ² (part 3 100 ∷ part 4 100 ∷ []) (nat 0)) (mul (part 55 1000) (part 55 1000))

-- Θ 0.04, S0 0.005 and ε 0.01: the error is 0.0405.
abbrev pub MixedWorked : Type 0
MixedWorked = Holds (parts 10000) (pos 405) (pos 405) (error (mul (part 4 100) (part 4 100)) (mul (part 5 1000) (part 5 1000)) (mul (part 1 100) (part 1 100)))

-- With Θ 0.055 it is 0.055.
abbrev pub SystematicErrorWorked : Type 0
SystematicErrorWorked = Holds (parts 1000) (pos 55) (pos 55) (error (mul (part 55 1000) (part 55 1000)) (mul (part 5 1000) (part 5 1000)) (mul (part 1 100) (part 1 100)))
