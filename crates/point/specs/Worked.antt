-- Figures of a point worked by hand, of the definitions. Assumes nothing.
use Rattle.std.specs.Prelude.{ℕ, List, [], ◌∷◌}
use Rattle.exact.specs.Fractions.{Fraction, Same, nat, div}
use Rattle.pass.specs.Kinds.{F}
use Rattle.point.specs.Points.{scatter², random²}

-- a/b
abbrev pub part : ℕ → ℕ → Fraction
part a b = div (nat a) (nat b)

-- five values of F, in percent
abbrev pub corrections : List Fraction
corrections = nat 0 ∷ part 2 100 ∷ part 4 100 ∷ part 2 100 ∷ part 2 100 ∷ []

-- their S² and ε², in squared percent
abbrev pub ScatterWorked : Type 0
ScatterWorked = Same (scatter² F corrections) (part 2 10000)

abbrev pub RandomWorked : Type 0
RandomWorked = Same (random² F corrections) (part 30824704 100000000000)
