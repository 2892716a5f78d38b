use Rattle.std.proofs.Common.{refl}
use Rattle.exact.specs.Fractions.{whole, add, neg, mul, div}
use Rattle.liquid.specs.Linear.{linear_factor}
use Rattle.liquid.proofs.worked.linear_example.Goals as goal

pub returns : goal.returns
unfolding linear_factor whole add neg mul div
returns c = record { same = refl }
