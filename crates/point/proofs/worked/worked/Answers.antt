use Rattle.std.proofs.Common.{refl}
use Rattle.exact.specs.Fractions.{whole, add, neg, mul, div}
use Rattle.point.specs.Points.{sum, mean, spread, scatter², of_mean², random²}
use Rattle.point.proofs.worked.worked.Goals as goal

pub returns : goal.returns
unfolding whole add neg mul div sum mean spread scatter² of_mean² random²
returns c = record { scatter = record { same = refl }; random = record { same = refl } }
