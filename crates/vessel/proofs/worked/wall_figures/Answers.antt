use Rattle.std.proofs.Common.{refl, arith}
use Rattle.exact.specs.Fractions.{whole, add, neg, mul, div}
use Rattle.vessel.specs.Walls.{above_20, per_degree, pipe_cts, compact_cts, cps}
use Rattle.vessel.proofs.worked.wall_figures.Goals as goal

pub returns : goal.returns
unfolding whole add neg mul div above_20 per_degree pipe_cts compact_cts cps
returns c = (record { same = refl }, (λ α. record { same = omega arith }), record { same = refl }, record { same = refl })
