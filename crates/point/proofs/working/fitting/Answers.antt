use Rattle.std.proofs.Common.{arith}
use Rattle.std.proofs.lemmas.Int.{ints}
use Rattle.point.proofs.working.fitting.Goals as goal

pub returns-then-row-MOST : goal.returns-then-row-MOST
returns-then-row-MOST g c = let constants = g.met.V.Statistic.of_kind in (λ h. record { floor = grind (arith, ints); ordered = grind (arith, ints); top = grind (arith, ints); narrow = grind (arith, ints) }, λ f. grind (arith, ints))
