use Rattle.std.proofs.Common.{arith}
use Rattle.std.proofs.lemmas.Int.{ints}
use Rattle.exact.proofs.Pairs.{holds_less}
use Rattle.exact.proofs.shifts.less_one.Goals as goal

pub returns : goal.returns
returns c = record {
  low = omega (arith, ints);
  high = omega (arith, ints);
  holds = holds_less c.args.pair.low c.args.pair.high _ _ (omega (arith, ints)) (omega (arith, ints));
}
