use Rattle.std.proofs.Common.{arith}
use Rattle.std.proofs.lemmas.Int.{ints}
use Rattle.exact.proofs.Quotients.{floor_ceil}
use Rattle.exact.proofs.Pairs.{holds_ends, holds_quotient}
use Rattle.exact.proofs.rounding.Quotient.pair.Goals as goal

pub floor-requires : goal.floor-requires
floor-requires c = let h = floor_ceil c.args.self.top c.args.self.bottom c.args.self.defined in omega arith

pub invariant_of-result : goal.invariant_of-result
invariant_of-result c = let h = floor_ceil c.args.self.top c.args.self.bottom c.args.self.defined in record { ordered = omega (arith, ints) }

pub returns : goal.returns
returns c =
    let h = floor_ceil c.args.self.top c.args.self.bottom c.args.self.defined in
    record {
      low = omega (arith, ints);
      high = omega (arith, ints);
      holds = holds_ends (omega (arith, ints)) (omega (arith, ints)) (holds_quotient c.args.self.top c.args.self.bottom c.args.self.defined);
      narrow = omega (arith, ints);
    }
