use Rattle.std.proofs.Common.{rules}
use Rattle.exact.proofs.Quotients.{div_ceil_ceiling}
use Rattle.exact.proofs.rounding.Quotient.ceil.Goals as goal

pub returns : goal.returns
returns c = let e = div_ceil_ceiling c.args.self.top c.args.self.bottom c.args.self.defined in search rules
