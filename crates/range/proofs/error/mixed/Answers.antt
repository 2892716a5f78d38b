use Rattle.std.proofs.Common.{◌+◌, ◌*◌, ◌/◌, arith}
use Rattle.range.proofs.Errors.{mixed_holds}
use Rattle.range.proofs.error.mixed.Goals as goal

pub returns-clause-holds : goal.returns-clause-holds
returns-clause-holds c = λ θ² ε² h k.
    let t = c.args.systematic in
    let e = c.args.random in
    mixed_holds t.low t.high e.low e.high (81 * (t.low + e.low) / 100) c.div_ceil.result θ² ε² (omega arith) (omega arith) h k
