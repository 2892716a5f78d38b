use Rattle.std.proofs.Common.{arith}
use Rattle.range.proofs.Systematics.{systematic_holds, systematic_narrow}
use Rattle.range.proofs.systematic.systematic.Goals as goal

pub invariant_of-result : goal.invariant_of-result
invariant_of-result c =
    let a = c.args.neighbours in
    let g = c.squares-squares in
    let low = rw c.from.ensures at c.root_floor.ensures in
    let high = rw c.from-2.ensures at c.root_ceil.ensures in
    let n = systematic_narrow a.low a.high g.result c.root_floor.result c.root_ceil.result a.ordered a.narrow a.within g.ensures.small low.under low.near high.over high.near in
    record { ordered = n.0; narrow = omega (arith, n.1); within = n.2 }

pub returns : goal.returns
returns c = λ x h.
    let a = c.args.neighbours in
    let g = c.squares-squares in
    let low = rw c.from.ensures at c.root_floor.ensures in
    let high = rw c.from-2.ensures at c.root_ceil.ensures in
    systematic_holds c.args.limits.steps.now x a.low a.high g.result _ _ g.ensures.value low.under high.over h
