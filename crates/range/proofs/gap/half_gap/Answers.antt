use Rattle.std.proofs.Common.{◌≡◌, ◌+◌, ◌*◌, ◌∙◌, ap, arith}
use Rattle.exact.specs.Pairs.{ceiling}
use Rattle.exact.proofs.Quotients.{div_ceil_ceiling}
use Rattle.range.specs.Gaps.{half_gap_high}
use Rattle.range.proofs.Gaps.{level_gap_narrow}
use Rattle.range.proofs.gap.half_gap.Goals as goal

pub invariant_of-result : goal.invariant_of-result
invariant_of-result c =
    let n = level_gap_narrow c.args.one c.args.other in
    let b = 2 * (c.args.one.low + c.args.other.low) in
    let low = c.nearest.ensures.value in
    let high : c.div_ceil.result ≡ half_gap_high c.args.one.low c.args.one.high c.args.other.low c.args.other.high
    = c.div_ceil.ensures ∙ div_ceil_ceiling (100000000 * c.farthest.result) b (omega arith) ∙ ap (λ f. ceiling (100000000 * f) b) c.farthest.ensures.value in
    record { ordered = rw (low, high) n.0; narrow = rw (low, high) n.1; within = rw high n.2 }
