use Rattle.std.proofs.Common.{◌*◌, arith, lit<}
use Rattle.exact.proofs.Pairs.{holds_same, holds_parts}
use Rattle.exact.proofs.Quotients.{ceil_most}
use Rattle.pass.proofs.Counts.{count_same}
use Rattle.pass.proofs.gate.Gate.count.Goals as goal

pub pair-requires : goal.pair-requires
pair-requires c =
    let g = c.args.self.now in
    let fits = ceil_most (10000 * c.product.result) g.pulse_time 8000010000 g.counted.0 (omega arith) in
    record { fits = omega arith }

pub returns : goal.returns
returns c =
    let g = c.args.self.now in
    record {
      holds = holds_parts 10000 (lit< tt) _ _ _ (holds_same (count_same c.product.result g.pulses g.detector_time g.pulse_time c.product.ensures.value g.counted.0) c.pair.ensures.holds);
      narrow = c.pair.ensures.narrow;
    }
