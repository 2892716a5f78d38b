use Rattle.pass.proofs.Counts.{count_most, count_least}
use Rattle.std.proofs.Common.{refl}
use Rattle.pass.proofs.gate.Gate.product.Goals as goal

pub returns : goal.returns
returns c =
    let g = c.args.self.now in
    record {
      value = refl;
      least = count_least g.pulses g.detector_time g.pulse_time g.countable.0 g.matched;
      most = count_most g.pulses g.detector_time g.pulse_time g.countable.1 g.matched;
    }
