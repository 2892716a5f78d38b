use Rattle.std.proofs.Common.{◌*◌, ◌<◌, mul-pos, arith}
use Rattle.std.proofs.lemmas.Int.{ints}
use Rattle.exact.proofs.Pairs.{holds_same}
use Rattle.exact.proofs.Quotients.{floor_least, ceil_most}
use Rattle.pass.proofs.Counts.{mass_most, mass_least, mass_same}
use Rattle.pass.proofs.gate.Gate.mass.Goals as goal

pub invariant_of-quotient : goal.invariant_of-quotient
invariant_of-quotient c =
    let g = c.args.self.now in
    let f = c.args.factor.now in
    record { defined = mul-pos g.counted.0 (omega arith) }

pub pair-requires : goal.pair-requires
pair-requires c =
    let g = c.args.self.now in
    let f = c.args.factor.now in
    let some : 0 < g.pulse_time * f.ten_thousandths = mul-pos g.counted.0 (omega arith) in
    let most = ceil_most _ _ 800001000000 some (mass_most c.product.result g.pulse_time f.ten_thousandths c.product.ensures.most f.ranged.0) in
    record { fits = omega arith }

pub invariant_of-result : goal.invariant_of-result
invariant_of-result c =
    let g = c.args.self.now in
    let f = c.args.factor.now in
    let some : 0 < g.pulse_time * f.ten_thousandths = mul-pos g.counted.0 (omega arith) in
    let least = floor_least _ _ 10990000 some (mass_least c.product.result g.pulse_time f.ten_thousandths c.product.ensures.least f.ranged.1) in
    let most = ceil_most _ _ 800001000000 some (mass_most c.product.result g.pulse_time f.ten_thousandths c.product.ensures.most f.ranged.0) in
    record {
      ranged = (omega (arith, ints, c.pair.ensures.low, least), omega (arith, ints, c.pair.ensures.high, most));
      narrow = c.pair.ensures.narrow;
    }

pub returns : goal.returns
returns c =
    let g = c.args.self.now in
    let f = c.args.factor.now in
    let product = c.product.ensures.value in
    let low = c.pair.ensures.low in
    let high = c.pair.ensures.high in
    record {
      low = cc;
      high = cc;
      holds = holds_same (mass_same c.product.result g.pulses g.detector_time g.pulse_time f.ten_thousandths product g.counted.0 (omega arith)) c.pair.ensures.holds;
    }
