use Rattle.std.proofs.Common.{nat_abs, arith}
use Rattle.std.proofs.lemmas.Int.{ints}
use Rattle.pass.proofs.Widths.{pulse_narrow, pulse_low, pulse_high}
use Rattle.pass.proofs.kinds.meter_by_reference.Goals as goal

pub returns : goal.returns
returns c =
    let m = c.args.masses.now.meter.pair in
    let r = c.args.masses.now.reference.pair in
    let near = c.args.masses.now.near in
    let least = pulse_low (nat_abs r.high) (nat_abs m.low) (omega (arith, ints)) near.1 in
    let most = pulse_high (nat_abs r.low) (nat_abs m.high) (omega (arith, ints)) near.0 in
    let apart = pulse_narrow (nat_abs r.low) (nat_abs r.high) (nat_abs m.low) (nat_abs m.high) (omega (arith, ints)) c.args.masses.now.reference.narrow (omega (arith, ints)) near.0 (omega (arith, ints)) (omega (arith, ints)) in
    record {
      value = record { holds = c.ratio.ensures.holds; narrow = omega (arith, ints, c.ratio.ensures.low, c.ratio.ensures.high, apart) };
      range = (omega (arith, ints, c.ratio.ensures.low, least), omega (arith, ints, c.ratio.ensures.high, most));
    }
