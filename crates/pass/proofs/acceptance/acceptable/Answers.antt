use Rattle.std.proofs.Common.{nat_abs, sym, ◌∙◌, arith}
use Rattle.std.proofs.lemmas.Int.{ints}
use Rattle.pass.proofs.Widths.{near_masses, near_same}
use Rattle.pass.proofs.acceptance.acceptable.Goals as goal

pub returns : goal.returns
returns c =
    let m = c.args.meter.now.pair in
    let r = c.args.reference.now.pair in
    let value = near_same c.near_one.ensures c.ratio.ensures.low c.ratio.ensures.high in
    record {
      value = value;
      near = λ t. near_masses (nat_abs r.low) (nat_abs r.high) (nat_abs m.low) (nat_abs m.high) (omega (arith, ints)) (omega (arith, ints)) (sym value ∙ t);
    }
