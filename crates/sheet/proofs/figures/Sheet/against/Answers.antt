use Rattle.std.proofs.Common.{sym, ap, ◌∙◌, subst}
use Rattle.exact.specs.Fractions.{whole}
use Rattle.exact.specs.Figures.{number}
use Rattle.exact.specs.Pairs.{Holds, floor, ceiling}
use Rattle.exact.proofs.Pairs.{holds_ends}
use Rattle.pass.specs.Meters.{meter_mass}
use Rattle.pass.specs.declared.masses.CountedMass.{CountedMass}
use Rattle.pass.specs.declared.masses.ReferenceMass.{ReferenceMass}
use Rattle.exact.specs.declared.pair.Pair.{Pair}
use Rattle.pass.proofs.Widths.{near_same}
use Rattle.sheet.proofs.Stands.{within_same, answered, quotient_same}
use Rattle.sheet.proofs.figures.Sheet.against.Goals as goal

pub returns : goal.returns
returns g c =
    let r = c.args.pass.now in
    let s = c.args.reference.now in
    let set = c.args.meter.now.factor.ten_thousandths in
    let mass = g.R.Reference.mass s r in
    let answer = g.R.Reference.answer s r in
    let counted = c.in_ok-counted.ensures in
    let weighed = answered (g.R.Reference.takes s r) answer (g.R.Reference.fault s r) c.in_ok-weighed.weighed c.in_ok-weighed.ensures in
    let weighs = g.met.R.Reference.good s r weighed.0 in
    let accepted = c.in_ok-masses.ensures in
    let meter = subst (λ (m : CountedMass). Holds whole m.pair.low m.pair.high (number (meter_mass set r))) (sym accepted.1) counted.3 in
    let reference = subst (λ (m : ReferenceMass). Holds whole m.pair.low m.pair.high (number mass)) (sym accepted.2) (holds_ends weighed.1.low weighed.1.high weighs.holds) in
    let same = c.of.ensures.same in
    let ends = same.2 ∙ ap (λ (m : ReferenceMass). m.pair) accepted.2 in (
      counted.0,
      weighed.0,
      sym (near_same (sym accepted.0) (quotient_same floor weighed.1.low counted.2) (quotient_same ceiling weighed.1.high counted.1)),
      record {
        count = within_same same.0 c.in_ok-count.ensures.1 c.in_ok-count.ensures.2;
        meter = within_same (same.1 ∙ ap (λ (m : CountedMass). m.pair) accepted.1) counted.3 counted.4;
        reference = record { low = ap (λ (p : Pair). p.low) ends ∙ weighed.1.low; high = ap (λ (p : Pair). p.high) ends ∙ weighed.1.high };
        weighs = weighs;
        pulse_factor = record { holds = c.of.ensures.pulse_factor.holds _ _ meter reference; narrow = c.of.ensures.pulse_factor.narrow };
        meter_factor = record { holds = c.of.ensures.meter_factor.holds _ _ meter reference; narrow = c.of.ensures.meter_factor.narrow };
        correction = record { holds = c.of.ensures.correction.holds _ _ meter reference; narrow = c.of.ensures.correction.narrow };
      },
    )
