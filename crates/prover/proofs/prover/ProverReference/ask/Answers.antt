use Rattle.std.proofs.Common.{◌≡◌, true, ◌&&◌, ℤ, ◌∙◌, sym, ap, subst, Some, None, Ok, Err, Option, Result, MatchOption}
use Rattle.std.specs.Option.{ok_or}
use Rattle.exact.specs.Pairs.{floor, ceiling}
use Rattle.exact.specs.declared.pair.Pair.{Pair}
use Rattle.pass.specs.Ranges.{temperate, pressed, dense}
use Rattle.pass.specs.Values.{weighable, fine}
use Rattle.pass.specs.declared.denials.Fault.{Fault}
use Rattle.pass.specs.declared.denials.Field.TheVariants.{Together}
use Rattle.pass.specs.declared.denials.Device.TheVariants.{Mass}
use Rattle.pass.specs.declared.masses.ReferenceMass.{ReferenceMass}
use Rattle.pass.proofs.Taken.{both}
use Rattle.liquid.specs.Asking.{question_of}
use Rattle.liquid.specs.Questions.{takes}
use Rattle.reference.specs.References.{Asked, faulted}
use Rattle.prover.specs.Masses.{mass_ends, measured, prover_takes, prover_fault}
use Rattle.prover.specs.Weights.{mass_refused, mass_fault, mass_given, product_same}
use Rattle.prover.proofs.prover.ProverReference.ask.Goals as goal

-- a mass or this fault, as the pair is one that a reference may give
mass_or : {A : Type 0} {B : ReferenceMass → Type 0} (P : Result ReferenceMass Fault → Type 0) (o : Option ReferenceMass) (fault : Fault) → MatchOption o A B
    → (A → P (Err fault)) → ((m : ReferenceMass) → B m → P (Ok m)) → P (ok_or o fault)
mass_or P (Some m) fault h none some = some m h
mass_or P None fault h none some = none h

pub returns : goal.returns
returns g c =
    let p = c.args.self.now in
    let r = c.args.pass.now in
    let q = question_of r in
    let v = g.V.Vessel.answer p.vessel r in
    let f = g.L.Liquid.answer p.liquid q in
    let e = mass_ends v r.density f in
    let vessel = c.in_ok-volume.ensures in
    let density = c.in_ok-density.ensures in
    let liquid = c.in_ok-factor.ensures in
    let warm = both (temperate r.densitometer_temperature) (pressed r.densitometer_pressure && dense r.density) density.0 in
    let ranged = (both (pressed r.densitometer_pressure) (dense r.density) warm.1).1 in
    let pair = c.weigh-mass.result in
    let low : pair.low ≡ e.low = c.weigh-mass.ensures.low ∙ product_same floor vessel.1.low density.1 liquid.1.low in
    let high : pair.high ≡ e.high = c.weigh-mass.ensures.high ∙ product_same ceiling vessel.1.high density.1 liquid.1.high in
    let T = g.V.Vessel.takes p.vessel r in
    let taken : (m : ReferenceMass) → (((weighable pair.low pair.high && fine pair.low pair.high) ≡ true) × (m.pair ≡ pair)) → weighable e.low e.high ≡ true =
    λ m h. subst (λ (z : ℤ). weighable z e.high ≡ true) low (subst (λ (z : ℤ). weighable pair.low z ≡ true) high (both (weighable pair.low pair.high) (fine pair.low pair.high) h.0).0) in
    subst (λ (z : Result ReferenceMass Fault). Asked (prover_takes T r e) e (prover_fault T (g.V.Vessel.fault p.vessel r) r) z) (sym c.ok_or.ensures.value)
    (mass_or (λ z. Asked (prover_takes T r e) e (prover_fault T (g.V.Vessel.fault p.vessel r) r) z) c.new.result (faulted Mass Together) c.new.ensures
    (λ refused. mass_fault T (measured r) (takes q) (weighable e.low e.high) _ _ _ _ vessel.0 density.0 liquid.0
    (mass_refused (g.V.Vessel.width p.vessel) (g.V.Vessel.volume p.vessel r) (g.L.Liquid.factor p.liquid q) v f r.density pair.low pair.high
    (g.met.V.Vessel.narrow p.vessel) (g.met.V.Vessel.good p.vessel r vessel.0) (g.met.L.Liquid.carries p.liquid q liquid.0) ranged low high refused))
    (λ m h. mass_given T (measured r) (takes q) (weighable e.low e.high) e _ m vessel.0 density.0 liquid.0 (taken m h)
    (record { low = ap (λ (z : Pair). z.low) h.1 ∙ low; high = ap (λ (z : Pair). z.high) h.1 ∙ high })))
