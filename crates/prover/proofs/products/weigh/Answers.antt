use Rattle.std.proofs.Common.{◌≡◌, ◌*◌, pos, nat_abs, arith, le→leb, w64, SFits, rules}
use Rattle.std.proofs.lemmas.Int.{ints, to_z-of_z}
use Rattle.exact.specs.Pairs.{floor, ceiling}
use Rattle.prover.specs.Weights.{mass_ordered}
use Rattle.prover.proofs.products.weigh.Goals as goal

pub invariant_of-result : goal.invariant_of-result
invariant_of-result c =
    let v = c.args.volume in
    let f = c.args.factor in
    let vl : SFits w64 v.low = search rules in
    let vh : SFits w64 v.high = search rules in
    let fl : SFits w64 f.low = search rules in
    let fh : SFits w64 f.high = search rules in
    let rl : SFits w64 c.floor.result = search rules in
    let rh : SFits w64 c.ceil.result = search rules in
    let low : c.floor.result ≡ pos (floor (nat_abs v.low * c.args.density * nat_abs f.low) 10000000000000) = search rules in
    let high : c.ceil.result ≡ pos (ceiling (nat_abs v.high * c.args.density * nat_abs f.high) 10000000000000) = search rules in
    simp to_z-of_z (rw (low, high) record { ordered = record { le = le→leb _ _ (mass_ordered (nat_abs v.low) (nat_abs v.high) c.args.density (nat_abs f.low) (nat_abs f.high) (omega (arith, ints)) (omega (arith, ints))) } })
