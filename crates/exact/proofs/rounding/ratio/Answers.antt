use Rattle.std.proofs.Common.{◌≡◌, ◌*◌, pos, nat_abs, w64, SFits, rules}
use Rattle.std.proofs.lemmas.Int.{to_z-of_z}
use Rattle.exact.specs.Pairs.{floor, ceiling}
use Rattle.exact.proofs.Pairs.{holds_ends, holds_ratio, ratio_ordered}
use Rattle.exact.proofs.rounding.ratio.Goals.{After-ceil}
use Rattle.exact.proofs.rounding.ratio.Goals as goal

low : (c : After-ceil) → c.floor.result ≡ pos (floor (100000000 * nat_abs c.args.top.low) (nat_abs c.args.bottom.high))
low c =
    let tl : SFits w64 c.args.top.low = search rules in
    let bh : SFits w64 c.args.bottom.high = search rules in
    let top : c.steps.result.top ≡ 100000000 * nat_abs c.args.top.low = simp to_z-of_z at c.steps.ensures.top in
    let bottom : c.steps.result.bottom ≡ nat_abs c.args.bottom.high = simp to_z-of_z at c.steps.ensures.bottom in
    rw (top, bottom) at c.floor.ensures.value

high : (c : After-ceil) → c.ceil.result ≡ pos (ceiling (100000000 * nat_abs c.args.top.high) (nat_abs c.args.bottom.low))
high c =
    let th : SFits w64 c.args.top.high = search rules in
    let bl : SFits w64 c.args.bottom.low = search rules in
    let top : c.steps-2.result.top ≡ 100000000 * nat_abs c.args.top.high = simp to_z-of_z at c.steps-2.ensures.top in
    let bottom : c.steps-2.result.bottom ≡ nat_abs c.args.bottom.low = simp to_z-of_z at c.steps-2.ensures.bottom in
    rw (top, bottom) at c.ceil.ensures.value

pub invariant_of-result : goal.invariant_of-result
invariant_of-result c =
    let rl : SFits w64 c.floor.result = search rules in
    let rh : SFits w64 c.ceil.result = search rules in
    let l = low c in
    let h = high c in
    simp to_z-of_z (rw (l, h) record { ordered = ratio_ordered c.args.top.low c.args.top.high c.args.bottom.low c.args.bottom.high c.args.top.ordered c.args.bottom.ordered c.requires.top.0 c.requires.bottom })

pub returns-clause-holds : goal.returns-clause-holds
returns-clause-holds c =
    let before = (goal.at.returns-clause-holds c).After-ceil in
    let rl : SFits w64 c.floor.result = search rules in
    let rh : SFits w64 c.ceil.result = search rules in
    simp to_z-of_z (λ x y h k. holds_ends (low before) (high before) (holds_ratio c.args.top.low c.args.top.high c.args.bottom.low c.args.bottom.high c.args.top.ordered c.args.bottom.ordered c.requires.top.0 c.requires.bottom x y h k))
