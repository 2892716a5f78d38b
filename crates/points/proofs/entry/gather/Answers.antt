use Rattle.std.proofs.Common.{◌≡◌}
use Rattle.points.proofs.Rest.{last_follows, further_follows, all_follow, not_all}
use Rattle.points.proofs.entry.gather.Goals as goal

pub loop-rows-init : goal.loop-rows-init
loop-rows-init g c =
    let split = rw c.unwrap.ensures at c.split_last.ensures.cases in
    let left : c.into_iter-rows-iterator.result.iter.rest.now ≡ c.unwrap.result.1.now = cc in
    (tt, tt, rw left (last_follows g.V.Value.kind c.args.points.now c.unwrap.result.1.now c.unwrap.result.0.now c.in_ok-point.field-0 c.from-reach.result split.0 c.in_ok-point.ensures c.from-reach.ensures))

pub loop-rows-preserved : goal.loop-rows-preserved
loop-rows-preserved g c =
    let follows = rw c.in-Some.ensures.steps at c.loop-rows.invariant.2 in
    (tt, tt, further_follows g.V.Value.kind c.args.points.now c.next.new.self.iter.rest.now c.in-Some.rows.now c.in_ok-point-2.field-0 c.loop-rows.reach c.further-reach.result follows c.in_ok-point-2.ensures c.further-reach.ensures.holds)

pub returns-in_err-point-2 : goal.returns-in_err-point-2
returns-in_err-point-2 g c =
    let follows = rw c.in-Some.ensures.steps at c.loop-rows.invariant.2 in
    rw c.from_residual-in_err-point-2.ensures (not_all g.V.Value.kind c.args.points.now c.next.new.self.iter.rest.now c.in-Some.rows.now c.loop-rows.reach follows c.in_err-point-2.ensures)

pub returns : goal.returns
returns g c = all_follow g.V.Value.kind c.args.points.now c.loop-rows.rows-iterator.iter.rest.now c.loop-rows.reach c.in-None.ensures.steps.0 c.loop-rows.invariant.2
