use Rattle.points.proofs.Rest.{Follows}
use Rattle.points.proofs.entry.gather.Given as goal

abbrev pub invariant-loop-rows : goal.invariant-loop-rows
invariant-loop-rows g l =
    (goal.iterator-loop-rows g).can_next l.rows-iterator ×
    (goal.iterator-loop-rows g).is_finite l.rows-iterator ×
    Follows g.V.Value.kind l.points l.rows-iterator.iter.rest.now l.reach
