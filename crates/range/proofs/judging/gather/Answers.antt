use Rattle.std.proofs.Common.{List, [], ◌∷◌, ◌++◌, reverse, ap, ◌∙◌, subst, sym, rules}
use Rattle.std.proofs.lemmas.List.{reverse-reverse}
use Rattle.std.proofs.lemmas.Fn.{fold_over}
use Rattle.std.proofs.lemmas.Iterator.Adapters.{YieldsList-from_rev_slice}
use Rattle.std.specs.Iterator.Adapters.{rev_steps}
use Rattle.std.specs.Slice.Iter.{iter_steps_back}
use Rattle.point.specs.declared.figures.Point.{Point}
use Rattle.range.specs.Reaches.{PointsHold}
use Rattle.range.proofs.Together.{ReachesFrom, last_reach, further_reach}
use Rattle.range.proofs.judging.gather.Goals as goal

pub returns : goal.returns
returns c = λ k xs xss h.
    let last = c.unwrap.result.0.now in
    let before = c.unwrap.result.1.now in
    let split = rw c.unwrap.ensures at c.split_last.ensures.cases in
    let reach = fold_over (rev_steps iter_steps_back) (λ y. y.now) _ (ReachesFrom last) _ (λ ps r p t f j call. (further_reach last ps p.now r t j (search rules), search rules))
    c.rev.result (reverse before) c.from.result c.fold.result (YieldsList-from_rev_slice {s = c.rev.result} before (cc)).runs (last_reach last c.from.result c.from.ensures) c.fold.ensures.ran in
    reach k xs xss (subst (λ (ps : List Point). PointsHold k ps (xs ∷ xss)) (split.0 ∙ ap (λ (ps : List Point). ps ++ last ∷ []) (sym (reverse-reverse before))) h)
