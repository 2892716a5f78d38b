use Rattle.std.proofs.Common.{rules}
use Rattle.std.proofs.lemmas.Iterator.{cases_from_all, YieldsList-from_slice}
use Rattle.std.proofs.lemmas.Iterator.Search.{true_from_All}
use Rattle.std.proofs.lemmas.List.Elements.{All-from_recursion, recursion_from_All, All-from_all_within}
use Rattle.point.specs.Rows.{Fits}
use Rattle.point.proofs.working.all_fitting.Goals as goal

pub returns : goal.returns
returns g c =
    let P = Fits g.V.Value.kind in
    let rows = c.args.rows.now in
    let cases = cases_from_all _ _ _ P (λ e. ¬ P e) c.all.ensures.ran (YieldsList-from_slice rows cc) (λ x q h. search rules) (λ x q h. search rules) in
    (λ h. recursion_from_All P rows (All-from_all_within P rows (rw h at cases)), λ h. true_from_All P (λ e. ¬ P e) _ rows (λ x p n. n p) cases (All-from_recursion P rows h))
