-- Points given by their rows, and those of them that follow the ones that are left.
use Rattle.std.proofs.Common.{◌≡◌, ◌≤◌, List, [], ◌∷◌, ◌++◌, length, Some, sym, ◌∙◌, subst, append_assoc, arith}
use Rattle.exact.specs.Fractions.{Fraction}
use Rattle.pass.specs.Kinds.{Kind}
use Rattle.point.specs.Rows.{Held}
use Rattle.point.specs.Outcomes.{Workable, PointHolds, Answered}
use Rattle.point.specs.declared.figures.Point.{Point}
use Rattle.range.specs.Reaches.{Reaches, Extends}
use Rattle.range.specs.declared.reach.Reach.{Reach}
use Rattle.points.specs.Rows.{Rows, AllHeld, none, more, AllWorkable, Gathered}

-- what holds for each first point and those behind it
pub from_first : (P : List (List Fraction) → Type 0) (ps : List Rows) (xss : List (List Fraction)) → 1 ≤ length ps → AllHeld ps xss
    → ((xs : List Fraction) (yss : List (List Fraction)) → AllHeld ps (xs ∷ yss) → P (xs ∷ yss)) → P xss
from_first P [] xss o h f = absurd (omega arith)
from_first P (r ∷ ps) [] o h f = elim h [ ]
from_first P (r ∷ ps) (xs ∷ xss) o h f = f xs xss h

-- one point and the rest, taken apart; one point alone
split : {r : Rows} {xs : List Fraction} {rest : List Rows} {xss : List (List Fraction)} → AllHeld (r ∷ rest) (xs ∷ xss) → Held r.now xs × AllHeld rest xss
split (more h t) = (h, t)

alone : (P : List (List Fraction) → Type 0) {r : Rows} {xs : List Fraction} {xss : List (List Fraction)} → AllHeld (r ∷ []) (xs ∷ xss) → (Held r.now xs → P []) → P xss
alone P (more h none) f = f h

-- the reach of the points that follow those that are left, of which there is one at least
pub record Follows (k : Kind) (points left : List Rows) (r : Reach) : Type 0 where
  pub first : Rows
  pub rest : List Rows
  pub split : points ≡ left ++ first ∷ rest
  pub gathered : Gathered k (first ∷ rest) (Some r)

-- the last point follows all others
pub last_follows : (k : Kind) (points before : List Rows) (last : Rows) (p : Point) (r : Reach) → points ≡ before ++ last ∷ [] → Answered k last.now (Some p)
    → ((k : Kind) (xs : List Fraction) → PointHolds k xs p → Reaches k xs [] r) → Follows k points before r
last_follows k points before last p r e a f = record {
  first = last;
  rest = [];
  split = e;
  gathered = ((a.0, tt), λ xs xss h. alone (λ yss. Reaches k xs yss r) h (λ held. f k xs (a.1 xs held)));
}

-- one point more of those that were left
pub further_follows : (k : Kind) (points left : List Rows) (rows : Rows) (p : Point) (r t : Reach) → Follows k points (left ++ rows ∷ []) r → Answered k rows.now (Some p) → Extends r p t → Follows k points left t
further_follows k points left rows p r t w a e = record {
  first = rows;
  rest = w.first ∷ w.rest;
  split = w.split ∙ append_assoc left (rows ∷ []) (w.first ∷ w.rest);
  gathered = (
    (a.0, w.gathered.0),
    λ xs xss h. let s = split h in from_first (λ yss. Reaches k xs yss t) (w.first ∷ w.rest) xss (omega arith) s.1 (λ ys yss held. e.holds k xs ys yss (a.1 xs s.0) (w.gathered.1 ys yss held)),
  );
}

-- none is left
pub all_follow : (k : Kind) (points left : List Rows) (r : Reach) → length left ≡ 0 → Follows k points left r → Gathered k points (Some r)
all_follow k points [] r e w = subst (λ (ps : List Rows). Gathered k ps (Some r)) (sym w.split) w.gathered
all_follow k points (x ∷ left) r e w = absurd (omega arith)

-- a point of those that were left, whose rows are not workable
workable_at : (k : Kind) (left rest : List Rows) (rows : Rows) → AllWorkable k (left ++ rows ∷ rest) → Workable k rows.now
workable_at k [] rest rows all = all.0
workable_at k (x ∷ left) rest rows all = workable_at k left rest rows all.1

pub not_all : (k : Kind) (points left : List Rows) (rows : Rows) (r : Reach) → Follows k points (left ++ rows ∷ []) r → (Workable k rows.now → ⊥) → AllWorkable k points → ⊥
not_all k points left rows r w f all = f (workable_at k left (w.first ∷ w.rest) rows (subst (AllWorkable k) (w.split ∙ append_assoc left (rows ∷ []) (w.first ∷ w.rest)) all))
