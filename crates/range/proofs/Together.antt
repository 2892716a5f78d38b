-- Points taken together, from the last to the first.
use Rattle.std.proofs.Common.{◌≡◌, max, ◌≤◌, List, [], ◌∷◌, ◌++◌, length, reverse, ℤ, pos, nat_abs, ◌≤ℤ◌, sym, ap, subst, arith, length-append}
use Rattle.std.proofs.lemmas.List.{reverse-append}
use Rattle.exact.specs.Fractions.{Fraction}
use Rattle.exact.specs.Figures.{Figure}
use Rattle.exact.specs.Pairs.{Holds, steps}
use Rattle.exact.proofs.Pairs.{holds_ends}
use Rattle.exact.proofs.Quotients.{sized}
use Rattle.std.proofs.lemmas.Int.{ints}
use Rattle.pass.specs.Kinds.{Kind}
use Rattle.point.specs.Outcomes.{PointHolds}
use Rattle.point.specs.declared.figures.Point.{Point}
use Rattle.range.specs.declared.reach.Reach.{Reach}
use Rattle.range.specs.Gaps.{half_gap_low, half_gap_high}
use Rattle.range.proofs.Gaps.{level_gap_holds}
use Rattle.range.proofs.Greaters.{holds_greater, holds_greater_root}
use Rattle.range.specs.Reaches.{PointsHold, none, more, Reaches, Extends}

-- a pair that is not negative, by the sizes of its ends
pub holds_sizes : (l h : ℤ) {f : Figure} → pos 0 ≤ℤ l → l ≤ℤ h → Holds steps l h f → Holds steps (pos (nat_abs l)) (pos (nat_abs h)) f
holds_sizes l h o i k = holds_ends (sym (sized l o)) (sym (sized h (omega (arith, ints)))) k

-- a reach with these ends holds the figures of all
pub extends : (p : Point) (r t : Reach) → t.level ≡ p.level
    → t.of_mean.low ≡ max (nat_abs p.of_mean.low) r.of_mean.low → t.of_mean.high ≡ max (nat_abs p.of_mean.high) r.of_mean.high
    → t.random.low ≡ max (nat_abs p.random.low) r.random.low → t.random.high ≡ max (nat_abs p.random.high) r.random.high
    → t.neighbours.low ≡ max (half_gap_low p.level.low p.level.high r.level.low r.level.high) r.neighbours.low
    → t.neighbours.high ≡ max (half_gap_high p.level.low p.level.high r.level.low r.level.high) r.neighbours.high → Extends r p t
extends p r t l a b c d e f =
    record {
      holds = λ k xs ys yss h reach. record {
        level = rw l h.level;
        of_mean = rw (a, b) (holds_greater_root _ _ _ _ _ _ (holds_sizes _ _ p.least.1 p.of_mean.ordered h.of_mean) reach.of_mean);
        random = rw (c, d) (holds_greater_root _ _ _ _ _ _ (holds_sizes _ _ p.least.2 p.random.ordered h.random) reach.random);
        neighbours = rw (e, f) (holds_greater _ _ _ _ _ _ (level_gap_holds p.level r.level _ _ h.level reach.level) reach.neighbours);
      };
    }

-- what holds for each first point and those behind it
pub from_first : (P : List (List Fraction) → Type 0) (k : Kind) (ps : List Point) (xss : List (List Fraction)) → 1 ≤ length ps → PointsHold k ps xss
    → ((xs : List Fraction) (yss : List (List Fraction)) → PointsHold k ps (xs ∷ yss) → P (xs ∷ yss)) → P xss
from_first P k [] xss o h f = absurd (omega arith)
from_first P k (p ∷ ps) [] o h f = elim h [ ]
from_first P k (p ∷ ps) (xs ∷ xss) o h f = f xs xss h

-- one point and the rest, taken apart; one point alone
split : {k : Kind} {p : Point} {xs : List Fraction} {ps : List Point} {xss : List (List Fraction)} → PointsHold k (p ∷ ps) (xs ∷ xss) → PointHolds k xs p × PointsHold k ps xss
split (more h t) = (h, t)

alone : (P : List (List Fraction) → Type 0) {k : Kind} {p : Point} {xs : List Fraction} {xss : List (List Fraction)} → PointsHold k (p ∷ []) (xs ∷ xss) → (PointHolds k xs p → P []) → P xss
alone P (more h none) f = f h

-- The reach of the last point alone, and of one point more before others of which there is one at least. Points come in reverse.
abbrev pub ReachesFrom : Point → List Point → Reach → Type 0
ReachesFrom last ps r = (k : Kind) (xs : List Fraction) (xss : List (List Fraction)) → PointsHold k (reverse ps ++ last ∷ []) (xs ∷ xss) → Reaches k xs xss r

pub last_reach : (last : Point) (r : Reach) → ((k : Kind) (xs : List Fraction) → PointHolds k xs last → Reaches k xs [] r) → ReachesFrom last [] r
last_reach last r f k xs xss h = alone (λ yss. Reaches k xs yss r) h (f k xs)

pub further_reach : (last : Point) (ps : List Point) (p : Point) (r t : Reach) → ReachesFrom last ps r → Extends r p t → ReachesFrom last (ps ++ p ∷ []) t
further_reach last ps p r t f e k xs xss h =
    let s = split (subst (λ (qs : List Point). PointsHold k qs (xs ∷ xss)) (ap (λ (qs : List Point). qs ++ last ∷ []) (reverse-append ps (p ∷ []))) h) in
    from_first (λ yss. Reaches k xs yss t) k (reverse ps ++ last ∷ []) xss (omega (arith, length-append (reverse ps) (last ∷ []))) s.1 (λ ys yss rest. e.holds k xs ys yss s.0 (f k ys yss rest))
