-- Student's t lies between the table's last and first entries: one test that antt computes, at all of them.
use Rattle.std.proofs.Common.{◌≡◌, ℕ, ◌-◌, ◌≤◌, Bool, true, ◌&&◌, leb, List, [], ◌∷◌, refl, arith}
use Rattle.std.proofs.lemmas.Bool.{and_parts, leb-true}
use Rattle.std.proofs.lemmas.List.Elements.{All-get_or}
use Rattle.std.proofs.lemmas.List.Sums.{AllPass-from_list_all}
use Rattle.point.specs.Points.{student}

abbrev entries : List ℕ
entries = 2776 ∷ 2571 ∷ 2447 ∷ 2365 ∷ 2306 ∷ 2262 ∷ 2228 ∷ 2201 ∷ 2179 ∷ 2160 ∷ 2145 ∷ 2131 ∷ 2120 ∷ 2110 ∷ 2101 ∷ 2093 ∷ []

abbrev within : ℕ → Bool
within t = leb 2093 t && leb t 2776

pub student_range : (n : ℕ) → 5 ≤ n → n ≤ 20 → (2093 ≤ student n) × (student n ≤ 2776)
student_range n h k =
    let all = AllPass-from_list_all within entries refl in
    let p = and_parts (leb 2093 (student n)) (leb (student n) 2776) (All-get_or (λ t. within t ≡ true) entries (n - 5) 0 (omega arith) all) in
    (leb-true 2093 (student n) p.0, leb-true (student n) 2776 p.1)
