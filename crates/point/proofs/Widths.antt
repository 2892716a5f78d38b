-- How far apart the ends of S and S0 are, in whole numbers.
use Rattle.std.proofs.Common.{◌≡◌, ℕ, suc, ◌+◌, ◌-◌, ◌*◌, ◌<◌, ◌≤◌, List, [], ◌∷◌, length, sum_by, mul-le-mul_right, mul-le-mul, mul-le-mul_left, mul-pos, le_of_mul-le-mul_right, arith}
use native.Mathlib.Decide.{dec_le}
use native.Mathlib.Nat.{le_of_mul-le-mul_left}
use Rattle.std.specs.List.{AllByRecursion}
use Rattle.std.proofs.lemmas.List.Sums.{sum_by-cons}
use Rattle.pass.specs.Kinds.{Kind}
use Rattle.point.specs.declared.bounds.Bounds.{Bounds}
use Rattle.point.specs.declared.ends.Ends.{Ends}
use Rattle.point.specs.declared.scatter.Deviations.{Deviations}
use Rattle.point.specs.Levels.{raised}
use Rattle.point.specs.Rows.{Fits}
use Rattle.point.specs.Deviations.{nearest, farthest, nearest², farthest²}
use Rattle.point.proofs.Naturals.{square_mono, root_le, stretched}
use Rattle.point.proofs.Means.{level_range}

-- A deviation's greatest size is at most 601 above its least: 300 for the row, 301 for the mean.
reach : (a A p P : ℕ) → A ≤ a + 300 → P ≤ p + 301 → farthest a A p P ≤ nearest a A p P + 601
reach a A p P h k = omega arith

-- the inequality of one deviation, added up over the rows
pub all_stretched : (k s : ℕ) (kind : Kind) (es : List Ends) (p P : ℕ) → P ≤ p + 301 → AllByRecursion (Fits kind) es
    → (k * s) * sum_by (farthest² kind p P) es
    ≤ (k * (s + k)) * sum_by (nearest² kind p P) es + (s * (s + k)) * (length es * (601 * 601))
all_stretched k s kind [] p P h f = omega arith
all_stretched k s kind (e ∷ es) p P h f =
    let r = level_range kind e f.0 in
    let one = stretched k s (nearest (raised kind e.low) (raised kind e.high) p P) (farthest (raised kind e.low) (raised kind e.high) p P) 601 (reach (raised kind e.low) (raised kind e.high) p P r.5 h) in
    rw (sum_by-cons (farthest² kind p P) e es, sum_by-cons (nearest² kind p P) e es)
    (go (k * s) (k * (s + k)) (s * (s + k)) _ _ _ _ (length es) one (all_stretched k s kind es p P h f.1))
  where
    go : (u v w a A b B n : ℕ) → u * A ≤ v * a + w * (601 * 601) → u * B ≤ v * b + w * (n * (601 * 601)) → u * (A + B) ≤ v * (a + b) + w * (suc n * (601 * 601))
    go u v w a A b B n i j = omega arith

-- From here: n rows, D and E the sums of the least and of the greatest squares, scatter measured against x to X,
-- Q = x², R = X², P the divisor n − 1 or n·(n − 1), s one above the lower end, U = 10¹⁶.
-- The upper square follows from the lower one; e is what the divisor's ends cost, k what the rows' and the mean's cost.
core : (n P Q R k e s D E U : ℕ) → 0 < k → 0 < s → D * U ≤ (s * s) * (P * R) → (k * s) * E ≤ (k * (s + k)) * D + (s * (s + k)) * n
    → n * U ≤ (k * k) * (P * Q) → s * R ≤ (s + e) * Q → E * U ≤ ((s + k) * (s + k + e)) * (P * Q)
core n P Q R k e s D E U o z h1 h2 h3 h4 =
    let a : (k * s) * E * U ≤ ((k * (s + k)) * D + (s * (s + k)) * n) * U = mul-le-mul_right U h2 in
    let b : (k * (s + k)) * (D * U) ≤ (k * (s + k)) * ((s * s) * (P * R)) = mul-le-mul_left (k * (s + k)) h1 in
    let c : (s * (s + k)) * (n * U) ≤ (s * (s + k)) * ((k * k) * (P * Q)) = mul-le-mul_left (s * (s + k)) h3 in
    let d : (k * s * ((s + k) * P)) * (s * R) ≤ (k * s * ((s + k) * P)) * ((s + e) * Q) = mul-le-mul_left (k * s * ((s + k) * P)) h4 in
    le_of_mul-le-mul_left (end (k * s) (E * U) _ _ _ _ _ (go1 (k * s) E U a) (split (k * (s + k)) D (s * (s + k)) n U) b c (turn k s P R d) (sum k s e P Q)) (mul-pos o z)
  where
    go1 : {t : ℕ} (u E U : ℕ) → u * E * U ≤ t → u * (E * U) ≤ t
    go1 u E U h = omega arith

    split : (v D w n U : ℕ) → (v * D + w * n) * U ≡ v * (D * U) + w * (n * U)
    split v D w n U = omega arith

    turn : {t : ℕ} (k s P R : ℕ) → (k * s * ((s + k) * P)) * (s * R) ≤ t → (k * (s + k)) * ((s * s) * (P * R)) ≤ t
    turn k s P R h = omega arith

    sum : (k s e P Q : ℕ) → (k * s * ((s + k) * P)) * ((s + e) * Q) + (s * (s + k)) * ((k * k) * (P * Q)) ≡ (k * s) * (((s + k) * (s + k + e)) * (P * Q))
    sum k s e P Q = omega arith

    end : (u t a b c d f : ℕ) {g h : ℕ} → u * t ≤ a → a ≡ b + c → b ≤ d → c ≤ f → d ≤ g → g + f ≡ h → u * t ≤ h
    end u t a b c d f l e m n o p = omega arith

-- an upper end that is the least root of T/B stays at most r, where r² is not below it
root_most : (H r B T : ℕ) → T ≤ (r * r) * B → ((j : ℕ) → H ≡ j + 1 → (j * j) * B < T) → H ≤ r
root_most H r B T h f = elim (dec_le H r) [
  | yes k ↦ k
  | no k ↦ absurd (let j : H ≡ (H - 1) + 1 = omega arith in let m : r * r ≤ (H - 1) * (H - 1) = square_mono r (H - 1) (omega arith) in omega (arith, f (H - 1) j, mul-le-mul_right B m))
]

-- a lower end that the bound of D keeps below b
root_bound : (l b P R T : ℕ) → (l * l) * (P * R) ≤ T → T < (b * b) * (P * R) → l < b
root_bound l b P R T h k = elim (dec_le b l) [
  | yes i ↦ absurd (let m : (b * b) * (P * R) ≤ (l * l) * (P * R) = mul-le-mul_right (P * R) (square_mono b l i) in omega arith)
  | no i ↦ omega arith
]

-- the divisor's ends: X ≤ x + 301
against_cost : (s e x X b : ℕ) → 90000000 ≤ x → X ≤ x + 301 → s ≤ b → b * 603 ≤ e * 90000000 → s * (X * X) ≤ (s + e) * (x * x)
against_cost s e x X b o h i j =
    let a : s * (X * X) ≤ s * ((x + 301) * (x + 301)) = mul-le-mul_left s (square_mono X (x + 301) h) in
    let c : s * (602 * x + 90601) ≤ b * (602 * x + 90601) = mul-le-mul_right (602 * x + 90601) i in
    let d : (b * 603) * x ≤ (e * 90000000) * x = mul-le-mul_right x j in
    let f : (e * x) * 90000000 ≤ (e * x) * x = mul-le-mul_left (e * x) o in
    let g : b * 90601 ≤ b * x = mul-le-mul_left b (omega arith) in
    go s e x b (s * (X * X)) a c d f g
  where
    go : (s e x b t : ℕ) → t ≤ s * ((x + 301) * (x + 301)) → s * (602 * x + 90601) ≤ b * (602 * x + 90601) → (b * 603) * x ≤ (e * 90000000) * x → (e * x) * 90000000 ≤ (e * x) * x → b * 90601 ≤ b * x → t ≤ (s + e) * (x * x)
    go s e x b t a c d f g = omega arith

-- a square of what is at least 90,000,000
square_bottom : (x : ℕ) → 90000000 ≤ x → 8100000000000000 ≤ x * x
square_bottom x h = let q : 90000000 * 90000000 ≤ x * x = mul-le-mul h h in q

-- n·(n − 1) times a square, for n ≥ 5
mean_bottom : (n m Q : ℕ) → 4 ≤ m → 8100000000000000 ≤ Q → n * 32400000000000000 ≤ (n * m) * Q
mean_bottom n m Q o h =
    let a : 4 * 8100000000000000 ≤ m * Q = mul-le-mul o h in
    let b : n * (4 * 8100000000000000) ≤ n * (m * Q) = mul-le-mul_left n a in
    omega arith

-- The ends of a root over P·x², where the lower one is below b: they differ by at most w + 1.
root_narrow : (k e w b n P D E l H x X : ℕ) → 0 < k → 90000000 ≤ x → X ≤ x + 301
    → D * 10000000000000000 < (b * b) * (P * (X * X)) → (n * (601 * 601)) * 10000000000000000 ≤ (k * k) * (P * (x * x))
    → b * 603 ≤ e * 90000000 → ((s : ℕ) → (s + k) * (s + k + e) ≤ (s + w) * (s + w))
    → ((s : ℕ) → (k * s) * E ≤ (k * (s + k)) * D + (s * (s + k)) * (n * (601 * 601)))
    → (l * l) * (P * (X * X)) ≤ D * 10000000000000000 → D * 10000000000000000 < ((l + 1) * (l + 1)) * (P * (X * X))
    → ((j : ℕ) → H ≡ j + 1 → (j * j) * (P * (x * x)) < E * 10000000000000000) → (l < b) × (H ≤ l + 1 + w)
root_narrow k e w b n P D E l H x X o p h i j c q f u v g =
    let few : l < b = root_bound l b P (X * X) (D * 10000000000000000) u i in
    let cost = against_cost (l + 1) e x X b p h (omega arith) c in
    let top = core (n * (601 * 601)) P (x * x) (X * X) k e (l + 1) D E 10000000000000000 o (omega arith) (omega arith) (f (l + 1)) j cost in
    let wide = mul-le-mul_right (P * (x * x)) (q (l + 1)) in
    (few, root_most H (l + 1 + w) (P * (x * x)) (E * 10000000000000000) (omega arith) g)

-- S: the ends differ by at most 1,151
pub scatter_narrow : (d : Deviations) (r : Bounds)
    → (r.low * r.low) * ((d.passes - 1) * (d.divisor.high * d.divisor.high)) ≤ d.squares.low * 10000000000000000
    → d.squares.low * 10000000000000000 < ((r.low + 1) * (r.low + 1)) * ((d.passes - 1) * (d.divisor.high * d.divisor.high))
    → ((j : ℕ) → r.high ≡ j + 1 → (j * j) * ((d.passes - 1) * (d.divisor.low * d.divisor.low)) < d.squares.high * 10000000000000000)
    → (r.low < 40000000) × (r.high ≤ r.low + 1151)
scatter_narrow d r u v g =
    let a = mul-le-mul_left (d.passes - 1) (square_bottom d.divisor.low d.divisor.ranged.0) in
    let b = mul-le-mul_left (d.passes - 1) (square_bottom d.divisor.high (omega arith)) in
    let near = root_narrow 1000 300 1150 40000000 d.passes (d.passes - 1) d.squares.low d.squares.high r.low r.high d.divisor.low d.divisor.high
    (omega arith) d.divisor.ranged.0 d.divisor.narrow (omega arith) (omega arith) (omega arith) (λ s. omega arith) (d.narrow 1000) u v g in
    (near.0, omega (arith, near.1))

-- S0: the ends differ by at most 451
pub of_mean_narrow : (d : Deviations) (r : Bounds)
    → (r.low * r.low) * ((d.passes * (d.passes - 1)) * (d.divisor.high * d.divisor.high)) ≤ d.squares.low * 10000000000000000
    → d.squares.low * 10000000000000000 < ((r.low + 1) * (r.low + 1)) * ((d.passes * (d.passes - 1)) * (d.divisor.high * d.divisor.high))
    → ((j : ℕ) → r.high ≡ j + 1 → (j * j) * ((d.passes * (d.passes - 1)) * (d.divisor.low * d.divisor.low)) < d.squares.high * 10000000000000000)
    → (r.low < 14000000) × (r.high ≤ r.low + 451)
of_mean_narrow d r u v g =
    let a = mean_bottom d.passes (d.passes - 1) _ (omega arith) (square_bottom d.divisor.low d.divisor.ranged.0) in
    let b = mean_bottom d.passes (d.passes - 1) _ (omega arith) (square_bottom d.divisor.high (omega arith)) in
    let near = root_narrow 400 100 450 14000000 d.passes (d.passes * (d.passes - 1)) d.squares.low d.squares.high r.low r.high d.divisor.low d.divisor.high
    (omega arith) d.divisor.ranged.0 d.divisor.narrow (omega arith) (omega arith) (omega arith) (λ s. omega arith) (d.narrow 400) u v g in
    (near.0, omega (arith, near.1))

-- the ends of a root stay in order
pub root_ordered : (l H P x X D E : ℕ) → 0 < P → 90000000 ≤ x → x ≤ X → D ≤ E → (l * l) * (P * (X * X)) ≤ D * 10000000000000000 → E * 10000000000000000 ≤ (H * H) * (P * (x * x)) → l ≤ H
root_ordered l H P x X D E o p h d u v =
    let a : (H * H) * (P * (x * x)) ≤ (H * H) * (P * (X * X)) = mul-le-mul_left (H * H) (mul-le-mul_left P (square_mono x X h)) in
    let i : 0 < X = omega arith in
    let b : 0 < P * (X * X) = mul-pos o (mul-pos i i) in
    let c : (l * l) * (P * (X * X)) ≤ (H * H) * (P * (X * X)) = omega arith in
    root_le l H (le_of_mul-le-mul_right c b)
