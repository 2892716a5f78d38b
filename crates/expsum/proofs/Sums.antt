-- The sum of the terms in whole units is near the exact sum.
use Rattle.std.proofs.Common.{◌≡◌, ℕ, zero, suc, ◌+◌, ◌-◌, ◌*◌, ◌<◌, ◌≤◌, refl, sym, subst, mul-pos, zero-lt-suc, zero-add, lit<, arith}
use Rattle.exact.specs.Fractions.{Fraction, Same, nat, add, neg, mul, div}
use Rattle.exact.proofs.Worth.{worth_itself, worth_nat, worth_neg, worth_mul, worth_div, worth_same}
use Rattle.expsum.specs.Series.{power, factorial, term, series, e}
use Rattle.expsum.specs.Terms.{next_term_lem, Terms, first_terms, more_terms, terms}
use Rattle.expsum.proofs.Near.{Near, Close, near_same, close_same, near_step, close_wider, near_close, close_more, close_less, close_near}
use Rattle.expsum.proofs.Bounds.{next_under, halved, last_most, sized, odd_less}

factorial_positive : (k : ℕ) → 0 < factorial k
unfolding factorial
factorial_positive zero = lit< tt
factorial_positive (suc k) = mul-pos (factorial_positive k) (zero-lt-suc k)

-- a term from the one before, for an argument of either sign
term_next : (x : Fraction) (k : ℕ) → Same (div (mul (term x k) x) (nat (suc k))) (term x (suc k))
unfolding term power factorial
term_next x k =
    let f = factorial_positive k in
    let p = worth_itself (power x k) in
    worth_same (worth_div (zero-lt-suc k) (worth_mul (worth_div f p (worth_nat (factorial k))) (worth_itself x)) (worth_nat (suc k)))
    (worth_div (mul-pos f (zero-lt-suc k)) (worth_mul p (worth_itself x)) (worth_nat (factorial k * suc k))) (omega arith)

term_down : (x : Fraction) (k : ℕ) → Same (div (mul (term x k) (neg x)) (nat (suc k))) (neg (term x (suc k)))
unfolding term power factorial
term_down x k =
    let f = factorial_positive k in
    let p = worth_itself (power x k) in
    worth_same (worth_div (zero-lt-suc k) (worth_mul (worth_div f p (worth_nat (factorial k))) (worth_neg (worth_itself x))) (worth_nat (suc k)))
    (worth_neg (worth_div (mul-pos f (zero-lt-suc k)) (worth_mul p (worth_itself x)) (worth_nat (factorial k * suc k)))) (omega arith)

term_up : (x : Fraction) (k : ℕ) → Same (div (mul (neg (term x k)) (neg x)) (nat (suc k))) (term x (suc k))
unfolding term power factorial
term_up x k =
    let f = factorial_positive k in
    let p = worth_itself (power x k) in
    worth_same (worth_div (zero-lt-suc k) (worth_mul (worth_neg (worth_div f p (worth_nat (factorial k)))) (worth_neg (worth_itself x))) (worth_nat (suc k)))
    (worth_div (mul-pos f (zero-lt-suc k)) (worth_mul p (worth_itself x)) (worth_nat (factorial k * suc k))) (omega arith)

-- the next term is as near
near_room : (size t k : ℕ) → size ≤ 1500000000000 → t ≤ 1500000000000 → 2 ≤ k → (t + 20) * 4 + 20 * size + suc k * 1000000000000 ≤ 20 * (suc k * 1000000000000)
near_room size t k s l o = omega arith

near_next : (x y : Fraction) (size t k : ℕ) → size ≤ 1500000000000 → t ≤ 1500000000000 → 2 ≤ k → Near 20 t y → Near 4 size x → Near 20 (next_term_lem size (suc k) t) (div (mul y x) (nat (suc k)))
near_next x y size t k s l o h i =
    let u = next_under size (suc k) t (zero-lt-suc k) in
    near_step 20 (suc k) (next_term_lem size (suc k) t) (zero-lt-suc k) u.0 u.1 (near_room size t k s l o) h i

-- the terms 0 and 1
term_none : (x : Fraction) → Same (nat 1) (term x 0)
unfolding term power factorial
term_none x = worth_same (worth_nat 1) (worth_div (lit< tt) (worth_nat 1) (worth_nat 1)) (omega arith)

term_one : (x : Fraction) → Same x (term x 1)
unfolding term power factorial
term_one x =
    worth_same (worth_itself x) (worth_div (lit< tt) (worth_mul (worth_nat 1) (worth_itself x)) (worth_nat 1)) (omega arith)

one_near : Near 0 1000000000000 (nat 1)
one_near = record { top = 1; bottom = 1; worth = worth_nat 1; least = omega arith; most = omega arith }

-- the second term from the first
second_room : (size : ℕ) → size ≤ 1500000000000 → (size + 4) * 4 + 4 * size + 2 * 1000000000000 ≤ 20 * (2 * 1000000000000)
second_room size s = omega arith

second_near : (x y : Fraction) (size : ℕ) → size ≤ 1500000000000 → Near 4 size y → Near 4 size x → Near 20 (next_term_lem size 2 size) (div (mul y x) (nat 2))
second_near x y size s h i =
    let u = next_under size 2 size (lit< tt) in
    near_step 20 2 (next_term_lem size 2 size) (lit< tt) u.0 u.1 (second_room size s) h i

-- what holds after the terms 0 to n
pub record Summed (x : Fraction) (n d p m last : ℕ) : Type 0 where
  pub at_last : Near 20 last (term x n)
  pub sum : Close d p m (series x n)

-- for an argument that is not negative
rising_first : (x : Fraction) (size : ℕ) → size ≤ 1500000000000 → Near 4 size x → Summed x 2 40 (1000000000000 + size + next_term_lem size 2 size) 0 (next_term_lem size 2 size)
unfolding series
rising_first x size s n =
    let one = near_same (term_one x) n in
    let two = near_same (term_next x 1) (second_near x (term x 1) size s one n) in
    record { at_last = two; sum = close_wider (omega arith) (close_more (close_more (close_same (term_none x) (near_close one_near)) one) two) }

term_one_down : (x : Fraction) → Same (neg x) (neg (term x 1))
unfolding term power factorial
term_one_down x =
    worth_same (worth_neg (worth_itself x)) (worth_neg (worth_div (lit< tt) (worth_mul (worth_nat 1) (worth_itself x)) (worth_nat 1))) (omega arith)

falling_first : (x : Fraction) (size : ℕ) → size ≤ 1500000000000 → Near 4 size (neg x) → Summed x 2 40 (1000000000000 + next_term_lem size 2 size) size (next_term_lem size 2 size)
unfolding series
falling_first x size s n =
    let one = near_same (term_one_down x) n in
    let two = near_same (term_up x 1) (second_near (neg x) (neg (term x 1)) size s one n) in
    let three = close_wider (omega arith) (close_more (close_less (term x 1) (close_same (term_none x) (near_close one_near)) one) two) in
    record { at_last = two; sum = subst (λ (m : ℕ). Close 40 (1000000000000 + next_term_lem size 2 size) m (add (add (term x 0) (term x 1)) (term x 2))) (zero-add size) three }

-- two terms more
rising_more : {d p last : ℕ} (x : Fraction) (size n : ℕ) → size ≤ 1500000000000 → last ≤ 1500000000000 → 2 ≤ n → Near 4 size x → Summed x n d p 0 last
    → Summed x (suc (suc n)) (d + 20 + 20) (p + next_term_lem size (suc n) last + next_term_lem size (suc (suc n)) (next_term_lem size (suc n) last)) 0 (next_term_lem size (suc (suc n)) (next_term_lem size (suc n) last))
unfolding series
rising_more {d} {p} {last} x size n s l o h i =
    let fall : 2 * next_term_lem size (suc n) last ≤ last = halved size (suc n) last s (omega arith) in
    let one = near_same (term_next x n) (near_next x (term x n) size last n s l o i.at_last h) in
    let two = near_same (term_next x (suc n)) (near_next x (term x (suc n)) size (next_term_lem size (suc n) last) (suc n) s (omega arith) (omega arith) one h) in
    record { at_last = two; sum = close_more (close_more i.sum one) two }

falling_more : {d p m last : ℕ} (x : Fraction) (size n : ℕ) → size ≤ 1500000000000 → last ≤ 1500000000000 → 2 ≤ n → Near 4 size (neg x) → Summed x n d p m last
    → Summed x (suc (suc n)) (d + 20 + 20) (p + next_term_lem size (suc (suc n)) (next_term_lem size (suc n) last)) (m + next_term_lem size (suc n) last) (next_term_lem size (suc (suc n)) (next_term_lem size (suc n) last))
unfolding series
falling_more {d} {p} {m} {last} x size n s l o h i =
    let fall : 2 * next_term_lem size (suc n) last ≤ last = halved size (suc n) last s (omega arith) in
    let one = near_same (term_down x n) (near_next (neg x) (term x n) size last n s l o i.at_last h) in
    let two = near_same (term_up x (suc n)) (near_next (neg x) (neg (term x (suc n))) size (next_term_lem size (suc n) last) (suc n) s (omega arith) (omega arith) one h) in
    record { at_last = two; sum = close_more (close_less (term x (suc n)) i.sum one) two }

-- the same sum, written another way
summed_at : {x : Fraction} {n k d f p q m l : ℕ} → n ≡ k → d ≡ f → p ≡ q → Summed x n d p m l → Summed x k f q m l
summed_at {x} {n} {k} {d} {f} {p} {q} {m} {l} e g h s =
    subst (λ (z : ℕ). Summed x z f q m l) e (subst (λ (z : ℕ). Summed x n z q m l) g (subst (λ (z : ℕ). Summed x n d z m l) h s))

odd_place : (j : ℕ) → 2 * j + 3 ≡ suc (2 * j + 2)
odd_place j = omega arith

even_place : (j : ℕ) → 2 * j + 4 ≡ suc (suc (2 * j + 2))
even_place j = omega arith

-- the sum after the terms 0 to 2j + 2
abbrev Rising : Fraction → ℕ → ℕ → Terms → Type 0
Rising x size j s = Summed x (2 * j + 2) (40 * (j + 1)) (s.even + s.odd) 0 s.last

abbrev Falling : Fraction → ℕ → ℕ → Terms → Type 0
Falling x size j s = Summed x (2 * j + 2) (40 * (j + 1)) s.even s.odd s.last

rising_turn : (x : Fraction) (size j : ℕ) (s : Terms) → size ≤ 1500000000000 → s.last ≤ 1500000000000 → Near 4 size x → Rising x size j s → Rising x size (suc j) (more_terms size j s)
rising_turn x size j s small l n h =
    rw (odd_place j, even_place j) (summed_at (omega arith) (omega arith) (omega arith) (rising_more x size (2 * j + 2) small l (omega arith) n h))

falling_turn : (x : Fraction) (size j : ℕ) (s : Terms) → size ≤ 1500000000000 → s.last ≤ 1500000000000 → Near 4 size (neg x) → Falling x size j s → Falling x size (suc j) (more_terms size j s)
falling_turn x size j s small l n h =
    rw (odd_place j, even_place j) (summed_at (omega arith) (omega arith) refl (falling_more x size (2 * j + 2) small l (omega arith) n h))

terms_first : (size : ℕ) → terms size 0 ≡ first_terms size
unfolding terms
terms_first size = refl

terms_more : (size j : ℕ) → terms size (suc j) ≡ more_terms size j (terms size j)
unfolding terms
terms_more size j = refl

rising : (x : Fraction) (size j : ℕ) → size ≤ 1500000000000 → Near 4 size x → Rising x size j (terms size j)
rising x size zero s n =
    subst (λ (t : Terms). Rising x size 0 t) (sym (terms_first size)) (summed_at refl refl (omega arith) (rising_first x size s n))
rising x size (suc j) s n =
    subst (λ (t : Terms). Rising x size (suc j) t) (sym (terms_more size j)) (rising_turn x size j (terms size j) s (last_most size j (terms size j).last s refl) n (rising x size j s n))

falling : (x : Fraction) (size j : ℕ) → size ≤ 1500000000000 → Near 4 size (neg x) → Falling x size j (terms size j)
falling x size zero s n = subst (λ (t : Terms). Falling x size 0 t) (sym (terms_first size)) (falling_first x size s n)
falling x size (suc j) s n =
    subst (λ (t : Terms). Falling x size (suc j) t) (sym (terms_more size j)) (falling_turn x size j (terms size j) s (last_most size j (terms size j).last s refl) n (falling x size j s n))

-- e(x) for an argument that is not negative, and for one that is not positive: its two parts as far as the sum goes, and their difference
-- where that is well above 0
pub sum_rising : (x : Fraction) (size : ℕ) → size ≤ 1500000000000 → Near 4 size x → Near 400 ((terms size 9).even + (terms size 9).odd) (e x)
unfolding e
sum_rising x size s n =
    let z = sized size s in
    close_near ((terms size 9).even + (terms size 9).odd) (omega arith) (omega (arith, z.least, z.odd_least)) (rising x size 9 s n).sum

pub parts_falling : (x : Fraction) (size : ℕ) → size ≤ 1500000000000 → Near 4 size (neg x) → Close 400 (terms size 9).even (terms size 9).odd (e x)
unfolding e
parts_falling x size s n = (falling x size 9 s n).sum

pub sum_falling : (x : Fraction) (size : ℕ) → size ≤ 1050000000000 → Near 4 size (neg x) → Near 400 ((terms size 9).even - (terms size 9).odd) (e x)
sum_falling x size s n =
    let l = odd_less size s in
    close_near ((terms size 9).even - (terms size 9).odd) (omega arith) (omega arith) (parts_falling x size (omega arith) n)
