-- The pairs of the two provers: what they hold, where they lie and how wide they are. V is the certified volume, a and b the
-- temperature factors times 10¹⁰, S the bottom and c the top of the pressure factor.
use Rattle.std.specs.Prelude.{◌≡◌, ℕ, ◌+◌, ◌*◌, ◌<◌, ◌≤◌, true, ◌&&◌, ℤ, pos, ◌+ℤ◌, unsigned_abs}
use Rattle.std.proofs.Common.{sym, subst, arith, mul-le-mul, mul-le-mul_left, mul-le-mul_right, le_of_mul-le-mul_right, lit<, le→leb}
use Rattle.exact.specs.Fractions.{Fraction, whole}
use Rattle.exact.specs.Figures.{number}
use Rattle.exact.specs.Pairs.{Holds, floor, ceiling}
use Rattle.exact.proofs.Worth.{Worth, worth_nat, worth_div, worth_le, worth_same, worth_of}
use Rattle.exact.proofs.Pairs.{holds_same, holds_quotient}
use Rattle.exact.proofs.Quotients.{floor_under, ceil_over, floor_least, ceil_most, floor_ceil}
use Rattle.pass.specs.Ranges.{temperate, raised, pressed}
use Rattle.pass.specs.declared.readings.Record.{Record}
use Rattle.pass.proofs.Taken.{both, temperate_raised, pressed_natural}
use Rattle.vessel.specs.Vessels.{Good}
use Rattle.vessel.specs.Walls.{pipe_cts, compact_cts, cps, volume_of}
use Rattle.vessel.specs.Provers.{stretch, stiffness, strained, pipe_takes, pipe_volume, pipe_top, pipe_ends, pipe_answer, compact_takes, compact_volume, compact_top, compact_ends, compact_answer}
use Rattle.vessel.specs.declared.section.Section.{Section}
use Rattle.vessel.specs.declared.pipe.PipeProver.{PipeProver}
use Rattle.vessel.specs.declared.compact.CompactProver.{CompactProver}
use Rattle.vessel.specs.Factors.{pipe_worth, compact_worth, pressure_worth, volume_worth}

-- the factors lie near 1
pub stretch_least : (c τ : ℕ) → c ≤ 9000 → 9973000000 ≤ stretch c τ
stretch_least c τ h = omega arith

pub stretch_most : (c τ : ℕ) → c ≤ 9000 → τ ≤ 6000 → stretch c τ ≤ 10027000000
stretch_most c τ h k = let p : c * τ ≤ c * 6000 = mul-le-mul_left c k in omega arith

pub stiffness_least : (e s : ℕ) → 100000 ≤ e → 10 ≤ s → 20000000000 ≤ 20000 * e * s
stiffness_least e s h k = let p : 100000 * 10 ≤ e * s = mul-le-mul h k in omega arith

pub stiffness_most : (e s : ℕ) → e ≤ 250000 → s ≤ 500 → 20000 * e * s ≤ 2500000000000
stiffness_most e s h k = let p : e * s ≤ 250000 * 500 = mul-le-mul h k in omega arith

pub strain_most : (S p d : ℕ) → 20000000000 ≤ S → p ≤ 10000 → d ≤ 15000 → 10000 * (S + 19 * p * d) ≤ 11425 * S
strain_most S p d h k l = let q : p * d ≤ 10000 * 15000 = mul-le-mul k l in omega arith

-- the pipe prover's pair: V·a·c over 10⁷·S
pub pipe_least : (V a c S : ℕ) → 10000 ≤ V → 9973000000 ≤ a → S ≤ c → 9000000 * (10000000 * S) ≤ V * a * c
pipe_least V a c S h k l =
    let p : 10000 * 9973000000 ≤ V * a = mul-le-mul h k in
    let q : 10000 * 9973000000 * S ≤ V * a * c = mul-le-mul p l in
    omega arith

pub pipe_most : (V a c S : ℕ) → V ≤ 20000000 → a ≤ 10027000000 → 10000 * c ≤ 11425 * S → V * a * c ≤ 23000000000 * (10000000 * S)
pipe_most V a c S h k l =
    let p : V * a ≤ 20000000 * 10027000000 = mul-le-mul h k in
    let q : V * a * (10000 * c) ≤ 20000000 * 10027000000 * (11425 * S) = mul-le-mul p l in
    go (V * a) q
  where
    go : (x : ℕ) → x * (10000 * c) ≤ 20000000 * 10027000000 * (11425 * S) → x * c ≤ 23000000000 * (10000000 * S)
    go x q = omega arith

-- the compact prover's: x = V·a·b over 10¹¹, and then times c over 10⁶·S
pub product_least : (V a b : ℕ) → 10000 ≤ V → 9973000000 ≤ a → 9973000000 ≤ b → 9900000000000 * 100000000000 ≤ V * a * b
product_least V a b h k l = let p : 10000 * 9973000000 * 9973000000 ≤ V * a * b = mul-le-mul (mul-le-mul h k) l in omega arith

pub product_most : (V a b : ℕ) → V ≤ 20000000 → a ≤ 10027000000 → b ≤ 10027000000 → V * a * b ≤ 20110000000000000 * 100000000000
product_most V a b h k l = let p : V * a * b ≤ 20000000 * 10027000000 * 10027000000 = mul-le-mul (mul-le-mul h k) l in omega arith

pub compact_least : (q c S : ℕ) → 9900000000000 ≤ q → S ≤ c → 9000000 * (1000000 * S) ≤ q * c
compact_least q c S h k = let p : 9900000000000 * S ≤ q * c = mul-le-mul h k in omega arith

pub compact_most : (r c S : ℕ) → r ≤ 20110000000000000 → 10000 * c ≤ 11425 * S → r * c ≤ 23000000000 * (1000000 * S)
compact_most r c S h k = let p : r * (10000 * c) ≤ 20110000000000000 * (11425 * S) = mul-le-mul h k in omega arith

pub compact_narrow : (x c S : ℕ) → 20000000000 ≤ S → 10000 * c ≤ 11425 * S
    → ceiling (ceiling x 100000000000 * c) (1000000 * S) ≤ floor (floor x 100000000000 * c) (1000000 * S) + 2
compact_narrow x c S h k =
    let o : 0 < 1000000 * S = omega arith in
    let one = (floor_ceil x 100000000000 (lit< tt)).1 in
    let step : ceiling x 100000000000 * c ≤ (floor x 100000000000 + 1) * c = mul-le-mul_right c one in
    let near = (floor_under (floor x 100000000000 * c) (1000000 * S) o).1 in
    ceil_most (ceiling x 100000000000 * c) (1000000 * S) (floor (floor x 100000000000 * c) (1000000 * S) + 2) o
    (go (ceiling x 100000000000 * c) (floor x 100000000000) (floor (floor x 100000000000 * c) (1000000 * S)) step near)
  where
    go : (t q l : ℕ) → t ≤ (q + 1) * c → q * c < l * (1000000 * S) + 1000000 * S → t ≤ (l + 2) * (1000000 * S)
    go t q l step near = omega arith

-- a number worth x·c over 10¹¹·(10⁶·S), between the pair that is rounded twice
pub compact_holds : (v : Fraction) (x c S : ℕ) → 0 < S → Worth v (x * c) 0 (100000000000 * (1000000 * S))
    → Holds whole (pos (floor (floor x 100000000000 * c) (1000000 * S))) (pos (ceiling (ceiling x 100000000000 * c) (1000000 * S))) (number v)
compact_holds v x c S o w =
    let p : 0 < 1000000 * S = omega arith in
    record {
      least = worth_le (worth_nat (floor (floor x 100000000000 * c) (1000000 * S))) w
          (low (floor x 100000000000) (floor (floor x 100000000000 * c) (1000000 * S)) (mul-le-mul_right c (floor_under x 100000000000 (lit< tt)).0) (floor_under (floor x 100000000000 * c) (1000000 * S) p).0);
      most = worth_le w (worth_nat (ceiling (ceiling x 100000000000 * c) (1000000 * S)))
          (high (ceiling x 100000000000) (ceiling (ceiling x 100000000000 * c) (1000000 * S)) (mul-le-mul_right c (ceil_over x 100000000000 (lit< tt)).0) (ceil_over (ceiling x 100000000000 * c) (1000000 * S) p).0);
    }
  where
    low : (q l : ℕ) → q * 100000000000 * c ≤ x * c → l * (1000000 * S) ≤ q * c → l * (100000000000 * (1000000 * S)) + 0 * 1 ≤ x * c * 1 + 0 * (100000000000 * (1000000 * S))
    low q l a b = omega arith

    high : (r h : ℕ) → x * c ≤ r * 100000000000 * c → r * c ≤ h * (1000000 * S) → x * c * 1 + 0 * (100000000000 * (1000000 * S)) ≤ h * (100000000000 * (1000000 * S)) + 0 * 1
    high r h a b = omega arith

-- of a section: the bottom and the top of its pressure factor
pub section_stiff : (s : Section) → 20000000000 ≤ stiffness s
section_stiff s = stiffness_least s.modulus s.wall s.modulus_ranged.0 s.wall_ranged.0

pub section_stiff_most : (s : Section) → stiffness s ≤ 2500000000000
section_stiff_most s = stiffness_most s.modulus s.wall s.modulus_ranged.1 s.wall_ranged.1

pub section_strain : (s : Section) (p : ℕ) → p ≤ 10000 → 10000 * strained s p ≤ 11425 * stiffness s
section_strain s p h = strain_most (stiffness s) p s.bore (section_stiff s) h s.bore_ranged.1

-- the top of the pipe prover's volume over its bottom lies in the range of volumes
pub pipe_top_most : (v : PipeProver) (wall pressure : ℕ) → wall ≤ 6000 → pressure ≤ 10000 → pipe_top v wall pressure ≤ 23000000000 * (10000000 * stiffness v.section)
pipe_top_most v wall pressure h k =
    pipe_most v.section.volume (stretch (3 * v.expansion) wall) (strained v.section pressure) (stiffness v.section) v.section.volume_ranged.1
    (stretch_most (3 * v.expansion) wall (omega (arith, v.ranged)) h) (section_strain v.section pressure k)

pub pipe_top_least : (v : PipeProver) (wall pressure : ℕ) → 9000000 * (10000000 * stiffness v.section) ≤ pipe_top v wall pressure
pipe_top_least v wall pressure =
    pipe_least v.section.volume (stretch (3 * v.expansion) wall) (strained v.section pressure) (stiffness v.section) v.section.volume_ranged.0
    (stretch_least (3 * v.expansion) wall (omega (arith, v.ranged))) (omega arith)

pub pipe_ends_most : (v : PipeProver) (wall pressure : ℕ) → wall ≤ 6000 → pressure ≤ 10000 → ceiling (pipe_top v wall pressure) (10000000 * stiffness v.section) ≤ 23000000000
pipe_ends_most v wall pressure h k =
    let stiff = section_stiff v.section in
    ceil_most (pipe_top v wall pressure) (10000000 * stiffness v.section) 23000000000 (omega arith) (pipe_top_most v wall pressure h k)

-- what a pipe prover's pair owes at a temperature and a pressure in range
pub pipe_owes : (v : PipeProver) (t : ℤ) (wall pressure : ℕ) → t +ℤ pos 1000 ≡ pos wall → wall ≤ 6000 → pressure ≤ 10000
    → Good 200 (volume_of v.section.volume (pipe_cts v.expansion t) (cps v.section.bore v.section.wall v.section.modulus (pos pressure))) (pipe_ends v wall pressure)
unfolding pipe_ends
pipe_owes v t wall pressure e h k =
    let s = v.section in
    let stiff = section_stiff s in
    let bottom : 0 < 10000000 * stiffness v.section = omega arith in
    let least = floor_least (pipe_top v wall pressure) (10000000 * stiffness v.section) 9000000 bottom (pipe_top_least v wall pressure) in
    let most = pipe_ends_most v wall pressure h k in
    let one = (floor_ceil (pipe_top v wall pressure) (10000000 * stiffness v.section) bottom).1 in
    let worth = volume_worth s.volume (pipe_cts v.expansion t) (cps s.bore s.wall s.modulus (pos pressure)) (stretch (3 * v.expansion) wall) 10000000000 (strained s pressure) (stiffness s)
    (pipe_worth v.expansion wall t v.ranged e) (pressure_worth s.bore s.wall s.modulus pressure (omega (arith, s.wall_ranged.0)) (omega (arith, s.modulus_ranged.0))) in
    record {
      holds = holds_same (worth_same (worth_div bottom (worth_nat (pipe_top v wall pressure)) (worth_nat (10000000 * stiffness s))) worth (same s.volume (stretch (3 * v.expansion) wall) (strained s pressure) (stiffness s)))
          (holds_quotient (pipe_top v wall pressure) (10000000 * stiffness s) bottom);
      least = record { le = le→leb _ _ least };
      most = record { le = le→leb _ _ most };
      narrow = omega arith;
    }
  where
    same : (V a c S : ℕ) → V * a * c * 1 * (10000000000 * S) + 0 * (1 * (10000000 * S)) ≡ 1000 * V * a * c * (1 * (10000000 * S)) + 0 * 1 * (10000000000 * S)
    same V a c S = omega arith

-- what it owes of a record that it takes
pub pipe_good : (v : PipeProver) (r : Record) → pipe_takes v r ≡ true → Good 200 (pipe_volume v r) (pipe_answer v r)
pipe_good v r taken =
    let t = r.wall_temperature in
    let p = r.vessel_pressure in
    let fields = both (temperate t) (pressed p) taken in
    let warm = temperate_raised t fields.0 in
    let press = pressed_natural p fields.1 in
    subst (λ (z : ℤ). Good 200 (volume_of v.section.volume (pipe_cts v.expansion t) (cps v.section.bore v.section.wall v.section.modulus z)) (pipe_answer v r))
    (sym press.0) (pipe_owes v t (raised t) (unsigned_abs p) warm.0 warm.1 press.1)

-- the compact prover's: its product over 10¹¹, rounded, times the top of the pressure factor over the bottom
pub compact_low : (v : CompactProver) (wall rod : ℕ) → 9900000000000 ≤ floor (compact_top v wall rod) 100000000000
compact_low v wall rod =
    floor_least (compact_top v wall rod) 100000000000 9900000000000 (lit< tt)
    (product_least v.section.volume (stretch v.area_expansion wall) (stretch v.rod_expansion rod) v.section.volume_ranged.0
    (stretch_least v.area_expansion wall (omega (arith, v.ranged.0))) (stretch_least v.rod_expansion rod (omega (arith, v.ranged.1))))

pub compact_high : (v : CompactProver) (wall rod : ℕ) → wall ≤ 6000 → rod ≤ 6000 → ceiling (compact_top v wall rod) 100000000000 ≤ 20110000000000000
compact_high v wall rod h k =
    ceil_most (compact_top v wall rod) 100000000000 20110000000000000 (lit< tt)
    (product_most v.section.volume (stretch v.area_expansion wall) (stretch v.rod_expansion rod) v.section.volume_ranged.1
    (stretch_most v.area_expansion wall (omega (arith, v.ranged.0)) h) (stretch_most v.rod_expansion rod (omega (arith, v.ranged.1)) k))

-- a volume at no pressure, put under a pressure, lies in the range of volumes
pub under_most : (s : Section) (millionths pressure : ℕ) → millionths ≤ 20110000000000000 → pressure ≤ 10000 → ceiling (millionths * strained s pressure) (1000000 * stiffness s) ≤ 23000000000
under_most s millionths pressure h k =
    let stiff = section_stiff s in
    ceil_most (millionths * strained s pressure) (1000000 * stiffness s) 23000000000 (omega arith)
    (compact_most millionths (strained s pressure) (stiffness s) h (section_strain s pressure k))

-- what a compact prover's pair owes at temperatures and a pressure in range
pub compact_owes : (v : CompactProver) (t u : ℤ) (wall rod pressure : ℕ) → t +ℤ pos 1000 ≡ pos wall → u +ℤ pos 1000 ≡ pos rod → wall ≤ 6000 → rod ≤ 6000 → pressure ≤ 10000
    → Good 200 (volume_of v.section.volume (compact_cts v.area_expansion v.rod_expansion t u) (cps v.section.bore v.section.wall v.section.modulus (pos pressure))) (compact_ends v wall rod pressure)
unfolding compact_ends
compact_owes v t u wall rod pressure e f h j k =
    let s = v.section in
    let stiff = section_stiff s in
    let strain = section_strain s pressure k in
    let bottom : 0 < 1000000 * stiffness v.section = omega arith in
    let low = floor (compact_top v wall rod) 100000000000 in
    let high = ceiling (compact_top v wall rod) 100000000000 in
    let least = floor_least (floor (compact_top v wall rod) 100000000000 * strained v.section pressure) (1000000 * stiffness v.section) 9000000 bottom
    (compact_least low (strained s pressure) (stiffness s) (compact_low v wall rod) (omega arith)) in
    let most = under_most s high pressure (compact_high v wall rod h j) k in
    let two = compact_narrow (compact_top v wall rod) (strained v.section pressure) (stiffness v.section) stiff strain in
    let worth = volume_worth s.volume (compact_cts v.area_expansion v.rod_expansion t u) (cps s.bore s.wall s.modulus (pos pressure))
    (stretch v.area_expansion wall * stretch v.rod_expansion rod) 100000000000000000000 (strained s pressure) (stiffness s)
    (compact_worth v.area_expansion v.rod_expansion wall rod t u v.ranged.0 v.ranged.1 e f)
    (pressure_worth s.bore s.wall s.modulus pressure (omega (arith, s.wall_ranged.0)) (omega (arith, s.modulus_ranged.0))) in
    record {
      holds = compact_holds _ (compact_top v wall rod) (strained s pressure) (stiffness s) (omega arith)
          (worth_of worth (omega arith) (same s.volume (stretch v.area_expansion wall) (stretch v.rod_expansion rod) (strained s pressure) (stiffness s)));
      least = record { le = le→leb _ _ least };
      most = record { le = le→leb _ _ most };
      narrow = omega arith;
    }
  where
    same : (V a b c S : ℕ) → 1000 * V * (a * b) * c * (100000000000 * (1000000 * S)) + 0 * (100000000000000000000 * S) ≡ V * a * b * c * (100000000000000000000 * S) + 0 * (100000000000 * (1000000 * S))
    same V a b c S = omega arith

-- what it owes of a record that it takes
pub compact_good : (v : CompactProver) (r : Record) → compact_takes v r ≡ true → Good 200 (compact_volume v r) (compact_answer v r)
compact_good v r taken =
    let t = r.wall_temperature in
    let p = r.vessel_pressure in
    let u = r.rod_temperature in
    let fields = both (temperate t) (pressed p && temperate u) taken in
    let rest = both (pressed p) (temperate u) fields.1 in
    let warm = temperate_raised t fields.0 in
    let press = pressed_natural p rest.0 in
    let rod = temperate_raised u rest.1 in
    subst (λ (z : ℤ). Good 200 (volume_of v.section.volume (compact_cts v.area_expansion v.rod_expansion t u) (cps v.section.bore v.section.wall v.section.modulus z)) (compact_answer v r))
    (sym press.0) (compact_owes v t u (raised t) (raised u) (unsigned_abs p) warm.0 rod.0 warm.1 rod.1 press.1)

pub compact_ordered : (v : CompactProver) (wall rod pressure : ℕ) → floor (floor (compact_top v wall rod) 100000000000 * strained v.section pressure) (1000000 * stiffness v.section)
    ≤ ceiling (ceiling (compact_top v wall rod) 100000000000 * strained v.section pressure) (1000000 * stiffness v.section)
compact_ordered v wall rod pressure =
    let stiff = section_stiff v.section in
    let more = mul-le-mul_right (strained v.section pressure) (floor_ceil (compact_top v wall rod) 100000000000 (lit< tt)).0 in
    rounded (floor (compact_top v wall rod) 100000000000 * strained v.section pressure) (ceiling (compact_top v wall rod) 100000000000 * strained v.section pressure) (1000000 * stiffness v.section) (omega arith) more
  where
    rounded : (x y d : ℕ) → 0 < d → x ≤ y → floor x d ≤ ceiling y d
    rounded x y d o h =
        let f = (floor_under x d o).0 in
        let g = (ceil_over y d o).0 in
        let l : floor x d * d ≤ ceiling y d * d = omega arith in
        le_of_mul-le-mul_right l o
