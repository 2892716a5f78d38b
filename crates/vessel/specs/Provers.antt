-- The pipe prover and the compact prover: which records they take, their exact volumes and their pairs. Assumes nothing.
use Rattle.std.specs.Prelude.{◌≡◌, ℕ, ◌+◌, ◌-◌, ◌*◌, ◌<◌, Bool, cond, ◌&&◌, ℤ, pos, Ok, Err, Result, unsigned_abs}
use Rattle.exact.specs.Fractions.{Fraction}
use Rattle.exact.specs.Pairs.{floor, ceiling}
use Rattle.exact.specs.Ends.{Ends}
use Rattle.pass.specs.Ranges.{between, temperate, pressed, raised}
use Rattle.pass.specs.declared.readings.Record.{Record}
use Rattle.pass.specs.declared.denials.Field.{Field}
use Rattle.pass.specs.declared.denials.Field.TheVariants.{WallTemperature, VesselPressure, RodTemperature}
use Rattle.pass.specs.declared.denials.Denial.{Denial}
use Rattle.pass.specs.declared.denials.Denial.TheVariants.{Figure}
use Rattle.vessel.specs.Walls.{pipe_cts, compact_cts, cps, volume_of}
use Rattle.vessel.specs.declared.section.Section.{Section}
use Rattle.vessel.specs.declared.pipe.PipeProver.{PipeProver}
use Rattle.vessel.specs.declared.compact.CompactProver.{CompactProver}

-- The pipe prover uses fields 4 and 5, and takes a record exactly if they are in range.
abbrev pub pipe_takes : PipeProver → Record → Bool
pipe_takes v r = temperate r.wall_temperature && pressed r.vessel_pressure

abbrev pub pipe_fault : PipeProver → Record → Field
pipe_fault v r = cond (temperate r.wall_temperature) VesselPressure WallTemperature

abbrev pub PipeAlike : Record → Record → Type 0
PipeAlike p q = (p.wall_temperature ≡ q.wall_temperature) × (p.vessel_pressure ≡ q.vessel_pressure)

-- its exact volume: 1000·V0·CTS·CPS
abbrev pub pipe_volume : PipeProver → Record → Fraction
pipe_volume v r = volume_of v.section.volume (pipe_cts v.expansion r.wall_temperature) (cps v.section.bore v.section.wall v.section.modulus r.vessel_pressure)

-- The compact prover uses fields 4 to 6, and takes a record exactly if they are in range.
abbrev pub compact_takes : CompactProver → Record → Bool
compact_takes v r = temperate r.wall_temperature && (pressed r.vessel_pressure && temperate r.rod_temperature)

abbrev pub compact_fault : CompactProver → Record → Field
compact_fault v r = cond (temperate r.wall_temperature) (cond (pressed r.vessel_pressure) RodTemperature VesselPressure) WallTemperature

abbrev pub CompactAlike : Record → Record → Type 0
CompactAlike p q = (p.wall_temperature ≡ q.wall_temperature) × (p.vessel_pressure ≡ q.vessel_pressure) × (p.rod_temperature ≡ q.rod_temperature)

-- its exact volume: 1000·V0·CTS·CPS
abbrev pub compact_volume : CompactProver → Record → Fraction
compact_volume v r = volume_of v.section.volume (compact_cts v.area_expansion v.rod_expansion r.wall_temperature r.rod_temperature) (cps v.section.bore v.section.wall v.section.modulus r.vessel_pressure)

-- The pairs, in whole numbers.
-- 10¹⁰·(1 + c(t − 20 °C)), c in 10⁻⁸ per °C and t raised
abbrev pub stretch : ℕ → ℕ → ℕ
stretch coefficient warm = 10000000000 + coefficient * warm - coefficient * 3000

-- the bottom and the top of CPS
abbrev pub stiffness : Section → ℕ
stiffness s = 20000 * s.modulus * s.wall

abbrev pub strained : Section → ℕ → ℕ
strained s pressure = stiffness s + 19 * pressure * s.bore

-- the pipe prover's pair, at a raised wall temperature and a pressure: one rounding at each end
abbrev pub pipe_top : PipeProver → ℕ → ℕ → ℕ
pipe_top v wall pressure = v.section.volume * stretch (3 * v.expansion) wall * strained v.section pressure

unfoldable pub pipe_ends : PipeProver → ℕ → ℕ → Ends
pipe_ends v wall pressure = record {
  low = pos (floor (pipe_top v wall pressure) (10000000 * stiffness v.section));
  high = pos (ceiling (pipe_top v wall pressure) (10000000 * stiffness v.section));
}

abbrev pub pipe_answer : PipeProver → Record → Ends
pipe_answer v r = pipe_ends v (raised r.wall_temperature) (unsigned_abs r.vessel_pressure)

-- the compact prover's: the volume at no pressure rounded to 10⁻⁶ µl, and then that at the pressure to 1 µl
abbrev pub compact_top : CompactProver → ℕ → ℕ → ℕ
compact_top v wall rod = v.section.volume * stretch v.area_expansion wall * stretch v.rod_expansion rod

unfoldable pub compact_ends : CompactProver → ℕ → ℕ → ℕ → Ends
compact_ends v wall rod pressure = record {
  low = pos (floor (floor (compact_top v wall rod) 100000000000 * strained v.section pressure) (1000000 * stiffness v.section));
  high = pos (ceiling (ceiling (compact_top v wall rod) 100000000000 * strained v.section pressure) (1000000 * stiffness v.section));
}

abbrev pub compact_answer : CompactProver → Record → Ends
compact_answer v r = compact_ends v (raised r.wall_temperature) (raised r.rod_temperature) (unsigned_abs r.vessel_pressure)

-- Opening. The place of the first figure out of range, in the order V0, D, s, E and then the coefficients, where `rest` is that among
-- the coefficients; 0 where all are in range.
abbrev pub section_place : ℕ → ℤ → ℤ → ℤ → ℤ → ℕ
section_place rest volume bore wall modulus =
    cond (between (pos 10000) (pos 20000000) volume) (cond (between (pos 100) (pos 15000) bore) (cond (between (pos 10) (pos 500) wall) (cond (between (pos 100000) (pos 250000) modulus) rest 4) 3) 2) 1

abbrev pub pipe_place : ℤ → ℤ → ℤ → ℤ → ℤ → ℕ
pipe_place volume bore wall modulus α = section_place (cond (between (pos 0) (pos 3000) α) 0 5) volume bore wall modulus

abbrev pub compact_place : ℤ → ℤ → ℤ → ℤ → ℤ → ℤ → ℕ
compact_place volume bore wall modulus αk αd = section_place (cond (between (pos 0) (pos 6000) αk) (cond (between (pos 0) (pos 3000) αd) 0 6) 5) volume bore wall modulus

-- a section has exactly these figures
pub record Figures (volume bore wall modulus : ℤ) (s : Section) : Type 0 where
  pub volume_is : volume ≡ pos s.volume
  pub bore_is : bore ≡ pos s.bore
  pub wall_is : wall ≡ pos s.wall
  pub modulus_is : modulus ≡ pos s.modulus

-- A section opens if its four figures are in range; otherwise, whatever the rest, the denial has the place of the first that is out of range.
abbrev pub SectionOpened : ℤ → ℤ → ℤ → ℤ → Result Section Denial → Type 0
SectionOpened volume bore wall modulus (Ok s) = ((rest : ℕ) → section_place rest volume bore wall modulus ≡ rest) × Figures volume bore wall modulus s
SectionOpened volume bore wall modulus (Err d) = (rest : ℕ) → (0 < section_place rest volume bore wall modulus) × (d ≡ Figure (section_place rest volume bore wall modulus))

-- A good certificate always opens, with exactly these figures; otherwise the denial has the place of the first that is out of range.
abbrev pub PipeOpened : ℤ → ℤ → ℤ → ℤ → ℤ → Result PipeProver Denial → Type 0
PipeOpened volume bore wall modulus α (Ok v) = (pipe_place volume bore wall modulus α ≡ 0) × Figures volume bore wall modulus v.section × (α ≡ pos v.expansion)
PipeOpened volume bore wall modulus α (Err d) = (0 < pipe_place volume bore wall modulus α) × (d ≡ Figure (pipe_place volume bore wall modulus α))

abbrev pub CompactOpened : ℤ → ℤ → ℤ → ℤ → ℤ → ℤ → Result CompactProver Denial → Type 0
CompactOpened volume bore wall modulus αk αd (Ok v) =
    (compact_place volume bore wall modulus αk αd ≡ 0) × Figures volume bore wall modulus v.section × (αk ≡ pos v.area_expansion) × (αd ≡ pos v.rod_expansion)
CompactOpened volume bore wall modulus αk αd (Err d) = (0 < compact_place volume bore wall modulus αk αd) × (d ≡ Figure (compact_place volume bore wall modulus αk αd))
