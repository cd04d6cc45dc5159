-- Values of the specification, section 11, "Floats", computed.
use mathlib.Core.Path.{◌≡◌, refl}
use mathlib.Core.Bool.{false}
use mathlib.Core.List.{List, [], ◌∷◌, map}
use lib.ListN.{replicate}
use lib.IntN.{pos, negsuc}
use lib.Ieee.{Float, fin, binary32, div, of_int, to_bits}
use Rattle.standard.specs.Floats.{nought, one, minus_one, ratio}
use Rattle.standard.specs.Rows.{Row, default_picture}
use Rattle.standard.specs.Tree.{dynamic}
use Rattle.standard.specs.Meaning.{default_row}
use Rattle.standard.specs.Shown.{silent, decibels, Shown, shown_gain, shown, nothing_shown}

abbrev pub half : Float
half = fin false 1 (negsuc 0)

-- x and y are in 62nds, z is in 15ths, by one division: 31/62 is 1/2
pub middle : ratio (pos 31) 62 ≡ half
unfolding div of_int
middle = refl

-- 62/62 is 1
pub far : ratio (pos 62) 62 ≡ one
unfolding div of_int
far = refl

-- -5/15
pub third-below : to_bits binary32 (ratio (negsuc 4) 15) ≡ 0xbeaa_aaab
unfolding div of_int to_bits
third-below = refl

-- priority 32/32 is 1
pub highest-priority : ratio (pos 32) 32 ≡ one
unfolding div of_int
highest-priority = refl

-- a gain of -128 is silence, one of 15 is 15.0 dB
pub silence-shown : shown_gain (negsuc 127) ≡ silent
unfolding shown_gain
silence-shown = refl

pub fifteen-shown : shown_gain (pos 15) ≡ decibels (fin false 15 (pos 0))
unfolding shown_gain of_int
fifteen-shown = refl

-- an Lfe is at (-1, 1, -1), whatever its row says
pub lfe-shown : (r : Row) → r.kind ≡ pos 0 → ((shown r).x ≡ minus_one) × ((shown r).y ≡ one) × ((shown r).z ≡ minus_one)
unfolding shown
lfe-shown r e = (rw e, rw e, rw e)

-- what a refusal shows: +0 everywhere, and silence
abbrev floats : Shown → List Float
floats s = s.x ∷ s.y ∷ s.z ∷ s.width ∷ s.depth ∷ s.height ∷ s.priority ∷ []

pub nothing : (map (to_bits binary32) (floats nothing_shown) ≡ replicate 7 0) × (nothing_shown.gain ≡ silent)
unfolding nothing_shown to_bits
nothing = (refl, refl)

-- the default row: in the middle, of no size, priority 1, 0 dB
pub default-shown : shown (default_row (pos 0) dynamic)
    ≡ record { x = half; y = half; z = nought; width = nought; depth = nought; height = nought; priority = one; gain = decibels nought }
unfolding shown shown_gain default_row default_picture div of_int
default-shown = refl
