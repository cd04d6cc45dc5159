-- Cases of document 01, "Ramps": what the ramp call chooses at single samples.
use Prim.Native.Nat.{ℕ}
use mathlib.Core.Path.{◌≡◌, refl}
use mathlib.Core.List.{List, [], ◌∷◌}
use Rattle.standard.specs.Calls.{ramp_call}
use Rattle.standard.specs.Computed.{computed}

-- a block at 100 that lasts 50 samples, and one at 400 without a ramp
abbrev pub two_blocks : List ℕ
two_blocks = 100 ∷ 50 ∷ 400 ∷ 0 ∷ []

-- at this sample: from a row, to a row, elapsed, duration
abbrev pub Chooses : ℕ → ℕ → ℕ → ℕ → ℕ → Type 0
Chooses sample from to elapsed duration = (ramp_call two_blocks 2 sample).choice ≡ record { from = from; to = to; elapsed = elapsed; duration = duration }

-- before the first start the start row stands
pub before-the-first : Chooses 99 0 0 1 1
unfolding computed
before-the-first = refl

-- the ramp's first sample, and its last
pub first-sample : Chooses 100 0 1 0 50
unfolding computed
first-sample = refl

pub last-sample : Chooses 149 0 1 49 50
unfolding computed
last-sample = refl

-- then the block stands, up to the next start
pub ramp-over : Chooses 150 1 1 1 1
unfolding computed
ramp-over = refl

pub before-the-next : Chooses 399 1 1 1 1
unfolding computed
before-the-next = refl

-- a block without a ramp stands at once
pub no-ramp : Chooses 400 2 2 1 1
unfolding computed
no-ramp = refl
