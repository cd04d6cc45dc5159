-- What the C twins promise: the number that is returned, the answers that are written, and every lent list.
use Rattle.std.specs.Prelude.{ℕ, ◌≡◌, List, [], ◌∷◌, ltb, ℤ, Float}
use Rattle.std.specs.Float.Ieee.{lt}
use Rattle.standard.specs.Numbers.{accepted}
use Rattle.standard.specs.Floats.{nought, one}
use Rattle.standard.specs.Ramps.{Choice}
use Rattle.standard.specs.Shown.{Gain, silent, decibels, Shown}
use Rattle.standard.specs.Calls.{Answer, Done, Kept, RampAnswer, ShownAnswer}
use Rattle.standard.specs.CarriedCalls.{HoldAnswer, TimingAnswer, CarryAnswer}
use Rattle.timing.specs.Going.{going_in}

-- context, place, objects, blocks, unsettled, missing
abbrev pub answer_numbers : Answer → List ℕ
answer_numbers a = a.verdict.context ∷ a.verdict.place ∷ a.objects ∷ a.blocks ∷ a.unsettled ∷ a.verdict.missing ∷ []

pub record DecodeLeft (d : Done) (n : ℕ) (answer : List ℕ) (r s b : List ℤ) (t : List ℕ) : Type 0 where
  pub number : n ≡ d.answer.verdict.number
  pub answers : answer ≡ answer_numbers d.answer
  pub retained : r ≡ d.lent.retained
  pub start : s ≡ d.lent.start
  pub blocks : b ≡ d.lent.blocks
  pub timings : t ≡ d.lent.timings

-- of programme start, reset and gap
pub record KeptLeft (k : Kept) (n : ℕ) (l : List ℤ) : Type 0 where
  pub number : n ≡ k.number
  pub retained : l ≡ k.retained

-- of a frame without blocks
pub record HoldLeft (a : HoldAnswer) (n m : ℕ) (s : List ℤ) : Type 0 where
  pub number : n ≡ a.number
  pub objects : m ≡ a.objects
  pub start : s ≡ a.start

-- the three numbers of what is carried, after the timing test by a rule
pub record TimingLeft (a : TimingAnswer) (n : ℕ) (s : List ℕ) : Type 0 where
  pub number : n ≡ a.number
  pub state : going_in s ≡ a.going

-- and behind a frame, with the rows
pub record CarryLeft (a : CarryAnswer) (n : ℕ) (s : List ℕ) (l : List ℤ) : Type 0 where
  pub number : n ≡ a.number
  pub state : going_in s ≡ a.going
  pub carried : l ≡ a.carried

-- from, to, elapsed, duration
abbrev pub choice_numbers : Choice → List ℕ
choice_numbers c = c.from ∷ c.to ∷ c.elapsed ∷ c.duration ∷ []

pub record RampPut (a : RampAnswer) (n : ℕ) (answer : List ℕ) (f : Float) : Type 0 where
  pub number : n ≡ a.number
  pub answers : answer ≡ choice_numbers a.choice
  pub fraction : f ≡ a.fraction

-- where there is a ramp, its fraction is under 1 while elapsed is under the duration, and only then
pub record RampLeft (a : RampAnswer) (n : ℕ) (answer : List ℕ) (f : Float) : Type 0 where
  pub number : n ≡ a.number
  pub answers : answer ≡ choice_numbers a.choice
  pub fraction : f ≡ a.fraction
  pub below : n ≡ accepted → lt f one ≡ ltb a.choice.elapsed a.choice.duration

-- silence has no decibels, but a 0
abbrev pub decibels_of : Gain → Float
decibels_of silent = nought
decibels_of (decibels f) = f

-- 1 where a gain is silence
abbrev pub silence : Gain → ℕ
silence silent = 1
silence (decibels f) = 0

-- x, y, z, width, depth, height, priority, decibels
abbrev pub shown_floats : Shown → List Float
shown_floats s =
    s.x ∷ s.y ∷ s.z ∷ s.width ∷ s.depth ∷ s.height ∷ s.priority ∷ decibels_of s.gain ∷ []

pub record ShownLeft (a : ShownAnswer) (n : ℕ) (values : List Float) (s : ℕ) : Type 0 where
  pub number : n ≡ a.number
  pub floats : values ≡ shown_floats a.shown
  pub its_silence : s ≡ silence a.shown.gain
