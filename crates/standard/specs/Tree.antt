-- What a payload says, with nothing of an earlier payload in it. A word stands with the bit place of its reading.
use Rattle.std.specs.Prelude.{ℕ, Bool, true, false, List, map, ℤ, pos}
use Rattle.std.proofs.Math.Option.{Option}
use Rattle.bits.specs.Parsed.{Placed}

pub data Kind : Type 0 where
  lfe bed isf dynamic : Kind

abbrev pub kind_code : Kind → ℕ
kind_code lfe = 0
kind_code bed = 1
kind_code isf = 2
kind_code dynamic = 3

-- as a row holds it
abbrev pub kind_number : Kind → ℤ
kind_number k = pos (kind_code k)

abbrev pub is_dynamic : Kind → Bool
is_dynamic lfe = false
is_dynamic bed = false
is_dynamic isf = false
is_dynamic dynamic = true

pub record Timing : Type 0 where
  pub start : ℕ
  pub ramp : ℕ

-- Three groups of a picture; its screen and its lock are numbers

pub record Point : Type 0 where
  pub x : ℤ
  pub y : ℤ
  pub z : ℤ

pub record Position : Type 0 where
  pub point : Point
  pub distance : ℤ

pub record Zone : Type 0 where
  pub zone : ℤ
  pub elevation : ℤ

pub record Size : Type 0 where
  pub width : ℤ
  pub depth : ℤ
  pub height : ℤ

-- What is said of an object in a block

pub data GainWord : Type 0 where
  level : ℤ → GainWord  -- in dB, or silence
  copied : GainWord  -- from the object before, in the same block

pub data PointWord : Type 0 where
  absolute : Point → PointWord
  moved : Point → PointWord  -- by these steps

pub record PositionWord : Type 0 where
  pub point : PointWord
  pub distance : ℤ

pub record Basic : Type 0 where
  pub gain : Option (Placed GainWord)
  pub priority : Option (Placed ℤ)

pub record Groups : Type 0 where
  pub position : Option (Placed PositionWord)
  pub zone : Option (Placed Zone)
  pub size : Option (Placed Size)
  pub screen : Option (Placed ℤ)
  pub lock : Placed ℤ

pub data Render : Type 0 where
  default : ℕ → Render  -- render status 0, read at this place
  kept : Render
  given : Groups → Render

pub data Update : Type 0 where
  inactive : ℕ → Update  -- by the flag at this place
  active : Basic → Render → Update

pub record Object : Type 0 where
  pub kind : Kind
  pub updates : List Update  -- by block

pub record Tree : Type 0 where
  pub timings : List Timing  -- by block
  pub objects : List Object

abbrev pub kinds_of : Tree → List Kind
kinds_of t = map (λ (o : Object). o.kind) t.objects
