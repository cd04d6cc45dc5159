-- The specification, section 12, "Journal": its worked journal and small ones, printed by computation.
use Prim.Native.Nat.{ℕ}
use Prim.Native.String.{String}
use Prim.Native.Char.{code}
use mathlib.Core.Path.{◌≡◌, refl}
use mathlib.Core.List.{List, [], ◌∷◌}
use Rattle.standard.specs.Computed.{computed}
use Rattle.standard.specs.Journal.{payload, gap_notice, reset_notice, complete, printed}
use Rattle.standard.specs.JournalParts.{journal_of_parts}

-- Printed

-- a text as its bytes
abbrev pub ascii : String → List ℕ
ascii String.[] = []
ascii (String.◌∷◌ c s) = code c ∷ ascii s

abbrev pub Prints : List ℕ → String → Type 0
Prints s text = printed s ≡ ascii text

-- the journal of the specification
pub worked : Prints (0x47 ∷ 0x50 ∷ 0x50 ∷ 0x4c ∷ 0x00 ∷ 0x06 ∷ 0x01 ∷ 0x04 ∷ 0x48 ∷ 0x00 ∷ 0x06 ∷ 0x00 ∷ 0x50 ∷ 0x4c ∷ 0x00 ∷ 0x00 ∷ 0x50 ∷ 0x4c ∷ 0x00 ∷ [])
    "1 0 gap\n2 2 ok 1 1 1\n3 12 no 1 1 0 2\ntorn 16\n"
unfolding computed
worked = refl

pub empty : Prints [] "end 0\n"
unfolding computed
empty = refl

pub lone-byte : Prints (0x50 ∷ []) "torn 0\n"
unfolding computed
lone-byte = refl

pub unknown-mark : Prints (0x50 ∷ 0x47 ∷ []) "mark 0\n"
unfolding computed
unknown-mark = refl

pub gap-and-lone-byte : Prints (0x47 ∷ 0x50 ∷ 0x47 ∷ []) "1 0 gap\ntorn 2\n"
unfolding computed
gap-and-lone-byte = refl

pub torn-length : Prints (0x50 ∷ 0x4c ∷ 0x00 ∷ []) "torn 0\n"
unfolding computed
torn-length = refl

pub torn-payload : Prints (0x50 ∷ 0x4c ∷ 0x01 ∷ 0x00 ∷ 0x40 ∷ []) "torn 0\n"
unfolding computed
torn-payload = refl

-- all four marks, each before a payload at rest: in doubt from the reset on, until it is accepted, and not after a start
pub four-marks : Prints
    (0x50 ∷ 0x4c ∷ 0x00 ∷ 0x06 ∷ 0x01 ∷ 0x04 ∷ 0x48 ∷ 0x00 ∷ 0x06 ∷ 0x00 ∷ 0x52 ∷ 0x53 ∷ 0x50 ∷ 0x4c ∷ 0x00 ∷ 0x06 ∷ 0x01 ∷ 0x04 ∷ 0x48 ∷ 0x00 ∷ 0x06 ∷ 0x00 ∷ 0x47 ∷ 0x50 ∷ 0x50 ∷ 0x53 ∷ 0x50 ∷ 0x4c ∷ 0x00 ∷ 0x06 ∷ 0x01 ∷ 0x04 ∷ 0x48 ∷ 0x00 ∷ 0x06 ∷ 0x00 ∷ [])
    "1 0 ok 1 1 0\n2 10 reset\n3 12 ok 1 1 1\n4 22 gap\n5 24 start\n6 26 ok 1 1 0\nend 6\n"
unfolding computed
four-marks = refl

-- the mark of a start is not that of a payload, nor of a reset
pub start-alone : Prints (0x50 ∷ 0x53 ∷ []) "1 0 start\nend 1\n"
unfolding computed
start-alone = refl

-- In parts, divided within a mark and within a length: a gap, a payload of one byte, a reset
pub divided : journal_of_parts ((0x47 ∷ []) ∷ (0x50 ∷ 0x50 ∷ 0x4c ∷ 0x00 ∷ []) ∷ (0x01 ∷ 0x40 ∷ 0x52 ∷ 0x53 ∷ []) ∷ [])
    ≡ record {
      entries = record { what = gap_notice; offset = 0 } ∷ record { what = payload (0x40 ∷ []); offset = 2 } ∷ record { what = reset_notice; offset = 7 } ∷ [];
      ending = complete;
    }
unfolding computed
divided = refl
