-- Containers that were written, computed: their bytes.
use Prim.Native.Nat.{ℕ}
use mathlib.Core.Path.{◌≡◌, refl}
use mathlib.Core.Bool.{Bool, true, false}
use mathlib.Core.List.{List, [], ◌∷◌}
use mathlib.Core.Option.{none, some}
use Rattle.writes.specs.Writes.{packed}
use Rattle.writes.specs.Writes as writes
use Rattle.containers.specs.Written.{Config, Payload, written, computed}

abbrev object : List ℕ
object = 0xa5 ∷ 0x3c ∷ []

-- nothing is given that has a flag of its own
abbrev bare : Bool → Bool → ℕ → ℕ → Config
bare discard_unknown aligned priority allowed = record {
  offset = none;
  reserved = false;
  duration = none;
  group = none;
  codec = none;
  discard_unknown = discard_unknown;
  aligned = aligned;
  create_duplicate = true;
  remove_duplicate = false;
  priority = priority;
  allowed = allowed;
}

abbrev shortest : Config
shortest = bare true false 0 0

pub alone : packed (written 0 [] shortest object []) ≡ 0x02 ∷ 0xc2 ∷ 0x04 ∷ 0xa5 ∷ 0x3c ∷ []
unfolding computed writes.computed
alone = refl

-- every field that stands with an offset
abbrev timed : Payload
timed = record {
  id = 1;
  config = record {
    offset = some 5;
    reserved = true;
    duration = some 3000;
    group = some 6;
    codec = some 0x81;
    discard_unknown = false;
    aligned = false;
    create_duplicate = false;
    remove_duplicate = false;
    priority = 9;
    allowed = 2;
  };
  bytes = 9 ∷ [];
}

-- an extended id
abbrev in_frame : Payload
in_frame = record { id = 40; config = bare false true 31 1; bytes = 7 ∷ 7 ∷ [] }

abbrev empty : Payload
empty = record { id = 2; config = bare false false 0 0; bytes = [] }

pub among-others : packed (written 9 (timed ∷ in_frame ∷ empty ∷ []) shortest object [])
    ≡ 0x3a ∷ 0x06 ∷ 0x01 ∷ 0x70 ∷ 0x01 ∷ 0x77 ∷ 0x09 ∷ 0x98 ∷ 0x12 ∷ 0x60 ∷ 0x10 ∷ 0x4f ∷ 0xd2 ∷ 0x06 ∷ 0xfa ∷ 0x04 ∷ 0x07 ∷ 0x07 ∷ 0x10 ∷ 0x00 ∷ 0x05
    ∷ 0x84 ∷ 0x09 ∷ 0x4a ∷ 0x78 ∷ []
unfolding computed writes.computed
among-others = refl
