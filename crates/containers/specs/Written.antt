-- A small writer of containers, bit by bit: any other payloads, then an object payload, then anything.
use Rattle.std.specs.Prelude.{ℕ, ◌-◌, ◌^◌, Bool, true, false, cond, List, [], ltb, length}
use Rattle.std.proofs.Math.Option.{Option, none, some}
use Rattle.writes.specs.Writes.{Bits, one, ◌⋯◌, ◌⊳◌, spread, variable}
use Rattle.standard.specs.Container.{object_id}

-- Numbers

-- of any size: none takes more than itself and one group
unfoldable pub variable_bits : ℕ → ℕ → Bits
variable_bits w v = variable w v v

unfoldable pub extended_bits : ℕ → ℕ → Bits
extended_bits w v = cond (ltb v (2 ^ w - 1)) (w ⊳ v) (w ⊳ (2 ^ w - 1) ⋯ variable_bits w (v - (2 ^ w - 1)))

-- a flag, and the number where one is given
unfoldable pub given_bits : (ℕ → Bits) → Option ℕ → Bits
given_bits f none = one false
given_bits f (some v) = one true ⋯ f v

-- All that a config can say

pub record Config : Type 0 where
  pub offset : Option ℕ
  pub reserved : Bool  -- the bit behind an offset
  pub duration : Option ℕ
  pub group : Option ℕ
  pub codec : Option ℕ
  pub discard_unknown : Bool
  pub aligned : Bool
  pub create_duplicate : Bool
  pub remove_duplicate : Bool
  pub priority : ℕ
  pub allowed : ℕ

unfoldable pub priority_bits : Config → Bits
priority_bits c = 5 ⊳ c.priority ⋯ 2 ⊳ c.allowed

unfoldable pub aligned_bits : Config → Bits
aligned_bits c = one true ⋯ one c.create_duplicate ⋯ one c.remove_duplicate ⋯ priority_bits c

-- of a payload with an offset, or without
unfoldable pub handling_bits : Option ℕ → Config → Bits
handling_bits (some v) c = priority_bits c
handling_bits none c = cond c.aligned (aligned_bits c) (one false)

unfoldable pub after_offset_bits : Option ℕ → Config → Bits
after_offset_bits offset c =
    given_bits (variable_bits 11) c.duration ⋯ given_bits (variable_bits 2) c.group ⋯ given_bits (λ v. 8 ⊳ v) c.codec
    ⋯ one c.discard_unknown ⋯ cond c.discard_unknown [] (handling_bits offset c)

unfoldable pub config_bits : Config → Bits
config_bits c = given_bits (λ v. 11 ⊳ v ⋯ one c.reserved) c.offset ⋯ after_offset_bits c.offset c

-- Payloads

pub record Payload : Type 0 where
  pub id : ℕ
  pub config : Config
  pub bytes : List ℕ

-- up to its bytes
unfoldable pub head_bits : Payload → Bits
head_bits p = extended_bits 5 p.id ⋯ config_bits p.config ⋯ variable_bits 8 (length p.bytes)

unfoldable pub body_bits : Payload → Bits
body_bits p = spread (λ b. 8 ⊳ b) p.bytes

unfoldable pub payload_bits : Payload → Bits
payload_bits p = head_bits p ⋯ body_bits p

abbrev pub object_payload : Config → List ℕ → Payload
object_payload c object = record { id = object_id; config = c; bytes = object }

-- version 0, a key id, the other payloads and the object payload; what lies behind is further payloads, protection, or nothing
unfoldable pub written : ℕ → List Payload → Config → List ℕ → Bits → Bits
written key others c object behind =
    extended_bits 2 0 ⋯ extended_bits 3 key ⋯ spread payload_bits others ⋯ payload_bits (object_payload c object) ⋯ behind

-- What computing opens

unfoldable pub computed : Unit {0}
unfolding variable_bits extended_bits given_bits priority_bits aligned_bits handling_bits after_offset_bits config_bits head_bits body_bits payload_bits written
computed = tt
