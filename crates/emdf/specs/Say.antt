-- What the answers of the code say, in the numbers of the definitions.
use denote.Param.Members.{Once}
use denote.Ref.{MutBor}
use Rattle.std.specs.Prelude.{ℕ, zero, suc, ◌+◌, min, List, [], ◌∷◌, Result}
use Rattle.std.specs.Fn.{FnOnceReturnsAtMut}
use Rattle.bits.specs.Bits.{field}
use Rattle.bits.specs.Faults.{fault_number}
use Rattle.bits.specs.Parsed.{Refusal, Parsed, Parser, map_parsed}
use Rattle.bits.specs.Say.{ReadsBy}
use Rattle.bits.specs.declared.refusals.Fault.{Fault}
use Rattle.bits.specs.declared.cursor.BitCursor.{BitCursor}
use Rattle.standard.specs.Numbers.{alone}
use Rattle.standard.specs.Container as paper
use Rattle.emdf.specs.declared.payloads.Header.{Header}

abbrev pub fault : Fault → Refusal
fault f = alone (fault_number f)

module _ {A : Type 0} where
  -- a read of a container
  abbrev pub ReadsContainer : Parser A → BitCursor → Result A Fault → BitCursor → Type 0
  ReadsContainer m c r c' = ReadsBy (λ a. a) fault m c r c'

module _ {F V : Type 0} where
  -- a call of f passes over what m does
  abbrev pub Skips : Once F (MutBor BitCursor × Unit {0}) (Result V Fault × (MutBor BitCursor × Unit {0})) → F → Parser (Unit {0}) → Type 0
  Skips g f m = (c c' : BitCursor) (r : Result V Fault) → FnOnceReturnsAtMut g f c r c' → ReadsBy (λ v. tt) fault m c r c'

-- above every limit: larger numbers are read as this one
abbrev pub large : ℕ
large = 131072

abbrev pub near : Parsed ℕ → Parsed ℕ
near m = map_parsed (λ n. min n large) m

abbrev pub nearly : Parser ℕ → Parser ℕ
nearly m = λ s e p. near (m s e p)

abbrev pub near_header : paper.Header → paper.Header
near_header h = record { id = min h.id large; size = min h.size large }

abbrev pub said_header : Header → paper.Header
said_header h = record { id = h.id; size = h.size }

-- n bytes from bit place p on
unfoldable pub bytes_from : List ℕ → ℕ → ℕ → List ℕ
bytes_from s p zero = []
bytes_from s p (suc n) = field s p 8 ∷ bytes_from s (p + 8) n
