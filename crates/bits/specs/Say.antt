-- What each answer of the code says, in the numbers of the definitions.
use Rattle.std.specs.Prelude.{ℕ, ◌≡◌, Result, Ok, Err}
use Rattle.bits.specs.Parsed as paper
use Rattle.bits.specs.Parsed.{Parsed, Parser, got, refused}
use Rattle.bits.specs.declared.refusals.Cause.{Cause}
use Rattle.bits.specs.declared.refusals.Cause.TheVariants as cause
use Rattle.bits.specs.declared.refusals.Refusal.{Refusal}
use Rattle.bits.specs.declared.cursor.BitCursor.{BitCursor}

-- the specification, section 4, "Numbers given back"
abbrev pub cause_number : Cause → ℕ
cause_number cause.Truncated = 1
cause_number cause.Invalid = 2
cause_number cause.Limit = 3
cause_number cause.Unsupported = 4

abbrev pub refusal : Refusal → paper.Refusal
refusal r = record { number = cause_number r.cause; context = r.context; place = r.place.0; missing = r.missing }

-- What m gives at a cursor is the answer, as `say` and `why` tell it, with the place where the cursor then stands; its bytes and its end stay.
module _ {V A E : Type 0} where
  abbrev pub said_by : (V → A) → (E → paper.Refusal) → Result V E → ℕ → Parsed A
  said_by say why (Ok v) p = got (say v) p
  said_by say why (Err e) p = refused (why e)

  pub record ReadsBy (say : V → A) (why : E → paper.Refusal) (m : Parser A) (c : BitCursor) (r : Result V E) (c' : BitCursor) : Type 0 where
    pub answer : said_by say why r c'.position.0 ≡ m c.payload.now c.limit.0 c.position.0
    pub bytes : c'.payload ≡ c.payload
    pub end : c'.limit ≡ c.limit

module _ {V A : Type 0} where
  -- a payload's refusal
  abbrev pub ReadsAs : (V → A) → Parser A → BitCursor → Result V Refusal → BitCursor → Type 0
  ReadsAs say m c r c' = ReadsBy say refusal m c r c'

module _ {A : Type 0} where
  -- the value as it is
  abbrev pub Reads : Parser A → BitCursor → Result A Refusal → BitCursor → Type 0
  Reads m c r c' = ReadsBy (λ a. a) refusal m c r c'
