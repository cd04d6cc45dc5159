-- What decode and hold promise: a field for each answer, for decode's case of it, and for each lent list that is left.
use Rattle.std.specs.Prelude.{ℕ, ◌≤◌, ◌≡◌, List, ℤ, Result, Ok, Err}
use Rattle.bits.specs.Say as bits
use Rattle.bits.specs.Faults.{fault_number, number_of}
use Rattle.bits.specs.declared.refusals.Fault.{Fault}
use Rattle.standard.specs.Numbers.{accepted, size, alone}
use Rattle.standard.specs.Calls.{Lent, Answer, Done, refusal}
use Rattle.standard.specs.CarriedCalls.{HoldAnswer}
use Rattle.oamd.specs.declared.decoder.Frame.{Frame}
use Rattle.oamd.specs.declared.decoder.DecodeError.{DecodeError}
use Rattle.oamd.specs.declared.decoder.DecodeError.TheVariants.{Refused, Unread}

abbrev pub lent : List ℤ → List ℤ → List ℤ → List ℕ → Lent
lent r s b t = record { retained = r; start = s; blocks = b; timings = t }

-- the paper's numbers of each case
abbrev pub said_decoded : Result Frame DecodeError → Answer
said_decoded (Ok f) =
    record { verdict = alone accepted; objects = f.objects; blocks = f.blocks; unsettled = f.unsettled }
said_decoded (Err (Refused r)) = refusal (bits.refusal r)
said_decoded (Err (Unread f)) = refusal (alone (fault_number f))

-- 5 to 7 leave the payload unread; that 1 to 4 refuse what was read, the types say
abbrev pub InCase : Result Frame DecodeError → Type 0
InCase (Ok f) = Unit {0}
InCase (Err (Refused r)) = Unit {0}
InCase (Err (Unread f)) = fault_number f ≤ size

pub record Left (d : Done) (a : Result Frame DecodeError) (r s b : List ℤ) (t : List ℕ) : Type 0 where
  pub answer : said_decoded a ≡ d.answer
  pub its_case : InCase a
  pub retained : r ≡ d.lent.retained
  pub start : s ≡ d.lent.start
  pub blocks : b ≡ d.lent.blocks
  pub timings : t ≡ d.lent.timings

-- how many objects are held
abbrev pub objects_of : Result ℕ Fault → ℕ
objects_of (Ok n) = n
objects_of (Err f) = 0

pub record HoldLeft (a : HoldAnswer) (r : Result ℕ Fault) (s : List ℤ) : Type 0 where
  pub number : number_of r ≡ a.number
  pub objects : objects_of r ≡ a.objects
  pub start : s ≡ a.start
