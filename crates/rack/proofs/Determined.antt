-- Determinacy, of each twin's own `ensures`: two ends that meet it for one entry show the same number, answers and lists.
use Prim.Native.Nat.{ℕ}
use mathlib.Core.Path.{◌≡◌, sym, ◌∙◌}
use mathlib.Core.List.{List}
use lib.IntN.{ℤ}
use lib.Ieee.{Float}
use Rattle.standard.specs.Calls.{Lent, Done, Kept, RampAnswer, ShownAnswer, Taken}
use Rattle.standard.specs.CarriedCalls.{HoldAnswer, TimingAnswer, CarryAnswer}
use Rattle.bits.proofs.Determines.{Determines}
use Rattle.oamd.specs.Promises.{lent}
use Rattle.timing.specs.Going.{going_in}
use Rattle.rules.proofs.Determined.{drop-determined}
use Rattle.emdf.proofs.Determined.{taken_is}
use Rattle.rack.specs.Twins.{DecodeLeft, KeptLeft, HoldLeft, TimingLeft, CarryLeft, answer_numbers, RampLeft, choice_numbers, ShownLeft, shown_floats, silence}
use Rattle.rack.proofs.oamd_decode.Reads as decode
use Rattle.rack.proofs.oamd_start.Reads as start
use Rattle.rack.proofs.oamd_reset.Reads as reset
use Rattle.rack.proofs.oamd_gap.Reads as gap
use Rattle.rack.proofs.oamd_timing.Reads as timing
use Rattle.rack.proofs.oamd_ramp.Reads as ramp
use Rattle.rack.proofs.oamd_row.Reads as row
use Rattle.rack.proofs.oamd_shown.Reads as shown
use Rattle.rack.proofs.oamd_emdf.Reads as emdf
use Rattle.rack.proofs.oamd_hold.Reads as hold
use Rattle.rack.proofs.oamd_timing_by_rule.Reads as timing-by-rule
use Rattle.rack.proofs.oamd_ramp_by_rule.Reads as ramp-by-rule
use Rattle.rack.proofs.oamd_carry.Reads as carry
use Rattle.rack.proofs.oamd_drop.Reads as drop

-- Decode: the number, the six answers, and the four tables

pub record Decoding : Type 0 where
  pub number : ℕ
  pub answers : List ℕ
  pub tables : Lent

decoding-is : {d : Done} (e : Decoding) → DecodeLeft d e.number e.answers e.tables.retained e.tables.start e.tables.blocks e.tables.timings
    → e ≡ record { number = d.answer.verdict.number; answers = answer_numbers d.answer; tables = d.lent }
decoding-is e p =
    λ i. record {
      number = p.number i;
      answers = p.answers i;
      tables = lent (p.retained i) (p.start i) (p.blocks i) (p.timings i);
    }

pub oamd-decode-determined : Determines {Seen = Decoding} decode.Post
    (λ κs n s. record {
      number = n;
      answers = s.1.1.1.1.1.0.now;
      tables = lent s.1.0.now s.1.1.0.now s.1.1.1.0.now s.1.1.1.1.0.now;
    })
oamd-decode-determined κs a n n' s s' p q = decoding-is _ p ∙ sym (decoding-is _ q)

-- Programme start, reset and gap: the number and the table

kept-is : {k : Kept} (e : Kept) → KeptLeft k e.number e.retained → e ≡ k
kept-is e p = λ i. record { number = p.number i; retained = p.retained i }

pub oamd-start-determined : Determines {Seen = Kept} start.Post (λ κs n s. record { number = n; retained = s.0.now })
oamd-start-determined κs a n n' s s' p q = kept-is _ p ∙ sym (kept-is _ q)

pub oamd-reset-determined : Determines {Seen = Kept} reset.Post (λ κs n s. record { number = n; retained = s.0.now })
oamd-reset-determined κs a n n' s s' p q = kept-is _ p ∙ sym (kept-is _ q)

pub oamd-gap-determined : Determines {Seen = Kept} gap.Post (λ κs n s. record { number = n; retained = s.0.now })
oamd-gap-determined κs a n n' s s' p q = kept-is _ p ∙ sym (kept-is _ q)

-- Timing and row: the number

pub oamd-timing-determined : Determines timing.Post (λ κs n s. n)
oamd-timing-determined κs a n n' s s' p q = p ∙ sym q

pub oamd-row-determined : Determines row.Post (λ κs n s. n)
oamd-row-determined κs a n n' s s' p q = p ∙ sym q

-- Ramp: the number, the four answers, and the fraction

pub record Ramping : Type 0 where
  pub number : ℕ
  pub answers : List ℕ
  pub fraction : Float

ramping-is : {a : RampAnswer} (e : Ramping) → RampLeft a e.number e.answers e.fraction
    → e ≡ record { number = a.number; answers = choice_numbers a.choice; fraction = a.fraction }
ramping-is e p = λ i. record { number = p.number i; answers = p.answers i; fraction = p.fraction i }

pub oamd-ramp-determined : Determines {Seen = Ramping} ramp.Post
    (λ κs n s. record { number = n; answers = s.1.1.1.0.now; fraction = s.1.1.1.1.0.now })
oamd-ramp-determined κs a n n' s s' p q = ramping-is _ p ∙ sym (ramping-is _ q)

pub oamd-ramp-by-rule-determined : Determines {Seen = Ramping} ramp-by-rule.Post
    (λ κs n s. record { number = n; answers = s.1.1.1.1.1.0.now; fraction = s.1.1.1.1.1.1.0.now })
oamd-ramp-by-rule-determined κs a n n' s s' p q = ramping-is _ p ∙ sym (ramping-is _ q)

-- Hold, timing by rule, carry and drop

held-is : {h : HoldAnswer} (e : HoldAnswer) → HoldLeft h e.number e.objects e.start → e ≡ h
held-is e p = λ i. record { number = p.number i; objects = p.objects i; start = p.start i }

pub oamd-hold-determined : Determines {Seen = HoldAnswer} hold.Post (λ κs n s. record { number = n; objects = s.1.1.0.now; start = s.1.0.now })
oamd-hold-determined κs a n n' s s' p q = held-is _ p ∙ sym (held-is _ q)

timed-is : {t : TimingAnswer} {n : ℕ} {l : List ℕ} → TimingLeft t n l → record { number = n; going = going_in l } ≡ t
timed-is p = λ i. record { number = p.number i; going = p.state i }

pub oamd-timing-by-rule-determined : Determines {Seen = TimingAnswer} timing-by-rule.Post (λ κs n s. record { number = n; going = going_in s.1.1.1.1.1.1.0.now })
oamd-timing-by-rule-determined κs a n n' s s' p q = timed-is p ∙ sym (timed-is q)

carried_is : {t : CarryAnswer} {n : ℕ} {l : List ℕ} {r : List ℤ} → CarryLeft t n l r → record { number = n; going = going_in l; carried = r } ≡ t
carried_is p = λ i. record { number = p.number i; going = p.state i; carried = p.carried i }

pub oamd-carry-determined : Determines {Seen = CarryAnswer} carry.Post
    (λ κs n s. record { number = n; going = going_in s.1.1.1.1.1.1.1.0.now; carried = s.1.1.1.1.1.1.0.now })
oamd-carry-determined κs a n n' s s' p q = carried_is p ∙ sym (carried_is q)

pub oamd-drop-determined : Determines drop.Post (λ κs r s. going_in s.0.now)
oamd-drop-determined = drop-determined

-- Shown: the number, the eight floats, and the flag

pub record Showing : Type 0 where
  pub number : ℕ
  pub floats : List Float
  pub its_silence : ℕ

showing-is : {a : ShownAnswer} (e : Showing) → ShownLeft a e.number e.floats e.its_silence
    → e ≡ record { number = a.number; floats = shown_floats a.shown; its_silence = silence a.shown.gain }
showing-is e p = λ i. record { number = p.number i; floats = p.floats i; its_silence = p.its_silence i }

pub oamd-shown-determined : Determines {Seen = Showing} shown.Post
    (λ κs n s. record { number = n; floats = s.1.1.0.now; its_silence = s.1.1.1.0.now })
oamd-shown-determined κs a n n' s s' p q = showing-is _ p ∙ sym (showing-is _ q)

-- Containers: the number, the length and the buffer, as of the call itself

pub oamd-emdf-determined : Determines {Seen = Taken} emdf.Post (λ κs n s. record { number = n; length = s.1.1.0.now; buffer = s.1.0.now })
oamd-emdf-determined κs a n n' s s' p q = taken_is p ∙ sym (taken_is q)
