-- Reads of a container in a row: what the laws of `bits` lack.
use Rattle.std.proofs.Common.{◌≡◌, refl, sym, ◌∙◌, Result, Ok, Err}
use Rattle.std.specs.Result.{result_or}
use Rattle.bits.specs.Parsed.{Parser, Refusal, refused_as}
use Rattle.bits.specs.Say.{refusal, ReadsBy}
use Rattle.bits.specs.declared.refusals.Refusal.{Refusal as CodeRefusal}
use Rattle.bits.specs.declared.refusals.Fault.{Fault}
use Rattle.bits.specs.declared.refusals.Fault.TheVariants as faults
use Rattle.bits.specs.declared.cursor.BitCursor.{BitCursor}
use Rattle.standard.specs.Container.{or_ends_early}
use Rattle.emdf.specs.Say.{fault}

module _ {V A : Type 0} {say : V → A} {m : Parser A} {c c' : BitCursor} where
  -- of a read that is refused, that alone is told
  pub ends_early : (r : Result V CodeRefusal) {r' : Result V Fault} → r' ≡ result_or r (Err faults.EndsEarly) → ReadsBy say refusal m c r c' → ReadsBy say fault (or_ends_early m) c r' c'
  unfolding or_ends_early refused_as
  ends_early (Ok a) e h = rw e (record { answer = rw (← h.answer) refl; bytes = h.bytes; end = h.end })
  ends_early (Err x) e h = rw e (record { answer = rw (← h.answer) refl; bytes = h.bytes; end = h.end })

module _ {V A E : Type 0} {say : V → A} {why : E → Refusal} {m n : Parser A} {c c' : BitCursor} {r : Result V E} where
  -- two parsers that are the same here
  pub same_here : m c.payload.now c.limit.0 c.position.0 ≡ n c.payload.now c.limit.0 c.position.0 → ReadsBy say why n c r c' → ReadsBy say why m c r c'
  same_here e h = record { answer = h.answer ∙ sym e; bytes = h.bytes; end = h.end }

module _ {V E : Type 0} {why : E → Refusal} {m : Parser (Unit {0})} {c c' : BitCursor} where
  -- what was read is passed over
  pub no-value : {v : V} → ReadsBy (λ v. tt {0}) why m c (Ok v) c' → ReadsBy (λ u. u) why m c (Ok (tt {0})) c'
  no-value h = record { answer = h.answer; bytes = h.bytes; end = h.end }
