use Rattle.std.proofs.Common.{◌≡◌, ℕ, ◌∙◌, Result, Err, Ok, None, Some, ◌≤◌, ◌*◌, length, refl, ap, arith}
use Rattle.std.proofs.lemmas.List.{length-map}
use Rattle.std.specs.Prelude.{Option}
use Rattle.std.specs.Option.{ok_or}
use Rattle.bits.specs.Parsed.{invalid}
use Rattle.bits.specs.Say.{refusal, ReadsAs}
use Rattle.bits.specs.declared.cursor.BitCursor.{BitCursor}
use Rattle.bits.specs.declared.refusals.Refusal.{Refusal}
use Rattle.standard.specs.Contexts as context
use Rattle.bits.proofs.Reading.{HandsOn, falls, stops, then, next, next_stops, done, done_as, refuses}
use Rattle.standard.specs.Numbers.{row_width, object_limit, start_length}
use Rattle.oamd.specs.Whole.{body_in, finish_in, present_in}
use Rattle.oamd.specs.Say.{said_found}
use Rattle.bits.proofs.Reading.{end_is}
use Rattle.oamd.proofs.Framing.{kept}
use Rattle.oamd.proofs.Starting.{rest_stays, from_starts}
use Rattle.oamd.proofs.payload.parse_body.Goals as goal

pub returns-in_err-alternate_data : goal.returns-in_err-alternate_data
unfolding body_in
returns-in_err-alternate_data c = record { reads = stops _ c.in_err-alternate_data.ensures.reads c.from_residual.ensures.1; start_rest = refl; kept = kept }

pub returns-in_err-count : goal.returns-in_err-count
unfolding body_in
returns-in_err-count c =
    record { reads = then _ c.in_ok-alternate_data.ensures.reads (stops _ c.in_err-count.ensures c.from_residual-in_err-count.ensures.1); start_rest = refl; kept = kept }

pub invariant_of-objects : goal.invariant_of-objects
unfolding row_width object_limit start_length
invariant_of-objects c =
    let k : length c.args.kinds.now * row_width ≤ length c.write_starts.new.start = omega (arith, c.requires.0, c.requires.1.for_start, c.write_starts.auto.start) in
    record { few = c.requires.0; its_start = k }

pub overflow_cast-result : goal.overflow_cast-result
unfolding object_limit
overflow_cast-result c = omega (arith, c.requires.0)

pub returns-in_err-parse_elements : goal.returns-in_err-parse_elements
unfolding body_in
returns-in_err-parse_elements c =
    record {
      reads = then _ c.in_ok-alternate_data.ensures.reads (then _ c.in_ok-count.ensures (stops _ (from_starts _ _ _ c.write_starts.ensures _ _ c.requires.1.nothing c.in_err-parse_elements.ensures) c.from_residual-in_err-parse_elements.ensures.1));
      start_rest = rest_stays _ _ _ c.write_starts.ensures c.requires.0 c.requires.1.for_start;
      kept = c.in_err-parse_elements.ensures.kept;
    }

pub returns-in_err-consume_zero_padding : goal.returns-in_err-consume_zero_padding
unfolding body_in finish_in
returns-in_err-consume_zero_padding c =
    record {
      reads = then _ c.in_ok-alternate_data.ensures.reads (then _ c.in_ok-count.ensures (then _ (from_starts _ _ _ c.write_starts.ensures _ _ c.requires.1.nothing c.in_ok-parse_elements.ensures) (next_stops _ c.in_err-consume_zero_padding.ensures.reads c.from_residual-in_err-consume_zero_padding.ensures.1)));
      start_rest = rest_stays _ _ _ c.write_starts.ensures c.requires.0 c.requires.1.for_start;
      kept = c.in_ok-parse_elements.ensures.kept;
    }

-- no object element was found: the refusal stands at the end
none_found : {say : ℕ → ℕ} {o : Option ℕ} (m : Refusal) {x : Refusal} {r : Result ℕ Refusal} {c : BitCursor} → o ≡ None → Err x ≡ ok_or {T = ℕ} o m → refusal m ≡ invalid context.missing-object-element c.limit.0 → HandsOn x r
    → ReadsAs say (present_in (said_found o)) c r c
unfolding present_in
none_found m {x} {r} n e is h = rw n (falls _ _ (λ s l p z i. i) r (then {say' = λ k. k} _ end_is (refuses {e = x} (ap refusal same ∙ is))) h)
  where
    same : x ≡ m
    same = cc

one_found : {o : Option ℕ} (m : ℕ) {c : BitCursor} → o ≡ Some m → ReadsAs (λ k. k) (present_in (said_found o)) c (Ok m) c
unfolding present_in
one_found m e = rw e done

pub returns-in_err-blocks : goal.returns-in_err-blocks
unfolding body_in finish_in
returns-in_err-blocks c =
    record {
      reads = then _ c.in_ok-alternate_data.ensures.reads (then _ c.in_ok-count.ensures (then _ (from_starts _ _ _ c.write_starts.ensures _ _ c.requires.1.nothing c.in_ok-parse_elements.ensures) (next c.in_ok-consume_zero_padding.ensures.reads
          (stops {say = λ k. k} _ {e = c.in_err-blocks.field-0.0} (none_found c.invalid-missing.result {r = Err _} c.in_err-blocks.ensures.ok_part c.in_err-blocks.ensures.value c.invalid-missing.ensures refl) c.from_residual-in_err-blocks.ensures.1))));
      start_rest = rest_stays _ _ _ c.write_starts.ensures c.requires.0 c.requires.1.for_start;
      kept = c.in_ok-parse_elements.ensures.kept;
    }

pub returns : goal.returns
unfolding body_in finish_in
returns c =
    record {
      reads = then _ c.in_ok-alternate_data.ensures.reads (then _ c.in_ok-count.ensures (then _ (from_starts _ _ _ c.write_starts.ensures _ _ c.requires.1.nothing c.in_ok-parse_elements.ensures) (next c.in_ok-consume_zero_padding.ensures.reads
          (then {say = λ k. k} _ (one_found _ c.in_ok-blocks.ensures.ok_part) (done_as (rw (length-map, ← c.write_starts.ensures) refl))))));
      start_rest = rest_stays _ _ _ c.write_starts.ensures c.requires.0 c.requires.1.for_start;
      kept = c.in_ok-parse_elements.ensures.kept;
    }
