use Rattle.std.proofs.Common.{ℕ, ◌≤◌, ◌<◌, List, length, refl, sym, ◌∙◌, take, Result, Err, Ok, arith}
use Rattle.std.proofs.lemmas.List.{length-take, length-take-le}
use Rattle.bits.proofs.Reading.{stops, then, next, next_stops, has}
use Rattle.bits.specs.Parsed.{Parser, Refusal, ◌>>=◌}
use Rattle.bits.specs.Say.{Reads, ReadsBy}
use Rattle.bits.proofs.ParsedLaws.{then-then}
use Rattle.bits.specs.declared.cursor.BitCursor.{BitCursor}
use Rattle.rows.specs.declared.row.Kind.{Kind}
use Rattle.standard.specs.Numbers.{object_limit}
use Rattle.standard.specs.Assignment.{object_count, assignment}
use Rattle.standard.proofs.Counts.{count-form}
use Rattle.standard.specs.Tables.{state_of}
use Rattle.oamd.specs.Telling.{lending}
use Rattle.oamd.specs.Whole.{body_in, program_in, payload_in}
use Rattle.oamd.proofs.Framing.{kept}
use Rattle.oamd.proofs.payload.parse_payload.Goals as goal

counted : {c c' : BitCursor} {n : ℕ} → Reads object_count c (Ok n) c' → (0 < n) × (n ≤ 128)
unfolding object_limit
counted h = has count-form h

pub returns-in_err-read_version : goal.returns-in_err-read_version
unfolding payload_in
returns-in_err-read_version c = record { reads = next_stops _ c.in_err-read_version.ensures.reads c.from_residual.ensures.1; start_rest = refl; kept = kept }

pub returns-in_err-object_count : goal.returns-in_err-object_count
unfolding payload_in
returns-in_err-object_count c =
    record { reads = next c.in_ok-read_version.ensures.reads (stops {say = λ k. k} _ (stops _ {r = Err _} c.in_err-object_count.ensures.reads refl) c.from_residual-in_err-object_count.ensures.1); start_rest = refl; kept = kept }

pub slice_bounds-kinds-end : goal.slice_bounds-kinds-end
slice_bounds-kinds-end c = (counted c.in_ok-object_count.ensures.reads).1

pub slice_bounds-parse_program-end : goal.slice_bounds-parse_program-end
slice_bounds-parse_program-end c = simp length-take (omega (arith, counted c.in_ok-object_count.ensures.reads))

pub parse_program-requires : goal.parse_program-requires
unfolding object_limit
parse_program-requires c =
    let n = counted c.in_ok-object_count.ensures.reads in
    ((simp length-take (omega (arith, n)), simp length-take (omega (arith, n))), c.requires)

-- readings in brackets
regrouped : {V A B D E : Type 0} {say : V → D} {why : E → Refusal} (m : Parser A) (f : A → Parser B) (g : B → Parser D) {c c' : BitCursor} {r : Result V E}
    → ReadsBy say why (m >>= λ a. f a >>= g) c r c' → ReadsBy say why (m >>= f >>= g) c r c'
unfolding ◌>>=◌
regrouped m f g {c} h =
    let s = c.payload.now in
    let e = c.limit.0 in
    record { answer = h.answer ∙ sym (then-then (m s e c.position.0) (λ a q. f a s e q) (λ b q. g b s e q)); bytes = h.bytes; end = h.end }

-- a part of n places has n
part_of : {V D E : Type 0} {say : V → D} {why : E → Refusal} (m : ℕ → Parser D) {c c' : BitCursor} {r : Result V E} (n : ℕ) (l : List Kind) → n ≤ length l → ReadsBy say why (m (length (take n l))) c r c' → ReadsBy say why (m n) c r c'
part_of m n l h g = rw (length-take-le n l h) at g

pub returns : goal.returns
unfolding payload_in program_in
returns c =
    let k = c.parse_program.ensures in
    record {
      reads = next c.in_ok-read_version.ensures.reads (regrouped _ _ _ (then {say = λ n. n} _ c.in_ok-object_count.ensures.reads (part_of (λ n. assignment n >>= body_in (state_of c.args.held.table.now) (lending c.args.start.now c.args.tables.now)) _ _ (omega (arith, counted c.in_ok-object_count.ensures.reads)) k.reads)));
      start_rest = k.start_rest;
      kept = k.kept;
    }
