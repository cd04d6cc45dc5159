-- Room, size, and then what is found is tested, sought and copied.
use Rattle.std.proofs.Common.{◌≡◌, ℕ, ◌≤◌, ◌++◌, List, length, take, drop, Result, Ok, Err, arith}
use Rattle.std.proofs.lemmas.List.{length-take-le}
use Rattle.bits.specs.Faults.{fault_number, number_of}
use Rattle.bits.specs.declared.refusals.Fault.{Fault}
use Rattle.bits.proofs.Reading.{HandsOn, tells}
use Rattle.standard.specs.Calls.{Taken, over}
use Rattle.standard.specs.Numbers.{payload_limit, container_limit}
use Rattle.emdf.specs.Promises.{Left, length_of}
use Rattle.emdf.specs.Say.{bytes_from}
use Rattle.emdf.proofs.Answers.{short-buffer, too_long, not_found, too_large, cut_short, copied}
use Rattle.emdf.proofs.Bytes.{bytes-length}
use Rattle.emdf.proofs.Cuts.{pass-tells}
use Rattle.emdf.proofs.take.Goals as goal

pub returns-then-buffer-lt-PAYLOAD_LIMIT : goal.returns-then-buffer-lt-PAYLOAD_LIMIT
unfolding payload_limit
returns-then-buffer-lt-PAYLOAD_LIMIT c = short-buffer _ _ c.if-buffer-lt-PAYLOAD_LIMIT.true

pub returns-then-container-gt-CONTAINER_LIMIT : goal.returns-then-container-gt-CONTAINER_LIMIT
unfolding payload_limit container_limit
returns-then-container-gt-CONTAINER_LIMIT c = too_long _ _ c.if-buffer-lt-PAYLOAD_LIMIT.false c.if-container-gt-CONTAINER_LIMIT.true

pub find_object-requires : goal.find_object-requires
unfolding container_limit
find_object-requires c = rw (c.new-bits.ensures, c.bits-limit.ensures) (omega arith)

-- an error is handed on, and its number is told
refused : {t : Taken} {b : List ℕ} (e : Fault) (r : Result ℕ Fault) → HandsOn e r → Left t (fault_number e) 0 b → Left t (number_of r) (length_of r) b
refused e (Ok n) x h = absurd x
refused e (Err y) x h = rw x h

pub returns-in_err-size : goal.returns-in_err-size
unfolding payload_limit container_limit
returns-in_err-size c =
    refused _ _ c.from_residual.ensures.1
    (not_found _ _ c.if-buffer-lt-PAYLOAD_LIMIT.false c.if-container-gt-CONTAINER_LIMIT.false (rw (c.new-bits.ensures, c.bits-limit.ensures) at c.in_err-size.ensures.answer))

pub returns-then-too_large : goal.returns-then-too_large
unfolding payload_limit container_limit
returns-then-too_large c =
    too_large _ _ c.if-buffer-lt-PAYLOAD_LIMIT.false c.if-container-gt-CONTAINER_LIMIT.false (rw (c.new-bits.ensures, c.bits-limit.ensures) at c.in_ok-size.ensures.answer) (omega arith)

pub returns-in_err-skip : goal.returns-in_err-skip
unfolding payload_limit container_limit
returns-in_err-skip c =
    refused _ _ c.from_residual-in_err-skip.ensures.1
    (cut_short _ _ c.if-buffer-lt-PAYLOAD_LIMIT.false c.if-container-gt-CONTAINER_LIMIT.false (rw (c.new-bits.ensures, c.bits-limit.ensures) at c.in_ok-size.ensures.answer) (omega arith)
    (rw (c.in_ok-size.ensures.bytes, c.in_ok-size.ensures.end, c.new-bits.ensures, c.bits-limit.ensures) at c.in_err-skip.ensures.answer))

pub copy_bytes-requires : goal.copy_bytes-requires
unfolding payload_limit container_limit
copy_bytes-requires c =
    let t = rw (c.in_ok-size.ensures.end, c.new-bits.ensures, c.bits-limit.ensures) at (tells (pass-tells _) c.in_ok-skip.ensures) in
    rw (length-take-le c.in_ok-size.size c.args.buffer.now (omega arith)) (omega arith)

-- the bytes stand at the front of the buffer
at_front : (s b new : List ℕ) (p n : ℕ) → n ≤ length b → new ≡ bytes_from s p (length (take n b)) → new ++ drop n b ≡ over (bytes_from s p n) b
at_front s b new p n l h =
    let e : new ≡ bytes_from s p n = rw (length-take-le n b l) at h in
    rw (bytes-length s p n, e)

pub returns : goal.returns
unfolding payload_limit container_limit
returns c =
    let t = rw (c.in_ok-size.ensures.end, c.new-bits.ensures, c.bits-limit.ensures) at (tells (pass-tells _) c.in_ok-skip.ensures) in
    copied _ _ c.if-buffer-lt-PAYLOAD_LIMIT.false c.if-container-gt-CONTAINER_LIMIT.false (rw (c.new-bits.ensures, c.bits-limit.ensures) at c.in_ok-size.ensures.answer) (omega arith)
    (omega arith)
    (at_front _ _ _ _ _ (omega arith) c.copy_bytes.ensures)
