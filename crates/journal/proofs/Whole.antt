-- What was played is what the definitions print of all that has arrived, where that is fewer than 2^64 bytes.
use Rattle.std.proofs.Common.{◌≡◌, ℕ, ◌^◌, ◌<◌, List, ◌++◌, length, take, Result, ap, ◌∙◌}
use Rattle.std.specs.declared.io.Error.{Error}
use Rattle.standard.specs.Journal.{printed}
use Rattle.journals.specs.Texts.{ending_text, fault_line}
use Rattle.journals.specs.Runs.{Standing, left_over}
use Rattle.journals.proofs.Running.{closing, so_far, all_but_last, prints-journal}
use Rattle.journal.specs.Steps.{Played, on, over, faulted, failed}

-- where the run is not over, the beginning of that; at a fault of the input, all but the last line
abbrev Prints : {r : Result (Unit {0}) Error} {p : Standing} {waits : List ℕ} → Played r p waits → Type 0
Prints {waits = w} (on {s} handed f a n b h) = (t : List ℕ) → length s < 2 ^ 64 → take (length (handed ++ w)) (printed (s ++ t)) ≡ handed ++ w
Prints {waits = w} (over {s} {unread} handed f a b c h l k) = length s < 2 ^ 64 → handed ++ w ≡ printed (s ++ unread)
Prints {waits = w} (faulted {s} {text} {q = q} handed f a b c h l k) =
    (handed ++ w ≡ text ++ fault_line q.offset) × (length s < 2 ^ 64 → printed s ≡ text ++ ending_text q.records (left_over q.offset q.unused))
Prints (failed f) = Unit {0}

pub prints : {r : Result (Unit {0}) Error} {p : Standing} {waits : List ℕ} (x : Played r p waits) → Prints x
prints (on handed f a n fed h) = λ t b. rw h (so_far a t b)
prints (over handed f a b c h l z) = λ k. h ∙ prints-journal a b c k
prints (faulted {text = text} handed f a b c h l z) = (h ∙ ap (λ (t : List ℕ). text ++ t) (closing c), λ k. all_but_last a k b)
prints (failed f) = tt
