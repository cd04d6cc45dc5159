-- Determinacy of the calls on lines and buffers, of each call's own `ensures`.
use Rattle.std.proofs.Common.{◌≡◌, ℕ, List, ℤ, Result, Fits, w64, sym, ◌∙◌, arith}
use Rattle.rows.proofs.Determined.{Determines}
use Rattle.oamd.specs.Promises.{lent}
use Rattle.journals.specs.Turns.{Turned}
use Rattle.journals.specs.Prints.{PrintLeft, printed_of}
use Rattle.journals.specs.Texts.{Appended, put, full}
use Rattle.journals.specs.declared.records.Pause.{Pause}
use Rattle.journals.specs.declared.prints.Printed.{Printed}
use Rattle.journals.proofs.lines.put_line.Reads as put-line
use Rattle.journals.proofs.lines.put_answer_line.Reads as put-answer-line
use Rattle.journals.proofs.lines.put_last.Reads as put_last
use Rattle.journals.proofs.texts.Text.append.Reads as text-append
use Rattle.journals.proofs.buffers.part.Reads as part
use Rattle.journals.proofs.buffers.keep.Reads as keep
use Rattle.journals.proofs.buffers.append.Reads as append
use Rattle.journals.proofs.prints.print_next.Reads as print-next
use Rattle.journals.proofs.Determined.{End, ended, ended_is}

pub put-line-determined : Determines put-line.Post (λ κs line s. line)
put-line-determined κs a m m' s s' p q = p.left ∙ sym q.left

pub put-answer-line-determined : Determines put-answer-line.Post (λ κs line s. line)
put-answer-line-determined κs a m m' s s' p q = p.left ∙ sym q.left

pub put-last-determined : Determines put_last.Post (λ κs line s. line)
put-last-determined κs a m m' s s' p q = p.left ∙ sym q.left

-- what is seen at the end: a number, and a buffer
pub record Buffer : Type 0 where
  pub number : ℕ
  pub bytes : List ℕ

abbrev buffer : ℕ → List ℕ → Buffer
buffer n m = record { number = n; bytes = m }

same : {n n' k : ℕ} {m m' l : List ℕ} → n ≡ k → n' ≡ k → m ≡ l → m' ≡ l → buffer n m ≡ buffer n' m'
same p p' q q' = λ i. buffer ((p ∙ sym p') i) ((q ∙ sym q') i)

pub keep-determined : Determines keep.Post (λ κs n s. buffer n s.0.now)
keep-determined κs a n n' s s' p q = same p.count q.count p.left q.left

pub append-determined : Determines append.Post (λ κs n s. buffer n s.0.now)
append-determined κs a n n' s s' p q = same p.place q.place p.left q.left

pub part-determined : Determines part.Post (λ κs r s. r.now)
part-determined κs a r r' s s' p q = p ∙ sym q

-- a word has room or it has none
appended-same : {n : ℕ} {l text m m' : List ℕ} → Appended n l text m → Appended n l text m' → m ≡ m'
appended-same (put h e) (put k f) = e ∙ sym f
appended-same (put h e) (full k f) = absurd (omega arith)
appended-same (full h e) (put k f) = absurd (omega arith)
appended-same (full h e) (full k f) = e ∙ sym f

pub text-append-determined : (n : ℕ) (fits : Fits w64 n) → Determines (text-append.Post n fits) (λ κs r s. s.0.now)
text-append-determined n fits κs a r r' s s' p q = appended-same p q

print-is : {number offset : ℕ} {d : Turned} {arrived : List ℕ} {x : Result Printed Pause} {r s b : List ℤ} {t : List ℕ}
    → PrintLeft number offset d arrived x r s b t → ended x (lent r s b t) ≡ ended (printed_of number offset d.happened) d.lent
print-is p = ended_is p.answer p.retained p.start p.blocks p.timings

pub print-next-determined : Determines {Seen = End (Result Printed Pause)} print-next.Post (λ κs x s. ended x (lent s.1.1.1.0.now s.1.1.1.1.0.now s.1.1.1.1.1.0.now s.1.1.1.1.1.1.0.now))
print-next-determined κs a x x' s s' p q = print-is p ∙ sym (print-is q)
