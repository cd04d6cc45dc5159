-- A program that calls print_next and put_last in turn prints the journal, however it arrives.
use Prim.Native.Nat.{ℕ, suc, ◌+◌, ◌^◌, ◌≤◌, ◌<◌}
use mathlib.Core.Path.{◌≡◌, refl, sym, ◌∙◌, ap}
use mathlib.Core.List.{List, [], ◌∷◌, ◌++◌, append-nil, append_assoc}
use native.Mathlib.Nat.{mod-eq_of_lt}
use native.Mathlib.Omega.{arith}
use lib.ListN.{length, take, drop, length-append, length-drop}
use lib.Seq.{take-append_seam}
use Rattle.std.specs.Prelude.{Result, Ok, Err}
use Rattle.standard.specs.Calls.{Lent}
use Rattle.standard.specs.Journal.{Record, Step, whole, more, unknown, step, rest, bad_mark, journal_from, journal, reply_to, line, last_line, lines_from, printed}
use Rattle.standard.proofs.JournalTurns.{turns-suffice}
use Rattle.standard.proofs.JournalParts.{whole-stays, unknown-stays, whole-sized, whole-within, after-whole}
use Rattle.journals.specs.Turns.{turn_on}
use Rattle.journals.specs.Texts.{ending_text}
use Rattle.journals.specs.Prints.{PrintLeft}
use Rattle.journals.specs.Runs.{Standing, at_start, counted, Called, Closed, Goes, prints, arrives, left_over, Ends, ends, stops, Ran, begins, goes}
use Rattle.journals.specs.declared.lines.Ending.{Ending}
use Rattle.journals.specs.declared.records.Pause.{Pause}
use Rattle.journals.specs.declared.records.Pause.TheVariants.{More, Unknown}
use Rattle.journals.specs.declared.prints.Printed.{Printed}

-- What the paper prints of the bytes from offset `at` on, n records before them

abbrev onward : ℕ → ℕ → Lent → List ℕ → List ℕ
onward n at l s = let j = journal_from (length s) at s in lines_from n l j.entries j.ending

module _ (n at : ℕ) (l : Lent) (s : List ℕ) where
  one_more : onward n at l s ≡ (let j = journal_from (suc (length s)) at s in lines_from n l j.entries j.ending)
  one_more = ap (λ j. lines_from n l j.entries j.ending) (sym (turns-suffice (suc (length s)) at s (omega arith)))

  onward-whole : {r : Record} {k : ℕ} → step s ≡ whole r k
      → onward n at l s ≡ line (suc n) at (reply_to l r).reply ++ onward (suc n) (at + k) (reply_to l r).lent (drop k s)
  unfolding journal_from lines_from
  onward-whole {r} {k} e =
      let d = length-drop k s in
      one_more ∙ rw (e, journal_from, turns-suffice (length s) (at + k) (drop k s) (omega arith))

  onward-more : step s ≡ more → onward n at l s ≡ last_line n (rest at s)
  unfolding journal_from lines_from
  onward-more e = one_more ∙ rw (e, journal_from)

  onward-unknown : step s ≡ unknown → onward n at l s ≡ last_line n (bad_mark at)
  unfolding journal_from lines_from
  onward-unknown e = one_more ∙ rw (e, journal_from)

-- What the answer of a call says

record Answered (p : Standing) (x : Printed) (l : Lent) : Type 0 where
  what : Record
  stood : step p.unused ≡ whole what x.used
  tables : l ≡ (reply_to p.tables what).lent
  said : x.line ≡ line (counted p.records 1) p.offset (reply_to p.tables what).reply

abbrev Says : Standing → Lent → Result Printed Pause → Type 0
Says p l (Ok x) = Answered p x l
Says p l (Err More) = (step p.unused ≡ more) × (l ≡ p.tables)
Says p l (Err Unknown) = step p.unused ≡ unknown

says : {p : Standing} {a : Result Printed Pause} {l : Lent} → Called p a l → Says p l a
unfolding turn_on
says {p} {a} {l} c = go (step p.unused) refl c.left
  where
    go : (x : Step) → step p.unused ≡ x
        → PrintLeft (counted p.records 1) p.offset (turn_on p.tables x) p.unused a l.retained l.start l.blocks l.timings → Says p l a
    go (whole r k) e q =
        rw q.answer (record {
          what = r;
          stood = e;
          tables = λ i. record { retained = q.retained i; start = q.start i; blocks = q.blocks i; timings = q.timings i };
          said = refl;
        })
    go more e q = rw q.answer (e, λ i. record { retained = q.retained i; start = q.start i; blocks = q.blocks i; timings = q.timings i })
    go unknown e q = rw q.answer e

pub closing : {n : ℕ} {e : Ending} {text : List ℕ} → Closed n e text → text ≡ ending_text n e
closing c = c.left.left

left_over_lem : (n at : ℕ) (s : List ℕ) → ending_text n (left_over at s) ≡ last_line n (rest at s)
unfolding rest
left_over_lem n at [] = refl
left_over_lem n at (a ∷ s) = refl

-- What is put out and what the paper prints of the rest is what it prints of all

record Holds (s text : List ℕ) (p : Standing) : Type 0 where
  used : p.offset + length p.unused ≡ length s
  few : p.records ≤ p.offset
  ahead : (t : List ℕ) → printed (s ++ t) ≡ text ++ onward p.records p.offset p.tables (p.unused ++ t)

module _ {s text : List ℕ} {p : Standing} (h : Holds s text p) (short : length s < 2 ^ 64) where
  further : {part line : List ℕ} {q : Standing} → Goes p part line q → Holds (s ++ part) (text ++ line) q
  further (prints {k} c) =
      let a = says c in
      let sized = whole-sized p.unused a.stood in
      let within = whole-within p.unused a.stood in
      let d = length-drop k p.unused in
      let number : counted p.records 1 ≡ suc p.records = mod-eq_of_lt (omega (arith, h.used, h.few)) ∙ omega arith in
      let place : counted p.offset k ≡ p.offset + k = mod-eq_of_lt (omega (arith, h.used)) in
      rw append-nil (record {
        used = omega (arith, h.used);
        few = omega (arith, h.few);
        ahead = λ t.
            h.ahead t
            ∙ rw (
              onward-whole p.records p.offset p.tables (p.unused ++ t) (whole-stays p.unused t a.stood),
              after-whole p.unused a.stood t,
              number,
              place,
              ← (rw number at a.said),
              ← a.tables,
              append_assoc,
            );
      })
  further (arrives c part) =
      rw append-nil (record {
        used = omega (arith, h.used, length-append s part, length-append p.unused part);
        few = h.few;
        ahead = λ t. rw (append_assoc, append_assoc, (says c).1) (h.ahead (part ++ t));
      })

holds : {s text : List ℕ} {p : Standing} → Ran s text p → length s < 2 ^ 64 → Holds s text p
unfolding at_start printed journal
holds begins b = record { used = refl; few = omega arith; ahead = λ t. refl }
holds (goes {s} {part = part} r g) b =
    let short : length s < 2 ^ 64 = omega (arith, length-append s part) in
    further (holds r short) short g

-- The program prints the journal

module _ {s text : List ℕ} {p : Standing} (r : Ran s text p) where
  -- all lines were put out when print_next asks for more: the last line alone hangs on what happens then
  pub all_but_last : {l : Lent} → length s < 2 ^ 64 → Called p (Err More) l → printed s ≡ text ++ ending_text p.records (left_over p.offset p.unused)
  all_but_last b c =
      rw (left_over_lem p.records p.offset p.unused, ← onward-more p.records p.offset p.tables p.unused (says c).0)
      (rw (append-nil, append-nil) at ((holds r b).ahead []))

  -- whatever follows, what was put out is where it begins
  pub so_far : (t : List ℕ) → length s < 2 ^ 64 → take (length text) (printed (s ++ t)) ≡ text
  so_far t b = rw ((holds r b).ahead t) (take-append_seam text _)

  pub prints-journal : {unread last : List ℕ} {e : Ending} → Ends p unread e → Closed p.records e last → length s < 2 ^ 64 → text ++ last ≡ printed (s ++ unread)
  prints-journal (ends c) z b = rw (append-nil, closing z) (sym (all_but_last b c))
  prints-journal (stops c unread) z b =
      rw (closing z)
      (sym ((holds r b).ahead unread ∙ ap (λ (x : List ℕ). text ++ x) (onward-unknown p.records p.offset p.tables (p.unused ++ unread) (unknown-stays p.unused unread (says c)))))
