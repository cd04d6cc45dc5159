-- A turn, and the line that is put for it, make the print.
use Rattle.std.proofs.Common.{◌≡◌, ℕ, List, [], ℤ, Result, Ok, Err, IsErrAnd}
use Rattle.standard.specs.Journal.{line}
use Rattle.journals.specs.Say.{said_reply}
use Rattle.journals.specs.Turns.{Turned, TurnLeft}
use Rattle.journals.specs.Texts.{line_length, Puts}
use Rattle.journals.specs.Prints.{PrintLeft, printed_in}
use Rattle.journals.specs.declared.records.Pause.{Pause}
use Rattle.journals.specs.declared.records.Pause.TheVariants.{More, Unknown}
use Rattle.journals.specs.declared.turns.Turn.{Turn}
use Rattle.journals.specs.declared.prints.Printed.{Printed}

module _ (number offset : ℕ) {d : Turned} {s : List ℕ} {r st b : List ℤ} {t : List ℕ} where
  pub printed-line : {x : Turn} {text : List ℕ} → TurnLeft d s (Ok x) r st b t → Puts line_length [] (line number offset (said_reply x.reply)) text
      → PrintLeft number offset d s (Ok (record { line = text; used = x.used })) r st b t
  printed-line p q =
      record {
        answer = rw (← p.said, q.left);
        inside = (p.moves.0, p.moves.1, rw q.left q.short);
        retained = p.retained;
        start = p.start;
        blocks = p.blocks;
        timings = p.timings;
      }

  waits_or_stops : (e : Pause) → TurnLeft d s (Err e) r st b t → PrintLeft number offset d s (Err e) r st b t
  waits_or_stops More p =
      record { answer = rw (← p.said); inside = p.moves; retained = p.retained; start = p.start; blocks = p.blocks; timings = p.timings }
  waits_or_stops Unknown p =
      record { answer = rw (← p.said); inside = tt; retained = p.retained; start = p.start; blocks = p.blocks; timings = p.timings }

  pub printed-into : {e : Pause} (text : List ℕ) (y : Result ℕ Pause) → TurnLeft d s (Err e) r st b t → IsErrAnd y (λ f. f ≡ e)
      → PrintLeft number offset d s (printed_in text y) r st b t
  printed-into text (Ok x) p h = absurd h
  printed-into text (Err f) p h = rw h (waits_or_stops _ p)

  pub handed-on : {e : Pause} {y : Result Printed Pause} → PrintLeft number offset d s (Err e) r st b t → IsErrAnd y (λ f. f ≡ e) → PrintLeft number offset d s y r st b t
  handed-on {y = Ok x} p h = absurd h
  handed-on {y = Err f} p h = rw h p
