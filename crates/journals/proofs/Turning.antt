-- What was found, and the reply to it, make the turn.
use Rattle.std.proofs.Common.{◌≡◌, ℕ, List, ℤ, Result, Ok, Err, IsErrAnd, refl, ap, arith}
use Rattle.standard.specs.Calls.{Lent}
use Rattle.standard.specs.Journal as paper
use Rattle.journals.specs.Say.{said_record}
use Rattle.journals.specs.Promises.{Stepped, Left}
use Rattle.journals.specs.Turns.{replied, turn_on, TurnLeft}
use Rattle.journals.specs.declared.records.Found.{Found}
use Rattle.journals.specs.declared.records.Pause.{Pause}
use Rattle.journals.specs.declared.records.Pause.TheVariants.{More, Unknown}
use Rattle.journals.specs.declared.replies.Reply.{Reply}
use Rattle.journals.specs.declared.turns.Turn.{Turn}
use lib.ListN.{length}

module _ {s : List ℕ} {x : paper.Step} (l : Lent) where
  pub turn-replied : {f : Found} {a : Reply} {r st b : List ℤ} {t : List ℕ} → Stepped x (length s) (Ok f) → Left (paper.reply_to l (said_record f.what)) a r st b t
      → TurnLeft (turn_on l x) s (Ok (record { reply = a; used = f.length })) r st b t
  unfolding turn_on
  turn-replied {f} p d =
      rw (← p.said) (record {
        said = ap (λ (z : paper.Reply). replied z f.length) d.reply;
        moves = (omega (arith, p.placed), p.placed.1);
        retained = d.retained;
        start = d.start;
        blocks = d.blocks;
        timings = d.timings;
      })

  waits_or_stops : (e : Pause) → Stepped x (length s) (Err e) → TurnLeft (turn_on l x) s (Err e) l.retained l.start l.blocks l.timings
  unfolding turn_on
  waits_or_stops More p = rw (← p.said) (record { said = refl; moves = p.placed; retained = refl; start = refl; blocks = refl; timings = refl })
  waits_or_stops Unknown p = rw (← p.said) (record { said = refl; moves = tt; retained = refl; start = refl; blocks = refl; timings = refl })

  pub turn-paused : {e : Pause} {y : Result Turn Pause} → Stepped x (length s) (Err e) → IsErrAnd y (λ d. d ≡ e) → TurnLeft (turn_on l x) s y l.retained l.start l.blocks l.timings
  turn-paused {y = Ok t} p h = absurd h
  turn-paused {y = Err d} p h = rw h (waits_or_stops _ p)
