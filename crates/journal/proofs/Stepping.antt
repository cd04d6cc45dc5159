-- What the program does in a turn is a step of a run, or its end.
use Rattle.std.proofs.Common.{◌≡◌, ◌<◌, ◌⊎◌, inl, inr, ℕ, Bool, true, List, [], ◌∷◌, ◌++◌, length, drop, Ok, Err, refl, sym, ◌∙◌, ap, append_assoc, length-append, arith}
use Rattle.standard.specs.Journal.{step}
use Rattle.journals.specs.Runs as runs
use Rattle.journals.specs.Runs.{counted, left_over}
use Rattle.journals.specs.Say.{lent_of}
use Rattle.journals.specs.Turns.{turn_on}
use Rattle.journals.specs.Prints.{PrintLeft}
use Rattle.journals.specs.declared.prints.Printed.{Printed}
use Rattle.journals.specs.declared.records.Pause.{Pause}
use Rattle.journals.specs.declared.records.Pause.TheVariants.{Unknown}
use Rattle.journals.specs.declared.tables.Tables.{Tables}
use Rattle.journals.specs.declared.lines.Ending.{Ending}
use Rattle.journals.specs.declared.lines.Ending.TheVariants as ending
use Rattle.journal.specs.Waits.{Emits}
use Rattle.journal.specs.Reads.{Arrives}
use Rattle.journal.specs.Steps.{standing, Stopped, Turned, goes, ends, faults, ReadOn}
use Rattle.journal.specs.declared.player.Player.{Player}

-- What is left at the end: a read brought no bytes

same-length : (s : List ℕ) {t : List ℕ} → Arrives s (Ok 0) t → length t ≡ length s
same-length s a = rw (a.1, length-append s a.0) (omega (arith, a.2))

none_left : (at : ℕ) (s : List ℕ) → length s ≡ 0 → ending.Complete ≡ left_over at s
none_left at [] h = refl
none_left at (a ∷ s) h = absurd (omega arith)

some_left : (at : ℕ) (s : List ℕ) → (length s ≡ 0 → ⊥) → ending.Torn at ≡ left_over at s
some_left at [] h = absurd (h refl)
some_left at (a ∷ s) h = refl

-- The lines were written, and the input is read

-- none of none
none : {before : List ℕ} → (before ≡ []) ⊎ (before ≡ []) → before ≡ []
none (inl h) = h
none (inr h) = h

abbrev read : Player → List ℕ → List ℕ → Player
read p after lines = record { records = p.records; offset = p.offset; tables = p.tables; arrived = after; lines = lines }

module _ (p : Player) {after lines : List ℕ} (e : lines ≡ []) where
  pub goes-on : {n : ℕ} → Arrives p.arrived (Ok n) after → 0 < n → ReadOn p (Ok true) (read p after lines)
  goes-on a h l c =
      rw (a.1, e)
      (goes {part = a.0} {text = []} refl (runs.arrives c a.0) (omega (arith, a.2)) (record { handed = p.lines; same = refl; before = []; all_or_none = inr refl; whole = refl }))

  module _ {x : Ending} {r : Bool} {q : Player} (z : Stopped (read p after lines) x r q) where
    written_first : Emits p.lines z.text q.lines
    written_first =
        let w = rw e at z.emitted in
        record {
          handed = p.lines ++ w.handed;
          same = rw append_assoc (ap (λ (t : List ℕ). p.lines ++ t) w.same);
          before = [];
          all_or_none = inr refl;
          whole = w.whole ∙ ap (λ (t : List ℕ). t ++ z.text) (none w.all_or_none);
        }

    ended-on : x ≡ left_over p.offset p.arrived → ReadOn p (Ok r) q
    ended-on f l c = ends {unread = []} {e = x} (ap Ok z.ended) (rw f (runs.ends c)) z.closed (z.records, z.offset) written_first

    pub complete-on : {n : ℕ} → x ≡ ending.Complete → Arrives p.arrived (Ok n) after → n ≡ 0 → length after ≡ 0 → ReadOn p (Ok r) q
    complete-on f a h k =
        ended-on (f ∙ none_left p.offset p.arrived (sym (same-length p.arrived (rw h at a)) ∙ k))

    pub torn-on : {n : ℕ} → x ≡ ending.Torn p.offset → Arrives p.arrived (Ok n) after → n ≡ 0 → (length after ≡ 0 → ⊥) → ReadOn p (Ok r) q
    torn-on f a h k =
        ended-on (f ∙ some_left p.offset p.arrived (λ i. k (same-length p.arrived (rw h at a) ∙ i)))

    pub faulted-on : x ≡ ending.Fault p.offset → ReadOn p (Ok r) q
    faulted-on f l c = faults (ap Ok z.ended) c (rw f at z.closed) (z.records, z.offset) written_first

-- A turn by the answer of print_next

module _ (p : Player) where
  pub used-on : {x : Printed} {s arrived lines : List ℕ} {t : Tables} → s ≡ p.arrived → PrintLeft (counted p.records 1) p.offset (turn_on (lent_of p.tables) (step s)) s (Ok x) t.retained t.start t.blocks t.timings
      → arrived ≡ drop x.used p.arrived → Emits p.lines x.line lines
      → Turned (standing p) p.lines (Ok true) (standing (record { records = counted p.records 1; offset = counted p.offset x.used; tables = t; arrived = arrived; lines = lines })) lines
  used-on e c f w = rw f (goes {part = []} refl (runs.prints (record { left = rw e at c })) tt w)

  pub stopped-on : {s : List ℕ} {t : Tables} {y : Pause} {r : Bool} {q : Player} → s ≡ p.arrived
      → PrintLeft (counted p.records 1) p.offset (turn_on (lent_of p.tables) (step s)) s (Err y) t.retained t.start t.blocks t.timings
      → y ≡ Unknown → Stopped (record { records = p.records; offset = p.offset; tables = t; arrived = p.arrived; lines = p.lines }) (ending.BadMark p.offset) r q
      → Turned (standing p) p.lines (Ok r) (standing q) q.lines
  stopped-on e c f z = ends {unread = []} (ap Ok z.ended) (runs.stops (record { left = rw (e, f) at c }) []) z.closed (z.records, z.offset) z.emitted
