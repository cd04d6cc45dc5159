-- The line waits behind the others, or alone where they were written first: it has room there.
use Rattle.std.proofs.Common.{◌≡◌, ℕ, ◌+◌, ◌≤◌, List, [], ◌++◌, length, inl, inr, refl, ap, ◌∙◌, rules, arith}
use native.Mathlib.Nat.{min-zero}
use Rattle.std.proofs.lemmas.List.{take_rest}
use Rattle.journals.specs.Texts.{Appended, put, full}
use Rattle.journal.proofs.output.emit.Goals as goal
use Rattle.journal.proofs.output.emit.Goals.{then-room-text, else-room-text}

-- what is appended is the line, however it is cut out
had-room : (line : List ℕ) {l part m : List ℕ} → Appended 65536 l part m → part ≡ line → length l + length line ≤ 65536 → m ≡ l ++ line
had-room line {l} (put k e) f h = e ∙ ap (λ (t : List ℕ). l ++ t) f
had-room line (full k e) f h = absurd (omega (arith, ap length f))

pub returns : goal.returns
returns g c =
    let text = c.as_bytes-text.ensures in
    let short : length c.args.line.now ≤ 129 = rw text.bytes at text.short in
    elim c.if-room-text.branch [
      | then-room-text w ↦
          let empty = w.lines-is ∙ w.flush.ensures in
          let alone = rw empty at (had-room c.args.line.now c.append.ensures (search (rules, text.bytes, min-zero, take_rest)) (omega (arith, ap length empty, short))) in
          record { handed = c.args.lines.now; same = ap (λ (t : List ℕ). c.args.lines.now ++ t) alone; before = []; all_or_none = inr refl; whole = alone }
      | else-room-text w ↦
          let size = ap length text.bytes in
          let behind = rw w.lines-is at (had-room c.args.line.now c.append.ensures (search (rules, text.bytes, min-zero, take_rest)) (omega (arith, size, ap length w.lines-is, c.room.ensures, w.if-room-text.false))) in
          record { handed = []; same = behind; before = c.args.lines.now; all_or_none = inl refl; whole = behind }
    ]
