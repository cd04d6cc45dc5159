-- The content, part by part.
use Rattle.std.proofs.Common.{[], cond, refl, sym, ◌∙◌, arith}
use Rattle.std.proofs.lemmas.List.{length-replicate}
use Rattle.bits.specs.Bits.{is_set}
use Rattle.bits.specs.Parsed.{pure}
use Rattle.bits.proofs.Reading.{stops, then, next, next_stops, on_true, on_false, done, has}
use Rattle.standard.specs.Tree.{isf, dynamic}
use Rattle.standard.specs.Assignment.{beds, isfs, dynamics, contents}
use Rattle.assignment.proofs.Adding.{Gave, gave, given, present, absent, adds, stopped, failed}
use Rattle.assignment.proofs.Filling.{grown, and_then}
use Rattle.assignment.proofs.Growth.{beds-le, isfs-le, dynamics-le, if-present}
use Rattle.assignment.proofs.contents.parse_contents.Goals as goal
use Rattle.assignment.proofs.contents.parse_contents.Goals.{Joined-is_set, Joined-is_set-2, Joined-is_set-3, then-is_set+in_ok-parse_beds, else-is_set, then-is_set-2+in_ok-read_isf_count, else-is_set-2, then-is_set-3+in_ok-read_dynamic_count, else-is_set-3}

read-beds : (c : Joined-is_set) → Gave (cond (is_set 3 c.in_ok-content.content) beds (pure [])) c.read.new.self c.args.kinds.now c.if-is_set.bits c.if-is_set.kinds
read-beds c =
    elim c.if-is_set.branch [
      | then-is_set+in_ok-parse_beds w ↦ rw (w.bits-is, w.kinds-is) (present _ (sym c.is_set.ensures ∙ w.if-is_set.true) (gave w.in_ok-parse_beds.ensures))
      | else-is_set w ↦ rw (w.bits-is, w.kinds-is) (absent _ (sym c.is_set.ensures ∙ w.if-is_set.false))
    ]

read-isfs : (c : Joined-is_set-2) → Gave (cond (is_set 2 c.in_ok-content.content) isfs (pure [])) c.if-is_set.bits c.if-is_set.kinds c.if-is_set-2.bits c.if-is_set-2.kinds
read-isfs c =
    elim c.if-is_set-2.branch [
      | then-is_set-2+in_ok-read_isf_count w ↦ rw (w.bits-is, w.kinds-is) (present _ (sym c.is_set-2.ensures ∙ w.if-is_set-2.true) (given w.in_ok-read_isf_count.ensures w.extend.ensures))
      | else-is_set-2 w ↦ rw (w.bits-is, w.kinds-is) (absent _ (sym c.is_set-2.ensures ∙ w.if-is_set-2.false))
    ]

read-dynamics : (c : Joined-is_set-3) → Gave (cond (is_set 1 c.in_ok-content.content) dynamics (pure [])) c.if-is_set-2.bits c.if-is_set-2.kinds c.if-is_set-3.bits c.if-is_set-3.kinds
read-dynamics c =
    elim c.if-is_set-3.branch [
      | then-is_set-3+in_ok-read_dynamic_count w ↦ rw (w.bits-is, w.kinds-is) (present _ (sym c.is_set-3.ensures ∙ w.if-is_set-3.true) (given w.in_ok-read_dynamic_count.ensures w.extend-then-is_set-3.ensures))
      | else-is_set-3 w ↦ rw (w.bits-is, w.kinds-is) (absent _ (sym c.is_set-3.ensures ∙ w.if-is_set-3.false))
    ]

pub returns-in_err-content : goal.returns-in_err-content
unfolding contents
returns-in_err-content c =
    stopped _ _ (stops _ c.in_err-content.ensures.reads c.from_residual.ensures.1) c.from_residual.ensures.1 refl

pub returns-in_err-parse_beds : goal.returns-in_err-parse_beds
unfolding contents
returns-in_err-parse_beds c =
    let e = c.from_residual-in_err-parse_beds.ensures.1 in
    stopped _ _ (then _ c.in_ok-content.ensures.reads (stops _ (on_true _ (sym c.is_set.ensures ∙ c.if-is_set.true) (failed c.in_err-parse_beds.ensures)) e)) e c.parse_beds.ensures.table

pub returns-in_err-read_isf_count : goal.returns-in_err-read_isf_count
unfolding contents
returns-in_err-read_isf_count c =
    let e = c.from_residual-in_err-read_isf_count.ensures.1 in
    let b = read-beds (goal.at.returns-in_err-read_isf_count c).Joined-is_set in
    stopped _ _ (then _ c.in_ok-content.ensures.reads (then _ b.reads (stops _ (on_true _ (sym c.is_set-2.ensures ∙ c.if-is_set-2.true) c.in_err-read_isf_count.ensures) e))) e b.filled.table

pub extend-requires : goal.extend-requires
extend-requires c =
    let b = read-beds (goal.at.extend-requires c).Joined-is_set in
    omega (arith, grown b.filled, has (if-present _ 153 beds-le) b.reads, has isfs-le c.in_ok-read_isf_count.ensures, length-replicate c.in_ok-read_isf_count.field-0 isf)

pub returns-in_err-read_dynamic_count : goal.returns-in_err-read_dynamic_count
unfolding contents
returns-in_err-read_dynamic_count c =
    let e = c.from_residual-in_err-read_dynamic_count.ensures.1 in
    let b = read-beds (goal.at.returns-in_err-read_dynamic_count c).Joined-is_set in
    let i = read-isfs (goal.at.returns-in_err-read_dynamic_count c).Joined-is_set-2 in
    stopped _ _ (then _ c.in_ok-content.ensures.reads (then _ b.reads (then _ i.reads (stops _ (on_true _ (sym c.is_set-3.ensures ∙ c.if-is_set-3.true) c.in_err-read_dynamic_count.ensures) e)))) e (i.filled.table ∙ b.filled.table)

pub extend-requires-then-is_set-3 : goal.extend-requires-then-is_set-3
extend-requires-then-is_set-3 c =
    let b = read-beds (goal.at.extend-requires-then-is_set-3 c).Joined-is_set in
    let i = read-isfs (goal.at.extend-requires-then-is_set-3 c).Joined-is_set-2 in
    omega (arith, grown b.filled, grown i.filled, has (if-present _ 153 beds-le) b.reads, has (if-present _ 81 isfs-le) i.reads, has dynamics-le c.in_ok-read_dynamic_count.ensures, length-replicate c.in_ok-read_dynamic_count.field-0 dynamic)

pub returns-in_err-skip_bytes : goal.returns-in_err-skip_bytes
unfolding contents
returns-in_err-skip_bytes c =
    let e = c.from_residual-in_err-skip_bytes.ensures.1 in
    let b = read-beds (goal.at.returns-in_err-skip_bytes c).Joined-is_set in
    let i = read-isfs (goal.at.returns-in_err-skip_bytes c).Joined-is_set-2 in
    let d = read-dynamics (goal.at.returns-in_err-skip_bytes c).Joined-is_set-3 in
    stopped _ _ (then _ c.in_ok-content.ensures.reads (then _ b.reads (then _ i.reads (then _ d.reads (next_stops _ (on_true _ (sym c.is_set-4.ensures ∙ c.if-is_set-4.true) c.in_err-skip_bytes.ensures.reads) e))))) e (d.filled.table ∙ i.filled.table ∙ b.filled.table)

pub returns-in_ok-skip_bytes : goal.returns-in_ok-skip_bytes
unfolding contents
returns-in_ok-skip_bytes c =
    let b = read-beds (goal.at.returns-in_ok-skip_bytes c).Joined-is_set in
    let i = read-isfs (goal.at.returns-in_ok-skip_bytes c).Joined-is_set-2 in
    let d = read-dynamics (goal.at.returns-in_ok-skip_bytes c).Joined-is_set-3 in
    adds (then _ c.in_ok-content.ensures.reads (then _ b.reads (then _ i.reads (then _ d.reads (next (on_true _ (sym c.is_set-4.ensures ∙ c.if-is_set-4.true) c.in_ok-skip_bytes.ensures.reads) done))))) (and_then (and_then b.filled i.filled) d.filled)

pub returns-else-is_set-4 : goal.returns-else-is_set-4
unfolding contents
returns-else-is_set-4 c =
    let b = read-beds (goal.at.returns-else-is_set-4 c).Joined-is_set in
    let i = read-isfs (goal.at.returns-else-is_set-4 c).Joined-is_set-2 in
    let d = read-dynamics (goal.at.returns-else-is_set-4 c).Joined-is_set-3 in
    adds (then _ c.in_ok-content.ensures.reads (then _ b.reads (then _ i.reads (then _ d.reads (next {a = tt {0}} (on_false _ (sym c.is_set-4.ensures ∙ c.if-is_set-4.false) done) done))))) (and_then (and_then b.filled i.filled) d.filled)
