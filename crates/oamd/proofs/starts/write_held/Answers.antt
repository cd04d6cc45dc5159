-- Held rows are written one after the other, or copied as they stand.
use Rattle.std.proofs.Common.{rules, ◌≡◌, sym, ◌∙◌, get_or, pos, true, arith}
use Rattle.std.proofs.lemmas.Bool.{eq-eqb}
use Rattle.standard.specs.Numbers.{doubt_at, row_width}
use Rattle.standard.specs.Rows.{is}
use Rattle.rows.proofs.Tests.{back, bits_is}
use Rattle.oamd.proofs.HeldRows.{held-count, held_fits, held-copied, parts-count, next_held}
use Rattle.oamd.proofs.StartRows.{write-none, write-all}
use Rattle.oamd.proofs.starts.write_held.Goals as goal

pub returns-then-doubt-eq0 : goal.returns-then-doubt-eq0
unfolding row_width
returns-then-doubt-eq0 c =
    let calm : is 0 (get_or c.args.held.table.now doubt_at (pos 0)) ≡ true = sym (bits_is 0 (get_or c.args.held.table.now doubt_at (pos 0)) (omega arith) (search rules)) ∙ eq-eqb _ _ c.if-doubt-eq0.true in
    rw c.copy.ensures (held-copied c.args.held.long c.count-count.ensures c.args.start.now calm)

pub loop-object-init : goal.loop-object-init
loop-object-init c = write-none _ _

pub put_row-requires : goal.put_row-requires
unfolding row_width
put_row-requires c =
    let n = parts-count c.args.held.long c.count-count.ensures c.rows-rows.ensures in
    let k = held-count c.args.held.long c.count-count.ensures in
    let f = held_fits c.args.held.long c.count-count.ensures c.args.start.now c.requires in
    omega (arith, c.loop-object.auto.start, c.loop-object-test.true)

pub loop-object-preserved : goal.loop-object-preserved
unfolding row_width
loop-object-preserved c =
    let doubt = back {z = get_or c.args.held.table.now doubt_at (pos 0)} (search rules) in
    rw (c.put_row.ensures, c.held_row.ensures, c.from.ensures, doubt)
    (next_held c.args.held.long c.count-count.ensures c.rows-rows.ensures _ _ _ c.requires c.loop-object-test.true c.loop-object.invariant)

pub returns : goal.returns
returns c =
    let n = parts-count c.args.held.long c.count-count.ensures c.rows-rows.ensures in
    let k = held-count c.args.held.long c.count-count.ensures in
    write-all (held_fits c.args.held.long c.count-count.ensures c.args.start.now c.requires) c.loop-object.invariant (omega (arith, c.loop-object-test.false))
