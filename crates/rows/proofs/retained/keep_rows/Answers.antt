-- The head, the rows behind it, and zeros behind them.
use Rattle.std.proofs.Common.{rules, arith, ap, ◌≡◌, ◌+◌, ◌-◌, ◌*◌, ◌∙◌, List, ℤ, pos, set, length, to_z, w16}
use Rattle.std.proofs.lemmas.Int.{ints}
use Rattle.std.proofs.lemmas.List.{length-set, length-take, length-drop}
use Rattle.standard.specs.Numbers.{row_width, object_limit, retained_head, retained_length}
use Rattle.rows.proofs.Written.{filled, copied, length-written}
use borrow.Rule.Slice.PartMut.{put_mid}
use Rattle.rows.proofs.Keeping.{kept}
use Rattle.rows.proofs.retained.keep_rows.Goals as goal

pub returns : goal.returns
unfolding row_width object_limit retained_head retained_length
returns c =
    let n = c.args.count in
    let k = c.requires.room in
    let few = c.requires.few in
    let head : List ℤ = set (set c.args.retained.now 0 (to_z w16 n)) 1 (pos 0) in
    let rows = copied 2 (2 + n * 16 - 2) head c.copy.new.to (simp length-set (omega arith)) (ap length c.copy.ensures ∙ simp (length-take, length-drop, length-set) (omega arith)) c.copy.ensures in
    let long : length (put_mid 2 (2 + n * 16 - 2) head c.copy.new.to) ≡ length c.args.retained.now = rw rows (length-written head 2 _ ∙ simp length-set) in
    let z : to_z w16 n ≡ pos n = omega (arith, ints) in
    let all : c.args.from + n * 16 - c.args.from ≡ n * 16 = omega arith in
    filled (2 + n * 16) (2050 - (2 + n * 16)) _ c.fill.new.self (pos 0) (rw long (omega arith)) (c.fill.ensures.after (λ y h. search rules)) ∙ rw (rows, z, all) (kept c.requires)
