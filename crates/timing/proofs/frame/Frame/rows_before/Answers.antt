-- The start rows, or those of the block before the last.
use Rattle.std.proofs.Common.{arith, ◌≡◌, ℕ, suc, sym, ◌+◌, ◌-◌, ◌*◌, ◌≤◌, length, drop}
use native.Mathlib.Nat.{mul-le-mul_right, mul_assoc}
use Rattle.std.proofs.lemmas.List.{take_all, length-drop}
use Rattle.standard.specs.Numbers.{row_width, object_limit, block_limit, start_length, blocks_length}
use Rattle.standard.specs.CarriedCalls.{table_rows}
use Rattle.rows.proofs.Rows.{numbers-rows}
use Rattle.timing.proofs.frame.Frame.rows_before.Goals as goal

-- where the block before the last ends
ends : (blocks objects : ℕ) → blocks ≤ block_limit → objects ≤ object_limit → (blocks - 2) * (objects * row_width) + objects * row_width ≤ blocks_length
unfolding row_width object_limit block_limit blocks_length
ends blocks objects h k =
    let b : blocks - 2 ≤ 6 = omega arith in
    let m : (blocks - 2) * (objects * 16) ≤ 6 * (objects * 16) = mul-le-mul_right (objects * 16) b in
    omega arith

pub returns-in-0-clause-before : goal.returns-in-0-clause-before
unfolding row_width object_limit start_length table_rows
returns-in-0-clause-before c =
    let e : length c.args.self.now.timings - 1 ≡ 0 = omega (arith, c.in-0.is, c.len.ensures) in
    rw e (sym (numbers-rows c.args.self.now.objects c.args.self.now.start.now (omega (arith, c.args.self.now.few, c.args.self.now.started))))

pub returns-in_default-clause-before : goal.returns-in_default-clause-before
unfolding row_width object_limit start_length table_rows
returns-in_default-clause-before c =
    let f = c.args.self.now.few in
    let at = (c.len.result - 2) * (c.args.self.now.objects * 16) in
    let e : length c.args.self.now.timings - 1 ≡ suc (c.len.result - 2) = omega (arith, c.len.ensures) in
    let same : (c.len.result - 2) * c.args.self.now.objects * 16 ≡ at = mul_assoc _ _ _ in
    let there = ends c.len.result c.args.self.now.objects (omega (arith, c.len.ensures, c.requires)) f in
    let long : length (drop at c.args.block_rows.now) ≡ length c.args.block_rows.now - at = length-drop _ _ in
    rw (e, same, ← long, take_all (length (drop at c.args.block_rows.now)) (drop at c.args.block_rows.now) (omega arith))
    (sym (numbers-rows c.args.self.now.objects (drop at c.args.block_rows.now) (omega (arith, there, c.requires))))
