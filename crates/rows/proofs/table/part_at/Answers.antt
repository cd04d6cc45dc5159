-- The first chunk of what begins there.
use Rattle.std.proofs.Common.{arith, ◌∙◌, ◌<◌, ◌-◌, ◌/◌, length, take, drop}
use Rattle.std.proofs.lemmas.List.{take-take, length-take, length-drop}
use Rattle.standard.specs.Numbers.{row_width}
use Rattle.rows.proofs.Parts.{chunk-first}
use Rattle.rows.proofs.table.part_at.Goals as goal

pub returns : goal.returns
unfolding row_width
returns c =
    let rest = drop c.args.at c.args.table.now in
    let n = length c.args.table.now - c.args.at in
    let some : 0 < length (take n rest) / 16 = simp (length-take, length-drop) (omega arith) in
    rw c.as_chunks.ensures.front (chunk-first 16 (length (take n rest) / 16) (take n rest) _ some ∙ take-take 16 n rest (omega arith))
