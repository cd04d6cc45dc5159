-- As many chunks as rows, whatever lies behind them.
use Rattle.std.proofs.Common.{arith, ◌∙◌, ◌≡◌, ◌*◌, ◌/◌, length, take}
use Rattle.std.proofs.lemmas.List.{length-take}
use Rattle.standard.specs.Numbers.{row_width}
use Rattle.rows.proofs.Parts.{chunks-front}
use Rattle.rows.proofs.table.parts.Goals as goal

pub returns : goal.returns
unfolding row_width
returns c =
    let n = c.args.count in
    let e : length (take (n * 16) c.args.table.now) / 16 ≡ n = simp length-take (omega arith) in
    c.as_chunks.ensures.front ∙ rw e (chunks-front 16 n c.args.table.now)
