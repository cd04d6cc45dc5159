use Rattle.std.proofs.Common.{rules, refl, pos}
use Rattle.standard.specs.Numbers.{blocks_length, timings_length}
use Rattle.rows.proofs.Written.{head-filled}
use Rattle.oamd.proofs.tables.BlockTables.clear.Goals as goal

pub returns : goal.returns
unfolding blocks_length timings_length
returns c =
    let t = c.args.self.now in
    record {
      same = record { blocks = refl; timings = refl };
      its_blocks = head-filled 16384 t.blocks.now _ (pos 0) t.for_blocks (c.fill.ensures.after (λ y h. search rules));
      its_timings = head-filled 16 t.timings.now _ 0 t.for_timings (c.fill-2.ensures.after (λ y h. search rules));
    }
