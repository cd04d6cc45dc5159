-- The pair at a place is the timing there.
use Rattle.std.proofs.Common.{arith, sym, ap, ◌∙◌, ◌<◌, length, [], map, get_or}
use Rattle.std.proofs.lemmas.List.{get_or-map, length-map}
use Rattle.timing.specs.Blocks.{timing_of}
use Rattle.timing.proofs.updates.Timings.timing_at.Goals as goal

pub returns : goal.returns
returns c =
    λ none.
    let pairs = c.self.inside.blocks.now in
    let there : c.args.block < length (map timing_of pairs) = rw c.self.view_is c.requires in
    rw (c.from.ensures, ← c.self.view_is)
    (ap (λ k. timing_of (get_or pairs k [])) (omega arith) ∙ sym (get_or-map timing_of pairs c.args.block [] none (simp length-map at there)))
