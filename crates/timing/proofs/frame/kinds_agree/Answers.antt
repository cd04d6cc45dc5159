-- Pair by pair of rows.
use Rattle.std.proofs.Common.{rules, ◌∙◌}
use Rattle.std.proofs.lemmas.Iterator.{YieldsList-from_slice, YieldsList-from_zip}
use Rattle.std.proofs.lemmas.Iterator.Consumers.{YieldsList-at}
use Rattle.std.proofs.lemmas.Iterator.Search.{all_from_yields_List}
use Rattle.rows.proofs.Tests.{bits-same}
use Rattle.timing.proofs.Agreeing.{same_kind, pairs-agree}
use Rattle.timing.proofs.frame.kinds_agree.Goals as goal

pub returns : goal.returns
returns c =
    let road = YieldsList-from_zip (YieldsList-at c.zip.ensures.first (YieldsList-from_slice c.parts.result.now c.iter.ensures.rest)) (YieldsList-from_slice c.parts-2.result.now c.zip.ensures.second.0) in
    all_from_yields_List same_kind c.all.new.self _ _ c.all.ensures.ran road (λ x b q k. search (rules, bits-same))
    ∙ rw (c.parts.ensures, c.parts-2.ensures) (pairs-agree c.args.objects c.args.carried.now c.args.start.now)
