use Rattle.std.proofs.Common.{ℕ, ◌≤◌, Bool, true, false, cond, [], length, get_or, replicate, ◌∙◌, arith}
use Rattle.std.proofs.lemmas.List.{length-replicate}
use Rattle.bits.specs.Bits.{is_set}
use Rattle.assignment.specs.Kinds.{extend, Filled}
use Rattle.assignment.specs.Parts.{channel_kind}
use Rattle.assignment.proofs.Filling.{grown, none, extend-append}
use Rattle.assignment.proofs.Chosen.{chosen-all, chosen_none, chosen_more}
use Rattle.assignment.proofs.channels.extend_chosen.Goals as goal
use Rattle.assignment.proofs.channels.extend_chosen.Goals.{then-is_set, else-is_set}

-- the channel at hand, where it is chosen
channel : (c : goal.Joined-is_set) → Filled (cond (is_set c.loop-index.index c.args.assignment) (replicate (get_or c.args.widths.now c.loop-index.index 0) (channel_kind c.args.second_lfe c.loop-index.index)) []) c.loop-index.kinds c.if-is_set.kinds
channel c =
    elim c.if-is_set.branch [
      | then-is_set w ↦ rw (w.kinds-is, ← c.is_set.ensures, w.if-is_set.true, ← w.channel_kind.ensures) w.extend.ensures
      | else-is_set w ↦ rw (w.kinds-is, ← c.is_set.ensures, w.if-is_set.false) none
    ]

few : {A : Type 0} (b : Bool) (n : ℕ) (k : A) → length (cond b (replicate n k) []) ≤ n
few true n k = omega (arith, length-replicate n k)
few false n k = omega arith

pub loop-index-preserved : goal.loop-index-preserved
loop-index-preserved c =
    let h = channel c in
    let f = few (is_set c.loop-index.index c.args.assignment) (get_or c.args.widths.now c.loop-index.index 0) (channel_kind c.args.second_lfe c.loop-index.index) in
    record {
      count = omega (arith, grown h, f, c.type_inv.widths c.loop-index.index);
      left = rw (h.holds, ← extend-append, ← chosen_more _ _ _ _ c.loop-index-test.true) c.loop-index.invariant.left;
      table = h.table ∙ c.loop-index.invariant.table;
    }

pub returns : goal.returns
unfolding extend
returns c =
    record {
      holds = rw (← chosen-all) (rw (chosen_none c.args.second_lfe c.args.widths.now c.args.assignment c.loop-index.index c.loop-index-test.false) at c.loop-index.invariant.left);
      table = c.loop-index.invariant.table;
    }
