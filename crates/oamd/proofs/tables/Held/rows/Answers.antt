-- All that lies behind the count and the doubt.
use Rattle.std.proofs.Common.{◌-◌, ◌∙◌, length, drop, refl, arith}
use Rattle.std.proofs.lemmas.List.{take_all, length-drop}
use Rattle.standard.specs.Numbers.{retained_head}
use Rattle.oamd.proofs.HeldRows.{parts_there}
use Rattle.oamd.proofs.tables.Held.rows.Goals as goal

pub parts-requires : goal.parts-requires
parts-requires c = parts_there c.args.self.long c.count.ensures

pub returns : goal.returns
unfolding retained_head
returns c =
    let l = c.args.self.table.now in
    c.parts.ensures ∙ rw (c.count.ensures.same, take_all (length l - 2) (drop 2 l) (simp length-drop (omega arith))) refl
