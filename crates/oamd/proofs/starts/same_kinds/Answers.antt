-- The kinds and the retained rows, one beside the other.
use Rattle.std.proofs.Common.{rules, tests, sym, ap, ◌∙◌, map, length, arith}
use Rattle.std.proofs.lemmas.Bool.{ne_eqb}
use Rattle.std.proofs.lemmas.Iterator.{YieldsList-from_slice, YieldsList-from_zip}
use Rattle.std.proofs.lemmas.Iterator.Search.{all_from_yields_List}
use Rattle.std.proofs.lemmas.List.{length-map}
use Rattle.standard.specs.Meaning.{same_kinds}
use Rattle.standard.specs.Tables.{row_of}
use Rattle.rows.specs.Kinds.{kind_said}
use Rattle.oamd.proofs.HeldRows.{rows_held, alike, alike-all, unlike-lengths}
use Rattle.oamd.proofs.starts.same_kinds.Goals as goal

pub returns-then-rows-kinds : goal.returns-then-rows-kinds
returns-then-rows-kinds c =
    let ks = c.args.kinds.now in
    all_from_yields_List alike c.all.new.self _ _ c.all.ensures.ran (YieldsList-from_zip {s = c.zip.result} (YieldsList-from_slice ks (search rules)) (YieldsList-from_slice c.rows-rows.result.now (search rules))) (λ x b q k. search (rules, tests))
    ∙ alike-all ks c.rows-rows.result.now c.if-rows-kinds.true
    ∙ ap (same_kinds (map kind_said ks)) (rows_held _ c.rows-rows.ensures)

pub returns-else-rows-kinds : goal.returns-else-rows-kinds
returns-else-rows-kinds c =
    let ks = c.args.kinds.now in
    let rows = rows_held _ c.rows-rows.ensures in
    let n = length-map ks kind_said in
    let m = length-map c.rows-rows.result.now row_of in
    let k = ap length rows in
    rw (ne_eqb _ _ c.if-rows-kinds.false) (sym (unlike-lengths _ _ (λ e. c.if-rows-kinds.false (omega arith))))
