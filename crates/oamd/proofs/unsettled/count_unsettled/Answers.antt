use Rattle.std.proofs.Common.{rules, ◌≡◌, ℕ, ◌+◌, ◌-◌, not, cond, Bool, true, false, refl, sym, ap, ◌∙◌, List, ℤ, map, length, take, drop, arith}
use Rattle.std.specs.List.{count_by}
use Rattle.std.specs.Simd.{first_chunks}
use Rattle.std.proofs.lemmas.List.{take_all, length-drop, length-map}
use Rattle.std.proofs.lemmas.List.Recursion.{is_count_by}
use Rattle.std.proofs.lemmas.List.Sums.{count_by-le-length}
use Rattle.standard.specs.Marks.{is_settled}
use Rattle.standard.specs.Numbers.{row_width, object_limit}
use Rattle.standard.specs.Meaning.{unsettled_count}
use Rattle.standard.specs.Tables.{row_of, rows_of}
use Rattle.rows.proofs.Parts.{parts-rows}
use Rattle.rows.proofs.Rows.{length-rows_of}
use Rattle.oamd.proofs.unsettled.count_unsettled.Goals as goal

abbrev loose : List ℤ → Bool
loose part = not (is_settled (row_of part).mark)

one : (b : Bool) (n : ℕ) → cond b 0 1 + n ≡ cond (not b) (1 + n) n
one true n = omega arith
one false n = refl

counted : (ps : List (List ℤ)) → count_by loose ps ≡ unsettled_count (map row_of ps)
unfolding unsettled_count
counted ps = sym (is_count_by (λ qs. unsettled_count (map row_of qs)) loose refl (λ q qs. one (is_settled (row_of q).mark) (unsettled_count (map row_of qs))) ps)

-- the first rows of what is left of the blocks
rows_left : (from n : ℕ) (l : List ℤ) → map row_of (first_chunks row_width n (take (length l - from) (drop from l))) ≡ rows_of n (drop from l)
rows_left from n l = parts-rows n _ ∙ rw (take_all (length l - from) (drop from l) (simp length-drop (omega arith))) refl

pub returns : goal.returns
returns c =
    let h : c.count.result ≡ count_by loose c.parts.result.now = search rules in
    h ∙ counted c.parts.result.now ∙ rw (c.parts.ensures) (ap unsettled_count (rows_left c.args.from c.args.count c.args.blocks.now))

pub overflow_cast-result : goal.overflow_cast-result
unfolding object_limit
overflow_cast-result c =
    let h : c.count.result ≡ count_by loose c.parts.result.now = search rules in
    let k = count_by-le-length loose c.parts.result.now in
    let n : length c.parts.result.now ≡ c.args.count = sym (length-map c.parts.result.now row_of) ∙ ap (λ ps. length (map row_of ps)) c.parts.ensures ∙ ap length (rows_left c.args.from c.args.count c.args.blocks.now) ∙ length-rows_of c.args.count _ in
    omega (arith, h, k, n, c.requires)
