use Rattle.std.proofs.Common.{refl, arith, sym, ◌∙◌, ap, ◌-◌}
use Rattle.bits.specs.Reads.{extended}
use Rattle.std.proofs.lemmas.Bool.{eq-eqb, ne_eqb}
use Rattle.bits.proofs.Reading.{then, stops, then_with, stops_with, on_true, on_false, done, has, anywhere}
use Rattle.bits.proofs.Fields.{read-lt}
use lib.Pow.{pow_mono}
use Rattle.bits.proofs.cursor.BitCursor.read_extended.Goals as goal

pub returns-in_err-head-clause-reads : goal.returns-in_err-head-clause-reads
unfolding extended
returns-in_err-head-clause-reads c =
    let e = c.from_residual.ensures.1 in
    anywhere _ e refl refl (stops _ c.in_err-head.ensures.reads e)

pub returns-in_err-more-clause-reads : goal.returns-in_err-more-clause-reads
unfolding extended
returns-in_err-more-clause-reads c =
    anywhere _ c.from_residual-in_err-more.ensures.1 refl refl
    (then _ c.in_ok-head.ensures.reads (on_true _ (eq-eqb _ _ (c.if-head-largest.false ∙ ap (λ n. n - 1) c.two_to-largest.ensures)) (stops_with _ c.in_err-more.ensures.reads c.from_residual-in_err-more.ensures.1)))

pub returns-clause-reads : goal.returns-clause-reads
unfolding extended
returns-clause-reads c =
    rw (ap (λ n. n - 1) c.two_to-largest.ensures) (then _ c.in_ok-head.ensures.reads (on_true _ (eq-eqb _ _ (c.if-head-largest.false ∙ ap (λ n. n - 1) c.two_to-largest.ensures)) (then_with _ c.in_ok-more.ensures.reads)))

pub returns-then-head-largest-clause-reads : goal.returns-then-head-largest-clause-reads
unfolding extended
returns-then-head-largest-clause-reads c =
    then _ c.in_ok-head.ensures.reads (on_false _ (ne_eqb _ _ (λ e. c.if-head-largest.true (e ∙ sym (ap (λ n. n - 1) c.two_to-largest.ensures)))) done)

pub overflow_add-result : goal.overflow_add-result
overflow_add-result c =
    let h = has (read-lt _ _) c.in_ok-more.ensures.reads in
    let m = pow_mono c.requires.1 in
    let w = pow_mono c.requires.0 in
    omega (arith, h, m, w, c.two_to-largest.ensures)
