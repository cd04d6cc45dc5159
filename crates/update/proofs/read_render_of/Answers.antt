use Rattle.std.proofs.Common.{sym, ◌∙◌}
use Rattle.standard.specs.Updates.{render_of}
use Rattle.bits.proofs.Reading.{then, stops, on_true, on_false, done, here_is}
use Rattle.update.proofs.read_render_of.Goals as goal

pub returns-then-not-is_dynamic : goal.returns-then-not-is_dynamic
unfolding render_of
returns-then-not-is_dynamic c = on_false _ (sym c.is_dynamic.ensures ∙ c.if-not-is_dynamic.true) done

pub returns-in_err-status : goal.returns-in_err-status
unfolding render_of
returns-in_err-status c =
    on_true _ (sym c.is_dynamic.ensures ∙ c.if-not-is_dynamic.false) (then _ here_is (stops _ c.in_err-status.ensures c.from_residual.ensures.1))

pub returns : goal.returns
unfolding render_of
returns c =
    on_true _ (sym c.is_dynamic.ensures ∙ c.if-not-is_dynamic.false) (then _ here_is (then _ c.in_ok-status.ensures c.read_render_info.ensures))
