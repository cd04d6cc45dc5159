-- The flag, and what it asks for.
use Rattle.std.proofs.Common.{refl, Ok, Err}
use Rattle.bits.proofs.Reading.{falls, then, stops, on_true, on_false, done}
use Rattle.standard.specs.Container.{if_set, flagged}
use Rattle.emdf.proofs.Reading.{no-value}
use Rattle.emdf.proofs.config.skip_flagged.Goals as goal

pub returns-in_err-read_flag : goal.returns-in_err-read_flag
unfolding flagged
returns-in_err-read_flag g c = λ m h. stops _ c.in_err-read_flag.ensures c.from_residual.ensures.1

pub returns-in_err-skip_it : goal.returns-in_err-skip_it
unfolding flagged if_set
returns-in_err-skip_it g c = λ m h.
    let skipped = h _ _ (Err _) (record { shown = _; shows = refl; left = _; met = c.in_err-skip_it.ensures; leaves = refl }) in
    then _ c.in_ok-read_flag.ensures (on_true _ c.if-branch.true (falls _ m (λ s l p z x. x) _ skipped c.from_residual-in_err-skip_it.ensures.1))

pub returns-in_ok-skip_it : goal.returns-in_ok-skip_it
unfolding flagged if_set
returns-in_ok-skip_it g c = λ m h.
    let skipped = h _ _ (Ok _) (record { shown = _; shows = refl; left = _; met = c.in_ok-skip_it.ensures; leaves = refl }) in
    then _ c.in_ok-read_flag.ensures (on_true _ c.if-branch.true (no-value skipped))

pub returns-else-branch : goal.returns-else-branch
unfolding flagged if_set
returns-else-branch g c = λ m h. then _ c.in_ok-read_flag.ensures (on_false _ c.if-branch.false done)
