use Rattle.std.proofs.Common.{◌≡◌, refl, rules}
use Rattle.std.proofs.lemmas.Bool.{ne_eqb}
use Rattle.standard.specs.Updates.{render}
use Rattle.bits.proofs.Reading.{then, stops, then_as, stops_with, on_false, done}
use Rattle.update.proofs.render.read_render_info.Goals as goal

pub returns-in-0 : goal.returns-in-0
unfolding render
returns-in-0 c = rw c.in-0.is done

pub returns-in-2 : goal.returns-in-2
unfolding render
returns-in-2 c = rw c.in-2.is done

pub returns-in_err-flags-in_default : goal.returns-in_err-flags-in_default
unfolding render
returns-in_err-flags-in_default c =
    let zero : ¬ (c.args.status ≡ 0) = search rules in
    let two : ¬ (c.args.status ≡ 2) = search rules in
    on_false _ (ne_eqb _ _ zero) (on_false _ (ne_eqb _ _ two) (stops _ c.in_err-flags-in_default.ensures c.from_residual.ensures.1))

pub returns-in_err-groups-in_default : goal.returns-in_err-groups-in_default
unfolding render
returns-in_err-groups-in_default c =
    let zero : ¬ (c.args.status ≡ 0) = search rules in
    let two : ¬ (c.args.status ≡ 2) = search rules in
    on_false _ (ne_eqb _ _ zero) (on_false _ (ne_eqb _ _ two)
    (then _ c.in_ok-flags-in_default.ensures (stops_with _ c.in_err-groups-in_default.ensures c.from_residual-in_err-groups-in_default.ensures.1)))

pub returns-in_ok-groups-in_default : goal.returns-in_ok-groups-in_default
unfolding render
returns-in_ok-groups-in_default c =
    let zero : ¬ (c.args.status ≡ 0) = search rules in
    let two : ¬ (c.args.status ≡ 2) = search rules in
    on_false _ (ne_eqb _ _ zero) (on_false _ (ne_eqb _ _ two)
    (then _ c.in_ok-flags-in_default.ensures (then_as _ refl c.in_ok-groups-in_default.ensures)))
