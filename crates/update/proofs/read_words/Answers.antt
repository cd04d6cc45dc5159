use Rattle.bits.specs.Parsed.{pure, ◌>>◌}
use Rattle.standard.specs.Updates.{update, table_data}
use Rattle.update.specs.declared.words.Update.TheVariants.{Inactive}
use Rattle.update.specs.Say.{update_said}
use Rattle.bits.proofs.Reading.{then, stops, next, next_stops, on_true, on_false, done, here_is}
use Rattle.update.proofs.read_words.Goals as goal
use Rattle.update.proofs.read_words.Goals.{then-inactive, else-inactive+in_ok-update}

pub returns-in_err-inactive : goal.returns-in_err-inactive
unfolding update
returns-in_err-inactive c = then _ here_is (stops _ c.in_err-inactive.ensures.reads c.from_residual.ensures.1)

pub returns-in_err-update : goal.returns-in_err-update
unfolding update
returns-in_err-update c =
    then _ here_is (then _ c.in_ok-inactive.ensures.reads (stops _ (on_false _ c.if-inactive.false c.in_err-update.ensures) c.from_residual-in_err-update.ensures.1))

pub returns-in_err-skip_table_data : goal.returns-in_err-skip_table_data
unfolding update
returns-in_err-skip_table_data c =
    let cut = c.from_residual-in_err-skip_table_data.ensures.1 in
    then _ here_is (then _ c.in_ok-inactive.ensures.reads
    elim c.if-inactive.branch [
      | then-inactive w ↦
          then {say = update_said} (λ u. table_data >> pure u) {a = Inactive c.args.bits.now.position} (on_true _ w.if-inactive.true done)
          (next_stops _ (rw w.bits-is at c.in_err-skip_table_data.ensures) cut)
      | else-inactive+in_ok-update w ↦ then _ (on_false _ w.if-inactive.false w.in_ok-update.ensures) (next_stops _ (rw w.bits-is at c.in_err-skip_table_data.ensures) cut)
    ])

pub returns : goal.returns
unfolding update
returns c =
    then _ here_is (then _ c.in_ok-inactive.ensures.reads
    elim c.if-inactive.branch [
      | then-inactive w ↦
          rw w.update-is (then {say = update_said} (λ u. table_data >> pure u) {a = Inactive c.args.bits.now.position} (on_true _ w.if-inactive.true done) (next (rw w.bits-is at c.in_ok-skip_table_data.ensures) done))
      | else-inactive+in_ok-update w ↦
          rw w.update-is (then _ (on_false _ w.if-inactive.false w.in_ok-update.ensures) (next (rw w.bits-is at c.in_ok-skip_table_data.ensures) done))
    ])
