use Rattle.std.proofs.Common.{◌≡◌, ℕ, zero, suc, ◌<◌, ℤ, cond, pos, eqb, Ok, sym, ap, ◌∙◌, arith, rules}
use Rattle.bits.specs.Say.{ReadsAs}
use Rattle.bits.specs.declared.cursor.BitCursor.{BitCursor}
use Rattle.standard.specs.Numbers.{silence}
use Rattle.standard.specs.Updates.{gain_word, gain_by}
use Rattle.standard.specs.Tree.{level}
use Rattle.update.specs.declared.words.GainWord.TheVariants.{Level}
use Rattle.update.specs.Say.{gain_said}
use Rattle.bits.proofs.Reading.{then, stops, then_as, stops_with, done}
use Rattle.rows.proofs.Tests.{back}
use Rattle.update.proofs.Numbers.{below}
use Rattle.update.proofs.basic.read_gain.Goals as goal

-- the two indices that say a level alone
alone : {c : BitCursor} {v : ℤ} (i : ℕ) → i < 2 → v ≡ cond (eqb i 1) silence (pos 0) → ReadsAs gain_said (gain_by i) c (Ok (Level v)) c
unfolding gain_by
alone zero h is = rw is done
alone (suc zero) h is = rw is done
alone (suc (suc n)) h is = absurd (omega arith)

pub returns-in_err-index : goal.returns-in_err-index
unfolding gain_word
returns-in_err-index c = stops _ c.in_err-index.ensures.reads c.from_residual.ensures.1

pub returns-in_err-word-in-2 : goal.returns-in_err-word-in-2
unfolding gain_word gain_by
returns-in_err-word-in-2 c =
    then _ c.in_ok-index.ensures.reads (rw c.in-2.is (stops_with _ c.in_err-word-in-2.ensures.reads c.from_residual-in_err-word-in-2.ensures.1))

pub gain_db-requires : goal.gain_db-requires
gain_db-requires c = below 6 _ c.in_ok-word-in-2.ensures.reads

pub returns-in_ok-word-in-2 : goal.returns-in_ok-word-in-2
unfolding gain_word gain_by
returns-in_ok-word-in-2 c =
    then _ c.in_ok-index.ensures.reads (rw c.in-2.is (then_as _ (ap level (sym c.gain_db.ensures ∙ sym (back c.gain_db.type_inv))) c.in_ok-word-in-2.ensures.reads))

pub returns-in-3 : goal.returns-in-3
unfolding gain_word gain_by
returns-in-3 c = then _ c.in_ok-index.ensures.reads (rw c.in-3.is done)

pub returns-in_default : goal.returns-in_default
unfolding gain_word
returns-in_default c =
    let two : ¬ (c.in_ok-index.index ≡ 2) = search rules in
    let three : ¬ (c.in_ok-index.index ≡ 3) = search rules in
    let small : c.in_ok-index.index < 2 = omega (arith, two, three, below 2 _ c.in_ok-index.ensures.reads) in
    then _ c.in_ok-index.ensures.reads (alone _ small (back c.level.type_inv ∙ c.level.ensures))
