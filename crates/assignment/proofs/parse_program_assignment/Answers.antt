use Rattle.std.proofs.Common.{◌≡◌, List, length, map, ap, ◌∙◌, arith, rules, Result, refl}
use Rattle.std.proofs.lemmas.Bool.{eq-eqb, ne_eqb}
use Rattle.bits.specs.Parsed.{Parser}
use Rattle.bits.specs.Say.{ReadsAs}
use Rattle.bits.specs.declared.cursor.BitCursor.{BitCursor}
use Rattle.bits.specs.declared.refusals.Refusal.{Refusal}
use Rattle.bits.proofs.Reading.{stops, then, here_is, on_true, on_false, done, handed_on, anywhere}
use Rattle.rows.specs.Kinds.{kind_said}
use Rattle.standard.specs.Tree.{Kind}
use Rattle.standard.specs.Assignment.{assignment}
use Rattle.assignment.proofs.Adding.{gave, failed}
use Rattle.assignment.proofs.Filling.{grown, keeps-length, all-filled}
use Rattle.bits.proofs.Reading.{passes, fails}
use Rattle.assignment.proofs.parse_program_assignment.Goals as goal

pub returns-in_err-read_flag-clause-reads : goal.returns-in_err-read_flag-clause-reads
unfolding assignment
returns-in_err-read_flag-clause-reads c =
    let e = c.from_residual.ensures.1 in
    anywhere _ e refl refl (then _ here_is (stops _ c.in_err-read_flag.ensures.reads e))

pub returns-in_err-parse_dynamic_only-clause-reads : goal.returns-in_err-parse_dynamic_only-clause-reads
unfolding assignment
returns-in_err-parse_dynamic_only-clause-reads c =
    let e = c.from_residual-in_err-parse_dynamic_only.ensures.1 in
    anywhere _ e refl refl (then _ here_is (then _ c.in_ok-read_flag.ensures.reads (on_true _ c.if-branch.true (handed_on c.in_err-parse_dynamic_only.ensures e))))

pub returns-then-branch-clause-reads : goal.returns-then-branch-clause-reads
unfolding assignment
returns-then-branch-clause-reads c =
    then _ here_is (then _ c.in_ok-read_flag.ensures.reads (on_true _ c.if-branch.true c.in_ok-parse_dynamic_only.ensures))

pub returns-in_err-parse_contents-clause-reads : goal.returns-in_err-parse_contents-clause-reads
unfolding assignment
returns-in_err-parse_contents-clause-reads c =
    let e = c.from_residual-in_err-parse_contents.ensures.1 in
    anywhere _ e refl refl (then _ here_is (then _ c.in_ok-read_flag.ensures.reads (on_false _ c.if-branch.false (stops _ (failed c.in_err-parse_contents.ensures) e))))

-- the test of the count is a test of the kinds that were read
pub returns-then-kinds-clause-reads : goal.returns-then-kinds-clause-reads
unfolding assignment
returns-then-kinds-clause-reads c =
    let g = gave c.in_ok-parse_contents.ensures in
    let n : length g.kinds ≡ length c.args.kinds.now → ⊥ = λ e. c.if-kinds.true (omega (arith, grown g.filled, keeps-length g.filled, e)) in
    anywhere _ refl refl refl (then _ here_is (then _ c.in_ok-read_flag.ensures.reads (on_false _ c.if-branch.false (then _ g.reads (fails _ (ne_eqb _ _ n) c.invalid.ensures)))))

as_many : (c : goal.Else-kinds) → length (gave c.in_ok-parse_contents.ensures).kinds ≡ length c.args.kinds.now
as_many c =
    let g = gave c.in_ok-parse_contents.ensures in
    omega (arith, grown g.filled, keeps-length g.filled)

module _ {m : Parser (List Kind)} {c c' : BitCursor} {r : Result (Unit {0}) Refusal} where
  told : {a b : List Kind} → b ≡ a → ReadsAs (λ (u : Unit {0}). a) m c r c' → ReadsAs (λ (u : Unit {0}). b) m c r c'
  told e h = rw e h

pub returns-clause-reads : goal.returns-clause-reads
unfolding assignment
returns-clause-reads c =
    told (ap (map kind_said) (search rules) ∙ all-filled (gave c.in_ok-parse_contents.ensures).filled refl (as_many c)) (then _ here_is (then _ c.in_ok-read_flag.ensures.reads (on_false _ c.if-branch.false (then _ (gave c.in_ok-parse_contents.ensures).reads (passes _ (eq-eqb _ _ (as_many c)) done)))))
