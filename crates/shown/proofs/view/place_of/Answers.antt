-- An Lfe by its number, or number by number.
use Rattle.std.proofs.Common.{rules, arith, refl, sym, ◌∙◌, ◌≡◌, true, false}
use borrow.Author.Tests.{eq-eqb, ne_eqb}
use lib.Ieee.{of_bits, neg}
use Rattle.standard.specs.Rows.{is}
use Rattle.standard.specs.Shown.{shown}
use Rattle.rows.proofs.Tests.{bits_is}
use Rattle.shown.proofs.view.place_of.Goals as goal

pub returns-then-row-number : goal.returns-then-row-number
unfolding shown of_bits neg
returns-then-row-number c =
    let lfe : is 0 c.args.row.kind ≡ true = sym (bits_is 0 c.args.row.kind (omega arith) (search rules)) ∙ (rw c.number.ensures at (eq-eqb _ _ c.if-row-number.true)) in
    rw lfe (record { x = refl; y = refl; z = refl })

pub returns : goal.returns
unfolding shown
returns c =
    let other : is 0 c.args.row.kind ≡ false = sym (bits_is 0 c.args.row.kind (omega arith) (search rules)) ∙ (rw c.number.ensures at (ne_eqb _ _ c.if-row-number.false)) in
    rw other (record { x = search rules; y = search rules; z = search rules })
