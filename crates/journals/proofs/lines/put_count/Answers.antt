-- A word, a number behind it and the newline.
use Rattle.std.proofs.Common.{ℕ, arith, length-append}
use Rattle.journals.specs.Texts.{line_length}
use Rattle.journals.proofs.Putting.{puts, puts-more, puts-within}
use Rattle.journals.proofs.lines.put_count.Goals as goal

pub returns : goal.returns
returns c =
    let empty = c.new-line.ensures in
    puts-within (puts-more (puts-more (puts (rw empty at c.push.ensures)) c.push_numbers.ensures) (puts c.push-2.ensures)) line_length (omega (arith, c.push_numbers.ensures.short, length-append {A = ℕ}))
