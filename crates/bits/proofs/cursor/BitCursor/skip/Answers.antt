use Rattle.std.proofs.Common.{◌+◌, ◌-◌, ◌≡◌, refl, arith}
use Rattle.std.proofs.lemmas.Bool.{le-leb, lt-leb}
use Rattle.bits.specs.Reads.{skip}
use Rattle.bits.proofs.cursor.BitCursor.skip.Goals as goal

pub returns-then-self-at-clause-reads : goal.returns-then-self-at-clause-reads
unfolding skip
returns-then-self-at-clause-reads c =
    let at = c.args.self.now.position.0 in
    let limit = c.args.self.now.limit.0 in
    let none : limit - at ≡ 0 = omega (arith, c.if-self-at.true) in
    record {
      answer = rw (c.truncated.ensures, lt-leb (at + c.args.count) limit (omega (arith, c.if-self-at.true)), none) refl;
      bytes = refl;
      end = refl;
    }

pub returns-then-remained-count-clause-reads : goal.returns-then-remained-count-clause-reads
unfolding skip
returns-then-remained-count-clause-reads c =
    let at = c.args.self.now.position.0 in
    let limit = c.args.self.now.limit.0 in
    record {
      answer = rw (c.truncated-then-remained-count.ensures, lt-leb (at + c.args.count) limit (omega (arith, c.if-remained-count.true))) refl;
      bytes = refl;
      end = refl;
    }

pub returns-clause-reads : goal.returns-clause-reads
unfolding skip
returns-clause-reads c = record {
  answer = rw (le-leb (c.args.self.now.position.0 + c.args.count) c.args.self.now.limit.0 (omega arith)) refl;
  bytes = refl;
  end = refl;
}
