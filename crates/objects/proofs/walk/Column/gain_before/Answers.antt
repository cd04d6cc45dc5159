use Rattle.std.proofs.Common.{◌≡◌, ℕ, ◌<◌, List, ℤ, zero, suc, ◌-◌, pos, rules, arith}
use lib.ListN.{get_or}
use Rattle.standard.specs.Numbers.{row_width}
use Rattle.standard.specs.Tables.{row_of}
use Rattle.rows.specs.Places.{row_at}
use Rattle.rows.proofs.Tests.{back}
use Rattle.objects.specs.Walk.{place, gain_before}
use Rattle.objects.proofs.Places.{next-to}
use Rattle.objects.proofs.walk.Column.gain_before.Goals as goal

pub returns-then-self-eq0 : goal.returns-then-self-eq0
unfolding gain_before
returns-then-self-eq0 c = rw c.if-self-eq0.true

pub overflow_sub-place : goal.overflow_sub-place
unfolding row_width
overflow_sub-place c =
    let beside = next-to c.args.self.objects c.args.block c.args.self.object (omega arith) in
    omega (arith, c.place.ensures, beside)

pub part_at-requires : goal.part_at-requires
unfolding row_width
part_at-requires c =
    let beside = next-to c.args.self.objects c.args.block c.args.self.object (omega arith) in
    omega (arith, c.place.ensures, beside, c.requires)

later : (n b o : ℕ) (t : List ℤ) → 0 < o → gain_before n b o t ≡ (row_at t (place n b (o - 1))).gain
unfolding gain_before
later n b zero t h = absurd (omega arith)
later n b (suc o) t h = let e : suc o - 1 ≡ o = omega arith in rw e

pub returns : goal.returns
unfolding row_width row_at row_of
returns c =
    let beside = next-to c.args.self.objects c.args.block c.args.self.object (omega arith) in
    let at : c.place.result - 16 ≡ place c.args.self.objects c.args.block (c.args.self.object - 1) = omega (arith, c.place.ensures, beside) in
    rw (back {z = get_or c.part_at.result.now 2 (pos 0)} (search rules), c.part_at.ensures, at, later c.args.self.objects c.args.block c.args.self.object c.args.blocks.now (omega arith))
