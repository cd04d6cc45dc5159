use Rattle.std.proofs.Common.{◌≡◌, ℕ, suc, ◌+◌, ◌-◌, refl, ◌∙◌, arith}
use Rattle.bits.specs.Parsed.{◌>>=◌}
use Rattle.bits.specs.Reads.{flag}
use Rattle.bits.specs.declared.cursor.BitCursor.{BitCursor}
use Rattle.bits.proofs.Reading.{Leads, begins, leads_to, turns, turn_stops, ends, done, has}
use Rattle.standard.specs.Contexts as context
use Rattle.standard.specs.Assignment.{beds, one_bed}
use Rattle.assignment.specs.Kinds.{Table, onto}
use Rattle.assignment.specs.Parts.{bed_count}
use Rattle.assignment.proofs.Adding.{gave}
use Rattle.assignment.proofs.Filling.{grown}
use Rattle.assignment.proofs.Growth.{bed-count-le, one-bed-le}
use Rattle.assignment.proofs.Stages.{some_beds, onto-counted, onto-more, onto-none}
use Rattle.assignment.proofs.beds.parse_beds.Goals as goal

-- what is left to read when nothing is, and when there are n beds
begun : (t : Table) (c : BitCursor) → Leads (onto t beds) c (flag context.bed-channel-distribution-flag >>= λ d. bed_count >>= λ n. onto t (some_beds n)) c
begun t c = begins (λ s e p. onto-counted t s e p)

pub returns-in_err-_distribute : goal.returns-in_err-_distribute
returns-in_err-_distribute c = record {
  reads = turn_stops _ (begun _ _) c.in_err-_distribute.ensures.reads c.from_residual.ensures.1;
  table = refl;
}

pub returns-in_err-end : goal.returns-in_err-end
returns-in_err-end c = record {
  reads = turn_stops _ (turns _ (begun _ _) c.in_ok-_distribute.ensures.reads) c.in_err-end.ensures c.from_residual-in_err-end.ensures.1;
  table = refl;
}

pub loop-init : goal.loop-init
loop-init c =
    let n : c.in_ok-end.end - 0 ≡ c.in_ok-end.end = omega arith in
    record {
      left = rw n (turns _ (turns _ (begun _ _) c.in_ok-_distribute.ensures.reads) c.in_ok-end.ensures);
      count = omega arith;
      table = refl;
    }

pub parse_bed-requires : goal.parse_bed-requires
parse_bed-requires c = omega (arith, has bed-count-le c.in_ok-end.ensures)

-- one bed and those that are left
one-more : (m : ℕ) {n : ℕ} (t t₀ : Table) {c₀ c : BitCursor} → n ≡ suc m → Leads (onto t₀ beds) c₀ (onto t (some_beds n)) c → Leads (onto t₀ beds) c₀ (onto t one_bed >>= λ t'. onto t' (some_beds m)) c
one-more m t t₀ h l = leads_to (rw h at l) (λ s e p. onto-more t s e p m)

pub returns-in_err-parse_bed : goal.returns-in_err-parse_bed
returns-in_err-parse_bed c = record {
  reads = turn_stops _ (one-more (c.in_ok-end.end - (c.loop.counter + 1)) _ _ (omega arith) c.loop.invariant.left) c.in_err-parse_bed.ensures.reads c.from_residual-in_err-parse_bed.ensures.1;
  table = c.parse_bed.ensures.table ∙ c.loop.invariant.table;
}

pub loop-preserved : goal.loop-preserved
loop-preserved c =
    let g = gave c.in_ok-parse_bed.ensures in
    record {
      left = turns _ (one-more _ _ _ (omega arith) c.loop.invariant.left) c.in_ok-parse_bed.ensures.reads;
      count = omega (arith, grown g.filled, has one-bed-le g.reads);
      table = c.in_ok-parse_bed.ensures.table ∙ c.loop.invariant.table;
    }

pub returns : goal.returns
returns c =
    let n : c.in_ok-end.end - c.loop.counter ≡ 0 = omega arith in
    record {
      reads = ends (leads_to (rw n at c.loop.invariant.left) (λ s e p. onto-none _ s e p)) done;
      table = c.loop.invariant.table;
    }
