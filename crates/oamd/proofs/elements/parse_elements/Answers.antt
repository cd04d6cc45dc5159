-- The elements that are left go on from the frame so far.
use Rattle.std.proofs.Common.{◌≡◌, ℕ, suc, ◌+◌, ◌-◌, ◌<◌, ◌≤◌, List, Bool, arith, Result, Ok, Err}
use Rattle.bits.specs.Parsed.{Parser}
use Rattle.bits.specs.declared.cursor.BitCursor.{BitCursor}
use Rattle.bits.specs.declared.refusals.Refusal.{Refusal}
use Rattle.bits.proofs.Reading.{HandsOn, Leads, turns, turn_stops, ends, done}
use Rattle.standard.specs.Tree.{Kind}
use Rattle.standard.specs.Rows.{Row}
use Rattle.oamd.specs.Frame.{Frame, element_in, elements_in}
use Rattle.oamd.specs.Reading.{Framing}
use Rattle.oamd.specs.Say.{said_frame}
use Rattle.oamd.specs.Tables.{Kept}
use Rattle.oamd.specs.declared.tables.BlockTables.{BlockTables}
use Rattle.oamd.proofs.Framing.{both}
use Rattle.oamd.proofs.elements.parse_elements.Goals as goal

-- i of n were read
one_more : {n i : ℕ} → i < n → n - i ≡ suc (n - (i + 1))
one_more h = omega arith

module _ (starts : List Row) (alternated : Bool) (kinds : List Kind) (n i : ℕ) {m₀ : Parser Frame} {c₀ c : BitCursor} {t : BlockTables}
    (l : Leads m₀ c₀ (elements_in starts (n - i) alternated kinds (said_frame t)) c) where
  module _ {c' : BitCursor} {t' : BlockTables} where
    next_read : i < n → Framing (element_in starts alternated kinds (said_frame t)) c t (Ok tt) c' t' → Leads m₀ c₀ (elements_in starts (n - (i + 1)) alternated kinds (said_frame t')) c'
    unfolding elements_in
    next_read h g = turns (λ f. elements_in starts (n - (i + 1)) alternated kinds f) (rw (one_more h) at l) g.reads

    next_stops : {e : Refusal} {r : Result (Unit {0}) Refusal} {t₀ : BlockTables} → Kept t₀ t → i < n → Framing (element_in starts alternated kinds (said_frame t)) c t (Err e) c' t' → HandsOn e r
        → Framing m₀ c₀ t₀ r c' t'
    unfolding elements_in
    next_stops k h g x =
        record { reads = turn_stops (λ f. elements_in starts (n - (i + 1)) alternated kinds f) (rw (one_more h) at l) g.reads x; kept = both k g.kept }

  all_read : {t₀ : BlockTables} → Kept t₀ t → n ≤ i → Framing m₀ c₀ t₀ (Ok tt) c t
  unfolding elements_in
  all_read k h =
      let e : n - i ≡ 0 = omega arith in
      record { reads = ends (rw e at l) done; kept = k }

pub returns-in_err-parse_element : goal.returns-in_err-parse_element
returns-in_err-parse_element c =
    next_stops _ _ _ _ _ c.loop-element.invariant.rest c.loop-element.invariant.kept c.loop-element-test.true c.in_err-parse_element.ensures c.from_residual.ensures.1

pub loop-element-preserved : goal.loop-element-preserved
loop-element-preserved c =
    record {
      rest = next_read _ _ _ _ _ c.loop-element.invariant.rest c.loop-element-test.true c.in_ok-parse_element.ensures;
      kept = both c.loop-element.invariant.kept c.in_ok-parse_element.ensures.kept;
    }

pub returns : goal.returns
returns c = all_read _ _ _ _ _ c.loop-element.invariant.rest c.loop-element.invariant.kept c.loop-element-test.false
