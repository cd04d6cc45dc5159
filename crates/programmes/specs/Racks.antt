-- The same programme by the calls alone, on lent tables.
use Rattle.std.specs.Prelude.{ℕ, cond, List, map, eqb, ℤ}
use Rattle.std.proofs.Math.Option.{Option, none, some}
use Rattle.standard.specs.Numbers.{accepted}
use Rattle.standard.specs.Calls.{Done, decode, programme_start, reset, gap}
use Rattle.standard.specs.Events.{Beside, lend, beside}
use Rattle.standard.specs.Carried.{Rule, rule1, rule2}
use Rattle.standard.specs.CarriedCalls.{Going, hold, TimingAnswer, timing_by_rule, CarryAnswer, carry, drop_ramp}
use Rattle.programmes.specs.Programmes.{Event, frame, gaps, resets, starts}

-- what is kept between the frames
pub record Rack : Type 0 where
  pub retained : List ℤ
  pub carried : List ℤ
  pub going : Going

-- a frame's tables, with its counts
pub record Shelf : Type 0 where
  pub retained : List ℤ
  pub beside : Beside
  pub objects : ℕ
  pub blocks : ℕ

-- without blocks: the start rows are held
unfoldable pub held : List ℤ → Beside → Shelf
held l b =
    let h = hold l b.start in
    record { retained = l; beside = record { start = h.start; blocks = b.blocks; timings = b.timings }; objects = h.objects; blocks = 0 }

-- decoded; after a refusal, held
unfoldable pub shelved : Done → Shelf
shelved d =
    let b = beside d.lent in
    cond (eqb d.answer.verdict.number accepted)
    (record { retained = d.lent.retained; beside = b; objects = d.answer.objects; blocks = d.answer.blocks })
    (held d.lent.retained b)

unfoldable pub opening : Beside → List ℤ → Option (List ℕ) → Shelf
opening b l none = held l b
opening b l (some s) = shelved (decode s (lend b l))

abbrev pub rule_number : Rule → ℕ
rule_number rule1 = 1
rule_number rule2 = 2

-- before the frame's samples
unfoldable pub timed_on : Rule → Rack → Shelf → TimingAnswer
timed_on r k x = timing_by_rule (rule_number r) x.beside.timings x.blocks x.objects x.beside.start k.carried k.going

-- behind them, where the timings passed
unfoldable pub carried_on : Rule → Rack → Shelf → TimingAnswer → CarryAnswer
carried_on r k x t =
    cond (eqb t.number accepted)
    (carry (rule_number r) x.beside.timings x.blocks x.objects x.beside.start x.beside.blocks k.carried t.going)
    (record { number = t.number; going = t.going; carried = k.carried })

-- an event, with the frame tables that are lent at it, whatever stands in them
pub record Turn : Type 0 where
  pub event : Event
  pub beside : Beside

abbrev pub events : List Turn → List Event
events ts = map (λ (t : Turn). t.event) ts

unfoldable pub called : Rack → Beside → Event → Rack
called k b (frame r s) =
    let x = opening b k.retained s in
    let c = carried_on r k x (timed_on r k x) in
    record { retained = x.retained; carried = c.carried; going = c.going }
called k b gaps = record { retained = (gap k.retained).retained; carried = k.carried; going = drop_ramp k.going }
called k b resets = record { retained = (reset k.retained).retained; carried = k.carried; going = drop_ramp k.going }
called k b starts = record { retained = (programme_start k.retained).retained; carried = k.carried; going = drop_ramp k.going }

unfoldable pub turned : Rack → Turn → Rack
turned k t = called k t.beside t.event

-- What computing opens

unfoldable pub computed : Unit {0}
unfolding held shelved opening timed_on carried_on called turned
computed = tt
