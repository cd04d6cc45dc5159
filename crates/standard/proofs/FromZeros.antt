-- Demand 3 from all zeros, which are what a programme start writes: tables of any sufficient length, all 0.
use Prim.Native.Nat.{ℕ, ◌≤◌}
use mathlib.Core.Path.{◌≡◌, ◌∙◌, ap}
use mathlib.Core.Bool.{true, false}
use mathlib.Core.List.{List}
use borrow.Author.Tests.{le-leb}
use lib.Dec.{leb}
use lib.IntN.{pos}
use lib.ListN.{length, replicate, length-replicate}
use Rattle.bits.proofs.Always.{All}
use Rattle.standard.specs.Numbers.{retained_length, start_length, blocks_length, timings_length}
use Rattle.standard.specs.Calls.{Lent, decode}
use Rattle.standard.specs.Journal.{with_retained, reply_to}
use Rattle.standard.specs.Events.{Event, run, gone_astray, after, first_call, second_call, Beside, lend, Turn, events, first_turn, second_turn}
use Rattle.standard.proofs.Tabled.{Enough, FirstRoomy, SecondRoomy, start-of-zeros}
use Rattle.standard.proofs.Marks.{no_gap}
use Rattle.standard.proofs.MarksOnCalls.{FrameSettled}
use Rattle.standard.proofs.OnCalls.{CallsAgree, demand3-turns}
use Rattle.standard.proofs.Threaded.{Roomy, begun, demand3-threaded, no-gap-threaded}

-- how long each table is
pub record Lengths : Type 0 where
  pub retained : ℕ
  pub start : ℕ
  pub blocks : ℕ
  pub timings : ℕ

pub record Sufficient (n : Lengths) : Type 0 where
  pub retained : retained_length ≤ n.retained
  pub start : start_length ≤ n.start
  pub blocks : blocks_length ≤ n.blocks
  pub timings : timings_length ≤ n.timings

abbrev pub zero_tables : Lengths → Lent
zero_tables n =
    record { retained = replicate n.retained (pos 0); start = replicate n.start (pos 0); blocks = replicate n.blocks (pos 0); timings = replicate n.timings 0 }

filled : {A : Type 0} (k n : ℕ) (a : A) → k ≤ n → leb k (length (replicate n a)) ≡ true
filled k n a h = ap (leb k) (length-replicate n a) ∙ le-leb k n h

pub zeros-roomy : (n : Lengths) → Sufficient n → Roomy (zero_tables n)
zeros-roomy n h =
    record {
      retained = filled retained_length n.retained (pos 0) h.retained;
      enough = record {
        start = filled start_length n.start (pos 0) h.start;
        blocks = filled blocks_length n.blocks (pos 0) h.blocks;
        timings = filled timings_length n.timings 0 h.timings;
      };
    }

-- All zeros need no programme start: it would leave them as they are.
pub zeros-begun : (n : Lengths) → Sufficient n → begun (zero_tables n) ≡ zero_tables n
unfolding after reply_to
zeros-begun n h = ap (with_retained (zero_tables n)) (start-of-zeros n.retained h.retained)

-- Demand 3 where each call is lent what the last one left, and the first ones all zeros,
pub demand3-from-zeros : (n k : Lengths) (es : List Event) (s : List ℕ) → Sufficient n → Sufficient k → gone_astray es ≡ false
    → CallsAgree s (run first_call (zero_tables n) es) (run second_call (zero_tables k) es)
demand3-from-zeros n k es s h i a =
    rw (zeros-begun n h, zeros-begun k i) at (demand3-threaded (zero_tables n) (zero_tables k) es s (zeros-roomy n h) (zeros-roomy k i) a)

-- and where at each event each side lends frame tables of its own, and retained tables that were all zeros at first.
pub demand3-turns-from-zeros : (b c : Beside) (n k : ℕ) (ts : List Turn) (s : List ℕ) → Enough b → Enough c → All FirstRoomy ts → All SecondRoomy ts
    → retained_length ≤ n → retained_length ≤ k → gone_astray (events ts) ≡ false
    → CallsAgree s (lend b (run first_turn (replicate n (pos 0)) ts)) (lend c (run second_turn (replicate k (pos 0)) ts))
demand3-turns-from-zeros b c n k ts s hb hc x y h i a =
    rw (start-of-zeros n h, start-of-zeros k i) at
    (demand3-turns b c (replicate n (pos 0)) (replicate k (pos 0)) ts s hb hc x y (filled retained_length n (pos 0) h) (filled retained_length k (pos 0) i) a)

-- From all zeros, too, none is unsettled without a gap or a reset.
pub no-gap-from-zeros : (n : Lengths) (es : List Event) (s : List ℕ) → Sufficient n → no_gap es ≡ true → FrameSettled (decode s (run second_call (zero_tables n) es))
no-gap-from-zeros n es s h e = rw (zeros-begun n h) at (no-gap-threaded (zero_tables n) es s (zeros-roomy n h) e)
