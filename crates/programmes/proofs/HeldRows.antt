-- Demand 3 for a frame without blocks: its start rows in two decoders of one programme, of which the second may miss payloads.
use mathlib.Core.Path.{◌≡◌}
use mathlib.Core.Logic.{◌⊎◌, inl, inr}
use mathlib.Core.Bool.{true, false}
use mathlib.Core.List.{List, [], ◌∷◌, map}
use lib.Dec.{leb}
use lib.IntN.{ℤ}
use lib.ListN.{length}
use Rattle.bits.proofs.Always.{All}
use Rattle.standard.specs.Numbers.{start_length}
use Rattle.standard.specs.Rows.{Row, State, fresh, is}
use Rattle.standard.specs.Marks.{unsettled}
use Rattle.standard.specs.Meaning.{held_row, held_rows}
use Rattle.standard.specs.Tables.{rows_of, state_of}
use Rattle.standard.specs.CarriedCalls.{hold}
use Rattle.standard.specs.Events.{Event, run, gone_astray, first, second}
use Rattle.standard.proofs.Small.{Pairs}
use Rattle.standard.proofs.Related.{StartAgree, Related, held-agree}
use Rattle.standard.proofs.Demand3.{related-after}
use Rattle.standard.proofs.Tabled.{Holds}
use Rattle.programmes.proofs.Branches.{by-test}
use Rattle.programmes.proofs.Shelves.{hold-passes, held_back}

abbrev pub Unsettled : Row → Type 0
Unsettled r = r.mark ≡ unsettled

-- d: the second's doubt. In doubt none of its rows is settled; else they are as many as the first's, and agree as start rows do
abbrev pub HeldAgree : ℤ → List Row → List Row → Type 0
HeldAgree d xs ys = ((is 0 d ≡ false) × All Unsettled ys) ⊎ ((is 0 d ≡ true) × Pairs (StartAgree d) xs ys)

in-doubt : (d : ℤ) → is 0 d ≡ false → (rs : List Row) → All Unsettled (map (held_row d) rs)
unfolding held_row
in-doubt d e [] = tt
in-doubt d e (r ∷ rs) = (rw e, in-doubt d e rs)

holds_agree : (a b : State) → Related a b → HeldAgree b.doubt (held_rows a) (held_rows b)
holds_agree a b h =
    by-test (is 0 b.doubt) (λ e. inr (e, held-agree a.doubt b.doubt e a.rows b.rows (h.rows e)))
    (λ e. inl (e, in-doubt b.doubt e b.rows))

-- after any programme in which the second has not gone astray
pub demand3-held : (es : List Event) → gone_astray es ≡ false → let b = run second fresh es in HeldAgree b.doubt (held_rows (run first fresh es)) (held_rows b)
demand3-held es e = holds_agree (run first fresh es) (run second fresh es) (related-after es e)

-- and so of the rows that hold writes, from tables that stand for what the two keep
pub demand3-hold : (l m s t : List ℤ) (es : List Event) → leb start_length (length s) ≡ true → leb start_length (length t) ≡ true
    → Holds l (run first fresh es) → Holds m (run second fresh es) → gone_astray es ≡ false
    → let x = hold l s in let y = hold m t in HeldAgree (state_of m).doubt (rows_of x.objects x.start) (rows_of y.objects y.start)
demand3-hold l m s t es hs ht hl hm e =
    rw (hold-passes l hl.good s hs, hold-passes m hm.good t ht, held_back l hl.good s hs, held_back m hm.good t ht, hl.state, hm.state) (demand3-held es e)
