-- Why demand 3 leaves out a second decoder that has gone astray: what it shows as settled is another place than the first's.
use Prim.Native.Nat.{ℕ}
use mathlib.Core.Path.{◌≡◌, refl, ap}
use mathlib.Core.Bool.{true, false}
use mathlib.Core.List.{List, [], ◌∷◌, ◌++◌}
use native.Mathlib.Omega.{arith}
use lib.IntN.{nat_abs}
use Rattle.standard.specs.Tree.{Position}
use Rattle.standard.specs.Rows.{its_position}
use Rattle.standard.specs.Journal.{fresh_tables}
use Rattle.standard.specs.Events.{of_gap, of_reset, Event, starts, heard, missed, warns, warns_both, run, gone_astray, first_call, second_call}
use Rattle.standard.proofs.OnCalls.{CallsAgree}
use Rattle.standard.proofs.cases.Writer.{said, blocks, unity, place, first, rest_one, moved_one, written}

-- the object was at (10, 20, 5), and goes to (40, 50, 3)
abbrev onward : List ℕ
onward = said 1 (blocks 1 ++ first unity (place 40 50 1 3))

-- After these events, a payload at rest

abbrev Agree : List Event → Type 0
Agree es = CallsAgree rest_one (run first_call fresh_tables es) (run second_call fresh_tables es)

-- a row's x
at_x : Position → ℕ
at_x p = nat_abs p.point.x

-- a payload that the first alone hears, without a warning: the block row, and the start row
pub unwarned : Agree (heard moved_one ∷ missed onward ∷ []) → ⊥
unfolding written at_x
unwarned h = let e : ◌≡◌ {A = ℕ} 40 10 = ap at_x (h.frames.blocks.0.picture its_position refl) in omega arith

pub unwarned-start : Agree (heard moved_one ∷ missed onward ∷ []) → ⊥
unfolding written at_x
unwarned-start h = let e : ◌≡◌ {A = ℕ} 40 10 = ap at_x (h.frames.starts.0.picture its_position refl) in omega arith

-- and one behind a warning that a payload has used up
pub warned-before : Agree (warns of_gap ∷ heard moved_one ∷ missed onward ∷ []) → ⊥
unfolding written at_x
warned-before h = let e : ◌≡◌ {A = ℕ} 40 10 = ap at_x (h.frames.blocks.0.picture its_position refl) in omega arith

-- Both are astray

pub unwarned-astray : gone_astray (heard moved_one ∷ missed onward ∷ []) ≡ true
unfolding written
unwarned-astray = refl

pub warned-before-astray : gone_astray (warns of_gap ∷ heard moved_one ∷ missed onward ∷ []) ≡ true
unfolding written
warned-before-astray = refl

-- Nobody is with a warning between the two payloads that both hear, of either sort, to one or to both, before or after what is missed,

pub warned-after-it : gone_astray (heard moved_one ∷ missed onward ∷ missed moved_one ∷ warns of_reset ∷ []) ≡ false
unfolding written
warned-after-it = refl

pub warned-ahead : gone_astray (heard moved_one ∷ warns_both of_gap ∷ missed onward ∷ missed moved_one ∷ []) ≡ false
unfolding written
warned-ahead = refl

-- nor behind a programme start, nor with a warning that came late
pub started-since : gone_astray (heard moved_one ∷ missed onward ∷ starts ∷ []) ≡ false
unfolding written
started-since = refl

pub warned-late : gone_astray (heard moved_one ∷ missed onward ∷ heard rest_one ∷ warns of_gap ∷ []) ≡ false
unfolding written
warned-late = refl
