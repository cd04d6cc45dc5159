-- Demand 3 on states: a decoder that missed payloads, against one that heard them all.
use Prim.Native.Nat.{ℕ}
use mathlib.Core.Path.{◌≡◌, refl, sym, ◌∙◌}
use mathlib.Core.Bool.{true, false, false≢true}
use mathlib.Core.List.{List, [], ◌∷◌}
use Rattle.bits.proofs.Always.{Ok, All}
use Rattle.standard.specs.Rows.{State, fresh, is}
use Rattle.standard.specs.Meaning.{taken, decoded, gapped}
use Rattle.standard.specs.Events.{Warning, of_gap, of_reset, Event, starts, heard, missed, warns, warns_both, run, Following, abreast, warned, astray, follow, is_astray, gone_astray, warning_of, first_gets, second_gets, state_after, first, second}
use Rattle.standard.proofs.Small.{Pairs}
use Rattle.standard.proofs.FirstUpdates.{first_block}
use Rattle.standard.proofs.Agreement.{RowAgree}
use Rattle.standard.proofs.Related.{Fixed, Related, heard-related, heard-fixed, fresh-related, Agreement, agreed}

-- A warning

warning-fixed : (n : Warning) (st : State) → All Fixed st.rows → All Fixed (state_after st (warning_of n)).rows
unfolding state_after warning_of gapped fresh
warning-fixed of_gap st h = h
warning-fixed of_reset st h = tt

warning-doubts : (n : Warning) (st : State) → is 0 (state_after st (warning_of n)).doubt ≡ false
unfolding state_after warning_of gapped
warning-doubts of_gap st = refl
warning-doubts of_reset st = refl

-- By how the second follows: abreast, its rows agree unless there is doubt; warned, there is; astray, nothing is known
abbrev Known : Following → State → State → Type 0
Known abreast a b = is 0 b.doubt ≡ true → Pairs RowAgree a.rows b.rows
Known warned a b = is 0 b.doubt ≡ false
Known astray a b = Unit {0}

record Follows (f : Following) (a b : State) : Type 0 where
  fixed₁ : All Fixed a.rows
  fixed₂ : All Fixed b.rows
  known : Known f a b

related : (f : Following) (a b : State) → is_astray f ≡ false → Follows f a b → Related a b
related abreast a b e h = record { fixed₁ = h.fixed₁; fixed₂ = h.fixed₂; rows = h.known }
related warned a b e h = record { fixed₁ = h.fixed₁; fixed₂ = h.fixed₂; rows = λ d. absurd (false≢true (sym h.known ∙ d)) }
related astray a b e h = absurd (false≢true (sym e))

related-follows : (a b : State) → Related a b → Follows abreast a b
related-follows a b r = record { fixed₁ = r.fixed₁; fixed₂ = r.fixed₂; known = r.rows }

-- a payload that both hear
heard-follows : (f : Following) (a b : State) (s : List ℕ) → Follows f a b → Follows (follow f (heard s)) (decoded a s) (decoded b s)
unfolding follow decoded
heard-follows abreast a b s h = related-follows _ _ (heard-related a b (taken s) (first_block s) (related abreast a b refl h))
heard-follows warned a b s h = related-follows _ _ (heard-related a b (taken s) (first_block s) (related warned a b refl h))
heard-follows astray a b s h =
    record {
      fixed₁ = heard-fixed a (taken s) (first_block s) h.fixed₁;
      fixed₂ = heard-fixed b (taken s) (first_block s) h.fixed₂;
      known = tt;
    }

-- one that the first alone hears
missed-known : (f : Following) (a a' b : State) (s : List ℕ) → Known f a b → Known (follow f (missed s)) a' b
unfolding follow
missed-known abreast a a' b s h = tt
missed-known warned a a' b s h = h
missed-known astray a a' b s h = tt

step_follows : (f : Following) (a b : State) (e : Event) → Follows f a b → Follows (follow f e) (first a e) (second b e)
unfolding run follow first_gets second_gets state_after first second decoded
step_follows f a b starts h = related-follows fresh fresh fresh-related
step_follows f a b (heard s) h = heard-follows f a b s h
step_follows f a b (missed s) h =
    record { fixed₁ = heard-fixed a (taken s) (first_block s) h.fixed₁; fixed₂ = h.fixed₂; known = missed-known f a (decoded a s) b s h.known }
step_follows f a b (warns n) h = record { fixed₁ = h.fixed₁; fixed₂ = warning-fixed n b h.fixed₂; known = warning-doubts n b }
step_follows f a b (warns_both n) h = record { fixed₁ = warning-fixed n a h.fixed₁; fixed₂ = warning-fixed n b h.fixed₂; known = warning-doubts n b }

run-follows : (f : Following) (a b : State) (es : List Event) → Follows f a b → Follows (run follow f es) (run first a es) (run second b es)
unfolding run
run-follows f a b [] h = h
run-follows f a b (e ∷ es) h = run-follows (follow f e) (first a e) (second b e) es (step_follows f a b e h)

-- After any programme in which the second has not gone astray,
pub related-after : (es : List Event) → gone_astray es ≡ false → Related (run first fresh es) (run second fresh es)
related-after es e =
    related (run follow abreast es) (run first fresh es) (run second fresh es) e (run-follows abreast fresh fresh es (related-follows fresh fresh fresh-related))

-- a payload that both hear finds them in agreement.
pub demand3 : (es : List Event) (s : List ℕ) → gone_astray es ≡ false → Ok (Agreement (run first fresh es) (run second fresh es)) (taken s)
demand3 es s e = agreed (run first fresh es) (run second fresh es) (taken s) (first_block s) (related-after es e)
