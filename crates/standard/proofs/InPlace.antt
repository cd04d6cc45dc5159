-- Demand 3 in the words of the demand itself: the second gets a gap notice or a reset in place of each payload that it misses.
use Prim.Native.Nat.{ℕ}
use mathlib.Core.Path.{◌≡◌, refl}
use mathlib.Core.Bool.{true, false, false≢true}
use mathlib.Core.List.{List, [], ◌∷◌}
use Rattle.standard.specs.Calls.{Lent}
use Rattle.standard.specs.Events.{Event, starts, heard, missed, warns, warns_both, run, Following, abreast, warned, astray, follow, is_astray, gone_astray, in_place, first_call, second_call}
use Rattle.standard.proofs.OnCalls.{CallsAgree}
use Rattle.standard.proofs.Threaded.{Roomy, begun, demand3-threaded}

heard-follows : (f : Following) (s : List ℕ) → is_astray f ≡ false → is_astray (follow f (heard s)) ≡ false
unfolding follow
heard-follows abreast s h = refl
heard-follows warned s h = refl
heard-follows astray s h = h

never-astray : (f : Following) (es : List Event) → is_astray f ≡ false → in_place es ≡ true → is_astray (run follow f es) ≡ false
unfolding run follow in_place
never-astray f [] h p = h
never-astray f (starts ∷ es) h p = never-astray abreast es refl p
never-astray f (heard s ∷ es) h p = never-astray (follow f (heard s)) es (heard-follows f s h) p
never-astray f (warns n ∷ es) h p = never-astray warned es refl p
never-astray f (warns_both n ∷ es) h p = never-astray warned es refl p
never-astray f (missed s ∷ []) h p = absurd (false≢true p)
never-astray f (missed s ∷ warns n ∷ es) h p = never-astray warned es refl p
never-astray f (missed s ∷ starts ∷ es) h p = absurd (false≢true p)
never-astray f (missed s ∷ heard s' ∷ es) h p = absurd (false≢true p)
never-astray f (missed s ∷ missed s' ∷ es) h p = absurd (false≢true p)
never-astray f (missed s ∷ warns_both n ∷ es) h p = absurd (false≢true p)

-- So such a programme leaves nobody astray,
pub in-place-follows : (es : List Event) → in_place es ≡ true → gone_astray es ≡ false
in-place-follows es p = never-astray abreast es refl p

-- and a payload that both hear after it finds them in agreement.
pub demand3-in-place : (l m : Lent) (es : List Event) (s : List ℕ) → Roomy l → Roomy m → in_place es ≡ true
    → CallsAgree s (run first_call (begun l) es) (run second_call (begun m) es)
demand3-in-place l m es s b c p = demand3-threaded l m es s b c (in-place-follows es p)
