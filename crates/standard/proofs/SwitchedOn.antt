-- A rack that is switched on in mid-programme and only reset: what it does not mark is what a decoder holds that heard all.
use Prim.Native.Nat.{ℕ}
use mathlib.Core.Path.{◌≡◌, refl, ◌∙◌, ap}
use mathlib.Core.Bool.{false}
use mathlib.Core.List.{List, [], ◌∷◌, ◌++◌, map}
use Rattle.standard.specs.Calls.{Lent}
use Rattle.standard.specs.Journal.{reset_notice, with_retained, reply_to}
use Rattle.standard.specs.Events.{of_reset, Event, missed, warns, run, Following, abreast, warned, follow, is_astray, after, warning_of, first_gets, second_gets, first_call, second_call}
use Rattle.standard.proofs.OnCalls.{CallsAgree}
use Rattle.standard.proofs.Threaded.{Roomy, begun, demand3-threaded}
use Rattle.standard.proofs.Tabled.{reset-again}

-- these payloads were missed, then comes a reset, and then these events
abbrev away : List (List ℕ) → List Event → List Event
away ss es = map missed ss ++ warns of_reset ∷ es

warned-by-it : (f : Following) (ss : List (List ℕ)) (es : List Event) → run follow f (away ss es) ≡ run follow warned es
unfolding run follow
warned-by-it f [] es = refl
warned-by-it f (s ∷ ss) es = warned-by-it (follow f (missed s)) ss es

first-heard : (l : Lent) (ss : List (List ℕ)) (es : List Event) → run first_call l (away ss es) ≡ run first_call l (map missed ss ++ es)
unfolding run first_call first_gets
first-heard l [] es = refl
first-heard l (s ∷ ss) es = first-heard (first_call l (missed s)) ss es

second-was-away : (l : Lent) (ss : List (List ℕ)) (es : List Event) → run second_call l (away ss es) ≡ run second_call (after l reset_notice) es
unfolding run second_call second_gets warning_of
second-was-away l [] es = refl
second-was-away l (s ∷ ss) es = second-was-away l ss es

-- a reset makes nothing of what was retained
reset-begun : (l : Lent) → after (begun l) reset_notice ≡ after l reset_notice
unfolding after reply_to
reset-begun l = ap (with_retained l) (reset-again l.retained)

-- One decoder begins with programme start and hears these payloads. Then a rack is switched on, with anything in its tables, and reset. Both
-- go on with one programme, and a payload that both hear finds them in agreement, unless the rack has gone astray since.
pub switched-on : (l m : Lent) (ss : List (List ℕ)) (es : List Event) (s : List ℕ) → Roomy l → Roomy m → is_astray (run follow warned es) ≡ false
    → CallsAgree s (run first_call (begun l) (map missed ss ++ es)) (run second_call (after m reset_notice) es)
switched-on l m ss es s b c a =
    rw (first-heard (begun l) ss es, second-was-away (begun m) ss es, reset-begun m) at
    (demand3-threaded l m (away ss es) s b c (ap is_astray (warned-by-it abreast ss es) ∙ a))
