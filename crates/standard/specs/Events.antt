-- Demand 3's two decoders: what each gets of the same programme, as states and as calls on lent tables.
use Rattle.std.specs.Prelude.{ℕ, Bool, true, false, ◌&&◌, List, [], ◌∷◌, map, ℤ}
use Rattle.standard.specs.Rows.{State, fresh}
use Rattle.standard.specs.Meaning.{decoded, gapped}
use Rattle.standard.specs.Calls.{Lent}
use Rattle.standard.specs.Journal.{Record, payload, gap_notice, reset_notice, start_notice, reply_to}

-- a gap notice, or a reset, which counts as a gap
pub data Warning : Type 0 where
  of_gap of_reset : Warning

pub data Event : Type 0 where
  starts : Event  -- a programme start, to both
  heard : List ℕ → Event  -- a payload, to both
  missed : List ℕ → Event  -- a payload, to the first alone
  warns : Warning → Event  -- to the second alone
  warns_both : Warning → Event

module _ {A E : Type 0} where
  -- one event after the other
  unfoldable pub run : (A → E → A) → A → List E → A
  run f a [] = a
  run f a (e ∷ es) = run f (f a e) es

-- Whether the second can know that it missed something

pub data Following : Type 0 where
  warned : Following  -- it got a warning since the last payload that both heard
  astray : Following  -- it missed a payload unwarned, and got no warning since
  abreast : Following  -- neither

unfoldable pub follow : Following → Event → Following
follow f starts = abreast
follow f (warns n) = warned
follow f (warns_both n) = warned
follow warned (heard s) = abreast
follow warned (missed s) = warned
follow astray (heard s) = astray
follow astray (missed s) = astray
follow abreast (heard s) = abreast
follow abreast (missed s) = astray

abbrev pub is_astray : Following → Bool
is_astray warned = false
is_astray astray = true
is_astray abreast = false

-- after these events, which begin with both alike
abbrev pub gone_astray : List Event → Bool
gone_astray es = is_astray (run follow abreast es)

-- a gap notice or a reset in place of each payload that the second misses, as demand 3 has it
abbrev is_in_place : Event → Bool
is_in_place starts = false
is_in_place (heard s) = false
is_in_place (missed s) = false
is_in_place (warns n) = true
is_in_place (warns_both n) = false

unfoldable pub in_place : List Event → Bool
in_place [] = true
in_place (missed s ∷ []) = false
in_place (missed s ∷ e ∷ es) = is_in_place e && in_place es
in_place (starts ∷ es) = in_place es
in_place (heard s ∷ es) = in_place es
in_place (warns n ∷ es) = in_place es
in_place (warns_both n ∷ es) = in_place es

-- What each gets

unfoldable pub warning_of : Warning → Record
warning_of of_gap = gap_notice
warning_of of_reset = reset_notice

unfoldable pub first_gets : Event → List Record
first_gets starts = start_notice ∷ []
first_gets (heard s) = payload s ∷ []
first_gets (missed s) = payload s ∷ []
first_gets (warns n) = []
first_gets (warns_both n) = warning_of n ∷ []

unfoldable pub second_gets : Event → List Record
second_gets starts = start_notice ∷ []
second_gets (heard s) = payload s ∷ []
second_gets (missed s) = []
second_gets (warns n) = warning_of n ∷ []
second_gets (warns_both n) = warning_of n ∷ []

-- As states: the state that a record leaves

unfoldable pub state_after : State → Record → State
state_after st (payload s) = decoded st s
state_after st gap_notice = gapped st
state_after st reset_notice = gapped fresh
state_after st start_notice = fresh

unfoldable pub first : State → Event → State
first st e = run state_after st (first_gets e)

unfoldable pub second : State → Event → State
second st e = run state_after st (second_gets e)

-- As calls: the tables that a record leaves

unfoldable pub after : Lent → Record → Lent
after l r = (reply_to l r).lent

-- Threaded: each call is lent all four tables as the last one left them

unfoldable pub first_call : Lent → Event → Lent
first_call l e = run after l (first_gets e)

unfoldable pub second_call : Lent → Event → Lent
second_call l e = run after l (second_gets e)

-- In turns: each call is lent the retained table that the last one left, and any frame tables beside it

pub record Beside : Type 0 where
  pub start : List ℤ
  pub blocks : List ℤ
  pub timings : List ℕ

abbrev pub lend : Beside → List ℤ → Lent
lend b l = record { retained = l; start = b.start; blocks = b.blocks; timings = b.timings }

-- what is lent, less the retained table
abbrev pub beside : Lent → Beside
beside l = record { start = l.start; blocks = l.blocks; timings = l.timings }

-- an event, with the frame tables that each side lends at it
pub record Turn : Type 0 where
  pub event : Event
  pub one : Beside  -- by the first
  pub two : Beside  -- by the second

abbrev pub events : List Turn → List Event
events ts = map (λ (t : Turn). t.event) ts

unfoldable pub first_turn : List ℤ → Turn → List ℤ
first_turn l t = (first_call (lend t.one l) t.event).retained

unfoldable pub second_turn : List ℤ → Turn → List ℤ
second_turn l t = (second_call (lend t.two l) t.event).retained

-- What computing opens

unfoldable pub computed : Unit {0}
unfolding run follow in_place warning_of first_gets second_gets state_after first second after first_call second_call first_turn second_turn
computed = tt
