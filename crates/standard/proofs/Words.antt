-- Every word that the syntax gives is in the form that a row asks for.
use Prim.Native.Nat.{ℕ, zero, suc, ◌+◌, ◌-◌, ◌≤◌, ◌<◌, min}
use mathlib.Core.Path.{◌≡◌, refl, ◌∙◌, ap}
use mathlib.Core.Bool.{Bool, true, false, cond, ◌&&◌}
use mathlib.Core.List.{List}
use mathlib.Core.Logic.{◌≢◌}
use mathlib.Core.Option.{Option}
use native.Mathlib.Omega.{arith}
use lib.Dec.{leb, eqb, leb-zero}
use lib.IntN.{ℤ, pos, neg_ℤ}
use borrow.Author.Tests.{le-leb, leb-true, eqb-true, eqb-false}
use Rattle.bits.specs.Bits.{is_set}
use Rattle.bits.specs.Parsed.{Placed}
use Rattle.bits.proofs.Always.{Ok, All, Always, IfSome, OfWord, bind, after, next, mapped, mapped-such, choose, given, none-given, repeated, required, if_some, at_place}
use Rattle.bits.proofs.Fields.{read-lt}
use Rattle.standard.specs.Numbers.{side_limit, height_limit, size_limit, infinity, priority_limit}
use Rattle.standard.specs.Tree.{Kind, is_dynamic, Zone, Size, GainWord, level, copied, PointWord, absolute, moved, PositionWord, Basic, Groups, Render, default, kept, Update, inactive, active, Object}
use Rattle.standard.specs.Updates.{decibels, gain_by, gain_word, priority_word, levels, parts, basic, differential, absolutely, distance, position_word, bit, zone_word, sized, three_sizes, size_by, size_word, screen_word, groups, render, render_of, active_update, update, object}
use Rattle.standard.specs.Meaning.{taken}
use Rattle.standard.specs.Tables.{between, is_flag, up_to, gain_form, point_form, point_tests, size_form, zone_form}
use Rattle.standard.proofs.Small.{and_left, and_right, both}
use Rattle.standard.proofs.Payload.{InTree, in-objects}

-- a word, where there is one
module _ {A : Type 0} where
  abbrev pub IfSaid : (A → Type 0) → Option (Placed A) → Type 0
  IfSaid P o = IfSome (OfWord P) o

pos-between : (h n : ℕ) → n ≤ h → between (pos 0) (pos h) (pos n) ≡ true
pos-between h n l = both _ _ (leb-zero n) (le-leb n h l)

-- Gain and priority

abbrev pub GainOk : GainWord → Type 0
GainOk (level v) = gain_form v ≡ true
GainOk copied = Unit {0}

-- a test of every number below n
all_below : (ℕ → Bool) → ℕ → Bool
all_below f zero = true
all_below f (suc n) = f n && all_below f n

below : (f : ℕ → Bool) (n : ℕ) → all_below f n ≡ true → (w : ℕ) → w < n → f w ≡ true
unfolding all_below
below f zero h w l = absurd (omega arith)
below f (suc n) h w l = go (below f n (and_right (f n) (all_below f n) h) w) (eqb w n) refl
  where
    go : (w < n → f w ≡ true) → (b : Bool) → eqb w n ≡ b → f w ≡ true
    go ih true e = ap f (eqb-true w n e) ∙ and_left (f n) (all_below f n) h
    go ih false e = let ne : w ≢ n = eqb-false w n e in ih (omega arith)

decibels-form : (w : ℕ) → w < 64 → gain_form (decibels w) ≡ true
unfolding gain_form decibels all_below
decibels-form w h = below (λ n. gain_form (decibels n)) 64 refl w h

gain-ok : Always GainOk gain_word
unfolding gain_by gain_word gain_form
gain-ok =
    after _ _ λ code.
    choose (eqb code 0) (given _ refl)
    (choose (eqb code 1) (given _ refl) (choose (eqb code 2) (mapped-such _ (read-lt 6 _) decibels-form) (given _ tt)))

abbrev pub PriorityOk : ℤ → Type 0
PriorityOk v = between (pos 0) (pos priority_limit) v ≡ true

priority-ok : Always PriorityOk priority_word
unfolding priority_word
priority-ok = after _ _ λ usual. choose usual (given _ refl) (mapped-such pos (read-lt 5 _) λ v h. pos-between priority_limit v (omega arith))

pub record BasicOk (b : Basic) : Type 0 where
  pub gain : IfSaid GainOk b.gain
  pub priority : IfSaid PriorityOk b.priority

basic-ok : (at status : ℕ) → Always BasicOk (basic at status)
unfolding basic parts levels gain_form
basic-ok at status =
    choose (eqb status 0) (given _ (record { gain = refl; priority = refl }))
    (choose (eqb status 2) (given _ (record { gain = tt; priority = tt }))
    (after _ _ λ flags.
    bind _ (if_some (is_set 1 flags) (at_place gain-ok)) λ g hg.
    bind _ (if_some (is_set 0 flags) (at_place priority-ok)) λ n hn. given _ (record { gain = hg; priority = hn })))

-- The groups

abbrev pub PointOk : PointWord → Type 0
PointOk (absolute p) = point_form p ≡ true
PointOk (moved d) = Unit {0}

abbrev pub DistanceOk : ℤ → Type 0
DistanceOk n = up_to infinity n ≡ true

pub record PositionOk (w : PositionWord) : Type 0 where
  pub point : PointOk w.point
  pub distance : DistanceOk w.distance

height-form : (positive : Bool) (z : ℕ) → z < 16 → between (neg_ℤ (pos height_limit)) (pos height_limit) (cond positive (pos z) (neg_ℤ (pos z))) ≡ true
height-form true z h = le-leb z height_limit (omega arith)
height-form false zero h = refl
height-form false (suc z) h = both _ _ (le-leb z (height_limit - 1) (omega arith)) refl

absolute-ok : Always PointOk absolutely
unfolding absolutely point_form point_tests
absolute-ok =
    after _ _ λ x. after _ _ λ y. after _ _ λ positive. bind _ (read-lt 4 _) λ z hz.
    given _ (both _ _ (pos-between side_limit (min x side_limit) (omega arith)) (both _ _ (pos-between side_limit (min y side_limit) (omega arith)) (both _ _ (height-form positive z hz) refl)))

distance-ok : Always DistanceOk distance
unfolding distance
distance-ok =
    after _ _ λ specified.
    choose specified
    (after _ _ λ infinite. choose infinite (given _ refl) (mapped-such _ (read-lt 4 _) λ n h. pos-between infinity (n + 1) (omega arith)))
    (given _ refl)

position-ok : (first : Bool) → Always PositionOk (position_word first)
unfolding position_word differential
position-ok first =
    after _ _ λ d. bind _ (choose d (after _ _ λ x. after _ _ λ y. after _ _ λ z. given _ tt) absolute-ok) λ w h.
    bind _ distance-ok λ n hn. given _ (record { point = h; distance = hn })

bit-flag : (b : Bool) → is_flag (bit b) ≡ true
unfolding bit
bit-flag true = refl
bit-flag false = refl

abbrev pub ZoneOk : Zone → Type 0
ZoneOk z = zone_form z ≡ true

zone-ok : Always ZoneOk zone_word
unfolding zone_word zone_form
zone-ok =
    after _ _ λ at. after _ _ λ n. required (leb n 5) _ λ h. after _ _ λ up.
    given _ (both _ _ (pos-between 5 n (leb-true n 5 h)) (both _ _ (bit-flag up) refl))

abbrev pub SizeOk : Size → Type 0
SizeOk s = size_form s ≡ true

sized-ok : (w d h : ℕ) → w < 32 → d < 32 → h < 32 → SizeOk (sized w d h)
unfolding sized size_form
sized-ok w d h j k l =
    both _ _ (pos-between size_limit w (omega arith)) (both _ _ (pos-between size_limit d (omega arith)) (both _ _ (pos-between size_limit h (omega arith)) refl))

size_ok : Always SizeOk size_word
unfolding size_word size_by three_sizes
size_ok =
    after _ _ λ at. after _ _ λ code.
    choose (eqb code 0) (given _ (sized-ok 0 0 0 (omega arith) (omega arith) (omega arith)))
    (choose (eqb code 1) (mapped-such _ (read-lt 5 _) λ n h. sized-ok n n n h h h)
    (choose (eqb code 2)
    (bind _ (read-lt 5 _) λ w hw. bind _ (read-lt 5 _) λ d hd. bind _ (read-lt 5 _) λ h hh. given _ (sized-ok w d h hw hd hh))
    (none-given _)))

abbrev pub FlagOk : ℤ → Type 0
FlagOk v = is_flag v ≡ true

screen-ok : Always FlagOk screen_word
unfolding screen_word
screen-ok = after _ _ λ on. choose on (next _ (next _ (given _ (bit-flag on)))) (given _ (bit-flag on))

pub record GroupsOk (w : Groups) : Type 0 where
  pub position : IfSaid PositionOk w.position
  pub zone : IfSaid ZoneOk w.zone
  pub size : IfSaid SizeOk w.size
  pub screen : IfSaid FlagOk w.screen
  pub lock : OfWord FlagOk w.lock

groups-ok : (first : Bool) (flags : ℕ) → Always GroupsOk (groups first flags)
unfolding groups
groups-ok first flags =
    bind _ (if_some (is_set 3 flags) (at_place (position-ok first))) λ p hp.
    bind _ (if_some (is_set 2 flags) (at_place zone-ok)) λ z hz.
    bind _ (if_some (is_set 1 flags) (at_place size_ok)) λ n hn.
    bind _ (if_some (is_set 0 flags) (at_place screen-ok)) λ s hs.
    bind _ (at_place {P = FlagOk} (mapped bit _ bit-flag)) λ l hl.
    given _ (record { position = hp; zone = hz; size = hn; screen = hs; lock = hl })

abbrev pub RenderOk : Render → Type 0
RenderOk (default at) = Unit {0}
RenderOk kept = Unit {0}
RenderOk (Render.given w) = GroupsOk w

render-ok : (first : Bool) (at status : ℕ) → Always RenderOk (render first at status)
unfolding render parts
render-ok first at status =
    choose (eqb status 0) (given _ tt)
    (choose (eqb status 2) (given _ tt) (after _ _ λ flags. mapped-such Render.given (groups-ok first flags) λ w h. h))

-- One object in one block

abbrev pub UpdateOk : Update → Type 0
UpdateOk (inactive at) = Unit {0}
UpdateOk (active b r) = BasicOk b × RenderOk r

update-ok : (k : Kind) (first : Bool) → Always UpdateOk (update k first)
unfolding update active_update render_of
update-ok k first =
    after _ _ λ at. after _ _ λ off.
    bind _
    (choose off (given _ tt)
    (after _ _ λ at. after _ _ λ s. bind _ (basic-ok at s) λ b hb.
    bind _ (choose (is_dynamic k) (after _ _ λ at. after _ _ λ s. render-ok first at s) (given _ tt)) λ r hr. given _ (hb, hr)))
    λ u h. next _ (given _ h)

abbrev pub WordsOk : Object → Type 0
WordsOk o = All UpdateOk o.updates

object-ok : (m : ℕ) (k : Kind) → Always WordsOk (object m k)
unfolding object
object-ok m k = bind _ (update-ok k true) λ u h. bind _ (repeated m (update-ok k false)) λ us hs. given _ (h, hs)

pub words-ok : (s : List ℕ) → Ok (InTree WordsOk) (taken s)
words-ok = in-objects WordsOk object-ok
