-- What a payload does to the rows: the specification, sections 7 to 9. It cannot refuse.
use Rattle.std.specs.Prelude.{ℕ, ◌+◌, Bool, true, false, cond, ◌&&◌, List, [], ◌∷◌, map, leb, ℤ, pos, neg_ℤ, ◌+ℤ◌, length, get_or, drop}
use Rattle.std.proofs.Math.Option.{Option, none, some}
use Rattle.std.specs.Int.Signed.{lt_z}
use Rattle.bits.specs.Parsed.{Parsed, got, refused, Placed}
use Rattle.standard.specs.Numbers.{side_limit, height_limit, priority_limit, silence, payload_limit, size, alone}
use Rattle.standard.specs.Tree.{Kind, kind_code, is_dynamic, Point, Position, GainWord, level, copied, PointWord, absolute, moved, PositionWord, Render, default, kept, given, Update, inactive, active, Object, Tree, kinds_of}
use Rattle.standard.specs.Syntax.{syntax}
use Rattle.standard.specs.Rows.{Picture, Row, State, default_picture, no_row, is, is_silent}
use Rattle.standard.specs.Marks.{settled, is_settled, doubted, row_mark}

-- Start rows: the retained ones where the kinds are the same, and default ones where they are not

unfoldable pub held_row : ℤ → Row → Row
held_row d r =
    record { kind = r.kind; active = r.active; gain = r.gain; priority = r.priority; picture = r.picture; mark = doubted d r.mark }

unfoldable pub default_row : ℤ → Kind → Row
default_row d k =
    record { kind = pos (kind_code k); active = pos 1; gain = pos 0; priority = pos priority_limit; picture = default_picture; mark = doubted d settled }

unfoldable pub same_kinds : List Kind → List Row → Bool
same_kinds [] [] = true
same_kinds [] (r ∷ rs) = false
same_kinds (k ∷ ks) [] = false
same_kinds (k ∷ ks) (r ∷ rs) = is (kind_code k) r.kind && same_kinds ks rs

-- and in a frame without blocks, whatever its kinds
abbrev pub held_rows : State → List Row
held_rows st = map (held_row st.doubt) st.rows

unfoldable pub start_rows : State → List Kind → List Row
start_rows st ks = cond (same_kinds ks st.rows) (map (held_row st.doubt) st.rows) (map (default_row st.doubt) ks)

-- One object in one block

module _ {A : Type 0} where
  -- what is said, or else what was before
  abbrev pub or_before : Option (Placed A) → A → A
  or_before none a = a
  or_before (some w) a = w.word

-- gain code 3: as the object before in the same block, but 0 dB for silence
unfoldable pub copied_gain : ℤ → ℤ
copied_gain g = cond (is_silent g) (pos 0) g

-- g: the gain of the object before, in the same block
unfoldable pub gain_said : ℤ → GainWord → ℤ
gain_said g (level v) = v
gain_said g copied = copied_gain g

unfoldable pub new_gain : ℤ → Option (Placed GainWord) → ℤ → ℤ
new_gain g none old = old
new_gain g (some w) old = gain_said g w.word

unfoldable pub clamp : ℤ → ℤ → ℤ → ℤ
clamp lo hi v = cond (lt_z v lo) lo (cond (lt_z hi v) hi v)

-- a step beyond an end stays there
unfoldable pub stepped : Point → Point → Point
stepped d p =
    record {
      x = clamp (pos 0) (pos side_limit) (p.x +ℤ d.x);
      y = clamp (pos 0) (pos side_limit) (p.y +ℤ d.y);
      z = clamp (neg_ℤ (pos height_limit)) (pos height_limit) (p.z +ℤ d.z);
    }

unfoldable pub point_said : PointWord → Point → Point
point_said (absolute q) p = q
point_said (moved d) p = stepped d p

-- steps move the point alone: the distance is said anew
unfoldable pub new_position : Option (Placed PositionWord) → Position → Position
new_position none p = p
new_position (some w) p = record { point = point_said w.word.point p.point; distance = w.word.distance }

unfoldable pub new_picture : Render → Picture → Picture
new_picture (default at) p = default_picture
new_picture kept p = p
new_picture (given w) p =
    record {
      position = new_position w.position p.position;
      zone = or_before w.zone p.zone;
      size = or_before w.size p.size;
      screen = or_before w.screen p.screen;
      lock = w.lock.word;
    }

-- fixed kinds keep their picture
unfoldable pub row_picture : Kind → Render → Picture → Picture
row_picture k r p = cond (is_dynamic k) (new_picture r p) p

-- r: the row before. Inactive: the picture is kept
unfoldable pub updated : Kind → ℤ → Update → Row → Row
updated k g (inactive at) r =
    record { kind = pos (kind_code k); active = pos 0; gain = silence; priority = pos 0; picture = r.picture; mark = row_mark k kept r.mark }
updated k g (active b n) r =
    record {
      kind = pos (kind_code k);
      active = pos 1;
      gain = new_gain g b.gain r.gain;
      priority = or_before b.priority r.priority;
      picture = row_picture k n r.picture;
      mark = row_mark k n r.mark;
    }

-- A frame: object by object, and in each block by block

abbrev pub gain_of : Row → ℤ
gain_of r = r.gain

-- an object's rows after the row r; gs: the preceding object's gains by block, none before object 0
unfoldable pub object_rows : Kind → Row → List Update → List ℤ → List Row
object_rows k r [] gs = []
object_rows k r (u ∷ us) gs =
    let r' = updated k (get_or gs 0 (pos 0)) u r in
    r' ∷ object_rows k r' us (drop 1 gs)

unfoldable pub all_rows : List Object → List Row → List ℤ → List (List Row)
all_rows [] rs gs = []
all_rows (o ∷ os) rs gs =
    let rows = object_rows o.kind (get_or rs 0 no_row) o.updates gs in
    rows ∷ all_rows os (drop 1 rs) (map gain_of rows)

unfoldable pub frame_rows : State → Tree → List (List Row)
frame_rows st t = all_rows t.objects (start_rows st (kinds_of t)) []

-- What is retained: the last block, and no doubt

unfoldable pub last_row : List Row → Row
last_row [] = no_row
last_row (r ∷ []) = r
last_row (r ∷ q ∷ rs) = last_row (q ∷ rs)

unfoldable pub last_rows : State → Tree → List Row
last_rows st t = map last_row (frame_rows st t)

unfoldable pub retain : State → Tree → State
retain st t = record { doubt = pos 0; rows = last_rows st t }

unfoldable pub unsettled_count : List Row → ℕ
unsettled_count [] = 0
unsettled_count (r ∷ rs) = cond (is_settled r.mark) 0 1 + unsettled_count rs

-- What the calls do to the state

-- what a payload says; one over the limit is refused unread
unfoldable pub taken : List ℕ → Parsed Tree
taken s = cond (leb (length s) payload_limit) (syntax s) (refused (alone size))

-- a refusal changes nothing
unfoldable pub retain_if : State → Parsed Tree → State
retain_if st (got t p) = retain st t
retain_if st (refused r) = st

unfoldable pub decoded : State → List ℕ → State
decoded st s = retain_if st (taken s)

unfoldable pub gapped : State → State
gapped st = record { doubt = pos 1; rows = st.rows }

-- What computing opens

unfoldable pub computed : Unit {0}
unfolding held_row default_row same_kinds start_rows copied_gain gain_said new_gain clamp stepped point_said new_position new_picture row_picture updated object_rows all_rows frame_rows last_row last_rows retain unsettled_count taken retain_if decoded gapped
computed = tt
