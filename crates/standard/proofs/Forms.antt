-- An update makes of a row to be shown a row in form.
use mathlib.Core.Path.{◌≡◌, refl, sym}
use mathlib.Core.Bool.{Bool, true, false, cond, not, ◌||◌, false≢true}
use mathlib.Core.List.{List, [], ◌∷◌}
use mathlib.Core.Option.{Option, none, some}
use lib.Dec.{T}
use lib.IntN.{ℤ, pos, neg_ℤ}
use lib.Signed.{le_z, lt_z, lt_z_no, ≤ℤ_refl}
use Rattle.bits.specs.Parsed.{Placed}
use Rattle.bits.proofs.Always.{All}
use Rattle.standard.specs.Tree.{Kind, lfe, bed, isf, dynamic, kind_code, kind_number, is_dynamic, Point, Position, GainWord, level, copied, PointWord, absolute, moved, PositionWord, Render, default, kept, given, Update, inactive, active}
use Rattle.standard.specs.Numbers.{side_limit, height_limit, priority_limit, silence}
use Rattle.standard.specs.Rows.{Row, Picture, default_picture, is, is_silent}
use Rattle.standard.specs.Marks.{is_settled, row_mark}
use Rattle.standard.specs.Meaning.{or_before, copied_gain, gain_said, new_gain, clamp, stepped, point_said, new_position, new_picture, row_picture, updated}
use Rattle.standard.specs.Tables.{every, between, is_flag, mark_form, gain_form, point_form, point_tests, position_form, size_form, zone_form, picture_form, picture_tests, is_default, active_form, fixed_form, shown_tests, shown_form, row_form}
use Rattle.standard.proofs.Small.{and_left, and_right, both}
use Rattle.standard.proofs.MarkLaws.{row-mark-form}
use Rattle.standard.proofs.Words.{IfSaid, GainOk, PriorityOk, PointOk, PositionOk, ZoneOk, SizeOk, FlagOk, RenderOk, UpdateOk}

abbrev Yes : Bool → Type 0
Yes b = b ≡ true

facts : (bs : List Bool) → every bs ≡ true → All Yes bs
facts [] h = tt
facts (b ∷ bs) h = (and_left b (every bs) h, facts bs (and_right b (every bs) h))

passed : (bs : List Bool) → All Yes bs → every bs ≡ true
passed [] h = refl
passed (b ∷ bs) h = rw h.0 (passed bs h.1)

-- Values

or_ok : {A : Type 0} (P : A → Type 0) (o : Option (Placed A)) (a : A) → IfSaid P o → P a → P (or_before o a)
or_ok P none a h k = k
or_ok P (some w) a h k = h

pub zero-form : gain_form (pos 0) ≡ true
unfolding gain_form
zero-form = refl

silence-form : gain_form silence ≡ true
unfolding gain_form
silence-form = refl

gain-said : (g : ℤ) (w : GainWord) → gain_form g ≡ true → GainOk w → gain_form (gain_said g w) ≡ true
unfolding gain_said copied_gain
gain-said g (level v) hg h = h
gain-said g copied hg h = go (is_silent g)
  where
    go : (b : Bool) → gain_form (cond b (pos 0) g) ≡ true
    go true = zero-form
    go false = hg

gain-after : (g : ℤ) (o : Option (Placed GainWord)) (old : ℤ) → gain_form g ≡ true → IfSaid GainOk o → gain_form old ≡ true → gain_form (new_gain g o old) ≡ true
unfolding new_gain
gain-after g none old hg ho h = h
gain-after g (some w) old hg ho h = gain-said g w.word hg ho

clamp-form : (lo hi v : ℤ) → le_z lo hi ≡ true → between lo hi (clamp lo hi v) ≡ true
unfolding clamp
clamp-form lo hi v h = go (lt_z v lo) refl (lt_z hi v) refl
  where
    from-T : (b : Bool) → T b → b ≡ true
    from-T true t = refl
    from-T false t = absurd t

    to-not : (b : Bool) → b ≡ false → T (not b)
    to-not true e = absurd (false≢true (sym e))
    to-not false e = tt

    self : (a : ℤ) → le_z a a ≡ true
    self a = from-T (le_z a a) (≤ℤ_refl a).le

    no_less : (a b : ℤ) → lt_z a b ≡ false → le_z b a ≡ true
    no_less a b e = from-T (le_z b a) (lt_z_no {a = a} {b = b} (to-not (lt_z a b) e)).le

    go : (b : Bool) → lt_z v lo ≡ b → (c : Bool) → lt_z hi v ≡ c → between lo hi (cond b lo (cond c hi v)) ≡ true
    go true e c f = both (le_z lo lo) (le_z lo hi) (self lo) h
    go false e true f = both (le_z lo hi) (le_z hi hi) h (self hi)
    go false e false f = both (le_z lo v) (le_z v hi) (no_less v lo e) (no_less hi v f)

point-said : (w : PointWord) (p : Point) → PointOk w → point_form (point_said w p) ≡ true
unfolding point_said stepped point_form point_tests
point-said (absolute q) p h = h
point-said (moved d) p h =
    passed (point_tests (stepped d p)) (clamp-form (pos 0) (pos side_limit) _ refl, (clamp-form (pos 0) (pos side_limit) _ refl, (clamp-form (neg_ℤ (pos height_limit)) (pos height_limit) _ refl, tt)))

position-after : (o : Option (Placed PositionWord)) (p : Position) → IfSaid PositionOk o → position_form p ≡ true → position_form (new_position o p) ≡ true
unfolding new_position position_form
position-after none p h k = k
position-after (some w) p h k = both _ _ (point-said w.word.point p.point h.point) (both _ _ h.distance refl)

pub default-form : picture_form default_picture ≡ true
unfolding picture_form picture_tests default_picture position_form point_form point_tests zone_form size_form
default-form = refl

picture-after : (r : Render) (p : Picture) → RenderOk r → picture_form p ≡ true → picture_form (new_picture r p) ≡ true
unfolding new_picture picture_form picture_tests
picture-after (default at) p h k = default-form
picture-after kept p h k = k
picture-after (given w) p h k =
    let f = facts (picture_tests p) k in
    passed (picture_tests (new_picture (given w) p)) (
      position-after w.position p.position h.position f.0,
      (
        or_ok ZoneOk w.zone p.zone h.zone f.1.0,
        (or_ok SizeOk w.size p.size h.size f.1.1.0, (or_ok FlagOk w.screen p.screen h.screen f.1.1.1.0, (h.lock, tt))),
      ),
    )

row-picture : (k : Kind) (r : Render) (p : Picture) → RenderOk r → picture_form p ≡ true → picture_form (row_picture k r p) ≡ true
unfolding row_picture
row-picture k r p h f = go (is_dynamic k)
  where
    go : (d : Bool) → picture_form (cond d (new_picture r p) p) ≡ true
    go true = picture-after r p h f
    go false = f

-- Kinds

pub code-form : (k : Kind) → between (pos 0) (kind_number dynamic) (pos (kind_code k)) ≡ true
code-form lfe = refl
code-form bed = refl
code-form isf = refl
code-form dynamic = refl

fixed-picture : (k : Kind) (r : Render) (p : Picture) → (is (kind_code dynamic) (pos (kind_code k)) || is_default p) ≡ true → (is (kind_code dynamic) (pos (kind_code k)) || is_default (row_picture k r p)) ≡ true
unfolding row_picture
fixed-picture lfe r p h = h
fixed-picture bed r p h = h
fixed-picture isf r p h = h
fixed-picture dynamic r p h = refl

fixed-mark : (k : Kind) (r : Render) (m : ℤ) → (is (kind_code dynamic) (pos (kind_code k)) || is_settled (row_mark k r m)) ≡ true
unfolding row_mark
fixed-mark lfe r m = refl
fixed-mark bed r m = refl
fixed-mark isf r m = refl
fixed-mark dynamic r m = refl

pub default-fixed : (k : Kind) → (is (kind_code dynamic) (pos (kind_code k)) || is_default default_picture) ≡ true
unfolding is_default default_picture
default-fixed lfe = refl
default-fixed bed = refl
default-fixed isf = refl
default-fixed dynamic = refl

-- Rows

abbrev pub RowOk : Row → Type 0
RowOk r = row_form r ≡ true

abbrev pub ShownOk : Row → Type 0
ShownOk r = shown_form r ≡ true

-- what a row to be shown has, by name
pub record Facts (r : Row) : Type 0 where
  pub kind : between (pos 0) (kind_number dynamic) r.kind ≡ true
  pub active : is_flag r.active ≡ true
  pub gain : gain_form r.gain ≡ true
  pub priority : between (pos 0) (pos priority_limit) r.priority ≡ true
  pub picture : picture_form r.picture ≡ true
  pub mark : mark_form r.mark ≡ true
  pub silent : active_form r ≡ true
  pub fixed : fixed_form r ≡ true

pub shown-facts : (r : Row) → ShownOk r → Facts r
unfolding shown_form shown_tests
shown-facts r h =
    let f = facts (shown_tests r) h in
    record {
      kind = f.0;
      active = f.1.0;
      gain = f.1.1.0;
      priority = f.1.1.1.0;
      picture = f.1.1.1.1.0;
      mark = f.1.1.1.1.1.0;
      silent = f.1.1.1.1.1.1.0;
      fixed = f.1.1.1.1.1.1.1.0;
    }

pub facts-shown : (r : Row) → Facts r → ShownOk r
unfolding shown_form shown_tests
facts-shown r f = passed (shown_tests r) (f.kind, (f.active, (f.gain, (f.priority, (f.picture, (f.mark, (f.silent, (f.fixed, tt))))))))

pub row-shown : (r : Row) → RowOk r → ShownOk r
unfolding row_form
row-shown r h = and_left (shown_form r) _ h

-- an update puts a row into form, of a row to be shown
pub row-after : (k : Kind) (g : ℤ) (u : Update) (r : Row) → r.kind ≡ pos (kind_code k) → gain_form g ≡ true → UpdateOk u → ShownOk r → RowOk (updated k g u r)
unfolding row_form updated active_form fixed_form
row-after k g (inactive at) r e hg hu h =
    let f = shown-facts r h in
    both (shown_form (updated k g (inactive at) r)) _
    (facts-shown (updated k g (inactive at) r) (record {
      kind = code-form k;
      active = refl;
      gain = silence-form;
      priority = refl;
      picture = f.picture;
      mark = row-mark-form k kept r.mark;
      silent = refl;
      fixed = rw e at f.fixed;
    }))
    (fixed-mark k kept r.mark)
row-after k g (active b n) r e hg hu h =
    let f = shown-facts r h in
    both (shown_form (updated k g (active b n) r)) _
    (facts-shown (updated k g (active b n) r) (record {
      kind = code-form k;
      active = refl;
      gain = gain-after g b.gain r.gain hg hu.0.gain f.gain;
      priority = or_ok PriorityOk b.priority r.priority hu.0.priority f.priority;
      picture = row-picture k n r.picture hu.1 f.picture;
      mark = row-mark-form k n r.mark;
      silent = refl;
      fixed = fixed-picture k n r.picture (rw e at f.fixed);
    }))
    (fixed-mark k n r.mark)
