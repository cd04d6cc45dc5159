-- Two decoders at one payload: rows that agree where the second's marks say so stay so, update by update and block by block.
use mathlib.Core.Path.{◌≡◌, refl, ap}
use mathlib.Core.Bool.{Bool, true, false, cond, ◌&&◌, ◌||◌, false≢true}
use mathlib.Core.List.{List, [], ◌∷◌, map}
use mathlib.Core.Option.{Option, none, some}
use lib.IntN.{ℤ, pos}
use lib.ListN.{get_or, drop}
use Rattle.bits.specs.Parsed.{Placed}
use Rattle.bits.proofs.Always.{All}
use Rattle.standard.specs.Tree.{Kind, is_dynamic, Point, Position, GainWord, PointWord, absolute, moved, PositionWord, Render, default, kept, given, Update, inactive, active, Object}
use Rattle.standard.specs.Rows.{Row, Picture, Group, its_position, its_zone, its_size, its_screen, its_lock, part, no_row}
use Rattle.standard.specs.Marks.{is_some, is_absolute, absolutely_said, settled, marked, settles, new_mark, row_mark}
use Rattle.standard.specs.Meaning.{or_before, new_gain, point_said, new_position, new_picture, row_picture, updated, object_rows, all_rows, gain_of}
use Rattle.standard.proofs.Small.{and_left, and_right, Pairs}
use Rattle.standard.proofs.MarkLaws.{mark-sound}
use Rattle.standard.proofs.FirstUpdates.{first_form, FirstIn, ObjectForm}

-- A settling word forgets the group before

said-forgets : {A : Type 0} (o : Option (Placed A)) (a b : A) → is_some o ≡ true → or_before o a ≡ or_before o b
said-forgets none a b h = cc
said-forgets (some w) a b h = refl

absolute-forgets : (w : PointWord) (p q : Point) → is_absolute w ≡ true → point_said w p ≡ point_said w q
unfolding point_said
absolute-forgets (absolute r) p q h = refl
absolute-forgets (moved d) p q h = cc

position-forgets : (o : Option (Placed PositionWord)) (p q : Position) → absolutely_said o ≡ true → new_position o p ≡ new_position o q
unfolding new_position
position-forgets none p q h = cc
position-forgets (some w) p q h = rw (absolute-forgets w.word.point p.point q.point h)

settled-new : (g : Group) (r : Render) (p q : Picture) → settles g r ≡ true → part g (new_picture r p) ≡ part g (new_picture r q)
unfolding settles new_picture
settled-new g (default at) p q h = refl
settled-new g kept p q h = absurd (false≢true h)
settled-new its_position (given w) p q h = position-forgets w.position p.position q.position h
settled-new its_zone (given w) p q h = said-forgets w.zone p.zone q.zone h
settled-new its_size (given w) p q h = said-forgets w.size p.size q.size h
settled-new its_screen (given w) p q h = said-forgets w.screen p.screen q.screen h
settled-new its_lock (given w) p q h = refl

-- and any word takes a group from that group alone
alone-new : (g : Group) (r : Render) (p q : Picture) → part g p ≡ part g q → part g (new_picture r p) ≡ part g (new_picture r q)
unfolding new_picture
alone-new g (default at) p q h = refl
alone-new g kept p q h = h
alone-new its_position (given w) p q h = ap (new_position w.position) h
alone-new its_zone (given w) p q h = ap (or_before w.zone) h
alone-new its_size (given w) p q h = ap (or_before w.size) h
alone-new its_screen (given w) p q h = ap (or_before w.screen) h
alone-new its_lock (given w) p q h = refl

-- Rows of one object of kind k in the two decoders, b the second's

pub record Same (a b : Row) : Type 0 where
  pub kind : a.kind ≡ b.kind
  pub active : a.active ≡ b.active
  pub gain : a.gain ≡ b.gain
  pub priority : a.priority ≡ b.priority

-- the picture, group by group, unless the second marks it unsettled
abbrev pub Settled : Row → Row → Type 0
Settled a b = (g : Group) → marked g b.mark ≡ true → part g a.picture ≡ part g b.picture

pub record Close (k : Kind) (a b : Row) : Type 0 where
  pub settled : Settled a b
  pub fixed : is_dynamic k ≡ false → a.picture ≡ b.picture

picture-close : (d : Bool) (g : Group) (r : Render) (p q : Picture) (m : ℤ) → (marked g m ≡ true → part g p ≡ part g q) → (d ≡ false → p ≡ q)
    → marked g (cond d (new_mark r m) settled) ≡ true → part g (cond d (new_picture r p) p) ≡ part g (cond d (new_picture r q) q)
picture-close false g r p q m s f h = ap (part g) (f refl)
picture-close true g r p q m s f h = go (settles g r) refl (mark-sound g r m h)
  where
    go : (b : Bool) → settles g r ≡ b → (b || marked g m) ≡ true → part g (new_picture r p) ≡ part g (new_picture r q)
    go true e k = settled-new g r p q e
    go false e k = alone-new g r p q (s k)

fixed-close : (d : Bool) (r : Render) (p q : Picture) → (d ≡ false → p ≡ q) → d ≡ false → cond d (new_picture r p) p ≡ cond d (new_picture r q) q
fixed-close true r p q f h = cc
fixed-close false r p q f h = f refl

kept-close : (d : Bool) (g : Group) (p q : Picture) (m : ℤ) → (marked g m ≡ true → part g p ≡ part g q) → (d ≡ false → p ≡ q)
    → marked g (cond d (new_mark kept m) settled) ≡ true → part g p ≡ part g q
unfolding settles
kept-close true g p q m s f h = s (mark-sound g kept m h)
kept-close false g p q m s f h = ap (part g) (f refl)

update-close : (k : Kind) (g : ℤ) (u : Update) (a b : Row) → Close k a b → Close k (updated k g u a) (updated k g u b)
unfolding updated row_picture row_mark
update-close k g (inactive at) a b c =
    record { settled = λ i. kept-close (is_dynamic k) i a.picture b.picture b.mark (c.settled i) c.fixed; fixed = c.fixed }
update-close k g (active w r) a b c =
    record {
      settled = λ i. picture-close (is_dynamic k) i r a.picture b.picture b.mark (c.settled i) c.fixed;
      fixed = fixed-close (is_dynamic k) r a.picture b.picture c.fixed;
    }

-- An update of a later block keeps the rest the same, and one of a first block makes it so

later_same : (k : Kind) (g : ℤ) (u : Update) (a b : Row) → Same a b → Same (updated k g u a) (updated k g u b)
unfolding updated
later_same k g (inactive at) a b s = record { kind = refl; active = refl; gain = refl; priority = refl }
later_same k g (active w r) a b s =
    record { kind = refl; active = refl; gain = ap (new_gain g w.gain) s.gain; priority = ap (or_before w.priority) s.priority }

gain-forgets : (g : ℤ) (o : Option (Placed GainWord)) (x y : ℤ) → is_some o ≡ true → new_gain g o x ≡ new_gain g o y
unfolding new_gain
gain-forgets g none x y h = cc
gain-forgets g (some w) x y h = refl

first-same : (k : Kind) (g : ℤ) (u : Update) (a b : Row) → first_form k u ≡ true → Same (updated k g u a) (updated k g u b)
unfolding updated
first-same k g (inactive at) a b h = record { kind = refl; active = refl; gain = refl; priority = refl }
first-same k g (active w r) a b h =
    let hb = and_left (is_some w.gain && is_some w.priority) _ h in
    record {
      kind = refl;
      active = refl;
      gain = gain-forgets g w.gain a.gain b.gain (and_left (is_some w.gain) (is_some w.priority) hb);
      priority = said-forgets w.priority a.priority b.priority (and_right (is_some w.gain) (is_some w.priority) hb);
    }

-- The rows of an object, block by block: the rest is the same from block 0 on, and what an update keeps of two rows is kept

pub record Agree (C : Kind → Row → Row → Type 0) (k : Kind) (a b : Row) : Type 0 where
  pub same : Same a b
  pub close : C k a b

-- start rows, object by object
abbrev pub Starts : (Kind → Row → Row → Type 0) → List Object → List Row → List Row → Type 0
Starts C [] xs ys = Unit {0}
Starts C (o ∷ os) xs ys = C o.kind (get_or xs 0 no_row) (get_or ys 0 no_row) × Starts C os (drop 1 xs) (drop 1 ys)

module _ (C : Kind → Row → Row → Type 0) (keeps : (k : Kind) (g : ℤ) (u : Update) (a b : Row) → C k a b → C k (updated k g u a) (updated k g u b)) where
  later-agree : (k : Kind) (us : List Update) (gs : List ℤ) (a b : Row) → Agree C k a b → Pairs (Agree C k) (object_rows k a us gs) (object_rows k b us gs)
  unfolding object_rows
  later-agree k [] gs a b h = tt
  later-agree k (u ∷ us) gs a b h =
      let g = get_or gs 0 (pos 0) in
      let h' : Agree C k (updated k g u a) (updated k g u b) = record { same = later_same k g u a b h.same; close = keeps k g u a b h.close } in
      (h', later-agree k us (drop 1 gs) _ _ h')

  object-agree : (k : Kind) (us : List Update) (gs : List ℤ) (a b : Row) → FirstIn k us → C k a b → Pairs (Agree C k) (object_rows k a us gs) (object_rows k b us gs)
  unfolding object_rows
  object-agree k [] gs a b f c = absurd f
  object-agree k (u ∷ us) gs a b f c =
      let g = get_or gs 0 (pos 0) in
      let h' : Agree C k (updated k g u a) (updated k g u b) = record { same = first-same k g u a b f; close = keeps k g u a b c } in
      (h', later-agree k us (drop 1 gs) _ _ h')

  gains-agree : (k : Kind) (xs ys : List Row) → Pairs (Agree C k) xs ys → map gain_of xs ≡ map gain_of ys
  gains-agree k [] [] h = refl
  gains-agree k [] (b ∷ ys) h = absurd h
  gains-agree k (a ∷ xs) [] h = absurd h
  gains-agree k (a ∷ xs) (b ∷ ys) h = λ i. h.0.same.gain i ∷ gains-agree k xs ys h.1 i

  -- R is what that says of two rows
  module _ (R : Row → Row → Type 0) (says : (k : Kind) (a b : Row) → Agree C k a b → R a b) where
    rows_agree : (k : Kind) (xs ys : List Row) → Pairs (Agree C k) xs ys → Pairs R xs ys
    rows_agree k [] [] h = tt
    rows_agree k [] (b ∷ ys) h = absurd h
    rows_agree k (a ∷ xs) [] h = absurd h
    rows_agree k (a ∷ xs) (b ∷ ys) h = (says k a b h.0, rows_agree k xs ys h.1)

    all-agree : (os : List Object) (xs ys : List Row) (gs hs : List ℤ) → gs ≡ hs → All ObjectForm os → Starts C os xs ys
        → Pairs (Pairs R) (all_rows os xs gs) (all_rows os ys hs)
    unfolding all_rows
    all-agree [] xs ys gs hs e f s = tt
    all-agree (o ∷ os) xs ys gs hs e f s =
        let r : List Row = object_rows o.kind (get_or xs 0 no_row) o.updates gs in
        let q : List Row = object_rows o.kind (get_or ys 0 no_row) o.updates hs in
        let h : Pairs (Agree C o.kind) r q = rw (← e) (object-agree o.kind o.updates gs _ _ f.0 s.0) in
        (rows_agree o.kind r q h, all-agree os (drop 1 xs) (drop 1 ys) (map gain_of r) (map gain_of q) (gains-agree o.kind r q h) f.1 s.1)

-- The rows of a frame

-- what demand 3 says of a row in a block
pub record RowAgree (a b : Row) : Type 0 where
  pub same : Same a b
  pub picture : Settled a b

pub frames-agree : (os : List Object) (xs ys : List Row) → All ObjectForm os → Starts Close os xs ys → Pairs (Pairs RowAgree) (all_rows os xs []) (all_rows os ys [])
frames-agree os xs ys f s = all-agree Close update-close RowAgree (λ k a b h. record { same = h.same; picture = h.close.settled }) os xs ys [] [] refl f s

-- and what holds whatever the rows start from
pub frames-same : (os : List Object) (xs ys : List Row) → All ObjectForm os → Pairs (Pairs Same) (all_rows os xs []) (all_rows os ys [])
frames-same os xs ys f = all-agree any (λ k g u a b h. tt) Same (λ k a b h. h.same) os xs ys [] [] refl f (nothing-asked os xs ys)
  where
    any : Kind → Row → Row → Type 0
    any k a b = Unit {0}

    nothing-asked : (os : List Object) (xs ys : List Row) → Starts any os xs ys
    nothing-asked [] xs ys = tt
    nothing-asked (o ∷ os) xs ys = (tt, nothing-asked os (drop 1 xs) (drop 1 ys))
