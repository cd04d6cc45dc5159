-- Two states that agree where the second's doubt and marks say so: what a payload shows of both, and what both then retain.
use mathlib.Core.Path.{◌≡◌, refl, sym, ◌∙◌, ap}
use mathlib.Core.Bool.{Bool, true, false, cond, ◌&&◌, false≢true}
use mathlib.Core.List.{List, [], ◌∷◌, map}
use lib.IntN.{ℤ, pos}
use lib.ListN.{get_or, drop}
use Rattle.bits.specs.Parsed.{Parsed, got, refused}
use Rattle.bits.proofs.Always.{Ok, All}
use Rattle.standard.specs.Tree.{Kind, lfe, bed, isf, dynamic, kind_code, is_dynamic, Update, inactive, active, Object, Tree, kinds_of}
use Rattle.standard.specs.Rows.{Row, State, Group, fresh, default_picture, no_row, is}
use Rattle.standard.specs.Marks.{unsettled, marked}
use Rattle.standard.specs.Meaning.{default_row, held_row, same_kinds, start_rows, row_picture, updated, object_rows, all_rows, gain_of, frame_rows, last_row, last_rows, retain, retain_if}
use Rattle.standard.proofs.Small.{number_is_lem, Pairs}
use Rattle.standard.proofs.Starts.{start-each, start-any}
use Rattle.standard.proofs.RowsOfFrame.{last-rows-have}
use Rattle.standard.proofs.MarkLaws.{mark-none}
use Rattle.standard.proofs.FirstUpdates.{TreeForm}
use Rattle.standard.proofs.Agreement.{Same, Settled, Close, Starts, RowAgree, frames-agree, frames-same}

-- Fixed kinds keep the default picture

abbrev pub Fixed : Row → Type 0
Fixed r = is (kind_code dynamic) r.kind ≡ false → r.picture ≡ default_picture

-- of a row of kind k
pub record FixedAt (k : Kind) (r : Row) : Type 0 where
  pub kind : r.kind ≡ pos (kind_code k)
  pub picture : is_dynamic k ≡ false → r.picture ≡ default_picture

code_fixed : (k : Kind) → is_dynamic k ≡ false → is (kind_code dynamic) (pos (kind_code k)) ≡ false
code_fixed lfe h = refl
code_fixed bed h = refl
code_fixed isf h = refl
code_fixed dynamic h = cc

fixed-code : (k : Kind) → is (kind_code dynamic) (pos (kind_code k)) ≡ false → is_dynamic k ≡ false
fixed-code lfe h = refl
fixed-code bed h = refl
fixed-code isf h = refl
fixed-code dynamic h = h

start-fixed : (st : State) (ks : List Kind) → All Fixed st.rows → Pairs FixedAt ks (start_rows st ks)
unfolding default_row held_row
start-fixed st ks =
    start-each Fixed FixedAt st ks (λ k. record { kind = refl; picture = λ h. refl })
    (λ k r e f. let c = number_is_lem (kind_code k) r.kind e in record { kind = c; picture = λ h. f (ap (is (kind_code dynamic)) c ∙ code_fixed k h) })

-- Start rows

-- what demand 3 says of a frame-start row; d: the second's doubt
pub record StartAgree (d : ℤ) (a b : Row) : Type 0 where
  pub kind : a.kind ≡ b.kind
  pub same : is 0 d ≡ true → Same a b
  pub calm : (g : Group) → marked g b.mark ≡ true → is 0 d ≡ true  -- a bit that is set says that no doubt stood
  pub picture : Settled a b

-- the rows agree unless there is doubt
pub record Related (a b : State) : Type 0 where
  pub fixed₁ : All Fixed a.rows
  pub fixed₂ : All Fixed b.rows
  pub rows : is 0 b.doubt ≡ true → Pairs RowAgree a.rows b.rows

kinds-agree : (ks : List Kind) (xs ys : List Row) → Pairs RowAgree xs ys → same_kinds ks xs ≡ same_kinds ks ys
unfolding same_kinds
kinds-agree [] [] [] h = refl
kinds-agree [] [] (y ∷ ys) h = absurd h
kinds-agree [] (x ∷ xs) [] h = absurd h
kinds-agree [] (x ∷ xs) (y ∷ ys) h = refl
kinds-agree (k ∷ ks) [] [] h = refl
kinds-agree (k ∷ ks) [] (y ∷ ys) h = absurd h
kinds-agree (k ∷ ks) (x ∷ xs) [] h = absurd h
kinds-agree (k ∷ ks) (x ∷ xs) (y ∷ ys) h = λ i. is (kind_code k) (h.0.same.kind i) && kinds-agree ks xs ys h.1 i

pub held-agree : (d d' : ℤ) → is 0 d' ≡ true → (xs ys : List Row) → Pairs RowAgree xs ys → Pairs (StartAgree d') (map (held_row d) xs) (map (held_row d') ys)
unfolding held_row
held-agree d d' e [] [] h = tt
held-agree d d' e [] (y ∷ ys) h = absurd h
held-agree d d' e (x ∷ xs) [] h = absurd h
held-agree d d' e (x ∷ xs) (y ∷ ys) h =
    let s = h.0.same in (
      record {
        kind = s.kind;
        same = λ c. record { kind = s.kind; active = s.active; gain = s.gain; priority = s.priority };
        calm = λ g m. e;
        picture = λ g m. h.0.picture g (rw e at m);
      },
      held-agree d d' e xs ys h.1,
    )

default-agree : (d d' : ℤ) → is 0 d' ≡ true → (ks : List Kind) → Pairs (StartAgree d') (map (default_row d) ks) (map (default_row d') ks)
unfolding default_row
default-agree d d' e [] = tt
default-agree d d' e (k ∷ ks) = (
  record { kind = refl; same = λ c. record { kind = refl; active = refl; gain = refl; priority = refl }; calm = λ g m. e; picture = λ g m. refl },
  default-agree d d' e ks,
)

calm-starts : (a b : State) (ks : List Kind) → Related a b → is 0 b.doubt ≡ true → Pairs (StartAgree b.doubt) (start_rows a ks) (start_rows b ks)
unfolding start_rows
calm-starts a b ks r e = rw (← kinds-agree ks a.rows b.rows (r.rows e)) (go (same_kinds ks a.rows))
  where
    go : (c : Bool) → Pairs (StartAgree b.doubt) (cond c (map (held_row a.doubt) a.rows) (map (default_row a.doubt) ks)) (cond c (map (held_row b.doubt) b.rows) (map (default_row b.doubt) ks))
    go true = held-agree a.doubt b.doubt e a.rows b.rows (r.rows e)
    go false = default-agree a.doubt b.doubt e ks

-- in doubt no start row is settled
start-doubt : (st : State) (ks : List Kind) → is 0 st.doubt ≡ false → All Fixed st.rows → Pairs (λ k r. r.mark ≡ unsettled) ks (start_rows st ks)
unfolding default_row held_row
start-doubt st ks d = start-each Fixed (λ k r. r.mark ≡ unsettled) st ks (λ k. rw d) (λ k r e f. rw d)

unmarked : (m : ℤ) (g : Group) → m ≡ unsettled → marked g m ≡ true → ⊥
unmarked m g e h = false≢true (sym (mark-none g) ∙ ap (marked g) (sym e) ∙ h)

doubt-agree : (d : ℤ) → is 0 d ≡ false → (ks : List Kind) (xs ys : List Row) → Pairs FixedAt ks xs → Pairs FixedAt ks ys → Pairs (λ k r. r.mark ≡ unsettled) ks ys
    → Pairs (StartAgree d) xs ys
doubt-agree d e [] [] [] f g h = tt
doubt-agree d e [] [] (y ∷ ys) f g h = absurd g
doubt-agree d e [] (x ∷ xs) ys f g h = absurd f
doubt-agree d e (k ∷ ks) [] ys f g h = absurd f
doubt-agree d e (k ∷ ks) (x ∷ xs) [] f g h = absurd g
doubt-agree d e (k ∷ ks) (x ∷ xs) (y ∷ ys) f g h = (
  record {
    kind = f.0.kind ∙ sym g.0.kind;
    same = λ c. absurd (false≢true (sym e ∙ c));
    calm = λ i m. absurd (unmarked y.mark i h.0 m);
    picture = λ i m. absurd (unmarked y.mark i h.0 m);
  },
  doubt-agree d e ks xs ys f.1 g.1 h.1,
)

pub starts-agree : (a b : State) (ks : List Kind) → Related a b → Pairs (StartAgree b.doubt) (start_rows a ks) (start_rows b ks)
starts-agree a b ks r = go (is 0 b.doubt) refl
  where
    go : (c : Bool) → is 0 b.doubt ≡ c → Pairs (StartAgree b.doubt) (start_rows a ks) (start_rows b ks)
    go true e = calm-starts a b ks r e
    go false e = doubt-agree b.doubt e ks (start_rows a ks) (start_rows b ks) (start-fixed a ks r.fixed₁) (start-fixed b ks r.fixed₂) (start-doubt b ks e r.fixed₂)

-- Block rows

starts-close : (d : ℤ) (os : List Object) (xs ys : List Row) → let ks = map (λ (o : Object). o.kind) os in
    Pairs FixedAt ks xs → Pairs FixedAt ks ys → Pairs (StartAgree d) xs ys → Starts Close os xs ys
starts-close d [] xs ys f g h = tt
starts-close d (o ∷ os) [] ys f g h = absurd f
starts-close d (o ∷ os) (x ∷ xs) [] f g h = absurd g
starts-close d (o ∷ os) (x ∷ xs) (y ∷ ys) f g h =
    (record { settled = h.0.picture; fixed = λ e. f.0.picture e ∙ sym (g.0.picture e) }, starts-close d os xs ys f.1 g.1 h.1)

pub blocks-agree : (a b : State) (t : Tree) → Related a b → TreeForm t → Pairs (Pairs RowAgree) (frame_rows a t) (frame_rows b t)
unfolding frame_rows
blocks-agree a b t r f =
    let ks = kinds_of t in
    frames-agree t.objects (start_rows a ks) (start_rows b ks) f
    (starts-close b.doubt t.objects (start_rows a ks) (start_rows b ks) (start-fixed a ks r.fixed₁) (start-fixed b ks r.fixed₂) (starts-agree a b ks r))

-- Whatever the two retained

pub blocks-same : (a b : State) (t : Tree) → TreeForm t → Pairs (Pairs Same) (frame_rows a t) (frame_rows b t)
unfolding frame_rows
blocks-same a b t f = frames-same t.objects (start_rows a (kinds_of t)) (start_rows b (kinds_of t)) f

pub start-kinds : (st : State) (ks : List Kind) → Pairs (λ k r. r.kind ≡ pos (kind_code k)) ks (start_rows st ks)
unfolding default_row held_row
start-kinds st ks = start-any (λ k r. r.kind ≡ pos (kind_code k)) st ks (λ k. refl) (λ k r e. number_is_lem (kind_code k) r.kind e)

pub starts-kinds : (a b : State) (ks : List Kind) → Pairs (λ x y. x.kind ≡ y.kind) (start_rows a ks) (start_rows b ks)
starts-kinds a b ks = go ks (start_rows a ks) (start_rows b ks) (start-kinds a ks) (start-kinds b ks)
  where
    go : (ks : List Kind) (xs ys : List Row) → Pairs (λ k r. r.kind ≡ pos (kind_code k)) ks xs → Pairs (λ k r. r.kind ≡ pos (kind_code k)) ks ys
        → Pairs (λ x y. x.kind ≡ y.kind) xs ys
    go [] [] [] h k = tt
    go [] [] (y ∷ ys) h k = absurd k
    go [] (x ∷ xs) ys h k = absurd h
    go (j ∷ ks) [] ys h k = absurd h
    go (j ∷ ks) (x ∷ xs) [] h k = absurd k
    go (j ∷ ks) (x ∷ xs) (y ∷ ys) h k = (h.0 ∙ sym k.0, go ks xs ys h.1 k.1)

-- What is retained is related again

update-fixed : (k : Kind) (g : ℤ) (u : Update) (r : Row) → FixedAt k r → FixedAt k (updated k g u r)
unfolding updated row_picture
update-fixed k g (inactive at) r h = record { kind = refl; picture = h.picture }
update-fixed k g (active b n) r h = record { kind = refl; picture = λ e. rw e (h.picture e) }

row-fixed : (k : Kind) (r : Row) → FixedAt k r → Fixed r
row-fixed k r h e = h.picture (fixed-code k (ap (is (kind_code dynamic)) (sym h.kind) ∙ e))

rows-fixed : (k : Kind) (us : List Update) (gs : List ℤ) (r : Row) → FixedAt k r → All Fixed (object_rows k r us gs)
unfolding object_rows
rows-fixed k [] gs r h = tt
rows-fixed k (u ∷ us) gs r h =
    let g = get_or gs 0 (pos 0) in
    let h' = update-fixed k g u r h in
    (row-fixed k (updated k g u r) h', rows-fixed k us (drop 1 gs) (updated k g u r) h')

all-fixed : (os : List Object) (rs : List Row) (gs : List ℤ) → Pairs FixedAt (map (λ (o : Object). o.kind) os) rs → All (All Fixed) (all_rows os rs gs)
unfolding all_rows
all-fixed [] rs gs h = tt
all-fixed (o ∷ os) [] gs h = absurd h
all-fixed (o ∷ os) (r ∷ rs) gs h =
    (rows-fixed o.kind o.updates gs r h.0, all-fixed os rs (map gain_of (object_rows o.kind r o.updates gs)) h.1)

retain-fixed : (st : State) (t : Tree) → TreeForm t → All Fixed st.rows → All Fixed (retain st t).rows
unfolding retain frame_rows
retain-fixed st t f h = last-rows-have Fixed st t f (all-fixed t.objects (start_rows st (kinds_of t)) [] (start-fixed st (kinds_of t) h))

pub nothing-agrees : RowAgree no_row no_row
nothing-agrees = record { same = record { kind = refl; active = refl; gain = refl; priority = refl }; picture = λ g m. refl }

last-agree : (xs ys : List Row) → Pairs RowAgree xs ys → RowAgree (last_row xs) (last_row ys)
unfolding last_row
last-agree [] [] h = nothing-agrees
last-agree [] (y ∷ ys) h = absurd h
last-agree (x ∷ xs) [] h = absurd h
last-agree (x ∷ []) (y ∷ []) h = h.0
last-agree (x ∷ []) (y ∷ y' ∷ ys) h = absurd h.1
last-agree (x ∷ x' ∷ xs) (y ∷ []) h = absurd h.1
last-agree (x ∷ x' ∷ xs) (y ∷ y' ∷ ys) h = last-agree (x' ∷ xs) (y' ∷ ys) h.1

lasts-agree : (xs ys : List (List Row)) → Pairs (Pairs RowAgree) xs ys → Pairs RowAgree (map last_row xs) (map last_row ys)
lasts-agree [] [] h = tt
lasts-agree [] (y ∷ ys) h = absurd h
lasts-agree (x ∷ xs) [] h = absurd h
lasts-agree (x ∷ xs) (y ∷ ys) h = (last-agree x y h.0, lasts-agree xs ys h.1)

retain-related : (a b : State) (t : Tree) → TreeForm t → Related a b → Related (retain a t) (retain b t)
unfolding retain last_rows
retain-related a b t f r =
    record {
      fixed₁ = retain-fixed a t f r.fixed₁;
      fixed₂ = retain-fixed b t f r.fixed₂;
      rows = λ e. lasts-agree (frame_rows a t) (frame_rows b t) (blocks-agree a b t r f);
    }

-- A payload

pub heard-related : (a b : State) (p : Parsed Tree) → Ok TreeForm p → Related a b → Related (retain_if a p) (retain_if b p)
unfolding retain_if
heard-related a b (got t q) f r = retain-related a b t f r
heard-related a b (refused x) f r = r

pub heard-fixed : (a : State) (p : Parsed Tree) → Ok TreeForm p → All Fixed a.rows → All Fixed (retain_if a p).rows
unfolding retain_if
heard-fixed a (got t q) f h = retain-fixed a t f h
heard-fixed a (refused x) f h = h

pub fresh-related : Related fresh fresh
unfolding fresh
fresh-related = record { fixed₁ = tt; fixed₂ = tt; rows = λ e. tt }

-- what agrees where a payload that says t meets the states a and b
pub record Agreement (a b : State) (t : Tree) : Type 0 where
  pub starts : Pairs (StartAgree b.doubt) (start_rows a (kinds_of t)) (start_rows b (kinds_of t))
  pub blocks : Pairs (Pairs RowAgree) (frame_rows a t) (frame_rows b t)

pub agreed : (a b : State) (p : Parsed Tree) → Ok TreeForm p → Related a b → Ok (Agreement a b) p
agreed a b (got t q) f r = record { starts = starts-agree a b (kinds_of t) r; blocks = blocks-agree a b t r f }
agreed a b (refused x) f r = tt
