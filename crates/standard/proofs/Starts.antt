-- A property of start rows, from the default rows and the retained rows.
use Prim.Native.Nat.{suc}
use mathlib.Core.Path.{◌≡◌, refl, sym, ap}
use mathlib.Core.Bool.{Bool, true, false, cond, false≢true}
use mathlib.Core.List.{List, [], ◌∷◌, map}
use lib.IntN.{ℤ}
use lib.ListN.{length}
use Rattle.bits.proofs.Always.{All}
use Rattle.standard.specs.Tree.{Kind, kind_code}
use Rattle.standard.specs.Rows.{Row, State, is}
use Rattle.standard.specs.Meaning.{default_row, held_row, same_kinds, start_rows}
use Rattle.standard.proofs.Small.{and_left, and_right, Pairs}

-- H holds of retained rows, P of a kind and its start row
module _ (H : Row → Type 0) (P : Kind → Row → Type 0) where
  held-each : (d : ℤ) (ks : List Kind) (rs : List Row) → ((k : Kind) (r : Row) → is (kind_code k) r.kind ≡ true → H r → P k (held_row d r))
      → All H rs → same_kinds ks rs ≡ true → Pairs P ks (map (held_row d) rs)
  unfolding same_kinds
  held-each d [] [] f h e = tt
  held-each d [] (r ∷ rs) f h e = absurd (false≢true e)
  held-each d (k ∷ ks) [] f h e = absurd (false≢true e)
  held-each d (k ∷ ks) (r ∷ rs) f h e = (f k r (and_left _ _ e) h.0, held-each d ks rs f h.1 (and_right (is (kind_code k) r.kind) _ e))

  default-each : (d : ℤ) (ks : List Kind) → ((k : Kind) → P k (default_row d k)) → Pairs P ks (map (default_row d) ks)
  default-each d [] f = tt
  default-each d (k ∷ ks) f = (f k, default-each d ks f)

  pub start-each : (st : State) (ks : List Kind) → ((k : Kind) → P k (default_row st.doubt k))
      → ((k : Kind) (r : Row) → is (kind_code k) r.kind ≡ true → H r → P k (held_row st.doubt r)) → All H st.rows → Pairs P ks (start_rows st ks)
  unfolding start_rows
  start-each st ks f g h = go (same_kinds ks st.rows) refl
    where
      go : (b : Bool) → same_kinds ks st.rows ≡ b → Pairs P ks (cond b (map (held_row st.doubt) st.rows) (map (default_row st.doubt) ks))
      go true e = held-each st.doubt ks st.rows g h e
      go false e = default-each st.doubt ks f

-- as many as the kinds
pub pairs-length : {A B : Type 0} (R : A → B → Type 0) (xs : List A) (ys : List B) → Pairs R xs ys → length xs ≡ length ys
pairs-length R [] [] h = refl
pairs-length R [] (y ∷ ys) h = absurd h
pairs-length R (x ∷ xs) [] h = absurd h
pairs-length R (x ∷ xs) (y ∷ ys) h = ap suc (pairs-length R xs ys h.1)

-- where nothing is asked of retained rows
module _ (P : Kind → Row → Type 0) where
  nothing-asked : (rs : List Row) → All (λ r. Unit {0}) rs
  nothing-asked [] = tt
  nothing-asked (r ∷ rs) = (tt, nothing-asked rs)

  pub start-any : (st : State) (ks : List Kind) → ((k : Kind) → P k (default_row st.doubt k))
      → ((k : Kind) (r : Row) → is (kind_code k) r.kind ≡ true → P k (held_row st.doubt r)) → Pairs P ks (start_rows st ks)
  start-any st ks f g = start-each (λ r. Unit {0}) P st ks f (λ k r e h. g k r e) (nothing-asked st.rows)

pub start-length : (st : State) (ks : List Kind) → length (start_rows st ks) ≡ length ks
start-length st ks =
    let any : Kind → Row → Type 0 = λ k r. Unit {0} in
    sym (pairs-length any ks (start_rows st ks) (start-any any st ks (λ k. tt) (λ k r e. tt)))
