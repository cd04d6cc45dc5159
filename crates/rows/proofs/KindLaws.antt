-- Kinds and their numbers.
use mathlib.Core.Path.{◌≡◌, refl, sym}
use mathlib.Core.Bool.{Bool, true, false, not, cond, ◌||◌, false≢true}
use lib.IntN.{ℤ}
use Rattle.standard.specs.Tree.{Kind, lfe, bed, isf, dynamic, kind_number, is_dynamic}
use Rattle.standard.specs.Rows.{is}
use Rattle.standard.proofs.Small.{number_is_lem}
use Rattle.rows.specs.Kinds.{kind_of}

pub kind-of-number : (k : Kind) → kind_of (kind_number k) ≡ k
unfolding kind_of
kind-of-number lfe = refl
kind-of-number bed = refl
kind-of-number isf = refl
kind-of-number dynamic = refl

pub dynamic-kind : (z : ℤ) → is_dynamic (kind_of z) ≡ true → kind_of z ≡ dynamic
dynamic-kind z h = go (kind_of z) h
  where
    go : (k : Kind) → is_dynamic k ≡ true → k ≡ dynamic
    go lfe h = absurd (false≢true h)
    go bed h = absurd (false≢true h)
    go isf h = absurd (false≢true h)
    go dynamic h = refl

-- a number names a fixed kind by being its number
pub fixed-tests : (z : ℤ) → is_dynamic (kind_of z) ≡ not (is 0 z || is 1 z || is 2 z)
unfolding kind_of
fixed-tests z = go (is 0 z) (is 1 z) (is 2 z)
  where
    go : (a b c : Bool) → is_dynamic (cond a lfe (cond b bed (cond c isf dynamic))) ≡ not (a || b || c)
    go true b c = refl
    go false true c = refl
    go false false true = refl
    go false false false = refl

pub fixed-kind : (z : ℤ) → is_dynamic (kind_of z) ≡ false → kind_number (kind_of z) ≡ z
unfolding kind_of
fixed-kind z h = go (is 0 z) (is 1 z) (is 2 z) refl refl refl h
  where
    go : (a b c : Bool) → is 0 z ≡ a → is 1 z ≡ b → is 2 z ≡ c
        → is_dynamic (cond a lfe (cond b bed (cond c isf dynamic))) ≡ false → kind_number (cond a lfe (cond b bed (cond c isf dynamic))) ≡ z
    go true b c p q r h = sym (number_is_lem 0 z p)
    go false true c p q r h = sym (number_is_lem 1 z q)
    go false false true p q r h = sym (number_is_lem 2 z r)
    go false false false p q r h = absurd (false≢true (sym h))
