-- The laws of marks. What a mark is, the other proofs know by these alone.
use Prim.Native.Nat.{ℕ, zero, suc, ◌+◌, ◌*◌, ◌/◌, ◌%◌, ◌≤◌}
use mathlib.Core.Path.{◌≡◌, refl, sym, ◌∙◌}
use mathlib.Core.Bool.{Bool, true, false, cond, ◌&&◌, ◌||◌}
use native.Mathlib.Omega.{arith}
use lib.Dec.{eqb}
use lib.IntN.{ℤ, pos}
use borrow.Author.Tests.{le-leb}
use Rattle.standard.specs.Numbers.{mark_limit}
use Rattle.standard.specs.Tree.{Kind, is_dynamic, Render}
use Rattle.standard.specs.Rows.{Group, its_position, its_zone, its_size, its_screen, its_lock, is}
use Rattle.standard.specs.Marks.{settled, unsettled, bit_of, marked, bits_of, doubted, settles, new_mark, row_mark}
use Rattle.standard.specs.Tables.{mark_form}
use Rattle.standard.proofs.Small.{and_left, and_right, both}

-- Bits

abbrev one : Bool → ℕ
one b = cond b 1 0

one-le : (b : Bool) → one b ≤ 1
one-le true = omega arith
one-le false = omega arith

one-is : (b : Bool) → eqb (one b) 1 ≡ b
one-is true = refl
one-is false = refl

scaled : (b : Bool) (w : ℕ) → cond b w 0 ≡ one b * w
scaled true w = omega arith
scaled false w = omega arith

-- the bits are apart
digit : (g : Group) (s : Group → Bool) → bits_of s / bit_of g % 2 ≡ one (s g)
unfolding bits_of
digit g s =
    let a = one-le (s its_position) in
    let b = one-le (s its_zone) in
    let c = one-le (s its_size) in
    let d = one-le (s its_screen) in
    let e = one-le (s its_lock) in
    rw (scaled (s its_zone) 2, scaled (s its_size) 4, scaled (s its_screen) 8, scaled (s its_lock) 16)
    (elim g as (λ g'. (one (s its_position) + one (s its_zone) * 2 + one (s its_size) * 4 + one (s its_screen) * 8 + one (s its_lock) * 16) / bit_of g' % 2 ≡ one (s g')) [
      | its_position ↦ omega arith
      | its_zone ↦ omega arith
      | its_size ↦ omega arith
      | its_screen ↦ omega arith
      | its_lock ↦ omega arith
    ])

-- a mark is read as it is written
pub bits-tell : (g : Group) (s : Group → Bool) → marked g (pos (bits_of s)) ≡ s g
unfolding marked
bits-tell g s = rw (digit g s) (one-is (s g))

-- the bits of groups hang on the groups alone
pub bits-same : (s t : Group → Bool) → ((g : Group) → s g ≡ t g) → bits_of s ≡ bits_of t
bits-same s t h = λ i. bits_of (λ g. h g i)

-- and five bits of a number are told by them
pub bits_back : (n : ℕ) → bits_of (λ g. marked g (pos n)) ≡ n % 32
unfolding bits_of marked
bits_back n =
    rw (counted (n / 1) 1, counted (n / 2) 2, counted (n / 4) 4, counted (n / 8) 8, counted (n / 16) 16)
    (sum n (n / 2) (n / 4) (n / 8) (n / 16) (n / 32) _ _ _ _ _ (n % 32) (omega arith) (omega arith) (omega arith) (omega arith) (omega arith) (omega arith))
  where
    sum : (n a b c d e v w x y z m : ℕ) → n ≡ 2 * a + v → a ≡ 2 * b + w → b ≡ 2 * c + x → c ≡ 2 * d + y → d ≡ 2 * e + z → n ≡ 32 * e + m
        → v * 1 + w * 2 + x * 4 + y * 8 + z * 16 ≡ m
    sum n a b c d e v w x y z m h₀ h₁ h₂ h₃ h₄ h = omega arith

    counted : (n w : ℕ) → cond (eqb (n % 2) 1) w 0 ≡ n % 2 * w
    counted n w = go (n % 2) (omega arith)
      where
        go : (d : ℕ) → d ≤ 1 → cond (eqb d 1) w 0 ≡ d * w
        go zero h = omega arith
        go (suc zero) h = omega arith
        go (suc (suc d)) h = absurd (omega arith)

bits-le : (s : Group → Bool) → bits_of s ≤ mark_limit
bits-le s = let e = sym (bits-same (λ g. marked g (pos (bits_of s))) s (λ g. bits-tell g s)) ∙ bits_back (bits_of s) in omega arith

-- all of them, and none

pub mark-full : (g : Group) → marked g settled ≡ true
unfolding marked
mark-full its_position = refl
mark-full its_zone = refl
mark-full its_size = refl
mark-full its_screen = refl
mark-full its_lock = refl

pub mark-none : (g : Group) → marked g unsettled ≡ false
unfolding marked
mark-none its_position = refl
mark-none its_zone = refl
mark-none its_size = refl
mark-none its_screen = refl
mark-none its_lock = refl

pub none-differs : unsettled ≡ settled → ⊥
none-differs e = let z : ◌≡◌ {A = ℕ} 0 mark_limit = cc in omega arith

-- What a word does

-- a group is settled after a word exactly if the word settles it, or it was settled before
pub mark-new : (g : Group) (r : Render) (m : ℤ) → marked g (new_mark r m) ≡ (settles g r || marked g m)
unfolding new_mark
mark-new g r m = bits-tell g (λ g. settles g r || marked g m)

pub mark-sound : (g : Group) (r : Render) (m : ℤ) → marked g (new_mark r m) ≡ true → (settles g r || marked g m) ≡ true
mark-sound g r m h = sym (mark-new g r m) ∙ h

or_right : (x y : Bool) → y ≡ true → (x || y) ≡ true
or_right true y e = refl
or_right false y e = e

-- nothing that is read unsettles
pub mark-rises : (g : Group) (k : Kind) (r : Render) (m : ℤ) → marked g m ≡ true → marked g (row_mark k r m) ≡ true
unfolding row_mark
mark-rises g k r m h = go (is_dynamic k)
  where
    go : (d : Bool) → marked g (cond d (new_mark r m) settled) ≡ true
    go true = mark-new g r m ∙ or_right (settles g r) (marked g m) h
    go false = mark-full g

-- where every group is settled, the mark is that of all
all_set : (s : Group → Bool) → ((g : Group) → s g ≡ true) → pos (bits_of s) ≡ settled
unfolding bits_of
all_set s h = rw (h its_position, h its_zone, h its_size, h its_screen, h its_lock)

pub mark-stays : (r : Render) → new_mark r settled ≡ settled
unfolding new_mark
mark-stays r = all_set (λ g. settles g r || marked g settled) (λ g. or_right (settles g r) (marked g settled) (mark-full g))

-- render status 0, or every group said and the position in full
abbrev pub settles_all : Render → Bool
settles_all r = settles its_position r && settles its_zone r && settles its_size r && settles its_screen r && settles its_lock r

settles-each : (r : Render) → settles_all r ≡ true → (g : Group) → settles g r ≡ true
settles-each r h g =
    let a = settles its_position r in
    let b = settles its_zone r in
    let c = settles its_size r in
    let d = settles its_screen r in
    let e = settles its_lock r in
    let h₄ = and_left (a && b && c && d) e h in
    let h₃ = and_left (a && b && c) d h₄ in
    let h₂ = and_left (a && b) c h₃ in
    elim g as (λ g'. settles g' r ≡ true) [
      | its_position ↦ and_left a b h₂
      | its_zone ↦ and_right a b h₂
      | its_size ↦ and_right (a && b) c h₃
      | its_screen ↦ and_right (a && b && c) d h₄
      | its_lock ↦ and_right (a && b && c && d) e h
    ]

pub mark-all : (r : Render) (m : ℤ) → settles_all r ≡ true → new_mark r m ≡ settled
unfolding new_mark
mark-all r m h = all_set (λ g. settles g r || marked g m) (λ g. rw (settles-each r h g))

-- Form

pub settled-form : mark_form settled ≡ true
unfolding mark_form
settled-form = refl

unsettled-form : mark_form unsettled ≡ true
unfolding mark_form
unsettled-form = refl

pub row-mark-form : (k : Kind) (r : Render) (m : ℤ) → mark_form (row_mark k r m) ≡ true
unfolding row_mark new_mark mark_form
row-mark-form k r m = go (is_dynamic k)
  where
    go : (d : Bool) → mark_form (cond d (new_mark r m) settled) ≡ true
    go true = let s : Group → Bool = λ g. settles g r || marked g m in both _ _ (le-leb 0 (bits_of s) (omega arith)) (le-leb _ _ (bits-le s))
    go false = refl

pub doubted-form : (d m : ℤ) → mark_form m ≡ true → mark_form (doubted d m) ≡ true
doubted-form d m h = go (is 0 d)
  where
    go : (b : Bool) → mark_form (cond b m unsettled) ≡ true
    go true = h
    go false = unsettled-form
