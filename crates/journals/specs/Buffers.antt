-- What the calls on a program's buffers promise.
use Rattle.std.specs.Prelude.{ℕ, ◌+◌, ◌-◌, ◌≡◌, Bool, cond, List, leb, length, take, drop}
use Rattle.rows.specs.Places.{written}

-- the elements from one place to before another, as far as there are any
unfoldable pub part : List ℕ → ℕ → ℕ → List ℕ
part l from to = take (to - from) (drop from l)

pub record Kept (l : List ℕ) (from to : ℕ) (n : ℕ) (m : List ℕ) : Type 0 where
  pub count : n ≡ length (part l from to)
  pub left : m ≡ written l 0 (part l from to)

abbrev pub has_room : List ℕ → ℕ → List ℕ → Bool
has_room l at text = leb (at + length text) (length l)

pub record Appended (l : List ℕ) (at : ℕ) (text : List ℕ) (next : ℕ) (m : List ℕ) : Type 0 where
  pub place : next ≡ cond (has_room l at text) (at + length text) at
  pub left : m ≡ cond (has_room l at text) (written l at text) l
