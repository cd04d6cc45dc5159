-- Text in n bytes, with zeros behind it: the text tells all of them.
use Rattle.std.specs.Prelude.{ℕ, ◌-◌, ◌≤◌, ◌≡◌, List, ◌++◌, length, take, drop, replicate}
use Rattle.std.proofs.Common.{arith}
use Rattle.std.proofs.lemmas.List.{take-append-drop}
use lib.Seq.{length-take-le}

-- in a model a field hides the library's word
abbrev pub text_length : List ℕ → ℕ
text_length = length

-- behind the first k of them stand zeros
pub record Padded (n k : ℕ) (bytes : List ℕ) : Type 0 where
  pub long : length bytes ≡ n
  pub zeros : drop k bytes ≡ replicate (n - k) 0

-- the text and those zeros
abbrev pub padded : ℕ → List ℕ → List ℕ
padded n s = s ++ replicate (n - length s) 0

module _ {n k : ℕ} {bytes : List ℕ} (h : k ≤ n) (p : Padded n k bytes) where
  pub length-back : text_length (take k bytes) ≡ k
  length-back = length-take-le k bytes (omega (arith, p.long))

  pub bytes-back : padded n (take k bytes) ≡ bytes
  bytes-back = rw (length-back, ← p.zeros) (take-append-drop k bytes)
