-- What is copied: its bits are the payload's bits in the container, and the rest of the buffer stays.
use Prim.Native.Nat.{ℕ, ◌+◌, ◌*◌, ◌/◌, ◌≤◌, ◌<◌}
use mathlib.Core.Path.{◌≡◌, refl, ◌∙◌}
use mathlib.Core.List.{List}
use native.Mathlib.Omega.{arith}
use lib.ListN.{length, drop, length-append, length-drop, get_or-append}
use lib.Seq.{drop_at}
use Rattle.bits.specs.Bits.{bit_at}
use Rattle.standard.specs.Numbers.{payload_limit, accepted}
use Rattle.standard.specs.Calls.{over, Taken}
use Rattle.emdf.specs.Say.{bytes_from}
use Rattle.emdf.proofs.Bytes.{bytes-length, bytes_bits}

-- n bytes from bit place p of the container s stand at the front of what was b
pub record Copied (s b : List ℕ) (n p : ℕ) (t : Taken) : Type 0 where
  pub number : t.number ≡ accepted
  pub its-length : t.length ≡ n
  pub small : n ≤ payload_limit
  pub inside : p + n * 8 ≤ length s * 8
  pub bits : (i : ℕ) → i < n * 8 → bit_at t.buffer i ≡ bit_at s (p + i)
  pub rest : drop n t.buffer ≡ drop n b
  pub long : length t.buffer ≡ length b

over-bits : (vs l : List ℕ) (i : ℕ) → i < length vs * 8 → bit_at (over vs l) i ≡ bit_at vs i
unfolding bit_at
over-bits vs l i h = rw (get_or-append vs (drop (length vs) l) 0 (i / 8) (omega arith))

module _ (s b : List ℕ) (n p : ℕ) (small : n ≤ payload_limit) (inside : p + n * 8 ≤ length s * 8) (room : payload_limit ≤ length b) where
  abbrev bytes : List ℕ
  bytes = bytes_from s p n

  its : length bytes ≡ n
  its = bytes-length s p n

  pub copied : Copied s b n p (record { number = accepted; length = length bytes; buffer = over bytes b })
  copied = record {
    number = refl;
    its-length = its;
    small = small;
    inside = inside;
    bits = λ i l. over-bits bytes b i (omega (arith, its)) ∙ bytes_bits s p n i l;
    rest = drop_at bytes (drop (length bytes) b) n its ∙ rw its;
    long = rw (length-append, length-drop, its) (omega arith);
  }
