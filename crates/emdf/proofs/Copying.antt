-- A loop that copies one byte a turn to the front of a buffer, and slices of what is copied from.
use Rattle.std.proofs.Common.{◌≡◌, ℕ, zero, suc, ◌+◌, ◌*◌, ◌/◌, ◌%◌, ◌≤◌, ◌<◌, List, [], ◌∷◌, ◌++◌, length, get_or, take, drop, append_assoc, length-append, add-one, refl, sym, ap, ◌∙◌, arith}
use Rattle.std.proofs.Math.ListN.{set, drop_of_length-le}
use Rattle.std.proofs.lemmas.List.{get_or-take, get_or-drop, append-nil}
use lib.Seq.{drop-cons, set-append_seam}
use Rattle.bits.specs.Bits.{bit_at, field}
use Rattle.standard.specs.Calls.{over}
use Rattle.emdf.specs.Say.{bytes_from}
use Rattle.emdf.proofs.Bytes.{bytes-length, bytes_next, whole-byte}

over-next : (vs l : List ℕ) (w : ℕ) → length vs < length l → set (over vs l) (length vs) w ≡ over (vs ++ w ∷ []) l
over-next vs l w h =
    let e : length vs + 1 ≡ suc (length vs) = add-one _ in
    rw (drop-cons l (length vs) 0 h, length-append, e, append_assoc) (set-append_seam vs (get_or l (length vs) 0) (drop (suc (length vs)) l) w)

-- the bytes from bit p on, the first i of which are copied
module _ (s : List ℕ) (p : ℕ) (b₀ : List ℕ) where
  pub begin : b₀ ≡ over (bytes_from s p 0) b₀
  unfolding bytes_from
  begin = refl

  pub turn : (b : List ℕ) (i w : ℕ) → i < length b₀ → w ≡ field s (p + i * 8) 8 → b ≡ over (bytes_from s p i) b₀ → set b i w ≡ over (bytes_from s p (i + 1)) b₀
  turn b i w h e k =
      let long = bytes-length s p i in
      let more : bytes_from s p (i + 1) ≡ bytes_from s p i ++ w ∷ [] = rw (add-one, e) (bytes_next s p i) in
      ap (λ x. set x i w) k ∙ ap (λ j. set (over (bytes_from s p i) b₀) j w) (sym long) ∙ over-next (bytes_from s p i) b₀ w (omega arith)
      ∙ ap (λ x. over x b₀) (sym more)

  pub copied : (i : ℕ) (b : List ℕ) → i ≡ length b₀ → b ≡ over (bytes_from s p i) b₀ → b ≡ bytes_from s p (length b₀)
  copied i b h k =
      let none : drop (length (bytes_from s p (length b₀))) b₀ ≡ [] = drop_of_length-le b₀ (omega (arith, bytes-length s p (length b₀))) in
      rw (h, none, append-nil) at k

-- a part of the list, from byte a on
module _ (s : List ℕ) (a k : ℕ) where
  abbrev part : List ℕ
  part = take k (drop a s)

  part-bit : (i : ℕ) → i < k * 8 → bit_at part i ≡ bit_at s (a * 8 + i)
  unfolding bit_at
  part-bit i h =
      let d : (a * 8 + i) / 8 ≡ a + i / 8 = omega arith in
      let r : (a * 8 + i) % 8 ≡ i % 8 = omega arith in
      rw (d, r, get_or-take k (drop a s) (i / 8) 0 (omega arith), get_or-drop a s (i / 8) 0) refl

  part-field : (p w : ℕ) → p + w ≤ k * 8 → field part p w ≡ field s (a * 8 + p) w
  unfolding field
  part-field p zero h = refl
  part-field p (suc w) h =
      let e : a * 8 + p + w ≡ a * 8 + (p + w) = omega arith in
      rw (part-field p w (omega arith), part-bit (p + w) (omega arith), e) refl

  pub part-bytes : (p n : ℕ) → p + n * 8 ≤ k * 8 → bytes_from part p n ≡ bytes_from s (a * 8 + p) n
  unfolding bytes_from
  part-bytes p zero h = refl
  part-bytes p (suc n) h =
      let e : a * 8 + p + 8 ≡ a * 8 + (p + 8) = omega arith in
      rw (part-field p 8 (omega arith), part-bytes (p + 8) n (omega arith), e) refl

-- whole bytes are those of the list
pub whole-bytes : (s : List ℕ) → ((i : ℕ) → get_or s i 0 < 256) → (a n : ℕ) → a + n ≤ length s → take n (drop a s) ≡ bytes_from s (a * 8) n
unfolding bytes_from
whole-bytes s small a zero h = refl
whole-bytes s small a (suc n) h =
    let e : a * 8 + 8 ≡ suc a * 8 = omega arith in
    rw (drop-cons s a 0 (omega arith), ← (whole-byte s a (small (a + 1)) (small a)), e) (ap (λ (l : List ℕ). get_or s a 0 ∷ l) (whole-bytes s small (suc a) n (omega arith)))
