-- The ways in which the call can end.
use Prim.Native.Nat.{ℕ, zero, suc, ◌+◌, ◌*◌, ◌≤◌, ◌<◌, min}
use mathlib.Core.Path.{◌≡◌, refl, sym, ap, ◌∙◌}
use mathlib.Core.List.{List, [], ◌∷◌}
use native.Mathlib.Nat.{min-le_left}
use native.Mathlib.Omega.{arith}
use lib.ListN.{length}
use borrow.Author.Tests.{le-leb, lt-leb}
use Rattle.bits.specs.Bits.{field}
use Rattle.bits.specs.Parsed.{Refusal, Parsed, got, refused, and_then, ◌>>=◌, ◌>>◌, pure, refuse, times, require, refused_as}
use Rattle.bits.specs.Reads.{read}
use Rattle.bits.proofs.ParsedLaws.{made_got, made-refused}
use Rattle.standard.specs.Numbers.{payload_limit, container_limit, accepted, room, size, alone}
use Rattle.standard.specs.Container.{or_ends_early, bits, pass, opening, container}
use Rattle.standard.specs.Calls.{over, taken, emdf_call}
use Rattle.emdf.specs.Say.{large, near, bytes_from}
use Rattle.emdf.specs.Promises.{Left}
use Rattle.emdf.proofs.Cuts.{cut, Whole, bits-tells, pass-tells}
use Rattle.emdf.proofs.Nearness.{Alike, same, past, alike-min}
use Rattle.emdf.proofs.ListLaws.{opening-ends}
use Rattle.emdf.proofs.Bytes.{bytes-length}

-- bytes that are read are those that are passed over
module _ (s : List ℕ) (e : ℕ) where
  a_byte : (p : ℕ) → p + 8 ≤ e → bits 8 s e p ≡ got (field s p 8) (p + 8)
  unfolding bits or_ends_early refused_as read
  a_byte p l = rw (le-leb (p + 8) e l)

  pub bytes-there : (n p : ℕ) → p + n * 8 ≤ e → times n (bits 8) s e p ≡ got (bytes_from s p n) (p + n * 8)
  unfolding times bytes_from ◌>>=◌ pure
  bytes-there zero p l = ap (λ (q : ℕ). got [] q) (omega arith)
  bytes-there (suc n) p l =
      let q : p + 8 + n * 8 ≡ p + suc n * 8 = omega arith in
      rw (a_byte p (omega arith), bytes-there n (p + 8) (omega arith), q)

  pub bytes_cut : (n p : ℕ) → p ≤ e → e < p + n * 8 → times n (bits 8) s e p ≡ refused cut
  unfolding times ◌>>=◌
  bytes_cut zero p h l = absurd (omega arith)
  bytes_cut (suc n) p h l = go (bytes_cut n (p + 8)) (bits 8 s e p) ((bits-tells 8).tells s e p)
    where
      go : (p + 8 ≤ e → e < p + 8 + n * 8 → times n (bits 8) s e (p + 8) ≡ refused cut) → (x : Parsed ℕ) → Whole 8 s e p x
          → and_then x (λ a q. and_then (times n (bits 8) s e q) (λ rest q. pure (a ∷ rest) s e q)) ≡ refused cut
      go ih (got a q) (k, j) = rw (k, ih (omega arith) (omega arith))
      go ih (refused r) (k, j) = rw k

module _ (s b : List ℕ) where
  pub short-buffer : length b < payload_limit → Left (emdf_call s b) room 0 b
  unfolding emdf_call
  short-buffer h = rw (lt-leb payload_limit (length b) h) (record { number = refl; its-length = refl; buffer = refl })

  module _ (long : payload_limit ≤ length b) where
    pub too_long : container_limit < length s → Left (emdf_call s b) size 0 b
    unfolding emdf_call
    too_long h =
        rw (le-leb payload_limit (length b) long, lt-leb (length s) container_limit h)
        (record { number = refl; its-length = refl; buffer = refl })

    module _ (fits : length s ≤ container_limit) where
      abbrev found : Parsed ℕ
      found = opening s (length s * 8) 0

      refuses : (r : Refusal) → container s (length s * 8) 0 ≡ refused r → Left (emdf_call s b) r.number 0 b
      unfolding emdf_call taken
      refuses r h =
          rw (le-leb payload_limit (length b) long, le-leb (length s) container_limit fits, h)
          (record { number = refl; its-length = refl; buffer = refl })

      pub not_found : {r : Refusal} → refused r ≡ near found → Left (emdf_call s b) r.number 0 b
      unfolding container ◌>>=◌
      not_found {r} h = refuses r (rw (made-refused (λ n. min n large) found h))

      -- a size within the limit is the one that was read; a larger one stands for one that is larger, too
      exact : {n p : ℕ} → got n p ≡ near found → n ≤ payload_limit → found ≡ got n p
      unfolding payload_limit
      exact {n} {p} h l =
          let m = made_got (λ n. min n large) found h in
          m.gives ∙ ap (λ (k : ℕ). got k p) (go m.value m.made (alike-min m.value))
        where
          go : (k : ℕ) → n ≡ min k large → Alike k (min k large) → k ≡ n
          go k d (same f) = f ∙ sym d
          go k d (past f g) = absurd (omega arith)

      pub too_large : {n p : ℕ} → got n p ≡ near found → payload_limit < n → Left (emdf_call s b) size 0 b
      unfolding container ◌>>=◌ ◌>>◌ require refuse
      too_large {n} {p} h l =
          let m = made_got (λ n. min n large) found h in
          refuses (alone size) (rw (m.gives, lt-leb m.value payload_limit (omega (arith, m.made, min-le_left m.value large))))

      module _ {n p : ℕ} (h : got n p ≡ near found) (l : n ≤ payload_limit) where
        its-bytes : container s (length s * 8) 0 ≡ times n (bits 8) s (length s * 8) p
        unfolding container ◌>>=◌ ◌>>◌ require pure
        its-bytes = rw (exact h l, le-leb n payload_limit l)

        begins : p ≤ length s * 8
        begins = rw (exact h l) at (opening-ends s (length s * 8) 0)

        pub cut_short : {r : Refusal} → refused r ≡ pass (n * 8) s (length s * 8) p → Left (emdf_call s b) r.number 0 b
        cut_short {r} k =
            let t : Whole {A = Unit {0}} (n * 8) s (length s * 8) p (refused r) = rw (← k) at ((pass-tells (n * 8)).tells s (length s * 8) p) in
            rw t.0 (refuses cut (its-bytes ∙ bytes_cut s (length s * 8) n p begins t.1))

        pub copied : {b' : List ℕ} → p + n * 8 ≤ length s * 8 → b' ≡ over (bytes_from s p n) b → Left (emdf_call s b) accepted n b'
        unfolding emdf_call taken
        copied k f =
            rw (le-leb payload_limit (length b) long, le-leb (length s) container_limit fits, its-bytes, bytes-there s (length s * 8) n p k)
            (record { number = refl; its-length = sym (bytes-length s p n); buffer = f })
