-- A container that was written of any other payloads and an object payload gives that payload back.
use Prim.Native.Nat.{ℕ, zero, suc, ◌*◌, ◌≤◌, ◌<◌}
use mathlib.Core.Path.{◌≡◌, refl, ap}
use mathlib.Core.List.{List, [], ◌∷◌, append_assoc}
use native.Mathlib.Omega.{arith}
use lib.ListN.{length, length-append}
use borrow.Author.Tests.{le-leb, ne_eqb}
use Rattle.bits.specs.Parsed.{Parsed, got, refused}
use Rattle.bits.proofs.Always.{All, all-to}
use Rattle.writes.specs.Writes.{Bits, ◌⋯◌, ◌⊳◌, spread, packed}
use Rattle.writes.proofs.Writes.{width, spread-length}
use Rattle.writes.proofs.ReadBack.{Got, Is, Reads, next, goes_on, ends, stops, given, by-room, required, repeated, each-is, weaken, of-packed}
use Rattle.writes.proofs.GroupsBack.{further-fit}
use Rattle.standard.specs.Numbers.{payload_limit, container_limit, accepted}
use Rattle.standard.specs.Container.{object_id, bits, Header, header, object_among, first_object, opening, container}
use Rattle.standard.specs.Calls.{over, taken, emdf_call}
use Rattle.containers.specs.Written.{variable_bits, extended_bits, Config, config_bits, Payload, head_bits, body_bits, payload_bits, object_payload, written}
use Rattle.containers.proofs.ConfigsBack.{bits_back, pass-back, variable-back, extended-back, passed-back, config-back}

-- another payload: its id neither ends the list nor is the object's
pub record Other (p : Payload) : Type 0 where
  pub not_end : p.id ≡ 0 → ⊥
  pub not-object : p.id ≡ object_id → ⊥

abbrev sized : Payload → ℕ → Header
sized p n = record { id = p.id; size = n }

head-back : (p : Payload) → (p.id ≡ 0 → ⊥) → Reads (Is (sized p (length p.bytes))) (head_bits p) header
unfolding head_bits header
head-back p z =
    goes_on p.id _ (extended-back 5 p.id)
    (required _ _ (rw (ne_eqb p.id 0 z))
    (next (config-back p.config) (ends _ (variable-back 8 (length p.bytes)) λ n e. ap (sized p) e)))

body-length : (p : Payload) → length (body_bits p) ≡ length p.bytes * 8
unfolding body_bits
body-length p = spread-length (λ b. 8 ⊳ b) 8 (width 8) p.bytes

-- so that a payload takes a bit at least
head-long : (p : Payload) → 1 ≤ length (head_bits p)
unfolding head_bits variable_bits
head-long p =
    let n = length p.bytes in
    let c = config_bits p.config in
    omega (arith, length-append (extended_bits 5 p.id) (c ⋯ variable_bits 8 n), length-append c (variable_bits 8 n), further-fit 8 n n)

module _ (c : Config) (object : List ℕ) where
  -- the other payloads, and the object payload up to its bytes
  abbrev to_object : List Payload → Bits
  to_object others = spread payload_bits others ⋯ head_bits (object_payload c object)

  one_more : (p : Payload) (others : List Payload) → to_object (p ∷ others) ≡ head_bits p ⋯ body_bits p ⋯ to_object others
  unfolding spread payload_bits
  one_more p others = simp append_assoc

  longer : (p : Payload) (others : List Payload) → length (to_object others) < length (to_object (p ∷ others))
  longer p others =
      rw (one_more p others)
      (omega (arith, head-long p, length-append (head_bits p) (body_bits p ⋯ to_object others), length-append (body_bits p) (to_object others)))

  -- where as many may be passed as there are bits
  among-back : (others : List Payload) → All Other others → (k : ℕ) → length (to_object others) ≤ k
      → Reads (Is (length object)) (to_object others) (object_among k)
  unfolding spread object_among
  among-back [] h zero l = absurd (omega (arith, head-long (object_payload c object)))
  among-back [] h (suc k) l = stops _ _ (head-back (object_payload c object) (λ e. absurd (omega arith))) (given _ refl)
  among-back (p ∷ others) h zero l = absurd (omega (arith, longer p others))
  among-back (p ∷ others) (o, os) (suc k) l =
      rw (one_more p others)
      (goes_on _ _ (head-back p o.not_end)
      (rw (ne_eqb p.id object_id o.not-object)
      (next (pass-back (body_bits p) (length p.bytes * 8) (body-length p)) (among-back others os k (omega (arith, longer p others))))))

  first_back : (others : List Payload) → All Other others → Reads (Is (length object)) (to_object others) first_object
  unfolding first_object
  first_back others h = by-room {m = object_among} (among-back others h)

  module _ (key : ℕ) (others : List Payload) where
    abbrev opened : Bits
    opened = extended_bits 2 0 ⋯ extended_bits 3 key ⋯ to_object others

    opening-back : All Other others → Reads (Is (length object)) opened opening
    unfolding opening
    opening-back h = goes_on 0 _ (extended-back 2 0) (required _ _ refl (next (passed-back (extended-back 3 key)) (first_back others h)))

    -- up to the object payload's last bit
    abbrev to_last : Bits
    to_last = opened ⋯ body_bits (object_payload c object)

    container-back : All Other others → All (λ x. x < 256) object → length object ≤ payload_limit → Reads (Is object) to_last container
    unfolding container body_bits
    container-back h small l =
        goes_on (length object) _ (opening-back h)
        (required _ _ (le-leb (length object) payload_limit l)
        (weaken (repeated Is (λ b. 8 ⊳ b) (bits 8) object (all-to object (bits_back 8) small)) (each-is object)))

    and-behind : (behind : Bits) → written key others c object behind ≡ to_last ⋯ behind
    unfolding written payload_bits
    and-behind behind = simp append_assoc

-- The call

known : (b object : List ℕ) (q : ℕ) (x : Parsed (List ℕ)) → Got (Is object) q x
    → taken b x ≡ record { number = accepted; length = length object; buffer = over object b }
unfolding taken
known b object q (got a z) h = rw h.0
known b object q (refused r) h = absurd h

-- Of the configs, and of the other payloads' bytes, nothing is asked: they are passed over.
module _ (key : ℕ) (others : List Payload) (c : Config) (object : List ℕ) (behind : Bits) where
  pub given_back : (b : List ℕ) → All Other others → All (λ x. x < 256) object → length object ≤ payload_limit → payload_limit ≤ length b
      → length (packed (written key others c object behind)) ≤ container_limit
      → emdf_call (packed (written key others c object behind)) b ≡ record { number = accepted; length = length object; buffer = over object b }
  unfolding emdf_call
  given_back b h small l room fits =
      let w = written key others c object behind in
      let e : w ≡ to_last c object key others ⋯ behind = and-behind c object key others behind in
      let back : Got (Is object) (length (to_last c object key others)) (container (packed w) (length (packed w) * 8) 0)
      = rw e (of-packed behind (container-back c object key others h small l)) in
      rw (le-leb payload_limit (length b) room, le-leb (length (packed w)) container_limit fits) (known b object _ _ back)
