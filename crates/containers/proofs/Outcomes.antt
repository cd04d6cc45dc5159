-- Every end of the call, for every container and buffer: a copy under number 0, or one of five numbers and the buffer as found.
use Prim.Native.Nat.{ℕ, zero, suc, ◌+◌, ◌*◌, ◌-◌, ◌^◌, ◌≤◌}
use mathlib.Core.Path.{◌≡◌, refl, sym, ap, subst, ◌∙◌}
use mathlib.Core.Bool.{Bool, true, false, cond, not}
use mathlib.Core.List.{List}
use native.Mathlib.Omega.{arith}
use lib.Dec.{eqb, leb}
use lib.ListN.{length}
use borrow.Author.Tests.{leb-true, leb-false}
use Rattle.bits.specs.Parsed.{Parsed, got, refused, Parser, and_then, map_parsed, instead_of, ◌>>=◌, ◌>>◌, map_p, pure, refuse, refused_as, times, require}
use Rattle.bits.specs.Reads as reads
use Rattle.standard.specs.Numbers.{payload_limit, container_limit, accepted, room, size, ends_early, other_version, no_object, alone}
use Rattle.standard.specs.Container.{object_id, or_ends_early, bits, flag, pass, variable, extended, passed, if_set, flagged, handling, after_offset, config, Header, header, object_among, first_object, opening, container}
use Rattle.standard.specs.Calls.{Taken, untaken, taken, emdf_call}
use Rattle.emdf.proofs.ListLaws.{opening-ends}
use Rattle.emdf.proofs.Answers.{bytes-there, bytes_cut}
use Rattle.containers.proofs.Faithful.{Copied, copied}

-- The numbers by which a reading is refused before the object payload

data Named : ℕ → Type 0 where
  cut : Named ends_early
  version : Named other_version
  absent : Named no_object

module _ {A : Type 0} where
  abbrev Says : Parsed A → Type 0
  Says (got a q) = Unit {0}
  Says (refused r) = Named r.number

  says-cut : (m : Parser A) (s : List ℕ) (e p : ℕ) → Says (or_ends_early m s e p)
  unfolding or_ends_early refused_as
  says-cut m s e p = go (m s e p)
    where
      go : (x : Parsed A) → Says (instead_of (alone ends_early) x)
      go (got a q) = tt
      go (refused r) = cut

module _ {A B : Type 0} where
  says_then : (x : Parsed A) (k : A → ℕ → Parsed B) → Says x → ((a : A) (q : ℕ) → Says (k a q)) → Says (and_then x k)
  says_then (got a q) k h g = g a q
  says_then (refused r) k h g = h

  says_map : (f : A → B) (x : Parsed A) → Says x → Says (map_parsed f x)
  says_map f (got a q) h = tt
  says_map f (refused r) h = h

module _ (s : List ℕ) (e : ℕ) where
  says-cond : {A : Type 0} (b : Bool) (m n : Parser A) (p : ℕ) → Says (m s e p) → Says (n s e p) → Says (cond b m n s e p)
  says-cond true m n p h k = h
  says-cond false m n p h k = k

  required : (b : Bool) (n p : ℕ) → Named n → Says (require b (alone n) s e p)
  unfolding require pure refuse
  required b n p h = says-cond b (pure tt) (refuse (alone n)) p tt h

  variable-says : (w p : ℕ) → Says (variable w s e p)
  unfolding variable
  variable-says w p = says-cut (reads.variable_bits w (e - p) 0) s e p

  extended-says : (w p : ℕ) → Says (extended w s e p)
  unfolding extended ◌>>=◌ bits map_p pure
  extended-says w p =
      says_then (bits w s e p) _ (says-cut (reads.read w 0) s e p) λ v q.
      says-cond (eqb v (2 ^ w - 1)) (map_p (λ more. v + more) (variable w)) (pure v) q (says_map (λ more. v + more) (variable w s e q) (variable-says w q)) tt

  flag-says : (p : ℕ) → Says (flag s e p)
  unfolding flag
  flag-says p = says-cut (reads.flag 0) s e p

  pass-says : (w p : ℕ) → Says (pass w s e p)
  unfolding pass
  pass-says w p = says-cut (reads.skip w 0) s e p

  if-says : (b : Bool) (m : Parser (Unit {0})) (p : ℕ) → Says (m s e p) → Says (if_set b m s e p)
  unfolding if_set pure
  if-says b m p h = says-cond b m (pure tt) p h tt

  flagged-says : (m : Parser (Unit {0})) → ((p : ℕ) → Says (m s e p)) → (p : ℕ) → Says (flagged m s e p)
  unfolding flagged ◌>>=◌
  flagged-says m h p = says_then (flag s e p) _ (flag-says p) λ b q. if-says b m q (h q)

  passed-says : (w p : ℕ) → Says (passed (variable w) s e p)
  unfolding passed map_p
  passed-says w p = says_map (λ n. tt) (variable w s e p) (variable-says w p)

  handling-says : (offset : Bool) (p : ℕ) → Says (handling offset s e p)
  unfolding handling
  handling-says offset p = says-cond offset (pass 7) (flagged (pass 9)) p (pass-says 7 p) (flagged-says (pass 9) (pass-says 9) p)

  config-says : (p : ℕ) → Says (config s e p)
  unfolding config after_offset ◌>>=◌ ◌>>◌
  config-says p =
      says_then (flag s e p) _ (flag-says p) λ offset q. says_then (if_set offset (pass 12) s e q) _ (if-says offset (pass 12) q (pass-says 12 q)) λ u q.
      says_then (flagged (passed (variable 11)) s e q) _ (flagged-says (passed (variable 11)) (passed-says 11) q) λ u q.
      says_then (flagged (passed (variable 2)) s e q) _ (flagged-says (passed (variable 2)) (passed-says 2) q) λ u q.
      says_then (flagged (pass 8) s e q) _ (flagged-says (pass 8) (pass-says 8) q) λ u q. says_then (flag s e q) _ (flag-says q) λ discard q.
      if-says (not discard) (handling offset) q (handling-says offset q)

  header-says : (p : ℕ) → Says (header s e p)
  unfolding header ◌>>=◌ ◌>>◌ pure
  header-says p =
      says_then (extended 5 s e p) _ (extended-says 5 p) λ id q. says_then (require (not (eqb id 0)) (alone no_object) s e q) _ (required (not (eqb id 0)) no_object q absent) λ u q.
      says_then (config s e q) _ (config-says q) λ u q. says_then (variable 8 s e q) _ (variable-says 8 q) λ n q. tt

  among-says : (n p : ℕ) → Says (object_among n s e p)
  unfolding object_among ◌>>=◌ ◌>>◌ pure refuse
  among-says zero p = cut
  among-says (suc n) p = says_then (header s e p) _ (header-says p) (on (among-says n))
    where
      on : ((q : ℕ) → Says (object_among n s e q)) → (h : Header) (q : ℕ) → Says (cond (eqb h.id object_id) (pure h.size) (pass (h.size * 8) >> object_among n) s e q)
      on ih h q =
          says-cond (eqb h.id object_id) (pure h.size) (pass (h.size * 8) >> object_among n) q tt
          (says_then (pass (h.size * 8) s e q) _ (pass-says (h.size * 8) q) λ u q'. ih q')

  opening-says : (p : ℕ) → Says (opening s e p)
  unfolding opening first_object passed map_p ◌>>=◌ ◌>>◌
  opening-says p =
      says_then (extended 2 s e p) _ (extended-says 2 p) λ v q. says_then (require (eqb v 0) (alone other_version) s e q) _ (required (eqb v 0) other_version q version) λ u q.
      says_then (map_parsed (λ n. tt) (extended 3 s e q)) _ (says_map (λ n. tt) (extended 3 s e q) (extended-says 3 q)) λ u q. among-says (e - q) q

-- The call

pub data Number : ℕ → Type 0 where
  short-buffer : Number room
  too_large : Number size
  ends-early : Number ends_early
  other-version : Number other_version
  no-object : Number no_object

number : (n : ℕ) → Named n → Number n
number n cut = ends-early
number n version = other-version
number n absent = no-object

-- the object payload that is found has n bytes, from bit p on
pub data Outcome (s b : List ℕ) (t : Taken) : Type 0 where
  copy : (n p : ℕ) → opening s (length s * 8) 0 ≡ got n p → Copied s b n p t → Outcome s b t
  kept : (n : ℕ) → Number n → t ≡ untaken b n → Outcome s b t

module _ (s b : List ℕ) where
  abbrev end : ℕ
  end = length s * 8

  module _ (long : payload_limit ≤ length b) where
    object : (n p : ℕ) → opening s end 0 ≡ got n p → Outcome s b (taken b (container s end 0))
    unfolding container taken ◌>>=◌ ◌>>◌ require pure refuse
    object n p h = rw h (go (leb n payload_limit) refl (leb (p + n * 8) end) refl)
      where
        go : (x : Bool) → leb n payload_limit ≡ x → (y : Bool) → leb (p + n * 8) end ≡ y
            → Outcome s b (taken b (and_then (cond x (pure (tt {0})) (refuse (alone size)) s end p) (λ u q. times n (bits 8) s end q)))
        go true t true u =
            rw (bytes-there s end n p (leb-true _ _ u)) (copy n p h (copied s b n p (leb-true _ _ t) (leb-true _ _ u) long))
        go true t false u =
            let l : p ≤ end = rw h at (opening-ends s end 0) in
            rw (bytes_cut s end n p l (leb-false _ _ u)) (kept ends_early ends-early refl)
        go false t y u = kept size too_large refl

    reading : (x : Parsed ℕ) → opening s end 0 ≡ x → Says x → Outcome s b (taken b (container s end 0))
    unfolding container taken ◌>>=◌
    reading (got n p) h k = object n p h
    reading (refused r) h k = rw h (kept r.number (number r.number k) refl)

  pub outcome : Outcome s b (emdf_call s b)
  unfolding emdf_call
  outcome = go (leb payload_limit (length b)) refl (leb (length s) container_limit)
    where
      go : (x : Bool) → leb payload_limit (length b) ≡ x → (y : Bool)
          → Outcome s b (cond x (cond y (taken b (container s end 0)) (untaken b size)) (untaken b room))
      go true t true = reading (leb-true _ _ t) (opening s end 0) refl (opening-says s end 0)
      go true t false = kept size too_large refl
      go false t y = kept room short-buffer refl

-- so number 0 says that all the bytes of the object payload were copied
pub record Whole (s b : List ℕ) : Type 0 where
  pub first_bit : ℕ
  pub found : opening s (length s * 8) 0 ≡ got (emdf_call s b).length first_bit
  pub copy : Copied s b (emdf_call s b).length first_bit (emdf_call s b)

not-accepted : (n : ℕ) → Number n → n ≡ accepted → ⊥
not-accepted n short-buffer e = omega arith
not-accepted n too_large e = omega arith
not-accepted n ends-early e = omega arith
not-accepted n other-version e = omega arith
not-accepted n no-object e = omega arith

pub accepted-is-whole : (s b : List ℕ) → (emdf_call s b).number ≡ accepted → Whole s b
accepted-is-whole s b h = go (outcome s b)
  where
    go : Outcome s b (emdf_call s b) → Whole s b
    go (copy n p f c) = record {
      first_bit = p;
      found = f ∙ ap (λ (k : ℕ). got k p) (sym c.its-length);
      copy = subst (λ k. Copied s b k p (emdf_call s b)) (sym c.its-length) c;
    }
    go (kept n c e) = absurd (not-accepted n c (sym (ap (λ t. t.number) e) ∙ h))
