-- The list of payloads: a payload, and then the rest; and what is kept of its numbers is enough.
use Prim.Native.Nat.{ℕ, zero, suc, ◌*◌, ◌-◌, ◌≤◌, ◌<◌, min}
use mathlib.Core.Path.{◌≡◌, refl, sym, ap, ◌∙◌}
use mathlib.Core.Bool.{Bool, true, false, cond, not}
use mathlib.Core.List.{List}
use native.Mathlib.Nat.{min-le_right}
use native.Mathlib.Omega.{arith}
use lib.Dec.{eqb}
use Rattle.bits.specs.Parsed.{Parsed, got, refused, and_then, map_parsed, ◌>>=◌, ◌>>◌, map_p, pure, refuse, require}
use Rattle.bits.proofs.Always.{Always, mapped}
use Rattle.bits.proofs.ParsedLaws.{then-got, then_map}
use Rattle.standard.specs.Numbers.{container_limit, no_object, other_version, alone}
use Rattle.standard.specs.Container.{object_id, pass, variable, extended, passed, config, Header, header, object_among, first_object, opening}
use Rattle.emdf.specs.Say.{large, near, near_header}
use Rattle.emdf.proofs.Turns.{Turns, turn-then}
use Rattle.emdf.proofs.Cuts.{cut, Whole, cut-past, bits-tells, pass-tells}
use Rattle.emdf.proofs.Nearness.{Alike, same, past, alike-min, near-is, near-passed}
use Rattle.emdf.proofs.Places.{Forward, header-forward}

module _ (s : List ℕ) (e : ℕ) where
  -- behind a header: the object payload's size, or the payload is passed and `then` goes on
  abbrev pub after_header : (ℕ → Parsed ℕ) → Header → ℕ → Parsed ℕ
  after_header then h q = cond (eqb h.id object_id) (got h.size q) (and_then (pass (h.size * 8) s e q) (λ u q'. then q'))

  one-payload : (n p : ℕ) → object_among (suc n) s e p ≡ and_then (header s e p) (after_header (λ q. object_among n s e q))
  unfolding object_among ◌>>=◌ ◌>>◌ pure
  one-payload n p = then-got (header s e p) _ _ (λ h q. go (eqb h.id object_id) h.size q)
    where
      go : (b : Bool) (k q : ℕ) → cond b (pure k) (pass (k * 8) >> object_among n) s e q ≡ cond b (got k q) (and_then (pass (k * 8) s e q) (λ u q'. object_among n s e q'))
      go true k q = refl
      go false k q = refl

  none_left : (p : ℕ) → e ≤ p → header s e p ≡ refused cut
  unfolding header extended ◌>>=◌
  none_left p l = rw (cut-past 5 (bits-tells 5) s e p (omega arith))

  none-among : (n p : ℕ) → e ≤ p → object_among n s e p ≡ refused cut
  unfolding object_among refuse
  none-among zero p l = refl
  none-among (suc n) p l = one-payload n p ∙ rw (none_left p l)

  -- what follows may be said in two ways that are the same further on
  module _ (f g : ℕ → Parsed ℕ) (p : ℕ) (alike : (q : ℕ) → p < q → q ≤ e → f q ≡ g q) where
    after-pass : (w q : ℕ) (x : Parsed (Unit {0})) → p < q → Whole w s e q x → and_then x (λ u q'. f q') ≡ and_then x (λ u q'. g q')
    after-pass w q (got u q') l (k, j) = alike q' (omega arith) j
    after-pass w q (refused r) l k = refl

    after-header : (x : Parsed Header) → Forward s e p x → and_then x (after_header f) ≡ and_then x (after_header g)
    after-header (got h q) (l, k) = ap (cond (eqb h.id object_id) (got h.size q)) (after-pass (h.size * 8) q (pass (h.size * 8) s e q) l ((pass-tells (h.size * 8)).tells s e q))
    after-header (refused r) k = refl

  turns : Turns {A = Unit {0}} e (λ n u p. object_among n s e p) (λ then u p. and_then (header s e p) (after_header (then tt)))
  turns = record {
    first = λ n u p. one-payload n p;
    none = λ n u p l. none-among n p l;
    cut-turn = λ then u p l. ap (λ x. and_then x (after_header (then tt))) (none_left p l);
    later = λ f g u p same. after-header (f tt) (g tt) p (same tt) (header s e p) (header-forward.tells s e p);
  }

  abbrev first : ℕ → Parsed ℕ
  first p = first_object s e p

  -- a payload, and then the rest
  pub payload-then : (p : ℕ) → first p ≡ and_then (header s e p) (after_header first)
  unfolding first_object
  payload-then p = turn-then turns (tt {0}) p

  -- What is kept of an id or a size is enough

  near-pass : e ≤ container_limit * 8 → (n q : ℕ) → pass (n * 8) s e q ≡ pass (min n large * 8) s e q
  unfolding container_limit
  near-pass l n q = go (alike-min n)
    where
      go : Alike n (min n large) → pass (n * 8) s e q ≡ pass (min n large * 8) s e q
      go (same d) = ap (λ k. pass (k * 8) s e q) d
      go (past h k) = cut-past (n * 8) (pass-tells (n * 8)) s e q (omega arith) ∙ sym (cut-past (min n large * 8) (pass-tells (min n large * 8)) s e q (omega arith))

  abbrev pub near_first : ℕ → Parsed ℕ
  near_first p = near (first p)

  pub near-payload : e ≤ container_limit * 8 → (p : ℕ) → near_first p ≡ and_then (map_parsed near_header (header s e p)) (after_header near_first)
  near-payload l p = rw (payload-then p) (go (header s e p))
    where
      on : (b : Bool) (k q : ℕ) → near (cond b (got k q) (and_then (pass (k * 8) s e q) (λ u q'. first q'))) ≡ cond b (got (min k large) q) (and_then (pass (k * 8) s e q) (λ u q'. near_first q'))
      on true k q = refl
      on false k q = then_map (pass (k * 8) s e q) (λ u q'. first q') (λ n. min n large)

      go : (x : Parsed Header) → near (and_then x (after_header first)) ≡ and_then (map_parsed near_header x) (after_header near_first)
      go (got h q) = rw (← (near-is h.id object_id (omega arith)), ← (near-pass l h.size q)) (on (eqb h.id object_id) h.size q)
      go (refused r) = refl

  -- behind an id: the config and the size
  abbrev pub after_id : ℕ → ℕ → Parsed Header
  after_id id q =
      and_then (require (not (eqb id 0)) (alone no_object) s e q) (λ u q. and_then (config s e q)
      (λ u q. map_parsed (λ n. record { id = id; size = n }) (near (variable 8 s e q))))

  pub near-header : (p : ℕ) → map_parsed near_header (header s e p) ≡ and_then (near (extended 5 s e p)) after_id
  unfolding header ◌>>=◌ ◌>>◌ pure
  near-header p = go (extended 5 s e p)
    where
      its-size : (id : ℕ) (x : Parsed ℕ)
          → map_parsed near_header (and_then x (λ n q. got (record { id = id; size = n }) q)) ≡ map_parsed (λ n. record { id = min id large; size = n }) (near x)
      its-size id (got n q) = refl
      its-size id (refused r) = refl

      its-config : (id : ℕ) (x : Parsed (Unit {0}))
          → map_parsed near_header (and_then x (λ u q. and_then (variable 8 s e q) (λ n q. got (record { id = id; size = n }) q)))
          ≡ and_then x (λ u q. map_parsed (λ n. record { id = min id large; size = n }) (near (variable 8 s e q)))
      its-config id (got u q) = its-size id (variable 8 s e q)
      its-config id (refused r) = refl

      tested : (id : ℕ) (x : Parsed (Unit {0}))
          → map_parsed near_header (and_then x (λ u q. and_then (config s e q) (λ u q. and_then (variable 8 s e q) (λ n q. got (record { id = id; size = n }) q))))
          ≡ and_then x (λ u q. and_then (config s e q) (λ u q. map_parsed (λ n. record { id = min id large; size = n }) (near (variable 8 s e q))))
      tested id (got u q) = its-config id (config s e q)
      tested id (refused r) = refl

      go : (x : Parsed ℕ)
          → map_parsed near_header (and_then x (λ id q. and_then (require (not (eqb id 0)) (alone no_object) s e q) (λ u q. and_then (config s e q) (λ u q. and_then (variable 8 s e q) (λ n q. got (record { id = id; size = n }) q)))))
          ≡ and_then (near x) after_id
      go (got id q) = rw (← (near-is id 0 (omega arith))) (tested id (require (not (eqb id 0)) (alone no_object) s e q))
      go (refused r) = refl

  -- behind the version: the key id and the list
  abbrev pub after_version : ℕ → ℕ → Parsed ℕ
  after_version v q =
      and_then (require (eqb v 0) (alone other_version) s e q) (λ u q. and_then (map_parsed (λ n. tt {0}) (near (extended 3 s e q))) (λ u q. near_first q))

  pub near-opening : (p : ℕ) → near (opening s e p) ≡ and_then (near (extended 2 s e p)) after_version
  unfolding opening ◌>>=◌ ◌>>◌ passed map_p
  near-opening p = go (extended 2 s e p)
    where
      keyed : (x : Parsed (Unit {0})) → near (and_then x (λ u q. first q)) ≡ and_then x (λ u q. near_first q)
      keyed x = then_map x (λ u q. first q) (λ n. min n large)

      tested : (x : Parsed (Unit {0}))
          → near (and_then x (λ u q. and_then (map_parsed (λ n. tt {0}) (extended 3 s e q)) (λ u q. first q))) ≡ and_then x (λ u q. and_then (map_parsed (λ n. tt {0}) (near (extended 3 s e q))) (λ u q. near_first q))
      tested (got u q) = keyed (map_parsed (λ n. tt {0}) (extended 3 s e q)) ∙ ap (λ x. and_then x (λ u q. near_first q)) (near-passed (extended 3 s e q))
      tested (refused r) = refl

      go : (x : Parsed ℕ)
          → near (and_then x (λ v q. and_then (require (eqb v 0) (alone other_version) s e q) (λ u q. and_then (map_parsed (λ n. tt {0}) (extended 3 s e q)) (λ u q. first q)))) ≡ and_then (near x) after_version
      go (got v q) = rw (← (near-is v 0 (omega arith))) (tested (require (eqb v 0) (alone other_version) s e q))
      go (refused r) = refl

pub near-header-small : Always (λ h. h.size ≤ large) (map_p near_header header)
near-header-small = mapped near_header header (λ h. min-le_right h.size large)

-- What is found begins within the container

module _ {A : Type 0} where
  abbrev pub Ends : ℕ → Parsed A → Type 0
  Ends e (got a q) = q ≤ e
  Ends e (refused r) = Unit {0}

ends-then : {A B : Type 0} (e : ℕ) (x : Parsed A) (k : A → ℕ → Parsed B) → ((a : A) (q : ℕ) → Ends e (k a q)) → Ends e (and_then x k)
ends-then e (got a q) k h = h a q
ends-then e (refused r) k h = tt

among-ends : (s : List ℕ) (e n p : ℕ) → Ends e (object_among n s e p)
unfolding object_among refuse
among-ends s e zero p = tt
among-ends s e (suc n) p = rw (one-payload s e n p) (go (among-ends s e n) (header s e p) (header-forward.tells s e p))
  where
    on : ((q : ℕ) → Ends e (object_among n s e q)) → (b : Bool) (k q : ℕ) → q ≤ e → Ends e (cond b (got k q) (and_then (pass (k * 8) s e q) (λ u q'. object_among n s e q')))
    on ih true k q l = l
    on ih false k q l = ends-then e (pass (k * 8) s e q) (λ u q'. object_among n s e q') (λ u q'. ih q')

    go : ((q : ℕ) → Ends e (object_among n s e q)) → (x : Parsed Header) → Forward s e p x → Ends e (and_then x (after_header s e (λ q. object_among n s e q)))
    go ih (got h q) (k, l) = on ih (eqb h.id object_id) h.size q l
    go ih (refused r) k = tt

pub opening-ends : (s : List ℕ) (e p : ℕ) → Ends e (opening s e p)
unfolding opening first_object ◌>>=◌ ◌>>◌
opening-ends s e p =
    ends-then e (extended 2 s e p) _ λ v q. ends-then e (require (eqb v 0) (alone other_version) s e q) _ λ u q.
    ends-then e (passed (extended 3) s e q) _ λ u q. among-ends s e (e - q) q
