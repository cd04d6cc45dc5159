-- How much a payload says: from 1 to 128 objects, from 1 to 8 blocks, and each object in every block.
use Prim.Native.Nat.{ℕ, suc, ◌+◌, ◌-◌, ◌≤◌, ◌<◌}
use mathlib.Core.Path.{◌≡◌, refl, ap}
use mathlib.Core.Bool.{Bool, true, false, cond}
use mathlib.Core.List.{List, ◌∷◌}
use native.Mathlib.Omega.{arith}
use lib.Dec.{leb, eqb}
use lib.ListN.{length, replicate, length-replicate}
use borrow.Author.Tests.{leb-true, eqb-true}
use Rattle.bits.specs.Parsed.{◌>>=◌}
use Rattle.bits.proofs.Always.{Ok, All, Always, bind, after, next, mapped, choose, given, required, weaken, at_each, as_many, together, all-to, times-length}
use Rattle.bits.proofs.Fields.{read-lt}
use Rattle.standard.specs.Numbers.{object_limit, block_limit}
use Rattle.standard.specs.Tree.{Kind, lfe, dynamic, Object, Tree}
use Rattle.standard.specs.Assignment.{object_count, assignment, only_dynamic}
use Rattle.standard.specs.Updates.{update, object}
use Rattle.standard.specs.Syntax.{object_element}
use Rattle.standard.specs.Meaning.{taken}
use Rattle.standard.proofs.Payload.{in_taken}

-- Kinds

abbrev pub Counted : ℕ → Type 0
Counted n = (0 < n) × (n ≤ object_limit)

pub count-form : Always Counted object_count
unfolding object_count
count-form =
    after _ _ λ at. after _ _ λ v. required (leb (v + 1) object_limit) _ λ h. let l = leb-true (v + 1) object_limit h in given _ (omega arith, l)

only-form : (n : ℕ) → 0 < n → Always (λ ks. length ks ≡ n) (only_dynamic n)
unfolding only_dynamic
only-form n h = mapped _ _ go
  where
    go : (b : Bool) → length (cond b (lfe ∷ replicate (n - 1) dynamic) (replicate n dynamic)) ≡ n
    go true = let e = length-replicate (n - 1) dynamic in omega arith
    go false = length-replicate n dynamic

assigned : (n : ℕ) → 0 < n → Always (λ ks. length ks ≡ n) (assignment n)
unfolding assignment
assigned n h =
    after _ _ λ at. after _ _ λ only.
    choose only (only-form n h) (after _ _ λ ks. required (eqb (length ks) n) _ λ e. given _ (eqb-true (length ks) n e))

abbrev pub Some : List Kind → Type 0
Some ks = Counted (length ks)

pub kinds-counted : Always Some (object_count >>= assignment)
kinds-counted = bind _ count-form λ n h. weaken (assigned n h.0) λ ks e. let l = h.0 in let u = h.1 in (omega arith, omega arith)

-- Objects

pub object-kind : (m : ℕ) (k : Kind) → Always (λ (o : Object). o.kind ≡ k) (object m k)
unfolding object
object-kind m k = after _ _ λ u. after _ _ λ us. given _ refl

pub object-length : (m : ℕ) (k : Kind) → Always (λ o. length o.updates ≡ suc m) (object m k)
unfolding object
object-length m k = after _ _ λ u. bind _ (times-length m (update k false)) λ us e. given _ (ap suc e)

-- The tree

pub record Sized (t : Tree) : Type 0 where
  pub objects : length t.objects ≤ object_limit
  pub some : 0 < length t.objects
  pub blocks : length t.timings ≤ block_limit
  pub first : 0 < length t.timings
  pub full : All (λ (o : Object). length o.updates ≡ length t.timings) t.objects

pub sized : (s : List ℕ) → Ok Sized (taken s)
unfolding object_element block_limit
sized =
    in_taken Some Sized (λ ks h.
    after _ _ λ offset. bind _ (read-lt 3 _) λ m hm. bind _ (times-length (m + 1) _) λ ts et. next _
    (bind _ (together (as_many (object m) ks) (at_each ks (object-length m))) λ os e.
    let n = h.0 in
    let u = h.1 in
    let eo = e.0 in
    given _ (record {
      objects = omega arith;
      some = omega arith;
      blocks = omega arith;
      first = omega arith;
      full = all-to os (λ (o : Object) (e' : length o.updates ≡ suc m). omega arith) e.1;
    })))
    kinds-counted
