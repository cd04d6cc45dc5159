-- Laws of the table of kinds: kinds after kinds, and how many there are.
use Rattle.std.proofs.Common.{◌≡◌, ℕ, zero, suc, ◌+◌, List, [], ◌∷◌, ◌++◌, length, replicate, refl, ap, sym, ◌∙◌, arith, add-one, map}
use Rattle.std.proofs.lemmas.List.{length-map, append-nil, drop_all}
use Rattle.std.proofs.Math.Seq.{sets, sets-eq, length-sets}
use Rattle.rows.specs.Kinds.{kind_said}
use Rattle.standard.specs.Tree.{Kind}
use Rattle.assignment.specs.Kinds.{Table, holding, push, extend, held, Filled}
use Rattle.assignment.specs.declared.kinds.Kinds.{Kinds}

pub map-replicate : {A B : Type 0} (f : A → B) (n : ℕ) (x : A) → map f (replicate n x) ≡ replicate n (f x)
map-replicate f zero x = refl
map-replicate f (suc n) x = ap (λ l. f x ∷ l) (map-replicate f n x)

pub counted : {n : ℕ} {l : List Kind} {t : Table} → holding n l ≡ t → n ≡ t.count
counted h = ap (λ (t : Table). t.count) h

pub extend-append : (xs ys : List Kind) (t : Table) → extend (xs ++ ys) t ≡ extend ys (extend xs t)
unfolding extend
extend-append [] ys t = refl
extend-append (x ∷ xs) ys t = extend-append xs ys (push x t)

pub extend-count : (xs : List Kind) (t : Table) → (extend xs t).count ≡ t.count + length xs
unfolding extend
extend-count [] t = omega arith
extend-count (x ∷ xs) t = omega (arith, extend-count xs (push x t))

pub extend-kinds : (xs : List Kind) (t : Table) → (extend xs t).kinds ≡ sets t.kinds t.count xs
unfolding extend
extend-kinds [] t = refl
extend-kinds (x ∷ xs) t = rw (← add-one t.count) (extend-kinds xs (push x t))

module _ {ks : List Kind} {k k' : Kinds} (h : Filled ks k k') where
  pub grown : k'.count ≡ k.count + length ks
  grown = counted h.holds ∙ extend-count ks (held k)

  pub keeps-length : length k'.table.now ≡ length k.table.now
  keeps-length =
      sym (length-map k'.table.now kind_said) ∙ ap (λ (t : Table). length t.kinds) h.holds ∙ ap length (extend-kinds ks (held k)) ∙ length-sets _ _ ks ∙ length-map k.table.now kind_said

  -- as many kinds as places fill the table
  pub all-filled : k.count ≡ 0 → length ks ≡ length k.table.now → map kind_said k'.table.now ≡ ks
  all-filled none many =
      let l = map kind_said k.table.now in
      let n : length ks ≡ length l = many ∙ sym (length-map k.table.now kind_said) in
      let z : sets l k.count ks ≡ ks =
      rw (none, sets-eq ks l 0 (omega arith), drop_all (0 + length ks) l (omega arith)) (append-nil ks) in
      ap (λ (t : Table). t.kinds) h.holds ∙ extend-kinds ks (held k) ∙ z

module _ {k : Kinds} where
  pub none : Filled [] k k
  unfolding extend
  none = record { holds = refl; table = refl }

  pub and_then : {xs ys : List Kind} {k' k'' : Kinds} → Filled xs k k' → Filled ys k' k'' → Filled (xs ++ ys) k k''
  and_then {xs} {ys} h g = record { holds = g.holds ∙ rw h.holds (sym (extend-append xs ys (held k))); table = g.table ∙ h.table }
