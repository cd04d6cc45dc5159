-- The table of kinds as it fills: past the table's end kinds are counted alone.
use Rattle.std.specs.Prelude.{ℕ, ◌+◌, ◌≡◌, List, [], ◌∷◌, map, set, Result}
use Rattle.bits.specs.Parsed.{Parser, map_p}
use Rattle.bits.specs.Say.{ReadsAs}
use Rattle.bits.specs.declared.cursor.BitCursor.{BitCursor}
use Rattle.bits.specs.declared.refusals.Refusal.{Refusal}
use Rattle.rows.specs.Kinds.{kind_said}
use Rattle.standard.specs.Tree.{Kind}
use Rattle.assignment.specs.declared.kinds.Kinds.{Kinds}

pub record Table : Type 0 where
  pub count : ℕ
  pub kinds : List Kind

abbrev pub holding : ℕ → List Kind → Table
holding n l = record { count = n; kinds = l }

-- `set` past the end changes nothing
abbrev pub push : Kind → Table → Table
push k t = holding (t.count + 1) (set t.kinds t.count k)

unfoldable pub extend : List Kind → Table → Table
extend [] t = t
extend (k ∷ ks) t = extend ks (push k t)

-- a reading of kinds, which come after those of a table
abbrev pub onto : Table → Parser (List Kind) → Parser Table
onto t m = map_p (λ ks. extend ks t) m

abbrev pub held : Kinds → Table
held k = holding k.count (map kind_said k.table.now)

-- the kinds ks come after those of k, in the same table
pub record Filled (ks : List Kind) (k k' : Kinds) : Type 0 where
  pub holds : held k' ≡ extend ks (held k)
  pub table : k'.table.ghost_name ≡ k.table.ghost_name

-- the kinds that m gives come after those of k, in the same table
pub record Adds (m : Parser (List Kind)) (c : BitCursor) (k : Kinds) (r : Result (Unit {0}) Refusal) (c' : BitCursor) (k' : Kinds) : Type 0 where
  pub reads : ReadsAs (λ u. held k') (onto (held k) m) c r c'
  pub table : k'.table.ghost_name ≡ k.table.ghost_name
