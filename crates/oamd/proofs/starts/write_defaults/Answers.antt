use Rattle.std.proofs.Common.{◌≡◌, ℕ, ◌+◌, ◌*◌, ◌≤◌, ◌<◌, List, ℤ, map, length, get_or, ◌∙◌, arith}
use Rattle.std.proofs.lemmas.List.{length-map}
use mir.Facts.{to_z-of_z}
use Rattle.standard.specs.Numbers.{row_width, object_limit, start_length}
use Rattle.standard.specs.Tree.{lfe}
use Rattle.standard.specs.Rows.{Row, no_row}
use Rattle.standard.specs.Meaning.{default_row}
use Rattle.rows.specs.Places.{put}
use Rattle.rows.specs.Kinds.{kind_said}
use Rattle.rows.specs.declared.row.Kind.{Kind}
use Rattle.rows.specs.declared.row.Kind.TheVariants as kind
use Rattle.oamd.proofs.StartRows.{Writing, write-none, write-row, write-all, map_at}
use Rattle.oamd.proofs.starts.write_defaults.Goals as goal

-- the default rows of these kinds
abbrev rows_of_kinds : ℤ → List Kind → List Row
rows_of_kinds d ks = map (default_row d) (map kind_said ks)

count : (d : ℤ) (ks : List Kind) → length (rows_of_kinds d ks) ≡ length ks
count d ks = length-map (map kind_said ks) (default_row d) ∙ length-map ks kind_said

fits : (d : ℤ) (ks : List Kind) (l : List ℤ) → length ks ≤ object_limit → start_length ≤ length l → length (rows_of_kinds d ks) * row_width ≤ length l
unfolding object_limit start_length row_width
fits d ks l few long = let n = count d ks in omega arith

-- the next one is written
next_row : (d : ℤ) (ks : List Kind) (l₀ l : List ℤ) (o : ℕ) → length ks ≤ object_limit → start_length ≤ length l₀ → o < length ks → Writing (rows_of_kinds d ks) l₀ o l
    → Writing (rows_of_kinds d ks) l₀ (o + 1) (put l (o * row_width) (default_row d (kind_said (get_or ks o kind.Lfe))))
next_row d ks l₀ l o few long h w =
    let there : o < length (map kind_said ks) = rw length-map h in
    rw (← map_at kind_said ks o kind.Lfe lfe h, ← map_at (default_row d) (map kind_said ks) o lfe no_row there) (write-row (fits d ks l₀ few long) w (rw count h))

pub loop-object-init : goal.loop-object-init
loop-object-init c = write-none _ _

pub overflow_mul-object : goal.overflow_mul-object
unfolding object_limit
overflow_mul-object c = omega (arith, c.loop-object-test.true, c.requires)

pub put_row-requires : goal.put_row-requires
unfolding object_limit start_length row_width
put_row-requires c = omega (arith, c.loop-object.auto.start, c.loop-object-test.true, c.requires)

pub loop-object-preserved : goal.loop-object-preserved
unfolding row_width
loop-object-preserved c =
    rw (c.put_row.ensures, c.default_row.ensures) (next_row _ _ _ _ _ c.requires.0 c.requires.1 c.loop-object-test.true c.loop-object.invariant)

pub returns : goal.returns
returns c =
    let few = fits _ c.args.kinds.now c.args.start.now c.requires.0 c.requires.1 in
    rw (to_z-of_z c.ranges.doubt) at (write-all few c.loop-object.invariant (rw count (omega (arith, c.loop-object-test.false))))
