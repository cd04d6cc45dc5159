-- The specification, section 10, "Timings and ramps": between which rows a sample lies, and how far; whatever the timings are.
use Rattle.std.specs.Prelude.{ℕ, suc, ◌-◌, cond, ◌||◌, List, [], ◌∷◌, ltb, leb, eqb, pos, Float}
use Rattle.standard.specs.Tree.{Timing}
use Rattle.standard.specs.Floats.{ratio}

-- from one row to another: row 0 is the start row, row b + 1 that of block b
pub record Choice : Type 0 where
  pub from : ℕ
  pub to : ℕ
  pub elapsed : ℕ
  pub duration : ℕ

-- nothing moves: 1/1
unfoldable pub still : ℕ → Choice
still n = record { from = n; to = n; elapsed = 1; duration = 1 }

-- row n stands so far, and the next block is row n + 1
unfoldable pub walk : ℕ → ℕ → List Timing → Choice
walk sample n [] = still n
walk sample n (t ∷ ts) =
    let elapsed = sample - t.start in
    cond (ltb sample t.start) (still n)
    (cond (eqb t.ramp 0 || leb t.ramp elapsed) (walk sample (suc n) ts)
    (record { from = n; to = suc n; elapsed = elapsed; duration = t.ramp }))

unfoldable pub choice : ℕ → List Timing → Choice
choice sample ts = walk sample 0 ts

unfoldable pub fraction : Choice → Float
fraction c = ratio (pos c.elapsed) c.duration

-- What computing opens

unfoldable pub computed : Unit {0}
unfolding still walk choice fraction
computed = tt
