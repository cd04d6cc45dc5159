-- Parts of the definitions that have a function of their own.
use Rattle.std.specs.Prelude.{ℕ, suc, ◌+◌, cond, ◌||◌, List, [], ◌∷◌, eqb, replicate}
use Rattle.bits.specs.Parsed.{Parser, ◌>>=◌, map_p, pure}
use Rattle.bits.specs.Reads.{read, flag}
use Rattle.standard.specs.Tree.{Kind, lfe, bed}
use Rattle.standard.specs.Contexts as context

unfoldable pub bed_count : Parser ℕ
bed_count = do
  multiple ← flag context.multiple-bed-instances-flag
  cond multiple (map_p (λ n. n + 2) (read 3 context.bed-instance-count)) (pure 1)

-- The channels of a bed by their widths: bit 0 and one more are Lfe

unfoldable pub channel_kind : ℕ → ℕ → Kind
channel_kind second i = cond (eqb i 0 || eqb i second) lfe bed

-- from bit i on
unfoldable pub channels : ℕ → ℕ → List ℕ → List (List Kind)
channels second i [] = []
channels second i (w ∷ ws) = replicate w (channel_kind second i) ∷ channels second (suc i) ws
