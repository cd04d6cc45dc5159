-- The specification, section 11, "Floats": what is shown of a row.
use Rattle.std.specs.Prelude.{cond, ℤ, Float}
use Rattle.std.specs.Float.{binary32}
use Rattle.std.specs.Float.Ieee.{of_int}
use Rattle.standard.specs.Numbers.{side_limit, height_limit, size_limit, priority_limit}
use Rattle.standard.specs.Tree.{kind_code, lfe}
use Rattle.standard.specs.Floats.{nought, one, minus_one, ratio}
use Rattle.standard.specs.Rows.{Row, is, is_silent}

-- silence, or decibels
pub data Gain : Type 0 where
  silent : Gain
  decibels : Float → Gain

pub record Shown : Type 0 where
  pub x : Float
  pub y : Float
  pub z : Float
  pub width : Float
  pub depth : Float
  pub height : Float
  pub priority : Float
  pub gain : Gain

unfoldable pub shown_gain : ℤ → Gain
shown_gain g = cond (is_silent g) silent (decibels (of_int binary32 g))

-- an Lfe is at (-1, 1, -1), whatever its row says
unfoldable pub shown : Row → Shown
shown r =
    let p = r.picture in
    let is_lfe = is (kind_code lfe) r.kind in
    record {
      x = cond is_lfe minus_one (ratio p.position.point.x side_limit);
      y = cond is_lfe one (ratio p.position.point.y side_limit);
      z = cond is_lfe minus_one (ratio p.position.point.z height_limit);
      width = ratio p.size.width size_limit;
      depth = ratio p.size.depth size_limit;
      height = ratio p.size.height size_limit;
      priority = ratio r.priority priority_limit;
      gain = shown_gain r.gain;
    }

-- on a refusal: every float 0, the gain silence
unfoldable pub nothing_shown : Shown
nothing_shown =
    record { x = nought; y = nought; z = nought; width = nought; depth = nought; height = nought; priority = nought; gain = silent }

-- What computing opens

unfoldable pub computed : Unit {0}
unfolding shown_gain shown nothing_shown
computed = tt
