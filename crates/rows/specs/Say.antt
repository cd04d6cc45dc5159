-- What the code's rows say: the paper's records.
use Rattle.std.specs.Prelude.{ℤ}
use Rattle.standard.specs.Tree as tree
use Rattle.standard.specs.Rows as rows
use Rattle.rows.specs.declared.row.Point.{Point}
use Rattle.rows.specs.declared.row.Zone.{Zone}
use Rattle.rows.specs.declared.row.Size.{Size}
use Rattle.rows.specs.declared.row.Picture.{Picture}
use Rattle.rows.specs.declared.row.Row.{Row}

abbrev pub point_said : Point → tree.Point
point_said p = record { x = p.x; y = p.y; z = p.z }

abbrev pub position_said : Point → ℤ → tree.Position
position_said p d = record { point = point_said p; distance = d }

abbrev pub zone_said : Zone → tree.Zone
zone_said z = record { zone = z.zone; elevation = z.elevation }

abbrev pub size_said : Size → tree.Size
size_said s = record { width = s.width; depth = s.depth; height = s.height }

abbrev pub picture_said : Picture → rows.Picture
picture_said p =
    record {
      position = position_said p.point p.distance;
      zone = zone_said p.zone;
      size = size_said p.size;
      screen = p.screen;
      lock = p.lock;
    }

abbrev pub row_said : Row → rows.Row
row_said r =
    record {
      kind = r.kind;
      active = r.active;
      gain = r.gain;
      priority = r.priority;
      picture = picture_said r.picture;
      mark = r.mark;
    }
