-- The specification, section 3, "Tables": a row, its picture and the picture's groups, and what is kept between payloads.
use Rattle.std.specs.Prelude.{ℕ, Bool, false, List, [], eqb, ℤ, pos, negsuc}
use Rattle.standard.specs.Numbers.{silence, middle}
use Rattle.standard.specs.Tree.{Position, Zone, Size}

pub record Picture : Type 0 where
  pub position : Position
  pub zone : Zone
  pub size : Size
  pub screen : ℤ
  pub lock : ℤ

pub record Row : Type 0 where
  pub kind : ℤ
  pub active : ℤ
  pub gain : ℤ
  pub priority : ℤ
  pub picture : Picture
  pub mark : ℤ

pub record State : Type 0 where
  pub doubt : ℤ
  pub rows : List Row

-- a fresh decoder: nothing is kept yet
unfoldable pub fresh : State
fresh = record { doubt = pos 0; rows = [] }

unfoldable pub default_picture : Picture
default_picture =
    record {
      position = record { point = record { x = pos middle; y = pos middle; z = pos 0 }; distance = pos 0 };
      zone = record { zone = pos 0; elevation = pos 1 };
      size = record { width = pos 0; depth = pos 0; height = pos 0 };
      screen = pos 0;
      lock = pos 0;
    }

-- what is found where no row is
abbrev pub no_row : Row
no_row =
    record {
      kind = pos 0;
      active = pos 0;
      gain = pos 0;
      priority = pos 0;
      picture = record {
        position = record { point = record { x = pos 0; y = pos 0; z = pos 0 }; distance = pos 0 };
        zone = record { zone = pos 0; elevation = pos 0 };
        size = record { width = pos 0; depth = pos 0; height = pos 0 };
        screen = pos 0;
        lock = pos 0;
      };
      mark = pos 0;
    }

-- The groups of a picture

pub data Group : Type 0 where
  its_position its_zone its_size its_screen its_lock : Group

abbrev pub Part : Group → Type 0
Part its_position = Position
Part its_zone = Zone
Part its_size = Size
Part its_screen = ℤ
Part its_lock = ℤ

abbrev pub part : (g : Group) → Picture → Part g
part its_position p = p.position
part its_zone p = p.zone
part its_size p = p.size
part its_screen p = p.screen
part its_lock p = p.lock

-- Tests of a number

abbrev pub eqℤ : ℤ → ℤ → Bool
eqℤ (pos m) (pos n) = eqb m n
eqℤ (pos m) (negsuc n) = false
eqℤ (negsuc m) (pos n) = false
eqℤ (negsuc m) (negsuc n) = eqb m n

abbrev pub is : ℕ → ℤ → Bool
is n v = eqℤ v (pos n)

abbrev pub is_silent : ℤ → Bool
is_silent v = eqℤ v silence

-- What computing opens

unfoldable pub computed : Unit {0}
unfolding fresh default_picture
computed = tt
