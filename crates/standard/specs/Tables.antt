-- The specification, section 3, "Tables": how rows, timings and states lie in the lent tables, and the form of what is lent.
use Rattle.std.specs.Prelude.{ℕ, zero, suc, ◌*◌, ◌-◌, Bool, true, ◌&&◌, ◌||◌, List, [], ◌∷◌, ◌++◌, map, ℤ, pos, neg_ℤ, nat_abs, length, get_or, take, drop, replicate}
use Rattle.std.specs.Int.Signed.{le_z}
use Rattle.standard.specs.Numbers.{count_at, doubt_at, row_width, object_limit, retained_head}
use Rattle.standard.specs.Numbers.{kind_at, active_at, gain_at, priority_at, x_at, y_at, z_at, width_at, depth_at, height_at, screen_at, lock_at, zone_at, elevation_at, distance_at, mark_at}
use Rattle.standard.specs.Numbers.{side_limit, height_limit, size_limit, zone_limit, infinity, priority_limit, mark_limit, lowest_gain, highest_gain}
use Rattle.standard.specs.Tree.{kind_code, dynamic, Point, Position, Zone, Size, Timing}
use Rattle.standard.specs.Rows.{Picture, Row, State, default_picture, no_row, eqℤ, is, is_silent}
use Rattle.standard.specs.Marks.{is_settled}

-- kind; active; gain; priority; x; y; z; width, depth, height; screen; lock; zone; elevation; distance; mark
unfoldable pub row_numbers : Row → List ℤ
row_numbers r =
    let p = r.picture in
    r.kind ∷ r.active ∷ r.gain ∷ r.priority
    ∷ p.position.point.x ∷ p.position.point.y ∷ p.position.point.z
    ∷ p.size.width ∷ p.size.depth ∷ p.size.height
    ∷ p.screen ∷ p.lock ∷ p.zone.zone ∷ p.zone.elevation ∷ p.position.distance ∷ r.mark ∷ []

unfoldable pub row_of : List ℤ → Row
row_of l =
    let n : ℕ → ℤ = λ i. get_or l i (pos 0) in
    record {
      kind = n kind_at;
      active = n active_at;
      gain = n gain_at;
      priority = n priority_at;
      picture = record {
        position = record { point = record { x = n x_at; y = n y_at; z = n z_at }; distance = n distance_at };
        size = record { width = n width_at; depth = n depth_at; height = n height_at };
        screen = n screen_at;
        lock = n lock_at;
        zone = record { zone = n zone_at; elevation = n elevation_at };
      };
      mark = n mark_at;
    }

unfoldable pub rows_numbers : List Row → List ℤ
rows_numbers [] = []
rows_numbers (r ∷ rs) = row_numbers r ++ rows_numbers rs

-- n rows from the head of a list of numbers
unfoldable pub rows_of : ℕ → List ℤ → List Row
rows_of zero l = []
rows_of (suc n) l = row_of (take row_width l) ∷ rows_of n (drop row_width l)

-- of rows by object and block: those of block b
abbrev pub in_block : ℕ → List (List Row) → List Row
in_block b rs = map (λ (r : List Row). get_or r b no_row) rs

-- n blocks from block b, and in each object by object
unfoldable pub by_block : ℕ → ℕ → List (List Row) → List Row
by_block zero b rs = []
by_block (suc n) b rs = in_block b rs ++ by_block n (suc b) rs

-- start, ramp per block
unfoldable pub timing_numbers : List Timing → List ℕ
timing_numbers [] = []
timing_numbers (t ∷ ts) = t.start ∷ t.ramp ∷ timing_numbers ts

unfoldable pub timings_of : ℕ → List ℕ → List Timing
timings_of zero l = []
timings_of (suc n) l = record { start = get_or l 0 0; ramp = get_or l 1 0 } ∷ timings_of n (drop 2 l)

-- Retained: object count, doubt, rows; behind the count nothing is read, and zeros are written

unfoldable pub count_of : List ℤ → ℕ
count_of l = nat_abs (get_or l count_at (pos 0))

unfoldable pub state_of : List ℤ → State
state_of l = record { doubt = get_or l doubt_at (pos 0); rows = rows_of (count_of l) (drop retained_head l) }

unfoldable pub state_numbers : State → List ℤ
state_numbers st =
    let n = length st.rows in
    pos n ∷ st.doubt ∷ rows_numbers st.rows ++ replicate (row_width * (object_limit - n)) (pos 0)

-- Form

abbrev pub every : List Bool → Bool
every [] = true
every (b ∷ bs) = b && every bs

abbrev pub between : ℤ → ℤ → ℤ → Bool
between lo hi v = le_z lo v && le_z v hi

abbrev pub up_to : ℕ → ℤ → Bool
up_to n v = between (pos 0) (pos n) v

abbrev pub is_flag : ℤ → Bool
is_flag v = up_to 1 v

unfoldable pub gain_form : ℤ → Bool
gain_form v = is_silent v || between lowest_gain highest_gain v

unfoldable pub point_tests : Point → List Bool
point_tests p =
    up_to side_limit p.x ∷ up_to side_limit p.y ∷ between (neg_ℤ (pos height_limit)) (pos height_limit) p.z ∷ []

unfoldable pub point_form : Point → Bool
point_form p = every (point_tests p)

unfoldable pub position_form : Position → Bool
position_form p = every (point_form p.point ∷ up_to infinity p.distance ∷ [])

unfoldable pub zone_form : Zone → Bool
zone_form z = every (up_to zone_limit z.zone ∷ is_flag z.elevation ∷ [])

unfoldable pub size_form : Size → Bool
size_form s = every (up_to size_limit s.width ∷ up_to size_limit s.depth ∷ up_to size_limit s.height ∷ [])

unfoldable pub picture_tests : Picture → List Bool
picture_tests p =
    position_form p.position ∷ zone_form p.zone ∷ size_form p.size ∷ is_flag p.screen ∷ is_flag p.lock ∷ []

unfoldable pub picture_form : Picture → Bool
picture_form p = every (picture_tests p)

unfoldable pub mark_form : ℤ → Bool
mark_form m = up_to mark_limit m

-- equal in each number

abbrev pub same_point : Point → Point → Bool
same_point p q = every (eqℤ p.x q.x ∷ eqℤ p.y q.y ∷ eqℤ p.z q.z ∷ [])

abbrev pub same_position : Position → Position → Bool
same_position p q = every (same_point p.point q.point ∷ eqℤ p.distance q.distance ∷ [])

abbrev pub same_zone : Zone → Zone → Bool
same_zone p q = every (eqℤ p.zone q.zone ∷ eqℤ p.elevation q.elevation ∷ [])

abbrev pub same_size : Size → Size → Bool
same_size p q = every (eqℤ p.width q.width ∷ eqℤ p.depth q.depth ∷ eqℤ p.height q.height ∷ [])

abbrev pub same_picture : Picture → Picture → Bool
same_picture p q =
    every (same_position p.position q.position ∷ same_zone p.zone q.zone ∷ same_size p.size q.size
    ∷ eqℤ p.screen q.screen ∷ eqℤ p.lock q.lock ∷ [])

unfoldable pub is_default : Picture → Bool
is_default p = same_picture p default_picture

-- a row at rest is silent, and has no priority
unfoldable pub active_form : Row → Bool
active_form r = is 1 r.active || (is_silent r.gain && is 0 r.priority)

-- a fixed kind has the default picture
unfoldable pub fixed_form : Row → Bool
fixed_form r = is (kind_code dynamic) r.kind || is_default r.picture

-- of a row to be shown: a fixed kind has any mark
unfoldable pub shown_tests : Row → List Bool
shown_tests r =
    up_to (kind_code dynamic) r.kind ∷ is_flag r.active ∷ gain_form r.gain ∷ up_to priority_limit r.priority
    ∷ picture_form r.picture ∷ mark_form r.mark ∷ active_form r ∷ fixed_form r ∷ []

unfoldable pub shown_form : Row → Bool
shown_form r = every (shown_tests r)

-- of a retained row: a fixed kind is settled
unfoldable pub row_form : Row → Bool
row_form r = shown_form r && (is (kind_code dynamic) r.kind || is_settled r.mark)

unfoldable pub all_shown : List Row → Bool
all_shown [] = true
all_shown (r ∷ rs) = shown_form r && all_shown rs

unfoldable pub all_form : List Row → Bool
all_form [] = true
all_form (r ∷ rs) = row_form r && all_form rs

unfoldable pub in_form : List ℤ → Bool
in_form l = up_to object_limit (get_or l count_at (pos 0)) && is_flag (get_or l doubt_at (pos 0)) && all_form (state_of l).rows

-- What computing opens

unfoldable pub computed : Unit {0}
unfolding row_numbers row_of rows_numbers rows_of by_block timing_numbers timings_of count_of state_of state_numbers gain_form point_tests point_form position_form zone_form size_form picture_tests picture_form mark_form is_default active_form fixed_form shown_tests shown_form row_form all_shown all_form in_form
computed = tt
