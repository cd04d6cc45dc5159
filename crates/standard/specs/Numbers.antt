-- Every size, column, range and limit of the specification, and the numbers of its table that no reading of a payload gives, each named once.
use Rattle.std.specs.Prelude.{ℕ, ◌+◌, ◌*◌, ℤ, pos, negsuc}
use Rattle.bits.specs.Parsed.{Refusal}

-- Tables

unfoldable pub row_width : ℕ
row_width = 16

unfoldable pub object_limit : ℕ
object_limit = 128

unfoldable pub block_limit : ℕ
block_limit = 8

-- the object count and the doubt stand before the rows
abbrev pub count_at : ℕ
count_at = 0

abbrev pub doubt_at : ℕ
doubt_at = 1

unfoldable pub retained_head : ℕ
retained_head = 2

unfoldable pub retained_length : ℕ
unfolding row_width object_limit retained_head
retained_length = retained_head + row_width * object_limit

unfoldable pub start_length : ℕ
unfolding row_width object_limit
start_length = row_width * object_limit

unfoldable pub blocks_length : ℕ
unfolding row_width object_limit block_limit
blocks_length = row_width * object_limit * block_limit

unfoldable pub timings_length : ℕ
unfolding block_limit
timings_length = 2 * block_limit

-- Where each number of a row stands in it

abbrev pub kind_at : ℕ
kind_at = 0

abbrev pub active_at : ℕ
active_at = 1

abbrev pub gain_at : ℕ
gain_at = 2

abbrev pub priority_at : ℕ
priority_at = 3

abbrev pub x_at : ℕ
x_at = 4

abbrev pub y_at : ℕ
y_at = 5

abbrev pub z_at : ℕ
z_at = 6

abbrev pub width_at : ℕ
width_at = 7

abbrev pub depth_at : ℕ
depth_at = 8

abbrev pub height_at : ℕ
height_at = 9

abbrev pub screen_at : ℕ
screen_at = 10

abbrev pub lock_at : ℕ
lock_at = 11

abbrev pub zone_at : ℕ
zone_at = 12

abbrev pub elevation_at : ℕ
elevation_at = 13

abbrev pub distance_at : ℕ
distance_at = 14

abbrev pub mark_at : ℕ
mark_at = 15

-- How far each number of a row goes

-- x and y, from 0
abbrev pub side_limit : ℕ
side_limit = 62

-- z, to either side of 0
abbrev pub height_limit : ℕ
height_limit = 15

-- width, depth and height, from 0
abbrev pub size_limit : ℕ
size_limit = 31

abbrev pub zone_limit : ℕ
zone_limit = 5

-- the distance of an object at infinity, and the largest
abbrev pub infinity : ℕ
infinity = 17

abbrev pub priority_limit : ℕ
priority_limit = 32

-- the mark of a row whose groups are all settled, and the largest
abbrev pub mark_limit : ℕ
mark_limit = 31

-- in dB
abbrev pub lowest_gain : ℤ
lowest_gain = negsuc 48

abbrev pub highest_gain : ℤ
highest_gain = pos 15

-- minus infinity
abbrev pub silence : ℤ
silence = negsuc 127

-- x and y of the default picture
abbrev pub middle : ℕ
middle = 31

-- Limits of what is read

-- in bytes
unfoldable pub payload_limit : ℕ
payload_limit = 16384

-- in bytes
unfoldable pub container_limit : ℕ
container_limit = 65536

unfoldable pub element_limit : ℕ
element_limit = 31

-- in samples
unfoldable pub frame_length : ℕ
frame_length = 1536

-- Numbers given back

abbrev pub accepted : ℕ
accepted = 0

abbrev pub room : ℕ
room = 5

abbrev pub form : ℕ
form = 6

abbrev pub size : ℕ
size = 7

abbrev pub ordering : ℕ
ordering = 8

abbrev pub overlap : ℕ
overlap = 9

abbrev pub cross_frame : ℕ
cross_frame = 10

abbrev pub query : ℕ
query = 11

abbrev pub index : ℕ
index = 12

abbrev pub ends_early : ℕ
ends_early = 13

abbrev pub other_version : ℕ
other_version = 14

abbrev pub no_object : ℕ
no_object = 15

abbrev pub unknown_rule : ℕ
unknown_rule = 16

-- a number alone: context 0, place 0, no missing bits
abbrev pub alone : ℕ → Refusal
alone n = record { number = n; context = 0; place = 0; missing = 0 }

-- What computing opens

unfoldable pub computed : Unit {0}
unfolding row_width object_limit block_limit retained_head retained_length start_length blocks_length timings_length payload_limit container_limit element_limit frame_length
computed = tt
