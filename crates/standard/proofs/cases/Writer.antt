-- A writer of payloads, fields as width and value, and short names for rows: so that a case reads like its sentence in the specification.
use Prim.Native.Nat.{ℕ, zero, suc, ◌+◌, ◌*◌, ◌-◌, ◌/◌, ◌%◌, ◌^◌}
use mathlib.Core.Path.{◌≡◌, refl}
use mathlib.Core.Bool.{true, false, cond}
use mathlib.Core.List.{List, [], ◌∷◌, ◌++◌, flatten}
use lib.Dec.{eqb, leb}
use lib.IntN.{ℤ, pos, neg_ℤ}
use lib.ListN.{length, replicate}
use Rattle.standard.specs.Numbers.{row_width, silence}
use Rattle.standard.specs.Tree.{dynamic, kind_number}
use Rattle.standard.specs.Rows.{Row}
use Rattle.standard.specs.Computed.{computed}
use Rattle.standard.specs.Journal.{Record, start_notice}
use Rattle.standard.specs.Cases.{plain_row, inactive_row, Case, refuses, accepts, head_of_a}
use Rattle.standard.specs.Cases as cases

-- Bits and bytes

abbrev pub Bits : Type 0
Bits = List ℕ

-- v in w bits, the highest first
infix 70 ◌⊳◌
unfoldable pub ◌⊳◌ : ℕ → ℕ → Bits
zero ⊳ v = []
suc w ⊳ v = (v / 2 ^ w % 2) ∷ (w ⊳ v)

-- the n bits of the last byte so far spell v
unfoldable pub bytes_from : ℕ → ℕ → Bits → List ℕ
bytes_from n v [] = cond (eqb n 0) [] (v * 2 ^ (8 - n) ∷ [])
bytes_from n v (b ∷ bs) = elim (eqb n 7) [ true ↦ (v * 2 + b) ∷ bytes_from 0 0 bs | false ↦ bytes_from (n + 1) (v * 2 + b) bs ]

-- with zero fill
unfoldable pub bytes : Bits → List ℕ
bytes b = bytes_from 0 0 b

unfoldable pub filled : Bits → Bits
filled b = b ++ replicate ((8 - length b % 8) % 8) 0

-- The payload

-- n bytes, in one or two groups
unfoldable pub size_groups : ℕ → Bits
size_groups n = cond (leb n 16) (4 ⊳ (n - 1) ++ 1 ⊳ 0) (4 ⊳ ((n - 17) / 16) ++ 1 ⊳ 1 ++ 4 ⊳ ((n - 17) % 16) ++ 1 ⊳ 0)

-- id, size, and inside the element a discard flag
unfoldable pub element : ℕ → Bits → Bits
element id content =
    let b = filled (1 ⊳ 0 ++ content) in
    4 ⊳ id ++ size_groups (length b / 8) ++ b

-- no alternate data; so many elements
unfoldable pub elements : List Bits → Bits
elements es = 1 ⊳ 0 ++ 4 ⊳ length es ++ flatten es

-- version 0, n objects, dynamic-only, with or without an Lfe
unfoldable pub dynamic_only : ℕ → ℕ → Bits
dynamic_only n low = 2 ⊳ 0 ++ 5 ⊳ (n - 1) ++ 1 ⊳ 1 ++ 1 ⊳ low

-- n Dynamic objects, and one object element that says this of them
unfoldable pub said : ℕ → Bits → List ℕ
said n content = bytes (dynamic_only n 0 ++ elements (element 1 content ∷ []))

-- the same, the first of the n an Lfe
unfoldable pub said_with_lfe : ℕ → Bits → List ℕ
said_with_lfe n content = bytes (dynamic_only n 1 ++ elements (element 1 content ∷ []))

-- The object element

-- a block's start, in 32 samples, and its ramp
unfoldable pub block : ℕ → Bits → Bits
block factor ramp = 6 ⊳ factor ++ ramp

-- an offset, the blocks' timings, reserved data absent
unfoldable pub timed : Bits → List Bits → Bits
timed offset ts = offset ++ 3 ⊳ (length ts - 1) ++ flatten ts ++ 1 ⊳ 1

-- m blocks at 0, no ramps
unfoldable pub blocks : ℕ → Bits
blocks m = timed (2 ⊳ 0) (replicate m (block 0 (2 ⊳ 0)))

-- an object in a block, with no table data
unfoldable pub off : Bits
off = 1 ⊳ 1 ++ 1 ⊳ 0

unfoldable pub on : Bits → Bits
on b = 1 ⊳ 0 ++ b ++ 1 ⊳ 0

-- status 2, of basic and of render information
unfoldable pub kept : Bits
kept = 2 ⊳ 2

-- Gain codes 0 to 3, and priority

unfoldable pub unity : Bits
unity = 2 ⊳ 0

unfoldable pub silent : Bits
silent = 2 ⊳ 1

unfoldable pub level : ℕ → Bits
level w = 2 ⊳ 2 ++ 6 ⊳ w

unfoldable pub copied : Bits
copied = 2 ⊳ 3

unfoldable pub usual : Bits
usual = 1 ⊳ 1

unfoldable pub priority : ℕ → Bits
priority n = 1 ⊳ 0 ++ 5 ⊳ n

-- Render information

-- x, y, sign, z
unfoldable pub spot : ℕ → ℕ → ℕ → ℕ → Bits
spot x y sign z = 6 ⊳ x ++ 6 ⊳ y ++ 1 ⊳ sign ++ 4 ⊳ z

-- a distance: not specified, by its factor index, or infinity
unfoldable pub near : Bits
near = 1 ⊳ 0

unfoldable pub factor : ℕ → Bits
factor index = 1 ⊳ 1 ++ 1 ⊳ 0 ++ 4 ⊳ index

unfoldable pub infinite : Bits
infinite = 1 ⊳ 1 ++ 1 ⊳ 1

-- in block 0, no distance
unfoldable pub place : ℕ → ℕ → ℕ → ℕ → Bits
place x y sign z = spot x y sign z ++ near

-- past block 0: absolute, or by steps in 3 bits (4 is -4, 7 is -1)
unfoldable pub to : ℕ → ℕ → ℕ → ℕ → Bits
to x y sign z = 1 ⊳ 0 ++ place x y sign z

unfoldable pub steps : ℕ → ℕ → ℕ → Bits
steps x y z = 1 ⊳ 1 ++ 3 ⊳ x ++ 3 ⊳ y ++ 3 ⊳ z

unfoldable pub moved : ℕ → ℕ → ℕ → Bits
moved x y z = steps x y z ++ near

unfoldable pub free : Bits
free = 1 ⊳ 0

unfoldable pub locked : Bits
locked = 1 ⊳ 1

-- zone 0 with elevation, no size, no screen, no lock
unfoldable pub plain : Bits
plain = 3 ⊳ 0 ++ 1 ⊳ 1 ++ 2 ⊳ 0 ++ 1 ⊳ 0 ++ free

-- zone 5 without elevation, one size 9, screen with its 5 dropped bits, lock
unfoldable pub rich : Bits
rich = 3 ⊳ 5 ++ 1 ⊳ 0 ++ 2 ⊳ 1 ++ 5 ⊳ 9 ++ 1 ⊳ 1 ++ 3 ⊳ 7 ++ 2 ⊳ 3 ++ locked

-- render status 3: the flags of position, zone, size, screen
unfoldable pub groups : ℕ → Bits → Bits
groups flags b = 2 ⊳ 3 ++ 4 ⊳ flags ++ b

-- an active block 0: a gain, usual priority, a place, the rest plain
unfoldable pub first : Bits → Bits → Bits
first gain place = on (gain ++ usual ++ place ++ plain)

-- Payloads of one object in one block: at rest, and at (10, 20, 5)

abbrev pub rest_one : List ℕ
rest_one = said 1 (blocks 1 ++ off)

abbrev pub moved_one : List ℕ
moved_one = said 1 (blocks 1 ++ first unity (place 10 20 1 5))

-- Rows

abbrev pub neg : ℕ → ℤ
neg n = neg_ℤ (pos n)

-- a Dynamic: active, gain, priority; x, y, z; width, depth, height, screen, lock, zone, elevation; mark
abbrev pub row : ℕ → ℤ → ℕ → ℕ → ℕ → ℤ → ℕ → ℕ → ℕ → ℕ → ℕ → ℕ → ℕ → ℕ → Row
row a g n x y z w d h s l c e m =
    record {
      kind = kind_number dynamic;
      active = pos a;
      gain = g;
      priority = pos n;
      picture = record {
        position = record { point = record { x = pos x; y = pos y; z = z }; distance = pos 0 };
        zone = record { zone = pos c; elevation = pos e };
        size = record { width = pos w; depth = pos d; height = pos h };
        screen = pos s;
        lock = pos l;
      };
      mark = pos m;
    }

-- any row, at a distance
abbrev pub distant : ℕ → Row → Row
distant n r =
    let p = r.picture in
    record {
      kind = r.kind;
      active = r.active;
      gain = r.gain;
      priority = r.priority;
      picture = record {
        position = record { point = p.position.point; distance = pos n };
        zone = p.zone;
        size = p.size;
        screen = p.screen;
        lock = p.lock;
      };
      mark = r.mark;
    }

-- with a plain picture, active or not

abbrev pub on_row : ℤ → ℕ → ℕ → ℕ → ℤ → ℕ → Row
on_row g n x y z m = plain_row (kind_number dynamic) (pos 1) g (pos n) (pos x) (pos y) z (pos m)

abbrev pub off_row : ℕ → ℕ → ℤ → ℕ → Row
off_row x y z m = inactive_row (pos x) (pos y) z (pos m)

-- with a rich one
abbrev pub rich_row : ℕ → ℤ → ℕ → ℕ → ℕ → ℤ → ℕ → Row
rich_row a g n x y z m = row a g n x y z 9 9 9 1 1 5 0 m

-- of any kind, with the default picture: the default row, and an inactive one

abbrev pub default_of : ℕ → ℕ → Row
default_of k m = plain_row (pos k) (pos 1) (pos 0) (pos 32) (pos 31) (pos 31) (pos 0) (pos m)

abbrev pub inactive_of : ℕ → ℕ → Row
inactive_of k m = plain_row (pos k) (pos 0) silence (pos 0) (pos 31) (pos 31) (pos 0) (pos m)

-- Cases. Each begins with a programme start: its tables are those of a fresh decoder, and computed once for all cases

-- after these records: a payload; objects, blocks, unsettled; start rows; block rows; timings
unfoldable pub gives : List Record → List ℕ → ℕ → ℕ → ℕ → List Row → List Row → List ℕ → Case
gives rs s n b u start rows timings = accepts (start_notice ∷ rs) s n b u start rows timings

-- all blocks at 0, no ramps
unfoldable pub shows : List Record → List ℕ → ℕ → ℕ → ℕ → List Row → List Row → Case
shows rs s n b u start rows = gives rs s n b u start rows (replicate (2 * b) 0)

-- a payload that misses nothing; number, context, place
unfoldable pub fails : List ℕ → ℕ → ℕ → ℕ → Case
fails s n c p = refuses (start_notice ∷ []) s n c p 0

-- a payload that is cut; context, place, missing bits
unfoldable pub lacks : List ℕ → ℕ → ℕ → ℕ → Case
lacks s c p m = refuses (start_notice ∷ []) s 1 c p m

-- how far cases look into each list: beyond the rows that they write, of 8 and of 32 objects or blocks

abbrev pub far : ℕ
far = 9 * row_width

abbrev pub farther : ℕ
farther = 33 * row_width

-- Everything opened, for the tables of cases: `unfolding written`
unfoldable pub written : Unit {0}
unfolding computed cases.computed flatten ◌⊳◌ bytes_from bytes filled size_groups element elements dynamic_only said said_with_lfe block timed blocks off on kept unity silent level copied usual priority spot near factor infinite place to steps moved free locked plain rich groups first gives shows fails lacks
written = tt

-- at rest it is payload A
pub rest-is-A : rest_one ≡ head_of_a ++ 0x00 ∷ []
unfolding written
rest-is-A = refl
