-- Cases of the specification, section 7, "Reading order", from the element count on: sizes, order, the trim element and the three paddings.
use Prim.Native.Nat.{ℕ, ◌*◌}
use mathlib.Core.List.{List, [], ◌∷◌, ◌++◌, flatten}
use lib.Dec.{T}
use lib.IntN.{pos}
use lib.ListN.{replicate}
use Rattle.standard.specs.Cases.{Case, all_hold}
use Rattle.standard.specs.Contexts as context
use Rattle.standard.proofs.cases.Writer.{Bits, ◌⊳◌, bytes, filled, size_groups, element, elements, dynamic_only, blocks, off, off_row, default_of, shows, fails, lacks, far, written}

-- One Dynamic object. Without a longer element count the first element's id stands at bit 14, its size at 18, its content at 23

unfoldable pub of_elements : List Bits → List ℕ
of_elements es = bytes (dynamic_only 1 0 ++ elements es)

-- one element, as it stands
unfoldable pub bare : Bits → List ℕ
bare b = bytes (dynamic_only 1 0 ++ 1 ⊳ 0 ++ 4 ⊳ 1 ++ b)

-- 15 elements and n more
unfoldable pub fifteen_and : ℕ → Bits → List ℕ
fifteen_and n b = bytes (dynamic_only 1 0 ++ 1 ⊳ 0 ++ 4 ⊳ 15 ++ 5 ⊳ n ++ b)

-- 33 bits: the object at rest in one block
unfoldable pub rest : Bits
rest = element 1 (blocks 1 ++ off)

-- 17 bits: an unknown element of one byte
unfoldable pub unknown : Bits
unknown = element 5 (7 ⊳ 0x7f)

-- a group and a more flag

unfoldable pub more : ℕ → Bits
more v = 4 ⊳ v ++ 1 ⊳ 1

unfoldable pub last : ℕ → Bits
last v = 4 ⊳ v ++ 1 ⊳ 0

-- accepted: the object is at rest
unfoldable pub rests : List ℕ → Case
rests s = shows [] s 1 1 0 (default_of 3 31 ∷ []) (off_row 31 31 (pos 0) 31 ∷ [])

-- warp, two bits, mode
unfoldable pub trim : ℕ → ℕ → ℕ → Bits → Bits
trim warp zeros mode b = element 2 (2 ⊳ warp ++ 2 ⊳ zeros ++ 2 ⊳ mode ++ b)

-- Sizes

unfoldable pub size_cases : List Case
size_cases =
    -- Truncated, where the read that is cut begins: the first group, at bit 23,
    lacks (fifteen_and 0 (4 ⊳ 1)) context.element-size 23 3
    -- the flag after the first group, at bit 56,
    ∷ lacks (bytes (dynamic_only 1 0 ++ 1 ⊳ 0 ++ 4 ⊳ 3 ++ unknown ++ unknown ++ 4 ⊳ 1 ++ 4 ⊳ 0)) context.element-size 56 1
    -- and after a later one, at bit 32
    ∷ lacks (bare (4 ⊳ 1 ++ more 0 ++ more 0 ++ 4 ⊳ 0)) context.element-size 32 1
    -- a group cut after the first is Limit, where the size begins: the second,
    ∷ fails (bare (4 ⊳ 1 ++ more 0)) 3 context.element-size 18
    -- and a third
    ∷ fails (bytes (dynamic_only 1 0 ++ 1 ⊳ 0 ++ 4 ⊳ 2 ++ unknown ++ 4 ⊳ 1 ++ more 0 ++ more 0)) 3 context.element-size 35
    -- so is a group past the fourth
    ∷ fails (bare (4 ⊳ 1 ++ more 0 ++ more 0 ++ more 0 ++ more 0 ++ last 0)) 3 context.element-size 18
    -- an element that the payload does not hold, at the bit behind its size: of one, two and four groups, the last of 69,904 bytes, the most
    ∷ lacks (bare (4 ⊳ 1 ++ last 1 ++ 8 ⊳ 0)) context.element 23 7
    ∷ lacks (bare (4 ⊳ 1 ++ size_groups 17)) context.element 28 132
    ∷ lacks (bare (4 ⊳ 1 ++ more 15 ++ more 15 ++ more 15 ++ last 15)) context.element 38 559230
    -- before a further group the value v becomes (v + 1) × 16: 17 bytes in two groups, 274 in three; the object element behind is found
    ∷ rests (of_elements (element 5 (replicate 135 1) ∷ rest ∷ []))
    ∷ rests (of_elements ((4 ⊳ 5 ++ more 0 ++ more 0 ++ last 1 ++ replicate (274 * 8) 1) ∷ rest ∷ []))
    ∷ []

-- Count, ids, alternate data

unfoldable pub order_cases : List Case
order_cases =
    -- 15 and 17 more are over 31: Limit, at the count. A cut id, and a cut second part of the count, stand at their own first bit
    fails (fifteen_and 17 []) 3 context.element-count 10
    ∷ lacks (bare []) context.element-id 14 2
    ∷ lacks (bytes (dynamic_only 1 0 ++ 1 ⊳ 0 ++ 4 ⊳ 15)) context.extended-element-count 14 3
    -- 31 elements pass: an object element after 30 unknown ones; 31 of id 0, where the object element is missed at the payload's end
    ∷ rests (fifteen_and 16 (flatten (replicate 30 unknown) ++ rest))
    ∷ fails (fifteen_and 16 (replicate (31 * 17) 0)) 2 context.missing-object-element 552
    -- ids 0 and 15 are passed over, whatever they hold; a set discard flag says nothing
    ∷ rests (of_elements (element 0 (23 ⊳ 0x7fffff) ∷ rest ∷ element 15 (7 ⊳ 0x7f) ∷ []))
    ∷ rests (bare (4 ⊳ 1 ++ last 2 ++ filled (1 ⊳ 1 ++ blocks 1 ++ off)))
    -- a second object element is refused at its own id, bit 47, whatever it holds
    ∷ fails (of_elements (rest ∷ rest ∷ [])) 2 context.duplicate-object-element 47
    ∷ fails (of_elements (rest ∷ element 1 (7 ⊳ 0x7f) ∷ [])) 2 context.duplicate-object-element 47
    -- but that it is longer than the payload comes before
    ∷ lacks (bytes (dynamic_only 1 0 ++ 1 ⊳ 0 ++ 4 ⊳ 2 ++ rest ++ 4 ⊳ 1 ++ last 15)) context.element 56 128
    -- missing: only a trim and an unknown element
    ∷ fails (of_elements (trim 0 0 0 (1 ⊳ 0) ∷ unknown ∷ [])) 2 context.missing-object-element 48
    -- an alternate id comes first in an element and must be 0, in unknown elements too
    ∷ rests (bytes (dynamic_only 1 0 ++ 1 ⊳ 1 ++ 4 ⊳ 1 ++ 4 ⊳ 1 ++ last 2 ++ filled (4 ⊳ 0 ++ 1 ⊳ 0 ++ blocks 1 ++ off)))
    ∷ fails (bytes (dynamic_only 1 0 ++ 1 ⊳ 1 ++ 4 ⊳ 1 ++ 4 ⊳ 1 ++ last 2 ++ filled (4 ⊳ 1 ++ 1 ⊳ 0 ++ blocks 1 ++ off))) 4 context.alternate-object-data-type 23
    ∷ fails (bytes (dynamic_only 1 0 ++ 1 ⊳ 1 ++ 4 ⊳ 1 ++ 4 ⊳ 5 ++ last 0 ++ filled (4 ⊳ 8))) 4 context.alternate-object-data-type 23
    ∷ []

-- Trim

unfoldable pub trim_cases : List Case
trim_cases =
    -- there are no warps 2 and 3
    fails (of_elements (trim 2 0 0 (1 ⊳ 0) ∷ rest ∷ [])) 2 context.trim-warp-mode 24
    ∷ fails (of_elements (trim 3 0 0 (1 ⊳ 0) ∷ rest ∷ [])) 2 context.trim-warp-mode 24
    -- either reserved bit set
    ∷ fails (of_elements (trim 1 1 0 (1 ⊳ 0) ∷ rest ∷ [])) 2 context.trim-reserved-bits 26
    ∷ fails (of_elements (trim 1 2 0 (1 ⊳ 0) ∷ rest ∷ [])) 2 context.trim-reserved-bits 26
    -- mode 2 is not supported, and there is no mode 3
    ∷ fails (of_elements (trim 1 0 2 (1 ⊳ 0) ∷ rest ∷ [])) 4 context.custom-trim-configuration 28
    ∷ fails (of_elements (trim 1 0 3 (1 ⊳ 0) ∷ rest ∷ [])) 2 context.global-trim-mode 28
    -- the objects' bits behind the flag, cut by the element's end: at the first of them
    ∷ lacks (of_elements (trim 1 0 1 (1 ⊳ 1) ∷ rest ∷ [])) context.per-object-trim-disable-flags 31 1
    -- good ones, before and behind the object element, and two of them
    ∷ rests (of_elements (trim 0 0 0 (1 ⊳ 0) ∷ rest ∷ []))
    ∷ rests (of_elements (rest ∷ trim 1 0 1 (1 ⊳ 1 ++ 1 ⊳ 1) ∷ trim 0 0 1 (1 ⊳ 1 ++ 1 ⊳ 0) ∷ []))
    -- one bit for each of two objects
    ∷ shows [] (bytes (dynamic_only 2 0 ++ elements (trim 1 0 1 (1 ⊳ 1 ++ 2 ⊳ 3) ∷ element 1 (blocks 1 ++ off ++ off) ∷ []))) 2 1 0
    (default_of 3 31 ∷ default_of 3 31 ∷ []) (off_row 31 31 (pos 0) 31 ∷ off_row 31 31 (pos 0) 31 ∷ [])
    ∷ []

-- Padding

unfoldable pub padding_cases : List Case
padding_cases =
    -- padding with a 1 is refused at the first: in the object element, from bit 40,
    fails (of_elements (element 1 (blocks 1 ++ off ++ 4 ⊳ 1) ∷ [])) 2 context.element-padding 43
    ∷ fails (of_elements (element 1 (blocks 1 ++ off ++ 17 ⊳ 3) ∷ [])) 2 context.element-padding 55
    -- in a trim element, from bit 31 and behind one skipped bit,
    ∷ fails (of_elements (trim 0 0 0 (1 ⊳ 0 ++ 3 ⊳ 1) ∷ rest ∷ [])) 2 context.element-padding 33
    ∷ fails (of_elements (trim 0 0 0 (1 ⊳ 1 ++ 2 ⊳ 3) ∷ rest ∷ [])) 2 context.element-padding 32
    -- in the payload, from bit 47,
    ∷ fails (bytes (dynamic_only 1 0 ++ elements (rest ∷ []) ++ 9 ⊳ 1)) 2 context.payload-padding 55
    ∷ rests (bytes (dynamic_only 1 0 ++ elements (rest ∷ []) ++ 25 ⊳ 0))
    -- and this comes before a missing object element
    ∷ fails (bytes (dynamic_only 1 0 ++ elements [] ++ 2 ⊳ 1)) 2 context.payload-padding 15
    ∷ []

unfoldable pub element_cases : List Case
unfolding size_cases order_cases trim_cases padding_cases
element_cases = size_cases ++ order_cases ++ trim_cases ++ padding_cases

pub element-cases : T (all_hold far element_cases)
unfolding written of_elements bare fifteen_and rest unknown more last rests trim element_cases
element-cases = tt
