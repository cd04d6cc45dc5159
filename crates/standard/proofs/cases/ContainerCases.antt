-- Containers, computed: what is taken out of each, and where each is refused.
use Prim.Native.Nat.{ℕ}
use mathlib.Core.Path.{◌≡◌, refl}
use mathlib.Core.List.{List, [], ◌∷◌}
use lib.ListN.{replicate}
use Rattle.bits.specs.Parsed.{got, refused}
use Rattle.standard.specs.Numbers.{alone}
use Rattle.standard.specs.Container.{variable, extended, opening, container}
use Rattle.standard.specs.Calls.{over, untaken, emdf_call}
use Rattle.standard.specs.Computed.{computed}

-- Variable bits in groups of 2: 1, more, 0, more, 0, more, 0, more, 0, more, 0
pub six-groups : variable 2 (0x24 ∷ 0x92 ∷ 0x00 ∷ []) 18 0 ≡ got 1364 18
unfolding computed
six-groups = refl

pub cut-group : variable 2 (0x24 ∷ 0x92 ∷ 0x00 ∷ []) 16 0 ≡ refused (alone 13)
unfolding computed
cut-group = refl

-- to 31 its extension is added: 0, or 11
pub least-extended : extended 5 (0xf8 ∷ 0x00 ∷ []) 16 0 ≡ got 31 11
unfolding computed
least-extended = refl

pub extended-by-11 : extended 5 (0xfa ∷ 0xc0 ∷ []) 16 0 ≡ got 42 11
unfolding computed
extended-by-11 = refl

-- The size of the object payload, and the place of its first bit

pub on-a-byte : opening (0x02 ∷ 0xc2 ∷ 0x04 ∷ 0xa5 ∷ 0x3c ∷ []) 40 0 ≡ got 2 24
unfolding computed
on-a-byte = refl

-- an extended key id moves it
pub within-a-byte : opening (0x38 ∷ 0x2c ∷ 0x20 ∷ 0x4a ∷ 0x53 ∷ 0xc0 ∷ []) 48 0 ≡ got 2 28
unfolding computed
within-a-byte = refl

abbrev among_others : List ℕ
among_others =
    0x3a ∷ 0x06 ∷ 0x01 ∷ 0x70 ∷ 0x01 ∷ 0x77 ∷ 0x09 ∷ 0x98 ∷ 0x12 ∷ 0x60 ∷ 0x10 ∷ 0x4f ∷ 0xd2 ∷ 0x06 ∷ 0xfa ∷ 0x04 ∷ 0x07
    ∷ 0x07 ∷ 0x10 ∷ 0x00 ∷ 0x05 ∷ 0x84 ∷ 0x09 ∷ 0x4a ∷ 0x78 ∷ []

-- behind a payload with every field of a config, one aligned to its frame with id 40, and one of no bytes that is not aligned
pub behind-others : opening among_others 200 0 ≡ got 2 183
unfolding computed
behind-others = refl

pub its-bytes : container among_others 200 0 ≡ got (0xa5 ∷ 0x3c ∷ []) 199
unfolding computed
its-bytes = refl

pub its-last-bit-cut : container among_others 198 0 ≡ refused (alone 13)
unfolding computed
its-last-bit-cut = refl

-- The call

abbrev lent : List ℕ
lent = replicate 16384 7

pub copied : emdf_call (0x38 ∷ 0x2c ∷ 0x20 ∷ 0x4a ∷ 0x53 ∷ 0xc0 ∷ []) lent ≡ record { number = 0; length = 2; buffer = over (0xa5 ∷ 0x3c ∷ []) lent }
unfolding computed
copied = refl

pub no_bytes : emdf_call (0x02 ∷ 0xc2 ∷ 0x00 ∷ []) lent ≡ record { number = 0; length = 0; buffer = lent }
unfolding computed
no_bytes = refl

pub none-there : emdf_call (0x00 ∷ 0x82 ∷ 0x02 ∷ 0x09 ∷ 0x00 ∷ []) lent ≡ untaken lent 15
unfolding computed
none-there = refl

-- ids 31 and 42, whose extensions are 0 and 11
pub extension-0 : emdf_call (0x07 ∷ 0xc0 ∷ 0x08 ∷ 0x08 ∷ 0x24 ∷ 0x00 ∷ []) lent ≡ untaken lent 15
unfolding computed
extension-0 = refl

pub extension-11 : emdf_call (0x07 ∷ 0xd6 ∷ 0x08 ∷ 0x08 ∷ 0x24 ∷ 0x00 ∷ []) lent ≡ untaken lent 15
unfolding computed
extension-11 = refl

pub version-1 : emdf_call (0x40 ∷ []) lent ≡ untaken lent 14
unfolding computed
version-1 = refl

-- version 3 reads its extension first, which the end may cut
pub version-3 : emdf_call (0xc0 ∷ []) lent ≡ untaken lent 14
unfolding computed
version-3 = refl

pub version-cut : emdf_call (0xff ∷ []) lent ≡ untaken lent 13
unfolding computed
version-cut = refl

-- 16,385 bytes, and 16,384: the size is tested before the bytes are sought
pub over-limit : emdf_call (0x02 ∷ 0xc2 ∷ 0x7f ∷ 0x01 ∷ 0x00 ∷ []) lent ≡ untaken lent 7
unfolding computed
over-limit = refl

pub at-limit : emdf_call (0x02 ∷ 0xc2 ∷ 0x7f ∷ 0x00 ∷ 0x00 ∷ []) lent ≡ untaken lent 13
unfolding computed
at-limit = refl

-- another kind of 100,000 bytes
pub other-beyond : emdf_call (0x00 ∷ 0x82 ∷ 0x01 ∷ 0x85 ∷ 0xd0 ∷ 0x00 ∷ []) lent ≡ untaken lent 13
unfolding computed
other-beyond = refl

pub nothing_lent : emdf_call [] lent ≡ untaken lent 13
unfolding computed
nothing_lent = refl

-- 65,536 bytes, whose list ends in the second of them, and one more
pub longest : emdf_call (replicate 65536 0) lent ≡ untaken lent 15
unfolding computed
longest = refl

pub too_long : emdf_call (replicate 65537 0) lent ≡ untaken lent 7
unfolding computed
too_long = refl

-- the buffer is tested first
pub short-buffer : emdf_call (0x40 ∷ []) (replicate 16383 7) ≡ untaken (replicate 16383 7) 5
unfolding computed
short-buffer = refl
