-- A decoder that rejoins with a true position and an unknown zone, and a wrong one that settles all groups when any is read: it breaks demand 3.
use Prim.Native.Nat.{ℕ, ◌+◌}
use mathlib.Core.Path.{◌≡◌, refl, ap}
use mathlib.Core.Logic.{◌≢◌}
use mathlib.Core.Bool.{false, cond}
use mathlib.Core.List.{List, [], ◌∷◌, ◌++◌}
use native.Mathlib.Omega.{arith}
use lib.IntN.{pos, nat_abs}
use lib.ListN.{get_or}
use Rattle.standard.specs.Numbers.{row_width, mark_at}
use Rattle.standard.specs.Tree.{Position, Zone}
use Rattle.standard.specs.Rows.{Row, its_position, its_zone, its_lock, no_row, eqℤ}
use Rattle.standard.specs.Marks.{settled, unsettled, bit_of}
use Rattle.standard.specs.Tables.{rows_of}
use Rattle.standard.specs.Calls.{Done, decode}
use Rattle.standard.specs.Journal.{reply_to, fresh_tables}
use Rattle.standard.specs.Events.{of_gap, Event, heard, missed, warns, run, gone_astray, after, first_call, second_call}
use Rattle.standard.proofs.OnCalls.{AgreesBy}
use Rattle.standard.proofs.Threaded.{demand3-threaded}
use Rattle.standard.proofs.FromZeros.{zero_tables, zeros-roomy}
use Rattle.standard.proofs.cases.Writer.{said, blocks, off, on, kept, unity, usual, place, to, free, rich, groups, moved_one, written}
use Rattle.standard.proofs.cases.WrongDecoders.{Decoder, Breaks, tells, block_is, changing, with_mark, exact, exact-suffice}

-- The object was at (10, 20, 5) in zone 0. Then a payload was missed that put it into zone 5, and a gap notice told so.
abbrev missing : List Event
missing = heard moved_one ∷ missed (said 1 (blocks 1 ++ on (unity ++ usual ++ place 40 50 1 3 ++ rich))) ∷ warns of_gap ∷ []

-- Now it rests, and in the next block it says where it is and no more: (1, 2, 3)
abbrev its_place : List ℕ
its_place = said 1 (blocks 2 ++ off ++ on (kept ++ groups 8 (to 1 2 1 3 ++ free)))

-- the row of that block
abbrev last_of : Done → Row
last_of d = get_or (rows_of 2 d.lent.blocks) 1 no_row

abbrev in_first : Row
in_first = last_of (decode its_place (run first_call fresh_tables missing))

abbrev in_second : Row
in_second = last_of (decode its_place (run second_call fresh_tables missing))

zone_of : Zone → ℕ
zone_of z = nat_abs z.zone

-- its position and its lock are settled, and the place is true
pub place-settled : in_second.mark ≡ pos (bit_of its_position + bit_of its_lock)
unfolding written
place-settled = refl

abbrev there : Position
there = record { point = record { x = pos 1; y = pos 2; z = pos 3 }; distance = pos 0 }

pub place-true : (in_first.picture.position ≡ there) × (in_second.picture.position ≡ there)
unfolding written
place-true = (refl, refl)

-- though the zone is another
pub zone-differs : in_first.picture.zone ≢ in_second.picture.zone
unfolding written zone_of
zone-differs h = let e : ◌≡◌ {A = ℕ} 5 0 = ap zone_of h in omega arith

-- Settles all groups when any is read

unfoldable pub hasty : Row → Row
hasty r = with_mark (λ m. cond (eqℤ m unsettled) unsettled settled) r

pub settles-all-at-once : Breaks (changing hasty) its_place (run second_call fresh_tables missing)
unfolding written changing hasty
settles-all-at-once = tells (block_is (row_width + mark_at) settled) refl refl

-- Demand 3, of a decoder in the second's place at the payload that both hear
abbrev pub KeepsDemand3 : Decoder → Type 0
KeepsDemand3 f = (es : List Event) (s : List ℕ) → gone_astray es ≡ false → AgreesBy f s (run first_call fresh_tables es) (run second_call fresh_tables es)

-- decode keeps it
pub decode-keeps-demand-3 : KeepsDemand3 decode
unfolding fresh_tables after reply_to
decode-keeps-demand-3 es s a = let roomy = zeros-roomy exact exact-suffice in demand3-threaded (zero_tables exact) (zero_tables exact) es s roomy roomy a

-- and the hasty one shows as settled a zone that is not the first's
pub hasty-breaks-demand-3 : KeepsDemand3 (changing hasty) → ⊥
unfolding written changing hasty zone_of
hasty-breaks-demand-3 h = let e : ◌≡◌ {A = ℕ} 5 0 = ap zone_of ((h missing its_place refl).frames.blocks.1.0.picture its_zone refl) in omega arith
