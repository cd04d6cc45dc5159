-- What is said of one Dynamic object in one block, computed: every word, and the bit place where its reading began.
use mathlib.Core.Bool.{true, false}
use mathlib.Core.List.{[], ◌∷◌}
use mathlib.Core.Option.{none, some}
use mathlib.Core.Path.{◌≡◌, refl}
use lib.IntN.{pos, negsuc}
use Rattle.bits.specs.Parsed.{got, placed_at}
use Rattle.standard.specs.Numbers.{silence}
use Rattle.standard.specs.Tree.{dynamic, level, absolute, moved, default, given, inactive, active}
use Rattle.standard.specs.Updates.{sized, update}
use Rattle.standard.specs.Computed.{computed}

-- block 0: 0 | 10 000011 | 1 | 000111 001000 1 0010 0 | 001 1 | 01 00101 | 0 | 1 | 0
pub first_block :
    update dynamic true (65 ∷ 199 ∷ 34 ∷ 67 ∷ 74 ∷ 128 ∷ []) 48 0
    ≡ got (active (record { gain = some (placed_at 1 (level (pos 12))); priority = some (placed_at 9 (pos 32)) }) (given (record {
      position = some (placed_at 10 (record { point = absolute (record { x = pos 7; y = pos 8; z = pos 2 }); distance = pos 0 }));
      zone = some (placed_at 28 (record { zone = pos 1; elevation = pos 1 }));
      size = some (placed_at 32 (sized 5 5 5));
      screen = some (placed_at 39 (pos 0));
      lock = placed_at 40 (pos 1);
    }))) 42
unfolding computed
first_block = refl

-- a later block, priority and position alone: 0 | 11 01 | 1 | 11 1000 | 1 001 111 000 0 | 1 | 0
pub in-part :
    update dynamic false (111 ∷ 137 ∷ 225 ∷ 0 ∷ []) 32 0
    ≡ got (active (record { gain = none; priority = some (placed_at 5 (pos 32)) }) (given (record {
      position = some (placed_at 12 (record { point = moved (record { x = pos 1; y = negsuc 0; z = pos 0 }); distance = pos 0 }));
      zone = none;
      size = none;
      screen = none;
      lock = placed_at 23 (pos 1);
    }))) 25
unfolding computed
in-part = refl

-- status 0 twice, from place 3 on: what it says stands where it was read
pub by-status : update dynamic false (0 ∷ 0 ∷ []) 16 3 ≡ got (active (record { gain = some (placed_at 4 (level silence)); priority = some (placed_at 4 (pos 0)) }) (default 6)) 9
unfolding computed
by-status = refl

-- and an object at rest where its flag was, from place 2 on
pub at_rest_lem : update dynamic false (32 ∷ []) 8 2 ≡ got (inactive 2) 4
unfolding computed
at_rest_lem = refl
