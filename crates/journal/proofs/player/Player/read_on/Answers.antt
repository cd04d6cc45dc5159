-- What arrives stands behind what was not used; where nothing comes, that is what is left.
use Rattle.std.proofs.Common.{◌≡◌, ℕ, List, false, length, rules, refl, arith}
use Rattle.std.specs.Prelude.{◌==◌}
use Rattle.journal.proofs.Stepping.{goes-on, complete-on, torn-on, faulted-on}
use Rattle.journal.proofs.player.Player.read_on.Goals as goal

still_empty : (s : List ℕ) → length s ≡ 0 → false ≡ (length s == 0) → ⊥
still_empty s h e = let z = rw h at e in cc

pub returns-in-Ok-eq0 : goal.returns-in-Ok-eq0
returns-in-Ok-eq0 g c =
    complete-on c.args.self.now c.flush.ensures c.stop.ensures refl c.in-Ok-eq0.ensures (search rules) (rw (← c.unused.ensures) (search rules))

pub returns-in-Ok-eq0-2 : goal.returns-in-Ok-eq0-2
returns-in-Ok-eq0-2 g c =
    torn-on c.args.self.now c.flush.ensures c.stop-in-Ok-eq0-2.ensures refl c.in-Ok-eq0.ensures (search rules) (λ e. still_empty c.unused.result.now (rw c.unused.ensures e) c.if-is_empty.ensures)

pub returns-in-Ok : goal.returns-in-Ok
returns-in-Ok g c = goes-on c.args.self.now c.flush.ensures c.in-Ok.ensures (search (rules, arith))

pub returns-in-Err : goal.returns-in-Err
returns-in-Err g c = faulted-on c.args.self.now c.flush.ensures c.stop-in-Err.ensures refl
