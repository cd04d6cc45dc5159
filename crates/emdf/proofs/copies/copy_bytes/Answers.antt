use Rattle.std.proofs.Common.{◌≡◌, ℕ, ◌+◌, ◌*◌, ◌-◌, ◌/◌, ◌%◌, ◌≤◌, List, length, take, drop, refl, ◌∙◌, arith}
use Rattle.emdf.specs.Say.{bytes_from}
use Rattle.emdf.proofs.Copying.{part-bytes, whole-bytes}
use Rattle.emdf.proofs.copies.copy_bytes.Goals as goal

-- those from a bit of the first byte on are in one more than there are
shifted-bytes : (s : List ℕ) (from n : ℕ) → from + n * 8 ≤ length s * 8 → bytes_from (take (from / 8 + n + 1 - from / 8) (drop (from / 8) s)) (from % 8) n ≡ bytes_from s from n
shifted-bytes s from n h =
    let long : from / 8 + n + 1 - from / 8 ≡ n + 1 = omega arith in
    let place : from / 8 * 8 + from % 8 ≡ from = omega arith in
    rw (long, part-bytes s (from / 8) (n + 1) (from % 8) n (omega arith), place) refl

pub returns-then-shift-eq0 : goal.returns-then-shift-eq0
returns-then-shift-eq0 c =
    let n = length c.args.buffer.now in
    let first = c.args.from / 8 in
    let long : first + n - first ≡ n = omega arith in
    let place : first * 8 ≡ c.args.from = omega arith in
    rw (long, whole-bytes c.args.container.now (λ i. (c.type_inv.container i).fits) first n (omega arith), place) at c.copy.ensures

pub returns-else-shift-eq0 : goal.returns-else-shift-eq0
returns-else-shift-eq0 c = c.copy_shifted.ensures ∙ shifted-bytes _ _ _ c.requires
