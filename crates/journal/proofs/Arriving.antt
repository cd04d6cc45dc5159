-- The bytes that are not used, when some are used and when more arrive.
use Rattle.std.proofs.Common.{◌≡◌, ℕ, zero, suc, ◌+◌, ◌-◌, ◌≤◌, List, [], ◌∷◌, ◌++◌, length, take, drop, sym, ap, ◌∙◌, zero-add, arith, drop-drop, length-drop}
use Rattle.std.proofs.lemmas.List.{take-append-le}
use Rattle.std.proofs.lemmas.List.Edits.{take-paste}
use Rattle.std.specs.List.{copy_within}
use borrow.Rule.Slice.PartMut.{put_mid, post_of}
use lib.Seq.{take-nil, take-append-add, length-take-le}

drop-take : (k n : ℕ) (l : List ℕ) → drop k (take n l) ≡ take (n - k) (drop k l)
drop-take zero n l = let e : n - 0 ≡ n = omega arith in rw e
drop-take (suc k) zero l = let e : 0 - suc k ≡ 0 = omega arith in rw e
drop-take (suc k) (suc n) [] = sym (take-nil (suc n - suc k))
drop-take (suc k) (suc n) (a ∷ l) = let e : suc n - suc k ≡ n - k = omega arith in rw e (drop-take k n l)

pub part-behind : (l : List ℕ) (from to k : ℕ) → take (to - (from + k)) (drop (from + k) l) ≡ drop k (take (to - from) (drop from l))
part-behind l from to k =
    let e : to - (from + k) ≡ to - from - k = omega arith in
    rw (e, drop-take k (to - from) (drop from l), drop-drop k from l)

-- what is kept was copied to the front, and what arrives stands behind it
pub arrived : (d : List ℕ) {l now : List ℕ} (buf : List ℕ) (from to m n : ℕ) → l ≡ copy_within d from to 0 → take (to - from) (drop from d) ≡ now → from ≤ to → to ≤ length d → n ≤ length buf
    → take (to - from + n - 0) (drop 0 (put_mid (to - from) m l buf)) ≡ now ++ take n buf
arrived d {l} {now} buf from to m n e v f g h =
    let k = to - from in
    let room : k ≤ length (drop from d) = omega (arith, length-drop from d) in
    let front : take k l ≡ now = rw e (ap (λ (i : ℕ). take i (copy_within d from to 0)) (sym (zero-add k)) ∙ take-paste d 0 (drop from d) k (omega arith) room) ∙ v in
    let long : length now ≡ k = rw (← v) (length-take-le k (drop from d) room) in
    let end : k + n - 0 ≡ length now + n = omega arith in
    rw (end, front, take-append-add now (buf ++ post_of k m l) n, take-append-le n buf (post_of k m l) h)
