-- The zeros behind a text stay when it grows.
use Rattle.std.proofs.Common.{◌≡◌, ℕ, ◌+◌, ◌-◌, ◌≤◌, List, length, drop, ◌∙◌, arith, length-append, length-drop, drop-drop}
use Rattle.std.proofs.lemmas.List.{drop-replicate}
use Rattle.std.proofs.lemmas.Slice.{drop-put_mid}
use borrow.Rule.Slice.PartMut.{put_mid}
use lib.Seq.{length-take-le}
use Rattle.journals.specs.Padded.{Padded}

module _ {n k : ℕ} {bytes : List ℕ} (h : k ≤ n) (p : Padded n k bytes) where
  pub grown-padded : {e : ℕ} (ys : List ℕ) → k ≤ e → e ≤ n → length ys ≡ e - k → Padded n e (put_mid k (e - k) bytes ys)
  grown-padded {e} ys f g l =
      let at : k + (e - k) ≡ e = omega arith in
      let left : n - k - (e - k) ≡ n - e = omega arith in
      let behind : drop e bytes ≡ drop (e - k) (drop k bytes) = rw (drop-drop (e - k) k bytes, at) in
      let front = length-take-le k bytes (omega (arith, p.long)) in
      record {
        long = simp (length-append, length-drop) (omega (arith, front, p.long));
        zeros = drop-put_mid k (e - k) bytes ys e (omega arith) (omega (arith, p.long)) l ∙ behind ∙ rw (p.zeros, drop-replicate {X = ℕ} (e - k) (n - k) 0, left);
      }
