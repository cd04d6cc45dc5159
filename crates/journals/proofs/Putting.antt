-- Laws of text that is put together, one part after the other.
use Rattle.std.proofs.Common.{◌≡◌, ℕ, suc, ◌+◌, ◌*◌, ◌≤◌, ◌<◌, List, [], ◌∷◌, ◌++◌, length, get_or, take, ◌∙◌, ap, append_assoc, arith, length-append}
use lib.Seq.{take-suc}
use Rattle.standard.specs.Journal.{decimal, spaced}
use Rattle.journals.specs.Texts.{Puts}
use Rattle.journals.proofs.Decimal.{spaced-one, spaced-append}

pub puts : {l t m : List ℕ} → m ≡ l ++ t → Puts (length t) l t m
puts e = record { left = e; short = omega arith }

module _ {i : ℕ} {l s m : List ℕ} (p : Puts i l s m) where
  -- what is put behind goes on with it
  pub puts-more : {j : ℕ} {t q : List ℕ} → Puts j m t q → Puts (i + j) l (s ++ t) q
  puts-more {t = t} r =
      record {
        left = r.left ∙ ap (λ (x : List ℕ). x ++ t) p.left ∙ append_assoc l s t;
        short = omega (arith, p.short, r.short, length-append s t);
      }

  pub puts-within : (j : ℕ) → length s ≤ j → Puts j l s m
  puts-within j h = record { left = p.left; short = h }

  pub grown : length m ≤ length l + i
  grown = omega (arith, ap length p.left, length-append l s, p.short)

-- a number more behind those that were put
pub one_more : {l m k q : List ℕ} (ns : List ℕ) (i : ℕ) → i < length ns → Puts (21 * i) l (spaced (take i ns)) m
    → k ≡ m ++ 32 ∷ [] → Puts 20 k (decimal (get_or ns i 0)) q → Puts (21 * (i + 1)) l (spaced (take (i + 1) ns)) q
one_more {l} {m} {k} {q} ns i h p e d =
    let more = puts-more p (puts-more (puts e) d) in
    let one : i + 1 ≡ suc i = omega arith in
    let size : 21 * i + (1 + 20) ≡ 21 * (i + 1) = omega arith in
    rw (one, take-suc ns i 0 h, spaced-append (take i ns) (get_or ns i 0 ∷ []), spaced-one, ← one, ← size) more
