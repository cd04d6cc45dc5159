-- The timings, read one after the other and each stored where it was read.
use Rattle.std.proofs.Common.{◌≡◌, ℕ, suc, ◌+◌, ◌*◌, ◌-◌, ◌≤◌, ◌<◌, List, [], ◌∷◌, length, drop, refl, sym, ◌∙◌, ap, add-one, arith}
use lib.ListN.{set}
use lib.Seq.{drop-set-lt}
use Rattle.bits.specs.Parsed.{Parser, map_parsed, ◌>>=◌, map_p, pure, times}
use Rattle.bits.proofs.Always.{times-length}
use Rattle.bits.proofs.ParsedLaws.{then-got, map-then, then_map, map_last, map-such}
use Rattle.standard.specs.Tree.{Timing}
use Rattle.standard.specs.Syntax.{timing}
use Rattle.standard.specs.Tables.{timing_numbers}
use Rattle.standard.specs.Calls.{over}
use Rattle.rows.specs.Places.{written}
use Rattle.rows.proofs.Written.{written_over}
use Rattle.objects.specs.Fills.{put_timing}

-- One timing

pub put_two : (t : List ℕ) (i a b : ℕ) → set (set t i a) (i + 1) b ≡ written t i (a ∷ b ∷ [])
unfolding written
put_two t i a b = rw add-one

pub behind-two : (t : List ℕ) (i a b : ℕ) → drop (i + 2) (set (set t i a) (i + 1) b) ≡ drop (i + 2) t
behind-two t i a b = drop-set-lt (i + 2) (set t i a) (i + 1) b (omega arith) ∙ drop-set-lt (i + 2) t i a (omega arith)

-- All of them

numbers-length : (ts : List Timing) → length (timing_numbers ts) ≡ 2 * length ts
unfolding timing_numbers
numbers-length [] = refl
numbers-length (t ∷ ts) = let e = numbers-length ts in omega arith

module _ (offset : ℕ) where
  -- k more timings, from block b on
  unfoldable pub storing : ℕ → ℕ → List ℕ → Parser (List ℕ)
  storing k b t = map_p (λ ts. written t (2 * b) (timing_numbers ts)) (times k (timing offset))

  module _ (s : List ℕ) (e p : ℕ) where
    pub one_more : (n b : ℕ) (t : List ℕ) → b < n → storing (n - b) b t s e p ≡ (map_p (put_timing t (2 * b)) (timing offset) >>= storing (n - (b + 1)) (b + 1)) s e p
    unfolding storing times timing_numbers written ◌>>=◌ pure map_p
    one_more n b t h =
        let k : n - b ≡ suc (n - (b + 1)) = omega arith in
        let i : suc (suc (2 * b)) ≡ 2 * (b + 1) = omega arith in
        rw k (then_map (timing offset s e p) _ _
        ∙ then-got (timing offset s e p) _ _ (λ x q.
        map_last (times (n - (b + 1)) (timing offset) s e q) _ _
        ∙ ap (λ j. map_parsed (λ ts. written (put_timing t (2 * b) x) j (timing_numbers ts)) (times (n - (b + 1)) (timing offset) s e q)) i)
        ∙ sym (map-then (timing offset s e p) _ _))

    pub no_more : (n b : ℕ) (t : List ℕ) → n ≤ b → storing (n - b) b t s e p ≡ pure t s e p
    unfolding storing times timing_numbers written pure map_p
    no_more n b t h = let k : n - b ≡ 0 = omega arith in rw k

    -- from the head of the table on
    pub all-stored : (n : ℕ) (t : List ℕ) → 2 * n ≤ length t → map_p (λ ts. over (timing_numbers ts) t) (times n (timing offset)) s e p ≡ storing (n - 0) 0 t s e p
    unfolding storing map_p
    all-stored n t h =
        let k : n - 0 ≡ n = omega arith in
        rw k (map-such _ (times n (timing offset) s e p) _ _ ((times-length n (timing offset)).ok s e p)
        (λ ts l. sym (written_over t (timing_numbers ts) (omega (arith, numbers-length ts)))))
