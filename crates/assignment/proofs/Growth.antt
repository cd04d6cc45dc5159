-- How many kinds a reading can give.
use Rattle.std.proofs.Common.{ℕ, zero, suc, ◌+◌, ◌*◌, ◌/◌, ◌≤◌, leb, Bool, true, false, cond, List, [], ◌∷◌, length, get_or, arith, length-append}
use Rattle.std.proofs.lemmas.List.{length-replicate}
use Rattle.bits.specs.Bits.{is_set}
use Rattle.bits.specs.Parsed.{Parser, ◌>>=◌, ◌>>◌, map_p, pure, times}
use Rattle.bits.specs.Reads.{flag}
use Rattle.bits.proofs.Always.{Always, bind, after, next, mapped, mapped-such, choose, given, required}
use Rattle.bits.proofs.Fields.{read-lt}
use Rattle.bits.proofs.Laws.{extended_lt}
use Rattle.standard.specs.Contexts as context
use Rattle.standard.specs.Tree.{Kind, isf, dynamic}
use Rattle.standard.specs.Assignment.{chosen, standard_beds, nonstandard_beds, one_bed, joined, beds, isf_counts, isfs, dynamics}
use Rattle.assignment.specs.Parts.{bed_count}
use Rattle.assignment.proofs.Stages.{counted-beds}

abbrev pub AtMost : ℕ → List Kind → Type 0
AtMost n ks = length ks ≤ n

cond-length : (b : Bool) (l : List Kind) → length (cond b l []) ≤ length l
cond-length true l = omega arith
cond-length false l = omega arith

chosen-le : (gs : List (List Kind)) (v : ℕ) → length (chosen gs v) ≤ length (joined gs)
unfolding chosen joined
chosen-le [] v = omega arith
chosen-le (g ∷ gs) v = simp length-append (omega (arith, cond-length (is_set 0 v) g, chosen-le gs (v / 2)))

pub one-bed-le : Always (AtMost 17) one_bed
unfolding one_bed standard_beds nonstandard_beds joined
one-bed-le =
    after _ _ λ lfe_only. choose lfe_only (given _ (omega arith))
    (after _ _ λ standard. choose standard (mapped _ _ (chosen-le standard_beds)) (mapped _ _ (chosen-le nonstandard_beds)))

times-le : (n : ℕ) → Always (λ l. AtMost (17 * n) (joined l)) (times n one_bed)
unfolding times joined
times-le zero = given _ (omega arith)
times-le (suc n) = bind _ one-bed-le λ ks h. bind _ (times-le n) λ l h'. given _ (simp length-append (omega arith))

pub bed-count-le : Always (λ n. n ≤ 9) bed_count
unfolding bed_count
bed-count-le = after _ _ λ multiple. choose multiple (mapped-such _ (read-lt 3 _) λ v l. omega arith) (given 1 (omega arith))

pub beds-le : Always (AtMost 153) beds
beds-le = record { ok = λ s e p. rw counted-beds (all.ok s e p) }
  where
    all : Always (AtMost 153) (flag context.bed-channel-distribution-flag >> (bed_count >>= λ n. map_p joined (times n one_bed)))
    all = next _ (bind _ bed-count-le λ n h. mapped-such joined (times-le n) λ l h'. omega arith)

-- no entry is more than all together
total : List ℕ → ℕ
total [] = 0
total (x ∷ l) = x + total l

entry-le : (l : List ℕ) (i : ℕ) → get_or l i 0 ≤ total l
unfolding total
entry-le [] i = omega arith
entry-le (x ∷ l) zero = omega arith
entry-le (x ∷ l) (suc i) = omega (arith, entry-le l i)

isf-count-le : (i : ℕ) → get_or isf_counts i 0 ≤ 81
unfolding isf_counts total
isf-count-le i = entry-le isf_counts i

pub isfs-le : Always (AtMost 81) isfs
unfolding isfs
isfs-le =
    after _ _ λ at. after _ _ λ format. required (leb format 5) _ λ h.
    given _ (omega (arith, isf-count-le format, length-replicate (get_or isf_counts format 0) isf))

pub dynamics-le : Always (AtMost 191) dynamics
unfolding dynamics
dynamics-le = mapped-such _ (extended_lt _ _ _ _ _) λ v h. omega (arith, length-replicate (v + 1) dynamic)

-- a part that may be absent
pub if-present : (b : Bool) (n : ℕ) {m : Parser (List Kind)} → Always (AtMost n) m → Always (AtMost n) (cond b m (pure []))
if-present b n h = choose b h (given [] (omega arith))
