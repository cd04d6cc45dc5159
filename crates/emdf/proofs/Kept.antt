-- What is kept of a number, as parsers: a group and then the rest, an id and then its config and size, a payload and then the rest.
use Rattle.std.proofs.Common.{◌≡◌, ℕ, ◌+◌, ◌*◌, ◌-◌, ◌^◌, ◌≤◌, Bool, true, false, cond, eqb, not, min, refl, ap, sym, ◌∙◌, List, Result, Ok, Err}
use Rattle.bits.specs.Parsed.{Parsed, Parser, got, and_then, ◌>>=◌, ◌>>◌, map_parsed, map_p, pure, require}
use Rattle.bits.specs.Say.{said_by, ReadsBy}
use Rattle.bits.specs.declared.refusals.Fault.{Fault}
use Rattle.bits.specs.declared.cursor.BitCursor.{BitCursor}
use Rattle.bits.proofs.ParsedLaws.{then-got, then_map}
use Rattle.standard.specs.Numbers.{container_limit, no_object, other_version, alone}
use Rattle.standard.specs.Container.{object_id, bits, flag, pass, variable, extended, passed, config, header, first_object, opening}
use Rattle.emdf.specs.Say.{ReadsContainer, fault, large, near, nearly, near_header}
use Rattle.emdf.proofs.GroupLaws.{grown, after_flag}
use Rattle.emdf.proofs.Nearness.{near_rest, near-group, near-variable, near-added, near-passed}
use Rattle.emdf.proofs.ListLaws.{near-header, near-opening, near-payload}

-- of groups of w bits, of the number that begins at `first`
module _ (w first : ℕ) where
  -- what is left to read of a number, of the value kept so far
  abbrev pub later : ℕ → Parser ℕ
  later v = λ s e p. near_rest w first s e v p

  abbrev pub behind_flag : ℕ → Bool → Parser ℕ
  behind_flag v true = bits w >>= λ g. later (min (grown w v g) large)
  behind_flag v false = pure v

  pub flag-then : (v : ℕ) → v ≤ large → (s : List ℕ) (e p : ℕ) → later v s e p ≡ (flag >>= behind_flag v) s e p
  unfolding ◌>>=◌ pure
  flag-then v l s e p = near-group w first s e v p l ∙ then-got (flag s e p) _ _ go
    where
      go : (b : Bool) (q : ℕ) → after_flag w first s e (λ v' q. near_rest w first s e (min v' large) q) v b q ≡ behind_flag v b s e q
      go true q = refl
      go false q = refl

pub variable-then : (w : ℕ) (s : List ℕ) (e p : ℕ) → nearly (variable w) s e p ≡ (bits w >>= later w p) s e p
unfolding ◌>>=◌
variable-then w s e p = near-variable w s e p

-- a number, and variable bits that are added to its largest value
pub extended-then : (w : ℕ) (s : List ℕ) (e p : ℕ)
    → nearly (extended w) s e p
    ≡ (bits w >>= λ v. cond (eqb v (2 ^ w - 1)) (map_p (λ n. min (v + n) large) (nearly (variable w))) (pure (min v large))) s e p
unfolding extended ◌>>=◌ map_p pure
extended-then w s e p = then_map (bits w s e p) _ (λ n. min n large) ∙ then-got (bits w s e p) _ _ (λ v q. go (eqb v (2 ^ w - 1)) v q)
  where
    go : (b : Bool) (v q : ℕ)
        → near (cond b (map_p (λ n. v + n) (variable w)) (pure v) s e q)
        ≡ cond b (map_p (λ n. min (v + n) large) (nearly (variable w))) (pure (min v large)) s e q
    go true v q = near-added v (variable w s e q)
    go false v q = refl

-- an id, and then the config and the size
pub header-then : (s : List ℕ) (e p : ℕ)
    → map_p near_header header s e p
    ≡ (nearly (extended 5) >>= λ id. require (not (eqb id 0)) (alone no_object) >> (config >> map_p (λ n. record { id = id; size = n }) (nearly (variable 8)))) s e p
unfolding ◌>>=◌ ◌>>◌ map_p
header-then s e p = near-header s e p

-- a header, and then it is the object payload's, or the rest follows
pub first_object-then : (s : List ℕ) (e p : ℕ) → e ≤ container_limit * 8
    → nearly first_object s e p ≡ (map_p near_header header >>= λ h. cond (eqb h.id object_id) (pure h.size) (pass (h.size * 8) >> nearly first_object)) s e p
unfolding ◌>>=◌ ◌>>◌ map_p pure
first_object-then s e p l = near-payload s e l p ∙ then-got (map_p near_header header s e p) _ _ (λ h q. go (eqb h.id object_id) h.size q)
  where
    go : (b : Bool) (k q : ℕ)
        → cond b (got k q) (and_then (pass (k * 8) s e q) (λ u q'. near (first_object s e q')))
        ≡ cond b (pure k) (pass (k * 8) >> nearly first_object) s e q
    go true k q = refl
    go false k q = refl

-- the version, the key id and the list
pub opening-then : (s : List ℕ) (e p : ℕ)
    → nearly opening s e p ≡ (nearly (extended 2) >>= λ v. require (eqb v 0) (alone other_version) >> (passed (nearly (extended 3)) >> nearly first_object)) s e p
unfolding ◌>>=◌ ◌>>◌ passed map_p
opening-then s e p = near-opening s e p

-- a number that is dropped
pub dropped : (m : Parser ℕ) {c c' : BitCursor} (r : Result ℕ Fault) → ReadsContainer (nearly m) c r c' → ReadsBy (λ n. tt {0}) fault (passed m) c r c'
unfolding passed map_p
dropped m r h = record { answer = answers r _ h.answer ∙ sym (near-passed _); bytes = h.bytes; end = h.end }
  where
    answers : (r : Result ℕ Fault) (p : ℕ) {x : Parsed ℕ} → said_by (λ a. a) fault r p ≡ x → said_by (λ n. tt {0}) fault r p ≡ map_parsed (λ n. tt {0}) x
    answers (Ok n) p h = ap (map_parsed (λ n. tt {0})) h
    answers (Err e) p h = ap (map_parsed (λ n. tt {0})) h
