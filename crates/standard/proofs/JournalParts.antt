-- A journal that arrives in parts reads as the whole journal: how it is divided changes nothing.
use Prim.Native.Nat.{ℕ, zero, suc, ◌+◌, ◌*◌, ◌≤◌}
use mathlib.Core.Path.{◌≡◌, refl, sym, ◌∙◌, ap}
use mathlib.Core.Bool.{Bool, true, false, cond, ◌&&◌}
use mathlib.Core.List.{List, [], ◌∷◌, ◌++◌, append-nil, append_assoc, flatten}
use native.Mathlib.Omega.{arith}
use borrow.Author.Tests.{le-leb, leb-true}
use lib.Dec.{leb, eqb}
use lib.ListN.{length, take, drop, length-append, length-drop}
use lib.Seq.{take-append-le, drop-append-le}
use Rattle.standard.specs.Journal.{Record, payload, Step, whole, more, unknown, payload_step, step, bad_mark, Journal, ended, entered, rest, journal_from, journal}
use Rattle.standard.specs.JournalParts.{Reader, waiting, stopped, Taken, take_from, arrive, end_of, read_on, journal_of_parts}
use Rattle.standard.proofs.JournalTurns.{by-mark, step-sized, turns-suffice}

-- A step that asks for no more bytes stays as it is when more arrive

abbrev Settled : Step → Type 0
Settled (whole r k) = Unit {0}
Settled more = ⊥
Settled unknown = Unit {0}

payload-stays : (s t : List ℕ) → Settled (payload_step s) → payload_step (s ++ t) ≡ payload_step s
unfolding payload_step
payload-stays [] t h = absurd h
payload-stays (high ∷ []) t h = absurd h
payload-stays (high ∷ low ∷ s) t h = go (high * 256 + low) (leb (high * 256 + low) (length s)) refl h
  where
    go : (n : ℕ) (b : Bool) → leb n (length s) ≡ b → Settled (cond b (whole (payload (take n s)) (n + 4)) more)
        → cond (leb n (length (s ++ t))) (whole (payload (take n (s ++ t))) (n + 4)) more ≡ cond (leb n (length s)) (whole (payload (take n s)) (n + 4)) more
    go n true e h =
        let few = leb-true n (length s) e in
        let l = length-append s t in
        rw (e, le-leb n (length (s ++ t)) (omega arith), take-append-le n s t few)
    go n false e h = absurd h

step_stays : (s t : List ℕ) → Settled (step s) → step (s ++ t) ≡ step s
unfolding step
step_stays [] t h = absurd h
step_stays (a ∷ []) t h = absurd h
step_stays (a ∷ b ∷ s) t h = go (eqb a 0x50 && eqb b 0x4c) _ h
  where
    go : (p : Bool) (x : Step) → Settled (cond p (payload_step s) x) → cond p (payload_step (s ++ t)) x ≡ cond p (payload_step s) x
    go true x h = payload-stays s t h
    go false x h = refl

pub whole-stays : (s t : List ℕ) {r : Record} {k : ℕ} → step s ≡ whole r k → step (s ++ t) ≡ whole r k
whole-stays s t e = step_stays s t (rw e tt) ∙ e

pub unknown-stays : (s t : List ℕ) → step s ≡ unknown → step (s ++ t) ≡ unknown
unknown-stays s t e = step_stays s t (rw e tt) ∙ e

-- A whole record has arrived whole, and has 2 bytes at least

abbrev Within : ℕ → Step → Type 0
Within n (whole r k) = k ≤ n
Within n more = Unit {0}
Within n unknown = Unit {0}

payload-within : (s : List ℕ) → Within (suc (suc (length s))) (payload_step s)
unfolding payload_step
payload-within [] = tt
payload-within (high ∷ []) = tt
payload-within (high ∷ low ∷ s) = go (high * 256 + low) (leb (high * 256 + low) (length s)) refl
  where
    go : (n : ℕ) (b : Bool) → leb n (length s) ≡ b → Within (suc (suc (suc (suc (length s))))) (cond b (whole (payload (take n s)) (n + 4)) more)
    go n true e = let few = leb-true n (length s) e in omega arith
    go n false e = tt

step-within : (s : List ℕ) → Within (length s) (step s)
unfolding step
step-within [] = tt
step-within (a ∷ []) = tt
step-within (a ∷ b ∷ s) = by-mark (Within (suc (suc (length s)))) a b s (payload-within s) (λ r. omega arith) tt

module _ (s : List ℕ) {r : Record} {k : ℕ} (e : step s ≡ whole r k) where
  pub whole-within : k ≤ length s
  whole-within = rw e at (step-within s)

  pub whole-sized : 2 ≤ k
  whole-sized = rw e at (step-sized s)

  pub after-whole : (t : List ℕ) → drop k (s ++ t) ≡ drop k s ++ t
  after-whole t = drop-append-le k s t whole-within

-- One turn

abbrev from : ℕ → List ℕ → Journal
from at s = journal_from (length s) at s

abbrev turned : ℕ → List ℕ → Step → Journal
turned at s (whole r k) = entered (record { what = r; offset = at }) (from (at + k) (drop k s))
turned at s more = ended (rest at s)
turned at s unknown = ended (bad_mark at)

turn : (at : ℕ) (s : List ℕ) (x : Step) → step s ≡ x → from at s ≡ turned at s x
unfolding journal_from
turn at s x e = sym (turns-suffice (suc (length s)) at s (omega arith)) ∙ go x e
  where
    go : (x : Step) → step s ≡ x → journal_from (suc (length s)) at s ≡ turned at s x
    go (whole r k) e =
        let l = length-drop k s in
        rw (e, journal_from) (ap (entered _) (turns-suffice (length s) (at + k) (drop k s) (omega arith)))
    go more e = rw (e, journal_from)
    go unknown e = rw (e, journal_from)

-- What a reader finds in all that is still to come

abbrev resumed : Reader → List ℕ → Journal
resumed (waiting at kept) t = from at (kept ++ t)
resumed (stopped at) t = ended (bad_mark at)

abbrev behind : Taken → Journal → Journal
behind t j = record { entries = t.entries ++ j.entries; ending = j.ending }

took : (n at : ℕ) (s t : List ℕ) → length s ≤ n → from at (s ++ t) ≡ behind (take_from n at s) (resumed (take_from n at s).reader t)
unfolding take_from
took zero at s t h = refl
took (suc n) at s t h = go (step s) refl (λ k. took n (at + k) (drop k s) t)
  where
    go : (x : Step) → step s ≡ x
        → ((k : ℕ) → length (drop k s) ≤ n → from (at + k) (drop k s ++ t) ≡ behind (take_from n (at + k) (drop k s)) (resumed (take_from n (at + k) (drop k s)).reader t))
        → from at (s ++ t) ≡ behind (take_from (suc n) at s) (resumed (take_from (suc n) at s).reader t)
    go (whole r k) e f =
        let l = length-drop k s in
        let z = whole-sized s e in
        turn at (s ++ t) _ (whole-stays s t e) ∙ rw (e, take_from, after-whole s e t) (ap (entered _) (f k (omega arith)))
    go more e f = rw (e, take_from)
    go unknown e f = turn at (s ++ t) _ (unknown-stays s t e) ∙ rw (e, take_from)

-- no whole record is kept
abbrev Idle : Reader → Type 0
Idle (waiting at kept) = step kept ≡ more
Idle (stopped at) = Unit {0}

idle : (n at : ℕ) (s : List ℕ) → length s ≤ n → Idle (take_from n at s).reader
unfolding take_from step
idle zero at [] h = refl
idle zero at (a ∷ s) h = absurd (omega arith)
idle (suc n) at s h = go (step s) refl (λ k. idle n (at + k) (drop k s))
  where
    go : (x : Step) → step s ≡ x → ((k : ℕ) → length (drop k s) ≤ n → Idle (take_from n (at + k) (drop k s)).reader) → Idle (take_from (suc n) at s).reader
    go (whole r k) e f =
        let l = length-drop k s in
        let z = whole-sized s e in
        rw (e, take_from) (f k (omega arith))
    go more e f = rw (e, take_from) e
    go unknown e f = rw (e, take_from) tt

read-on : (parts : List (List ℕ)) (r : Reader) → Idle r → read_on r parts ≡ resumed r (flatten parts)
unfolding read_on end_of arrive flatten
read-on [] (waiting at kept) i = rw append-nil (sym (turn at kept more i))
read-on [] (stopped at) i = refl
read-on (part ∷ parts) (waiting at kept) i =
    let s = kept ++ part in
    let t = take_from (length s) at s in
    rw (read-on parts t.reader (idle (length s) at s (omega arith)), ← append_assoc)
    (sym (took (length s) at s (flatten parts) (omega arith)))
read-on (part ∷ parts) (stopped at) i = rw (read-on parts (stopped at) tt)

-- the same entries, at the same offsets, and the same ending
pub any-division : (parts : List (List ℕ)) → journal_of_parts parts ≡ journal (flatten parts)
unfolding journal_of_parts journal step
any-division parts = read-on parts (waiting 0 []) refl
