-- A journal that arrives in parts, divided anywhere: what a reader keeps between two parts, and what it reads of each.
use Rattle.std.specs.Prelude.{ℕ, zero, suc, ◌+◌, List, [], ◌∷◌, ◌++◌, length, drop}
use Rattle.standard.specs.Journal.{whole, more, unknown, step, Entry, Ending, bad_mark, rest, Journal, ended}

pub data Reader : Type 0 where
  waiting : ℕ → List ℕ → Reader  -- at this offset, with these bytes, which are in no record yet
  stopped : ℕ → Reader  -- an unknown mark at this offset

pub record Taken : Type 0 where
  pub entries : List Entry
  pub reader : Reader

abbrev pub nothing : Reader → Taken
nothing r = record { entries = []; reader = r }

abbrev pub further : Entry → Taken → Taken
further x t = record { entries = x ∷ t.entries; reader = t.reader }

-- the whole records at the head; as many turns as bytes suffice
unfoldable pub take_from : ℕ → ℕ → List ℕ → Taken
take_from zero at s = nothing (waiting at s)
take_from (suc n) at s = elim (step s) [
  | whole r k ↦ further (record { what = r; offset = at }) (take_from n (at + k) (drop k s))
  | more ↦ nothing (waiting at s)
  | unknown ↦ nothing (stopped at)
]

-- a part arrives
unfoldable pub arrive : Reader → List ℕ → Taken
arrive (waiting at kept) part = let s = kept ++ part in take_from (length s) at s
arrive (stopped at) part = nothing (stopped at)

-- the input ends
unfoldable pub end_of : Reader → Ending
end_of (waiting at kept) = rest at kept
end_of (stopped at) = bad_mark at

unfoldable pub read_on : Reader → List (List ℕ) → Journal
read_on r [] = ended (end_of r)
read_on r (part ∷ parts) =
    let t = arrive r part in
    let j = read_on t.reader parts in
    record { entries = t.entries ++ j.entries; ending = j.ending }

unfoldable pub journal_of_parts : List (List ℕ) → Journal
journal_of_parts parts = read_on (waiting 0 []) parts

-- What computing opens

unfoldable pub computed : Unit {0}
unfolding take_from arrive end_of read_on journal_of_parts
computed = tt
