-- What a reading adds to the table of kinds.
use Rattle.std.proofs.Common.{◌≡◌, List, [], Bool, true, false, cond, Result, Ok, Err, refl, sym}
use Rattle.bits.specs.Parsed.{Parser, map_p, pure}
use Rattle.bits.specs.Say.{Reads, ReadsAs}
use Rattle.bits.specs.declared.cursor.BitCursor.{BitCursor}
use Rattle.bits.specs.declared.refusals.Refusal.{Refusal}
use Rattle.bits.proofs.ParsedLaws.{made_got, made-refused}
use Rattle.bits.proofs.Reading.{HandsOn, done}
use Rattle.standard.specs.Tree.{Kind}
use Rattle.assignment.specs.Kinds.{Filled, Adds}
use Rattle.assignment.specs.declared.kinds.Kinds.{Kinds}
use Rattle.assignment.proofs.Filling.{none}

-- m was read, and its kinds were added
pub record Gave (m : Parser (List Kind)) (c : BitCursor) (k : Kinds) (c' : BitCursor) (k' : Kinds) : Type 0 where
  pub kinds : List Kind
  pub reads : Reads m c (Ok kinds) c'
  pub filled : Filled kinds k k'

module _ {m : Parser (List Kind)} {c c' : BitCursor} {k k' : Kinds} where
  pub adds : {ks : List Kind} → ReadsAs (λ (u : Unit {0}). ks) m c (Ok tt) c' → Filled ks k k' → Adds m c k (Ok tt) c' k'
  unfolding map_p
  adds h f = record {
    reads = record { answer = rw (← h.answer, f.holds) refl; bytes = h.bytes; end = h.end };
    table = f.table;
  }

  pub stopped : (r : Result (Unit {0}) Refusal) (e : Refusal) → ReadsAs (λ (u : Unit {0}). []) m c r c' → HandsOn e r → k'.table.ghost_name ≡ k.table.ghost_name → Adds m c k r c' k'
  unfolding map_p
  stopped (Ok u) e h x t = absurd x
  stopped (Err y) e h x t = record { reads = record { answer = rw (← h.answer) refl; bytes = h.bytes; end = h.end }; table = t }

  pub gave : Adds m c k (Ok tt) c' k' → Gave m c k c' k'
  unfolding map_p
  gave h =
      let a = made_got _ (m c.payload.now c.limit.0 c.position.0) h.reads.answer in
      record {
        kinds = a.value;
        reads = record { answer = sym a.gives; bytes = h.reads.bytes; end = h.reads.end };
        filled = record { holds = a.made; table = h.table };
      }

  pub failed : {e : Refusal} → Adds m c k (Err e) c' k' → ReadsAs (λ (u : Unit {0}). []) m c (Err e) c'
  unfolding map_p
  failed h = record {
    answer = sym (made-refused _ (m c.payload.now c.limit.0 c.position.0) h.reads.answer);
    bytes = h.reads.bytes;
    end = h.reads.end;
  }

module _ {V : Type 0} {say : V → List Kind} {m : Parser (List Kind)} {c c' : BitCursor} {k k' : Kinds} where
  pub given : {v : V} → ReadsAs say m c (Ok v) c' → Filled (say v) k k' → Gave m c k c' k'
  given {v} h f = record { kinds = say v; reads = record { answer = h.answer; bytes = h.bytes; end = h.end }; filled = f }

-- a part that stands where its bit is set
module _ (m : Parser (List Kind)) {b : Bool} {c : BitCursor} {k : Kinds} where
  pub present : {c' : BitCursor} {k' : Kinds} → b ≡ true → Gave m c k c' k' → Gave (cond b m (pure [])) c k c' k'
  present h g = rw h g

  pub absent : b ≡ false → Gave (cond b m (pure [])) c k c k
  absent h = rw h (record { kinds = []; reads = done; filled = none })
