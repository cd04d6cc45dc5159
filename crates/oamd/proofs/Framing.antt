-- Laws of calls that read elements into the lent tables: of an object element, and through a call.
use Rattle.std.proofs.Common.{◌≡◌, ◌≢◌, ℕ, arith, List, ℤ, true, false, refl, ap, ◌∙◌, length, Result, Ok, Err, Some, None}
use Rattle.std.specs.Prelude.{Option}
use Rattle.std.proofs.Math.Option.{some}
use Rattle.std.specs.Option.{is_some}
use Rattle.std.proofs.lemmas.Bool.{eq-eqb, ne_eqb}
use Rattle.bits.specs.Parsed as paper
use Rattle.bits.specs.Parsed.{Parsed, Parser, got, refused, map_parsed, map_p, refuse, invalid}
use Rattle.bits.specs.Reads.{padding}
use Rattle.bits.specs.Say.{refusal, Reads, ReadsAs}
use Rattle.bits.specs.declared.refusals.Refusal.{Refusal}
use Rattle.bits.specs.declared.cursor.BitCursor.{BitCursor}
use Rattle.bits.proofs.Reading.{HandsOn, falls, refuses, stops, then, next, next_stops, done, on_true, on_false}
use Rattle.standard.specs.Contexts as context
use Rattle.standard.specs.Tree.{Kind, Tree}
use Rattle.standard.specs.Rows.{Row}
use Rattle.objects.specs.Element.{ReadElement, blocks_after, timings_after}
use Rattle.standard.specs.Syntax.{trim}
use Rattle.oamd.specs.Head.{Head}
use Rattle.oamd.specs.Frame.{Frame, written_by, once_in, end_in, object_in, trim_in, content_in}
use Rattle.oamd.specs.Say.{said_found, said_frame}
use Rattle.oamd.specs.Tables.{Same, Kept}
use Rattle.oamd.specs.Reading.{Framing}
use Rattle.oamd.specs.declared.tables.BlockTables.{BlockTables}

-- Through a call

pub kept : {a : BlockTables} → Kept a a
kept = record { same = record { blocks = refl; timings = refl }; blocks_rest = refl; timings_rest = refl }

pub both : {a b d : BlockTables} → Kept a b → Kept b d → Kept a d
both h k =
    record {
      same = record { blocks = k.same.blocks ∙ h.same.blocks; timings = k.same.timings ∙ h.same.timings };
      blocks_rest = k.blocks_rest ∙ h.blocks_rest;
      timings_rest = k.timings_rest ∙ h.timings_rest;
    }

-- An object element

-- what its tree writes is what the call left
tree-framed : (m : Parsed Tree) (starts : List Row) (f : Frame) {n p : ℕ} {b : List ℤ} {t : List ℕ}
    → got n p ≡ map_parsed (λ (x : Tree). length x.timings) m
    → ((x : Tree) (q : ℕ) → m ≡ got x q → b ≡ blocks_after starts x f.blocks)
    → ((x : Tree) (q : ℕ) → m ≡ got x q → t ≡ timings_after x f.timings)
    → got (record { found = some n; blocks = b; timings = t }) p ≡ map_parsed (written_by starts f) m
unfolding written_by
tree-framed (got x q) starts f {n} e hb ht =
    let same : n ≡ length x.timings = cc in
    rw (hb x q refl, ht x q refl, same) (ap (λ y. map_parsed (λ _. written_by starts f x) y) e)
tree-framed (refused z) starts f e hb ht = cc

refused-too : {A B D : Type 0} (g : A → B) (f : A → D) (m : Parsed A) {z : paper.Refusal} → map_parsed g m ≡ refused z → map_parsed f m ≡ refused z
refused-too g f (got x q) e = cc
refused-too g f (refused y) e = cc

module _ (starts : List Row) (kinds : List Kind) (at : ℕ) {c : BitCursor} {a : BlockTables} where
  pub duplicate : {e : Refusal} (f : Option ℕ) → is_some f ≡ true → refusal e ≡ invalid context.duplicate-object-element at
      → Framing (once_in starts kinds at (said_found f) (said_frame a)) c a (Err e) c a
  unfolding once_in
  duplicate None h e = cc
  duplicate (Some n) h e = record { reads = refuses e; kept = kept }

module _ (starts : List Row) (kinds : List Kind) (at : ℕ) {c c' : BitCursor} {a b : BlockTables} where
  kept-element : {r : Result ℕ Refusal} → ReadElement kinds starts c r c' a.blocks.now b.blocks.now a.timings.now b.timings.now → Same a b → Kept a b
  kept-element h same = record { same = same; blocks_rest = h.its_table.rest; timings_rest = h.timed.rest }

  pub element-refused : {e : Refusal} {r : Result (Unit {0}) Refusal} (f : Option ℕ) → is_some f ≡ false → Same a b
      → ReadElement kinds starts c (Err e) c' a.blocks.now b.blocks.now a.timings.now b.timings.now → HandsOn e r
      → Framing (once_in starts kinds at (said_found f) (said_frame a)) c a r c' b
  unfolding once_in map_p
  element-refused {r = r} None h same g x =
      record { reads = falls _ _ (λ s l p z is. refused-too _ _ _ is) r g.reads x; kept = kept-element g same }
  element-refused (Some n) h same g x = cc

  pub element-read : {n : ℕ} (f : Option ℕ) → is_some f ≡ false → Same a b → b.found ≡ Some n
      → ReadElement kinds starts c (Ok n) c' a.blocks.now b.blocks.now a.timings.now b.timings.now
      → Framing (once_in starts kinds at (said_found f) (said_frame a)) c a (Ok tt) c' b
  unfolding once_in map_p
  element-read None h same found g =
      record {
        reads = record {
          answer = rw found (tree-framed _ starts (said_frame a) g.reads.answer g.its_blocks g.its_timings);
          bytes = g.reads.bytes;
          end = g.reads.end;
        };
        kept = kept-element g same;
      }
  element-read (Some n) h same found g = cc

-- The content of an element

-- what is left of it is zero
zero_left : {f : Frame} {c c' : BitCursor} (r : Result (Unit {0}) Refusal) → Reads (padding context.element-padding) c r c' → ReadsAs (λ u. f) (end_in f) c r c'
unfolding end_in
zero_left (Ok tt) h = next h done
zero_left (Err e) h = next_stops _ h refl

module _ (starts : List Row) (kinds : List Kind) (h : Head) {c : BitCursor} {a : BlockTables} where
  module _ {c' : BitCursor} {b : BlockTables} (is : h.id ≡ 1) where
    pub object_stops : {e : Refusal} {r : Result (Unit {0}) Refusal} → Framing (once_in starts kinds h.at (said_found a.found) (said_frame a)) c a (Err e) c' b → HandsOn e r
        → Framing (content_in starts kinds h (said_frame a)) c a r c' b
    unfolding content_in object_in
    object_stops g x = record { reads = on_true _ (eq-eqb _ _ is) (stops _ g.reads x); kept = g.kept }

    pub object_ends : {r : Result (Unit {0}) Refusal} {c'' : BitCursor} → Framing (once_in starts kinds h.at (said_found a.found) (said_frame a)) c a (Ok tt) c' b → Reads (padding context.element-padding) c' r c''
        → Framing (content_in starts kinds h (said_frame a)) c a r c'' b
    unfolding content_in object_in
    object_ends {r} g k = record { reads = on_true _ (eq-eqb _ _ is) (then _ g.reads (zero_left r k)); kept = g.kept }

  module _ {c' : BitCursor} (is : h.id ≡ 2) where
    pub trim_stops : {e : Refusal} {r : Result (Unit {0}) Refusal} → Reads (trim (length kinds)) c (Err e) c' → HandsOn e r → Framing (content_in starts kinds h (said_frame a)) c a r c' a
    unfolding content_in trim_in
    trim_stops g x = record { reads = on_false _ (ne_eqb h.id 1 (omega arith)) (on_true _ (eq-eqb _ _ is) (next_stops _ g x)); kept = kept }

    pub trim_ends : {r : Result (Unit {0}) Refusal} {c'' : BitCursor} → Reads (trim (length kinds)) c (Ok tt) c' → Reads (padding context.element-padding) c' r c''
        → Framing (content_in starts kinds h (said_frame a)) c a r c'' a
    unfolding content_in trim_in
    trim_ends {r} g k = record { reads = on_false _ (ne_eqb h.id 1 (omega arith)) (on_true _ (eq-eqb _ _ is) (next g (zero_left r k))); kept = kept }

  pub unknown : h.id ≢ 1 → h.id ≢ 2 → Framing (content_in starts kinds h (said_frame a)) c a (Ok tt) c a
  unfolding content_in
  unknown n m = record { reads = on_false _ (ne_eqb _ _ n) (on_false _ (ne_eqb _ _ m) done); kept = kept }
