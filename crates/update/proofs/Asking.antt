-- Words that are tested, placed, and asked for by a flag: as the paper reads them.
use Rattle.std.proofs.Common.{◌≡◌, Bool, true, false, refl, Option, None, Some, Result, Ok, Err, subst}
use Rattle.bits.specs.Parsed.{Parser, map_p, pure, optional, placed}
use Rattle.bits.specs.Say.{ReadsAs}
use Rattle.bits.specs.declared.refusals.Refusal as refusals
use Rattle.bits.specs.declared.cursor.BitCursor.{BitCursor}
use Rattle.update.specs.declared.words.Placed.{Placed}
use Rattle.update.specs.Say.{placed_said, asked_said}
use Rattle.std.specs.Fn.{Once, FnOnceReturnsAtMut}
use Rattle.std.specs.Borrow.{MutBor}
use Rattle.update.specs.Asked.{Told, Asked}

module _ {V A : Type 0} {say : V → A} {m : Parser A} {P : BitCursor → Result V refusals.Refusal → BitCursor → Type 0} where
  pub asks : ((c : BitCursor) (q : Result V refusals.Refusal) (c' : BitCursor) → P c q c' → ReadsAs say m c q c')
      → {b b' : Bool} {c : BitCursor} {r : Result (Option (Placed V)) refusals.Refusal} {c' : BitCursor} → b ≡ b' → Asked P b c r c' → ReadsAs (asked_said say) (optional b' (placed m)) c r c'
  unfolding optional pure map_p placed
  asks f {b} {b'} {c} {r} {c'} is a = subst (λ x. ReadsAs (asked_said say) (optional x (placed m)) c r c') is (go b r a.told)
    where
      go : (b : Bool) (r : Result (Option (Placed V)) refusals.Refusal) → Told P b c r c' → ReadsAs (asked_said say) (optional b (placed m)) c r c'
      go false r h = rw (h.0, h.1) (record { answer = refl; bytes = refl; end = refl })
      go true (Ok None) h = absurd h
      go true (Ok (Some w)) h =
          let g = f _ _ _ h.0 in
          record { answer = rw (← g.answer, h.1) refl; bytes = g.bytes; end = g.end }
      go true (Err e) h =
          let g = f _ _ _ h in
          record { answer = rw (← g.answer) refl; bytes = g.bytes; end = g.end }

-- the same, by what a function leaves behind the reference that it is passed
module _ {V A F : Type 0} {m : Parser A} {g : Once F (MutBor BitCursor × Unit {0}) (Result V refusals.Refusal × (MutBor BitCursor × Unit {0}))} {f : F} where
  pub asked : (say : V → A) → ((p : MutBor BitCursor) (r : Result V refusals.Refusal) (q : MutBor BitCursor) → g.post f (p, tt) (r, (q, tt)) → ReadsAs say m p.now r q.now)
      → {b b' : Bool} {c : BitCursor} {r : Result (Option (Placed V)) refusals.Refusal} {c' : BitCursor} → b ≡ b' → Asked (FnOnceReturnsAtMut g f) b c r c'
      → ReadsAs (asked_said say) (optional b' (placed m)) c r c'
  asked say h = asks (λ c r c' k. rw (← k.shows, ← k.leaves) (h _ _ _ k.met))

module _ {V A : Type 0} {say : V → A} {m : Parser A} {c c' : BitCursor} where
  -- a word that is read in any case
  pub stands : {a : V} → ReadsAs say m c (Ok a) c' → ReadsAs (placed_said say) (placed m) c (Ok (record { word = a; at = c.position })) c'
  unfolding placed
  stands h = record { answer = rw (← h.answer) refl; bytes = h.bytes; end = h.end }

  pub stands_not : {e : refusals.Refusal} → ReadsAs say m c (Err e) c' → ReadsAs (placed_said say) (placed m) c (Err e) c'
  unfolding placed
  stands_not h = record { answer = rw (← h.answer) refl; bytes = h.bytes; end = h.end }
