-- What the text of an answer is.
use Rattle.std.proofs.Common.{◌≡◌, [], ◌∷◌, ◌++◌}
use borrow.Author.Tests.{eq-eqb, ne_eqb}
use Rattle.standard.specs.Numbers.{accepted}
use Rattle.standard.specs.Calls.{Answer}
use Rattle.standard.specs.Journal.{spaced, answer_text}

module _ (a : Answer) where
  pub accepted-text : a.verdict.number ≡ accepted → 32 ∷ answer_text a ≡ (32 ∷ 111 ∷ 107 ∷ []) ++ spaced (a.objects ∷ a.blocks ∷ a.unsettled ∷ [])
  unfolding answer_text
  accepted-text h = rw (eq-eqb _ _ h)

  pub refused-text : (a.verdict.number ≡ accepted → ⊥) →
      let v = a.verdict in
      32 ∷ answer_text a ≡ (32 ∷ 110 ∷ 111 ∷ []) ++ spaced (v.number ∷ v.context ∷ v.place ∷ v.missing ∷ [])
  unfolding answer_text
  refused-text h = rw (ne_eqb _ _ h)
