-- The first channel and a second one are Lfe.
use Rattle.std.proofs.Common.{◌≡◌, ℕ, ◌⊎◌, inl, inr, true, ◌||◌, eqb}
use Rattle.std.proofs.lemmas.Bool.{eq-eqb, ne_eqb}
use Rattle.assignment.specs.Parts.{channel_kind}
use Rattle.assignment.proofs.channels.channel_kind.Goals as goal

one-of : (a b : ℕ) → (a ≡ 0) ⊎ ((a ≡ 0 → ⊥) × (a ≡ b)) → (eqb a 0 || eqb a b) ≡ true
one-of a b h = elim h [ inl e ↦ rw (eq-eqb a 0 e) | inr w ↦ rw (ne_eqb a 0 w.0, eq-eqb a b w.1) ]

pub returns-then-index-second_lfe : goal.returns-then-index-second_lfe
unfolding channel_kind
returns-then-index-second_lfe c = rw (one-of _ _ c.if-index-second_lfe.either)

pub returns-else-index-second_lfe : goal.returns-else-index-second_lfe
unfolding channel_kind
returns-else-index-second_lfe c =
    let h = c.if-index-second_lfe.false in
    rw (ne_eqb _ _ h.0, ne_eqb _ _ h.1)
