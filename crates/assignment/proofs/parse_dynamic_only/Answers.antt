-- All are Dynamic, and then the first is an Lfe.
use Rattle.std.proofs.Common.{◌≡◌, ℕ, ◌-◌, ◌<◌, zero, suc, ◌∷◌, map, replicate, set, refl, ap, arith}
use Rattle.rows.specs.Kinds.{kind_said}
use Rattle.rows.specs.declared.row.Kind.TheVariants as kind
use Rattle.bits.proofs.Reading.{stops_with, then_as}
use Rattle.standard.specs.Tree.{lfe, dynamic}
use Rattle.standard.specs.Assignment.{only_dynamic}
use Rattle.assignment.proofs.Filling.{map-replicate}
use Rattle.assignment.proofs.parse_dynamic_only.Goals as goal

pub returns-in_err-lfe_present : goal.returns-in_err-lfe_present
unfolding only_dynamic
returns-in_err-lfe_present c = stops_with _ c.in_err-lfe_present.ensures.reads c.from_residual.ensures.1

-- the first of n
first : (n : ℕ) → 0 < n → map kind_said (set (replicate n kind.Dynamic) 0 kind.Lfe) ≡ lfe ∷ replicate (n - 1) dynamic
first zero h = absurd (omega arith)
first (suc n) h =
    let e : suc n - 1 ≡ n = omega arith in
    rw e (ap (λ l. lfe ∷ l) (map-replicate kind_said n kind.Dynamic))

pub returns-then-lfe_present : goal.returns-then-lfe_present
unfolding only_dynamic
returns-then-lfe_present c =
    then_as _ (rw (c.if-lfe_present.true, c.fill.ensures.after (λ y h. h), first _ c.requires) refl) c.in_ok-lfe_present.ensures.reads

pub returns-else-lfe_present : goal.returns-else-lfe_present
unfolding only_dynamic
returns-else-lfe_present c =
    then_as _ (rw (c.if-lfe_present.false, c.fill.ensures.after (λ y h. h), map-replicate) refl) c.in_ok-lfe_present.ensures.reads
