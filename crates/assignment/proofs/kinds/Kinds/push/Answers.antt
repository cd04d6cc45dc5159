-- Past the end of the table nothing is stored.
use Rattle.std.proofs.Common.{refl, ap, arith, sym}
use Rattle.std.proofs.lemmas.List.{map-set, set_past, length-map}
use Rattle.rows.specs.Kinds.{kind_said}
use Rattle.assignment.specs.Kinds.{holding, extend}
use Rattle.assignment.proofs.kinds.Kinds.push.Goals as goal
use Rattle.assignment.proofs.kinds.Kinds.push.Goals.{then-self, else-self}

pub returns : goal.returns
unfolding extend
returns c =
    elim c.if-self.branch [
      | then-self w ↦ record { holds = rw w.self-is (ap (holding _) (map-set kind_said _ _ _)); table = rw w.self-is refl }
      | else-self w ↦ record {
        holds = rw w.self-is (sym (ap (holding _) (set_past _ _ _ (omega (arith, length-map c.args.self.now.table.now kind_said)))));
        table = rw w.self-is refl;
      }
    ]
