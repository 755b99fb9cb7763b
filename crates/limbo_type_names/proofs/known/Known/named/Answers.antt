use Rattle.std.proofs.Common.{false, refl, sym, subst}
use Rattle.limbo_tree.specs.View.{view_qual}
use Rattle.limbo_types.specs.Types.{Ty}
use Rattle.limbo_type_names.specs.Means as means
use Rattle.limbo_type_names.specs.Means.{Stands}
use Rattle.limbo_type_names.specs.Working.{entries_in}
use Rattle.limbo_type_names.proofs.known.Known.named.Goals as goal

pub returns-in-Nothing-clause-fails : goal.returns-in-Nothing-clause-fails
returns-in-Nothing-clause-fails c = (refl, means.nothing false c.in-Nothing.ensures.declared.0 c.in-Nothing.ensures.declared.1)

pub returns-in-None-clause-fails : goal.returns-in-None-clause-fails
returns-in-None-clause-fails c = (refl, means.alone c.in-Found.number c.in-Found.ensures.declared c.in-None.ensures.none)

pub returns-in_ok-copy_of-in-Some-clause-means : goal.returns-in_ok-copy_of-in-Some-clause-means
returns-in_ok-copy_of-in-Some-clause-means c =
    let n = c.args.self.now.naming.now in
    means.named c.args.scope (view_qual c.args.name.now) c.in-Found.number _ c.in-Found.ensures.declared
    (subst (λ (z : Ty). Stands (entries_in n) n.implemented c.in-Found.number z) (sym c.in_ok-copy_of-in-Some.ensures) c.in-Some.ensures.some)
