use Rattle.std.proofs.Common.{subst}
use Rattle.limbo_naming.specs.declared.naming.Named.{Named}
use Rattle.limbo_naming.specs.Direct.{DeclaresOf}
use Rattle.limbo_type_names.proofs.Needing.{need_found, need_unknown, need_nothing}
use Rattle.limbo_type_names.proofs.needs.push_named.Goals as goal

pub returns-in_ok-push-in-Found : goal.returns-in_ok-push-in-Found
returns-in_ok-push-in-Found c = λ n scope q names k d are.
    rw c.in_ok-push-in-Found.ensures.items
    (need_found n scope names c.args.row.now.items are q k c.in-Found.number (subst (λ (z : Named). DeclaresOf n scope q z) c.in-Found.is d))

pub returns-in-Unknown : goal.returns-in-Unknown
returns-in-Unknown c = λ n scope q names k d are.
    need_unknown n scope names c.args.row.now.items are q k (subst (λ (z : Named). DeclaresOf n scope q z) c.in-Unknown.is d)

pub returns-in-Nothing : goal.returns-in-Nothing
returns-in-Nothing c = λ n scope q names k d are.
    need_nothing n scope names c.args.row.now.items are q (subst (λ (z : Named). DeclaresOf n scope q z) c.in-Nothing.is d)
