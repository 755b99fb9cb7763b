use Rattle.limbo_types.specs.View.{view_ty}
use Rattle.limbo_operators.proofs.Table.{lazy_given, lazy_found}
use Rattle.limbo_operators.proofs.Told.{answer_found, answer_absent}
use Rattle.limbo_operators.proofs.rows.lazy_row.Goals as goal

pub returns-clause-found : goal.returns-clause-found
returns-clause-found c =
    answer_found c.choose_lazy.result _ _ c.choose_lazy.ensures (lazy_given c.args.sign (view_ty c.args.left.now) (view_ty c.args.right.now))

pub returns-clause-none : goal.returns-clause-none
returns-clause-none c =
    answer_absent c.choose_lazy.result _ _ c.choose_lazy.ensures (lazy_found c.args.sign (view_ty c.args.left.now) (view_ty c.args.right.now))
