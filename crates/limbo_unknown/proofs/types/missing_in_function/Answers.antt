use Rattle.std.proofs.Common.{map}
use Rattle.limbo_tree.specs.View.{view_param, view_boxed_type}
use Rattle.limbo_unknown.specs.Written.{in_params, in_answer}
use Rattle.limbo_unknown.specs.Lacking.{LacksOneOf}
use Rattle.limbo_unknown.proofs.Gaps.{told_behind}
use Rattle.limbo_unknown.proofs.types.missing_in_function.Goals as goal

pub returns-in-None : goal.returns-in-None
returns-in-None c =
    let xs = in_params (map view_param c.args.of.now.params.items) in
    let never : LacksOneOf c.args.naming.now c.args.scope xs → ⊥ = rw c.deref.ensures.value at c.in-None.ensures in
    told_behind c.args.naming.now c.args.scope xs (in_answer (view_boxed_type c.args.of.now.answer))
    c.missing_in_answer.result never c.missing_in_answer.ensures
