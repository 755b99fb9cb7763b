use Rattle.std.proofs.Common.{ap, option_map}
use Rattle.std.proofs.lemmas.Result.{IfOk-weaker}
use Rattle.limbo_tree.specs.View.{view_name, view_qual}
use Rattle.limbo_context.specs.View.{view_context, view_body}
use Rattle.limbo_body_types.proofs.Names.{part_found}
use Rattle.limbo_body_types.proofs.found.find.Goals as goal

pub returns-in-Some : goal.returns-in-Some
returns-in-Some c =
    IfOk-weaker c.part_of.result _ _ (λ f h.
    part_found (view_context c.args.context.now) (view_body c.args.body.now) (view_qual c.args.name.now) c.in-Named.meaning c.in-Some.part.text f
    c.in-Named.ensures (ap (option_map view_name) c.in-Some.is) h)
    c.part_of.ensures
