use Rattle.std.proofs.Common.{rules}
use Rattle.limbo_types.specs.View.{view_ty}
use Rattle.limbo_layout.specs.View.{view_defs}
use Rattle.limbo_things.proofs.Choices.{tells_part}
use Rattle.limbo_things.proofs.parts.has_part.Goals as goal

pub returns-in-Some : goal.returns-in-Some
returns-in-Some c =
    tells_part (view_defs c.args.adts.now) c.args.name.now (view_ty c.args.of.now) c.in-Some.part.number
    (view_ty c.in-Some.part.ty.now) c.are_settled.result (search rules) (search rules)
