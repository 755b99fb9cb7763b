use Rattle.std.proofs.Common.{rules}
use Rattle.limbo_types.specs.View.{view_ty}
use Rattle.limbo_layout.specs.View.{view_defs}
use Rattle.limbo_places.proofs.Targets.{select_answered, no_part_answered}
use Rattle.limbo_places.proofs.Told.{refuses_with}
use Rattle.limbo_places.proofs.target.select.Goals as goal

pub returns-in_default-clause-refused : goal.returns-in_default-clause-refused
returns-in_default-clause-refused c =
    refuses_with _ _ _ (no_part_answered (view_defs c.args.adts.now) c.args.name.now c.args.base.value (search rules)) (search rules)

pub returns-clause-typed : goal.returns-clause-typed
returns-clause-typed c =
    select_answered (view_defs c.args.adts.now) c.args.name.now c.args.base.value c.in_ok-part_at.field-0.value c.in-Some.chosen.part
    (view_ty c.in-Some.chosen.ty.value) (search rules) (search rules) (search rules) (search rules)
