use Rattle.std.proofs.Common.{ap, ◌∙◌}
use Rattle.limbo_types.specs.View.{view_ty}
use Rattle.limbo_types.specs.Types.{Ty, Int}
use Rattle.limbo_types.proofs.View.{view_ty-Byte, view_ty-Int}
use Rattle.limbo_values.specs.declared.number.Kind.TheVariants as kind
use Rattle.limbo_typed.specs.declared.operation.Operation.TheVariants as operation
use Rattle.limbo_meaning.specs.Trees.{Work, Operate}
use Rattle.core_code.specs.Terms.{LoweredAll}
use Rattle.core_parts.specs.Lowered.{view_lowered, view_lowered_all, added}
use Rattle.core_parts.specs.Nodes.{gave}
use Rattle.core_writing.proofs.Lowerings.{not_widened}
use Rattle.core_writing.proofs.lowering.widen.Goals as goal

pub returns-in_ok-w-in-Byte : goal.returns-in_ok-w-in-Byte
returns-in_ok-w-in-Byte c =
    let o : Work = Operate (operation.Convert kind.Byte kind.Int) in
    let l = view_lowered c.args.l in
    rw (ap view_ty c.in-Byte.is ∙ view_ty-Byte)
    (c.in_ok-w-in-Byte.ensures {u = tt} ∙ ap (λ (t : Ty). gave t o 0 (view_lowered_all c.add.new.self)) view_ty-Int
    ∙ ap (λ (x : LoweredAll). gave Int o 0 x) (c.in_ok-add-in-Byte.ensures {u = tt}
    ∙ ap (λ (x : LoweredAll). added x l) c.new-all.ensures))

pub returns-in_default : goal.returns-in_default
returns-in_default c = not_widened c.args.ty.now (view_lowered c.args.l) c.in_default.not-Byte
