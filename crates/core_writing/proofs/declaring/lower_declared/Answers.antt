use Rattle.std.proofs.Common.{ap, ◌∙◌, [], map}
use Rattle.limbo_types.specs.Types.{Int}
use Rattle.limbo_layout.specs.View.{view_defs}
use Rattle.limbo_typed.specs.View.{view_boxed, view_var}
use Rattle.limbo_meaning.specs.Program.{declared_value, local}
use Rattle.core_code.specs.Terms.{LoweredAll}
use Rattle.core_frames.specs.Sizes.{types_in}
use Rattle.core_parts.specs.Lowered.{view_lowered, view_lowered_all, added}
use Rattle.core_writing.proofs.Locals.{declared_is}
use Rattle.core_writing.proofs.declaring.lower_declared.Goals as goal

pub returns : goal.returns
returns c =
    let defs = view_defs c.args.extents.now in
    let a = view_lowered c.in_ok-operand.operand in
    let types = types_in (map view_var c.args.variables.now) in
    let aims = map (local types) c.args.numbers.now in
    let all = c.in_ok-add.ensures {u = tt} ∙ ap (λ (x : LoweredAll). added x a) c.new-all.ensures in
    let made = rw (c.in_ok-aims.ensures {u = tt}) at (c.in_ok-l.ensures {u = tt} defs [] Int) in
    declared_is defs aims (declared_value types (view_boxed c.args.value.now)) a _ (view_lowered_all c.add.new.self)
    (c.in_ok-operand.ensures {u = tt} types) all made
