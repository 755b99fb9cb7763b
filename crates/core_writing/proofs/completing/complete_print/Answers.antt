use Rattle.std.proofs.Common.{ap, ◌∙◌}
use Rattle.limbo_typed.proofs.View.{view_optional-None}
use Rattle.limbo_types.specs.View.{view_ty}
use Rattle.limbo_layout.specs.View.{view_defs}
use Rattle.limbo_meaning.specs.Trees.{Print}
use Rattle.core_code.specs.Terms.{node, types_in}
use Rattle.core_parts.specs.Lowered.{view_lowered_all}
use Rattle.core_writing.proofs.completing.complete_print.Goals as goal

pub returns-in_ok-l-in-Print-None : goal.returns-in_ok-l-in-Print-None
returns-in_ok-l-in-Print-None c = λ ts same.
    let defs = view_defs c.args.extents.now in
    let t = view_ty c.args.e.now.ty in
    let here = rw (c.in-Print-None.is-0, c.in-Print-None.is-1, view_optional-None) at same in
    rw (c.in-Print-None.is-0, c.in-Print-None.is-1, view_optional-None)
    ((c.in_ok-l-in-Print-None.ensures {u = tt}) t
    ∙ ap (λ us. node defs (types_in defs us) t (Print c.args.format.now) (view_lowered_all c.args.all)) here)
