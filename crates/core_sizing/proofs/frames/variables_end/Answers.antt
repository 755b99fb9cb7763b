use Rattle.std.proofs.Common.{arith, ◌≡◌, ◌+◌, map, drop, ap, ◌∙◌}
use Rattle.std.specs.Int.{next_multiple_of}
use Rattle.std.proofs.lemmas.Grind.{common_steps}
use Rattle.limbo_types.specs.View.{view_ty}
use Rattle.limbo_layout.specs.View.{view_defs}
use Rattle.limbo_typed.specs.View.{view_var}
use Rattle.limbo_meaning.specs.Operations.{size_of}
use Rattle.core_frames.specs.Sizes.{types_in}
use Rattle.core_sizing.proofs.Laid.{laid_all, laid_grows, laid-next, place_for}
use Rattle.core_sizing.proofs.frames.variables_end.Goals as goal

pub loop-variable-init : goal.loop-variable-init
loop-variable-init c = record {
  low = omega arith;
  on = laid_all (view_defs c.args.extents.now) (types_in (map view_var c.args.variables.now));
}

pub returns-in_err-size : goal.returns-in_err-size
returns-in_err-size c =
    let defs = view_defs c.args.extents.now in
    let i = c.loop-variable.variable-index in
    let v = c.variable-item.result in
    let t = view_ty v.ty in
    let n = c.loop-variable.end in
    let next = laid-next defs n c.args.variables.now i v (omega arith) c.variable-item.is in
    let grows = laid_grows defs (place_for defs n t + size_of defs t) (types_in (map view_var (drop (i + 1) c.args.variables.now))) in
    grind (arith, common_steps)

pub returns-then-end-gt-LARGEST_FRAME : goal.returns-then-end-gt-LARGEST_FRAME
returns-then-end-gt-LARGEST_FRAME c =
    let defs = view_defs c.args.extents.now in
    let i = c.loop-variable.variable-index in
    let v = c.variable-item.result in
    let t = view_ty v.ty in
    let n = c.loop-variable.end in
    let next = laid-next defs n c.args.variables.now i v (omega arith) c.variable-item.is in
    let grows = laid_grows defs (place_for defs n t + size_of defs t) (types_in (map view_var (drop (i + 1) c.args.variables.now))) in
    let place : c.next_multiple_of.result ≡ place_for defs n t =
    c.next_multiple_of.ensures.value ∙ ap (λ a. next_multiple_of n a) c.align.ensures.align in
    omega (arith, c.in_ok-size.ensures)
