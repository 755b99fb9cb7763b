use Rattle.std.proofs.Common.{arith, ap, ◌∙◌}
use Rattle.limbo_types.specs.View.{view_ty}
use Rattle.limbo_layout.specs.View.{view_defs}
use Rattle.value_extents.specs.Extent.{Extent}
use Rattle.value_extents.proofs.Rounds.{references_small}
use Rattle.value_extents.proofs.extents.Extents.count.Goals as goal

pub returns-clause-count : goal.returns-clause-count
returns-clause-count c =
    let e = c.count.ensures.count ∙ ap (λ (e : Extent). e.count) c.extent.ensures in
    let s = references_small (view_defs c.args.self.now) (view_ty c.args.t.now) in
    omega arith

pub returns-clause-within : goal.returns-clause-within
returns-clause-within c =
    let e = c.count.ensures.count ∙ ap (λ (e : Extent). e.count) c.extent.ensures in
    let s = references_small (view_defs c.args.self.now) (view_ty c.args.t.now) in
    omega arith
