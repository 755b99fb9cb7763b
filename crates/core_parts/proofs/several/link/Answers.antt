use Rattle.std.proofs.Common.{arith}
use Rattle.limbo_types.specs.View.{view_ty}
use Rattle.core_parts.specs.Lowered.{code_of, codes_of, joined}
use Rattle.core_parts.proofs.Celled.{link_some}
use Rattle.core_parts.proofs.several.link.Goals as goal

pub returns : goal.returns
returns c = λ defs.
    let all = c.args.all in
    let each = codes_of all.each.items in
    link_some defs (view_ty c.args.ty.now) each (joined each) (code_of all.drops.items) (code_of c.put_cells.new.code.items)
    (code_of c.put_cell_drops.new.drops.items) all.values.items all.free c.len-count.result (omega arith)
    (omega (arith, all.values.ok.0)) (rw (c.deref.ensures.value, c.in_ok-item.ensures {u = tt}, c.in_ok-code.ensures {u = tt}) at
    ((c.in_ok-put_cells.ensures {u = tt}) defs))
    ((c.in_ok-put_cell_drops.ensures {u = tt}) defs)
