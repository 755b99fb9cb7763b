use Rattle.std.proofs.Common.{map}
use Rattle.core_parts.specs.Aims.{view_aim}
use Rattle.core_parts.specs.Lowered.{view_lowered_all, code_of}
use Rattle.core_parts.proofs.Noded.{assign_is}
use Rattle.core_parts.proofs.nodes.assign.Goals as goal

pub returns : goal.returns
returns c = λ defs us t.
    let at = rw (c.deref.ensures.value, c.deref-2.ensures.value) at c.assigned-value.ensures in
    let written = rw (c.deref-3.ensures.value, c.in_ok-code.ensures {u = tt}) at ((c.in_ok-put_writes.ensures {u = tt}) defs) in
    assign_is defs us t (map view_aim c.args.aims.items) (view_lowered_all c.args.all) (code_of c.put_writes.new.code.items)
    c.assigned-value.result at written
