use Rattle.std.proofs.Common.{arith, ◌≡◌, length}
use Rattle.limbo_layout.specs.View.{view_def, view_fields}
use Rattle.core_writing.proofs.Numbered.{variant_is, fields_length}
use Rattle.core_writing.proofs.moves.variant_numbers.Goals as goal

pub returns : goal.returns
returns c = λ defs.
    let d = c.args.def.now in
    let first = rw c.new-numbers.ensures.items at (c.in_ok-add_numbers.ensures {u = tt} defs) in
    let fields = fields_length d.fields.items in
    let common : c.len-common.result ≡ length (view_fields d.fields.items) = omega (arith, fields, c.len-common.ensures, d.fields.ok.0) in
    variant_is defs (view_def d) c.args.variant c.args.operands c.len-common.result c.in_ok-from.from c.saturating_sub.result _ _ first
    (c.in_ok-add_numbers-2.ensures {u = tt} defs) common (c.in_ok-from.ensures {u = tt}) c.saturating_sub.ensures
