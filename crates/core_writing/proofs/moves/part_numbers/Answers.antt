use Rattle.std.proofs.Common.{sym, ◌∙◌}
use Rattle.limbo_layout.specs.View.{view_defs}
use Rattle.core_writing.proofs.Numbered.{no_adt}
use Rattle.core_writing.proofs.moves.part_numbers.Goals as goal

pub returns-in_ok-numbers-in_default : goal.returns-in_ok-numbers-in_default
returns-in_ok-numbers-in_default c =
    let defs = view_defs c.args.extents.now in
    (c.in_ok-numbers-in_default.ensures {u = tt} defs) ∙ sym (no_adt defs c.args.operation c.args.operands c.in_default.not-Adt)
