use Rattle.std.proofs.Common.{arith, sym, ap, ◌∙◌}
use Rattle.limbo_typed.specs.View.{view_exprs}
use Rattle.typed_meaning.specs.Trees.{Local}
use Rattle.typed_lower.specs.Kinds.{writes}
use Rattle.slot_writing.specs.Terms.{view_term}
use Rattle.slot_writing.specs.Weights.{weight}
use Rattle.slot_writing.proofs.Printed.{weights_printed, write_printed}
use Rattle.slot_writing.proofs.kinds.+writes.Goals as goal

pub writes-write-requires-in-Print : goal.writes-write-requires-in-Print
writes-write-requires-in-Print t c =
    let size = ap (λ x. weight (view_term x)) c.in-Print.is in
    (omega (arith, weights_printed (view_exprs c.in-Print.args.now)), tt)

pub writes-returns-in-Print : goal.writes-returns-in-Print
writes-returns-in-Print t c =
    c.write-in-Print.ensures ∙ write_printed (Local c.args.variable) (view_exprs c.in-Print.args.now)
    ∙ ap (λ x. writes (Local c.args.variable) (view_term x)) (sym c.in-Print.is)
