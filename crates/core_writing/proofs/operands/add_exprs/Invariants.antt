use Rattle.std.proofs.Common.{◌≡◌, ◌+◌, List, drop}
use Rattle.limbo_layout.specs.Adts.{Def}
use Rattle.limbo_typed.specs.View.{view_exprs}
use Rattle.limbo_meaning.specs.Program.{terms_before}
use Rattle.core_frames.specs.Sizes.{exprs_size}
use Rattle.core_writing.specs.Operands.{operands_size, terms_as, terms_in}
use Rattle.core_writing.proofs.operands.add_exprs.Given as goal

abbrev pub invariant-loop-expr : goal.invariant-loop-expr
invariant-loop-expr l = record {
  terms : terms_before (terms_in l.operands.items) (terms_as l.printed (view_exprs (drop l.expr-index l.exprs)))
      ≡ terms_before (terms_in l.initial.operands.items) (terms_as l.printed (view_exprs l.exprs));
  size : (defs : List Def) → operands_size defs l.operands.items + exprs_size defs (view_exprs (drop l.expr-index l.exprs))
      ≡ operands_size defs l.initial.operands.items + exprs_size defs (view_exprs l.exprs);
}
