use Rattle.std.proofs.Common.{ap, sym, ◌∙◌}
use Rattle.std.proofs.lemmas.List.{drop_all}
use Rattle.limbo_typed.specs.View.{view_exprs}
use Rattle.limbo_meaning.specs.Program.{terms_before}
use Rattle.core_writing.specs.Operands.{terms_as, terms_in}
use Rattle.core_writing.proofs.Collected.{terms_on, sizes_on, as_none}
use Rattle.core_writing.proofs.operands.add_exprs.Goals as goal

pub loop-expr-preserved : goal.loop-expr-preserved
loop-expr-preserved c =
    let es = c.args.exprs.now in
    let items = (c.in_ok-push.ensures {u = tt}).items in
    record {
      terms = terms_on c.loop-expr.operands.items _ _ es c.loop-expr.expr-index c.loop-expr-test.true c.expr-item.is items
          ∙ c.loop-expr.invariant.terms;
      size = λ defs. sizes_on defs c.loop-expr.operands.items _ _ es c.loop-expr.expr-index c.loop-expr-test.true c.expr-item.is items
          ∙ c.loop-expr.invariant.size defs;
    }

pub returns-clause-terms : goal.returns-clause-terms
returns-clause-terms c =
    let none = drop_all c.loop-expr.expr-index c.args.exprs.now c.loop-expr-test.false in
    sym (ap (λ es. terms_before (terms_in c.loop-expr.operands.items) (terms_as c.args.printed (view_exprs es))) none
    ∙ as_none c.args.printed (terms_in c.loop-expr.operands.items)) ∙ c.loop-expr.invariant.terms
