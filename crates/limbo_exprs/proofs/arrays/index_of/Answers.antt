use Rattle.std.proofs.Common.{◌≡◌, Option, Some, subst}
use Rattle.limbo_typed.specs.declared.stmt.Constant.{Constant}
use Rattle.limbo_typed.specs.declared.stmt.Constant.TheVariants as constant
use Rattle.limbo_refusals.specs.Refusals.{NoneIs}
use Rattle.limbo_exprs.specs.Parts as parts
use Rattle.limbo_exprs.proofs.Tested.{int_type, int_fails}
use Rattle.limbo_exprs.proofs.arrays.index_of.Goals as goal

pub returns-then-not-is_int-clause-refused : goal.returns-then-not-is_int-clause-refused
returns-then-not-is_int-clause-refused c =
    int_fails c.clash_of.result c.refused.result.cause c.args.index.now c.is_int.result c.is_int.ensures c.if-not-is_int.true
    c.refused.ensures c.clash_of.ensures

pub returns-in-Some-clause-int : goal.returns-in-Some-clause-int
returns-in-Some-clause-int c = int_type c.args.index.now c.is_int.result c.is_int.ensures c.if-not-is_int.false

pub returns-in-None-clause-refused : goal.returns-in-None-clause-refused
returns-in-None-clause-refused c =
    parts.not_constant
    (subst (λ (o : Option Constant). NoneIs (λ k. o ≡ Some (constant.Number k))) c.in_ok-fold.ensures.folded c.in-None.ensures.none)
