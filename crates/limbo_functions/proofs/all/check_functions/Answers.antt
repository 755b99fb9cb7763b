use Rattle.std.proofs.Common.{◌<◌, length, map, ◌∙◌, arith}
use Rattle.std.specs.Borrow.{Bor}
use Rattle.limbo_tree.specs.declared.source.Function as code_function
use Rattle.limbo_typed.specs.View.{view_function}
use Rattle.limbo_context.specs.View.{view_context, view_callee}
use Rattle.limbo_stmt_values.proofs.Told.{reasons_weaker}
use Rattle.limbo_functions.specs.View.{definition_of, definitions_of}
use Rattle.limbo_functions.proofs.Rows.{pushed, next, first_fails, some_fails}
use Rattle.limbo_functions.proofs.all.check_functions.Goals as goal

pub returns-in-Err-clause-first : goal.returns-in-Err-clause-first
returns-in-Err-clause-first c =
    let i = c.loop-number.number in
    let l = c.loop-number-test.true in
    let k : i < length c.args.callees.now = omega (arith, c.requires.one_each) in
    reasons_weaker c.in-Err.fault.why _ _
    (first_fails c.args.module_name.now c.args.point.now.body.scopes view_callee (λ (f : Bor code_function.Function). definition_of f.now)
    c.args.callees.now c.args.definitions.now i c.index-callees-number.result c.index-definitions-number.result k l
    c.index-callees-number.is c.index-definitions-number.is (map view_function c.loop-number.functions.items)
    (view_context c.args.point.now.context) (view_context c.loop-number.point.context) c.loop-number.point.body.scopes
    c.loop-number.invariant.same_scopes c.loop-number.invariant.are)
    c.in-Err.ensures.refused

pub returns-in-Err-clause-refused : goal.returns-in-Err-clause-refused
returns-in-Err-clause-refused c =
    reasons_weaker c.in-Err.fault.why _ _
    (some_fails c.args.module_name.now c.args.point.now.body.scopes (map view_callee c.args.callees.now)
    (definitions_of c.args.definitions.now) (view_context c.args.point.now.context) c.loop-number.number)
    (returns-in-Err-clause-first c)

pub loop-number-preserved : goal.loop-number-preserved
loop-number-preserved c =
    let i = c.loop-number.number in
    let l = c.loop-number-test.true in
    let k : i < length c.args.callees.now = omega (arith, c.requires.one_each) in
    record {
      outside = c.in-Ok.ensures.outside;
      same_scopes = c.in-Ok.ensures.same_scopes ∙ c.loop-number.invariant.same_scopes;
      are =
          next c.args.module_name.now c.args.point.now.body.scopes view_callee
          (λ (f : Bor code_function.Function). definition_of f.now) c.args.callees.now c.args.definitions.now i
          c.index-callees-number.result c.index-definitions-number.result k l c.index-callees-number.is c.index-definitions-number.is
          (map view_function c.loop-number.functions.items) (view_context c.args.point.now.context)
          (view_context c.loop-number.point.context) c.loop-number.point.body.scopes c.loop-number.invariant.same_scopes
          c.loop-number.invariant.are (view_function c.in-Ok.function) (map view_function c.push.new.self.items)
          (view_context c.check_function.new.point.context) c.in-Ok.ensures.function
          (pushed view_function c.loop-number.functions.items c.push.new.self.items c.in-Ok.function c.in-Ok-push.ensures.items);
    }
