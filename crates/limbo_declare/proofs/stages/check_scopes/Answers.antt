use Rattle.std.proofs.Common.{◌≡◌, List, take, subst, arith}
use Rattle.std.proofs.lemmas.List.{take_all}
use Rattle.limbo_includes.specs.declared.included.Standing as code_standing
use Rattle.limbo_top.specs.View.{placed}
use Rattle.limbo_declare.specs.Declares.{AreOnceInside}
use Rattle.limbo_declare.proofs.Failing.{scopes_more, fails_scope}
use Rattle.limbo_declare.proofs.stages.check_scopes.Goals as goal

pub returns-in-Err-Twice-clause-fails : goal.returns-in-Err-Twice-clause-fails
returns-in-Err-Twice-clause-fails c = λ implements.
    fails_scope c.args.tops.now c.loop-s.s-index c.s-item.result c.loop-s-test.true c.s-item.is implements
    (c.in-Err-Twice.ensures.twice c.in-Err-Twice.at c.in-Err-Twice.field-0-is)

pub loop-s-preserved : goal.loop-s-preserved
loop-s-preserved c =
    scopes_more c.args.tops.now c.loop-s.s-index c.s-item.result c.loop-s-test.true c.s-item.is c.loop-s.invariant c.in-Ok.ensures.once

pub returns-clause-once : goal.returns-clause-once
returns-clause-once c =
    let e : take c.loop-s.s-index c.args.tops.now ≡ c.args.tops.now = take_all c.loop-s.s-index c.args.tops.now (omega arith) in
    subst (λ (z : List code_standing.Standing). AreOnceInside (placed z)) e c.loop-s.invariant
