use Rattle.std.proofs.Common.{rules, tests, ◌≡◌, true}
use Rattle.limbo_members.proofs.Named.{defs_more, defs_all}
use Rattle.limbo_members.proofs.naming.are_named.Goals as goal

pub loop-def-preserved : goal.loop-def-preserved
loop-def-preserved c =
    let yes : c.def_names.result ≡ true = search (rules, tests) in
    defs_more c.args.modules c.args.defs.now c.loop-def.def-index c.def-item.result c.loop-def-test.true c.def-item.is
    (c.def_names.ensures yes) c.loop-def.invariant

pub returns : goal.returns
returns c = λ e. defs_all c.args.modules c.args.defs.now c.loop-def.def-index c.loop-def-test.false c.loop-def.invariant
