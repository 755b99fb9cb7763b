use Rattle.std.proofs.Common.{refl}
use Rattle.link_sign_rows.proofs.Named.{def_more, all_named}
use Rattle.link_sign_rows.proofs.naming.are_named.Goals as goal

pub loop-def-preserved : goal.loop-def-preserved
loop-def-preserved c =
    def_more c.args.defs.now c.args.modules c.loop-def.def-index c.def-item.result c.def-item.is c.loop-def.invariant (c.if-not-def_names.ensures refl)

pub returns : goal.returns
returns c = λ h. all_named c.args.defs.now c.args.modules c.loop-def.def-index c.loop-def-test.false c.loop-def.invariant
