use Rattle.std.proofs.Common.{arith}
use Rattle.limbo_adts.specs.Table.{defs_of}
use Rattle.limbo_typed.specs.View.{view_interface}
use Rattle.link_sign.specs.Clashes.{texts_of}
use Rattle.declared_signs.specs.Declared.{members}
use Rattle.declared_signs.proofs.Adding.{adds_members}
use Rattle.declared_signs.proofs.texts.put_imported.Goals as goal

pub loop-interface-preserved : goal.loop-interface-preserved
loop-interface-preserved c =
    adds_members (defs_of c.args.adts.now) c.args.adts.now.modules view_interface members c.args.interfaces.now
    c.loop-interface.interface-index c.interface-item.result (texts_of c.args.texts.now.items) (texts_of c.loop-interface.texts.items)
    (texts_of c.put_members.new.texts.items) (omega arith) c.interface-item.is c.loop-interface.invariant (c.in_ok-put_members.ensures)
