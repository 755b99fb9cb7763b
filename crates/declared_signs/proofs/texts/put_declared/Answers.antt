use Rattle.std.proofs.Common.{arith}
use Rattle.limbo_adts.specs.Table.{defs_of}
use Rattle.limbo_typed.specs.View.{view_declared}
use Rattle.link_sign.specs.Clashes.{texts_of}
use Rattle.declared_signs.proofs.Adding.{adds_next}
use Rattle.declared_signs.proofs.texts.put_declared.Goals as goal

pub loop-function-preserved : goal.loop-function-preserved
loop-function-preserved c =
    adds_next (defs_of c.args.adts.now) c.args.adts.now.modules view_declared (λ f. f.of) c.args.functions.now
    c.loop-function.function-index c.function-item.result (texts_of c.args.texts.now.items) (texts_of c.loop-function.texts.items) (texts_of c.put.new.texts.items)
    (omega arith) c.function-item.is c.loop-function.invariant (c.in_ok-put.ensures)
