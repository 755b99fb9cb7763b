use Rattle.std.proofs.Common.{◌≡◌, ◌<◌, List, length, get_or, arith, ap, subst}
use Rattle.limbo_adts.specs.Table.{defs_of}
use Rattle.limbo_typed.specs.View.{view_signature}
use Rattle.limbo_typed.specs.declared.module.Signature as code_signature
use Rattle.link_sign.specs.Clashes.{texts_of}
use Rattle.declared_signs.proofs.Adding.{adds_next}
use Rattle.declared_signs.proofs.texts.put_members.Goals as goal

pub loop-function-preserved : goal.loop-function-preserved
loop-function-preserved c =
    let all = c.args.interface.now.functions.items in
    let i = c.loop-function.function-index in
    let x = c.function-item.result in
    let same = ap (λ (xs : List code_signature.Signature). length xs) c.deref-function-items.ensures.value in
    let inside : i < length all = omega (arith, c.loop-function-test.true, same) in
    adds_next (defs_of c.args.adts.now) c.args.adts.now.modules view_signature (λ f. f.of) all i x (texts_of c.args.texts.now.items)
    (texts_of c.loop-function.texts.items) (texts_of c.put.new.texts.items) inside
    (subst (λ (xs : List code_signature.Signature). x ≡ get_or xs i x) c.deref-function-items.ensures.value c.function-item.is)
    c.loop-function.invariant c.in_ok-put.ensures
