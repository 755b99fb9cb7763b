use Rattle.std.proofs.Common.{List, map, ap, subst}
use Rattle.std.specs.List.{flat_map}
use Rattle.limbo_adts.specs.Table.{defs_of}
use Rattle.limbo_typed.specs.View.{view_module, view_declared, view_interface}
use Rattle.limbo_typed.specs.declared.module.Declared as code_declared
use Rattle.limbo_typed.specs.declared.module.Interface as code_interface
use Rattle.link_sign.specs.Clashes.{texts_of}
use Rattle.declared_signs.specs.Declared.{members}
use Rattle.declared_signs.specs.Texts.{Adds}
use Rattle.declared_signs.proofs.Adding.{all_declared}
use Rattle.declared_signs.proofs.texts.declared_texts.Goals as goal

pub returns : goal.returns
returns c =
    let m = c.args.module.now in
    let a = texts_of c.new-texts.result.items in
    let b = texts_of c.put_declared.new.texts.items in
    let d = texts_of c.put_imported.new.texts.items in
    all_declared (view_module m) a b d (texts_of c.put_prints.new.texts.items) (ap texts_of c.new-texts.ensures.items)
    (subst (λ (fs : List code_declared.Declared). Adds (defs_of m.adts) m.adts.modules (map (λ f. f.of) (map view_declared fs)) a b)
    c.deref.ensures.value c.in_ok-put_declared.ensures)
    (subst (λ (is : List code_interface.Interface). Adds (defs_of m.adts) m.adts.modules (flat_map members (map view_interface is)) b d)
    c.deref-2.ensures.value c.in_ok-put_imported.ensures)
    c.in_ok-put_prints.ensures
