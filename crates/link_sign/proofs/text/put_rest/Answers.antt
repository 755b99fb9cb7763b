use Rattle.std.proofs.Common.{◌≡◌, [], ◌++◌, map, sym, ap, ◌∙◌, subst}
use Rattle.std.proofs.lemmas.List.{nil_from_length, map_push}
use Rattle.limbo_adts.specs.Table.{defs_of}
use Rattle.link_sign.specs.TypeText.{Spells, letters}
use Rattle.link_sign.specs.Drafts.{view_item, to_write}
use Rattle.link_sign.proofs.Steps.{letters_spelled}
use Rattle.link_sign.proofs.text.put_rest.Goals as goal

pub loop-item-preserved : goal.loop-item-preserved
loop-item-preserved c text x =
    let modules = c.args.adts.now.modules in
    let written = c.loop-item.draft.text.items in
    let back = c.pop.new.self.items in
    let before = ap (map view_item) c.in-Some.ensures.items ∙ map_push view_item back c.in-Some.item in
    c.loop-item.invariant text
    (subst (λ z. Spells (defs_of c.args.adts.now) modules c.loop-item.opened (letters written ++ to_write modules z) text) (sym before)
    (c.in_ok-put_item.ensures.meant text x))

pub returns : goal.returns
returns c =
    let modules = c.args.adts.now.modules in
    let written = c.loop-item.draft.text.items in
    let opened = c.loop-item.opened in
    let none : c.loop-item.draft.pending.items ≡ [] =
    nil_from_length c.loop-item.draft.pending.items (sym c.loop-item.draft.pending.ok.0 ∙ c.in_default.ensures.cases.0) in
    c.loop-item.invariant written
    (subst (λ z. Spells (defs_of c.args.adts.now) modules opened (letters written ++ to_write modules (map view_item z)) written) (sym none)
    (letters_spelled (defs_of c.args.adts.now) modules written opened))
