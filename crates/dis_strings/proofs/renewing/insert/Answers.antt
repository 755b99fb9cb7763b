use Rattle.std.proofs.Common.{◌≡◌, Ok, length, sym, ◌∙◌, subst}
use Rattle.dis_strings.specs.Renewing.{IsEdited}
use Rattle.dis_strings.proofs.Edits.{text_long, with_apart}
use Rattle.dis_strings.proofs.renewing.insert.Goals as goal

pub returns-clause-edited : goal.returns-clause-edited
returns-clause-edited c =
    λ s t.
    let h = c.args.heap.now in
    let k = c.args.block.serial in
    let long : Ok c.in-Ok.count ≡ Ok (length s) = sym c.in-Ok.is ∙ c.len_of.ensures ∙ text_long h k s t in
    let same : c.in-Ok.count ≡ length s = cc in
    subst (λ u. IsEdited h c.put_character.new.heap k s u)
    (sym (with_apart s c.args.at c.args.code (λ e. c.if-at-count.false (e ∙ sym same)))) (c.put_character.ensures s t)
