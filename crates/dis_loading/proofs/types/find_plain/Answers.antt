use Rattle.std.proofs.Common.{refl, sym, ap, ◌∙◌, Some}
use Rattle.std.proofs.lemmas.Option.{slice_get_read}
use Rattle.dis_loading.proofs.Plains.{plain_is}
use Rattle.dis_loading.proofs.types.find_plain.Goals as goal

pub returns-then-len-eq0 : goal.returns-then-len-eq0
returns-then-len-eq0 c =
    let desc = c.index-types-k.result in
    slice_get_read c.args.types.now _ c.loop-k.k desc refl c.loop-k-test.true c.index-types-k.is
    ∙ ap Some (plain_is desc c.args.size c.if-desc-size.true (sym c.len.ensures ∙ c.if-len-eq0.true))
