use Rattle.std.proofs.Common.{[], ◌∷◌, map, codes, ap, ◌∙◌, arith}
use Rattle.limbo_types.specs.View.{view_ty}
use Rattle.link_sign.specs.TypeText.{pieces, after_commas}
use Rattle.link_sign.specs.Drafts.{TheType, TheTypes}
use Rattle.link_sign.proofs.Drafts.{spreads_ok}
use Rattle.link_sign.proofs.Forms.{types_form}
use Rattle.link_sign.proofs.spread.put_types.Goals as goal

pub returns-in-Some : goal.returns-in-Some
returns-in-Some c modules =
    let t = view_ty c.in-Some.first.now in
    let ts = map view_ty c.in-Some.more.now in
    spreads_ok modules (after_commas (map (pieces modules) (map view_ty c.args.ts.now))) (codes ",") (TheTypes ts ∷ TheType t ∷ []) c.args.draft.now c.put_next.new.draft c.put_next.result
    (ap (λ z. after_commas (map (pieces modules) (map view_ty z))) c.in-Some.ensures.cases.0 ∙ types_form modules t ts) (omega arith) c.put_next.ensures
