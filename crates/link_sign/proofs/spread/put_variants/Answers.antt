use Rattle.std.proofs.Common.{[], ◌∷◌, ◌++◌, map, codes, encode_utf8_all, ap, ◌∙◌, arith, length-append}
use Rattle.limbo_layout.specs.View.{view_variant}
use Rattle.link_sign.specs.TypeText.{Letter, variants_pieces}
use Rattle.link_sign.specs.Drafts.{ThePiece, TheFields, TheVariants}
use Rattle.link_sign.proofs.Drafts.{spreads_ok}
use Rattle.link_sign.proofs.Forms.{variants_form}
use Rattle.link_sign.proofs.spread.put_variants.Goals as goal

pub returns-in-Some : goal.returns-in-Some
returns-in-Some c modules =
    let v = view_variant c.in-Some.first.now in
    let vs = map view_variant c.in-Some.more.now in
    spreads_ok modules (variants_pieces modules (map view_variant c.args.variants.now)) (codes "|" ++ (encode_utf8_all v.name ++ codes "{"))
    (TheVariants vs ∷ ThePiece (Letter 125) ∷ TheFields v.fields ∷ []) c.args.draft.now c.put_variant.new.draft c.put_variant.result
    (ap (λ z. variants_pieces modules (map view_variant z)) c.in-Some.ensures.cases.0 ∙ variants_form modules v vs)
    (omega (arith, length-append (encode_utf8_all v.name) (codes "{"))) c.put_variant.ensures
