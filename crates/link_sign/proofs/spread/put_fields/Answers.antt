use Rattle.std.proofs.Common.{[], ◌∷◌, ◌++◌, codes, encode_utf8_all, ap, ◌∙◌, arith, length-append}
use Rattle.limbo_layout.specs.View.{view_field, view_fields}
use Rattle.link_sign.specs.TypeText.{Letter, fields_pieces}
use Rattle.link_sign.specs.Drafts.{ThePiece, TheType, TheFields}
use Rattle.link_sign.proofs.Drafts.{spreads_ok}
use Rattle.link_sign.proofs.Forms.{fields_form}
use Rattle.link_sign.proofs.spread.put_fields.Goals as goal

pub returns-in-Some : goal.returns-in-Some
returns-in-Some c modules =
    let f = view_field c.in-Some.first.now in
    let fs = view_fields c.in-Some.more.now in
    spreads_ok modules (fields_pieces modules (view_fields c.args.fields.now)) (encode_utf8_all f.name ++ codes ":")
    (TheFields fs ∷ ThePiece (Letter 59) ∷ TheType f.ty ∷ []) c.args.draft.now c.put_field.new.draft c.put_field.result
    (ap (λ z. fields_pieces modules (view_fields z)) c.in-Some.ensures.cases.0 ∙ fields_form modules f fs)
    (omega (arith, length-append (encode_utf8_all f.name) (codes ":"))) c.put_field.ensures
