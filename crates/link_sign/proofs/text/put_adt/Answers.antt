use Rattle.std.proofs.Common.{◌≡◌, [], ◌∷◌, map, codes, sym, ap, ◌∙◌, arith}
use Rattle.std.proofs.lemmas.List.{get_or-map}
use Rattle.limbo_layout.specs.View.{view_def, view_defs, view_fields, view_variant}
use Rattle.link_sign.specs.TypeText.{Letter, adt_at, adt_pieces}
use Rattle.link_sign.specs.Drafts.{ThePiece, TheFields, TheVariants}
use Rattle.link_sign.proofs.Drafts.{spreads_ok}
use Rattle.link_sign.proofs.text.put_adt.Goals as goal

pub returns-in-Some : goal.returns-in-Some
returns-in-Some c modules =
    let defs = c.args.defs.now in
    let n = c.args.number in
    let def = c.in-Some.def.now in
    let there : adt_at (view_defs defs) n ≡ view_def def =
    get_or-map view_def defs n def (record { name = []; fields = []; picks = [] }) c.in-Some.ensures.lookup.3.0 ∙ ap view_def (sym c.in-Some.ensures.lookup.1) in
    spreads_ok modules (adt_pieces modules (adt_at (view_defs defs) n)) (codes "a{")
    (ThePiece (Letter 125) ∷ TheVariants (map view_variant def.picks.items) ∷ TheFields (view_fields def.fields.items) ∷ [])
    c.args.draft.now c.put_def.new.draft c.put_def.result (ap (adt_pieces modules) there) (omega arith) c.put_def.ensures
