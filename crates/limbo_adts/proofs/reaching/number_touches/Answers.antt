use Rattle.std.proofs.Common.{◌≡◌, ◌≤◌, length, sym, ap, ◌∙◌, arith}
use Rattle.std.proofs.lemmas.List.{length-map}
use Rattle.std.proofs.lemmas.Option.{slice_get_past}
use Rattle.limbo_types.specs.View.{view_ty}
use Rattle.limbo_layout.specs.View.{view_def, view_defs}
use Rattle.limbo_layout.proofs.Climbing.{seen_at}
use Rattle.limbo_adts.specs.Reading.{any_touch, types_there}
use Rattle.limbo_adts.proofs.reaching.number_touches.Goals as goal

pub returns-in-Some : goal.returns-in-Some
returns-in-Some c =
    let e = seen_at c.args.defs.now c.args.number c.in-Some.def.now c.in-Some.ensures.lookup.3.0 c.in-Some.ensures.lookup.1 in
    c.def_touches.ensures ∙ sym (ap (λ o. any_touch (types_there o) (view_ty c.args.u.now)) e)

pub returns-in-None : goal.returns-in-None
returns-in-None c =
    let m : length (view_defs c.args.defs.now) ≡ length c.args.defs.now = length-map c.args.defs.now view_def in
    let l : length c.args.defs.now ≤ c.args.number = c.in-None.ensures.lookup.3 in
    sym (ap (λ o. any_touch (types_there o) (view_ty c.args.u.now)) (slice_get_past (view_defs c.args.defs.now) c.args.number (omega arith)))
