use Rattle.std.proofs.Common.{Bor, option_map, sym, ap, ◌∙◌}
use Rattle.limbo_types.specs.declared.ty.Ty as code_ty
use Rattle.limbo_types.specs.View.{view_ty}
use Rattle.limbo_adts.specs.Table.{defs_of}
use Rattle.limbo_typed.specs.Sound.{type_at}
use Rattle.limbo_typed.specs.View.{view_place}
use Rattle.limbo_typed.proofs.View.{view_place-out}
use Rattle.limbo_stores.proofs.Places.{place_closes}
use Rattle.limbo_stores.proofs.place.can_close.Goals as goal

pub returns-in-Some : goal.returns-in-Some
returns-in-Some c =
    place_closes (defs_of c.args.adts.now) (view_place c.args.place.now) (view_ty c.args.place.now.ty) (view_ty c.in-Some.object.now)
    c.reaches.result (ap type_at (view_place-out c.args.place.now))
    (ap (option_map (λ (b : Bor code_ty.Ty). view_ty b.now)) (sym c.in-Some.is) ∙ c.holder.ensures) c.reaches.ensures
