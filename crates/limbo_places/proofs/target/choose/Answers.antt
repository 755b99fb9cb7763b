use Rattle.std.proofs.Common.{◌≡◌, ℕ, List, true, false, subst, rules}
use Rattle.limbo_types.specs.Types.{Ty}
use Rattle.limbo_types.specs.View.{view_ty}
use Rattle.limbo_layout.specs.Adts.{Def}
use Rattle.limbo_layout.specs.View.{view_defs}
use Rattle.limbo_typed.specs.Sound.{IsSettled}
use Rattle.limbo_forms.specs.Forms.{is_settled}
use Rattle.limbo_forms.proofs.Tests.{settled_is}
use Rattle.limbo_fields.specs.Fields.{Names}
use Rattle.limbo_places.proofs.Targets.{open_part, open_whole}
use Rattle.limbo_places.proofs.target.choose.Goals as goal

pub returns-then-not-is_settled-clause-absent : goal.returns-then-not-is_settled-clause-absent
returns-then-not-is_settled-clause-absent c = λ part t n i s. open_whole (view_ty c.args.of.now) (search rules) ⊥ s

pub returns-then-not-is_settled-2-clause-absent : goal.returns-then-not-is_settled-2-clause-absent
returns-then-not-is_settled-2-clause-absent c =
    let defs : List Def = view_defs c.args.adts.now in
    let of : Ty = view_ty c.args.of.now in
    let t : Ty = view_ty c.in-Some.part.ty.now in
    let named : Names defs c.args.name.now of c.in-Some.part.number t = search rules in
    let open_type : is_settled t ≡ false = search rules in
    open_part defs c.args.name.now of c.in-Some.part.number t named open_type

pub returns-clause-found : goal.returns-clause-found
returns-clause-found c =
    let defs : List Def = view_defs c.args.adts.now in
    let of : Ty = view_ty c.args.of.now in
    let t : Ty = view_ty c.in-Some.part.ty.now in
    let u : Ty = view_ty c.in_ok-copied.field-0.value in
    let named : Names defs c.args.name.now of c.in-Some.part.number t = search rules in
    let closed : is_settled t ≡ true = search rules in
    let number : c.in-Some.part.number ≡ c.in-Ok.number = search rules in
    let same : t ≡ u = search rules in (
      subst (λ (z : ℕ). Names defs c.args.name.now of z u) number
          (subst (λ (z : Ty). Names defs c.args.name.now of c.in-Some.part.number z) same named),
      subst (λ (z : Ty). IsSettled z) same (settled_is t closed),
      settled_is of (search rules),
    )
