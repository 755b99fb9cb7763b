use Rattle.std.proofs.Common.{inr, ap, subst, ◌∙◌}
use Rattle.limbo_types.specs.Types.{Ty}
use Rattle.limbo_types.specs.View.{view_ty}
use Rattle.limbo_types.proofs.View.{view_ty-Adt}
use Rattle.limbo_type_names.specs.Means.{Stands}
use Rattle.limbo_type_names.specs.Working.{entries_in}
use Rattle.limbo_type_names.proofs.Forms.{no_adt}
use Rattle.limbo_type_names.proofs.known.Known.adt_at.Goals as goal

pub returns-in-Adt-clause-some : goal.returns-in-Adt-clause-some
returns-in-Adt-clause-some c =
    let n = c.args.self.now.naming.now in
    subst (λ (z : Ty). Stands (entries_in n) n.implemented c.args.number z) (ap view_ty c.in-Adt.is ∙ view_ty-Adt c.in-Adt.adt) c.in-Some.ensures.some

pub returns-in_default : goal.returns-in_default
returns-in_default c = record {
  some = tt;
  none = inr (view_ty c.in-Some.counted.now.ty, c.in-Some.ensures.some, no_adt c.in-Some.counted.now.ty c.in_default.not-Adt);
}
