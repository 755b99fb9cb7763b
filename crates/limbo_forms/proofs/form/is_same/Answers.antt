use Rattle.limbo_types.specs.View.{view_ty}
use Rattle.limbo_forms.proofs.Forms.{told}
use Rattle.limbo_forms.proofs.form.is_same.Goals as goal

pub returns : goal.returns
returns c = told (view_ty c.args.t.now) (view_ty c.args.u.now) c.equal.result c.equal.ensures.0 c.equal.ensures.1
