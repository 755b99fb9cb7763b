use Rattle.std.proofs.Common.{◌≡◌, drop}
use Rattle.limbo_types.specs.View.{view_tys}
use Rattle.limbo_forms.specs.Forms.{all_settled}
use Rattle.limbo_forms.proofs.form.+settled.Given as goal

abbrev pub invariant-all_settled-loop-t : goal.invariant-all_settled-loop-t
invariant-all_settled-loop-t l = all_settled (view_tys (drop l.t-index l.ts)) ≡ all_settled (view_tys l.ts)
