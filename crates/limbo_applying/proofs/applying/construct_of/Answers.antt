use Rattle.std.proofs.Common.{◌≡◌, sym, ap, rules}
use Rattle.std.proofs.lemmas.Result.{IfErr-weaker}
use Rattle.limbo_types.specs.Types.{Adt}
use Rattle.limbo_types.specs.View.{view_ty}
use Rattle.limbo_types.proofs.View.{view_ty-Adt}
use Rattle.limbo_layout.specs.View.{view_defs}
use Rattle.limbo_typed.specs.View.{view_exprs}
use Rattle.limbo_context.specs.View.{view_context}
use Rattle.limbo_things.proofs.Forms.{no_own_adt}
use Rattle.limbo_applying.proofs.Refused.{type_refused, other_type}
use Rattle.limbo_applying.proofs.applying.construct_of.Goals as goal

pub returns-in-Adt-clause-refused : goal.returns-in-Adt-clause-refused
returns-in-Adt-clause-refused c =
    let at : view_ty c.args.t.now ≡ Adt c.in-Adt.adt = search (rules, view_ty-Adt) in
    IfErr-weaker c.construct.result _ _
    (λ f h. type_refused (view_context c.args.context.now) f (view_ty c.args.t.now) c.in-Adt.adt (view_exprs c.args.args.items)
    (view_defs c.defs.result.now) at (ap view_defs c.defs.ensures) h)
    c.construct.ensures.refused

pub returns-in_default : goal.returns-in_default
returns-in_default c = record {
  typed = tt;
  refused =
      other_type (view_context c.args.context.now) c.clash_of.result (view_ty c.args.t.now) (view_exprs c.args.args.items)
      (sym (no_own_adt c.args.t.now c.in_default.not-Adt)) c.clash_of.ensures;
}
