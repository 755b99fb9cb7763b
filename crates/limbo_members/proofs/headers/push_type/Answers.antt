use Rattle.std.proofs.Common.{◌++◌, ◌∷◌, [], List, map, sym, ap, subst, ◌∙◌}
use Rattle.limbo_tree.specs.View as source
use Rattle.limbo_types.specs.Types.{Ty}
use Rattle.limbo_types.specs.View.{view_ty}
use Rattle.limbo_context.specs.View.{view_context, view_body}
use Rattle.limbo_locals.specs.limbo_local.Local.{ArePermitted}
use Rattle.limbo_members.proofs.Permitted.{permitted_push, pushed_types}
use Rattle.limbo_members.proofs.headers.push_type.Goals as goal

pub returns-in_ok-push-in-Ok-clause-pushed : goal.returns-in_ok-push-in-Ok-clause-pushed
returns-in_ok-push-in-Ok-clause-pushed c = λ ts h.
    subst
    (λ (us : List Ty). ArePermitted (view_context c.args.context.now) (view_body c.args.body.now) (ts ++ source.view_type c.args.of.now ∷
    [])
    us)
    (sym (pushed_types c.args.types.now.items c.push.new.self.items c.in_ok-copy-in-Ok.field-0 (view_ty c.in-Ok.t.value)
    c.in_ok-push-in-Ok.ensures.items (c.in_ok-copy-in-Ok.ensures ∙ ap view_ty c.deref.ensures)))
    (permitted_push (view_context c.args.context.now) (view_body c.args.body.now) ts (map view_ty c.args.types.now.items)
    (source.view_type c.args.of.now) (view_ty c.in-Ok.t.value) h c.in-Ok.ensures.means)
