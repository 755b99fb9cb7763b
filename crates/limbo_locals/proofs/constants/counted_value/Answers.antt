use Rattle.std.proofs.Common.{rules, ◌≡◌, ◌∙◌, List, pos, to_z, of_z, w64, refl, subst}
use Rattle.std.specs.Prelude.{IfOk, IfErr}
use Rattle.limbo_tree.specs.View as source
use Rattle.limbo_typed.specs.View.{view_expr}
use Rattle.limbo_causes.specs.Causes.{FailsBy}
use Rattle.limbo_context.specs.Context.{Valued}
use Rattle.limbo_context.specs.View.{view_context, view_body}
use Rattle.limbo_exprs.specs.limbo_typing.Typing.{HasValue}
use Rattle.limbo_exprs.specs.limbo_typing.Failing.{FailsValue}
use Rattle.limbo_locals.proofs.Known.{counted_more}
use Rattle.limbo_locals.proofs.constants.counted_value.Goals as goal

pub returns-clause-typed : goal.returns-clause-typed
returns-clause-typed c =
    let same : to_z w64 (of_z w64 c.from.result) ≡ c.from.result = search rules in
    let count : c.from.result ≡ pos c.args.place = search rules in
    subst
    (λ (vs : List Valued). IfOk c.value-x.result (λ x. HasValue (record (view_context c.args.context.now) { constants = vs })
    (view_body c.args.body.now) (source.view_expr c.args.e.now) (view_expr x.value) (view_body c.value-x.new.body)))
    (counted_more c.args.context.now.constants.items c.push.new.self.items _ (to_z w64 (of_z w64 c.from.result)) c.args.place
    c.in_ok-push.ensures.items refl refl (same ∙ count))
    c.value-x.ensures.typed

pub returns-clause-refused : goal.returns-clause-refused
returns-clause-refused c =
    let same : to_z w64 (of_z w64 c.from.result) ≡ c.from.result = search rules in
    let count : c.from.result ≡ pos c.args.place = search rules in
    subst
    (λ (vs : List Valued). IfErr c.value-x.result (λ f. FailsBy f.cause (FailsValue (record (view_context c.args.context.now)
    { constants = vs }) (view_body c.args.body.now) (source.view_expr c.args.e.now))))
    (counted_more c.args.context.now.constants.items c.push.new.self.items _ (to_z w64 (of_z w64 c.from.result)) c.args.place
    c.in_ok-push.ensures.items refl refl (same ∙ count))
    c.value-x.ensures.refused
