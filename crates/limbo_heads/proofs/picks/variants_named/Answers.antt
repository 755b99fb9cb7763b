use Rattle.std.proofs.Common.{refl, subst, Option, ℕ}
use Rattle.std.specs.Prelude.{IfSome, IfNone}
use Rattle.limbo_tree.specs.View.{view_name}
use Rattle.limbo_refusals.specs.Refusals.{NoneIs}
use Rattle.limbo_context.specs.Context.{HasVariantNamed}
use Rattle.limbo_context.specs.View.{view_context}
use Rattle.limbo_stmt_values.specs.limbo_stating.Picks.{here}
use Rattle.limbo_heads.proofs.Naming.{of_pick}
use Rattle.limbo_heads.proofs.Rows.{gone_on, gone_end, gone_fails}
use Rattle.limbo_heads.proofs.picks.variants_named.Goals as goal

pub returns-in-Ok-None-clause-refused : goal.returns-in-Ok-None-clause-refused
returns-in-Ok-None-clause-refused c =
    let C = view_context c.args.context.now in
    let none =
    subst (λ (o : Option ℕ). IfNone o (NoneIs (HasVariantNamed C c.args.adt c.name-item.result.text))) c.in-Ok-None.field-0-is
    c.in-Ok-None.ensures.none in (
      gone_fails (of_pick C c.args.adt) view_name tt tt c.args.names.now c.loop-name.name-index c.loop-name.variants.items
          c.name-item.result tt c.name-item.is c.loop-name-test.true (λ vs. here (view_name c.name-item.result) vs none)
          c.loop-name.invariant,
      refl,
    )

pub loop-name-preserved : goal.loop-name-preserved
loop-name-preserved c =
    let C = view_context c.args.context.now in
    let found =
    subst (λ (o : Option ℕ). IfSome o (λ v. HasVariantNamed C c.args.adt c.name-item.result.text v)) c.in-Ok-Some.field-0-is
    c.in-Ok-Some.ensures.found in
    gone_on (of_pick C c.args.adt) view_name tt tt tt c.args.names.now c.loop-name.name-index c.loop-name.variants.items
    c.push.new.self.items c.name-item.result c.in-Ok-Some.variant c.in-Ok.ensures.items c.name-item.is c.loop-name-test.true found
    c.loop-name.invariant

pub returns-clause-named : goal.returns-clause-named
returns-clause-named c =
    gone_end (of_pick (view_context c.args.context.now) c.args.adt) view_name tt tt c.args.names.now c.loop-name.name-index
    c.loop-name.variants.items c.loop-name-test.false c.loop-name.invariant
