use Rattle.std.proofs.Common.{refl, length, map, arith}
use Rattle.std.proofs.lemmas.Bool.{false≢true}
use Rattle.std.proofs.lemmas.Option.{slice_get_read}
use Rattle.limbo_types.specs.View.{view_ty}
use Rattle.limbo_context.specs.View.{view_context}
use Rattle.limbo_stmt_values.specs.limbo_stating.Handlers.{Carries}
use Rattle.limbo_stmt_values.proofs.Told.{untrue}
use Rattle.limbo_heads.proofs.Carrying.{each_from, each_at, each_more}
use Rattle.limbo_heads.proofs.catching.each_carries.Goals as goal

pub returns-then-not-carries : goal.returns-then-not-carries
returns-then-not-carries c = (
  λ t. absurd (false≢true t),
  λ e.
      absurd (untrue c.carries.result _ c.if-not-carries.true c.carries.ensures
      (each_at (λ z. Carries (view_context c.args.context.now) z (map view_ty c.args.values.now)) c.args.patterns.now
      c.loop-pattern.pattern-index c.pattern-item.result (slice_get_read c.args.patterns.now (length c.args.patterns.now)
      c.loop-pattern.pattern-index c.pattern-item.result refl c.loop-pattern-test.true c.pattern-item.is) e)),
)

pub loop-pattern-preserved : goal.loop-pattern-preserved
loop-pattern-preserved c =
    each_more (λ z. Carries (view_context c.args.context.now) z (map view_ty c.args.values.now)) c.args.patterns.now
    c.loop-pattern.pattern-index c.pattern-item.result c.pattern-item.is c.loop-pattern-test.true
    (c.carries.ensures.0 c.if-not-carries.false) c.loop-pattern.invariant

pub returns : goal.returns
returns c = (
  λ t.
      each_from (λ z. Carries (view_context c.args.context.now) z (map view_ty c.args.values.now)) c.args.patterns.now
      (λ k z l at. let m = c.loop-pattern-test.false in c.loop-pattern.invariant k z (omega arith) at),
  λ e. refl,
)
