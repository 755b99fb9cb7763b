use Rattle.std.proofs.Common.{sym, ap, ◌∙◌}
use Rattle.std.specs.Prelude.{option_map}
use Rattle.limbo_tree.specs.View as source
use Rattle.limbo_typed.specs.View.{view_expr, view_alt_head}
use Rattle.limbo_context.specs.View.{view_body}
use Rattle.limbo_causes.proofs.Telling.{fails_weaker}
use Rattle.limbo_stmt_values.specs.limbo_stating.Alts as alts
use Rattle.limbo_stmt_values.proofs.Told.{part_told}
use Rattle.limbo_alts.proofs.Nodes.{bad_told}
use Rattle.limbo_alts.proofs.heads.written.Goals as goal

pub returns-then-not-is_arm-clause-refused : goal.returns-then-not-is_arm-clause-refused
returns-then-not-is_arm-clause-refused c =
    bad_told c.bad_alt.result.why _ c.bad_alt.ensures
    (λ n. alts.no_arm (source.view_expr c.args.e.now) (sym c.is_arm.ensures ∙ c.if-not-is_arm.true))

pub returns-in-None-clause-refused : goal.returns-in-None-clause-refused
returns-in-None-clause-refused c =
    bad_told c.bad_alt-in-None.result.why _ c.bad_alt-in-None.ensures
    (λ n.
    alts.copies (source.view_expr c.args.e.now) (view_expr c.in-Ok.x.value) (view_body c.check.new.body) c.in-Ok.ensures.typed
    (sym c.waits_for.ensures ∙ ap (option_map view_alt_head) c.in-None.is))

pub returns-in-Err-clause-refused : goal.returns-in-Err-clause-refused
returns-in-Err-clause-refused c =
    part_told c.in-Err.fault.cause c.part_fault.result.why _ c.part_fault.ensures
    (fails_weaker c.in-Err.fault.cause _ _ (λ k g n. alts.untyped (source.view_expr c.args.e.now) k g) c.in-Err.ensures.refused)
