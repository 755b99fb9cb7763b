use Rattle.std.proofs.Common.{sym, ap, ◌∙◌, List}
use Rattle.limbo_forms.specs.Forms.{ref_of}
use Rattle.limbo_layout.specs.declared.def.AdtDef as code_def
use Rattle.limbo_layout.specs.View.{view_defs}
use Rattle.limbo_typed.specs.View.{view_expr}
use Rattle.limbo_context.specs.View.{view_context}
use Rattle.limbo_exprs.specs.limbo_prefixes.Choosing.{is_pick}
use Rattle.limbo_stmt_values.proofs.Told.{type_is}
use Rattle.limbo_stmt_values.proofs.Rules.{picked_of, not_picked_of, no_ref_of}
use Rattle.limbo_stmt_values.proofs.picks.pick_of.Goals as goal

pub returns-then-has_picks-clause-found : goal.returns-then-has_picks-clause-found
returns-then-has_picks-clause-found c =
    picked_of (view_context c.args.context.now) (view_expr c.args.x.now) c.in-Some.adt
    (sym c.in-Some.is ∙ c.ref_of.ensures ∙ ap ref_of (type_is c.args.x.now))
    (ap (λ (ds : List code_def.AdtDef). is_pick (view_defs ds) c.in-Some.adt) (sym c.defs.ensures) ∙ sym c.has_picks.ensures
    ∙ c.if-has_picks.true)

pub returns-else-has_picks-clause-none : goal.returns-else-has_picks-clause-none
returns-else-has_picks-clause-none c =
    not_picked_of (view_context c.args.context.now) (view_expr c.args.x.now) c.in-Some.adt
    (sym c.in-Some.is ∙ c.ref_of.ensures ∙ ap ref_of (type_is c.args.x.now))
    (ap (λ (ds : List code_def.AdtDef). is_pick (view_defs ds) c.in-Some.adt) (sym c.defs.ensures) ∙ sym c.has_picks.ensures
    ∙ c.if-has_picks.false)

pub returns-in-None-clause-none : goal.returns-in-None-clause-none
returns-in-None-clause-none c =
    no_ref_of (view_context c.args.context.now) (view_expr c.args.x.now)
    (sym c.in-None.is ∙ c.ref_of.ensures ∙ ap ref_of (type_is c.args.x.now))
