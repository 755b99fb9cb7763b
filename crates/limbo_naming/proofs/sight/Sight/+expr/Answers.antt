use Rattle.std.proofs.Common.{sym, ap, ◌∙◌}
use Rattle.limbo_tree.specs.View.{view_expr}
use Rattle.limbo_tree.proofs.Exprs.{view_expr-Name}
use Rattle.limbo_naming.specs.Qualified.{Simple, Member, Part, of_expr}
use Rattle.limbo_naming.proofs.Exprs.{no_name, no_member, no_part, is_member, is_part}
use Rattle.limbo_naming.proofs.sight.Sight.+expr.Goals as goal

pub returns-in-Name-clause-some : goal.returns-in-Name-clause-some
returns-in-Name-clause-some t c =
    (Simple c.in-Name.name, ap (λ e. of_expr (view_expr e)) c.in-Name.is ∙ ap of_expr (view_expr-Name c.in-Name.name c.in-Name.span), c.simple.ensures)

pub returns-in-None-clause-none : goal.returns-in-None-clause-none
returns-in-None-clause-none t c = no_member c.args.e.now c.in-Arrow.base c.in-Arrow.name c.in-Arrow.span c.in-Arrow.is
    (ap (λ e. of_expr (view_expr e)) (sym c.deref.ensures) ∙ c.in-None.ensures.none)

pub returns-in-Some-clause-some : goal.returns-in-Some-clause-some
returns-in-Some-clause-some t c =
    let s = c.in-Some.ensures.some in (
      Member s.0 c.in-Arrow.name.text,
      is_member c.args.e.now c.in-Arrow.base c.in-Arrow.name c.in-Arrow.span s.0 c.in-Arrow.is
          (ap (λ e. of_expr (view_expr e)) (sym c.deref.ensures) ∙ s.1),
      c.member.ensures c.args.scope s.0 s.2,
    )

pub returns-in-None-expr-clause-none : goal.returns-in-None-expr-clause-none
returns-in-None-expr-clause-none t c = no_part c.args.e.now c.in-Dot.base c.in-Dot.name c.in-Dot.span c.in-Dot.is
    (ap (λ e. of_expr (view_expr e)) (sym c.deref-in-Dot.ensures) ∙ c.in-None-expr.ensures.none)

pub returns-in-Some-expr-clause-some : goal.returns-in-Some-expr-clause-some
returns-in-Some-expr-clause-some t c =
    let s = c.in-Some-expr.ensures.some in (
      Part s.0 c.in-Dot.name.text,
      is_part c.args.e.now c.in-Dot.base c.in-Dot.name c.in-Dot.span s.0 c.in-Dot.is
          (ap (λ e. of_expr (view_expr e)) (sym c.deref-in-Dot.ensures) ∙ s.1),
      c.part.ensures c.args.scope s.0 s.2,
    )

pub returns-in_default : goal.returns-in_default
returns-in_default t c = record { some = tt; none = no_name c.args.e.now c.in_default.not-Name c.in_default.not-Arrow c.in_default.not-Dot }
