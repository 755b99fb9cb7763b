use Rattle.std.proofs.Common.{◌≡◌, nat_eq, true, false, ◌&&◌, None, Some, sym, ap, ◌∙◌}
use Rattle.std.specs.Cmp.Lexicographic.{pointwise}
use Rattle.limbo_tree.specs.View.{view_expr}
use Rattle.limbo_constant_values.specs.Answers.{same_name}
use Rattle.limbo_constant_values.proofs.Sames.{at_name, at_arrow, at_dot, no_name}
use Rattle.limbo_constant_values.proofs.answers.+is_same.Goals as goal

pub returns-in-None : goal.returns-in-None
returns-in-None t c = at_name c.args.name.now c.args.e.now c.in-Name.name c.in-Name.span c.in-Name.is None c.in-None.ensures

pub returns-in-Some : goal.returns-in-Some
returns-in-Some t c =
    c.eq.ensures ∙ at_name c.args.name.now c.args.e.now c.in-Name.name c.in-Name.span c.in-Name.is (Some c.in-Some.other.now) c.in-Some.ensures

pub returns-in-None-arrow_in : goal.returns-in-None-arrow_in
returns-in-None-arrow_in t c =
    at_arrow c.args.name.now c.args.e.now c.in-Arrow.base c.in-Arrow.name c.in-Arrow.span c.in-Arrow.is None c.in-None-arrow_in.ensures

pub returns-then-is_same : goal.returns-then-is_same
returns-then-is_same t c =
    let f : same_name (view_expr c.in-Arrow.base.value) (view_expr c.in-Some-arrow_in.outer.now) ≡ true =
    ap (λ z. same_name (view_expr z) (view_expr c.in-Some-arrow_in.outer.now)) (sym c.deref.ensures) ∙ sym c.is_same.ensures ∙ c.if-is_same.true in
    c.eq-then-is_same.ensures ∙ ap (λ b. b && pointwise nat_eq c.in-Arrow.name.text c.in-Some-arrow_in.other.now.text) (sym f)
    ∙ at_arrow c.args.name.now c.args.e.now c.in-Arrow.base c.in-Arrow.name c.in-Arrow.span c.in-Arrow.is
    (Some (view_expr c.in-Some-arrow_in.outer.now, c.in-Some-arrow_in.other.now.text)) c.in-Some-arrow_in.ensures

pub returns-else-is_same : goal.returns-else-is_same
returns-else-is_same t c =
    let f : same_name (view_expr c.in-Arrow.base.value) (view_expr c.in-Some-arrow_in.outer.now) ≡ false =
    ap (λ z. same_name (view_expr z) (view_expr c.in-Some-arrow_in.outer.now)) (sym c.deref.ensures) ∙ sym c.is_same.ensures ∙ c.if-is_same.false in
    c.if-is_same.false ∙ ap (λ b. b && pointwise nat_eq c.in-Arrow.name.text c.in-Some-arrow_in.other.now.text) (sym f)
    ∙ at_arrow c.args.name.now c.args.e.now c.in-Arrow.base c.in-Arrow.name c.in-Arrow.span c.in-Arrow.is
    (Some (view_expr c.in-Some-arrow_in.outer.now, c.in-Some-arrow_in.other.now.text)) c.in-Some-arrow_in.ensures

pub returns-in-None-dot_in : goal.returns-in-None-dot_in
returns-in-None-dot_in t c =
    at_dot c.args.name.now c.args.e.now c.in-Dot.base c.in-Dot.name c.in-Dot.span c.in-Dot.is None c.in-None-dot_in.ensures

pub returns-then-is_same-2 : goal.returns-then-is_same-2
returns-then-is_same-2 t c =
    let f : same_name (view_expr c.in-Dot.base.value) (view_expr c.in-Some-dot_in.outer.now) ≡ true =
    ap (λ z. same_name (view_expr z) (view_expr c.in-Some-dot_in.outer.now)) (sym c.deref-in-Some-dot_in.ensures) ∙ sym c.is_same-in-Some-dot_in.ensures ∙ c.if-is_same-2.true in
    c.eq-then-is_same-2.ensures ∙ ap (λ b. b && pointwise nat_eq c.in-Dot.name.text c.in-Some-dot_in.other.now.text) (sym f)
    ∙ at_dot c.args.name.now c.args.e.now c.in-Dot.base c.in-Dot.name c.in-Dot.span c.in-Dot.is
    (Some (view_expr c.in-Some-dot_in.outer.now, c.in-Some-dot_in.other.now.text)) c.in-Some-dot_in.ensures

pub returns-else-is_same-2 : goal.returns-else-is_same-2
returns-else-is_same-2 t c =
    let f : same_name (view_expr c.in-Dot.base.value) (view_expr c.in-Some-dot_in.outer.now) ≡ false =
    ap (λ z. same_name (view_expr z) (view_expr c.in-Some-dot_in.outer.now)) (sym c.deref-in-Some-dot_in.ensures) ∙ sym c.is_same-in-Some-dot_in.ensures ∙ c.if-is_same-2.false in
    c.if-is_same-2.false ∙ ap (λ b. b && pointwise nat_eq c.in-Dot.name.text c.in-Some-dot_in.other.now.text) (sym f)
    ∙ at_dot c.args.name.now c.args.e.now c.in-Dot.base c.in-Dot.name c.in-Dot.span c.in-Dot.is
    (Some (view_expr c.in-Some-dot_in.outer.now, c.in-Some-dot_in.other.now.text)) c.in-Some-dot_in.ensures

pub returns-in_default : goal.returns-in_default
returns-in_default t c = no_name c.args.name.now c.in_default.not-Name c.in_default.not-Arrow c.in_default.not-Dot (view_expr c.args.e.now)
