use Rattle.std.proofs.Common.{sym, ap, ◌∙◌, map, List, slice_get}
use Rattle.limbo_tree.specs.View as source
use Rattle.limbo_types.specs.View.{view_ty}
use Rattle.limbo_typed.specs.declared.module.TException as code_exception
use Rattle.limbo_typed.specs.View.{view_stmt, view_exception}
use Rattle.limbo_context.specs.View.{view_context, view_body}
use Rattle.limbo_stmt_values.specs.limbo_stating.Raising.{NamesException}
use Rattle.limbo_stmt_values.proofs.Told.{if_ok, if_err}
use Rattle.limbo_raising.proofs.Raised.{raised_by, exception_fails, text_fails, none_named, none_there, no_item, item_of}
use Rattle.limbo_raising.proofs.raising.raise_named.Goals as goal

pub returns-in-Ok-None-clause-refused : goal.returns-in-Ok-None-clause-refused
returns-in-Ok-None-clause-refused c =
    let C = view_context c.args.context.now in
    let B = view_body c.args.body.now in
    let E = source.view_expr c.args.e.now in
    if_err c.raise_text.result _ _
    (λ f g m. text_fails C B E f.cause (none_named C B E c.args.name.now m (c.in-Ok-None.ensures.none c.in-Ok-None.field-0-is)) g)
    c.raise_text.ensures.refused

pub returns-in-None-clause-refused : goal.returns-in-None-clause-refused
returns-in-None-clause-refused c =
    let C = view_context c.args.context.now in
    let B = view_body c.args.body.now in
    let E = source.view_expr c.args.e.now in
    let l =
    ap (λ (xs : List code_exception.TException). slice_get (map view_exception xs) c.in-Ok-Some.number) (sym c.deref.ensures.value)
    ∙ no_item (slice_get (map view_exception c.deref.result.now) c.in-Ok-Some.number) c.in-None.ensures in
    if_err c.raise_text-in-None.result _ _
    (λ f g m.
    text_fails C B E f.cause
    (none_there C B E c.args.name.now c.in-Ok-Some.number m (c.in-Ok-Some.ensures.found c.in-Ok-Some.number c.in-Ok-Some.field-0-is) l) g)
    c.raise_text-in-None.ensures.refused

pub returns-in-Some-clause-raises : goal.returns-in-Some-clause-raises
returns-in-Some-clause-raises c =
    let C = view_context c.args.context.now in
    let B = view_body c.args.body.now in
    let E = source.view_expr c.args.e.now in
    let x = item_of (slice_get (map view_exception c.deref.result.now) c.in-Ok-Some.number) (map view_ty c.in-Some.asked.now)
    c.in-Some.ensures in
    let l =
    ap (λ (xs : List code_exception.TException). slice_get (map view_exception xs) c.in-Ok-Some.number) (sym c.deref.ensures.value) ∙ x.1 in
    let names : NamesException C B c.args.name.now c.in-Ok-Some.number x.0 = record {
      is = c.in-Ok-Some.ensures.found c.in-Ok-Some.number
          c.in-Ok-Some.field-0-is;
      there = l;
    } in
    if_ok c.raise_exception.result _ _
    (λ s h m.
    raised_by C B E c.args.name.now c.in-Ok-Some.number x.0 (map view_ty c.in-Some.asked.now) (view_stmt s)
    (view_body c.raise_exception.new.body) m names x.2 h)
    c.raise_exception.ensures.raises

pub returns-in-Some-clause-refused : goal.returns-in-Some-clause-refused
returns-in-Some-clause-refused c =
    let C = view_context c.args.context.now in
    let B = view_body c.args.body.now in
    let E = source.view_expr c.args.e.now in
    let x = item_of (slice_get (map view_exception c.deref.result.now) c.in-Ok-Some.number) (map view_ty c.in-Some.asked.now)
    c.in-Some.ensures in
    let l =
    ap (λ (xs : List code_exception.TException). slice_get (map view_exception xs) c.in-Ok-Some.number) (sym c.deref.ensures.value) ∙ x.1 in
    let names : NamesException C B c.args.name.now c.in-Ok-Some.number x.0 = record {
      is = c.in-Ok-Some.ensures.found c.in-Ok-Some.number
          c.in-Ok-Some.field-0-is;
      there = l;
    } in
    if_err c.raise_exception.result _ _
    (λ f g m.
    exception_fails C B E f.cause c.args.name.now c.in-Ok-Some.number x.0 (map view_ty c.in-Some.asked.now) m names x.2 g)
    c.raise_exception.ensures.refused
