use Rattle.std.proofs.Common.{rules, ◌≡◌, ℕ, length, ap, ◌∙◌, Some, List, take}
use Rattle.std.specs.Prelude.{slice_get}
use Rattle.limbo_tree.specs.View.{view_expr, names_of}
use Rattle.limbo_scope.specs.Scopes.{Scope}
use Rattle.limbo_scope.specs.Laws.{declared_all}
use Rattle.limbo_scope.specs.declared.meaning.Meaning.TheVariants as meaning
use Rattle.limbo_context.specs.View.{view_context, view_body}
use Rattle.limbo_locals.specs.limbo_local.Points.{meaning_from}
use Rattle.limbo_locals.specs.Anywhere.{at}
use Rattle.limbo_members.proofs.Added.{constants_fail}
use Rattle.limbo_members.proofs.Shown.{shown_on, shown_next}
use Rattle.limbo_members.proofs.adding.add_shown_constants.Goals as goal

pub returns-in-Err-clause-refused : goal.returns-in-Err-clause-refused
returns-in-Err-clause-refused c =
    constants_fail (view_context c.args.context.now) (view_body c.args.body.now) (names_of c.args.names.now) (view_expr c.args.e.now)
    c.in-Err.fault.cause c.in-Err.ensures.refused

pub returns-in-Ok-show_names-clause-adds : goal.returns-in-Ok-show_names-clause-adds
returns-in-Ok-show_names-clause-adds c = λ m n.
    let first : length c.args.context.now.constants.items ≡ c.len-first.result = search rules in
    let shown : slice_get (view_context c.add_constants.new.context).members c.args.adt ≡ Some (take 1 c.args.body.now.scopes) =
    ap (λ (rows : List (List Scope)). slice_get rows c.args.adt) c.in-Ok.ensures.rows ∙ c.requires.shown in
    let w = c.in-Ok.ensures.adds n in (
      at (view_context c.add_constants.new.context) (view_body c.add_constants.new.body) n,
      (w.0, w.1, w.2, c.nothing_given.ensures, w.3),
      shown_on c.args.adt (view_context c.add_constants.new.context) (view_body c.add_constants.new.body) c.show_names.new.rows.items
          (meaning_from meaning.Constant c.len-first.result (names_of c.args.names.now)) c.args.body.now.scopes shown
          c.in-Ok-show_names.ensures.shown
          (c.in-Ok.ensures.scopes ∙ ap (λ (i : ℕ). declared_all (meaning_from meaning.Constant i (names_of c.args.names.now))
          c.args.body.now.scopes) first) n,
    )

pub returns-in-Ok-show_names-clause-shown : goal.returns-in-Ok-show_names-clause-shown
returns-in-Ok-show_names-clause-shown c =
    let first : length c.args.context.now.constants.items ≡ c.len-first.result = search rules in
    let shown : slice_get (view_context c.add_constants.new.context).members c.args.adt ≡ Some (take 1 c.args.body.now.scopes) =
    ap (λ (rows : List (List Scope)). slice_get rows c.args.adt) c.in-Ok.ensures.rows ∙ c.requires.shown in
    shown_next c.args.adt (view_context c.add_constants.new.context) (view_body c.add_constants.new.body) c.show_names.new.rows.items
    (meaning_from meaning.Constant c.len-first.result (names_of c.args.names.now)) c.args.body.now.scopes shown
    c.in-Ok-show_names.ensures.shown
    (c.in-Ok.ensures.scopes ∙ ap (λ (i : ℕ). declared_all (meaning_from meaning.Constant i (names_of c.args.names.now))
    c.args.body.now.scopes) first)
