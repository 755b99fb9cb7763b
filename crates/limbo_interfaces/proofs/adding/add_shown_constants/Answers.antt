use Rattle.std.proofs.Common.{rules, ◌≡◌, ℕ, length, ap, ◌∙◌}
use Rattle.limbo_tree.specs.View.{view_expr, names_of}
use Rattle.limbo_scope.specs.Laws.{declared_all}
use Rattle.limbo_scope.specs.declared.meaning.Meaning.TheVariants as meaning
use Rattle.limbo_context.specs.View.{view_context, view_body}
use Rattle.limbo_locals.specs.limbo_local.Points.{meaning_from}
use Rattle.limbo_members.proofs.Untouched.{on_one}
use Rattle.limbo_interfaces.proofs.Added.{constants_fail, constants_leave, below, constants_add, still_begun}
use Rattle.limbo_interfaces.proofs.adding.add_shown_constants.Goals as goal

pub returns-in-Err-clause-refused : goal.returns-in-Err-clause-refused
returns-in-Err-clause-refused c =
    constants_fail c.args.interface (view_context c.args.context.now) (view_body c.args.body.now) (names_of c.args.names.now) (view_expr
    c.args.e.now)
    c.in-Err.fault.cause c.in-Err.ensures.refused

pub show_names-requires : goal.show_names-requires
show_names-requires c =
    let same = constants_leave (view_context c.args.context.now) (view_body c.args.body.now) (view_context c.add_constants.new.context)
    (view_body c.add_constants.new.body) (names_of c.args.names.now) (view_expr c.args.e.now) c.in-Ok.ensures.adds in
    record {
      there =
          below c.args.interface (view_context c.args.context.now) (view_body c.args.body.now) (view_context c.add_constants.new.context)
          (view_body c.add_constants.new.body) c.requires.begun same;
    }

pub returns-in-Ok-clause-adds : goal.returns-in-Ok-clause-adds
returns-in-Ok-clause-adds c =
    let first : length c.args.context.now.constants.items ≡ c.len-first.result = search rules in
    let same = constants_leave (view_context c.args.context.now) (view_body c.args.body.now) (view_context c.add_constants.new.context)
    (view_body c.add_constants.new.body) (names_of c.args.names.now) (view_expr c.args.e.now) c.in-Ok.ensures.adds in
    on_one c.show_names.result (λ is. constants_add c.args.interface (view_context c.args.context.now) (view_body c.args.body.now)
    (view_context c.add_constants.new.context) (view_body c.add_constants.new.body)
    c.requires.begun same (meaning_from meaning.Constant c.len-first.result (names_of c.args.names.now)) c.show_names.new.rows.items is
    (c.in-Ok.ensures.scopes ∙ ap (λ (i : ℕ). declared_all (meaning_from meaning.Constant i (names_of c.args.names.now))
    c.args.body.now.scopes) first)
    (names_of c.args.names.now) (view_expr c.args.e.now) c.in-Ok.ensures.adds) c.show_names.ensures.shown

pub returns-in-Ok-clause-begun : goal.returns-in-Ok-clause-begun
returns-in-Ok-clause-begun c =
    let first : length c.args.context.now.constants.items ≡ c.len-first.result = search rules in
    let same = constants_leave (view_context c.args.context.now) (view_body c.args.body.now) (view_context c.add_constants.new.context)
    (view_body c.add_constants.new.body) (names_of c.args.names.now) (view_expr c.args.e.now) c.in-Ok.ensures.adds in
    on_one c.show_names.result (λ is. still_begun c.args.interface (view_context c.args.context.now) (view_body c.args.body.now)
    (view_context c.add_constants.new.context) (view_body
    c.add_constants.new.body) c.requires.begun same (meaning_from meaning.Constant c.len-first.result (names_of c.args.names.now))
    c.show_names.new.rows.items is
    (c.in-Ok.ensures.scopes ∙ ap (λ (i : ℕ). declared_all (meaning_from meaning.Constant i (names_of c.args.names.now))
    c.args.body.now.scopes) first)) c.show_names.ensures.shown
