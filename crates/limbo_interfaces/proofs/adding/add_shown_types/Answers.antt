use Rattle.std.proofs.Common.{rules, ◌≡◌, ℕ, length, ap, ◌∙◌}
use Rattle.std.proofs.lemmas.List.{length-map}
use Rattle.limbo_types.specs.View.{view_ty}
use Rattle.limbo_tree.specs.View.{view_type, names_of}
use Rattle.limbo_scope.specs.Laws.{declared_all}
use Rattle.limbo_scope.specs.declared.meaning.Meaning.TheVariants as meaning
use Rattle.limbo_context.specs.View.{view_context, view_body}
use Rattle.limbo_locals.specs.limbo_local.Points.{Point, meaning_from}
use Rattle.limbo_members.proofs.Untouched.{on_one}
use Rattle.limbo_interfaces.proofs.Added.{types_fail, types_leave, below, types_add, still_begun}
use Rattle.limbo_interfaces.proofs.adding.add_shown_types.Goals as goal

pub returns-in-Err-clause-refused : goal.returns-in-Err-clause-refused
returns-in-Err-clause-refused c =
    types_fail c.args.interface (view_context c.args.context.now) (view_body c.args.body.now) (names_of c.args.names.now) (view_type
    c.args.of.now)
    c.in-Err.fault.cause c.in-Err.ensures.refused

pub show_names-requires : goal.show_names-requires
show_names-requires c =
    let same = types_leave (view_context c.args.context.now) (view_body c.args.body.now) (view_context c.add_types.new.context)
    (view_body c.add_types.new.body) (names_of c.args.names.now) (view_type c.args.of.now) c.in-Ok.ensures.adds in
    record {
      there =
          below c.args.interface (view_context c.args.context.now) (view_body c.args.body.now) (view_context c.add_types.new.context)
          (view_body c.add_types.new.body) c.requires.begun same;
    }

pub returns-in-Ok-clause-adds : goal.returns-in-Ok-clause-adds
returns-in-Ok-clause-adds c =
    let first : length c.args.context.now.types.items ≡ c.len-first.result = search rules in
    let same = types_leave (view_context c.args.context.now) (view_body c.args.body.now) (view_context c.add_types.new.context)
    (view_body c.add_types.new.body) (names_of c.args.names.now) (view_type c.args.of.now) c.in-Ok.ensures.adds in
    on_one c.show_names.result (λ is. types_add c.args.interface (view_context c.args.context.now) (view_body c.args.body.now)
    (view_context c.add_types.new.context) (view_body c.add_types.new.body)
    c.requires.begun same (meaning_from meaning.Type c.len-first.result (names_of c.args.names.now)) c.show_names.new.rows.items is
    (ap (λ (p : Point). p.body.scopes) (c.in-Ok.ensures.adds.2 0) ∙ ap (λ (i : ℕ). declared_all (meaning_from meaning.Type i
    (names_of c.args.names.now)) c.args.body.now.scopes) (length-map c.args.context.now.types.items view_ty ∙ first))
    (names_of c.args.names.now) (view_type c.args.of.now) c.in-Ok.ensures.adds) c.show_names.ensures.shown

pub returns-in-Ok-clause-begun : goal.returns-in-Ok-clause-begun
returns-in-Ok-clause-begun c =
    let first : length c.args.context.now.types.items ≡ c.len-first.result = search rules in
    let same = types_leave (view_context c.args.context.now) (view_body c.args.body.now) (view_context c.add_types.new.context)
    (view_body c.add_types.new.body) (names_of c.args.names.now) (view_type c.args.of.now) c.in-Ok.ensures.adds in
    on_one c.show_names.result (λ is. still_begun c.args.interface (view_context c.args.context.now) (view_body c.args.body.now)
    (view_context c.add_types.new.context) (view_body
    c.add_types.new.body) c.requires.begun same (meaning_from meaning.Type c.len-first.result (names_of c.args.names.now))
    c.show_names.new.rows.items is
    (ap (λ (p : Point). p.body.scopes) (c.in-Ok.ensures.adds.2 0) ∙ ap (λ (i : ℕ). declared_all (meaning_from meaning.Type i
    (names_of c.args.names.now)) c.args.body.now.scopes) (length-map c.args.context.now.types.items view_ty ∙ first)))
    c.show_names.ensures.shown
