use Rattle.std.proofs.Common.{rules, ◌≡◌, ℕ, length, ap, ◌∙◌, take}
use Rattle.std.specs.Prelude.{slice_get}
use Rattle.std.proofs.lemmas.List.{length-map}
use Rattle.limbo_tree.specs.View.{view_type, names_of}
use Rattle.limbo_types.specs.View.{view_ty}
use Rattle.limbo_scope.specs.Laws.{declared_all}
use Rattle.limbo_scope.specs.declared.meaning.Meaning.TheVariants as meaning
use Rattle.limbo_context.specs.View.{view_context, view_body}
use Rattle.limbo_locals.specs.limbo_local.Points.{Point, meaning_from}
use Rattle.limbo_locals.specs.Anywhere.{at}
use Rattle.limbo_members.proofs.Added.{types_fail}
use Rattle.limbo_members.proofs.Shown.{shown_on, shown_next, shown_below}
use Rattle.limbo_members.proofs.adding.add_shown_types.Goals as goal

pub show_names-requires : goal.show_names-requires
show_names-requires c = record {
  there =
      shown_below c.add_types.new.context.members.items c.args.adt (take 1 c.args.body.now.scopes)
      (ap (λ (p : Point). slice_get p.context.members c.args.adt) (c.in-Ok.ensures.adds.2 0) ∙ c.requires.shown);
}

pub returns-in-Err-clause-refused : goal.returns-in-Err-clause-refused
returns-in-Err-clause-refused c =
    types_fail (view_context c.args.context.now) (view_body c.args.body.now) (names_of c.args.names.now) (view_type c.args.of.now)
    c.in-Err.fault.cause c.in-Err.ensures.refused

pub returns-in-Ok-show_names-clause-adds : goal.returns-in-Ok-show_names-clause-adds
returns-in-Ok-show_names-clause-adds c = λ m n.
    let first : length c.args.context.now.types.items ≡ c.len-first.result = search rules in
    let w = c.in-Ok.ensures.adds in (
      at (view_context c.add_types.new.context) (view_body c.add_types.new.body) n,
      (w.0, w.1, c.nothing_given.ensures, w.2 n),
      shown_on c.args.adt (view_context c.add_types.new.context) (view_body c.add_types.new.body) c.show_names.new.rows.items
          (meaning_from meaning.Type c.len-first.result (names_of c.args.names.now)) c.args.body.now.scopes
          (ap (λ (p : Point). slice_get p.context.members c.args.adt) (w.2 0) ∙ c.requires.shown) c.in-Ok-show_names.ensures.shown
          (ap (λ (p : Point). p.body.scopes) (w.2 0) ∙ ap (λ (i : ℕ). declared_all (meaning_from meaning.Type i (names_of
          c.args.names.now)) c.args.body.now.scopes) (length-map c.args.context.now.types.items view_ty ∙ first)) n,
    )

pub returns-in-Ok-show_names-clause-shown : goal.returns-in-Ok-show_names-clause-shown
returns-in-Ok-show_names-clause-shown c =
    let first : length c.args.context.now.types.items ≡ c.len-first.result = search rules in
    let w = c.in-Ok.ensures.adds in
    shown_next c.args.adt (view_context c.add_types.new.context) (view_body c.add_types.new.body) c.show_names.new.rows.items
    (meaning_from meaning.Type c.len-first.result (names_of c.args.names.now)) c.args.body.now.scopes
    (ap (λ (p : Point). slice_get p.context.members c.args.adt) (w.2 0) ∙ c.requires.shown) c.in-Ok-show_names.ensures.shown
    (ap (λ (p : Point). p.body.scopes) (w.2 0) ∙ ap (λ (i : ℕ). declared_all (meaning_from meaning.Type i (names_of
    c.args.names.now)) c.args.body.now.scopes) (length-map c.args.context.now.types.items view_ty ∙ first))
