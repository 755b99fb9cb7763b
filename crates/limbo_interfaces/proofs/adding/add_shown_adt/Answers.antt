use Rattle.std.proofs.Common.{rules, ◌≡◌, ◌∷◌, [], ℕ, length, map, sym, ap, ◌∙◌}
use Rattle.std.specs.Prelude.{option_map}
use Rattle.std.proofs.lemmas.List.{length-map}
use Rattle.limbo_tree.specs.View as source
use Rattle.limbo_layout.specs.View.{view_def}
use Rattle.limbo_adts.specs.Table.{defs_of}
use Rattle.limbo_scope.specs.Scopes.{declared}
use Rattle.limbo_scope.specs.declared.meaning.Meaning.TheVariants as meaning
use Rattle.limbo_context.specs.View.{view_context, view_body}
use Rattle.limbo_members.proofs.Untouched.{on_one}
use Rattle.limbo_interfaces.proofs.Added.{adt_fails, below, adt_adds, still_begun}
use Rattle.limbo_interfaces.proofs.adding.add_shown_adt.Goals as goal

pub returns-in-Err-clause-refused : goal.returns-in-Err-clause-refused
returns-in-Err-clause-refused c =
    adt_fails c.args.interface (view_context c.args.context.now) (view_body c.args.body.now) c.args.name.now.text (source.view_members
    c.args.members.now)
    (option_map (λ vs. map source.view_variant vs.items) c.args.pick.now) c.in-Err.fault.cause c.in-Err.ensures.refused

pub show_adt-requires : goal.show_adt-requires
show_adt-requires c = record {
  there =
      below c.args.interface (view_context c.args.context.now) (view_body c.args.body.now) (view_context c.whole_adt.new.context)
      (view_body c.whole_adt.new.body) c.requires.begun
      (record { exports = c.in-Ok-whole_adt.ensures.exports; interfaces = c.in-Ok-whole_adt.ensures.interfaces });
}

pub returns-in-Ok-whole_adt-clause-adds : goal.returns-in-Ok-whole_adt-clause-adds
returns-in-Ok-whole_adt-clause-adds c =
    let number : c.in-Ok.number ≡ length c.defs.result.now = search rules in
    let place : c.in-Ok.number ≡ length (defs_of c.args.context.now.adts) =
    number ∙ ap length c.defs.ensures ∙ sym (length-map c.args.context.now.adts.adts view_def) in
    on_one c.show_adt.result (λ is. adt_adds c.args.interface (view_context c.args.context.now) (view_body c.args.body.now) (view_context
    c.whole_adt.new.context) (view_body c.whole_adt.new.body) c.requires.begun
    (record { exports = c.in-Ok-whole_adt.ensures.exports; interfaces = c.in-Ok-whole_adt.ensures.interfaces })
    ((c.args.name.now.text, meaning.Adt c.in-Ok.number) ∷ []) c.show_adt.new.rows.items is
    (c.in-Ok-whole_adt.ensures.scopes
    ∙ ap (λ (j : ℕ). declared c.args.name.now.text (meaning.Adt j) c.args.body.now.scopes) (sym place))
    c.args.name.now.text (source.view_members c.args.members.now) (option_map (λ vs. map source.view_variant vs.items) c.args.pick.now)
    c.in-Ok-whole_adt.ensures.is) c.show_adt.ensures.shown

pub returns-in-Ok-whole_adt-clause-begun : goal.returns-in-Ok-whole_adt-clause-begun
returns-in-Ok-whole_adt-clause-begun c =
    let number : c.in-Ok.number ≡ length c.defs.result.now = search rules in
    let place : c.in-Ok.number ≡ length (defs_of c.args.context.now.adts) =
    number ∙ ap length c.defs.ensures ∙ sym (length-map c.args.context.now.adts.adts view_def) in
    on_one c.show_adt.result (λ is. still_begun c.args.interface (view_context c.args.context.now) (view_body c.args.body.now)
    (view_context c.whole_adt.new.context) (view_body c.whole_adt.new.body) c.requires.begun
    (record { exports = c.in-Ok-whole_adt.ensures.exports; interfaces = c.in-Ok-whole_adt.ensures.interfaces })
    ((c.args.name.now.text, meaning.Adt c.in-Ok.number) ∷ []) c.show_adt.new.rows.items is
    (c.in-Ok-whole_adt.ensures.scopes
    ∙ ap (λ (j : ℕ). declared c.args.name.now.text (meaning.Adt j) c.args.body.now.scopes) (sym place))) c.show_adt.ensures.shown
