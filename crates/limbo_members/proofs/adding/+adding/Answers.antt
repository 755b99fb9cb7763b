use Rattle.std.proofs.Common.{rules, ◌≡◌, ◌∷◌, [], ◌+◌, ℕ, List, Some, length, map, take, sym, ap, subst, ◌∙◌}
use Rattle.std.specs.Prelude.{option_map, slice_get}
use Rattle.std.proofs.lemmas.List.{length-map}
use Rattle.limbo_tree.specs.Decls as decls
use Rattle.limbo_tree.specs.View as source
use Rattle.limbo_tree.specs.View.{names_of}
use Rattle.limbo_tree.proofs.Members.{view_member-Var, view_member-Function, view_member-Con, view_member-Type, view_member-Adt}
use Rattle.limbo_layout.specs.View.{view_def, view_variant}
use Rattle.limbo_adts.specs.Table.{defs_of}
use Rattle.limbo_scope.specs.declared.meaning.Meaning.TheVariants as meaning
use Rattle.limbo_scope.specs.Scopes.{Scope, declared}
use Rattle.limbo_causes.specs.Causes.{FailsBy}
use Rattle.limbo_context.specs.View.{view_context, view_body}
use Rattle.limbo_locals.specs.limbo_local.Members.{variants_in}
use Rattle.limbo_locals.specs.Anywhere.{at}
use Rattle.limbo_locals.proofs.Known.{if_ok}
use Rattle.limbo_locals.proofs.Rules.{by_rule}
use Rattle.limbo_members.specs.Adding.{view_given, AddsMember, FailsMember}
use Rattle.limbo_members.proofs.Shown.{shown_below, shown_on, shown_next, opened_shown}
use Rattle.limbo_members.proofs.Added.{Comes, from, comes_start, comes_more, comes_fail, comes_end, next_from, all_from, none_from}
use Rattle.limbo_members.proofs.Added.{members_fail, variants_fail, adt_adds, rows_stay, scopes_stay}
use Rattle.limbo_members.proofs.adding.+adding.Goals as goal

-- ---- an adt

pub add_adt-add_members-requires : goal.add_adt-add_members-requires
add_adt-add_members-requires t c = (
  search rules,
  opened_shown (at (view_context c.args.context.now) (view_body c.args.body.now) 0)
      (at (view_context c.open_adt.new.context) (view_body c.open_adt.new.body) 0) c.args.name.now.text (variants_in
      (option_map (λ vs. map source.view_variant vs.items) c.args.pick.now)) c.in-Ok.number (c.in-Ok.ensures.opened 0)
      c.in-Ok.ensures.number
      c.in-Ok.ensures.rows,
)

pub add_adt-returns-in-Err-add_members-clause-refused : goal.add_adt-returns-in-Err-add_members-clause-refused
add_adt-returns-in-Err-add_members-clause-refused t c =
    members_fail c.args.in_module c.args.name.now.text (source.view_members c.args.members.now)
    (option_map (λ vs. map source.view_variant vs.items) c.args.pick.now) (view_context c.args.context.now) (view_body c.args.body.now)
    c.in-Ok.number
    (view_context c.open_adt.new.context) (view_body c.open_adt.new.body) c.in-Ok.ensures.number c.in-Ok.ensures.opened
    c.in-Err-add_members.fault.cause c.in-Err-add_members.ensures.refused

pub add_adt-returns-in-Err-variants_of-clause-refused : goal.add_adt-returns-in-Err-variants_of-clause-refused
add_adt-returns-in-Err-variants_of-clause-refused t c =
    variants_fail c.args.in_module c.args.name.now.text (source.view_members c.args.members.now)
    (option_map (λ vs. map source.view_variant vs.items) c.args.pick.now) (view_context c.args.context.now) (view_body c.args.body.now)
    c.in-Ok.number
    (view_context c.open_adt.new.context) (view_body c.open_adt.new.body) c.in-Ok.ensures.number c.in-Ok.ensures.opened
    c.in-Err-variants_of.fault.cause (view_given c.in-Ok-add_members.inside) (view_context c.add_members.new.context) (view_body
    c.add_members.new.body)
    c.in-Ok-add_members.ensures.adds c.in-Err-variants_of.ensures.refused

pub add_adt-returns-in_ok-adt_given-in-Ok-variants_of-clause-adds : goal.add_adt-returns-in_ok-adt_given-in-Ok-variants_of-clause-adds
add_adt-returns-in_ok-adt_given-in-Ok-variants_of-clause-adds t c =
    adt_adds c.args.in_module c.args.name.now.text (source.view_members c.args.members.now)
    (option_map (λ vs. map source.view_variant vs.items) c.args.pick.now) (view_context c.args.context.now) (view_body c.args.body.now)
    c.in-Ok.number
    (view_context c.open_adt.new.context) (view_body c.open_adt.new.body) c.in-Ok.ensures.number c.in-Ok.ensures.opened
    (view_given c.in-Ok-add_members.inside) (view_given c.in_ok-adt_given-in-Ok-variants_of.field-0) (view_context
    c.add_members.new.context) (view_body c.add_members.new.body)
    (record { scopes = c.leave-left.new.self; variables = (view_body c.add_members.new.body).variables })
    (map view_variant c.in-Ok-variants_of.picks.items) c.in-Ok-add_members.ensures.adds c.in-Ok-variants_of.ensures.variants
    c.in_ok-adt_given-in-Ok-variants_of.ensures
    (λ n. ap (λ (ss : List Scope). at (view_context c.add_members.new.context) (record {
      scopes = ss;
      variables = (view_body
          c.add_members.new.body).variables;
    }) n) c.leave-left.ensures.left)

pub add_adt-returns-in_ok-adt_given-in-Ok-variants_of-clause-rows : goal.add_adt-returns-in_ok-adt_given-in-Ok-variants_of-clause-rows
add_adt-returns-in_ok-adt_given-in-Ok-variants_of-clause-rows t c =
    rows_stay c.args.in_module c.args.name.now.text (source.view_members c.args.members.now)
    (option_map (λ vs. map source.view_variant vs.items) c.args.pick.now) (view_context c.args.context.now) (view_body c.args.body.now)
    (view_given c.in_ok-adt_given-in-Ok-variants_of.field-0) (view_context c.add_members.new.context)
    (record { scopes = c.leave-left.new.self; variables = (view_body c.add_members.new.body).variables })
    (adt_adds c.args.in_module c.args.name.now.text (source.view_members c.args.members.now)
    (option_map (λ vs. map source.view_variant vs.items) c.args.pick.now) (view_context c.args.context.now) (view_body c.args.body.now)
    c.in-Ok.number
    (view_context c.open_adt.new.context) (view_body c.open_adt.new.body) c.in-Ok.ensures.number c.in-Ok.ensures.opened
    (view_given c.in-Ok-add_members.inside) (view_given c.in_ok-adt_given-in-Ok-variants_of.field-0) (view_context
    c.add_members.new.context) (view_body c.add_members.new.body)
    (record { scopes = c.leave-left.new.self; variables = (view_body c.add_members.new.body).variables })
    (map view_variant c.in-Ok-variants_of.picks.items) c.in-Ok-add_members.ensures.adds c.in-Ok-variants_of.ensures.variants
    c.in_ok-adt_given-in-Ok-variants_of.ensures
    (λ n. ap (λ (ss : List Scope). at (view_context c.add_members.new.context) (record {
      scopes = ss;
      variables = (view_body
          c.add_members.new.body).variables;
    }) n) c.leave-left.ensures.left)) c.depth-depth.ensures.never_none c.in-Ok.ensures.rows

pub add_adt-returns-in_ok-adt_given-in-Ok-variants_of-clause-scopes : goal.add_adt-returns-in_ok-adt_given-in-Ok-variants_of-clause-scopes
add_adt-returns-in_ok-adt_given-in-Ok-variants_of-clause-scopes t c =
    scopes_stay c.args.in_module c.args.name.now.text (source.view_members c.args.members.now)
    (option_map (λ vs. map source.view_variant vs.items) c.args.pick.now) (view_context c.args.context.now) (view_body c.args.body.now)
    (view_given c.in_ok-adt_given-in-Ok-variants_of.field-0) (view_context c.add_members.new.context)
    (record { scopes = c.leave-left.new.self; variables = (view_body c.add_members.new.body).variables })
    (adt_adds c.args.in_module c.args.name.now.text (source.view_members c.args.members.now)
    (option_map (λ vs. map source.view_variant vs.items) c.args.pick.now) (view_context c.args.context.now) (view_body c.args.body.now)
    c.in-Ok.number
    (view_context c.open_adt.new.context) (view_body c.open_adt.new.body) c.in-Ok.ensures.number c.in-Ok.ensures.opened
    (view_given c.in-Ok-add_members.inside) (view_given c.in_ok-adt_given-in-Ok-variants_of.field-0) (view_context
    c.add_members.new.context) (view_body c.add_members.new.body)
    (record { scopes = c.leave-left.new.self; variables = (view_body c.add_members.new.body).variables })
    (map view_variant c.in-Ok-variants_of.picks.items) c.in-Ok-add_members.ensures.adds c.in-Ok-variants_of.ensures.variants
    c.in_ok-adt_given-in-Ok-variants_of.ensures
    (λ n. ap (λ (ss : List Scope). at (view_context c.add_members.new.context) (record {
      scopes = ss;
      variables = (view_body
          c.add_members.new.body).variables;
    }) n) c.leave-left.ensures.left)) c.depth-depth.ensures.never_none c.in-Ok.ensures.rows

-- ---- an adt that stands in another

pub add_inner-returns-in-Ok-show_adt-clause-adds : goal.add_inner-returns-in-Ok-show_adt-clause-adds
add_inner-returns-in-Ok-show_adt-clause-adds t c = λ n.
    let number : c.in-Ok.number ≡ length c.defs.result.now = search rules in
    let place : c.in-Ok.number ≡ length (defs_of c.args.context.now.adts) =
    number ∙ ap length c.defs.ensures ∙ sym (length-map c.args.context.now.adts.adts view_def) in
    let shown : slice_get (view_context c.add_adt.new.context).members c.args.adt ≡ Some (take 1 c.args.body.now.scopes) =
    c.in-Ok-add_adt.ensures.rows c.args.adt (shown_below c.args.context.now.members.items c.args.adt (take 1 c.args.body.now.scopes)
    c.requires.shown) ∙ c.requires.shown in (
      at (view_context c.add_adt.new.context) (view_body c.add_adt.new.body) n,
      c.in-Ok-add_adt.ensures.adds n,
      shown_on c.args.adt (view_context c.add_adt.new.context) (view_body c.add_adt.new.body) c.show_adt.new.rows.items
          ((c.args.name.now.text, meaning.Adt c.in-Ok.number) ∷ []) c.args.body.now.scopes shown c.in-Ok-show_adt.ensures.shown
          (c.in-Ok-add_adt.ensures.scopes
          ∙ ap (λ (i : ℕ). declared c.args.name.now.text (meaning.Adt i) c.args.body.now.scopes) (sym place)) n,
    )

pub add_inner-returns-in-Ok-show_adt-clause-shown : goal.add_inner-returns-in-Ok-show_adt-clause-shown
add_inner-returns-in-Ok-show_adt-clause-shown t c =
    let number : c.in-Ok.number ≡ length c.defs.result.now = search rules in
    let place : c.in-Ok.number ≡ length (defs_of c.args.context.now.adts) =
    number ∙ ap length c.defs.ensures ∙ sym (length-map c.args.context.now.adts.adts view_def) in
    let shown : slice_get (view_context c.add_adt.new.context).members c.args.adt ≡ Some (take 1 c.args.body.now.scopes) =
    c.in-Ok-add_adt.ensures.rows c.args.adt (shown_below c.args.context.now.members.items c.args.adt (take 1 c.args.body.now.scopes)
    c.requires.shown) ∙ c.requires.shown in
    shown_next c.args.adt (view_context c.add_adt.new.context) (view_body c.add_adt.new.body) c.show_adt.new.rows.items
    ((c.args.name.now.text, meaning.Adt c.in-Ok.number) ∷ []) c.args.body.now.scopes shown c.in-Ok-show_adt.ensures.shown
    (c.in-Ok-add_adt.ensures.scopes
    ∙ ap (λ (i : ℕ). declared c.args.name.now.text (meaning.Adt i) c.args.body.now.scopes) (sym place))

-- ---- a member

pub add_member-returns-in-Var-clause-adds : goal.add_member-returns-in-Var-clause-adds
add_member-returns-in-Var-clause-adds t c =
    let same =
    ap (λ ns. decls.VarMember (names_of ns) (source.view_type c.deref-in-Var.result.now)) c.deref.ensures.value
    ∙ ap (λ u. decls.VarMember (names_of c.in-Var.names.items) (source.view_type u)) c.deref-in-Var.ensures
    ∙ sym (ap source.view_member c.in-Var.is ∙ view_member-Var c.in-Var.names c.in-Var.of c.in-Var.span) in
    if_ok c.add_fields.result (λ g h. subst (λ (x : decls.Member). AddsMember c.args.in_module c.args.adt x
    (view_context c.args.context.now) (view_body c.args.body.now) (view_given g) (view_context c.args.context.now) (view_body
    c.args.body.now)) same (h c.args.in_module c.args.adt c.requires.shown))
    c.add_fields.ensures.adds

pub add_member-returns-in-Function-clause-adds : goal.add_member-returns-in-Function-clause-adds
add_member-returns-in-Function-clause-adds t c =
    let same =
    ap (λ ns. decls.FnMember (names_of ns) (source.view_fn c.deref-in-Function-2.result.now)) c.deref-in-Function.ensures.value
    ∙ ap (λ u. decls.FnMember (names_of c.in-Function.names.items) (source.view_fn u)) c.deref-in-Function-2.ensures
    ∙ sym (ap source.view_member c.in-Function.is ∙ view_member-Function c.in-Function.names c.in-Function.of c.in-Function.span) in
    if_ok c.add_functions.result (λ g h. subst (λ (x : decls.Member). AddsMember c.args.in_module c.args.adt x
    (view_context c.args.context.now) (view_body c.args.body.now) (view_given g) (view_context c.args.context.now) (view_body
    c.args.body.now)) same (h c.args.adt c.requires.shown))
    c.add_functions.ensures.adds

pub add_member-returns-in-Function-clause-refused : goal.add_member-returns-in-Function-clause-refused
add_member-returns-in-Function-clause-refused t c =
    let same =
    ap (λ ns. decls.FnMember (names_of ns) (source.view_fn c.deref-in-Function-2.result.now)) c.deref-in-Function.ensures.value
    ∙ ap (λ u. decls.FnMember (names_of c.in-Function.names.items) (source.view_fn u)) c.deref-in-Function-2.ensures
    ∙ sym (ap source.view_member c.in-Function.is ∙ view_member-Function c.in-Function.names c.in-Function.of c.in-Function.span) in
    by_rule c.add_functions.result c.add_functions.ensures.refused (λ f h. subst (λ (x : decls.Member). FailsBy f (FailsMember
    c.args.in_module x (view_context c.args.context.now) (view_body c.args.body.now))) same h)

pub add_member-returns-in-Con-clause-adds : goal.add_member-returns-in-Con-clause-adds
add_member-returns-in-Con-clause-adds t c =
    let same =
    ap (λ ns. decls.ConMember (names_of ns) (source.view_expr c.deref-in-Con-2.result.now)) c.deref-in-Con.ensures.value
    ∙ ap (λ u. decls.ConMember (names_of c.in-Con.names.items) (source.view_expr u)) c.deref-in-Con-2.ensures
    ∙ sym (ap source.view_member c.in-Con.is ∙ view_member-Con c.in-Con.names c.in-Con.value c.in-Con.span) in
    if_ok c.add_shown_constants.result (λ g h. subst (λ (x : decls.Member). AddsMember c.args.in_module c.args.adt x
    (view_context c.args.context.now) (view_body c.args.body.now) (view_given g) (view_context c.add_shown_constants.new.context)
    (view_body c.add_shown_constants.new.body)) same (h c.args.in_module))
    c.add_shown_constants.ensures.adds

pub add_member-returns-in-Type-clause-adds : goal.add_member-returns-in-Type-clause-adds
add_member-returns-in-Type-clause-adds t c =
    let same =
    ap (λ ns. decls.TypeMember (names_of ns) (source.view_type c.deref-in-Type-2.result.now)) c.deref-in-Type.ensures.value
    ∙ ap (λ u. decls.TypeMember (names_of c.in-Type.names.items) (source.view_type u)) c.deref-in-Type-2.ensures
    ∙ sym (ap source.view_member c.in-Type.is ∙ view_member-Type c.in-Type.names c.in-Type.of c.in-Type.span) in
    if_ok c.add_shown_types.result (λ g h. subst (λ (x : decls.Member). AddsMember c.args.in_module c.args.adt x
    (view_context c.args.context.now) (view_body c.args.body.now) (view_given g) (view_context c.add_shown_types.new.context) (view_body
    c.add_shown_types.new.body)) same (h c.args.in_module))
    c.add_shown_types.ensures.adds

pub add_member-returns-in-Adt-clause-adds : goal.add_member-returns-in-Adt-clause-adds
add_member-returns-in-Adt-clause-adds t c =
    let same =
    ap (λ ms. decls.AdtMember c.in-Adt.name.text (source.view_members ms) (option_map (λ vs. map source.view_variant vs.items)
    c.in-Adt.pick)) c.deref-in-Adt.ensures.value
    ∙ sym (ap source.view_member c.in-Adt.is ∙ view_member-Adt c.in-Adt.name c.in-Adt.members c.in-Adt.pick c.in-Adt.span) in
    if_ok c.add_inner.result (λ g h. subst (λ (x : decls.Member). AddsMember c.args.in_module c.args.adt x
    (view_context c.args.context.now) (view_body c.args.body.now) (view_given g) (view_context c.add_inner.new.context) (view_body
    c.add_inner.new.body)) same (h))
    c.add_inner.ensures.adds

pub add_member-returns-in-Adt-clause-refused : goal.add_member-returns-in-Adt-clause-refused
add_member-returns-in-Adt-clause-refused t c =
    let same =
    ap (λ ms. decls.AdtMember c.in-Adt.name.text (source.view_members ms) (option_map (λ vs. map source.view_variant vs.items)
    c.in-Adt.pick)) c.deref-in-Adt.ensures.value
    ∙ sym (ap source.view_member c.in-Adt.is ∙ view_member-Adt c.in-Adt.name c.in-Adt.members c.in-Adt.pick c.in-Adt.span) in
    by_rule c.add_inner.result c.add_inner.ensures.refused (λ f h. subst (λ (x : decls.Member). FailsBy f (FailsMember
    c.args.in_module x (view_context c.args.context.now) (view_body c.args.body.now))) same h)

-- ---- members

pub add_members-loop-member-init : goal.add_members-loop-member-init
add_members-loop-member-init t c =
    subst (λ ms. Comes c.args.in_module c.args.adt (view_context c.args.context.now) (view_body c.args.body.now)
    (source.view_members c.args.members.now) (view_context c.args.context.now) (view_body c.args.body.now) ms (view_given
    c.nothing_given-given.result))
    (all_from c.args.members.now)
    (comes_start c.args.in_module c.args.adt (view_context c.args.context.now) (view_body c.args.body.now)
    (source.view_members c.args.members.now) (view_given c.nothing_given-given.result) c.nothing_given-given.ensures c.requires.shown)

pub add_members-loop-member-preserved : goal.add_members-loop-member-preserved
add_members-loop-member-preserved t c =
    comes_more c.args.in_module c.args.adt (view_context c.args.context.now) (view_body c.args.body.now)
    (source.view_members c.args.members.now) (view_context c.loop-member.context) (view_body c.loop-member.body) (source.view_member
    c.member-item.result)
    (from (c.loop-member.member-index + 1) c.args.members.now) (view_given c.loop-member.given) (view_given c.in-Ok.more)
    (view_context c.add_member.new.context) (view_body c.add_member.new.body) (view_given c.give_more.new.given)
    (subst (λ ms. Comes c.args.in_module c.args.adt (view_context c.args.context.now) (view_body c.args.body.now)
    (source.view_members c.args.members.now) (view_context c.loop-member.context) (view_body c.loop-member.body) ms (view_given
    c.loop-member.given))
    (next_from c.args.members.now c.loop-member.member-index c.member-item.result c.loop-member-test.true c.member-item.is)
    c.loop-member.invariant)
    c.in-Ok.ensures.adds c.in-Ok.ensures.shown c.in_ok-give_more-in-Ok.ensures

pub add_members-returns-in-Err-clause-refused : goal.add_members-returns-in-Err-clause-refused
add_members-returns-in-Err-clause-refused t c =
    comes_fail c.args.in_module c.args.adt (view_context c.args.context.now) (view_body c.args.body.now)
    (source.view_members c.args.members.now) (view_context c.loop-member.context) (view_body c.loop-member.body) (source.view_member
    c.member-item.result)
    (from (c.loop-member.member-index + 1) c.args.members.now) (view_given c.loop-member.given) c.in-Err.fault.cause
    (subst (λ ms. Comes c.args.in_module c.args.adt (view_context c.args.context.now) (view_body c.args.body.now)
    (source.view_members c.args.members.now) (view_context c.loop-member.context) (view_body c.loop-member.body) ms (view_given
    c.loop-member.given))
    (next_from c.args.members.now c.loop-member.member-index c.member-item.result c.loop-member-test.true c.member-item.is)
    c.loop-member.invariant)
    c.in-Err.ensures.refused

pub add_members-returns-clause-adds : goal.add_members-returns-clause-adds
add_members-returns-clause-adds t c =
    comes_end c.args.in_module c.args.adt (view_context c.args.context.now) (view_body c.args.body.now)
    (source.view_members c.args.members.now) (view_context c.loop-member.context) (view_body c.loop-member.body) (view_given
    c.loop-member.given)
    (subst (λ ms. Comes c.args.in_module c.args.adt (view_context c.args.context.now) (view_body c.args.body.now)
    (source.view_members c.args.members.now) (view_context c.loop-member.context) (view_body c.loop-member.body) ms (view_given
    c.loop-member.given))
    (none_from c.args.members.now c.loop-member.member-index c.loop-member-test.false) c.loop-member.invariant)
