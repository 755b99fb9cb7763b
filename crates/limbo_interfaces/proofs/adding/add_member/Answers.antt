use Rattle.std.proofs.Common.{map, sym, ap, subst, ◌∙◌}
use Rattle.std.specs.Prelude.{option_map}
use Rattle.limbo_tree.specs.Decls as decls
use Rattle.limbo_tree.specs.View as source
use Rattle.limbo_tree.specs.View.{names_of}
use Rattle.limbo_tree.proofs.Members.{view_member-Var, view_member-Function, view_member-Con, view_member-Type, view_member-Adt}
use Rattle.limbo_causes.specs.Causes.{FailsBy}
use Rattle.limbo_context.specs.View.{view_context, view_body}
use Rattle.limbo_locals.proofs.Rules.{by_rule}
use Rattle.limbo_members.proofs.Untouched.{on_one}
use Rattle.limbo_interfaces.specs.Modules.{AddsMember, FailsMember}
use Rattle.limbo_interfaces.proofs.adding.add_member.Goals as goal

pub returns-in-Var-clause-adds : goal.returns-in-Var-clause-adds
returns-in-Var-clause-adds c =
    let same =
    ap (λ ns. decls.VarMember (names_of ns) (source.view_type c.deref-in-Var.result.now)) c.deref.ensures.value
    ∙ ap (λ u. decls.VarMember (names_of c.in-Var.names.items) (source.view_type u)) c.deref-in-Var.ensures
    ∙ sym (ap source.view_member c.in-Var.is ∙ view_member-Var c.in-Var.names c.in-Var.of c.in-Var.span) in
    on_one c.add_variables.result (λ h. subst (λ (x : decls.Member). AddsMember c.args.interface x (view_context c.args.context.now)
    (view_body c.args.body.now)
    (view_context c.args.context.now) (view_body c.args.body.now)) same h) c.add_variables.ensures.adds

pub returns-in-Var-clause-refused : goal.returns-in-Var-clause-refused
returns-in-Var-clause-refused c =
    let same =
    ap (λ ns. decls.VarMember (names_of ns) (source.view_type c.deref-in-Var.result.now)) c.deref.ensures.value
    ∙ ap (λ u. decls.VarMember (names_of c.in-Var.names.items) (source.view_type u)) c.deref-in-Var.ensures
    ∙ sym (ap source.view_member c.in-Var.is ∙ view_member-Var c.in-Var.names c.in-Var.of c.in-Var.span) in
    by_rule c.add_variables.result c.add_variables.ensures.refused (λ f h. subst (λ (x : decls.Member). FailsBy f (FailsMember
    c.args.interface x
    (view_context c.args.context.now) (view_body c.args.body.now))) same h)

pub returns-in-Function-clause-adds : goal.returns-in-Function-clause-adds
returns-in-Function-clause-adds c =
    let same =
    ap (λ ns. decls.FnMember (names_of ns) (source.view_fn c.deref-in-Function-2.result.now)) c.deref-in-Function.ensures.value
    ∙ ap (λ u. decls.FnMember (names_of c.in-Function.names.items) (source.view_fn u)) c.deref-in-Function-2.ensures
    ∙ sym (ap source.view_member c.in-Function.is ∙ view_member-Function c.in-Function.names c.in-Function.of c.in-Function.span) in
    on_one c.add_functions.result (λ h. subst (λ (x : decls.Member). AddsMember c.args.interface x (view_context c.args.context.now)
    (view_body c.args.body.now)
    (view_context c.add_functions.new.context) (view_body
    c.add_functions.new.body)) same h) c.add_functions.ensures.adds

pub returns-in-Function-clause-refused : goal.returns-in-Function-clause-refused
returns-in-Function-clause-refused c =
    let same =
    ap (λ ns. decls.FnMember (names_of ns) (source.view_fn c.deref-in-Function-2.result.now)) c.deref-in-Function.ensures.value
    ∙ ap (λ u. decls.FnMember (names_of c.in-Function.names.items) (source.view_fn u)) c.deref-in-Function-2.ensures
    ∙ sym (ap source.view_member c.in-Function.is ∙ view_member-Function c.in-Function.names c.in-Function.of c.in-Function.span) in
    by_rule c.add_functions.result c.add_functions.ensures.refused (λ f h. subst (λ (x : decls.Member). FailsBy f (FailsMember
    c.args.interface x
    (view_context c.args.context.now) (view_body c.args.body.now))) same h)

pub returns-in-Con-clause-adds : goal.returns-in-Con-clause-adds
returns-in-Con-clause-adds c =
    let same =
    ap (λ ns. decls.ConMember (names_of ns) (source.view_expr c.deref-in-Con-2.result.now)) c.deref-in-Con.ensures.value
    ∙ ap (λ u. decls.ConMember (names_of c.in-Con.names.items) (source.view_expr u)) c.deref-in-Con-2.ensures
    ∙ sym (ap source.view_member c.in-Con.is ∙ view_member-Con c.in-Con.names c.in-Con.value c.in-Con.span) in
    on_one c.add_shown_constants.result (λ h. subst (λ (x : decls.Member). AddsMember c.args.interface x (view_context
    c.args.context.now) (view_body c.args.body.now)
    (view_context c.add_shown_constants.new.context) (view_body
    c.add_shown_constants.new.body)) same h) c.add_shown_constants.ensures.adds

pub returns-in-Con-clause-refused : goal.returns-in-Con-clause-refused
returns-in-Con-clause-refused c =
    let same =
    ap (λ ns. decls.ConMember (names_of ns) (source.view_expr c.deref-in-Con-2.result.now)) c.deref-in-Con.ensures.value
    ∙ ap (λ u. decls.ConMember (names_of c.in-Con.names.items) (source.view_expr u)) c.deref-in-Con-2.ensures
    ∙ sym (ap source.view_member c.in-Con.is ∙ view_member-Con c.in-Con.names c.in-Con.value c.in-Con.span) in
    by_rule c.add_shown_constants.result c.add_shown_constants.ensures.refused (λ f h. subst (λ (x : decls.Member). FailsBy f
    (FailsMember c.args.interface x
    (view_context c.args.context.now) (view_body c.args.body.now))) same h)

pub returns-in-Type-clause-adds : goal.returns-in-Type-clause-adds
returns-in-Type-clause-adds c =
    let same =
    ap (λ ns. decls.TypeMember (names_of ns) (source.view_type c.deref-in-Type-2.result.now)) c.deref-in-Type.ensures.value
    ∙ ap (λ u. decls.TypeMember (names_of c.in-Type.names.items) (source.view_type u)) c.deref-in-Type-2.ensures
    ∙ sym (ap source.view_member c.in-Type.is ∙ view_member-Type c.in-Type.names c.in-Type.of c.in-Type.span) in
    on_one c.add_shown_types.result (λ h. subst (λ (x : decls.Member). AddsMember c.args.interface x (view_context c.args.context.now)
    (view_body c.args.body.now)
    (view_context c.add_shown_types.new.context) (view_body
    c.add_shown_types.new.body)) same h) c.add_shown_types.ensures.adds

pub returns-in-Type-clause-refused : goal.returns-in-Type-clause-refused
returns-in-Type-clause-refused c =
    let same =
    ap (λ ns. decls.TypeMember (names_of ns) (source.view_type c.deref-in-Type-2.result.now)) c.deref-in-Type.ensures.value
    ∙ ap (λ u. decls.TypeMember (names_of c.in-Type.names.items) (source.view_type u)) c.deref-in-Type-2.ensures
    ∙ sym (ap source.view_member c.in-Type.is ∙ view_member-Type c.in-Type.names c.in-Type.of c.in-Type.span) in
    by_rule c.add_shown_types.result c.add_shown_types.ensures.refused (λ f h. subst (λ (x : decls.Member). FailsBy f (FailsMember
    c.args.interface x
    (view_context c.args.context.now) (view_body c.args.body.now))) same h)

pub returns-in-Adt-clause-adds : goal.returns-in-Adt-clause-adds
returns-in-Adt-clause-adds c =
    let same =
    ap (λ ms. decls.AdtMember c.in-Adt.name.text (source.view_members ms) (option_map (λ vs. map source.view_variant vs.items)
    c.in-Adt.pick)) c.deref-in-Adt.ensures.value
    ∙ sym (ap source.view_member c.in-Adt.is ∙ view_member-Adt c.in-Adt.name c.in-Adt.members c.in-Adt.pick c.in-Adt.span) in
    on_one c.add_shown_adt.result (λ h. subst (λ (x : decls.Member). AddsMember c.args.interface x (view_context c.args.context.now)
    (view_body c.args.body.now)
    (view_context c.add_shown_adt.new.context) (view_body
    c.add_shown_adt.new.body)) same h) c.add_shown_adt.ensures.adds

pub returns-in-Adt-clause-refused : goal.returns-in-Adt-clause-refused
returns-in-Adt-clause-refused c =
    let same =
    ap (λ ms. decls.AdtMember c.in-Adt.name.text (source.view_members ms) (option_map (λ vs. map source.view_variant vs.items)
    c.in-Adt.pick)) c.deref-in-Adt.ensures.value
    ∙ sym (ap source.view_member c.in-Adt.is ∙ view_member-Adt c.in-Adt.name c.in-Adt.members c.in-Adt.pick c.in-Adt.span) in
    by_rule c.add_shown_adt.result c.add_shown_adt.ensures.refused (λ f h. subst (λ (x : decls.Member). FailsBy f (FailsMember
    c.args.interface x
    (view_context c.args.context.now) (view_body c.args.body.now))) same h)
