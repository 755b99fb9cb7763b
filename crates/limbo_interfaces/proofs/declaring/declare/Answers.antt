use Rattle.std.proofs.Common.{◌≡◌, map, sym, ap, subst, ◌∙◌}
use Rattle.std.specs.Prelude.{option_map}
use Rattle.limbo_tree.specs.Decls as decls
use Rattle.limbo_tree.specs.View as source
use Rattle.limbo_tree.specs.View.{names_of}
use Rattle.limbo_typed.specs.View.{view_stmt}
use Rattle.limbo_context.specs.View.{view_context, view_body}
use Rattle.limbo_locals.specs.Anywhere.{DeclaresIn, FailsAt}
use Rattle.limbo_declarations.specs.Scopes.{AdtIsOnce, ModuleIsOnce, DeclIsOnce}
use Rattle.limbo_causes.specs.Causes.{Twice, FailsBy}
use Rattle.limbo_locals.proofs.Rules.{by_rule}
use Rattle.limbo_members.proofs.Standing.{adt_repeats}
use Rattle.limbo_locals.proofs.Known.{if_ok}
use Rattle.limbo_interfaces.proofs.Declared.{module_repeats}
use Rattle.limbo_interfaces.proofs.declaring.declare.Goals as goal

pub returns-in-Con-clause-declares : goal.returns-in-Con-clause-declares
returns-in-Con-clause-declares c =
    let same =
    ap (λ ns. decls.Con (names_of ns) (source.view_expr c.deref-in-Con.result.now)) c.deref.ensures.value
    ∙ ap (λ e. decls.Con (names_of c.in-Con.names.items) (source.view_expr e)) c.deref-in-Con.ensures
    ∙ sym (ap source.view_decl c.in-Con.is) in
    if_ok c.declare_constants.result (λ z k. subst (λ (d : decls.Decl). DeclaresIn c.args.module_name.now (view_context c.args.context.now)
    (view_body c.args.body.now) d (view_stmt z.value) (view_context c.declare_constants.new.context) (view_body
    c.declare_constants.new.body)) same (k c.args.module_name.now))
    c.declare_constants.ensures.declares

pub returns-in-Type-clause-declares : goal.returns-in-Type-clause-declares
returns-in-Type-clause-declares c =
    let same =
    ap (λ ns. decls.TypeName (names_of ns) (source.view_type c.deref-in-Type-2.result.now)) c.deref-in-Type.ensures.value
    ∙ ap (λ t. decls.TypeName (names_of c.in-Type.names.items) (source.view_type t)) c.deref-in-Type-2.ensures
    ∙ sym (ap source.view_decl c.in-Type.is) in
    if_ok c.declare_types.result (λ z k. subst (λ (d : decls.Decl). DeclaresIn c.args.module_name.now (view_context c.args.context.now)
    (view_body c.args.body.now) d (view_stmt z.value) (view_context c.declare_types.new.context) (view_body c.declare_types.new.body))
    same (k c.args.module_name.now))
    c.declare_types.ensures.declares

pub returns-in-Var-clause-declares : goal.returns-in-Var-clause-declares
returns-in-Var-clause-declares c =
    let same =
    ap (λ ns. decls.Var (names_of ns) (source.view_type c.deref-in-Var-2.result.now) (source.view_boxed c.in-Var.value))
    c.deref-in-Var.ensures.value
    ∙ ap (λ t. decls.Var (names_of c.in-Var.names.items) (source.view_type t) (source.view_boxed c.in-Var.value)) c.deref-in-Var-2.ensures
    ∙ sym (ap source.view_decl c.in-Var.is) in
    if_ok c.declare_variables.result (λ z k. subst (λ (d : decls.Decl). DeclaresIn c.args.module_name.now (view_context c.args.context.now)
    (view_body c.args.body.now) d (view_stmt z.value) (view_context c.args.context.now) (view_body c.declare_variables.new.body)) same (k
    c.args.module_name.now))
    c.declare_variables.ensures.declares

pub returns-in-Define-clause-declares : goal.returns-in-Define-clause-declares
returns-in-Define-clause-declares c =
    let same =
    ap (λ ns. decls.Define (names_of ns) (source.view_expr c.deref-in-Define-2.result.now)) c.deref-in-Define.ensures.value
    ∙ ap (λ e. decls.Define (names_of c.in-Define.names.items) (source.view_expr e)) c.deref-in-Define-2.ensures
    ∙ sym (ap source.view_decl c.in-Define.is) in
    if_ok c.define_names.result (λ z k. subst (λ (d : decls.Decl). DeclaresIn c.args.module_name.now (view_context c.args.context.now)
    (view_body c.args.body.now) d (view_stmt z.value) (view_context c.args.context.now) (view_body c.define_names.new.body)) same (k
    c.args.module_name.now))
    c.define_names.ensures.declares

pub returns-in-Import-clause-declares : goal.returns-in-Import-clause-declares
returns-in-Import-clause-declares c =
    let same =
    ap (λ ns. decls.Import (names_of ns) c.in-Import.module.text) c.deref-in-Import.ensures.value
    ∙ sym (ap source.view_decl c.in-Import.is) in
    if_ok c.declare_imports.result (λ z k. subst (λ (d : decls.Decl). DeclaresIn c.args.module_name.now (view_context c.args.context.now)
    (view_body c.args.body.now) d (view_stmt z.value) (view_context c.declare_imports.new.context) (view_body c.declare_imports.new.body))
    same (k c.args.module_name.now))
    c.declare_imports.ensures.declares

pub returns-in-Exception-clause-declares : goal.returns-in-Exception-clause-declares
returns-in-Exception-clause-declares c =
    let same =
    ap (λ ns. decls.Exception (names_of ns) (source.view_types c.deref-in-Exception-2.result.now)) c.deref-in-Exception.ensures.value
    ∙ ap (λ ts. decls.Exception (names_of c.in-Exception.names.items) (source.view_types ts)) c.deref-in-Exception-2.ensures.value
    ∙ sym (ap source.view_decl c.in-Exception.is) in
    if_ok c.declare_exceptions.result (λ z k. subst (λ (d : decls.Decl). DeclaresIn c.args.module_name.now (view_context c.args.context.now)
    (view_body c.args.body.now) d (view_stmt z.value) (view_context c.declare_exceptions.new.context) (view_body
    c.declare_exceptions.new.body)) same (k))
    c.declare_exceptions.ensures.declares

pub declare_module-requires : goal.declare_module-requires
declare_module-requires c = record {
  once =
      subst (λ ms. ModuleIsOnce (source.view_members ms)) (sym c.deref-in-Ok.ensures.value)
      (subst DeclIsOnce (ap source.view_decl c.in-Module.is) c.in-Ok.ensures.once);
}

pub returns-in-Ok-clause-declares : goal.returns-in-Ok-clause-declares
returns-in-Ok-clause-declares c =
    let same =
    ap (λ ms. decls.Module c.in-Module.name.text (source.view_members ms)) c.deref-in-Ok.ensures.value
    ∙ sym (ap source.view_decl c.in-Module.is) in
    if_ok c.declare_module.result (λ z k. subst (λ (d : decls.Decl). DeclaresIn c.args.module_name.now (view_context c.args.context.now)
    (view_body c.args.body.now) d (view_stmt z.value) (view_context c.declare_module.new.context) (view_body
    c.declare_module.new.body)) same (k c.args.module_name.now))
    c.declare_module.ensures.declares

pub returns-in-Ok-clause-refused : goal.returns-in-Ok-clause-refused
returns-in-Ok-clause-refused c =
    let same =
    ap (λ ms. decls.Module c.in-Module.name.text (source.view_members ms)) c.deref-in-Ok.ensures.value
    ∙ sym (ap source.view_decl c.in-Module.is) in
    by_rule c.declare_module.result c.declare_module.ensures.refused (λ f h. subst (λ (d : decls.Decl). FailsBy f (FailsAt (view_context
    c.args.context.now) (view_body c.args.body.now)
    d)) same h)

pub returns-in-Err-clause-refused : goal.returns-in-Err-clause-refused
returns-in-Err-clause-refused c =
    subst (λ (d : decls.Decl). FailsBy c.in-Err.fault.cause (FailsAt (view_context c.args.context.now) (view_body c.args.body.now) d))
    (sym (ap source.view_decl c.in-Module.is))
    (module_repeats c.in-Module.name.text (source.view_members c.in-Module.members.items)
    (view_context c.args.context.now) (view_body c.args.body.now) c.in-Err.fault.cause
    (subst (λ (d : decls.Decl). FailsBy c.in-Err.fault.cause (λ k. (k ≡ Twice) × (DeclIsOnce d → ⊥)))
    (ap source.view_decl c.in-Module.is) c.in-Err.ensures.refused))

pub declare_adt-requires : goal.declare_adt-requires
declare_adt-requires c = record {
  once =
      subst (λ ms. AdtIsOnce (source.view_members ms) (option_map (λ vs. map source.view_variant vs.items) c.in-Adt.pick))
      (sym c.deref-in-Ok-seen_once.ensures.value)
      (subst DeclIsOnce (ap source.view_decl c.in-Adt.is) c.in-Ok-seen_once.ensures.once);
}

pub returns-in-Ok-seen_once-clause-declares : goal.returns-in-Ok-seen_once-clause-declares
returns-in-Ok-seen_once-clause-declares c =
    let same =
    ap (λ ms. decls.Adt c.in-Adt.name.text (source.view_members ms) (option_map (λ vs. map source.view_variant vs.items) c.in-Adt.pick))
    c.deref-in-Ok-seen_once.ensures.value
    ∙ sym (ap source.view_decl c.in-Adt.is) in
    if_ok c.declare_adt.result (λ z k. subst (λ (d : decls.Decl). DeclaresIn c.args.module_name.now (view_context c.args.context.now)
    (view_body c.args.body.now) d (view_stmt z.value) (view_context c.declare_adt.new.context) (view_body c.declare_adt.new.body)) same
    (k c.args.module_name.now))
    c.declare_adt.ensures.declares

pub returns-in-Ok-seen_once-clause-refused : goal.returns-in-Ok-seen_once-clause-refused
returns-in-Ok-seen_once-clause-refused c =
    let same =
    ap (λ ms. decls.Adt c.in-Adt.name.text (source.view_members ms) (option_map (λ vs. map source.view_variant vs.items) c.in-Adt.pick))
    c.deref-in-Ok-seen_once.ensures.value
    ∙ sym (ap source.view_decl c.in-Adt.is) in
    by_rule c.declare_adt.result c.declare_adt.ensures.refused (λ f h. subst (λ (d : decls.Decl). FailsBy f (FailsAt (view_context
    c.args.context.now) (view_body c.args.body.now)
    d)) same h)

pub returns-in-Err-seen_once-clause-refused : goal.returns-in-Err-seen_once-clause-refused
returns-in-Err-seen_once-clause-refused c =
    subst (λ (d : decls.Decl). FailsBy c.in-Err-seen_once.fault.cause (FailsAt (view_context c.args.context.now) (view_body
    c.args.body.now) d))
    (sym (ap source.view_decl c.in-Adt.is))
    (adt_repeats c.in-Adt.name.text (source.view_members c.in-Adt.members.items) (option_map (λ vs. map source.view_variant vs.items)
    c.in-Adt.pick)
    (view_context c.args.context.now) (view_body c.args.body.now) c.in-Err-seen_once.fault.cause
    (subst (λ (d : decls.Decl). FailsBy c.in-Err-seen_once.fault.cause (λ k. (k ≡ Twice) × (DeclIsOnce d → ⊥)))
    (ap source.view_decl c.in-Adt.is) c.in-Err-seen_once.ensures.refused))
