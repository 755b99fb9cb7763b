-- A name that is declared.
use Rattle.std.proofs.Common.{◌≡◌, ℕ, List, length, sym, ap, subst, ◌∙◌}
use Rattle.std.proofs.lemmas.List.{length-map}
use Rattle.limbo_types.specs.Types.{Ty}
use Rattle.limbo_tree.specs.Exprs as tree
use Rattle.limbo_typed.specs.Typed.{At, Local, Pattern, ToPlace}
use Rattle.limbo_typed.specs.View.{view_var}
use Rattle.limbo_context.specs.declared.body.Body as code_body
use Rattle.limbo_context.specs.Context.{Body, with_variable}
use Rattle.limbo_context.specs.View.{view_body}
use Rattle.limbo_defining.specs.Defining.{IsFree, Defines, name}

pub name_defined : (c : code_body.Body) (n : List ℕ) (t : Ty) (x : ℕ) (p : Pattern) (b' : Body) → x ≡ length c.variables.items
    → IsFree n (view_body c) → p ≡ ToPlace (At t (Local x)) → b' ≡ with_variable n t (view_body c)
    → Defines (view_body c) (tree.Name n) t p b'
name_defined c n t x p b' number free is after =
    let same : x ≡ length (view_body c).variables = number ∙ sym (length-map c.variables.items view_var) in
    subst (λ (z : Pattern). Defines (view_body c) (tree.Name n) t z b') (sym (is ∙ ap (λ (k : ℕ). ToPlace (At t (Local k))) same))
    (subst (λ (z : Body). Defines (view_body c) (tree.Name n) t (ToPlace (At t (Local (length (view_body c).variables)))) z) (sym after)
    (name (view_body c) n t free))
