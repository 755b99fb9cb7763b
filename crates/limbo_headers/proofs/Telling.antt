-- Refusals, and what is told of a declaration.
use Rattle.std.proofs.Common.{◌≡◌, ◌∷◌, ◌++◌, inl, inr, length, [], ℕ, List, Option, Some, false, slice_get, refl, subst, ◌∙◌}
use Rattle.std.specs.Borrow.{Bor}
use Rattle.limbo_tree.specs.declared.types.TypeTree as code_type
use Rattle.limbo_tree.specs.declared.decl.FnType as code_fn
use Rattle.limbo_tree.specs.declared.expr.Expr as code_expr
use Rattle.limbo_declarations.specs.declared.row.Declared as code
use Rattle.limbo_declarations.specs.declared.row.Declared.TheVariants as declared
use Rattle.limbo_declarations.specs.View.{view_declared}
use Rattle.limbo_entries.specs.declared.entry.Entry as code_entry
use Rattle.limbo_entries.specs.Entries.{Entry, IsEntry}
use Rattle.limbo_entries.specs.View.{entries_of}
use Rattle.limbo_type_names.specs.declared.fault.TypeFault.{TypeFault}
use Rattle.limbo_type_names.specs.declared.fault.TypeFault.TheVariants.{NoMemory, Unknown, NotAType}
use Rattle.limbo_type_names.specs.Writes.{Fails}
use Rattle.limbo_type_names.proofs.limbo_naming_lemmas.Lists.{stands_push}
use Rattle.limbo_type_names.proofs.Knowing.{one_entry}
use Rattle.limbo_headers.specs.declared.header.Heading.{Heading}
use Rattle.limbo_headers.specs.Headers.{has_heading, Heads}
use Rattle.limbo_headers.specs.Refusals as refusals
use Rattle.limbo_headers.specs.Refusals.{OneFails, FailsHeading, at_number}

module _ (es : List Entry) (m : ℕ) (scope : Option ℕ) where
  pub one_fails : (P : code_type.TypeTree → Type 0) (t : code_type.TypeTree) → P t → (e : TypeFault) → Fails es m scope t e → OneFails es m scope P e
  one_fails P t p NoMemory f = tt
  one_fails P t p (Unknown at) f = (t, p, f)
  one_fails P t p (NotAType at) f = (t, p, f)

  pub one_weaker : (P Q : code_type.TypeTree → Type 0) → ((t : code_type.TypeTree) → P t → Q t) → (e : TypeFault) → OneFails es m scope P e → OneFails es m scope Q e
  one_weaker P Q w NoMemory f = tt
  one_weaker P Q w (Unknown at) f = (f.0, w f.0 f.1, f.2)
  one_weaker P Q w (NotAType at) f = (f.0, w f.0 f.1, f.2)

pub told_at : (all : List code_entry.Entry) (m k : ℕ) (e : code_entry.Entry) → slice_get all k ≡ Some e → (f : TypeFault)
    → OneFails (entries_of all) m e.within (refusals.Writes e.row.declared) f → FailsHeading all m (at_number k f)
told_at all m k e i NoMemory w = tt
told_at all m k e i (Unknown at) w = (e, i, w)
told_at all m k e i (NotAType at) w = (e, i, w)

pub no_heading : (d : code.Declared) → ((t : Bor code_type.TypeTree) (v : Option (Bor code_expr.Expr)) → d ≡ declared.Variable t v → ⊥)
    → ((f : Bor code_fn.FnType) → d ≡ declared.Function f → ⊥) → ((ts : Bor (List code_type.TypeTree)) → d ≡ declared.Exception ts → ⊥)
    → has_heading (view_declared d) ≡ false
no_heading (declared.Variable t v) a b c = absurd (a t v refl)
no_heading (declared.Function f) a b c = absurd (b f refl)
no_heading (declared.Exception ts) a b c = absurd (c ts refl)
no_heading _ a b c = refl

-- one more declaration is told
pub one_told : (es : List Entry) (m : ℕ) (all : List Heading) (x : Heading) (k : ℕ) (e : Entry) → length all ≡ k → IsEntry es k e → Heads es m e x
    → ((j : ℕ) (f : Entry) (h : Heading) → IsEntry es j f → slice_get all j ≡ Some h → Heads es m f h)
    → (j : ℕ) (f : Entry) (h : Heading) → IsEntry es j f → slice_get (all ++ (x ∷ [])) j ≡ Some h → Heads es m f h
one_told es m all x k e many i w told j f h at is = elim (stands_push all x j h is) [
  | inl y ↦ told j f h at y
  | inr y ↦
      let p : j ≡ k = y.0 ∙ many in
      let q : e ≡ f = one_entry es k e f i (subst (λ (z : ℕ). IsEntry es z f) p at) in
      subst (λ (z : Heading). Heads es m f z) y.1 (subst (λ (z : Entry). Heads es m z x) q w)
]
