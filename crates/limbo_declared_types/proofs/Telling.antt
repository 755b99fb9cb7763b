-- What is told of a declaration is what it writes.
use Rattle.std.proofs.Common.{◌≡◌, ℕ, Bool, true, false, List, Option, length, refl, sym, ap, subst, ◌∙◌}
use Rattle.std.specs.Borrow.{Bor}
use Rattle.limbo_tree.specs.declared.types.TypeTree as code_type
use Rattle.limbo_tree.specs.Types as tree
use Rattle.limbo_tree.specs.Exprs.{Expr}
use Rattle.limbo_tree.specs.Decls as decls
use Rattle.limbo_types.specs.Types.{Ty, Tys, FnTy, Tuple}
use Rattle.limbo_types.specs.View.{view_ty, view_tys, view_fn, tys_of}
use Rattle.limbo_layout.specs.Adts.{parts}
use Rattle.limbo_refusals.specs.Refusals.{Refusal}
use Rattle.limbo_declarations.specs.declared.row.Declared as code
use Rattle.limbo_declarations.specs.declared.row.Declared.TheVariants as declared
use Rattle.limbo_declarations.specs.View.{view_declared}
use Rattle.limbo_declarations.specs.Rows as rows
use Rattle.limbo_declarations.specs.Rows.{Declared}
use Rattle.limbo_entries.specs.declared.table.Table.{Table}
use Rattle.limbo_entries.specs.Entries.{Entry, IsEntry, AreOnce}
use Rattle.limbo_naming.specs.Naming.{is_adt}
use Rattle.limbo_naming.specs.Told.{IsNaming}
use Rattle.limbo_naming.specs.declared.naming.Naming.{Naming}
use Rattle.limbo_type_names.specs.declared.names.TypeNames.{TypeNames}
use Rattle.limbo_type_names.specs.Means as means
use Rattle.limbo_type_names.specs.Means.{Means, AllMean, Stands}
use Rattle.limbo_type_names.specs.Told.{AreTypesOf}
use Rattle.limbo_type_names.proofs.Unique.{one_type, from_by_type}
use Rattle.limbo_headers.specs.declared.header.Heading.{Heading}
use Rattle.limbo_headers.specs.declared.header.Heading.TheVariants as heading
use Rattle.limbo_headers.specs.Headers.{Heads, IsHeader, has_heading}
use Rattle.limbo_context.specs.Context.{Context}
use Rattle.limbo_permits.specs.Permits.{Permits}
use Rattle.limbo_permits.proofs.Standing.{type_forbidden}
use Rattle.limbo_allowed.proofs.Decided.{refused_not_allowed}
use Rattle.limbo_declared_types.specs.Permitted.{MayTake, ForbidsFunction, an_argument, an_answer, a_module, IsPermittedAt, AllPermitted}
use Rattle.limbo_declared_types.specs.Permitted.{IsForbiddenAt, a_variable, a_function, an_exception, a_type_name, an_adt}
use Rattle.limbo_declared_types.specs.Asked.{PermitsHeading, ForbidsHeading, ForbidsName, AllowsAdt, ForbidsAdtAt}
use Rattle.limbo_declared_types.proofs.Lists.{each_has}
use Rattle.limbo_declared_types.proofs.Single.{all_one, one_header}

-- ---- by the table

-- what is told by the table of the names is told by the table
pub of_table : (table : Table) (m : ℕ) (t : TypeNames) → ((n : Naming) × IsNaming table m n × AreTypesOf n t) → (P : Table → ℕ → Type 0)
    → P t.naming.now.table.now t.naming.now.implemented → P table m
of_table table m t h P p =
    subst (λ z. P table z) (ap (λ (n : Naming). n.implemented) h.2.by_naming ∙ h.1.by_module)
    (subst (λ z. P z t.naming.now.implemented) (ap (λ (n : Naming). n.table.now) h.2.by_naming ∙ h.1.by_table) p)

never : {b : Bool} → b ≡ true → b ≡ false → ⊥
never t f = let z : true ≡ false = sym t ∙ f in absurd cc

-- one that has another form
other : (test : Declared → Bool) (d x : Declared) → test d ≡ true → test x ≡ false → d ≡ x → ⊥
other test d x t f e = never t (ap test e ∙ f)

-- ---- by the forms of the code

pub no_name : (d : code.Declared) → ((t : Bor code_type.TypeTree) → d ≡ declared.Alias t → ⊥) → (t : tree.Ty)
    → view_declared d ≡ rows.Alias t → ⊥
no_name (declared.Alias u) n t h = n u refl
no_name _ n t h = absurd cc

-- ---- by what is told

module _ (es : List Entry) (m : ℕ) (c : Context) where
  module _ (once : AreOnce es) where
    a_variable_is : (e : Entry) (h : Heading) (t : tree.Ty) (value : Option Expr) (u : Ty) → Heads es m e h → PermitsHeading c h
        → e.row.means ≡ rows.Variable t value → Means es m e.within t u → Permits c u
    a_variable_is e (heading.Variable v) t value u w p is a =
        let z : rows.Variable w.0 w.1 ≡ rows.Variable t value = sym w.2 ∙ is in
        let q : w.0 ≡ t = cc in
        subst (λ (y : Ty). Permits c y) (one_type es m once e.within t (view_ty v.value) u
        (subst (λ (s : tree.Ty). Means es m e.within s (view_ty v.value)) q w.3) a) p
    a_variable_is e (heading.Function v) t value u w p is a =
        absurd (let z : rows.Function w.0 ≡ rows.Variable t value = sym w.1 ∙ is in cc)
    a_variable_is e (heading.Exception v) t value u w p is a =
        absurd (let z : rows.Exception w.0 ≡ rows.Variable t value = sym w.1 ∙ is in cc)
    a_variable_is e heading.Other t value u w p is a = absurd (never (ap has_heading is) w)

    a_function_is : (e : Entry) (h : Heading) (f : decls.FnType) (of : FnTy) (s : Bool) → Heads es m e h → PermitsHeading c h
        → e.row.means ≡ rows.Function f → IsHeader es m e.within f of s → MayTake c of
    a_function_is e (heading.Variable v) f of s w p is a = absurd (let z : rows.Variable w.0 w.1 ≡ rows.Function f = sym w.2 ∙ is in cc)
    a_function_is e (heading.Function v) f of s w p is a =
        let z : rows.Function w.0 ≡ rows.Function f = sym w.1 ∙ is in
        let q : w.0 ≡ f = cc in
        subst (λ (y : FnTy). MayTake c y) (one_header es m once e.within f (view_fn v.value.of) of v.value.takes_self s
        (subst (λ (g : decls.FnType). IsHeader es m e.within g (view_fn v.value.of) v.value.takes_self) q w.2) a) p
    a_function_is e (heading.Exception v) f of s w p is a = absurd (let z : rows.Exception w.0 ≡ rows.Function f = sym w.1 ∙ is in cc)
    a_function_is e heading.Other f of s w p is a = absurd (never (ap has_heading is) w)

    an_exception_is : (e : Entry) (h : Heading) (ts : tree.Tys) (us : Tys) → Heads es m e h → PermitsHeading c h
        → e.row.means ≡ rows.Exception ts → AllMean es m e.within ts us → Permits c (Tuple us)
    an_exception_is e (heading.Variable v) ts us w p is a = absurd (let z : rows.Variable w.0 w.1 ≡ rows.Exception ts = sym w.2 ∙ is in cc)
    an_exception_is e (heading.Function v) ts us w p is a = absurd (let z : rows.Function w.0 ≡ rows.Exception ts = sym w.1 ∙ is in cc)
    an_exception_is e (heading.Exception v) ts us w p is a =
        let z : rows.Exception w.0 ≡ rows.Exception ts = sym w.1 ∙ is in
        let q : w.0 ≡ ts = cc in
        subst (λ (y : Tys). Permits c (Tuple y)) (all_one es m once e.within ts (view_tys v.items) us
        (subst (λ (s : tree.Tys). AllMean es m e.within s (view_tys v.items)) q w.2) a) p
    an_exception_is e heading.Other ts us w p is a = absurd (never (ap has_heading is) w)

    -- by what is told of it, where it is neither an adt nor a name by `type`
    pub headed : (k : ℕ) (e : Entry) (h : Heading) → Heads es m e h → PermitsHeading c h → is_adt e.row.means ≡ false
        → ((t : tree.Ty) → e.row.means ≡ rows.Alias t → ⊥) → IsPermittedAt es m c k e
    headed k e h w p not none = record {
      variable = λ t value u is a. a_variable_is e h t value u w p is a;
      function = λ f of s is a. a_function_is e h f of s w p is a;
      exception = λ ts us is a. an_exception_is e h ts us w p is a;
      type_name = λ t u is a. absurd (none t is);
      adt = λ d is at. absurd (never is not);
    }

  pub headed_not : (k : ℕ) (e : Entry) (h : Heading) (r : Refusal) → IsEntry es k e → Heads es m e h → ForbidsHeading c h r
      → IsForbiddenAt es m c k r
  headed_not k e (heading.Variable v) r i w f = a_variable e w.0 w.1 (view_ty v.value) i w.2 w.3 f
  headed_not k e (heading.Function v) r i w f = a_function e w.0 (view_fn v.value.of) v.value.takes_self i w.1 w.2 f
  headed_not k e (heading.Exception v) r i w f = an_exception e w.0 (view_tys v.items) i w.1 w.2 f
  headed_not k e heading.Other r i w f = absurd f

  -- ---- names by `type`

  pub named : (k : ℕ) (e : Entry) (t : tree.Ty) → IsEntry es k e → e.row.means ≡ rows.Alias t
      → ((u : Ty) → Stands es m k u → Permits c u) → IsPermittedAt es m c k e
  named k e t i is p = record {
    variable = λ s value u or a. absurd (let z : rows.Alias t ≡ rows.Variable s value = sym is ∙ or in cc);
    function = λ f of s or a. absurd (let z : rows.Alias t ≡ rows.Function f = sym is ∙ or in cc);
    exception = λ ts us or a. absurd (let z : rows.Alias t ≡ rows.Exception ts = sym is ∙ or in cc);
    type_name = λ s u or a. p u (means.by_type k e s u i or a);
    adt = λ d or at. absurd (never or (ap is_adt is));
  }

  pub named_not : (k : ℕ) (e : Entry) (t : tree.Ty) (r : Refusal) → IsEntry es k e → e.row.means ≡ rows.Alias t → ForbidsName es m c k r
      → IsForbiddenAt es m c k r
  named_not k e t r i is f = a_type_name e t f.0 i is (from_by_type es m k e t f.0 i is f.1) f.2

  -- ---- adts

  pub an_adt_is : (k : ℕ) (e : Entry) → IsEntry es k e → is_adt e.row.means ≡ true → AllowsAdt es c k → IsPermittedAt es m c k e
  an_adt_is k e i is p = record {
    variable = λ s value u or a. absurd (other is_adt e.row.means (rows.Variable s value) is refl or);
    function = λ f of s or a. absurd (other is_adt e.row.means (rows.Function f) is refl or);
    exception = λ ts us or a. absurd (other is_adt e.row.means (rows.Exception ts) is refl or);
    type_name = λ s u or a. absurd (other is_adt e.row.means (rows.Alias s) is refl or);
    adt = λ d or at. p e d i at;
  }

  pub an_adt_not : (k : ℕ) (e : Entry) (r : Refusal) → IsEntry es k e → is_adt e.row.means ≡ true → ForbidsAdtAt es c k r
      → IsForbiddenAt es m c k r
  an_adt_not k e r i is f = an_adt e f.0 i is (f.1 e i) f.2

  -- ---- what is permitted isn't forbidden

  function_forbidden : (of : FnTy) (r : Refusal) → ForbidsFunction c of r → MayTake c of → ⊥
  function_forbidden of r (an_argument t h f) p = type_forbidden c t r f (each_has (λ u. Permits c u) of.args t h p.args)
  function_forbidden of r (an_answer f) p = type_forbidden c of.answer r f p.answer
  function_forbidden of r (a_module u e) p = p.no_module u

  pub forbidden : (k : ℕ) (r : Refusal) → AllPermitted es m c → IsForbiddenAt es m c k r → ⊥
  forbidden k r all (a_variable e t value u i is a f) = type_forbidden c u r f ((all k e i).variable t value u is a)
  forbidden k r all (a_function e g of s i is a f) = function_forbidden of r f ((all k e i).function g of s is a)
  forbidden k r all (an_exception e ts us i is a f) = type_forbidden c (Tuple us) r f ((all k e i).exception ts us is a)
  forbidden k r all (a_type_name e t u i is a f) = type_forbidden c u r f ((all k e i).type_name t u is a)
  forbidden k r all (an_adt e d i is at f) =
      refused_not_allowed c.adts (length c.modules) c.system c.fd (Tuple (tys_of (parts d))) r f ((all k e i).adt d is at)
