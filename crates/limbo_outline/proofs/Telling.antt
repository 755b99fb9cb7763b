-- What is told of the declarations of each kind.
use Rattle.std.proofs.Common.{◌≡◌, ◌+◌, inl, inr, ℕ, Bool, true, false, List, [], ◌∷◌, ◌++◌, Option, Some, None, Box, Vec, Global, map, slice_get, refl, sym, ap, subst, ◌∙◌}
use Rattle.limbo_tree.specs.Types as tree
use Rattle.limbo_tree.specs.Exprs.{Expr}
use Rattle.limbo_types.specs.Types.{Ty, FnTy}
use Rattle.limbo_types.specs.declared.ty.Ty as code_ty
use Rattle.limbo_types.specs.View.{view_ty, view_fn, tys_of}
use Rattle.limbo_declarations.specs.Rows as rows
use Rattle.limbo_declarations.specs.Rows.{Declared}
use Rattle.limbo_entries.specs.Entries.{Entry, IsEntry}
use Rattle.limbo_constants.specs.declared.constant.Constant as source
use Rattle.limbo_constant_values.specs.Values as values
use Rattle.limbo_constant_values.specs.Values.{HasValue}
use Rattle.limbo_constant_values.specs.Valuing.{AreValues}
use Rattle.limbo_headers.specs.declared.header.Heading.{Heading}
use Rattle.limbo_headers.specs.declared.header.Heading.TheVariants as heading
use Rattle.limbo_headers.specs.declared.header.Header as code_header
use Rattle.limbo_headers.specs.Headers.{Heads, has_heading, IsHeader}
use Rattle.limbo_type_names.specs.Means.{AllMean, Stands}
use Rattle.limbo_context.specs.Context.{Valued, Callee}
use Rattle.limbo_typed.specs.Typed.{Var, Exception}
use Rattle.limbo_meanings.specs.Kinds.{kind_in, has_kind, is_at, is_own, is_outermost}
use Rattle.limbo_meanings.proofs.Lists.{table_yes, table_no}
use Rattle.limbo_outline.specs.Outline.{ConstantsTo, IsConstant, valued, known_at, ExceptionsTo, IsException, FunctionsTo, IsFunction, owner_of, TypesTo, IsType, GlobalsTo, IsGlobal, HasType, HasNoType}
use Rattle.limbo_outline.specs.declared.fault.OutlineFault.TheVariants as fault
use Rattle.limbo_outline.proofs.Forms.{only_constant, only_exception, only_global, or_false}
use Rattle.limbo_outline.proofs.Places.{one_entry}

module _ (es : List Entry) (m : ℕ) where
  -- ---- constants

  told_there : (vs : List (Option source.Constant)) (k : ℕ) (c : source.Constant) → known_at vs k ≡ Some c → slice_get vs k ≡ Some (Some c)
  told_there vs k c h = go (slice_get vs k) refl h
    where
      go : (o : Option (Option source.Constant)) → slice_get vs k ≡ o → (elim o [ None ↦ None | Some known ↦ known ]) ≡ Some c → slice_get vs k ≡ Some (Some c)
      go None f g = absurd cc
      go (Some o) f g = f ∙ ap Some g

  value_kind : (k : ℕ) (c : source.Constant) (e : Entry) → HasValue es m k c → IsEntry es k e → has_kind es m 1 e ≡ true
  value_kind _ _ e (values.value k e' expr iota c at means y) i =
      let p : e ≡ e' = one_entry es k e e' i at in
      ap (λ z. is_at 1 (kind_in (is_own es m e.within) (is_outermost m e.within) z)) (ap (λ (z : Entry). z.row.means) p ∙ means)

  pub constant_yes : (vs : List (Option source.Constant)) (k : ℕ) (c : source.Constant) (e : Entry) (xs : List Valued) (v : Valued) → AreValues es m vs
      → known_at vs k ≡ Some c → IsEntry es k e → v ≡ valued c → ConstantsTo es m k xs → ConstantsTo es m (k + 1) (xs ++ (v ∷ []))
  constant_yes vs k c e xs v are h i p listed =
      let w = are.known k c (told_there vs k c h) in
      table_yes (has_kind es m 1) (IsConstant es m) es k xs e v listed i (value_kind k c e w i) (c, w, p)

  pub constant_no : (vs : List (Option source.Constant)) (k : ℕ) (e : Entry) (xs : List Valued) → AreValues es m vs
      → known_at vs k ≡ None → IsEntry es k e → ConstantsTo es m k xs → ConstantsTo es m (k + 1) xs
  constant_no vs k e xs are n i listed =
      table_no (has_kind es m 1) (IsConstant es m) es k xs e listed i (or_false (has_kind es m 1 e) (λ h. bad h))
    where
      bad : has_kind es m 1 e ≡ true → ⊥
      bad h =
          let o = only_constant (is_own es m e.within) (is_outermost m e.within) e.row.means h in
          let w = are.all k e o.0 o.1 i o.2 in
          let p : Some w.0 ≡ None = sym (ap (λ (z : Option (Option source.Constant)). elim z [ None ↦ None | Some known ↦ known ]) (are.complete k w.0 w.1)) ∙ n in
          absurd cc

  -- ---- exceptions

  pub exception_yes : (name : List ℕ) (k : ℕ) (e : Entry) (us : Vec code_ty.Ty Global) (xs : List Exception) (x : Exception) → Heads es m e (heading.Exception us)
      → IsEntry es k e → x.module_name ≡ name → x.name ≡ e.row.name → x.values ≡ map view_ty us.items → ExceptionsTo es m name k xs
      → ExceptionsTo es m name (k + 1) (xs ++ (x ∷ []))
  exception_yes name k e us xs x h i o n v listed =
      table_yes (has_kind es m 7) (IsException es m name) es k xs e x listed i
      (ap (λ z. is_at 7 (kind_in (is_own es m e.within) (is_outermost m e.within) z)) h.1)
      (record {
        values = h.0;
        is = h.1;
        of_module = o;
        named = n;
        mean = subst (λ (z : List Ty). AllMean es m e.within h.0 (tys_of z)) (sym v) h.2;
      })

  no_exception : (h : Heading) (d : Declared) (ts : tree.Tys) (e : Entry) → Heads es m e h → e.row.means ≡ rows.Exception ts
      → ((us : Vec code_ty.Ty Global) → h ≡ heading.Exception us → ⊥) → ⊥
  no_exception (heading.Exception us) d ts e w p n = n us refl
  no_exception (heading.Variable b) d ts e w p n = let q : rows.Exception ts ≡ rows.Variable w.0 w.1 = sym p ∙ w.2 in absurd cc
  no_exception (heading.Function b) d ts e w p n = let q : rows.Exception ts ≡ rows.Function w.0 = sym p ∙ w.1 in absurd cc
  no_exception heading.Other d ts e w p n = let q : true ≡ false = sym (ap has_heading p) ∙ w in absurd cc

  pub exception_no : (name : List ℕ) (k : ℕ) (e : Entry) (h : Heading) (xs : List Exception) → Heads es m e h
      → ((us : Vec code_ty.Ty Global) → h ≡ heading.Exception us → ⊥) → IsEntry es k e → ExceptionsTo es m name k xs → ExceptionsTo es m name (k + 1) xs
  exception_no name k e h xs w n i listed =
      table_no (has_kind es m 7) (IsException es m name) es k xs e listed i (or_false (has_kind es m 7 e) bad)
    where
      bad : has_kind es m 7 e ≡ true → ⊥
      bad t =
          let o = only_exception (is_own es m e.within) (is_outermost m e.within) e.row.means t in
          no_exception h e.row.means o.0 e w o.1 n

  -- ---- functions

  pub function_yes : (k : ℕ) (e : Entry) (b : Box code_header.Header Global) (xs : List Callee) (f : Callee) → Heads es m e (heading.Function b) → IsEntry es k e
      → has_kind es m 5 e ≡ true → f.of ≡ view_fn b.value.of → f.takes_self ≡ b.value.takes_self → f.owner ≡ owner_of es m e.within → FunctionsTo es m k xs
      → FunctionsTo es m (k + 1) (xs ++ (f ∷ []))
  function_yes k e b xs f h i t o s w listed =
      table_yes (has_kind es m 5) (IsFunction es m) es k xs e f listed i t
      (record {
        of = h.0;
        is = h.1;
        header = subst (λ (z : Bool). IsHeader es m e.within h.0 f.of z) (sym s)
            (subst (λ (z : FnTy). IsHeader es m e.within h.0 z b.value.takes_self) (sym o) h.2);
        owner = w;
      })

  pub function_no : (k : ℕ) (e : Entry) (xs : List Callee) → IsEntry es k e → has_kind es m 5 e ≡ false → FunctionsTo es m k xs → FunctionsTo es m (k + 1) xs
  function_no k e xs i t listed = table_no (has_kind es m 5) (IsFunction es m) es k xs e listed i t

  -- ---- types

  pub type_yes : (k : ℕ) (e : Entry) (t : tree.Ty) (xs : List Ty) (u : Ty) → IsEntry es k e → e.row.means ≡ rows.Alias t → Stands es m k u → TypesTo es m k xs
      → TypesTo es m (k + 1) (xs ++ (u ∷ []))
  type_yes k e t xs u i p s listed =
      table_yes (has_kind es m 2) (IsType es m) es k xs e u listed i
      (ap (λ z. is_at 2 (kind_in (is_own es m e.within) (is_outermost m e.within) z)) p) s

  pub type_no : (k : ℕ) (e : Entry) (xs : List Ty) → IsEntry es k e → (has_kind es m 2 e ≡ true → ⊥) → TypesTo es m k xs → TypesTo es m (k + 1) xs
  type_no k e xs i n listed = table_no (has_kind es m 2) (IsType es m) es k xs e listed i (or_false (has_kind es m 2 e) n)

  -- ---- variables

  pub global_yes : (k : ℕ) (e : Entry) (xs : List Var) (v : Var) → IsEntry es k e → has_kind es m 0 e ≡ true → v.name ≡ e.row.name → HasType es m e v.ty
      → GlobalsTo es m k xs → GlobalsTo es m (k + 1) (xs ++ (v ∷ []))
  global_yes k e xs v i t n h listed =
      table_yes (has_kind es m 0) (IsGlobal es m) es k xs e v listed i t (record { named = n; typed = h })

  pub global_no : (k : ℕ) (e : Entry) (xs : List Var) → IsEntry es k e → has_kind es m 0 e ≡ false → GlobalsTo es m k xs → GlobalsTo es m (k + 1) xs
  global_no k e xs i t listed = table_no (has_kind es m 0) (IsGlobal es m) es k xs e listed i t

  pub no_type_at : (vs : List (Option source.Constant)) (k n : ℕ) (e : Entry) (x : Expr) → fault.NoType k ≡ fault.NoType n → IsEntry es k e
      → e.row.means ≡ rows.Inferred x → known_at vs k ≡ None → HasNoType es vs n
  no_type_at vs k n e x p i q u =
      let s : k ≡ n = cc in
      subst (λ (z : ℕ). HasNoType es vs z) s (record { entry = e; expr = x; there = i; is = q; unknown = u })

  -- a variable without a written type is declared by a value
  pub by_value : (e : Entry) (h : Heading) → has_kind es m 0 e ≡ true → Heads es m e h → ((b : Box code_ty.Ty Global) → h ≡ heading.Variable b → ⊥)
      → (x : Expr) × (e.row.means ≡ rows.Inferred x)
  by_value e h t w n = elim (only_global (is_own es m e.within) (is_outermost m e.within) e.row.means t) [
    | inl y ↦ absurd (bad h y.0 y.1 y.2 w n)
    | inr y ↦ y
  ]
    where
      bad : (h : Heading) (t : tree.Ty) (v : Option Expr) → e.row.means ≡ rows.Variable t v → Heads es m e h
          → ((b : Box code_ty.Ty Global) → h ≡ heading.Variable b → ⊥) → ⊥
      bad (heading.Variable b) t v p w n = n b refl
      bad (heading.Function b) t v p w n = let q : rows.Variable t v ≡ rows.Function w.0 = sym p ∙ w.1 in absurd cc
      bad (heading.Exception us) t v p w n = let q : rows.Variable t v ≡ rows.Exception w.0 = sym p ∙ w.1 in absurd cc
      bad heading.Other t v p w n = let q : true ≡ false = sym (ap has_heading p) ∙ w in absurd cc
