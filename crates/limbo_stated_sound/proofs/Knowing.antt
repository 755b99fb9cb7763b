-- What is known of a point stays known.
use Rattle.std.proofs.Common.{◌≡◌, ◌≤◌, ◌<◌, ◌+◌, ◌⊎◌, inl, inr, ℕ, suc, Bool, true, false, cond, List, [], ◌∷◌, ◌++◌, length}
use Rattle.std.proofs.Common.{Option, None, Some, refl, sym, ap, ◌∙◌, arith}
use Rattle.std.specs.Prelude.{slice_get}
use Rattle.std.specs.Option.{option_or}
use Rattle.std.specs.Ordering.{nat_cmp, eq_by_cmp}
use Rattle.std.specs.Cmp.Lexicographic.{slice_cmp, nat_list_cmp_total}
use Rattle.std.specs.FinMap.{get, get-insert}
use Rattle.std.proofs.lemmas.Option.{same_Some}
use Rattle.limbo_types.specs.Types as ty
use Rattle.limbo_types.specs.Types.{Ty, Int}
use Rattle.limbo_tree.specs.Exprs as tree
use Rattle.limbo_typed.specs.Typed.{Module, Var, Expr, Exprs, Pattern, Exception}
use Rattle.limbo_typed.specs.Fitting.{IsConstant}
use Rattle.limbo_typed.specs.Sound.{Each, IsSettled, IsNamed, HasVariable}
use Rattle.limbo_scope.specs.declared.meaning.Meaning.{Meaning}
use Rattle.limbo_scope.specs.declared.meaning.Meaning.TheVariants as meaning
use Rattle.limbo_scope.specs.Scopes.{Scope, seen, entered, declared, left}
use Rattle.limbo_scope.specs.Laws.{declared_all}
use Rattle.limbo_scope.proofs.Stacks.{innermost_counts}
use Rattle.limbo_context.specs.declared.context.Imported.{Imported}
use Rattle.limbo_context.specs.declared.context.Origin.TheVariants as origin
use Rattle.limbo_context.specs.Context.{Context, Body, Valued}
use Rattle.limbo_permits.specs.Permits.{Permits}
use Rattle.limbo_defining.specs.Defining as defining
use Rattle.limbo_defining.specs.Defining.{Defines, DefineEach}
use Rattle.limbo_typed_sound.specs.limbo_typing.Typing.{HasValue, Types, HaveValues}
use Rattle.limbo_stating.specs.limbo_local.Points.{meaning_from, with_names}
use Rattle.limbo_typed_sound.specs.Describing.{Begins, Describes, IsWell, IsThrough}
use Rattle.limbo_typed_sound.specs.Laws.{Grows}
use Rattle.limbo_typed_sound.proofs.Lists.{each_and, begins_with}
use Rattle.limbo_typed_sound.proofs.Bodies.{defines_well, permitted_named}
use Rattle.limbo_typed_sound.proofs.Leading as leading
use Rattle.limbo_stated_sound.specs.Growing.{around, AreThrough}
use Rattle.limbo_stated_sound.proofs.Lists.{as_long}
use Rattle.limbo_stated_sound.proofs.Imports.{has_grown, at_the_end, IsRight}
use Rattle.limbo_stated_sound.proofs.Seen.{Fits, Known, sight, each_as, named_back, describes_there, well_there}

-- ---- what names mean behind declarations

pub seen_declared : (name other : List ℕ) (k j : Meaning) (scopes : List Scope) → seen other (declared name k scopes) ≡ Some j
    → (j ≡ k) ⊎ (seen other scopes ≡ Some j)
seen_declared name other k j [] h = inr h
seen_declared name other k j (scope ∷ outer) h =
    go (eq_by_cmp (slice_cmp nat_cmp) other name)
    (sym (ap (λ (o : Option Meaning). option_or o (seen other outer)) (get-insert nat_list_cmp_total scope name k other)) ∙ h)
  where
    go : (same : Bool) → option_or (cond same (Some k) (get scope other)) (seen other outer) ≡ Some j
        → (j ≡ k) ⊎ (seen other (scope ∷ outer) ≡ Some j)
    go true e = inl (sym (same_Some k j e))
    go false e = inr e

-- It is what it was, or what one of the names means.
abbrev pub SeenIn : (ℕ → Meaning) → ℕ → List (List ℕ) → List ℕ → Meaning → List Scope → Type 0
SeenIn means n names other j scopes = (seen other scopes ≡ Some j) ⊎ ((i : ℕ) × (n ≤ i) × (i < n + length names) × (j ≡ means i))

pub seen_all : (means : ℕ → Meaning) (n : ℕ) (names : List (List ℕ)) (other : List ℕ) (j : Meaning) (scopes : List Scope)
    → seen other (declared_all (meaning_from means n names) scopes) ≡ Some j → SeenIn means n names other j scopes
seen_all means n [] other j scopes h = inl h
seen_all means n (name ∷ names) other j scopes h = go (seen_all means (suc n) names other j (declared name (means n) scopes) h)
  where
    at : (j ≡ means n) ⊎ (seen other scopes ≡ Some j) → SeenIn means n (name ∷ names) other j scopes
    at (inl q) = inr (n, omega arith, omega arith, q)
    at (inr q) = inl q

    go : SeenIn means (suc n) names other j (declared name (means n) scopes) → SeenIn means n (name ∷ names) other j scopes
    go (inl q) = at (seen_declared name other (means n) j scopes q)
    go (inr q) = let l = q.1 in let u = q.2 in inr (q.0, omega arith, omega arith, q.3)

-- Exceptions' names are those of before.
abbrev pub ShowsNoMore : Body → Body → Type 0
ShowsNoMore b d = (name : List ℕ) (n : ℕ) → seen name d.scopes ≡ Some (meaning.Exception n)
    → seen name b.scopes ≡ Some (meaning.Exception n)

variable_shows : (n other : List ℕ) (x k : ℕ) (scopes : List Scope)
    → seen other (declared n (meaning.Variable x) scopes) ≡ Some (meaning.Exception k) → seen other scopes ≡ Some (meaning.Exception k)
variable_shows n other x k scopes h = go (seen_declared n other (meaning.Variable x) (meaning.Exception k) scopes h)
  where
    go : (meaning.Exception k ≡ meaning.Variable x) ⊎ (seen other scopes ≡ Some (meaning.Exception k))
        → seen other scopes ≡ Some (meaning.Exception k)
    go (inl q) = absurd cc
    go (inr q) = q

mutual
  defines_shows : (b d : Body) (e : tree.Expr) (t : Ty) (p : Pattern) → Defines b e t p d → ShowsNoMore b d
  defines_shows _ _ _ _ _ (defining.name b n t f) = λ other k h. variable_shows n other (length b.variables) k b.scopes h
  defines_shows _ _ _ _ _ (defining.Defines.parts b d e f es ts ps h) = define_each_shows b d (tree.MoreExprs e
      (tree.MoreExprs f es)) ts ps h

  define_each_shows : (b d : Body) (es : tree.Exprs) (ts : _) (ps : _) → DefineEach b es ts ps d → ShowsNoMore b d
  define_each_shows _ _ _ _ _ (defining.DefineEach.no_more b) = λ name n h. h
  define_each_shows _ _ _ _ _ (defining.DefineEach.nowhere b d t es ts ps h) = define_each_shows b d es ts ps h
  define_each_shows _ _ _ _ _ (defining.DefineEach.and_more b b1 d e t p es ts ps h k) =
      λ name n i. defines_shows b b1 e t p h name n (define_each_shows b1 d es ts ps k name n i)

-- ---- expressions

module _ (m : Module) (c : Context) (fits : Fits m c) where
  abbrev M : Module
  M = sight m c

  abbrev pub Keeps : Body → Body → Type 0
  Keeps b d = (IsWell M c b → IsWell M c d) × ShowsNoMore b d

  kept : (b : Body) → Keeps b b
  kept b = (λ w. w, λ name n h. h)

  keeps_on : (b d e : Body) → Keeps b d → Keeps d e → Keeps b e
  keeps_on b d e g h = (λ w. h.0 (g.0 w), λ name n i. g.1 name n (h.1 name n i))

  defined : Describes M c → (b d : Body) (e : tree.Expr) (t : Ty) (p : Pattern) → Permits c t → IsSettled t → Defines b e t p d → Keeps b d
  defined describes b d e t p k s h =
      (λ w. defines_well M c b d e t p h (permitted_named M c describes t k s) w, defines_shows b d e t p h)

  pub keeps_known : (b d : Body) → Keeps b d → Known m c b → Known m c d
  keeps_known b d h k =
      let w = h.0 (well_there m c fits b k) in
      record {
        globals = k.globals;
        functions = k.functions;
        system = k.system;
        fd = k.fd;
        constants = k.constants;
        types = k.types;
        imports = k.imports;
        named = each_as (λ (v : Var). IsNamed M v.ty) (λ (v : Var). IsNamed m v.ty) d.variables (λ v n. named_back m c fits v.ty n) w.named;
        imported = w.imported;
        raises = λ name n s. k.raises name n (h.1 name n s);
      }

  pub value_known : (b : Body) (e : tree.Expr) (x : Expr) (d : Body) → HasValue c b e x d → Known m c b → Known m c d
  value_known b e x d h k =
      keeps_known b d (leading.of_value c Keeps kept keeps_on (defined (describes_there m c fits b k)) b e x d h) k

  pub typed_known : (b : Body) (e : tree.Expr) (x : Expr) (d : Body) → Types c b e x d → Known m c b → Known m c d
  typed_known b e x d h k =
      keeps_known b d (leading.of_typed c Keeps kept keeps_on (defined (describes_there m c fits b k)) b e x d h) k

  pub values_known : (b : Body) (es : tree.Exprs) (xs : Exprs) (d : Body) → HaveValues c b es xs d → Known m c b → Known m c d
  values_known b es xs d h k =
      keeps_known b d (leading.of_values c Keeps kept keeps_on (defined (describes_there m c fits b k)) b es xs d h) k

  -- a permitted type that is settled is one of the module
  pub permitted_is_named : (b : Body) → Known m c b → (t : Ty) → Permits c t → IsSettled t → IsNamed m t
  permitted_is_named b k t p s = named_back m c fits t (permitted_named M c (describes_there m c fits b k) t p s)

-- ---- lists of a context

module _ (m : Module) (c : Context) (b : Body) (k : Known m c b) where
  pub constants_known : (vs : List Valued) → Each (λ v. IsConstant v.ty v.value) vs
      → Known m (record c { constants = c.constants ++ vs }) b
  constants_known vs h = record {
    globals = k.globals;
    functions = k.functions;
    system = k.system;
    fd = k.fd;
    constants = each_and (λ v. IsConstant v.ty v.value) c.constants vs k.constants h;
    types = k.types;
    imports = k.imports;
    named = k.named;
    imported = k.imported;
    raises = k.raises;
  }

  pub types_known : (ts : List Ty) → Each IsSettled ts → Known m (record c { types = c.types ++ ts }) b
  types_known ts h = record {
    globals = k.globals;
    functions = k.functions;
    system = k.system;
    fd = k.fd;
    constants = k.constants;
    types = each_and IsSettled c.types ts k.types h;
    imports = k.imports;
    named = k.named;
    imported = k.imported;
    raises = k.raises;
  }

  pub imports_known : (is : List Imported) → Each (IsThrough c.globals) is → Each (IsRight b.variables) is
      → Known m (record c { imports = c.imports ++ is }) b
  imports_known is h g = record {
    globals = k.globals;
    functions = k.functions;
    system = k.system;
    fd = k.fd;
    constants = k.constants;
    types = k.types;
    imports = each_and (IsThrough c.globals) c.imports is k.imports h;
    named = k.named;
    imported = λ name n x i s e o. go name n x i s e o (slice_get c.imports n) refl;
    raises = k.raises;
  }
    where
      go : (name : List ℕ) (n x : ℕ) (i : Imported) → seen name b.scopes ≡ Some (meaning.Import n) → slice_get (c.imports ++ is) n ≡ Some i
          → i.origin ≡ origin.Local x → (o : Option Imported) → slice_get c.imports n ≡ o
          → HasVariable b.variables x (ty.Module i.interface)
      go name n x i s e o None q = at_the_end (IsRight b.variables) c.imports is n i q e g x o
      go name n x i s e o (Some j) q =
          let p : j ≡ i = same_Some j i (sym (begins_with c.imports is n j q) ∙ e) in
          k.imported name n x i s (q ∙ ap (λ (z : Imported). Some z) p) o

  pub exceptions_known : (es : List Exception) → Known m (record c { exceptions = c.exceptions ++ es }) b
  exceptions_known es = record {
    globals = k.globals;
    functions = k.functions;
    system = k.system;
    fd = k.fd;
    constants = k.constants;
    types = k.types;
    imports = k.imports;
    named = k.named;
    imported = k.imported;
    raises = λ name n s. let l = k.raises name n s in let a = as_long c.exceptions (c.exceptions ++ es)
        (begins_with c.exceptions es) in omega arith;
  }

  -- ---- variables

  pub variables_known : (vs : List Var) → Each (λ v. IsNamed m v.ty) vs
      → Known m c (record { scopes = b.scopes; variables = b.variables ++ vs })
  variables_known vs h = record {
    globals = k.globals;
    functions = k.functions;
    system = k.system;
    fd = k.fd;
    constants = k.constants;
    types = k.types;
    imports = k.imports;
    named = each_and (λ v. IsNamed m v.ty) b.variables vs k.named h;
    imported = λ name n x i s e o.
        let v = k.imported name n x i s e o in
        (v.0, begins_with b.variables vs x v.0 v.1, v.2);
    raises = k.raises;
  }

  -- ---- names

  pub names_known : (means : ℕ → Meaning) (n : ℕ) (names : List (List ℕ))
      → ((j a x : ℕ) (i : Imported) → n ≤ j → meaning.Import a ≡ means j → slice_get c.imports a ≡ Some i → i.origin ≡ origin.Local x
      → HasVariable b.variables x (ty.Module i.interface))
      → ((j a : ℕ) → j < n + length names → meaning.Exception a ≡ means j → a < length c.exceptions)
      → Known m c (with_names means n names b)
  names_known means n names f g = record {
    globals = k.globals;
    functions = k.functions;
    system = k.system;
    fd = k.fd;
    constants = k.constants;
    types = k.types;
    imports = k.imports;
    named = k.named;
    imported = λ name a x i s e o. imported_by name a x i (seen_all means n names name (meaning.Import a) b.scopes s) e o;
    raises = λ name a s. raised name a (seen_all means n names name (meaning.Exception a) b.scopes s);
  }
    where
      imported_by : (name : List ℕ) (a x : ℕ) (i : Imported) → SeenIn means n names name (meaning.Import a) b.scopes
          → slice_get c.imports a ≡ Some i → i.origin ≡ origin.Local x → HasVariable b.variables x (ty.Module i.interface)
      imported_by name a x i (inl s) e o = k.imported name a x i s e o
      imported_by name a x i (inr s) e o = f s.0 a x i s.1 s.3 e o

      raised : (name : List ℕ) (a : ℕ) → SeenIn means n names name (meaning.Exception a) b.scopes → a < length c.exceptions
      raised name a (inl s) = k.raises name a s
      raised name a (inr s) = g s.0 a s.2 s.3

  pub entered_known : Known m c (record { scopes = entered b.scopes; variables = b.variables })
  entered_known = record {
    globals = k.globals;
    functions = k.functions;
    system = k.system;
    fd = k.fd;
    constants = k.constants;
    types = k.types;
    imports = k.imports;
    named = k.named;
    imported = λ name n x i s e o. k.imported name n x i (sym (innermost_counts.fresh name b.scopes) ∙ s) e o;
    raises = λ name n s. k.raises name n (sym (innermost_counts.fresh name b.scopes) ∙ s);
  }

-- ---- scopes that end

left_is : (inner outer : List Scope) → around inner ≡ outer → (left inner ≡ outer) ⊎ (left inner ≡ inner)
left_is [] outer e = inl e
left_is (scope ∷ []) outer e = inr refl
left_is (scope ∷ next ∷ more) outer e = inl e

-- Who leaves a scope that was entered there knows what was known there, and of the lists what is known behind it.
pub left_known : (m : Module) (c f : Context) (b d : Body) → Known m c b → Known m f d → around d.scopes ≡ b.scopes → Grows b d
    → Begins c.imports f.imports → AreThrough c.imports f.imports d.variables → Begins c.exceptions f.exceptions
    → Known m f (record { scopes = left d.scopes; variables = d.variables })
left_known m c f b d k h a g imports through exceptions = record {
  globals = h.globals;
  functions = h.functions;
  system = h.system;
  fd = h.fd;
  constants = h.constants;
  types = h.types;
  imports = h.imports;
  named = h.named;
  imported = λ name n x i s e o. imported_by name n x i (left_is d.scopes b.scopes a) s e o (slice_get c.imports n) refl;
  raises = λ name n s. raised name n (left_is d.scopes b.scopes a) s;
}
  where
    imported_by : (name : List ℕ) (n x : ℕ) (i : Imported) → (left d.scopes ≡ b.scopes) ⊎ (left d.scopes ≡ d.scopes)
        → seen name (left d.scopes) ≡ Some (meaning.Import n) → slice_get f.imports n ≡ Some i → i.origin ≡ origin.Local x
        → (o : Option Imported) → slice_get c.imports n ≡ o → HasVariable d.variables x (ty.Module i.interface)
    imported_by name n x i (inr q) s e o t r = h.imported name n x i (ap (seen name) (sym q) ∙ s) e o
    imported_by name n x i (inl q) s e o None r = through n x i r e o
    imported_by name n x i (inl q) s e o (Some j) r =
        let p : j ≡ i = same_Some j i (sym (imports n j r) ∙ e) in
        has_grown b d g x (ty.Module i.interface)
        (k.imported name n x i (ap (seen name) (sym q) ∙ s) (r ∙ ap (λ (z : Imported). Some z) p) o)

    raised : (name : List ℕ) (n : ℕ) → (left d.scopes ≡ b.scopes) ⊎ (left d.scopes ≡ d.scopes)
        → seen name (left d.scopes) ≡ Some (meaning.Exception n) → n < length f.exceptions
    raised name n (inr q) s = h.raises name n (ap (seen name) (sym q) ∙ s)
    raised name n (inl q) s =
        let l = k.raises name n (ap (seen name) (sym q) ∙ s) in
        let a = as_long c.exceptions f.exceptions exceptions in
        omega arith
