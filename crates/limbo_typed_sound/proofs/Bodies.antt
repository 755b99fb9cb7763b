-- Variables only grow, and a body that is well stays so.
use Rattle.std.proofs.Common.{◌≡◌, ℕ, Bool, true, false, cond, List, [], ◌∷◌, ◌++◌, length, Option, Some, refl, sym, ap, subst, ◌∙◌, inl}
use Rattle.std.specs.Prelude.{slice_get}
use Rattle.std.specs.Option.{option_or}
use Rattle.std.specs.Ordering.{nat_cmp, eq_by_cmp}
use Rattle.std.specs.Cmp.Lexicographic.{slice_cmp, nat_list_cmp_total}
use Rattle.std.specs.FinMap.{get, get-insert}
use Rattle.limbo_types.specs.Types.{Ty, Tys}
use Rattle.limbo_layout.specs.Adts.{listed}
use Rattle.limbo_tree.specs.Exprs as tree
use Rattle.limbo_typed.specs.Typed.{Pattern, Patterns, Module, Var}
use Rattle.limbo_typed.specs.Sound.{IsSettled, IsNamed, NamesAll, SoundPattern, SoundPatterns}
use Rattle.limbo_scope.specs.declared.meaning.Meaning.{Meaning}
use Rattle.limbo_scope.specs.declared.meaning.Meaning.TheVariants as meaning
use Rattle.limbo_scope.specs.Scopes.{Scope, seen, declared}
use Rattle.limbo_context.specs.Context.{Context, Body, with_variable}
use Rattle.limbo_permits.specs.Permits.{Permits}
use Rattle.limbo_defining.specs.Defining as defining
use Rattle.limbo_defining.specs.Defining.{Defines, DefineEach}
use Rattle.limbo_typed_sound.specs.Describing.{Begins, Describes, IsWell}
use Rattle.limbo_typed_sound.specs.Laws.{Grows}
use Rattle.limbo_typed_sound.proofs.Lists.{each_and, begins_with, at_end}
use Rattle.limbo_typed_sound.proofs.Ready.{all_named}
use Rattle.limbo_typed_sound.proofs.More.{more_names}

-- ---- variables only grow

none_more : (xs : List Var) → xs ≡ xs ++ []
none_more [] = refl
none_more (x ∷ xs) = ap (λ (z : List Var). x ∷ z) (none_more xs)

both_more : (xs ys zs : List Var) → (xs ++ ys) ++ zs ≡ xs ++ (ys ++ zs)
both_more [] ys zs = refl
both_more (x ∷ xs) ys zs = ap (λ (z : List Var). x ∷ z) (both_more xs ys zs)

pub stays : (b : Body) → Grows b b
stays b = ([], none_more b.variables)

pub goes_on : (b d e : Body) → Grows b d → Grows d e → Grows b e
goes_on b d e g h = (g.0 ++ h.0, h.1 ∙ ap (λ (z : List Var). z ++ h.0) g.1 ∙ both_more b.variables g.0 h.0)

mutual
  pub defines_grows : (b d : Body) (e : tree.Expr) (t : Ty) (p : Pattern) → Defines b e t p d → Grows b d
  defines_grows _ _ _ _ _ (defining.name b n t f) = ((record { name = n; ty = t }) ∷ [], refl)
  defines_grows _ _ _ _ _ (defining.Defines.parts b d e f es ts ps h) = define_each_grows b d (tree.MoreExprs e (tree.MoreExprs f es)) ts
      ps h

  define_each_grows : (b d : Body) (es : tree.Exprs) (ts : Tys) (ps : Patterns) → DefineEach b es ts ps d → Grows b d
  define_each_grows _ _ _ _ _ (defining.DefineEach.no_more b) = stays b
  define_each_grows _ _ _ _ _ (defining.DefineEach.nowhere b d t es ts ps h) = define_each_grows b d es ts ps h
  define_each_grows _ _ _ _ _ (defining.DefineEach.and_more b b1 d e t p es ts ps h k) =
      goes_on b b1 d (defines_grows b b1 e t p h) (define_each_grows b1 d es ts ps k)

-- what begins with the variables behind an expression begins with those before it
pub before : (b d : Body) (vs : List Var) → Grows b d → Begins d.variables vs → Begins b.variables vs
before b d vs g h n v e = h n v (subst (λ (z : List Var). slice_get z n ≡ Some v) (sym g.1) (begins_with b.variables g.0 n v e))

-- ---- a variable hides imported names alone

seen_before : (name other : List ℕ) (x n : ℕ) (scopes : List Scope)
    → seen other (declared name (meaning.Variable x) scopes) ≡ Some (meaning.Import n) → seen other scopes ≡ Some (meaning.Import n)
seen_before name other x n [] h = h
seen_before name other x n (scope ∷ outer) h =
    go (eq_by_cmp (slice_cmp nat_cmp) other name)
    (sym (ap (λ (o : Option Meaning). option_or o (seen other outer)) (get-insert nat_list_cmp_total scope name (meaning.Variable x)
    other)) ∙ h)
  where
    go : (same : Bool) → option_or (cond same (Some (meaning.Variable x)) (get scope other)) (seen other outer) ≡ Some (meaning.Import n)
        → seen other (scope ∷ outer) ≡ Some (meaning.Import n)
    go true e = absurd cc
    go false e = e

module _ (m : Module) (c : Context) where
  more_variables : (b : Body) (name : List ℕ) (t : Ty) → IsNamed m t → IsWell m c b → IsWell m c (with_variable name t b)
  more_variables b name t k w = record {
    named = each_and (λ v. IsNamed m v.ty) b.variables ((record { name = name; ty = t }) ∷ []) w.named (k, tt);
    imported = λ other n x i s e q.
        let h = w.imported other n x i (seen_before name other (length b.variables) n b.scopes s) e q in
        (h.0, begins_with b.variables ((record { name = name; ty = t }) ∷ []) x h.0 h.1, h.2);
  }

  mutual
    pub defines_well : (b d : Body) (e : tree.Expr) (t : Ty) (p : Pattern) → Defines b e t p d → IsNamed m t → IsWell m c b → IsWell m c d
    defines_well _ _ _ _ _ (defining.name b n t f) k w = more_variables b n t k w
    defines_well _ _ _ _ _ (defining.Defines.parts b d e f es ts ps h) k w =
        define_each_well b d (tree.MoreExprs e (tree.MoreExprs f es)) ts ps h (all_named m ts k.0 k.1) w

    define_each_well : (b d : Body) (es : tree.Exprs) (ts : Tys) (ps : Patterns) → DefineEach b es ts ps d → NamesAll m (listed ts)
        → IsWell m c b → IsWell m c d
    define_each_well _ _ _ _ _ (defining.DefineEach.no_more b) k w = w
    define_each_well _ _ _ _ _ (defining.DefineEach.nowhere b d t es ts ps h) k w = define_each_well b d es ts ps h k.1 w
    define_each_well _ _ _ _ _ (defining.DefineEach.and_more b b1 d e t p es ts ps h j) k w =
        define_each_well b1 d es ts ps j k.1 (defines_well b b1 e t p h k.0 w)

  pub permitted_named : Describes m c → (t : Ty) → Permits c t → IsSettled t → IsNamed m t
  permitted_named describes t p s =
      (more_names c.adts m.adts describes.adts (length c.modules) (length m.interfaces) describes.modules t p.allowed.names, s)

-- ---- what `:=` declares is sound

module _ (m : Module) (vs : List Var) where
  mutual
    pub defined : (b d : Body) (e : tree.Expr) (t : Ty) (p : Pattern) → Defines b e t p d → IsNamed m t → Begins d.variables vs
        → SoundPattern m vs p t
    defined _ _ _ _ _ (defining.name b n t f) k g =
        let v : Var = record { name = n; ty = t } in
        ((k, (v, g (length b.variables) v (at_end b.variables v), refl)), inl refl)
    defined _ _ _ _ _ (defining.Defines.parts b d e f es ts ps h) k g =
        (ts, refl, each_defined b d (tree.MoreExprs e (tree.MoreExprs f es)) ts ps h (all_named m ts k.0 k.1) g)

    each_defined : (b d : Body) (es : tree.Exprs) (ts : Tys) (ps : Patterns) → DefineEach b es ts ps d → NamesAll m (listed ts)
        → Begins d.variables vs → SoundPatterns m vs ps (listed ts)
    each_defined _ _ _ _ _ (defining.DefineEach.no_more b) k g = tt
    each_defined _ _ _ _ _ (defining.DefineEach.nowhere b d t es ts ps h) k g = (tt, each_defined b d es ts ps h k.1 g)
    each_defined _ _ _ _ _ (defining.DefineEach.and_more b b1 d e t p es ts ps h j) k g =
        (defined b b1 e t p h k.0 (before b1 d vs (define_each_grows b1 d es ts ps j) g), each_defined b1 d es ts ps j k.1 g)
