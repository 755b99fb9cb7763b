-- Left sides one after the other.
use Rattle.std.proofs.Common.{◌≡◌, ◌<◌, ◌≤◌, ◌+◌, ◌++◌, ◌∷◌, [], ℕ, List, length, get_or, map, drop, suc, sym, ap, subst, arith, append_assoc, append-nil, add-one, drop-cons}
use Rattle.std.proofs.lemmas.Grind.{common_steps}
use Rattle.limbo_types.specs.Types as ty
use Rattle.limbo_types.specs.Types.{Ty, Tys}
use Rattle.limbo_types.specs.View.{view_ty, view_tys}
use Rattle.limbo_types.specs.declared.ty.Ty as code_ty
use Rattle.limbo_tree.specs.declared.expr.Expr as code_expr
use Rattle.limbo_tree.specs.Exprs as tree
use Rattle.limbo_tree.specs.View.{view_expr, exprs_of}
use Rattle.limbo_typed.specs.Typed.{Pattern, Patterns, NoPatterns, MorePatterns}
use Rattle.limbo_typed.specs.View.{patterns_of}
use Rattle.limbo_context.specs.Context.{Body}
use Rattle.limbo_causes.specs.Causes.{Cause}
use Rattle.limbo_defining.specs.Defining.{DefineEach, no_more, nowhere, and_more}
use Rattle.limbo_defining.specs.Defining.{FailsDefineSome, behind_nil, this, behind}
use Rattle.limbo_defining.specs.Parts.{DefinesPart, stays, declares, FailsPart}

-- ---- one part, and those behind it

pub defined_first : (b b' b'' : Body) (e : tree.Expr) (t : Ty) (p : Pattern) (es : tree.Exprs) (ts : Tys) (ps : Patterns)
    → DefinesPart b e t p b' → DefineEach b' es ts ps b'' → DefineEach b (tree.MoreExprs e es) (ty.MoreTys t ts) (MorePatterns p ps) b''
defined_first b b' b'' e t p es ts ps (stays x y z) h =
    subst (λ (w : tree.Expr). DefineEach b (tree.MoreExprs w es) (ty.MoreTys t ts) (MorePatterns p ps) b'') (sym x)
    (subst (λ (w : Pattern). DefineEach b (tree.MoreExprs tree.Nil es) (ty.MoreTys t ts) (MorePatterns w ps) b'') (sym y)
    (nowhere b b'' t es ts ps (subst (λ (w : Body). DefineEach w es ts ps b'') z h)))
defined_first b b' b'' e t p es ts ps (declares x) h = and_more b b' b'' e t p es ts ps x h

pub fails_behind : (b b' : Body) (e : tree.Expr) (t : Ty) (p : Pattern) (es : tree.Exprs) (ts : Tys) (k : Cause)
    → DefinesPart b e t p b' → FailsDefineSome b' es ts k → FailsDefineSome b (tree.MoreExprs e es) (ty.MoreTys t ts) k
fails_behind b b' e t p es ts k (stays x y z) h =
    subst (λ (w : tree.Expr). FailsDefineSome b (tree.MoreExprs w es) (ty.MoreTys t ts) k) (sym x)
    (behind_nil b t es ts k (subst (λ (w : Body). FailsDefineSome w es ts k) z h))
fails_behind b b' e t p es ts k (declares x) h = behind b b' e t p es ts k x h

pub fails_first : (b : Body) (e : tree.Expr) (t : Ty) (es : tree.Exprs) (ts : Tys) (k : Cause) → FailsPart b e t k
    → FailsDefineSome b (tree.MoreExprs e es) (ty.MoreTys t ts) k
fails_first b e t es ts k h = this b e t es ts k h.no_nil h.fails

-- ---- some parts of all are defined

-- Whatever the rest comes to, all come to.
pub record Leads (first b : Body) (all : tree.Exprs) (types : Tys) (rest : tree.Exprs) (more : Tys) (done : List Pattern) : Type 0 where
  pub defines : (ps : List Pattern) (b' : Body) → DefineEach b rest more (patterns_of ps) b' → DefineEach first all types (patterns_of (done ++ ps)) b'
  pub fails : (k : Cause) → FailsDefineSome b rest more k → FailsDefineSome first all types k

begins : (b : Body) (all : tree.Exprs) (types : Tys) → Leads b b all types all types []
begins b all types = record { defines = λ ps b' h. h; fails = λ k h. h }

goes_on : (first b b' : Body) (all : tree.Exprs) (types : Tys) (e : tree.Expr) (t : Ty) (rest : tree.Exprs) (more : Tys) (done : List Pattern) (p : Pattern)
    → Leads first b all types (tree.MoreExprs e rest) (ty.MoreTys t more) done → DefinesPart b e t p b'
    → Leads first b' all types rest more (done ++ (p ∷ []))
goes_on first b b' all types e t rest more done p l d = record {
  defines = λ ps b'' h.
      subst (λ (w : List Pattern). DefineEach first all types (patterns_of w) b'') (sym (append_assoc done (p ∷ []) ps))
      (l.defines (p ∷ ps) b'' (defined_first b b' b'' e t p rest more (patterns_of ps) d h));
  fails = λ k h. l.fails k (fails_behind b b' e t p rest more k d h);
}

-- ---- the code's loop

abbrev pub exprs_from : ℕ → List code_expr.Expr → tree.Exprs
exprs_from i es = exprs_of (map view_expr (drop i es))

abbrev pub types_from : ℕ → List code_ty.Ty → Tys
types_from i ts = view_tys (drop i ts)

-- So many of these left sides are defined, as these patterns.
abbrev pub Defined : (first b : Body) → List code_expr.Expr → List code_ty.Ty → ℕ → List Pattern → Type 0
Defined first b es ts i done = Leads first b (exprs_of (map view_expr es)) (view_tys ts) (exprs_from i es) (types_from i ts) done

behind_first : {A : Type 0} (xs : List A) (i : ℕ) (x : A) → i < length xs → x ≡ get_or xs i x → drop i xs ≡ x ∷ drop (i + 1) xs
behind_first xs i x l e = rw (add-one, drop-cons xs i x) (ap (λ w. w ∷ drop (suc i) xs) (sym e))

next_expr : (es : List code_expr.Expr) (i : ℕ) (x : code_expr.Expr) → i < length es → x ≡ get_or es i x
    → exprs_from i es ≡ tree.MoreExprs (view_expr x) (exprs_from (i + 1) es)
next_expr es i x l e = ap (λ (z : List code_expr.Expr). exprs_of (map view_expr z)) (behind_first es i x l e)

next_type : (ts : List code_ty.Ty) (i : ℕ) (x : code_ty.Ty) → i < length ts → x ≡ get_or ts i x
    → types_from i ts ≡ ty.MoreTys (view_ty x) (types_from (i + 1) ts)
next_type ts i x l e = ap (λ (z : List code_ty.Ty). view_tys z) (behind_first ts i x l e)

none_behind : {A : Type 0} (xs : List A) (i : ℕ) → length xs ≤ i → drop i xs ≡ []
none_behind xs i l = grind (arith, common_steps)

module _ (first : Body) (es : List code_expr.Expr) (ts : List code_ty.Ty) where
  pub none_defined : Defined first first es ts 0 []
  none_defined = begins first (exprs_of (map view_expr es)) (view_tys ts)

  pub one_more : (b b' : Body) (i : ℕ) (x : code_expr.Expr) (t : code_ty.Ty) (done : List Pattern) (p : Pattern) → i < length es
      → i < length ts → x ≡ get_or es i x → t ≡ get_or ts i t → Defined first b es ts i done
      → DefinesPart b (view_expr x) (view_ty t) p b' → Defined first b' es ts (i + 1) (done ++ (p ∷ []))
  one_more b b' i x t done p l m e f h d =
      goes_on first b b' (exprs_of (map view_expr es)) (view_tys ts) (view_expr x) (view_ty t) (exprs_from (i + 1) es) (types_from (i + 1) ts) done p
      (subst (λ (z : Tys). Leads first b (exprs_of (map view_expr es)) (view_tys ts) (tree.MoreExprs (view_expr x) (exprs_from (i + 1) es)) z done)
      (next_type ts i t m f)
      (subst (λ (z : tree.Exprs). Leads first b (exprs_of (map view_expr es)) (view_tys ts) z (types_from i ts) done) (next_expr es i x l e) h))
      d

  pub one_fails : (b : Body) (i : ℕ) (x : code_expr.Expr) (t : code_ty.Ty) (done : List Pattern) (k : Cause) → i < length es
      → i < length ts → x ≡ get_or es i x → t ≡ get_or ts i t → Defined first b es ts i done → FailsPart b (view_expr x) (view_ty t) k
      → FailsDefineSome first (exprs_of (map view_expr es)) (view_tys ts) k
  one_fails b i x t done k l m e f h g =
      h.fails k
      (subst (λ (z : Tys). FailsDefineSome b (exprs_from i es) z k) (sym (next_type ts i t m f))
      (subst (λ (z : tree.Exprs). FailsDefineSome b z (ty.MoreTys (view_ty t) (types_from (i + 1) ts)) k) (sym (next_expr es i x l e))
      (fails_first b (view_expr x) (view_ty t) (exprs_from (i + 1) es) (types_from (i + 1) ts) k g)))

  pub all_defined : (b : Body) (i : ℕ) (done : List Pattern) → length es ≤ i → length ts ≤ i → Defined first b es ts i done
      → DefineEach first (exprs_of (map view_expr es)) (view_tys ts) (patterns_of done) b
  all_defined b i done l m h =
      let rest : exprs_from i es ≡ tree.NoExprs = ap (λ (z : List code_expr.Expr). exprs_of (map view_expr z)) (none_behind es i l) in
      let more : types_from i ts ≡ ty.NoTys = ap (λ (z : List code_ty.Ty). view_tys z) (none_behind ts i m) in
      subst (λ (z : List Pattern). DefineEach first (exprs_of (map view_expr es)) (view_tys ts) (patterns_of z) b) (append-nil done)
      (h.defines [] b
      (subst (λ (z : tree.Exprs). DefineEach b z (types_from i ts) NoPatterns b) (sym rest)
      (subst (λ (z : Tys). DefineEach b tree.NoExprs z NoPatterns b) (sym more) (no_more b))))
