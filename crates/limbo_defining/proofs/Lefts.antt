-- The forms of left sides of the code.
use Rattle.std.proofs.Common.{◌≡◌, ◌<◌, ◌≤◌, suc, Bool, true, false, List, [], ◌∷◌, length, map, Vec, Global, refl, sym, ap, subst, ◌∙◌, arith}
use Rattle.inf_text.specs.declared.span.Span.{Span}
use Rattle.inf_text.specs.declared.text.Text.{Text}
use Rattle.limbo_types.specs.Types as ty
use Rattle.limbo_types.specs.Types.{Ty, Tys}
use Rattle.limbo_types.specs.View.{view_ty, view_tys}
use Rattle.limbo_types.specs.declared.ty.Ty as code_ty
use Rattle.limbo_types.specs.declared.ty.Ty.TheVariants as make_ty
use Rattle.limbo_types.proofs.Forms.{HasForm, has_form}
use Rattle.limbo_types.proofs.View.{view_ty-Tuple}
use Rattle.limbo_tree.specs.declared.expr.Expr as code_expr
use Rattle.limbo_tree.specs.declared.expr.Expr.{Expr-F, out-Expr, roll-Expr, roll-out-Expr, fold-roll-Expr}
use Rattle.limbo_tree.specs.declared.expr.Expr.TheVariants as make
use Rattle.limbo_tree.specs.Exprs as tree
use Rattle.limbo_tree.specs.View.{expr_step, init_step, view_expr, exprs_of}
use Rattle.limbo_typed.specs.Typed.{Pattern, ToParts, Patterns}
use Rattle.limbo_tree.proofs.Exprs.{view_expr-Name, view_expr-Group, view_expr-Nil}
use Rattle.limbo_tree.proofs.Others.{is_name, is_group, no_expr-Name, no_expr-Group}
use Rattle.limbo_refusals.specs.Refusals as refusals
use Rattle.limbo_context.specs.Context.{Body}
use Rattle.limbo_causes.specs.declared.fault.Cause as code_cause
use Rattle.limbo_causes.specs.Causes.{Cause, Refused, FailsBy}
use Rattle.limbo_defining.specs.Defining.{IsLeft, AreMany, parts_of, Defines, DefineEach, parts}
use Rattle.limbo_defining.specs.Defining.{FailsDefine, FailsDefineSome, no_name, other_parts, a_part}

-- ---- `nil`

abbrev pub is_nil : tree.Expr → Bool
is_nil tree.Nil = true
is_nil _ = false

pub no_expr-Nil : (e : code_expr.Expr) → ((s : Span) → e ≡ make.Nil s → ⊥) → is_nil (view_expr e) ≡ false
unfolding view_expr
no_expr-Nil e never = go (out-Expr e) (sym (roll-out-Expr e))
  where
    go : (y : Expr-F code_expr.Expr _) → e ≡ roll-Expr y → is_nil (view_expr e) ≡ false
    go (Expr-F.Nil s) at = absurd (never s (at ∙ make.rolls-Nil s))
    go y at = ap (λ x. is_nil (view_expr x)) at ∙ ap is_nil (fold-roll-Expr _ _ expr_step init_step y)

pub not_nil : (e : code_expr.Expr) → ((s : Span) → e ≡ make.Nil s → ⊥) → view_expr e ≡ tree.Nil → ⊥
not_nil e never at = let f : true ≡ false = sym (ap is_nil at) ∙ no_expr-Nil e never in cc

-- ---- neither a name nor several

no_left : (e : tree.Expr) → is_name e ≡ false → is_group e ≡ false → IsLeft e → ⊥
no_left (tree.Name n) p q h = let f : true ≡ false = p in cc
no_left (tree.Group es) p q h = let f : true ≡ false = q in cc
no_left _ p q h = h

pub no_place :
    (b : Body) (e : code_expr.Expr) (t : Ty) → ((n : Text) (s : Span) → e ≡ make.Name n s → ⊥)
    → ((es : Vec code_expr.Expr Global) (s : Span) → e ≡ make.Group es s → ⊥)
    → FailsDefine b (view_expr e) t (Refused refusals.NotPlace)
no_place b e t p q = no_name b (view_expr e) t (no_left (view_expr e) (no_expr-Name e p) (no_expr-Group e q))

pub no_several : (b : Body) (es : List code_expr.Expr) (t : Ty) → length es < 2
    → FailsDefine b (tree.Group (exprs_of (map view_expr es))) t (Refused refusals.NotPlace)
no_several b [] t l = no_name b (tree.Group tree.NoExprs) t (λ h. h)
no_several b (e ∷ []) t l = no_name b (tree.Group (tree.MoreExprs (view_expr e) tree.NoExprs)) t (λ h. h)
no_several b (e ∷ f ∷ es) t l = absurd (omega arith)

-- ---- as many parts

many : (es : List code_expr.Expr) (ts : List code_ty.Ty) → length es ≡ length ts → AreMany (exprs_of (map view_expr es)) (view_tys ts)
many [] [] e = tt
many [] (t ∷ ts) e = absurd (omega arith)
many (x ∷ es) [] e = absurd (omega arith)
many (x ∷ es) (t ∷ ts) e = many es ts (omega arith)

as_many : (es : List code_expr.Expr) (ts : List code_ty.Ty) → AreMany (exprs_of (map view_expr es)) (view_tys ts) → length es ≡ length ts
as_many [] [] h = refl
as_many [] (t ∷ ts) h = absurd h
as_many (x ∷ es) [] h = absurd h
as_many (x ∷ es) (t ∷ ts) h = ap suc (as_many es ts h)

-- a type of the code that is no tuple, or one of another number of parts
pub no_tuple : (es : List code_expr.Expr) (u : code_ty.Ty) → ((ts : Vec code_ty.Ty Global) → u ≡ make_ty.Tuple ts → ⊥)
    → parts_of (exprs_of (map view_expr es)) (view_ty u) → ⊥
no_tuple es u never = go (view_ty u) (has_form u)
  where
    go : (t : Ty) → HasForm u t → parts_of (exprs_of (map view_expr es)) t → ⊥
    go (ty.Tuple ts) h p = never h.0 h.1
    go _ h p = p

pub tuple_is : (u : code_ty.Ty) (ts : Vec code_ty.Ty Global) (xs : List code_ty.Ty) → u ≡ make_ty.Tuple ts → xs ≡ ts.items
    → view_ty u ≡ ty.Tuple (view_tys xs)
tuple_is u ts xs is at = ap view_ty is ∙ view_ty-Tuple ts ∙ ap (λ (z : List code_ty.Ty). ty.Tuple (view_tys z)) (sym at)

pub other_many : (es : List code_expr.Expr) (u : code_ty.Ty) (ts : Vec code_ty.Ty Global) → u ≡ make_ty.Tuple ts
    → (length es ≡ length ts.items → ⊥) → parts_of (exprs_of (map view_expr es)) (view_ty u) → ⊥
other_many es u ts is never h =
    never (as_many es ts.items (subst (λ (z : Ty). parts_of (exprs_of (map view_expr es)) z) (tuple_is u ts ts.items is refl) h))

pub clashes : (b : Body) (es : List code_expr.Expr) (t : Ty) → 2 ≤ length es → (parts_of (exprs_of (map view_expr es)) t → ⊥)
    → FailsDefine b (tree.Group (exprs_of (map view_expr es))) t (Refused (refusals.Clash t t))
clashes b [] t l never = absurd (omega arith)
clashes b (e ∷ []) t l never = absurd (omega arith)
clashes b (e ∷ f ∷ es) t l never = other_parts b (view_expr e) (view_expr f) (exprs_of (map view_expr es)) t never

pub several_defined : (b b' : Body) (es : List code_expr.Expr) (t : Ty) (ts : Tys) (p : Pattern) (ps : Patterns) → 2 ≤ length es
    → t ≡ ty.Tuple ts → p ≡ ToParts ps → DefineEach b (exprs_of (map view_expr es)) ts ps b'
    → Defines b (tree.Group (exprs_of (map view_expr es))) t p b'
several_defined b b' [] t ts p ps l x y h = absurd (omega arith)
several_defined b b' (e ∷ []) t ts p ps l x y h = absurd (omega arith)
several_defined b b' (e ∷ f ∷ es) t ts p ps l x y h =
    let all = tree.Group (tree.MoreExprs (view_expr e) (tree.MoreExprs (view_expr f) (exprs_of (map view_expr es)))) in
    subst (λ (z : Ty). Defines b all z p b') (sym x)
    (subst (λ (z : Pattern). Defines b all (ty.Tuple ts) z b') (sym y)
    (parts b b' (view_expr e) (view_expr f) (exprs_of (map view_expr es)) ts ps h))

pub some_fails : (b : Body) (es : List code_expr.Expr) (ts : List code_ty.Ty) (t : Ty) (k : Cause) → 2 ≤ length es → length es ≡ length ts
    → t ≡ ty.Tuple (view_tys ts) → FailsDefineSome b (exprs_of (map view_expr es)) (view_tys ts) k
    → FailsDefine b (tree.Group (exprs_of (map view_expr es))) t k
some_fails b [] ts t k l m x h = absurd (omega arith)
some_fails b (e ∷ []) ts t k l m x h = absurd (omega arith)
some_fails b (e ∷ f ∷ es) ts t k l m x h =
    let all = tree.Group (tree.MoreExprs (view_expr e) (tree.MoreExprs (view_expr f) (exprs_of (map view_expr es)))) in
    subst (λ (z : Ty). FailsDefine b all z k) (sym x)
    (a_part b (view_expr e) (view_expr f) (exprs_of (map view_expr es)) (view_tys ts) k (many (e ∷ f ∷ es) ts m) h)

-- ---- by what is equal

pub defined_as : (b b' : Body) (e x : tree.Expr) (t : Ty) (p : Pattern) → e ≡ x → Defines b x t p b' → Defines b e t p b'
defined_as b b' e x t p is h = subst (λ (z : tree.Expr). Defines b z t p b') (sym is) h

pub fails_as : (k : code_cause.Cause) (b : Body) (e x : tree.Expr) (t : Ty) → e ≡ x → FailsBy k (FailsDefine b x t) → FailsBy k (FailsDefine b e t)
fails_as k b e x t is h = subst (λ (z : tree.Expr). FailsBy k (FailsDefine b z t)) (sym is) h

pub name_is : (e : code_expr.Expr) (n : Text) (s : Span) → e ≡ make.Name n s → view_expr e ≡ tree.Name n
name_is e n s is = ap view_expr is ∙ view_expr-Name n s

pub group_is : (e : code_expr.Expr) (es : Vec code_expr.Expr Global) (s : Span) (xs : List code_expr.Expr) → e ≡ make.Group es s → xs ≡ es.items
    → view_expr e ≡ tree.Group (exprs_of (map view_expr xs))
group_is e es s xs is at =
    ap view_expr is ∙ view_expr-Group es s ∙ ap (λ (z : List code_expr.Expr). tree.Group (exprs_of (map view_expr z))) (sym at)

pub nil_is : (e : code_expr.Expr) (s : Span) → e ≡ make.Nil s → view_expr e ≡ tree.Nil
nil_is e s is = ap view_expr is ∙ view_expr-Nil s
