-- Literals: what there is of parts, and when there is none.
use Rattle.std.proofs.Common.{◌≡◌, ℤ, true, false, List, [], ◌∷◌, refl, sym, ap, subst, ◌∙◌, inl}
use Rattle.limbo_types.specs.Types.{Ty, Int, ArrayOf, ListOf}
use Rattle.limbo_types.specs.View.{tys_of, view_ty}
use Rattle.limbo_types.specs.declared.ty.Ty.TheVariants as make
use Rattle.limbo_types.proofs.View.{view_ty-Int}
use Rattle.limbo_typed.specs.declared.expr.TExpr as code_expr
use Rattle.limbo_typed.specs.View.{view_expr}
use Rattle.limbo_typed.proofs.View.{view_expr-out}
use Rattle.limbo_forms.specs.Forms.{is_int}
use Rattle.limbo_forms.proofs.Tests.{int_is}
use Rattle.limbo_layout.specs.Adts.{listed}
use Rattle.limbo_typed.specs.declared.operation.Operation.TheVariants as op
use Rattle.limbo_typed.specs.Typed.{Expr, Of, Exprs, NoExprs, MoreExprs, Optional, Absent, Present, Items, NoItems, MoreItems, Module, Var}
use Rattle.limbo_typed.specs.Typed.{Apply, Filled}
use Rattle.limbo_typed.specs.Fitting.{AllStand}
use Rattle.limbo_typed.specs.Sound.{IsSettled, type_of, types_of, SoundItems, SoundOptional}
use Rattle.limbo_refusals.specs.Refusals.{Refusal, Clash, NoneIs}
use Rattle.limbo_standing.specs.Joining.{Joins}
use Rattle.limbo_standing.specs.Standing.{Settles, SettleAll, SettleItems, SettleRest}
use Rattle.limbo_standing.specs.Standing as rule
use Rattle.limbo_standing.proofs.Elements.{joins_once}
use Rattle.limbo_standing.proofs.Runs.{listed_tys}
use Rattle.limbo_standing.proofs.Settled.{settled_once, settled_stands}
use Rattle.limbo_arguments.specs.Failing.{FailsAll}
use Rattle.limbo_arguments.proofs.Each.{all_once, all_stand, all_fail}
use Rattle.limbo_literals.specs.Literals.{Tuples, Lists, Fills, Sizes, Makes, IsLength, element_types}
use Rattle.limbo_literals.specs.Literals as literal
use Rattle.limbo_literals.specs.Refusing.{Apart, RefusesList, NoLength, NoLengthIn, FailsItems, FailsRest, UnlikeItems, RefusesFill}
use Rattle.limbo_literals.specs.Refusing as refusing
use Rattle.limbo_arguments.specs.Parts.{SoundValues, SoundMaybe}
use Rattle.limbo_literals.specs.Laws.{IsFit}
use Rattle.limbo_literals.proofs.Elements.{apart_none}

-- ---- elements of an array

item_first : (t : Ty) (i : ℤ) (e : Expr) (is js : Items) → SettleItems t (MoreItems i e is) js
    → (f : Expr) × (ks : Items) × Settles t e f × SettleItems t is ks × (MoreItems i f ks ≡ js)
item_first t i e is _ (rule.SettleItems.items _ _ _ f _ ks h more) = (f, ks, h, more, refl)

no_items : (t : Ty) (js : Items) → SettleItems t NoItems js → NoItems ≡ js
no_items _ _ (rule.no_items t) = refl

pub items_once : (t : Ty) (is js ks : Items) → SettleItems t is js → SettleItems t is ks → js ≡ ks
items_once _ _ _ ks (rule.no_items t) k = no_items t ks k
items_once _ _ _ ks (rule.SettleItems.items t i e f is js h more) k =
    let p = item_first t i e is ks k in
    let q : f ≡ p.0 = settled_once t e f p.0 h p.2 in
    let r : js ≡ p.1 = items_once t is js p.1 more p.3 in
    let s : MoreItems i p.0 p.1 ≡ ks = p.4 in
    cc

rest_first : (t : Ty) (e : Expr) (last : Optional) → SettleRest t (Present e) last → (f : Expr) × Settles t e f × (Present f ≡ last)
rest_first t e _ (rule.SettleRest.rest _ _ f h) = (f, h, refl)

no_rest : (t : Ty) (last : Optional) → SettleRest t Absent last → Absent ≡ last
no_rest _ _ (rule.no_rest t) = refl

pub rest_once : (t : Ty) (rest last other : Optional) → SettleRest t rest last → SettleRest t rest other → last ≡ other
rest_once _ _ _ other (rule.no_rest t) k = no_rest t other k
rest_once _ _ _ other (rule.SettleRest.rest t e f h) k =
    let p = rest_first t e other k in
    let q : f ≡ p.0 = settled_once t e f p.0 h p.1 in
    ap Present q ∙ p.2

pub items_fail : (t : Ty) (is js : Items) (r : Refusal) → FailsItems t is r → SettleItems t is js → ⊥
items_fail t _ js _ (refusing.this_item i e is r h) k = let p = item_first t i e is js k in h.stands_not p.0 p.2
items_fail t _ js _ (refusing.later_item i e f is r h more) k = let p = item_first t i e is js k in items_fail t is p.1 r more p.3

pub rest_fails : (t : Ty) (rest last : Optional) (r : Refusal) → FailsRest t rest r → SettleRest t rest last → ⊥
rest_fails t Absent last r h k = h
rest_fails t (Present e) last r h k = let p = rest_first t e last k in h.stands_not p.0 p.1

unlike_fail : (t : Ty) (is js : Items) (rest last : Optional) (r : Refusal) → UnlikeItems t is rest r → SettleItems t is js
    → SettleRest t rest last → ⊥
unlike_fail t is js rest last r (refusing.an_item h) k l = items_fail t is js r h k
unlike_fail t is js rest last r (refusing.the_rest ks i h) k l = rest_fails t rest last r h l

-- ---- lengths

pub length_int : (e : code_expr.TExpr) → is_int (view_ty e.ty) ≡ true → type_of (view_expr e) ≡ Int
length_int e h = ap type_of (view_expr-out e) ∙ int_is (view_ty e.ty) h

pub length_not : (e : code_expr.TExpr) → is_int (view_ty e.ty) ≡ false → NoLength (view_expr e) (Clash (view_ty e.ty) (view_ty make.Int))
length_not e h =
    let p : type_of (view_expr e) ≡ view_ty e.ty = ap type_of (view_expr-out e) in
    record {
      no_int = λ q. let f : true ≡ false = ap is_int (sym q ∙ p) ∙ h in cc;
      clash = ap (λ t. Clash t (view_ty make.Int)) (sym p) ∙ ap (λ t. Clash (type_of (view_expr e)) t) view_ty-Int;
    }

-- ---- when there is none

list_unlike : (es : Exprs) (e : Expr) (r : Refusal) (t : Ty) → Joins (types_of es) t → IsSettled t → FailsAll t es r → Lists es e → ⊥
list_unlike es e r t j i fail (literal.of_type u fs k s h g) =
    all_fail t es fs r fail (subst (λ (z : Ty). SettleAll z es fs) (joins_once (types_of es) u t k j) h)
list_unlike es e r t j i fail (literal.open_yet u k never g) = never (subst IsSettled (joins_once (types_of es) t u j k) i)

list_apart : (es : Exprs) (e : Expr) (r : Refusal) → Apart (types_of es) r → Lists es e → ⊥
list_apart es e r a (literal.of_type u fs k s h g) = apart_none (types_of es) r a u k
list_apart es e r a (literal.open_yet u k never g) = apart_none (types_of es) r a u k

pub lists_none : (es : Exprs) (r : Refusal) → RefusesList es r → RefusesList es r × NoneIs (Lists es)
lists_none es r (refusing.RefusesList.apart a) = (refusing.RefusesList.apart a, λ e h. list_apart es e r a h)
lists_none es r (refusing.RefusesList.unlike t j i f) = (refusing.RefusesList.unlike t j i f, λ e h. list_unlike es e r t j i f h)

fill_unlike : (k : Optional) (is : Items) (rest : Optional) (e : Expr) (r : Refusal) (t : Ty) → Joins (element_types is rest) t
    → IsSettled t
    → UnlikeItems t is rest r → Fills k is rest e → ⊥
fill_unlike k is rest e r t j i fail (literal.of_elements u js last n m s h l g) =
    let p = joins_once (element_types is rest) u t m j in
    unlike_fail t is js rest last r fail (subst (λ (z : Ty). SettleItems z is js) p h) (subst (λ (z : Ty). SettleRest z rest last) p l)
fill_unlike k is rest e r t j i fail (literal.open_elements u n m never g) =
    never (subst IsSettled (joins_once (element_types is rest) t u j m) i)

fill_apart : (k : Optional) (is : Items) (rest : Optional) (e : Expr) (r : Refusal) → Apart (element_types is rest) r
    → Fills k is rest e → ⊥
fill_apart k is rest e r a (literal.of_elements u js last n m s h l g) = apart_none (element_types is rest) r a u m
fill_apart k is rest e r a (literal.open_elements u n m never g) = apart_none (element_types is rest) r a u m

fill_length : (k : Optional) (is : Items) (rest : Optional) (e : Expr) → Fills k is rest e → IsLength k
fill_length k is rest e (literal.of_elements u js last n m s h l g) = n
fill_length k is rest e (literal.open_elements u n m never g) = n

no_length_in : (k : Optional) (r : Refusal) → NoLengthIn k r → IsLength k → ⊥
no_length_in Absent r h l = h
no_length_in (Present e) r h l = h.no_int l

pub fills_none : (k : Optional) (is : Items) (rest : Optional) (r : Refusal) → RefusesFill k is rest r
    → RefusesFill k is rest r × NoneIs (Fills k is rest)
fills_none k is rest r (refusing.no_length h) = (refusing.no_length h, λ f g. no_length_in k r h (fill_length k is rest f g))
fills_none k is rest r (refusing.RefusesFill.apart a) = (refusing.RefusesFill.apart a, λ e h. fill_apart k is rest e r a h)
fills_none k is rest r (refusing.RefusesFill.unlike t j i f) =
    (refusing.RefusesFill.unlike t j i f, λ e h. fill_unlike k is rest e r t j i f h)

pub sizes_none : (k : Expr) (t : Ty) (r : Refusal) → NoLength k r → NoLength k r × NoneIs (Sizes k t)
sizes_none k t r h = (h, λ e s. h.no_int s.int)

-- ---- one at most

pub one_list : (es : Exprs) (e f : Expr) → Lists es e → Lists es f → e ≡ f
one_list es e f (literal.of_type t fs j i h p) (literal.of_type u gs k s l q) =
    let x : t ≡ u = joins_once (types_of es) t u j k in
    let y : fs ≡ gs = all_once u es fs gs (subst (λ (z : Ty). SettleAll z es fs) x h) l in
    p ∙ ap (λ z. Of (ListOf z) (Apply op.List fs)) x ∙ ap (λ z. Of (ListOf u) (Apply op.List z)) y ∙ sym q
one_list es e f (literal.of_type t fs j i h p) (literal.open_yet u k never q) =
    absurd (never (subst IsSettled (joins_once (types_of es) t u j k) i))
one_list es e f (literal.open_yet t j never p) (literal.of_type u gs k i l q) =
    absurd (never (subst IsSettled (joins_once (types_of es) u t k j) i))
one_list es e f (literal.open_yet t j never p) (literal.open_yet u k other q) = p ∙ sym q

pub one_fill : (n : Optional) (is : Items) (rest : Optional) (e f : Expr) → Fills n is rest e → Fills n is rest f → e ≡ f
one_fill n is rest e f (literal.of_elements t js last a j i h l p) (literal.of_elements u ks more b k s g m q) =
    let x : t ≡ u = joins_once (element_types is rest) t u j k in
    let y : js ≡ ks = items_once u is js ks (subst (λ (z : Ty). SettleItems z is js) x h) g in
    let w : last ≡ more = rest_once u rest last more (subst (λ (z : Ty). SettleRest z rest last) x l) m in
    p ∙ ap (λ z. Of (ArrayOf z) (Filled n js last)) x ∙ ap (λ z. Of (ArrayOf u) (Filled n z last)) y
    ∙ ap (λ z. Of (ArrayOf u) (Filled n ks z)) w ∙ sym q
one_fill n is rest e f (literal.of_elements t js last a j i h l p) (literal.open_elements u b k never q) =
    absurd (never (subst IsSettled (joins_once (element_types is rest) t u j k) i))
one_fill n is rest e f (literal.open_elements t a j never p) (literal.of_elements u ks more b k i g m q) =
    absurd (never (subst IsSettled (joins_once (element_types is rest) u t k j) i))
one_fill n is rest e f (literal.open_elements t a j never p) (literal.open_elements u b k other q) = p ∙ sym q

pub one_equal : (e f g : Expr) → e ≡ g → f ≡ g → e ≡ f
one_equal e f g p q = p ∙ sym q

pub one_size : (n : Expr) (t : Ty) (e f : Expr) → Sizes n t e → Sizes n t f → e ≡ f
one_size n t e f h k = h.gives ∙ sym k.gives

-- ---- soundness

all_stand_alike : (ts : List Ty) → AllStand ts ts
all_stand_alike [] = tt
all_stand_alike (t ∷ ts) = (inl refl, all_stand_alike ts)

pub tuple_fits : (m : Module) (vs : List Var) (es : Exprs) (e : Expr) → Tuples es e → IsFit m vs e
tuple_fits m vs es e q =
    let ts = types_of es in
    let p : AllStand ts (listed (tys_of ts)) = subst (λ (z : List Ty). AllStand ts z) (sym (listed_tys ts)) (all_stand_alike ts) in
    subst (IsFit m vs) (sym q) (λ settled parts. (parts, (tys_of ts, refl, p)))

pub list_fits : (m : Module) (vs : List Var) (es : Exprs) (e : Expr) → Lists es e → IsFit m vs e
list_fits m vs es e (literal.of_type t fs j i h q) =
    subst (IsFit m vs) (sym q) (λ settled parts. (parts, (t, refl, all_stand t es fs h)))
list_fits m vs es e (literal.open_yet t j never q) = subst (IsFit m vs) (sym q) (λ settled parts. absurd settled)

length_fits : (m : Module) (vs : List Var) (n : Optional) → IsLength n → SoundMaybe m vs n → SoundOptional m vs n Int
length_fits m vs Absent h s = tt
length_fits m vs (Present e) h s = (s, inl h)

items_fit : (m : Module) (vs : List Var) (t : Ty) (is js : Items) → SettleItems t is js → SoundValues m vs js → SoundItems m vs js t
items_fit m vs _ _ _ (rule.no_items t) s = tt
items_fit m vs _ _ _ (rule.SettleItems.items t i e f is js h more) s = (s.0, settled_stands t e f h, items_fit m vs t is js more s.1)

rest_fits : (m : Module) (vs : List Var) (t : Ty) (rest last : Optional) → SettleRest t rest last → SoundMaybe m vs last
    → SoundOptional m vs last t
rest_fits m vs _ _ _ (rule.no_rest t) s = tt
rest_fits m vs _ _ _ (rule.SettleRest.rest t e f h) s = (s, settled_stands t e f h)

pub fill_fits : (m : Module) (vs : List Var) (n : Optional) (is : Items) (rest : Optional) (e : Expr) → Fills n is rest e → IsFit m vs e
fill_fits m vs n is rest e (literal.of_elements t js last a j i h l q) =
    subst (IsFit m vs) (sym q) (λ settled parts.
    (t, refl, length_fits m vs n a parts.0, items_fit m vs t is js h parts.1, rest_fits m vs t rest last l parts.2))
fill_fits m vs n is rest e (literal.open_elements t a j never q) = subst (IsFit m vs) (sym q) (λ settled parts. absurd settled)

pub size_fits : (m : Module) (vs : List Var) (n : Expr) (t : Ty) (e : Expr) → Sizes n t e → IsFit m vs e
size_fits m vs n t e s =
    let p : types_of (MoreExprs n NoExprs) ≡ Int ∷ [] = ap (λ u. u ∷ []) s.int in
    subst (IsFit m vs) (sym s.gives) (λ settled parts. (parts, (t, refl, p)))

pub make_fits : (m : Module) (vs : List Var) (t : Ty) (e : Expr) → Makes t e → IsFit m vs e
make_fits m vs t e q = subst (IsFit m vs) (sym q) (λ settled parts. (tt, tt))
