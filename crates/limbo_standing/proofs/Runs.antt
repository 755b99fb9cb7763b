-- Values that are settled one after the other.
use Rattle.std.proofs.Common.{◌≡◌, ◌+◌, ◌<◌, ℕ, zero, suc, ◌≤◌, List, [], ◌∷◌, ◌++◌, map, take, drop, length, get_or, Option, Some, None, option_map, refl, sym, ap, ◌∙◌, arith}
use Rattle.std.proofs.Common.{Bool, true, false, ◌≢◌, ◌==◌, subst, get_or-set_other, rules, tests}
use Rattle.limbo_types.specs.declared.ty.Ty as code_ty
use Rattle.limbo_types.specs.View.{tys_of, view_ty}
use Rattle.limbo_typed.specs.limbo_layout.Adts.{listed}
use Rattle.std.proofs.Math.ListN.{set}
use Rattle.std.proofs.Math.Seq.{drop-cons}
use Rattle.std.proofs.lemmas.List.{take_more_set, drop-set-lt, take_all, drop_all}
use Rattle.limbo_types.specs.Types.{Ty}
use Rattle.limbo_typed.specs.declared.expr.TExpr as code_expr
use Rattle.limbo_typed.specs.declared.expr.Item as code_item
use Rattle.limbo_typed.specs.Typed.{Expr, Exprs, NoExprs, MoreExprs, Items, NoItems, MoreItems}
use Rattle.limbo_typed.specs.View.{view_expr, view_exprs, view_item, exprs_of, items_of}
use Rattle.limbo_typed.specs.View as view
use Rattle.limbo_typed.proofs.View.{view_item-out}
use Rattle.limbo_standing.specs.Settling.{Tells, both, settled, settled_each, settled_all, settled_items}

-- values before others
abbrev pub with_front : List Expr → Option Exprs → Option Exprs
with_front [] o = o
with_front (e ∷ es) o = option_map (MoreExprs e) (with_front es o)

front_more : (es : List Expr) (e : Expr) (o : Option Exprs) → with_front (es ++ e ∷ []) o ≡ with_front es (option_map (MoreExprs e) o)
front_more [] e o = refl
front_more (d ∷ ds) e o = ap (option_map (MoreExprs d)) (front_more ds e o)

front_none : (es : List Expr) → with_front es None ≡ None
front_none [] = refl
front_none (e ∷ es) = ap (option_map (MoreExprs e)) (front_none es)

front_all : (es : List Expr) → with_front es (Some NoExprs) ≡ Some (exprs_of es)
front_all [] = refl
front_all (e ∷ es) = ap (option_map (MoreExprs e)) (front_all es)

map_last : {A B : Type 0} (f : A → B) (xs : List A) (x : A) → map f (xs ++ x ∷ []) ≡ map f xs ++ f x ∷ []
map_last f [] x = refl
map_last f (y ∷ ys) x = ap (λ zs. f y ∷ zs) (map_last f ys x)

both_some : {A B C : Type 0} (f : A → B → C) (a : A) (o : Option B) → both f (Some a) o ≡ option_map (f a) o
both_some f a (Some b) = refl
both_some f a None = refl

abbrev Value : Type 0
Value = code_expr.TExpr

-- the front with one more value, where another was
front_next : (new : List Value) (i : ℕ) (y : Value) (o : Option Exprs) → i < length new
    → with_front (map view_expr (take (i + 1) (set new i y))) o ≡ with_front (map view_expr (take i new)) (option_map (MoreExprs (view_expr y)) o)
front_next new i y o l =
    ap (λ xs. with_front (map view_expr xs) o) (take_more_set new i y l)
    ∙ ap (λ es. with_front es o) (map_last view_expr (take i new) y)
    ∙ front_more (map view_expr (take i new)) (view_expr y) o

rest_next : (new : List Value) (i : ℕ) (y : Value) → drop (i + 1) (set new i y) ≡ drop (suc i) new
rest_next new i y = ap (λ n. drop n (set new i y)) (let e : i + 1 ≡ suc i = omega arith in e) ∙ drop-set-lt (suc i) new i y (omega arith)

-- ---- where one type is asked for

pub all_next : (t : Ty) (new : List Value) (i : ℕ) (d y : Value) → i < length new → settled t (view_expr (get_or new i d)) ≡ Some (view_expr y)
    → with_front (map view_expr (take i new)) (settled_all t (view_exprs (drop i new)))
    ≡ with_front (map view_expr (take (i + 1) (set new i y))) (settled_all t (view_exprs (drop (i + 1) (set new i y))))
all_next t new i d y l e =
    let f : settled_all t (view_exprs (drop i new)) ≡ option_map (MoreExprs (view_expr y)) (settled_all t (view_exprs (drop (suc i) new))) =
    ap (λ xs. settled_all t (view_exprs xs)) (drop-cons new i d l)
    ∙ ap (λ o. both MoreExprs o (settled_all t (view_exprs (drop (suc i) new)))) e
    ∙ both_some MoreExprs (view_expr y) (settled_all t (view_exprs (drop (suc i) new))) in
    ap (with_front (map view_expr (take i new))) f
    ∙ ap (λ xs. with_front (map view_expr (take i new)) (option_map (MoreExprs (view_expr y)) (settled_all t (view_exprs xs)))) (sym (rest_next new i y))
    ∙ sym (front_next new i y (settled_all t (view_exprs (drop (i + 1) (set new i y)))) l)

pub all_stops : (t : Ty) (new : List Value) (i : ℕ) (d : Value) → i < length new → settled t (view_expr (get_or new i d)) ≡ None
    → with_front (map view_expr (take i new)) (settled_all t (view_exprs (drop i new))) ≡ None
all_stops t new i d l e =
    ap (λ xs. with_front (map view_expr (take i new)) (settled_all t (view_exprs xs))) (drop-cons new i d l)
    ∙ ap (λ o. with_front (map view_expr (take i new)) (both MoreExprs o (settled_all t (view_exprs (drop (suc i) new))))) e
    ∙ front_none (map view_expr (take i new))

-- ---- where each has a type of its own

pub each_next : (t : Ty) (ts : List Ty) (new : List Value) (i : ℕ) (d y : Value) → i < length new
    → settled t (view_expr (get_or new i d)) ≡ Some (view_expr y)
    → with_front (map view_expr (take i new)) (settled_each (t ∷ ts) (view_exprs (drop i new)))
    ≡ with_front (map view_expr (take (i + 1) (set new i y))) (settled_each ts (view_exprs (drop (i + 1) (set new i y))))
each_next t ts new i d y l e =
    let f : settled_each (t ∷ ts) (view_exprs (drop i new)) ≡ option_map (MoreExprs (view_expr y)) (settled_each ts (view_exprs (drop (suc i) new))) =
    ap (λ xs. settled_each (t ∷ ts) (view_exprs xs)) (drop-cons new i d l)
    ∙ ap (λ o. both MoreExprs o (settled_each ts (view_exprs (drop (suc i) new)))) e
    ∙ both_some MoreExprs (view_expr y) (settled_each ts (view_exprs (drop (suc i) new))) in
    ap (with_front (map view_expr (take i new))) f
    ∙ ap (λ xs. with_front (map view_expr (take i new)) (option_map (MoreExprs (view_expr y)) (settled_each ts (view_exprs xs)))) (sym (rest_next new i y))
    ∙ sym (front_next new i y (settled_each ts (view_exprs (drop (i + 1) (set new i y)))) l)

pub each_stops : (t : Ty) (ts : List Ty) (new : List Value) (i : ℕ) (d : Value) → i < length new
    → settled t (view_expr (get_or new i d)) ≡ None
    → with_front (map view_expr (take i new)) (settled_each (t ∷ ts) (view_exprs (drop i new))) ≡ None
each_stops t ts new i d l e =
    ap (λ xs. with_front (map view_expr (take i new)) (settled_each (t ∷ ts) (view_exprs xs))) (drop-cons new i d l)
    ∙ ap (λ o. with_front (map view_expr (take i new)) (both MoreExprs o (settled_each ts (view_exprs (drop (suc i) new))))) e
    ∙ front_none (map view_expr (take i new))

-- no type is left for a value
pub each_over : (new : List Value) (i : ℕ) (d : Value) → i < length new
    → with_front (map view_expr (take i new)) (settled_each [] (view_exprs (drop i new))) ≡ None
each_over new i d l =
    ap (λ xs. with_front (map view_expr (take i new)) (settled_each [] (view_exprs xs))) (drop-cons new i d l)
    ∙ front_none (map view_expr (take i new))

-- ---- elements of an array

abbrev pub items_front : List view.Item → Option Items → Option Items
items_front [] o = o
items_front (i ∷ is) o = option_map (MoreItems i.index i.value) (items_front is o)

items_front_more : (is : List view.Item) (i : view.Item) (o : Option Items)
    → items_front (is ++ i ∷ []) o ≡ items_front is (option_map (MoreItems i.index i.value) o)
items_front_more [] i o = refl
items_front_more (j ∷ js) i o = ap (option_map (MoreItems j.index j.value)) (items_front_more js i o)

items_front_none : (is : List view.Item) → items_front is None ≡ None
items_front_none [] = refl
items_front_none (i ∷ is) = ap (option_map (MoreItems i.index i.value)) (items_front_none is)

items_front_all : (is : List view.Item) → items_front is (Some NoItems) ≡ Some (items_of is)
items_front_all [] = refl
items_front_all (i ∷ is) = ap (option_map (MoreItems i.index i.value)) (items_front_all is)

abbrev Element : Type 0
Element = code_item.Item

plain : Element → view.Item
plain i = record { index = i.index; value = view_expr i.value }

first_item : (t : Ty) (x : Element) (xs : List Element)
    → settled_items t (items_of (map view_item (x ∷ xs)))
    ≡ both (MoreItems x.index) (settled t (view_expr x.value)) (settled_items t (items_of (map view_item xs)))
first_item t x xs = ap (λ (j : view.Item). settled_items t (items_of (j ∷ map view_item xs))) (view_item-out x)

item_front_next : (new : List Element) (i : ℕ) (y : Element) (o : Option Items) → i < length new
    → items_front (map view_item (take (i + 1) (set new i y))) o
    ≡ items_front (map view_item (take i new)) (option_map (MoreItems y.index (view_expr y.value)) o)
item_front_next new i y o l =
    ap (λ xs. items_front (map view_item xs) o) (take_more_set new i y l)
    ∙ ap (λ es. items_front es o) (map_last view_item (take i new) y)
    ∙ items_front_more (map view_item (take i new)) (view_item y) o
    ∙ ap (λ (j : view.Item). items_front (map view_item (take i new)) (option_map (MoreItems j.index j.value) o)) (view_item-out y)

item_rest_next : (new : List Element) (i : ℕ) (y : Element) → drop (i + 1) (set new i y) ≡ drop (suc i) new
item_rest_next new i y = ap (λ n. drop n (set new i y)) (let e : i + 1 ≡ suc i = omega arith in e) ∙ drop-set-lt (suc i) new i y (omega arith)

pub items_next : (t : Ty) (new : List Element) (i : ℕ) (d y : Element) → i < length new → y.index ≡ (get_or new i d).index
    → settled t (view_expr (get_or new i d).value) ≡ Some (view_expr y.value)
    → items_front (map view_item (take i new)) (settled_items t (items_of (map view_item (drop i new))))
    ≡ items_front (map view_item (take (i + 1) (set new i y))) (settled_items t (items_of (map view_item (drop (i + 1) (set new i y)))))
items_next t new i d y l k e =
    let x : Element = get_or new i d in
    let rest : Option Items = settled_items t (items_of (map view_item (drop (suc i) new))) in
    let f : settled_items t (items_of (map view_item (drop i new))) ≡ option_map (MoreItems y.index (view_expr y.value)) rest =
    ap (λ xs. settled_items t (items_of (map view_item xs))) (drop-cons new i d l)
    ∙ first_item t x (drop (suc i) new)
    ∙ ap (λ o. both (MoreItems x.index) o rest) e
    ∙ ap (λ n. both (MoreItems n) (Some (view_expr y.value)) rest) (sym k)
    ∙ both_some (MoreItems y.index) (view_expr y.value) rest in
    ap (items_front (map view_item (take i new))) f
    ∙ ap (λ xs. items_front (map view_item (take i new)) (option_map (MoreItems y.index (view_expr y.value)) (settled_items t (items_of (map view_item xs)))))
    (sym (item_rest_next new i y))
    ∙ sym (item_front_next new i y (settled_items t (items_of (map view_item (drop (i + 1) (set new i y))))) l)

pub items_stop : (t : Ty) (new : List Element) (i : ℕ) (d : Element) → i < length new
    → settled t (view_expr (get_or new i d).value) ≡ None
    → items_front (map view_item (take i new)) (settled_items t (items_of (map view_item (drop i new)))) ≡ None
items_stop t new i d l e =
    ap (λ xs. items_front (map view_item (take i new)) (settled_items t (items_of (map view_item xs)))) (drop-cons new i d l)
    ∙ ap (items_front (map view_item (take i new))) (first_item t (get_or new i d) (drop (suc i) new))
    ∙ ap (λ o. items_front (map view_item (take i new)) (both (MoreItems (get_or new i d).index) o (settled_items t (items_of (map view_item (drop (suc i) new)))))) e
    ∙ items_front_none (map view_item (take i new))

-- ---- at the end

pub all_done : (t : Ty) (new : List Value) (i : ℕ) → length new ≤ i
    → with_front (map view_expr (take i new)) (settled_all t (view_exprs (drop i new))) ≡ Some (view_exprs new)
all_done t new i l =
    ap (λ xs. with_front (map view_expr (take i new)) (settled_all t (view_exprs xs))) (drop_all i new l)
    ∙ ap (λ xs. with_front (map view_expr xs) (Some NoExprs)) (take_all i new l)
    ∙ front_all (map view_expr new)

pub each_done : (new : List Value) (i : ℕ) → length new ≤ i
    → with_front (map view_expr (take i new)) (settled_each [] (view_exprs (drop i new))) ≡ Some (view_exprs new)
each_done new i l =
    ap (λ xs. with_front (map view_expr (take i new)) (settled_each [] (view_exprs xs))) (drop_all i new l)
    ∙ ap (λ xs. with_front (map view_expr xs) (Some NoExprs)) (take_all i new l)
    ∙ front_all (map view_expr new)

pub each_short : (t : Ty) (ts : List Ty) (new : List Value) (i : ℕ) → length new ≤ i
    → with_front (map view_expr (take i new)) (settled_each (t ∷ ts) (view_exprs (drop i new))) ≡ None
each_short t ts new i l =
    ap (λ xs. with_front (map view_expr (take i new)) (settled_each (t ∷ ts) (view_exprs xs))) (drop_all i new l)
    ∙ front_none (map view_expr (take i new))

pub items_done : (t : Ty) (new : List Element) (i : ℕ) → length new ≤ i
    → items_front (map view_item (take i new)) (settled_items t (items_of (map view_item (drop i new)))) ≡ Some (items_of (map view_item new))
items_done t new i l =
    ap (λ xs. items_front (map view_item (take i new)) (settled_items t (items_of (map view_item xs)))) (drop_all i new l)
    ∙ ap (λ xs. items_front (map view_item xs) (Some NoItems)) (take_all i new l)
    ∙ items_front_all (map view_item new)

-- the type that is asked of an operand of `::`, and those that are asked from it on
abbrev pub pair_rest : Ty → Ty → ℕ → List Ty
pair_rest t u zero = t ∷ u ∷ []
pair_rest t u (suc zero) = u ∷ []
pair_rest t u (suc (suc n)) = []

abbrev pub pair_at : Ty → Ty → ℕ → Ty
pair_at t u zero = t
pair_at t u (suc n) = u

-- ---- what was told, and the places that were not visited yet

pub stands_not : {A : Type 0} (o : Option A) (b : Bool) (new : A) → Tells o b new → b ≡ false → o ≡ None
stands_not o false new h e = h
stands_not o true new h e = absurd cc

pub stands : {A : Type 0} (o : Option A) (b : Bool) (new : A) → Tells o b new → b ≡ true → o ≡ Some new
stands o true new h e = h
stands o false new h e = absurd cc

pub unvisited_next : {X : Type 0} (old new : List X) (i : ℕ) (y : X) → ((k : ℕ) (d : X) → i ≤ k → get_or new k d ≡ get_or old k d)
    → (k : ℕ) (d : X) → i + 1 ≤ k → get_or (set new i y) k d ≡ get_or old k d
unvisited_next old new i y h k d l =
    let ne : k ≢ i = omega arith in
    get_or-set_other new i k y d ne ∙ h k d (omega arith)

-- the operands of `::`
pub pair_next : (t u : Ty) (new : List Value) (i : ℕ) (d y : Value) → i < length new → length new ≡ 2
    → settled (pair_at t u i) (view_expr (get_or new i d)) ≡ Some (view_expr y)
    → with_front (map view_expr (take i new)) (settled_each (pair_rest t u i) (view_exprs (drop i new)))
    ≡ with_front (map view_expr (take (i + 1) (set new i y))) (settled_each (pair_rest t u (i + 1)) (view_exprs (drop (i + 1) (set new i y))))
pair_next t u new zero d y l m e = each_next t (u ∷ []) new 0 d y l e
pair_next t u new (suc zero) d y l m e = each_next u [] new 1 d y l e
pair_next t u new (suc (suc n)) d y l m e = absurd (omega arith)

pub pair_stops : (t u : Ty) (new : List Value) (i : ℕ) (d : Value) → i < length new → length new ≡ 2
    → settled (pair_at t u i) (view_expr (get_or new i d)) ≡ None
    → with_front (map view_expr (take i new)) (settled_each (pair_rest t u i) (view_exprs (drop i new))) ≡ None
pair_stops t u new zero d l m e = each_stops t (u ∷ []) new 0 d l e
pair_stops t u new (suc zero) d l m e = each_stops u [] new 1 d l e
pair_stops t u new (suc (suc n)) d l m e = absurd (omega arith)

pub pair_done : (t u : Ty) (new : List Value) (i : ℕ) → length new ≡ 2 → i ≡ 2
    → with_front (map view_expr (take i new)) (settled_each (pair_rest t u i) (view_exprs (drop i new))) ≡ Some (view_exprs new)
pair_done t u new i m e =
    subst (λ (k : ℕ). with_front (map view_expr (take k new)) (settled_each (pair_rest t u k) (view_exprs (drop k new))) ≡ Some (view_exprs new)) (sym e)
    (each_done new 2 (omega arith))

pub pair_only : (t u : Ty) (es : List Value) → (length es ≡ 2 → ⊥) → settled_each (t ∷ u ∷ []) (view_exprs es) ≡ None
pair_only t u [] h = refl
pair_only t u (x ∷ []) h = left_none (settled t (view_expr x))
  where
    left_none : (o : Option Expr) → both MoreExprs o None ≡ None
    left_none (Some e) = refl
    left_none None = refl
pair_only t u (x ∷ y ∷ []) h = absurd (h refl)
pair_only t u (x ∷ y ∷ z ∷ zs) h = too_many (settled t (view_expr x)) (settled u (view_expr y))
  where
    too_many : (o p : Option Expr) → both MoreExprs o (both MoreExprs p None) ≡ None
    too_many (Some e) (Some f) = refl
    too_many (Some e) None = refl
    too_many None p = refl

pub pair_at_next : (t u : Ty) (i : ℕ) → u ≡ pair_at t u (i + 1)
pair_at_next t u i = ap (pair_at t u) (let e : suc i ≡ i + 1 = omega arith in e)

pub listed_tys : (ts : List Ty) → listed (tys_of ts) ≡ ts
listed_tys [] = refl
listed_tys (t ∷ ts) = ap (λ us. t ∷ us) (listed_tys ts)

-- ---- the same, told of the types that are left in the code

pub each_over_at : (ts : List code_ty.Ty) (new : List Value) (i : ℕ) (d : Value) → i < length new → length ts ≡ 0
    → with_front (map view_expr (take i new)) (settled_each (map view_ty ts) (view_exprs (drop i new))) ≡ None
each_over_at [] new i d l e = each_over new i d l
each_over_at (t ∷ ts) new i d l e = absurd (omega arith)

pub each_stops_at : (ts : List code_ty.Ty) (t : code_ty.Ty) (us : List code_ty.Ty) (new : List Value) (i : ℕ) (d : Value) → i < length new
    → ts ≡ t ∷ us → settled (view_ty t) (view_expr (get_or new i d)) ≡ None
    → with_front (map view_expr (take i new)) (settled_each (map view_ty ts) (view_exprs (drop i new))) ≡ None
each_stops_at ts t us new i d l e h =
    ap (λ (vs : List code_ty.Ty). with_front (map view_expr (take i new)) (settled_each (map view_ty vs) (view_exprs (drop i new)))) e
    ∙ each_stops (view_ty t) (map view_ty us) new i d l h

pub each_next_at : (ts : List code_ty.Ty) (t : code_ty.Ty) (us : List code_ty.Ty) (new : List Value) (i : ℕ) (d y : Value) → i < length new
    → ts ≡ t ∷ us → settled (view_ty t) (view_expr (get_or new i d)) ≡ Some (view_expr y)
    → with_front (map view_expr (take i new)) (settled_each (map view_ty ts) (view_exprs (drop i new)))
    ≡ with_front (map view_expr (take (i + 1) (set new i y))) (settled_each (map view_ty us) (view_exprs (drop (i + 1) (set new i y))))
each_next_at ts t us new i d y l e h =
    ap (λ (vs : List code_ty.Ty). with_front (map view_expr (take i new)) (settled_each (map view_ty vs) (view_exprs (drop i new)))) e
    ∙ each_next (view_ty t) (map view_ty us) new i d y l h

not_empty : (t : code_ty.Ty) (ts : List code_ty.Ty) → (length (t ∷ ts) == 0) ≡ false
not_empty t ts = search (rules, tests)

pub each_told : (ts : List code_ty.Ty) (new : List Value) (i : ℕ) (b : Bool) (o : Option Exprs) → length new ≤ i → b ≡ (length ts == 0)
    → o ≡ with_front (map view_expr (take i new)) (settled_each (map view_ty ts) (view_exprs (drop i new))) → Tells o b (view_exprs new)
each_told [] new i b o l e h = subst (λ (z : Bool). Tells o z (view_exprs new)) (sym e) (h ∙ each_done new i l)
each_told (t ∷ ts) new i b o l e h =
    subst (λ (z : Bool). Tells o z (view_exprs new)) (sym (e ∙ not_empty t ts)) (h ∙ each_short (view_ty t) (map view_ty ts) new i l)

pub as_told : {A : Type 0} (o : Option A) (b : Bool) (new : A) → Tells o b new → Tells o b new
as_told o b new h = h
