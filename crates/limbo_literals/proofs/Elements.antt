-- The type that elements have together, as it is found, and elements that are settled one after the other.
use Rattle.std.specs.Prelude.{slice_get}
use Rattle.std.specs.Box.{with_value}
use Rattle.std.proofs.Common.{◌≡◌, ◌+◌, ◌<◌, ◌≤◌, ℕ, ℤ, zero, suc, append_assoc, append-nil, Box, Global, List, [], ◌∷◌}
use Rattle.std.proofs.Common.{◌++◌, map, take, drop, length, get_or, Option, Some, None, option_map, refl, sym, ap, subst, ◌∙◌, arith}
use Rattle.std.proofs.Math.ListN.{set}
use Rattle.std.proofs.Math.Seq.{drop-cons}
use Rattle.std.proofs.lemmas.List.{take_more_set, take_more, drop-set-lt, take_all, drop_all, map-append}
use Rattle.limbo_types.specs.Types.{Ty}
use Rattle.limbo_types.specs.View.{view_ty}
use Rattle.limbo_typed.specs.declared.expr.TExpr as code_expr
use Rattle.limbo_typed.specs.declared.expr.Item as code_item
use Rattle.limbo_typed.specs.Typed.{Optional, Absent, Present, Items, NoItems, MoreItems}
use Rattle.limbo_typed.specs.Sound.{type_of}
use Rattle.limbo_typed.specs.View as view
use Rattle.limbo_typed.specs.View.{view_expr, view_item, view_optional, items_of}
use Rattle.limbo_typed.proofs.View.{view_expr-out, view_item-out, view_optional-None, view_optional-Some}
use Rattle.limbo_forms.specs.Forms.{choose}
use Rattle.limbo_refusals.specs.Refusals.{Refusal, Clash}
use Rattle.limbo_standing.specs.Joining.{Joins, join, or_nil, joined}
use Rattle.limbo_standing.specs.Standing.{Settles, SettleItems, SettleRest}
use Rattle.limbo_standing.specs.Standing as rule
use Rattle.limbo_standing.proofs.Elements.{joins_given, joins_not}
use Rattle.limbo_arguments.specs.Failing.{FailsAt}
use Rattle.limbo_literals.specs.Literals.{item_types, rest_types, element_types}
use Rattle.limbo_literals.specs.Refusing.{Apart, FailsItems}
use Rattle.limbo_literals.specs.Refusing as refusing

-- ---- joining

-- the type so far behind these, none where all were open; nothing where they have none together
abbrev pub so_far : Option Ty → List Ty → Option (Option Ty)
so_far s [] = Some s
so_far s (t ∷ ts) = choose (join s t) None (λ r. so_far r ts)

so_far_more : (s : Option Ty) (ts : List Ty) (t : Ty) → so_far s (ts ++ t ∷ []) ≡ choose (so_far s ts) None (λ r. join r t)
so_far_more s [] t = last (join s t)
  where
    last : (o : Option (Option Ty)) → choose o None (λ r. Some r) ≡ o
    last (Some r) = refl
    last None = refl
so_far_more s (u ∷ us) t = go (join s u) (λ r. so_far_more r us t)
  where
    go : (o : Option (Option Ty)) → ((r : Option Ty) → so_far r (us ++ t ∷ []) ≡ choose (so_far r us) None (λ q. join q t))
        → choose o None (λ r. so_far r (us ++ t ∷ [])) ≡ choose (choose o None (λ r. so_far r us)) None (λ r. join r t)
    go (Some r) h = h r
    go None h = refl

so_far_joined : (s : Option Ty) (ts : List Ty) → joined s ts ≡ option_map or_nil (so_far s ts)
so_far_joined s [] = refl
so_far_joined s (t ∷ ts) = go (join s t) (λ r. so_far_joined r ts)
  where
    go : (o : Option (Option Ty)) → ((r : Option Ty) → joined r ts ≡ option_map or_nil (so_far r ts))
        → choose o None (λ r. joined r ts) ≡ option_map or_nil (choose o None (λ r. so_far r ts))
    go (Some r) h = h r
    go None h = refl

pub joins_so_far : (ts : List Ty) (s : Option Ty) → so_far None ts ≡ Some s → Joins ts (or_nil s)
joins_so_far ts s e = joins_given ts (or_nil s) (so_far_joined None ts ∙ ap (option_map or_nil) e)

pub one_more : (ts : List Ty) (t : Ty) (s r : Option Ty) → so_far None ts ≡ Some s → join s t ≡ Some r → so_far None (ts ++ t ∷ []) ≡ Some r
one_more ts t s r e f = so_far_more None ts t ∙ ap (λ o. choose o None (λ q. join q t)) e ∙ f

pub parted : (ts before behind others : List Ty) (t first : Ty) (s : Option Ty) → ts ≡ before ++ t ∷ behind → ts ≡ first ∷ others
    → so_far None before ≡ Some s → join s t ≡ None → Apart ts (Clash first t)
parted ts before behind others t first s split begins e f =
    let none : so_far None (before ++ t ∷ []) ≡ None = so_far_more None before t ∙ ap (λ o. choose o None (λ q. join q t)) e ∙ f in
    record {
      before = before;
      here = t;
      behind = behind;
      split = split;
      so_far = (or_nil s, joins_so_far before s e);
      apart = joins_not (before ++ t ∷ []) (so_far_joined None (before ++ t ∷ []) ∙ ap (option_map or_nil) none);
      first = first;
      others = others;
      begins = begins;
      clash = refl;
    }

so_far_append : (s : Option Ty) (ts us : List Ty) → so_far s (ts ++ us) ≡ choose (so_far s ts) None (λ r. so_far r us)
so_far_append s [] us = refl
so_far_append s (t ∷ ts) us = go (join s t) (λ r. so_far_append r ts us)
  where
    go : (o : Option (Option Ty)) → ((r : Option Ty) → so_far r (ts ++ us) ≡ choose (so_far r ts) None (λ q. so_far q us))
        → choose o None (λ r. so_far r (ts ++ us)) ≡ choose (choose o None (λ r. so_far r ts)) None (λ r. so_far r us)
    go (Some r) h = h r
    go None h = refl

none_so_far : (ts : List Ty) → ((t : Ty) → Joins ts t → ⊥) → so_far None ts ≡ None
none_so_far ts none = go (so_far None ts) refl
  where
    go : (o : Option (Option Ty)) → so_far None ts ≡ o → o ≡ None
    go (Some s) e = absurd (none (or_nil s) (joins_so_far ts s e))
    go None e = refl

-- types of which the first ones have no type together have none
pub apart_none : (ts : List Ty) (r : Refusal) → Apart ts r → (t : Ty) → Joins ts t → ⊥
apart_none ts r a t h =
    let front = a.before ++ a.here ∷ [] in
    let p : ts ≡ front ++ a.behind = a.split ∙ sym (append_assoc a.before (a.here ∷ []) a.behind) in
    let e : so_far None ts ≡ None =
    ap (so_far None) p ∙ so_far_append None front a.behind
    ∙ ap (λ o. choose o None (λ r. so_far r a.behind)) (none_so_far front a.apart) in
    joins_not ts (so_far_joined None ts ∙ ap (option_map or_nil) e) t h

-- ---- the same along a list of what has types

split_at : {X : Type 0} (xs : List X) (i : ℕ) (d : X) → i < length xs → xs ≡ take i xs ++ get_or xs i d ∷ drop (suc i) xs
split_at [] i d l = absurd (omega arith)
split_at (x ∷ xs) zero d l = refl
split_at (x ∷ xs) (suc i) d l = ap (λ ys. x ∷ ys) (split_at xs i d (omega arith))

map_take : {X : Type 0} (f : X → Ty) (xs : List X) (i : ℕ) (d : X) → i < length xs
    → map f (take (i + 1) xs) ≡ map f (take i xs) ++ f (get_or xs i d) ∷ []
map_take f xs i d l = ap (map f) (take_more xs i d l) ∙ map-append f (take i xs) (get_or xs i d ∷ [])

pub next_in : {X : Type 0} (f : X → Ty) (xs : List X) (i : ℕ) (x : X) (s r : Option Ty) → i < length xs → x ≡ get_or xs i x
    → so_far None (map f (take i xs)) ≡ Some s → join s (f x) ≡ Some r → so_far None (map f (take (i + 1) xs)) ≡ Some r
next_in f xs i x s r l is e h =
    ap (so_far None) (map_take f xs i x l)
    ∙ one_more (map f (take i xs)) (f (get_or xs i x)) s r e (ap (λ y. join s (f y)) (sym is) ∙ h)

first_in : {X : Type 0} (f : X → Ty) (xs : List X) (i : ℕ) (d : X) (behind : List Ty) → i < length xs
    → (others : List Ty) × (map f xs ++ behind ≡ f (get_or xs 0 d) ∷ others)
first_in f [] i d behind l = absurd (omega arith)
first_in f (y ∷ ys) i d behind l = (map f ys ++ behind, refl)

pub parted_in : {X : Type 0} (f : X → Ty) (xs : List X) (i : ℕ) (x d : X) (behind : List Ty) (s : Option Ty) → i < length xs
    → x ≡ get_or xs i x
    → so_far None (map f (take i xs)) ≡ Some s → join s (f x) ≡ None → Apart (map f xs ++ behind) (Clash (f (get_or xs 0 d)) (f x))
parted_in f xs i x d behind s l is e h =
    let p : map f xs ++ behind ≡ map f (take i xs) ++ f x ∷ (map f (drop (suc i) xs) ++ behind) =
    ap (λ ys. map f ys ++ behind) (split_at xs i x l)
    ∙ ap (λ y. map f (take i xs ++ y ∷ drop (suc i) xs) ++ behind) (sym is)
    ∙ ap (λ ts. ts ++ behind) (map-append f (take i xs) (x ∷ drop (suc i) xs))
    ∙ append_assoc (map f (take i xs)) (f x ∷ map f (drop (suc i) xs)) behind in
    let q = first_in f xs i d behind l in
    parted (map f xs ++ behind) (map f (take i xs)) (map f (drop (suc i) xs) ++ behind) q.0 (f x) (f (get_or xs 0 d)) s p q.1 e h

pub whole_in : {X : Type 0} (f : X → Ty) (xs : List X) (i : ℕ) (s : Option Ty) → length xs ≤ i → so_far None (map f (take i xs)) ≡ Some s
    → so_far None (map f xs) ≡ Some s
whole_in f xs i s l e = ap (λ ys. so_far None (map f ys)) (sym (take_all i xs l)) ∙ e

-- ---- the elements of an array

abbrev pub Value : Type 0
Value = code_expr.TExpr

abbrev pub Boxed : Type 0
Boxed = Option (Box Value Global)

abbrev pub Element : Type 0
Element = code_item.Item

abbrev pub type_in : Element → Ty
type_in i = view_ty i.value.ty

pub item_types_are : (is : List Element) → item_types (items_of (map view_item is)) ≡ map type_in is
item_types_are [] = refl
item_types_are (i ∷ is) =
    let p : type_of (view_item i).value ≡ view_ty i.value.ty =
    ap (λ (j : view.Item). type_of j.value) (view_item-out i) ∙ ap type_of (view_expr-out i.value) in
    ap (λ t. t ∷ item_types (items_of (map view_item is))) p ∙ ap (λ ts. view_ty i.value.ty ∷ ts) (item_types_are is)

pub first_is : (is : List Element) (x : Element) (behind : List Ty) → Some x ≡ slice_get is 0
    → (others : List Ty) × (map type_in is ++ behind ≡ type_in x ∷ others)
first_is [] x behind e = absurd cc
first_is (i ∷ is) x behind e = let p : i ≡ x = cc in (map type_in is ++ behind, ap (λ j. type_in j ∷ (map type_in is ++ behind)) p)

pub all_types : (is : List Element) (o : Optional) → element_types (items_of (map view_item is)) o ≡ map type_in is ++ rest_types o
all_types is o = ap (λ ts. ts ++ rest_types o) (item_types_are is)

pub types_none : (is : List Element) (o : Boxed) → o ≡ None → element_types (items_of (map view_item is)) (view_optional o) ≡ map type_in is
types_none is o e =
    all_types is (view_optional o) ∙ ap (λ p. map type_in is ++ rest_types p) (ap view_optional e ∙ view_optional-None)
    ∙ append-nil (map type_in is)

pub types_some : (is : List Element) (o : Boxed) (b : Box Value Global) → o ≡ Some b
    → element_types (items_of (map view_item is)) (view_optional o) ≡ map type_in is ++ view_ty b.value.ty ∷ []
types_some is o b e =
    all_types is (view_optional o) ∙ ap (λ p. map type_in is ++ rest_types p) (ap view_optional e ∙ view_optional-Some b)
    ∙ ap (λ t. map type_in is ++ t ∷ []) (ap type_of (view_expr-out b.value))

-- ---- the element that stands at each other index

pub rest_settles : (t : Ty) (o : Boxed) (b lent : Box Value Global) (given new : Value) → o ≡ Some b → lent ≡ b → given ≡ lent.value
    → Settles t (view_expr given) (view_expr new) → SettleRest t (view_optional o) (view_optional (Some (with_value lent new)))
rest_settles t o b lent given new e f g h =
    let p : view_optional o ≡ Present (view_expr b.value) = ap view_optional e ∙ view_optional-Some b in
    let q : given ≡ b.value = g ∙ ap (λ (x : Box Value Global). x.value) f in
    let r : SettleRest t (Present (view_expr b.value)) (Present (view_expr new)) =
    rule.SettleRest.rest t (view_expr b.value) (view_expr new) (subst (λ (x : Value). Settles t (view_expr x) (view_expr new)) q h) in
    subst (λ (z : Optional). SettleRest t z (view_optional (Some (with_value lent new)))) (sym p)
    (subst (λ (z : Optional). SettleRest t (Present (view_expr b.value)) z) (sym (view_optional-Some (with_value lent new))) r)

pub no_rest_settles : (t : Ty) (o : Boxed) → o ≡ None → SettleRest t (view_optional o) (view_optional o)
no_rest_settles t o e =
    let p : view_optional o ≡ Absent = ap view_optional e ∙ view_optional-None in
    subst (λ (z : Optional). SettleRest t z z) (sym p) (rule.no_rest t)

-- ---- elements one after the other

-- elements before others
abbrev pub with_front : List view.Item → Items → Items
with_front [] js = js
with_front (i ∷ is) js = MoreItems i.index i.value (with_front is js)

front_more : (is : List view.Item) (i : view.Item) (js : Items)
    → with_front (is ++ i ∷ []) js ≡ with_front is (MoreItems i.index i.value js)
front_more [] i js = refl
front_more (j ∷ is) i js = ap (MoreItems j.index j.value) (front_more is i js)

front_all : (is : List view.Item) → with_front is NoItems ≡ items_of is
front_all [] = refl
front_all (i ∷ is) = ap (MoreItems i.index i.value) (front_all is)

abbrev made : Element → Items → Items
made x js = MoreItems x.index (view_expr x.value) js

view_made : (x : Element) (js : Items) → MoreItems (view_item x).index (view_item x).value js ≡ made x js
view_made x js = ap (λ (j : view.Item). MoreItems j.index j.value js) (view_item-out x)

front_next : (new : List Element) (i : ℕ) (y : Element) (js : Items) → i < length new
    → with_front (map view_item (take (i + 1) (set new i y))) js ≡ with_front (map view_item (take i new)) (made y js)
front_next new i y js l =
    ap (λ xs. with_front (map view_item xs) js) (take_more_set new i y l)
    ∙ ap (λ is. with_front is js) (map-append view_item (take i new) (y ∷ []))
    ∙ front_more (map view_item (take i new)) (view_item y) js
    ∙ ap (with_front (map view_item (take i new))) (view_made y js)

rest_next : (new : List Element) (i : ℕ) (y : Element) → drop (i + 1) (set new i y) ≡ drop (suc i) new
rest_next new i y = ap (λ n. drop n (set new i y)) (let e : i + 1 ≡ suc i = omega arith in e) ∙ drop-set-lt (suc i) new i y (omega arith)

abbrev pub left : List Element → Items
left xs = items_of (map view_item xs)

rest_here : (new : List Element) (i : ℕ) (d : Element) → i < length new
    → left (drop i new) ≡ made (get_or new i d) (left (drop (suc i) new))
rest_here new i d l = ap left (drop-cons new i d l) ∙ view_made (get_or new i d) (left (drop (suc i) new))

-- What is left decides of all of them.
pub record ItemsSoFar (asked : Ty) (old : Items) (new : List Element) (i : ℕ) : Type 0 where
  pub settled : (js : Items) → SettleItems asked (left (drop i new)) js → SettleItems asked old (with_front (map view_item (take i new)) js)
  pub refused : (r : Refusal) → FailsItems asked (left (drop i new)) r → FailsItems asked old r

pub items_next : (t : Ty) (old : Items) (new : List Element) (i : ℕ) (d y : Element) → i < length new → y.index ≡ (get_or new i d).index
    → Settles t (view_expr (get_or new i d).value) (view_expr y.value) → ItemsSoFar t old new i → ItemsSoFar t old (set new i y) (i + 1)
items_next t old new i d y l k s so =
    let x = get_or new i d in
    let rest = left (drop (suc i) new) in
    record {
      settled = λ js h.
          let m : SettleItems t rest js = subst (λ (xs : List Element). SettleItems t (left xs) js) (rest_next new i y) h in
          let n : SettleItems t (made x rest) (made y js) =
          subst (λ (j : ℤ). SettleItems t (made x rest) (MoreItems j (view_expr y.value) js)) (sym k)
          (rule.SettleItems.items t x.index (view_expr x.value) (view_expr y.value) rest js s m) in
          subst (λ (z : Items). SettleItems t old z) (sym (front_next new i y js l))
          (so.settled (made y js) (subst (λ (z : Items). SettleItems t z (made y js)) (sym (rest_here new i d l)) n));
      refused = λ r h.
          let m : FailsItems t rest r = subst (λ (xs : List Element). FailsItems t (left xs) r) (rest_next new i y) h in
          so.refused r
          (subst (λ (z : Items). FailsItems t z r) (sym (rest_here new i d l))
          (refusing.later_item x.index (view_expr x.value) (view_expr y.value) rest r s m));
    }

pub items_stop : (t : Ty) (old : Items) (new : List Element) (i : ℕ) (d : Element) (r : Refusal) → i < length new → ItemsSoFar t old new i
    → FailsAt t (view_expr (get_or new i d).value) r → FailsItems t old r
items_stop t old new i d r l so h =
    let x = get_or new i d in
    so.refused r
    (subst (λ (z : Items). FailsItems t z r) (sym (rest_here new i d l))
    (refusing.this_item x.index (view_expr x.value) (left (drop (suc i) new)) r h))

pub items_done : (t : Ty) (old : Items) (new : List Element) (i : ℕ) → length new ≤ i → ItemsSoFar t old new i
    → SettleItems t old (left new)
items_done t old new i l so =
    let h = so.settled NoItems (subst (λ (z : Items). SettleItems t z NoItems) (sym (ap left (drop_all i new l))) (rule.no_items t)) in
    let p : with_front (map view_item (take i new)) NoItems ≡ left new = front_all (map view_item (take i new)) ∙ ap left
    (take_all i new l) in
    subst (λ (z : Items). SettleItems t old z) p h
