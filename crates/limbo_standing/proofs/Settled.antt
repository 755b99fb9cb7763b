-- What a value is where a type is asked for, as it is found, is what the definition says.
use Rattle.std.proofs.Common.{◌≡◌, ◌&&◌, ◌==◌, ℕ, Bool, true, false, cond, List, [], ◌∷◌, Option, Some, None, option_map, refl, sym, ap, subst, ◌∙◌, inl, inr}
use Rattle.std.proofs.lemmas.Bool.{eqb-true}
use Rattle.std.proofs.Common.{rules, tests}
use Rattle.limbo_types.specs.Types as ty
use Rattle.limbo_types.specs.Types.{Ty, Tys, Byte, Int, Big, Chars, Nothing, ArrayOf, ListOf, ChanOf, Tuple, Adt, RefAdt, RefPick, Module}
use Rattle.limbo_types.specs.Same.{same}
use Rattle.limbo_types.proofs.Same.{only, itself}
use Rattle.limbo_typed.specs.limbo_layout.Adts.{listed}
use Rattle.limbo_typed.specs.declared.operation.Operation.{Operation}
use Rattle.limbo_typed.specs.declared.operation.Operation.TheVariants as op
use Rattle.limbo_typed.specs.Typed.{Expr, Of, Node, Exprs, NoExprs, MoreExprs, Optional, Absent, Present, Items, NoItems, MoreItems}
use Rattle.limbo_typed.specs.Typed.{Nil, OpenNil, Apply, Filled}
use Rattle.limbo_typed.specs.Fitting.{HasNil, Stands}
use Rattle.limbo_typed.specs.Sound.{type_of}
use Rattle.limbo_forms.specs.Forms.{is_nil, element_of}
use Rattle.limbo_standing.specs.Standing.{Settles, SettlesForm, SettleEach, SettleAll, SettleItems, SettleRest}
use Rattle.limbo_standing.specs.Standing as rule
use Rattle.limbo_standing.specs.Settling.{has_nil, is_open_nil, is_tuple, is_list, is_cons, stands_variant, both, OfEach, OfAll, OfNone}
use Rattle.limbo_standing.specs.Settling.{list_asks, as_asked, settled, settled_node, settled_args, settled_each, settled_all, settled_items, settled_rest, Tells}
use Rattle.limbo_forms.proofs.Tests.{choose_some, if_some, nil_is, both_true}

-- ---- options and tests

mapped : {A B : Type 0} (o : Option A) (f : A → B) (y : B) → option_map f o ≡ Some y → (x : A) × (o ≡ Some x) × (f x ≡ y)
mapped (Some x) f y e = (x, refl, cc)
mapped None f y e = absurd cc

both_of : {A B C : Type 0} (f : A → B → C) (o : Option A) (p : Option B) (y : C) → both f o p ≡ Some y
    → (a : A) × (b : B) × (o ≡ Some a) × (p ≡ Some b) × (f a b ≡ y)
both_of f (Some a) (Some b) y e = (a, b, refl, refl, cc)
both_of f (Some a) None y e = absurd cc
both_of f None p y e = absurd cc

has_nil_is : (t : Ty) → has_nil t ≡ true → HasNil t
has_nil_is Chars e = tt
has_nil_is (ArrayOf t) e = tt
has_nil_is (ListOf t) e = tt
has_nil_is (ChanOf t) e = tt
has_nil_is (RefAdt n) e = tt
has_nil_is (RefPick n v) e = tt
has_nil_is (Module n) e = tt
has_nil_is _ e = absurd cc

has_nil_true : (t : Ty) → HasNil t → has_nil t ≡ true
has_nil_true Chars h = refl
has_nil_true (ArrayOf t) h = refl
has_nil_true (ListOf t) h = refl
has_nil_true (ChanOf t) h = refl
has_nil_true (RefAdt n) h = refl
has_nil_true (RefPick n v) h = refl
has_nil_true (Module n) h = refl
has_nil_true _ h = absurd h

open_is : (n : Node) → is_open_nil n ≡ true → n ≡ OpenNil
open_is OpenNil e = refl
open_is _ e = absurd cc

tuple_is : (o : Operation) → is_tuple o ≡ true → o ≡ op.Tuple
tuple_is op.Tuple e = refl
tuple_is _ e = absurd cc

list_is : (o : Operation) → is_list o ≡ true → o ≡ op.List
list_is op.List e = refl
list_is _ e = absurd cc

cons_is : (o : Operation) → is_cons o ≡ true → o ≡ op.Cons
cons_is op.Cons e = refl
cons_is _ e = absurd cc

element_is : (t u : Ty) → element_of t ≡ Some u → t ≡ ArrayOf u
element_is (ArrayOf t) u e = let f : t ≡ u = cc in ap ArrayOf f
element_is _ u e = absurd cc

eqb_same : (n : ℕ) → (n == n) ≡ true
eqb_same n = search (rules, tests)

differ : (u t : Ty) → same u t ≡ false → u ≡ t → ⊥
differ u t e h = let f : true ≡ false = sym (ap (λ z. same u z) (sym h) ∙ itself u) ∙ e in absurd cc

differs : (u t : Ty) → (u ≡ t → ⊥) → same u t ≡ false
differs u t h = go (same u t) refl
  where
    go : (b : Bool) → same u t ≡ b → b ≡ false
    go true e = absurd (h (only u t e))
    go false e = refl

variant_form : (t u : Ty) (n : Node) → stands_variant t u ≡ true → SettlesForm t u n (Of u n)
variant_form (RefAdt a) (RefPick m v) n e =
    subst (λ (z : ℕ). SettlesForm (RefAdt z) (RefPick m v) n (Of (RefPick m v) n)) (sym (eqb-true a m e)) (rule.variant m v n)
variant_form (RefAdt a) _ n e = absurd cc
variant_form _ u n e = absurd cc

-- ---- what is found is what the definition says

-- the parts of a tree are what the definition says
abbrev Right : Expr → Type 0
Right e = (t : Ty) (f : Expr) → settled t e ≡ Some f → Settles t e f

abbrev RightNode : Node → Type 0
RightNode n = (t u : Ty) (m : Node) → settled_node t n ≡ Some m → SettlesForm t u n (Of t m)

at_variant : (t u : Ty) (n : Node) (f : Expr) → RightNode n → same u t ≡ false
    → cond (stands_variant t u) (Some (Of u n)) (option_map (λ m. Of t m) (settled_node t n)) ≡ Some f → Settles t (Of u n) f
at_variant t u n f right d e = go (stands_variant t u) refl e
  where
    go : (b : Bool) → stands_variant t u ≡ b → cond b (Some (Of u n)) (option_map (λ m. Of t m) (settled_node t n)) ≡ Some f
        → Settles t (Of u n) f
    go true h e =
        let q : Of u n ≡ f = cc in
        subst (λ (z : Expr). Settles t (Of u n) z) q (rule.by_form t u n (Of u n) (differ u t d) (variant_form t u n h))
    go false h e =
        let p = mapped (settled_node t n) (λ m. Of t m) f e in
        subst (λ (z : Expr). Settles t (Of u n) z) p.2 (rule.by_form t u n (Of t p.0) (differ u t d) (right t u p.0 p.1))

nil_at : (t u : Ty) (n : Node) → u ≡ ty.Nil → n ≡ OpenNil → (u ≡ t → ⊥) → HasNil t → Settles t (Of u n) (Of t Nil)
nil_at t u n p q d h = rule.by_form t u n (Of t Nil) d (rw (p, q) (rule.SettlesForm.nil t h))

at_nil : (t u : Ty) (n : Node) (f : Expr) → RightNode n → same u t ≡ false
    → cond (is_nil u && is_open_nil n) (cond (has_nil t) (Some (Of t Nil)) None)
    (cond (stands_variant t u) (Some (Of u n)) (option_map (λ m. Of t m) (settled_node t n))) ≡ Some f
    → Settles t (Of u n) f
at_nil t u n f right d e = go (is_nil u && is_open_nil n) refl e
  where
    go : (b : Bool) → (is_nil u && is_open_nil n) ≡ b
        → cond b (cond (has_nil t) (Some (Of t Nil)) None)
        (cond (stands_variant t u) (Some (Of u n)) (option_map (λ m. Of t m) (settled_node t n))) ≡ Some f
        → Settles t (Of u n) f
    go true h e =
        let p = if_some (has_nil t) (Of t Nil) f e in
        let q = both_true (is_nil u) (is_open_nil n) h in
        subst (λ (z : Expr). Settles t (Of u n) z) p.1
        (nil_at t u n (nil_is u q.0) (open_is n q.1) (differ u t d) (has_nil_is t p.0))
    go false h e = at_variant t u n f right d e

at_same : (t u : Ty) (n : Node) (f : Expr) → RightNode n → settled t (Of u n) ≡ Some f → Settles t (Of u n) f
at_same t u n f right e = go (same u t) refl e
  where
    go : (b : Bool) → same u t ≡ b
        → cond b (Some (Of u n)) (cond (is_nil u && is_open_nil n) (cond (has_nil t) (Some (Of t Nil)) None)
        (cond (stands_variant t u) (Some (Of u n)) (option_map (λ m. Of t m) (settled_node t n)))) ≡ Some f
        → Settles t (Of u n) f
    go true h e =
        let q : Of u n ≡ f = cc in
        subst (λ (z : Expr). Settles t (Of u n) z) q (subst (λ (z : Ty). Settles z (Of u n) (Of u n)) (only u t h) (rule.itself u n))
    go false h e = at_nil t u n f right h e

abbrev RightEach : Exprs → Type 0
RightEach es = (ts : List Ty) (fs : Exprs) → settled_each ts es ≡ Some fs → SettleEach ts es fs

abbrev RightAll : Exprs → Type 0
RightAll es = (t : Ty) (fs : Exprs) → settled_all t es ≡ Some fs → SettleAll t es fs

tuple_form : (ts : Tys) (u : Ty) (o : Operation) (es fs : Exprs) → o ≡ op.Tuple → SettleEach (listed ts) es fs
    → SettlesForm (Tuple ts) u (Apply o es) (Of (Tuple ts) (Apply o fs))
tuple_form ts u o es fs e h = rw e (rule.tuple ts u es fs h)

list_form : (t u : Ty) (o : Operation) (es fs : Exprs) → o ≡ op.List → SettleAll t es fs
    → SettlesForm (ListOf t) u (Apply o es) (Of (ListOf t) (Apply o fs))
list_form t u o es fs e h = rw e (rule.SettlesForm.list t u es fs h)

cons_form : (t u : Ty) (o : Operation) (es fs : Exprs) → o ≡ op.Cons → SettleEach (t ∷ ListOf t ∷ []) es fs
    → SettlesForm (ListOf t) u (Apply o es) (Of (ListOf t) (Apply o fs))
cons_form t u o es fs e h = rw e (rule.SettlesForm.cons t u es fs h)

list_args : (t u : Ty) (o : Operation) (es fs : Exprs) → RightEach es → RightAll es
    → as_asked (list_asks t o) (λ ts. settled_each ts es) (λ u. settled_all u es) ≡ Some fs
    → SettlesForm (ListOf t) u (Apply o es) (Of (ListOf t) (Apply o fs))
list_args t u o es fs right all e = at_list (is_list o) refl e
  where
    at_cons : (b : Bool) → is_cons o ≡ b
        → as_asked (cond b (OfEach (t ∷ ListOf t ∷ [])) OfNone) (λ ts. settled_each ts es) (λ u. settled_all u es) ≡ Some fs
        → SettlesForm (ListOf t) u (Apply o es) (Of (ListOf t) (Apply o fs))
    at_cons true h e = cons_form t u o es fs (cons_is o h) (right (t ∷ ListOf t ∷ []) fs e)
    at_cons false h e = absurd cc

    at_list : (b : Bool) → is_list o ≡ b
        → as_asked (cond b (OfAll t) (cond (is_cons o) (OfEach (t ∷ ListOf t ∷ [])) OfNone)) (λ ts. settled_each ts es) (λ u. settled_all u es) ≡ Some fs
        → SettlesForm (ListOf t) u (Apply o es) (Of (ListOf t) (Apply o fs))
    at_list true h e = list_form t u o es fs (list_is o h) (all t fs e)
    at_list false h e = at_cons (is_cons o) refl e

tuple_args : (ts : Tys) (u : Ty) (o : Operation) (es fs : Exprs) → RightEach es
    → as_asked (cond (is_tuple o) (OfEach (listed ts)) OfNone) (λ ts. settled_each ts es) (λ u. settled_all u es) ≡ Some fs
    → SettlesForm (Tuple ts) u (Apply o es) (Of (Tuple ts) (Apply o fs))
tuple_args ts u o es fs right e = go (is_tuple o) refl e
  where
    go : (b : Bool) → is_tuple o ≡ b
        → as_asked (cond b (OfEach (listed ts)) OfNone) (λ ts. settled_each ts es) (λ u. settled_all u es) ≡ Some fs
        → SettlesForm (Tuple ts) u (Apply o es) (Of (Tuple ts) (Apply o fs))
    go true h e = tuple_form ts u o es fs (tuple_is o h) (right (listed ts) fs e)
    go false h e = absurd cc

args_right : (t u : Ty) (o : Operation) (es fs : Exprs) → RightEach es → RightAll es → settled_args t o es ≡ Some fs
    → SettlesForm t u (Apply o es) (Of t (Apply o fs))
args_right (Tuple ts) u o es fs right all e = tuple_args ts u o es fs right e
args_right (ListOf t) u o es fs right all e = list_args t u o es fs right all e
args_right _ u o es fs right all e = absurd cc

apply_right : (o : Operation) (es : Exprs) → RightEach es → RightAll es → RightNode (Apply o es)
apply_right o es right all t u m e =
    let p = mapped (settled_args t o es) (λ fs. Apply o fs) m e in
    subst (λ (z : Node). SettlesForm t u (Apply o es) (Of t z)) p.2 (args_right t u o es p.0 right all p.1)

filled_right : (k : Optional) (is : Items) (rest : Optional)
    → ((t : Ty) (js : Items) → settled_items t is ≡ Some js → SettleItems t is js)
    → ((t : Ty) (last : Optional) → settled_rest t rest ≡ Some last → SettleRest t rest last) → RightNode (Filled k is rest)
filled_right k is rest items_right rest_right t u m e =
    let a = choose_some (element_of t) _ m e in
    let b = both_of (λ js last. Filled k js last) (settled_items a.0 is) (settled_rest a.0 rest) m a.2 in
    subst (λ (z : Node). SettlesForm t u (Filled k is rest) (Of t z)) b.4
    (subst (λ (z : Ty). SettlesForm z u (Filled k is rest) (Of z (Filled k b.0 b.1))) (sym (element_is t a.0 a.1))
    (rule.array a.0 u k is b.0 rest b.1 (items_right a.0 b.0 b.2) (rest_right a.0 b.1 b.3)))

mutual
  pub settled_right : (e : Expr) → Right e
  settled_right (Of u n) t f h = at_same t u n f (λ t u m e. node_right n t u m e) h

  node_right : (n : Node) → RightNode n
  node_right (Apply o es) t u m e = apply_right o es (λ ts fs h. each_right es ts fs h) (λ t fs h. all_right es t fs h) t u m e
  node_right (Filled k is rest) t u m e =
      filled_right k is rest (λ t js h. items_right is t js h) (λ t last h. rest_right rest t last h) t u m e
  node_right _ t u m e = absurd cc

  each_right : (es : Exprs) → RightEach es
  each_right NoExprs [] fs e = let f : NoExprs ≡ fs = cc in subst (λ (z : Exprs). SettleEach [] NoExprs z) f rule.none_left
  each_right NoExprs (t ∷ ts) fs e = absurd cc
  each_right (MoreExprs x es) [] fs e = absurd cc
  each_right (MoreExprs x es) (t ∷ ts) fs e =
      let p = both_of MoreExprs (settled t x) (settled_each ts es) fs e in
      subst (λ (z : Exprs). SettleEach (t ∷ ts) (MoreExprs x es) z) p.4
      (rule.each t ts x p.0 es p.1 (settled_right x t p.0 p.2) (each_right es ts p.1 p.3))

  all_right : (es : Exprs) → RightAll es
  all_right NoExprs t fs e = let f : NoExprs ≡ fs = cc in subst (λ (z : Exprs). SettleAll t NoExprs z) f (rule.no_values t)
  all_right (MoreExprs x es) t fs e =
      let p = both_of MoreExprs (settled t x) (settled_all t es) fs e in
      subst (λ (z : Exprs). SettleAll t (MoreExprs x es) z) p.4
      (rule.values t x p.0 es p.1 (settled_right x t p.0 p.2) (all_right es t p.1 p.3))

  items_right : (is : Items) (t : Ty) (js : Items) → settled_items t is ≡ Some js → SettleItems t is js
  items_right NoItems t js e = let f : NoItems ≡ js = cc in subst (λ (z : Items). SettleItems t NoItems z) f (rule.no_items t)
  items_right (MoreItems i x is) t js e =
      let p = both_of (MoreItems i) (settled t x) (settled_items t is) js e in
      subst (λ (z : Items). SettleItems t (MoreItems i x is) z) p.4
      (rule.SettleItems.items t i x p.0 is p.1 (settled_right x t p.0 p.2) (items_right is t p.1 p.3))

  rest_right : (rest : Optional) (t : Ty) (last : Optional) → settled_rest t rest ≡ Some last → SettleRest t rest last
  rest_right Absent t last e = let f : Absent ≡ last = cc in subst (λ (z : Optional). SettleRest t Absent z) f (rule.no_rest t)
  rest_right (Present x) t last e =
      let p = mapped (settled t x) Present last e in
      subst (λ (z : Optional). SettleRest t (Present x) z) p.2 (rule.SettleRest.rest t x p.0 (settled_right x t p.0 p.1))

-- ---- what the definition says is found

no_pick_parts : (n : ℕ) (m : Node) → settled_node (RefAdt n) m ≡ None
no_pick_parts n (Apply o es) = refl
no_pick_parts n (Filled k is rest) = refl
no_pick_parts n _ = refl

-- a form that isn't an open `nil`, and whose type isn't a variant of the one that is asked for
by_parts : (t u : Ty) (n m : Node) → (u ≡ t → ⊥) → is_open_nil n ≡ false → ((v : Ty) → stands_variant t v ≡ false)
    → settled_node t n ≡ Some m → settled t (Of u n) ≡ Some (Of t m)
by_parts t u n m d o v e = rw (differs u t d, o, and_false (is_nil u), v u, e) refl
  where
    and_false : (b : Bool) → (b && false) ≡ false
    and_false true = refl
    and_false false = refl

mutual
  pub settled_found : (t : Ty) (e f : Expr) → Settles t e f → settled t e ≡ Some f
  settled_found _ _ _ (rule.itself t n) = rw (itself t) refl
  settled_found _ _ _ (rule.by_form t u n e d h) = form_found t u n e d h

  form_found : (t u : Ty) (n : Node) (e : Expr) → (u ≡ t → ⊥) → SettlesForm t u n e → settled t (Of u n) ≡ Some e
  form_found _ _ _ _ d (rule.SettlesForm.nil t h) = rw (differs ty.Nil t d, has_nil_true t h) refl
  form_found _ _ _ _ d (rule.variant a v n) = rw (eqb_same a) refl
  form_found _ _ _ _ d (rule.tuple ts u es fs h) =
      by_parts (Tuple ts) u (Apply op.Tuple es) (Apply op.Tuple fs) d refl (λ v. refl) (rw (each_found (listed ts) es fs h) refl)
  form_found _ _ _ _ d (rule.SettlesForm.list t u es fs h) =
      by_parts (ListOf t) u (Apply op.List es) (Apply op.List fs) d refl (λ v. refl) (rw (all_found t es fs h) refl)
  form_found _ _ _ _ d (rule.SettlesForm.cons t u es fs h) =
      by_parts (ListOf t) u (Apply op.Cons es) (Apply op.Cons fs) d refl (λ v. refl) (rw (each_found (t ∷ ListOf t ∷ []) es fs h) refl)
  form_found _ _ _ _ d (rule.array t u k is js rest last h i) =
      by_parts (ArrayOf t) u (Filled k is rest) (Filled k js last) d refl (λ v. refl)
      (rw (items_found t is js h, rest_found t rest last i) refl)

  each_found : (ts : List Ty) (es fs : Exprs) → SettleEach ts es fs → settled_each ts es ≡ Some fs
  each_found _ _ _ rule.none_left = refl
  each_found _ _ _ (rule.each t ts e f es fs h k) = rw (settled_found t e f h, each_found ts es fs k) refl

  all_found : (t : Ty) (es fs : Exprs) → SettleAll t es fs → settled_all t es ≡ Some fs
  all_found _ _ _ (rule.no_values t) = refl
  all_found _ _ _ (rule.values t e f es fs h k) = rw (settled_found t e f h, all_found t es fs k) refl

  items_found : (t : Ty) (is js : Items) → SettleItems t is js → settled_items t is ≡ Some js
  items_found _ _ _ (rule.no_items t) = refl
  items_found _ _ _ (rule.SettleItems.items t i e f is js h k) = rw (settled_found t e f h, items_found t is js k) refl

  rest_found : (t : Ty) (rest last : Optional) → SettleRest t rest last → settled_rest t rest ≡ Some last
  rest_found _ _ _ (rule.no_rest t) = refl
  rest_found _ _ _ (rule.SettleRest.rest t e f h) = rw (settled_found t e f h) refl

-- ---- laws

pub settled_once : (t : Ty) (e f g : Expr) → Settles t e f → Settles t e g → f ≡ g
settled_once t e f g h k = let p : Some f ≡ Some g = sym (settled_found t e f h) ∙ settled_found t e g k in cc

pub settled_itself : (e f : Expr) → Settles (type_of e) e f → f ≡ e
settled_itself (Of t n) f h = settled_once t (Of t n) f (Of t n) h (rule.itself t n)

form_stands : (t u : Ty) (n : Node) (e : Expr) → SettlesForm t u n e → Stands (type_of e) t
form_stands _ _ _ _ (rule.SettlesForm.nil t h) = inl refl
form_stands _ _ _ _ (rule.variant a v n) = inr refl
form_stands _ _ _ _ (rule.tuple ts u es fs h) = inl refl
form_stands _ _ _ _ (rule.SettlesForm.list t u es fs h) = inl refl
form_stands _ _ _ _ (rule.SettlesForm.cons t u es fs h) = inl refl
form_stands _ _ _ _ (rule.array t u k is js rest last h i) = inl refl

pub settled_stands : (t : Ty) (e f : Expr) → Settles t e f → Stands (type_of f) t
settled_stands _ _ _ (rule.itself t n) = inl refl
settled_stands _ _ _ (rule.by_form t u n e d h) = form_stands t u n e h

-- ---- what is answered

pub answer_settles : (t : Ty) (e f : Expr) (b : Bool) → Tells (settled t e) b f → b ≡ true → Settles t e f
answer_settles t e f true h k = settled_right e t f h
answer_settles t e f false h k = absurd cc

pub answer_refuses : (t : Ty) (e f : Expr) (b : Bool) → Tells (settled t e) b f → b ≡ false → (g : Expr) → Settles t e g → ⊥
answer_refuses t e f true h k g s = absurd cc
answer_refuses t e f false h k g s = let p : None ≡ Some g = sym h ∙ settled_found t e g s in absurd cc
