-- What the functions give is what the definitions say.
use Rattle.std.proofs.Common.{◌≡◌, ◌↔◌, inl, inr, Bool, true, false, IsTrue, ◌&&◌, ◌||◌, ◌==◌, Option, Some, None, option_map, ℕ, List, [], ◌∷◌, map, refl, sym, ap, subst, ◌∙◌, arith}
use Rattle.std.specs.Prelude.{if◌then◌else◌}
use Rattle.std.specs.Prelude.{IfSome, IfNone}
use Rattle.std.proofs.lemmas.Option.{none-some, same_Some}
use Rattle.limbo_types.specs.declared.ty.Ty as code_ty
use Rattle.limbo_types.specs.Types.{Ty, Tys, Int, ArrayOf, Tuple, RefAdt, RefPick, NoTys, MoreTys}
use Rattle.limbo_types.specs.Same.{same}
use Rattle.limbo_types.proofs.Same.{only, itself}
use Rattle.limbo_typed.specs.Typed.{Expr, Pattern, ToPlace, ToNothing, ToParts, Patterns, NoPatterns, MorePatterns}
use Rattle.limbo_types.specs.View.{tys_of, view_ty}
use Rattle.limbo_typed.specs.declared.expr.TExpr as code_expr
use Rattle.limbo_typed.proofs.View.{view_expr-out}
use Rattle.limbo_typed.specs.declared.expr.Pattern as code_pattern
use Rattle.limbo_typed.specs.View.{view_expr, view_pattern, patterns_of}
use Rattle.limbo_typed.specs.Fitting.{Stands}
use Rattle.limbo_typed.specs.Sound.{type_at, type_of}
use Rattle.limbo_forms.specs.Forms.{is_settled, is_int}
use Rattle.limbo_forms.proofs.Tests.{settled_true, settled_is, not_settled}
use Rattle.limbo_standing.specs.Standing.{Settles}
use Rattle.limbo_standing.proofs.Settled.{settled_once}
use Rattle.limbo_refusals.specs.declared.fault.ExprFault.{ExprFault}
use Rattle.limbo_refusals.specs.Refusals.{Refusal, Clash, Refuses, NoneIs}
use Rattle.limbo_operands.proofs.Refused.{refuses_so}
use Rattle.limbo_standing.specs.Settling.{stands_variant, both}
use Rattle.limbo_assigning.specs.Assigning.{Takes, TakeEach, Asks, its_own, the_places, nowhere, parts, AskEach, no_more, and_more, type_in, types_in}
use Rattle.limbo_assigning.specs.Assigning.{Assigns, assigned, assignment, IsKnownArray, Copies, copied, copy, CopyingFails, of_values, of_index}
use Rattle.limbo_assigning.specs.Choosing.{stands, takes, take_each, asked, ask_each, is_known_array}

-- ---- a value where a type is asked for

same_number : (n m : ℕ) → (n == m) ≡ true → n ≡ m
same_number n m e = grind arith

variant_stands : (t u : Ty) → stands_variant u t ≡ true → Stands t u
variant_stands (RefPick m v) (RefAdt n) e = inr (ap RefAdt (same_number n m e))
variant_stands t (RefAdt n) e = absurd cc
variant_stands t u e = absurd cc

pub stands_so : (t u : Ty) → stands t u ≡ true → Stands t u
stands_so t u e = go (same t u) refl e
  where
    go : (b : Bool) → same t u ≡ b → (b || stands_variant u t) ≡ true → Stands t u
    go true h i = inl (only t u h)
    go false h i = variant_stands t u i

either_way : (b : Bool) → (b || true) ≡ true
either_way true = refl
either_way false = refl

pub stands_given : (t u : Ty) → Stands t u → stands t u ≡ true
stands_given t u (inl e) = ap (λ b. b || stands_variant u t) (ap (λ z. same t z) (sym e) ∙ itself t)
stands_given (RefPick m v) u (inr e) =
    rw (e, let s : (m == m) ≡ true = grind arith in s) (either_way (same (RefPick m v) (RefAdt m)))
stands_given _ u (inr e) = absurd e

-- ---- what goes where a pattern says

and_first : (a b : Bool) → (a && b) ≡ true → a ≡ true
and_first true b e = refl
and_first false b e = absurd cc

and_second : (a b : Bool) → (a && b) ≡ true → b ≡ true
and_second true b e = e
and_second false b e = absurd cc

and_both : (a b : Bool) → a ≡ true → b ≡ true → (a && b) ≡ true
and_both a b e f = rw (e, f) refl

mutual
  pub takes_so : (p : Pattern) (t : Ty) → takes p t ≡ true → Takes p t
  takes_so (ToPlace p) t e = stands_so t (type_at p) e
  takes_so ToNothing t e = tt
  takes_so (ToParts ps) (Tuple ts) e = take_each_so ps ts e
  takes_so (ToParts ps) t e = absurd cc

  take_each_so : (ps : Patterns) (ts : Tys) → take_each ps ts ≡ true → TakeEach ps ts
  take_each_so NoPatterns NoTys e = tt
  take_each_so NoPatterns (MoreTys t ts) e = absurd cc
  take_each_so (MorePatterns p ps) NoTys e = absurd cc
  take_each_so (MorePatterns p ps) (MoreTys t ts) e =
      (takes_so p t (and_first (takes p t) (take_each ps ts) e), take_each_so ps ts (and_second (takes p t) (take_each ps ts) e))

mutual
  pub takes_given : (p : Pattern) (t : Ty) → Takes p t → takes p t ≡ true
  takes_given (ToPlace p) t h = stands_given t (type_at p) h
  takes_given ToNothing t h = refl
  takes_given (ToParts ps) (Tuple ts) h = take_each_given ps ts h
  takes_given (ToParts ps) t h = absurd h

  take_each_given : (ps : Patterns) (ts : Tys) → TakeEach ps ts → take_each ps ts ≡ true
  take_each_given NoPatterns NoTys h = refl
  take_each_given NoPatterns (MoreTys t ts) h = absurd h
  take_each_given (MorePatterns p ps) NoTys h = absurd h
  take_each_given (MorePatterns p ps) (MoreTys t ts) h =
      and_both (takes p t) (take_each ps ts) (takes_given p t h.0) (take_each_given ps ts h.1)

pub takes_exactly : (b : Bool) (p : Pattern) (t : Ty) → b ≡ takes p t → IsTrue b ↔ Takes p t
takes_exactly b p t e = (λ h. takes_so p t (sym e ∙ h), λ h. e ∙ takes_given p t h)

-- ---- which type is asked

both_parts : {A B C : Type 0} (f : A → B → C) (o : Option A) (q : Option B) (c : C) → both f o q ≡ Some c
    → (a : A) × (b : B) × (o ≡ Some a) × (q ≡ Some b) × (f a b ≡ c)
both_parts f (Some a) (Some b) c e = (a, b, refl, refl, let g : f a b ≡ c = cc in g)
both_parts f (Some a) None c e = absurd cc
both_parts f None q c e = absurd cc

mapped : {A B : Type 0} (f : A → B) (o : Option A) (b : B) → option_map f o ≡ Some b → (a : A) × (o ≡ Some a) × (f a ≡ b)
mapped f (Some a) b e = (a, refl, let g : f a ≡ b = cc in g)
mapped f None b e = absurd cc

mutual
  pub asked_so : (p : Pattern) (t u : Ty) → asked p t ≡ Some u → Asks p t u
  asked_so (ToPlace p) t u e = go (is_settled t) (stands t (type_at p)) refl refl e
    where
      go : (a b : Bool) → is_settled t ≡ a → stands t (type_at p) ≡ b → (if a && b then Some t else Some (type_at p)) ≡ Some u
          → Asks (ToPlace p) t u
      go true true f g h =
          let s : t ≡ u = cc in subst (λ z. Asks (ToPlace p) t z) s (its_own p t (settled_is t f) (stands_so t (type_at p) g))
      go true false f g h =
          let s : type_at p ≡ u = cc in
          subst (λ z. Asks (ToPlace p) t z) s (the_places p t (λ i j. let k = stands_given t (type_at p) j in cc))
      go false b f g h =
          let s : type_at p ≡ u = cc in subst (λ z. Asks (ToPlace p) t z) s (the_places p t (λ i j. not_settled t f i))
  asked_so ToNothing t u e = go (is_settled t) refl e
    where
      go : (a : Bool) → is_settled t ≡ a → (if a then Some t else None) ≡ Some u → Asks ToNothing t u
      go true f h = let s : t ≡ u = cc in subst (λ z. Asks ToNothing t z) s (nowhere t (settled_is t f))
      go false f h = absurd cc
  asked_so (ToParts ps) (Tuple ts) u e =
      let m = mapped Tuple (ask_each ps ts) u e in
      subst (λ z. Asks (ToParts ps) (Tuple ts) z) m.2 (parts ps ts m.0 (ask_each_so ps ts m.0 m.1))
  asked_so (ToParts ps) t u e = absurd cc

  ask_each_so : (ps : Patterns) (ts us : Tys) → ask_each ps ts ≡ Some us → AskEach ps ts us
  ask_each_so NoPatterns NoTys us e = let s : NoTys ≡ us = cc in subst (λ z. AskEach NoPatterns NoTys z) s no_more
  ask_each_so NoPatterns (MoreTys t ts) us e = absurd cc
  ask_each_so (MorePatterns p ps) NoTys us e = absurd cc
  ask_each_so (MorePatterns p ps) (MoreTys t ts) us e =
      let m = both_parts MoreTys (asked p t) (ask_each ps ts) us e in
      subst (λ z. AskEach (MorePatterns p ps) (MoreTys t ts) z) m.4
      (and_more p ps t m.0 ts m.1 (asked_so p t m.0 m.2) (ask_each_so ps ts m.1 m.3))

mutual
  pub asked_given : (p : Pattern) (t u : Ty) → Asks p t u → asked p t ≡ Some u
  asked_given _ _ _ (its_own p t s h) = rw (settled_true t s, stands_given t (type_at p) h) refl
  asked_given _ _ _ (the_places p t h) = go (is_settled t) (stands t (type_at p)) refl refl
    where
      go : (a b : Bool) → is_settled t ≡ a → stands t (type_at p) ≡ b
          → (if a && b then Some t else Some (type_at p)) ≡ Some (type_at p)
      go true true f g = absurd (h (settled_is t f) (stands_so t (type_at p) g))
      go true false f g = refl
      go false b f g = refl
  asked_given _ _ _ (nowhere t s) = rw (settled_true t s) refl
  asked_given _ _ _ (parts ps ts us h) = ap (option_map Tuple) (ask_each_given ps ts us h)

  ask_each_given : (ps : Patterns) (ts us : Tys) → AskEach ps ts us → ask_each ps ts ≡ Some us
  ask_each_given _ _ _ no_more = refl
  ask_each_given _ _ _ (and_more p ps t u ts us h hs) =
      ap (λ o. both MoreTys o (ask_each ps ts)) (asked_given p t u h) ∙ ap (both MoreTys (Some u)) (ask_each_given ps ts us hs)

-- ---- the types of patterns

pub types_told : (ps : List code_pattern.Pattern)
    → types_in (patterns_of (map view_pattern ps)) ≡ tys_of (map (λ (p : code_pattern.Pattern). type_in (view_pattern p)) ps)
types_told [] = refl
types_told (p ∷ ps) = ap (MoreTys (type_in (view_pattern p))) (types_told ps)

-- ---- expressions of the code

-- the type of an expression of the code
pub type_in_view : (e : code_expr.TExpr) → type_of (view_expr e) ≡ view_ty e.ty
type_in_view e = ap type_of (view_expr-out e)

pub at : {A : Type 0} (P : A → Type 0) (x y : A) → x ≡ y → P x → P y
at P x y e h = subst P e h

pub both_at : {A B : Type 0} (P : A → B → Type 0) (x y : A) (u v : B) → x ≡ y → u ≡ v → P x u → P y v
both_at P x y u v e f h = subst (λ z. P y z) f (subst (λ z. P z u) e h)

pub some_is : {A : Type 0} (o : Option A) (x : A) (P : A → Type 0) → o ≡ Some x → IfSome o P → P x
some_is {A} o x P e h = subst (λ (z : Option A). IfSome z P) e h

pub none_is : {A : Type 0} (o : Option A) (P : Type 0) → o ≡ None → IfNone o P → P
none_is {A} o P e h = subst (λ (z : Option A). IfNone z P) e h

-- ---- what is asked of a value

pub asks_some : (o : Option code_ty.Ty) (t : code_ty.Ty) (p : Pattern) (e : code_expr.TExpr) (u : code_ty.Ty) → o ≡ Some t
    → option_map view_ty o ≡ asked p (view_ty e.ty) → u ≡ t → Asks p (type_of (view_expr e)) (view_ty u)
asks_some o t p e u is h same =
    let f : asked p (view_ty e.ty) ≡ Some (view_ty t) = sym h ∙ ap (option_map view_ty) is in
    let g : Asks p (view_ty e.ty) (view_ty t) = asked_so p (view_ty e.ty) (view_ty t) f in
    subst (λ (z : Ty). Asks p z (view_ty u)) (sym (type_in_view e)) (subst (λ (z : code_ty.Ty). Asks p (view_ty e.ty) (view_ty z)) (sym same) g)

pub asks_none : (o : Option code_ty.Ty) (p : Pattern) (e : code_expr.TExpr) → o ≡ None → option_map view_ty o ≡ asked p (view_ty e.ty)
    → (u : Ty) → Asks p (type_of (view_expr e)) u → ⊥
asks_none o p e is h u a =
    let f : asked p (view_ty e.ty) ≡ None = sym h ∙ ap (option_map view_ty) is in
    let g : asked p (view_ty e.ty) ≡ Some u = asked_given p (view_ty e.ty) u (subst (λ (z : Ty). Asks p z u) (type_in_view e) a) in
    absurd (none-some u (sym f ∙ g))

-- ---- assignments

pub asks_once : (p : Pattern) (t u v : Ty) → Asks p t u → Asks p t v → u ≡ v
asks_once p t u v h i = same_Some u v (sym (asked_given p t u h) ∙ asked_given p t v i)

pub assigns_so : (p : Pattern) (value v x : Expr) (t : Ty) → Asks p (type_of value) t → Settles t value v → x ≡ assignment p v → Assigns p value x
assigns_so p value v x t a s e = subst (λ (z : Expr). Assigns p value z) (sym e) (assigned t v a s)

pub assigns_none : (p : Pattern) (value : Expr) (t : Ty) → Asks p (type_of value) t → NoneIs (Settles t value) → NoneIs (Assigns p value)
assigns_none p value t a none _ (assigned u v b s) =
    none v (subst (λ (z : Ty). Settles z value v) (asks_once p (type_of value) u t b a) s)

pub assigned_once : (p : Pattern) (value e f : Expr) → Assigns p value e → Assigns p value f → e ≡ f
assigned_once p value _ _ (assigned t v a s) (assigned u w b r) =
    ap (assignment p) (settled_once t value v w s
    (subst (λ (z : Ty). Settles z value w) (asks_once p (type_of value) u t b a) r))

pub refuses_that : (f : ExprFault) (r : Refusal) (N : Type 0) → N → Refuses f (λ q. q ≡ r) → Refuses f (λ q. (q ≡ r) × N)
refuses_that f r N n h = refuses_so f _ _ (λ q e. (e, n)) h

-- ---- copies

pub is_int_so : (t : Ty) → is_int t ≡ true → t ≡ Int
is_int_so Int e = refl
is_int_so _ e = absurd cc

pub int_is_so : (t : Ty) → t ≡ Int → is_int t ≡ true
int_is_so t e = rw e refl

pub known_so : (t : Ty) → is_known_array t ≡ true → IsKnownArray t
known_so (ArrayOf t) e = settled_is t e
known_so _ e = absurd cc

pub known_given : (t : Ty) → IsKnownArray t → is_known_array t ≡ true
known_given (ArrayOf t) h = settled_true t h
known_given _ h = absurd h

pub copies_so : (a i value v x : Expr) → is_known_array (type_of a) ≡ true → is_int (type_of i) ≡ true → Settles (type_of a) value v
    → x ≡ copy a i v → Copies a i value x
copies_so a i value v x k n s e = subst (λ (z : Expr). Copies a i value z) (sym e) (copied v (known_so (type_of a) k) (is_int_so (type_of i) n) s)

pub no_array_copies : (a i value : Expr) → is_known_array (type_of a) ≡ false → NoneIs (Copies a i value)
no_array_copies a i value k _ (copied v h n s) = let f = known_given (type_of a) h in cc

pub no_int_copies : (a i value : Expr) → is_int (type_of i) ≡ false → NoneIs (Copies a i value)
no_int_copies a i value k _ (copied v h n s) = let f = int_is_so (type_of i) n in cc

pub no_value_copies : (a i value : Expr) → NoneIs (Settles (type_of a) value) → NoneIs (Copies a i value)
no_value_copies a i value none _ (copied v h n s) = none v s

pub copied_once : (a i value e f : Expr) → Copies a i value e → Copies a i value f → e ≡ f
copied_once a i value _ _ (copied v h n s) (copied w k m r) = ap (copy a i) (settled_once (type_of a) value v w s r)

pub values_refused : (f : ExprFault) (a i value : Expr) → NoneIs (Copies a i value) → Refuses f (λ q. q ≡ Clash (type_of a) (type_of value))
    → Refuses f (λ q. CopyingFails a i value q × NoneIs (Copies a i value))
values_refused f a i value none h =
    refuses_so f _ _ (λ q e. (subst (λ (z : Refusal). CopyingFails a i value z) (sym e) of_values, none)) h

pub index_refused : (f : ExprFault) (a i value : Expr) → is_int (type_of i) ≡ false → Refuses f (λ q. q ≡ Clash (type_of i) Int)
    → Refuses f (λ q. CopyingFails a i value q × NoneIs (Copies a i value))
index_refused f a i value other h =
    refuses_so f _ _
    (λ q e. (
      subst (λ (z : Refusal). CopyingFails a i value z) (sym e) (of_index (λ n. let g = int_is_so (type_of i) n in cc)),
      no_int_copies a i value other,
    )) h
