-- What is told where something isn't applied, and what is looked up.
use Rattle.std.proofs.Common.{◌≡◌, ◌<◌, ◌≤◌, ℕ, List, length, map, get_or, Some, None, option_map, refl, sym, ap, ◌∙◌, subst}
use Rattle.std.specs.Prelude.{slice_get}
use Rattle.std.proofs.lemmas.Option.{none-some, slice_get-map, slice_get_read, slice_get_past}
use Rattle.limbo_types.specs.Types.{Ty, Nothing, Adt}
use Rattle.limbo_types.specs.View.{view_ty}
use Rattle.limbo_layout.specs.Adts.{Def}
use Rattle.limbo_typed.specs.declared.expr.TExpr as code_expr
use Rattle.limbo_typed.specs.Typed.{Expr, Exprs, Optional, Interface, Signature}
use Rattle.limbo_typed.specs.View.{view_expr}
use Rattle.limbo_refusals.specs.declared.fault.ExprFault.{ExprFault}
use Rattle.limbo_refusals.specs.Refusals.{Clash, Refuses, NoneIs}
use Rattle.limbo_context.specs.Context.{Context, Callee}
use Rattle.limbo_calls.specs.limbo_arguments.Failing.{FailsEach}
use Rattle.limbo_calls.proofs.limbo_arguments_lemmas.Faults.{refuses_weaker}
use Rattle.limbo_calls.specs.Calls.{Calls, CallsThrough, Constructs}
use Rattle.limbo_calls.specs.Refusing.{RefusesThrough, RefusesConstruct}
use Rattle.limbo_things.specs.Things.{Thing, AValue, AType, AVariant}
use Rattle.limbo_things.specs.Choosing.{own_adt}
use Rattle.limbo_things.proofs.Forms.{type_is}
use Rattle.limbo_applying.specs.Applying.{Applies, CallsFunction, CallsMember, Declares, with_object}
use Rattle.limbo_applying.specs.Refusing.{RefusesApply, RefusesFunction, RefusesMember}
use Rattle.limbo_applying.proofs.Once.{no_function, function_fails, no_member, member_fails}

module _ (c : Context) (f : ExprFault) where
  pub function_lacks : (n : ℕ) (object : Optional) (args : Exprs) → slice_get c.functions n ≡ None
      → Refuses f (λ r. r ≡ Clash Nothing Nothing)
      → Refuses f (λ r. RefusesFunction c n object args r × NoneIs (CallsFunction c n object args))
  function_lacks n object args none h =
      refuses_weaker f (λ r. r ≡ Clash Nothing Nothing) (λ r. RefusesFunction c n object args r × NoneIs (CallsFunction c n object args))
      (λ r e. no_function c n object args r none e) h

  pub function_refused : (n : ℕ) (object : Optional) (args es : Exprs) (callee : Callee) → slice_get c.functions n ≡ Some callee
      → es ≡ with_object callee.takes_self object args
      → Refuses f (λ r. FailsEach callee.of.answer callee.of.args es r × NoneIs (Calls n callee.of es))
      → Refuses f (λ r. RefusesFunction c n object args r × NoneIs (CallsFunction c n object args))
  function_refused n object args es callee there e h =
      refuses_weaker f (λ r. FailsEach callee.of.answer callee.of.args es r × NoneIs (Calls n callee.of es))
      (λ r. RefusesFunction c n object args r × NoneIs (CallsFunction c n object args))
      (λ r p. function_fails c n object args callee r there
      (subst (λ (z : Exprs). FailsEach callee.of.answer callee.of.args z r × NoneIs (Calls n callee.of z)) e p)) h

  pub member_lacks : (instance : Expr) (i j : ℕ) (args : Exprs) → NoneIs (Declares c i j) → Refuses f (λ r. r ≡ Clash Nothing Nothing)
      → Refuses f (λ r. RefusesMember c instance i j args r × NoneIs (CallsMember c instance i j args))
  member_lacks instance i j args none h =
      refuses_weaker f (λ r. r ≡ Clash Nothing Nothing)
      (λ r. RefusesMember c instance i j args r × NoneIs (CallsMember c instance i j args))
      (λ r e. no_member c instance i j args r none e) h

  pub member_refused : (instance : Expr) (i j : ℕ) (args : Exprs) (member : Signature) → Declares c i j member
      → Refuses f (λ r. RefusesThrough c.system instance i member.of args r × NoneIs (CallsThrough c.system instance i j member.of args))
      → Refuses f (λ r. RefusesMember c instance i j args r × NoneIs (CallsMember c instance i j args))
  member_refused instance i j args member declares h =
      refuses_weaker f
      (λ r. RefusesThrough c.system instance i member.of args r × NoneIs (CallsThrough c.system instance i j member.of args))
      (λ r. RefusesMember c instance i j args r × NoneIs (CallsMember c instance i j args))
      (λ r p. member_fails c instance i j args member r declares p) h

  pub type_refused : (t : Ty) (a : ℕ) (args : Exprs) (defs : List Def) → t ≡ Adt a → defs ≡ c.adts
      → Refuses f (λ r. RefusesConstruct defs a None args r × NoneIs (Constructs defs a None args))
      → Refuses f (λ r. RefusesApply c (AType t) args r × NoneIs (Applies c (AType t) args))
  type_refused t a args defs e d h =
      let P : Ty → Type 0 = λ z. Refuses f (λ r. RefusesApply c (AType z) args r × NoneIs (Applies c (AType z) args)) in
      let Q : List Def → Type 0 = λ z. Refuses f (λ r. RefusesConstruct z a None args r × NoneIs (Constructs z a None args)) in
      subst P (sym e) (subst Q d h)

  pub other_type : (t : Ty) (args : Exprs) → own_adt t ≡ None → Refuses f (λ r. r ≡ Clash t t)
      → Refuses f (λ r. RefusesApply c (AType t) args r × NoneIs (Applies c (AType t) args))
  other_type (Adt a) args e h = absurd (none-some a (sym e))
  other_type t args e h = refuses_weaker f (λ r. r ≡ Clash t t) (λ r. (r ≡ Clash t t) × (Expr → ⊥ → ⊥)) (λ r p. (p, λ x q. q)) h

  pub variant_refused : (thing : Thing) (a v : ℕ) (args : Exprs) (defs : List Def) → thing ≡ AVariant a v → defs ≡ c.adts
      → Refuses f (λ r. RefusesConstruct defs a (Some v) args r × NoneIs (Constructs defs a (Some v) args))
      → Refuses f (λ r. RefusesApply c thing args r × NoneIs (Applies c thing args))
  variant_refused thing a v args defs e d h =
      let P : Thing → Type 0 = λ z. Refuses f (λ r. RefusesApply c z args r × NoneIs (Applies c z args)) in
      let Q : List Def → Type 0 = λ z. Refuses f (λ r. RefusesConstruct z a (Some v) args r × NoneIs (Constructs z a (Some v) args)) in
      subst P (sym e) (subst Q d h)

  pub value_refused : (thing : Thing) (e : code_expr.TExpr) (args : Exprs) → thing ≡ AValue (view_expr e)
      → Refuses f (λ r. r ≡ Clash (view_ty e.ty) (view_ty e.ty))
      → Refuses f (λ r. RefusesApply c thing args r × NoneIs (Applies c thing args))
  value_refused thing e args at h =
      let P : Thing → Type 0 = λ z. Refuses f (λ r. RefusesApply c z args r × NoneIs (Applies c z args)) in
      subst P (sym at)
      (refuses_weaker f (λ r. r ≡ Clash (view_ty e.ty) (view_ty e.ty))
      (λ r. RefusesApply c (AValue (view_expr e)) args r × NoneIs (Applies c (AValue (view_expr e)) args))
      (λ r p. (p ∙ ap (λ (z : Ty). Clash z z) (sym (type_is e)), λ x q. q)) h)

  pub as_thing : (thing other : Thing) (args : Exprs) → thing ≡ other
      → Refuses f (λ r. RefusesApply c other args r × NoneIs (Applies c other args))
      → Refuses f (λ r. RefusesApply c thing args r × NoneIs (Applies c thing args))
  as_thing thing other args e h =
      let P : Thing → Type 0 = λ z. Refuses f (λ r. RefusesApply c z args r × NoneIs (Applies c z args)) in subst P (sym e) h

-- ---- what is looked up

pub seen_at : {A B : Type 0} (f : A → B) (xs ys : List A) (i : ℕ) (x : A) → xs ≡ ys → i < length xs → x ≡ get_or xs i x
    → slice_get (map f ys) i ≡ Some (f x)
seen_at {A} f xs ys i x same l e =
    subst (λ (z : List A). slice_get (map f z) i ≡ Some (f x)) same
    (slice_get-map f xs i ∙ ap (option_map f) (slice_get_read xs (length xs) i x refl l e))

pub none_at : {A B : Type 0} (f : A → B) (xs ys : List A) (i : ℕ) → xs ≡ ys → length xs ≤ i → slice_get (map f ys) i ≡ None
none_at {A} f xs ys i same l =
    subst (λ (z : List A). slice_get (map f z) i ≡ None) same (slice_get-map f xs i ∙ ap (option_map f) (slice_get_past xs i l))

pub no_interface : (c : Context) (i j : ℕ) → slice_get c.interfaces i ≡ None → NoneIs (Declares c i j)
no_interface c i j e s h = none-some h.of (sym e ∙ h.there)

pub no_declared : (c : Context) (i j : ℕ) (of : Interface) → slice_get c.interfaces i ≡ Some of → slice_get of.functions j ≡ None
    → NoneIs (Declares c i j)
no_declared c i j of there e s h =
    let same : Some of ≡ Some h.of = sym there ∙ h.there in
    let is : of ≡ h.of = cc in
    none-some s (sym e ∙ ap (λ (z : Interface). slice_get z.functions j) is ∙ h.declared)

-- ---- what is given

pub function_given : (c : Context) (n : ℕ) (object : Optional) (args es : Exprs) (e : Expr) (callee : Callee)
    → slice_get c.functions n ≡ Some callee → es ≡ with_object callee.takes_self object args → Calls n callee.of es e
    → CallsFunction c n object args e
function_given c n object args es e callee there same h = record {
  callee = callee;
  there = there;
  calls = subst (λ (z : Exprs). Calls n callee.of z e) same h;
}

pub declared_at : (c : Context) (i j : ℕ) (of : Interface) (member : Signature) → slice_get c.interfaces i ≡ Some of
    → slice_get of.functions j ≡ Some member → Declares c i j member
declared_at c i j of member there declared = record { of = of; there = there; declared = declared }

pub member_given : (c : Context) (instance : Expr) (i j : ℕ) (args : Exprs) (e : Expr) (member : Signature) → Declares c i j member
    → CallsThrough c.system instance i j member.of args e → CallsMember c instance i j args e
member_given c instance i j args e member declares h = record { member = member; declares = declares; calls = h }
