-- What is applied is one expression at most, and none where it is refused.
use Rattle.std.proofs.Common.{◌≡◌, ℕ, Some, None, sym, ap, ◌∙◌, subst}
use Rattle.std.specs.Prelude.{slice_get}
use Rattle.std.proofs.lemmas.Option.{none-some, same_Some}
use Rattle.limbo_types.specs.Types.{Nothing, Adt}
use Rattle.limbo_typed.specs.Typed.{Expr, Exprs, Optional, Absent, Interface, Signature}
use Rattle.limbo_refusals.specs.Refusals.{Refusal, Clash, NoneIs}
use Rattle.limbo_context.specs.Context.{Context, Callee}
use Rattle.limbo_calls.specs.limbo_arguments.Failing.{FailsEach}
use Rattle.limbo_calls.specs.Calls.{Calls, CallsThrough}
use Rattle.limbo_calls.specs.Refusing.{RefusesThrough}
use Rattle.limbo_calls.proofs.Calls.{one_call, one_through, one_construct}
use Rattle.limbo_things.specs.Things.{Thing, AType, AVariant, AFunction, AMethod, AMember}
use Rattle.limbo_applying.specs.Applying.{Applies, CallsFunction, CallsMember, Declares, with_object}
use Rattle.limbo_applying.specs.Refusing.{RefusesApply, RefusesFunction, RefusesMember}
use Rattle.limbo_applying.specs.Refusing as refusing

module _ (c : Context) where
  one_function : (n : ℕ) (object : Optional) (args : Exprs) (e f : Expr) → CallsFunction c n object args e → CallsFunction c n object args f
      → e ≡ f
  one_function n object args e f h k =
      let same : k.callee ≡ h.callee = same_Some k.callee h.callee (sym k.there ∙ h.there) in
      one_call n h.callee.of (with_object h.callee.takes_self object args) e f h.calls
      (subst (λ (z : Callee). Calls n z.of (with_object z.takes_self object args) f) same k.calls)

  declared_once : (i j : ℕ) (s t : Signature) → Declares c i j s → Declares c i j t → s ≡ t
  declared_once i j s t h k =
      let same : h.of ≡ k.of = same_Some h.of k.of (sym h.there ∙ k.there) in
      same_Some s t (sym h.declared ∙ ap (λ (z : Interface). slice_get z.functions j) same ∙ k.declared)

  one_member : (instance : Expr) (i j : ℕ) (args : Exprs) (e f : Expr) → CallsMember c instance i j args e
      → CallsMember c instance i j args f → e ≡ f
  one_member instance i j args e f h k =
      let same : k.member ≡ h.member = declared_once i j k.member h.member k.declares h.declares in
      one_through c.system instance i j h.member.of args e f h.calls
      (subst (λ (z : Signature). CallsThrough c.system instance i j z.of args f) same k.calls)

  pub applied_once : (thing : Thing) (args : Exprs) (e f : Expr) → Applies c thing args e → Applies c thing args f → e ≡ f
  applied_once (AFunction n) args e f h k = one_function n Absent args e f h k
  applied_once (AMethod n object) args e f h k = one_function n object args e f h k
  applied_once (AMember instance i j) args e f h k = one_member instance i j args e f h k
  applied_once (AType (Adt a)) args e f h k = one_construct c.adts a None args e f h k
  applied_once (AVariant a v) args e f h k = one_construct c.adts a (Some v) args e f h k
  applied_once _ args e f h k = absurd h

  -- ---- where it is refused

  pub no_function : (n : ℕ) (object : Optional) (args : Exprs) (r : Refusal) → slice_get c.functions n ≡ None → r ≡ Clash Nothing Nothing
      → RefusesFunction c n object args r × NoneIs (CallsFunction c n object args)
  no_function n object args r none e = (refusing.no_function none e, λ x h. none-some h.callee (sym none ∙ h.there))

  pub function_fails : (n : ℕ) (object : Optional) (args : Exprs) (callee : Callee) (r : Refusal) → slice_get c.functions n ≡ Some callee
      → FailsEach callee.of.answer callee.of.args (with_object callee.takes_self object args) r
      × NoneIs (Calls n callee.of (with_object callee.takes_self object args))
      → RefusesFunction c n object args r × NoneIs (CallsFunction c n object args)
  function_fails n object args callee r there p = (
    refusing.arguments callee there p.0,
    λ x h.
        let same : h.callee ≡ callee = same_Some h.callee callee (sym h.there ∙ there) in
        p.1 x (subst (λ (z : Callee). Calls n z.of (with_object z.takes_self object args) x) same h.calls),
  )

  pub no_member : (instance : Expr) (i j : ℕ) (args : Exprs) (r : Refusal) → NoneIs (Declares c i j) → r ≡ Clash Nothing Nothing
      → RefusesMember c instance i j args r × NoneIs (CallsMember c instance i j args)
  no_member instance i j args r none e = (refusing.no_member none e, λ x h. none h.member h.declares)

  pub member_fails : (instance : Expr) (i j : ℕ) (args : Exprs) (member : Signature) (r : Refusal) → Declares c i j member
      → RefusesThrough c.system instance i member.of args r × NoneIs (CallsThrough c.system instance i j member.of args)
      → RefusesMember c instance i j args r × NoneIs (CallsMember c instance i j args)
  member_fails instance i j args member r declares p = (
    refusing.through member declares p.0,
    λ x h.
        let same : h.member ≡ member = declared_once i j h.member member h.declares declares in
        p.1 x (subst (λ (z : Signature). CallsThrough c.system instance i j z.of args x) same h.calls),
  )
