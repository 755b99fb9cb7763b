-- Why a name is no declared exception's, by the rules.
use Rattle.std.proofs.Common.{◌≡◌, refl, sym, ap, subst, ℕ, List, ◌∷◌, Option, None, Some}
use Rattle.std.specs.Prelude.{IsSome}
use Rattle.std.proofs.lemmas.Bool.{false≢true}
use Rattle.limbo_tree.specs.Stmts as stmts
use Rattle.limbo_types.specs.declared.ty.Ty.TheVariants as make
use Rattle.limbo_types.specs.Types.{Ty, Nothing}
use Rattle.limbo_types.specs.View.{view_ty}
use Rattle.limbo_types.proofs.View.{view_ty-Nothing}
use Rattle.limbo_refusals.specs.declared.fault.ExprFault.{ExprFault}
use Rattle.limbo_refusals.specs.Refusals.{Clash, NoneIs, Refuses}
use Rattle.limbo_causes.specs.declared.fault.Cause as code
use Rattle.limbo_causes.specs.declared.fault.Cause.TheVariants as told_cause
use Rattle.limbo_causes.specs.Causes.{Cause, FailsBy, Unknown, nothing}
use Rattle.limbo_causes.proofs.Telling.{fails_weaker}
use Rattle.limbo_scope.specs.Scopes.{seen}
use Rattle.limbo_context.specs.Context.{Context, Body}
use Rattle.limbo_things.specs.Things.{Thing, AnException, NameIs, type_named}
use Rattle.limbo_stmt_values.specs.limbo_typing.Failing as failing
use Rattle.limbo_stmt_values.specs.limbo_typing.Failing.{unfit}
use Rattle.limbo_stmt_values.specs.limbo_stating.Handlers as handlers
use Rattle.limbo_stmt_values.specs.limbo_stating.Handlers.{FailsHandled, AreHandled, FailsHandlerHead}
use Rattle.limbo_typed.specs.declared.stmt.HandlerPattern.{HandlerPattern}
use Rattle.limbo_stmt_values.specs.Leading.{point, From}
use Rattle.limbo_heads.specs.Catching.{FailsVariable}
use Rattle.limbo_stmt_values.proofs.Told.{told_alone}

some_of : {A : Type 0} (o : Option A) → IsSome o → (a : A) × (o ≡ Some a)
some_of None h = absurd (false≢true h)
some_of (Some a) h = (a, refl)

-- A name that stands first among patterns fails.
abbrev pub FailsFirst : Context → Body → List ℕ → Cause → Type 0
FailsFirst c b n k = (rest : List stmts.HandlerPattern) → FailsHandled c b (stmts.Declared n ∷ rest) k

module _ (c : Context) (b : Body) (n : List ℕ) where
  pub another_thing : (t : Thing) (f : ExprFault) (k : code.Cause) → k ≡ told_cause.Refused f → NameIs c b n t
      → NoneIs (λ i. t ≡ AnException i) → Refuses f (λ r. r ≡ Clash (type_named t) (type_named t)) → FailsBy k (FailsFirst c b n)
  another_thing t f k e is none h =
      fails_weaker k _ _
      (λ j g rest.
      subst (λ (z : Cause). FailsHandled c b (stmts.Declared n ∷ rest) z) (sym g) (handlers.no_exception n rest t is none))
      (told_alone f k (Clash (type_named t) (type_named t)) (Clash (type_named t) (type_named t)) e h refl)

  pub unseen_name : seen n b.scopes ≡ None → FailsFirst c b n Unknown
  unseen_name e rest = handlers.no_name n rest Unknown (failing.unseen e)

  pub no_thing : (f : ExprFault) (k : code.Cause) → k ≡ told_cause.Refused f
      → Refuses f (λ r. r ≡ Clash (view_ty make.Nothing) (view_ty make.Nothing)) → IsSome (seen n b.scopes) → NoneIs (NameIs c b n)
      → FailsBy k (FailsFirst c b n)
  no_thing f k e h some none =
      let m = some_of (seen n b.scopes) some in
      fails_weaker k _ _
      (λ j g rest.
      subst (λ (z : Cause). FailsHandled c b (stmts.Declared n ∷ rest) z) (sym g)
      (handlers.no_name n rest nothing (failing.no_thing m.0 m.1 none)))
      (told_alone f k (Clash (view_ty make.Nothing) (view_ty make.Nothing)) (Clash Nothing Nothing) e h
      (ap (λ (t : Ty). Clash t t) view_ty-Nothing))

module _ (c : Context) (b : Body) (xs : List stmts.HandlerPattern) where
  pub patterns_fail : (f : code.Cause) (name : Option (List ℕ)) → FailsBy f (FailsHandled c b xs)
      → FailsBy f (λ k. From (λ p. FailsHandlerHead p xs name k) c b)
  patterns_fail f name h = fails_weaker f _ _ (λ k g n. handlers.a_pattern name k g) h

  pub variable_fails : (f : code.Cause) (name : List ℕ) (zs : List HandlerPattern) → AreHandled c b xs zs
      → FailsBy f (FailsVariable c zs) → FailsBy f (λ k. From (λ p. FailsHandlerHead p xs (Some name) k) c b)
  variable_fails f name zs h g =
      fails_weaker f _ _
      (λ k v n.
      subst (λ (j : Cause). FailsHandlerHead (point c b n) xs (Some name) j) (sym v.told)
      (handlers.the_name name zs v.ty v.refusal h v.caught v.forbidden)) g
