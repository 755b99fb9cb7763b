-- Module types that are declared.
use Rattle.std.proofs.Common.{◌≡◌, ◌∷◌, [], ℕ, List, length, sym, subst}
use Rattle.limbo_tree.specs.Decls as decls
use Rattle.limbo_tree.specs.Decls.{Members}
use Rattle.limbo_typed.specs.Typed.{Stmt, Empty}
use Rattle.limbo_declarations.specs.Scopes.{ModuleIsOnce}
use Rattle.limbo_causes.specs.declared.fault.Cause as code
use Rattle.limbo_causes.specs.Causes.{Twice, FailsBy}
use Rattle.limbo_causes.proofs.Telling.{fails_weaker}
use Rattle.limbo_context.specs.Context.{Context, Body}
use Rattle.limbo_locals.specs.limbo_local.Points.{Point, AreNew, leave}
use Rattle.limbo_locals.specs.limbo_local.Members.{open_module, AllAddToModule}
use Rattle.limbo_locals.specs.limbo_local.Failing as failing
use Rattle.limbo_locals.specs.limbo_local.Failing.{FailsAllInModule, FailsToDeclare}
use Rattle.limbo_locals.specs.Anywhere.{at, DeclaresAt, FailsAt}
use Rattle.limbo_interfaces.specs.Modules.{AddsMembers, FailsMembers}

module _ (name : List ℕ) (ms : Members) (c : Context) (b : Body) where
  module _ (i : ℕ) (d : Context) (f : Body) (number : i ≡ length c.interfaces)
      (opened : (n : ℕ) → at d f n ≡ open_module name (at c b n)) where
    inside_of : (e : Context) (h : Body) → AddsMembers i ms d f e h → (n : ℕ)
        → AllAddToModule (length c.interfaces) ms (open_module name (at c b n)) (at e h n)
    inside_of e h adds n =
        subst (λ (j : ℕ). AllAddToModule j ms (open_module name (at c b n)) (at e h n)) number
        (subst (λ (p : Point). AllAddToModule i ms p (at e h n)) (opened n) (adds n))

    pub module_declares : (e : Context) (h h' : Body) (z : Stmt) → ModuleIsOnce ms → AreNew (name ∷ []) b → AddsMembers i ms d f e h
        → ((n : ℕ) → at e h' n ≡ leave (at e h n)) → z ≡ Empty → DeclaresAt c b (decls.Module name ms) z e h'
    module_declares e h h' z once new adds left is module_name n = (at e h n, once, new, inside_of e h adds n, is, left n)

    pub members_fail : (k : code.Cause) → FailsBy k (FailsMembers i ms d f) → FailsBy k (FailsAt c b (decls.Module name ms))
    members_fail k x =
        fails_weaker k _ _
        (λ z y n. failing.in_module name ms (at c b n) z
        (subst (λ (j : ℕ). FailsAllInModule j ms (open_module name (at c b n)) z) number
        (subst (λ (p : Point). FailsAllInModule i ms p z) (opened n) (y n)))) x

  pub module_again : (f : code.Cause) → FailsBy f (λ k. (k ≡ Twice) × (AreNew (name ∷ []) b → ⊥))
      → FailsBy f (FailsAt c b (decls.Module name ms))
  module_again f h =
      fails_weaker f _ _
      (λ k x n. subst (FailsToDeclare (decls.Module name ms) (at c b n)) (sym x.0) (failing.module_again name ms (at c b n) x.1)) h

  pub module_repeats : (f : code.Cause) → FailsBy f (λ k. (k ≡ Twice) × (ModuleIsOnce ms → ⊥))
      → FailsBy f (FailsAt c b (decls.Module name ms))
  module_repeats f h =
      fails_weaker f _ _
      (λ k x n. subst (FailsToDeclare (decls.Module name ms) (at c b n)) (sym x.0) (failing.module_repeats name ms (at c b n) x.1)) h
