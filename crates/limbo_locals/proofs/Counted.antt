-- Constants of the first names, so many.
use Rattle.std.proofs.Common.{◌≡◌, ◌<◌, ◌≤◌, ◌+◌, ◌++◌, ◌∷◌, [], ℕ, zero, suc, List, length, take, refl, subst, ◌∙◌, arith}
use Rattle.std.proofs.lemmas.List.{take_all}
use Rattle.limbo_tree.specs.Exprs as tree
use Rattle.limbo_causes.specs.Causes.{Cause, FailsBy}
use Rattle.limbo_causes.specs.declared.fault.Cause as code
use Rattle.limbo_causes.proofs.Telling.{fails_weaker}
use Rattle.limbo_context.specs.Context.{Context, Body, Valued}
use Rattle.limbo_local.specs.Points.{Point}
use Rattle.limbo_local.specs.Local.{IsConstant, AreConstants}
use Rattle.limbo_local.specs.Failing.{FailsConstant, FailsConstants}
use Rattle.limbo_local.specs.Failing as failing
use Rattle.limbo_locals.specs.Anywhere.{at, IsConstantAt, AreConstantsAt, FailsConstantAt, FailsConstantsAt}

at_first : (k : ℕ) → k + 0 ≡ k
at_first k = omega arith

one_later : (k i : ℕ) → k + suc i ≡ suc k + i
one_later k i = omega arith

behind_all : (i k : ℕ) → k ≡ i → k ≡ 0 + i
behind_all i k is = omega arith

next : (i : ℕ) → suc i ≡ i + 1
next i = omega arith

module _ (e : tree.Expr) where
  constants_on : (k : ℕ) (ns : List (List ℕ)) (i : ℕ) (vs : List Valued) (v : Valued) (p q r : Point) → i < length ns
      → AreConstants e k (take i ns) vs p q → IsConstant q e (k + i) v r → AreConstants e k (take (suc i) ns) (vs ++ v ∷ []) p r
  constants_on k [] i vs v p q r l h one = absurd (omega arith)
  constants_on k (n ∷ ns) zero [] v p q r l h one =
      (r, subst (λ (z : Point). IsConstant z e k v r) h (subst (λ (j : ℕ). IsConstant q e j v r) (at_first k) one), refl)
  constants_on k (n ∷ ns) zero (w ∷ ws) v p q r l h one = absurd h
  constants_on k (n ∷ ns) (suc i) [] v p q r l h one = absurd h
  constants_on k (n ∷ ns) (suc i) (w ∷ ws) v p q r l h one = (
    h.0,
    h.1,
    constants_on (suc k) ns i ws v h.0 q r (omega arith) h.2 (subst (λ (j : ℕ). IsConstant q e j v r) (one_later k i) one),
  )

  constant_fails : (k : ℕ) (ns : List (List ℕ)) (i : ℕ) (vs : List Valued) (p q : Point) (c : Cause) → i < length ns
      → AreConstants e k (take i ns) vs p q → FailsConstant q e (k + i) c → FailsConstants e k ns p c
  constant_fails k [] i vs p q c l h f = absurd (omega arith)
  constant_fails k (n ∷ ns) zero [] p q c l h f =
      failing.this_name k n ns p c
      (subst (λ (z : Point). FailsConstant z e k c) h (subst (λ (j : ℕ). FailsConstant q e j c) (at_first k) f))
  constant_fails k (n ∷ ns) zero (w ∷ ws) p q c l h f = absurd h
  constant_fails k (n ∷ ns) (suc i) [] p q c l h f = absurd h
  constant_fails k (n ∷ ns) (suc i) (w ∷ ws) p q c l h f =
      failing.later_name k n ns p h.0 w c h.1
      (constant_fails (suc k) ns i ws h.0 q c (omega arith) h.2 (subst (λ (j : ℕ). FailsConstant q e j c) (one_later k i) f))

-- What is known behind the first names.
pub record Counted (c d : Context) (b f : Body) (e : tree.Expr) (ns : List (List ℕ)) (vs : List Valued) (i : ℕ) : Type 0 where
  pub context : d ≡ c
  pub scopes : f.scopes ≡ b.scopes
  pub constants : (n : ℕ) → AreConstants e 0 (take i ns) vs (at c b n) (at c f n)

pub counted_start : (c : Context) (b : Body) (e : tree.Expr) (ns : List (List ℕ)) → Counted c c b b e ns [] 0
counted_start c b e ns = record {
  context = refl;
  scopes = refl;
  constants = λ n. refl;
}

module _ (c d : Context) (b f : Body) (e : tree.Expr) (ns : List (List ℕ)) (vs : List Valued) (i : ℕ) (h : Counted c d b f e ns vs i) where
  pub counted_more : (d' : Context) (f' : Body) (v : Valued) (k : ℕ) → i < length ns → k ≡ i → IsConstantAt d f e k v f' → d' ≡ d
      → f'.scopes ≡ f.scopes → Counted c d' b f' e ns (vs ++ v ∷ []) (i + 1)
  counted_more d' f' v k l is one p s = record {
    context = p ∙ h.context;
    scopes = s ∙ h.scopes;
    constants = λ n.
        subst (λ (j : ℕ). AreConstants e 0 (take j ns) (vs ++ v ∷ []) (at c b n) (at c f' n)) (next i)
        (constants_on e 0 ns i vs v (at c b n) (at c f n) (at c f' n) l (h.constants n)
        (subst (λ (j : ℕ). IsConstant (at c f n) e j v (at c f' n)) (behind_all i k is)
        (subst (λ (z : Context). IsConstant (at z f n) e k v (at z f' n)) h.context (one n))));
  }

  pub counted_fails : (k : ℕ) (g : code.Cause) → i < length ns → k ≡ i → FailsBy g (FailsConstantAt d f e k)
      → FailsBy g (FailsConstantsAt c b e ns)
  counted_fails k g l is x =
      fails_weaker g _ _
      (λ z y n. constant_fails e 0 ns i vs (at c b n) (at c f n) z l (h.constants n)
      (subst (λ (j : ℕ). FailsConstant (at c f n) e j z) (behind_all i k is)
      (subst (λ (w : Context). FailsConstant (at w f n) e k z) h.context (y n)))) x

  pub counted_end : length ns ≤ i → AreConstantsAt c b e ns vs f
  counted_end l n = subst (λ (zs : List (List ℕ)). AreConstants e 0 zs vs (at c b n) (at c f n)) (take_all i ns l) (h.constants n)
