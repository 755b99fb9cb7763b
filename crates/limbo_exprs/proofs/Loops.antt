-- Expressions one after the other: what the rest comes to, all come to.
use Rattle.std.proofs.Common.{◌≡◌, ◌<◌, ◌≤◌, ◌+◌, ℕ, List, [], ◌∷◌, ◌++◌, length, get_or, map, drop, sym, ap, subst}
use Rattle.std.proofs.lemmas.List.{drop_more, append_assoc, append-nil, drop_all}
use Rattle.limbo_tree.specs.declared.expr.Expr as code_expr
use Rattle.limbo_tree.specs.declared.expr.Init as code_init
use Rattle.limbo_tree.specs.Exprs as tree
use Rattle.limbo_tree.specs.View as source
use Rattle.limbo_typed.specs.declared.expr.TExpr as code_typed
use Rattle.limbo_typed.specs.declared.expr.Pattern as code_pattern
use Rattle.limbo_typed.specs.Typed.{Optional, Patterns}
use Rattle.limbo_typed.specs.View.{view_expr, view_exprs, view_pattern, patterns_of, Item, items_of}
use Rattle.limbo_causes.specs.declared.fault.Cause as code
use Rattle.limbo_causes.specs.Causes.{Cause, FailsBy}
use Rattle.limbo_causes.proofs.Telling.{fails_weaker}
use Rattle.limbo_context.specs.Context.{Context, Body}
use Rattle.limbo_typing.specs.Typing.{HasValue, HaveValues, IsPattern, ArePatterns, Fill}
use Rattle.limbo_typing.specs.Typing as typing
use Rattle.limbo_typing.specs.Failing.{FailsValue, FailsSome, FailsPattern, FailsPatterns, FailsFill}
use Rattle.limbo_typing.specs.Failing as failing
use Rattle.limbo_exprs.specs.Parts.{Filling, FillsOne, FailsOne}

abbrev pub Trees : Type 0
Trees = List code_expr.Expr

-- the trees from a place on
abbrev pub from : ℕ → Trees → tree.Exprs
from i es = source.exprs_of (map source.view_expr (drop i es))

abbrev pub inits_from : ℕ → List code_init.Init → tree.Inits
inits_from i is = source.inits_of (map source.view_init (drop i is))

from_more : (es : Trees) (i : ℕ) (d : code_expr.Expr) → i < length es
    → from i es ≡ tree.MoreExprs (source.view_expr (get_or es i d)) (from (i + 1) es)
from_more es i d l = ap (λ xs. source.exprs_of (map source.view_expr xs)) (drop_more es i d l)

inits_more : (is : List code_init.Init) (i : ℕ) (d : code_init.Init) → i < length is
    → inits_from i is ≡ tree.MoreInits (source.view_init (get_or is i d)) (inits_from (i + 1) is)
inits_more is i d l = ap (λ xs. source.inits_of (map source.view_init xs)) (drop_more is i d l)

module _ (c : Context) where
  -- ---- values

  pub record Valued (start now : Body) (es : Trees) (i : ℕ) (done : List code_typed.TExpr) : Type 0 where
    pub typed : (ys : List code_typed.TExpr) (b : Body) → HaveValues c now (from i es) (view_exprs ys) b
        → HaveValues c start (from 0 es) (view_exprs (done ++ ys)) b
    pub fails : (k : Cause) → FailsSome c now (from i es) k → FailsSome c start (from 0 es) k

  pub valued_start : (b : Body) (es : Trees) → Valued b b es 0 []
  valued_start b es = record { typed = λ ys b1 h. h; fails = λ k h. h }

  pub valued_more : (start now next : Body) (es : Trees) (i : ℕ) (done : List code_typed.TExpr) (d : code_expr.Expr) (x : code_typed.TExpr)
      → i < length es → HasValue c now (source.view_expr (get_or es i d)) (view_expr x) next → Valued start now es i done
      → Valued start next es (i + 1) (done ++ (x ∷ []))
  valued_more start now next es i done d x l v h = record {
    typed = λ ys b w.
        subst (λ zs. HaveValues c start (from 0 es) (view_exprs zs) b) (sym (append_assoc done (x ∷ []) ys))
        (h.typed (x ∷ ys) b
        (subst (λ zs. HaveValues c now zs (view_exprs (x ∷ ys)) b) (sym (from_more es i d l))
        (typing.values now next b (source.view_expr (get_or es i d)) (from (i + 1) es) (view_expr x) (view_exprs ys) v w)));
    fails = λ k w.
        h.fails k
        (subst (λ zs. FailsSome c now zs k) (sym (from_more es i d l))
        (failing.later now next (source.view_expr (get_or es i d)) (from (i + 1) es) (view_expr x) k v w));
  }

  pub valued_end : (start now : Body) (es : Trees) (i : ℕ) (done : List code_typed.TExpr) → length es ≤ i → Valued start now es i done
      → HaveValues c start (from 0 es) (view_exprs done) now
  valued_end start now es i done l h =
      subst (λ zs. HaveValues c start (from 0 es) (view_exprs zs) now) (append-nil done)
      (h.typed [] now
      (subst (λ zs. HaveValues c now (source.exprs_of (map source.view_expr zs)) (view_exprs []) now) (sym (drop_all i es l))
      (typing.no_values now)))

  pub valued_fails : (start now : Body) (es : Trees) (i : ℕ) (done : List code_typed.TExpr) (d : code_expr.Expr) (f : code.Cause)
      → i < length es → FailsBy f (FailsValue c now (source.view_expr (get_or es i d))) → Valued start now es i done
      → FailsBy f (FailsSome c start (from 0 es))
  valued_fails start now es i done d f l told h =
      fails_weaker f _ _ (λ k x.
      h.fails k
      (subst (λ zs. FailsSome c now zs k) (sym (from_more es i d l))
      (failing.here now (source.view_expr (get_or es i d)) (from (i + 1) es) k x))) told

  -- ---- patterns

  abbrev pub view_patterns : List code_pattern.Pattern → Patterns
  view_patterns ps = patterns_of (map view_pattern ps)

  pub record Patterned (start now : Body) (es : Trees) (i : ℕ) (done : List code_pattern.Pattern) : Type 0 where
    pub typed : (ps : List code_pattern.Pattern) (b : Body) → ArePatterns c now (from i es) (view_patterns ps) b
        → ArePatterns c start (from 0 es) (view_patterns (done ++ ps)) b
    pub fails : (k : Cause) → FailsPatterns c now (from i es) k → FailsPatterns c start (from 0 es) k

  pub patterned_start : (b : Body) (es : Trees) → Patterned b b es 0 []
  patterned_start b es = record { typed = λ ys b1 h. h; fails = λ k h. h }

  pub patterned_more : (start now next : Body) (es : Trees) (i : ℕ) (done : List code_pattern.Pattern) (d : code_expr.Expr)
      (p : code_pattern.Pattern) → i < length es → IsPattern c now (source.view_expr (get_or es i d)) (view_pattern p) next
      → Patterned start now es i done → Patterned start next es (i + 1) (done ++ (p ∷ []))
  patterned_more start now next es i done d p l v h = record {
    typed = λ ps b w.
        subst (λ zs. ArePatterns c start (from 0 es) (view_patterns zs) b) (sym (append_assoc done (p ∷ []) ps))
        (h.typed (p ∷ ps) b
        (subst (λ zs. ArePatterns c now zs (view_patterns (p ∷ ps)) b) (sym (from_more es i d l))
        (typing.more_patterns now next b (source.view_expr (get_or es i d)) (from (i + 1) es) (view_pattern p) (view_patterns ps) v w)));
    fails = λ k w.
        h.fails k
        (subst (λ zs. FailsPatterns c now zs k) (sym (from_more es i d l))
        (failing.later_pattern now next (source.view_expr (get_or es i d)) (from (i + 1) es) (view_pattern p) k v w));
  }

  pub patterned_end : (start now : Body) (es : Trees) (i : ℕ) (done : List code_pattern.Pattern) → length es ≤ i
      → Patterned start now es i done → ArePatterns c start (from 0 es) (view_patterns done) now
  patterned_end start now es i done l h =
      subst (λ zs. ArePatterns c start (from 0 es) (view_patterns zs) now) (append-nil done)
      (h.typed [] now
      (subst (λ zs. ArePatterns c now (source.exprs_of (map source.view_expr zs)) (view_patterns []) now) (sym (drop_all i es l))
      (typing.no_patterns now)))

  pub patterned_fails : (start now : Body) (es : Trees) (i : ℕ) (done : List code_pattern.Pattern) (d : code_expr.Expr) (f : code.Cause)
      → i < length es → FailsBy f (FailsPattern c now (source.view_expr (get_or es i d))) → Patterned start now es i done
      → FailsBy f (FailsPatterns c start (from 0 es))
  patterned_fails start now es i done d f l told h =
      fails_weaker f _ _ (λ k x.
      h.fails k
      (subst (λ zs. FailsPatterns c now zs k) (sym (from_more es i d l))
      (failing.first_pattern now (source.view_expr (get_or es i d)) (from (i + 1) es) k x))) told

  -- ---- items of arrays

  pub record Filled (start now : Body) (before after : Filling) (is : List code_init.Init) (i : ℕ) : Type 0 where
    pub typed : (js : List Item) (last : Optional) (b : Body) → Fill c now after.next after.rest (inits_from i is) (items_of js) last b
        → Fill c start before.next before.rest (inits_from 0 is) (items_of (after.items ++ js)) last b
    pub fails : (k : Cause) → FailsFill c now after.next after.rest (inits_from i is) k
        → FailsFill c start before.next before.rest (inits_from 0 is) k

  pub filled_start : (b : Body) (before : Filling) (is : List code_init.Init) → before.items ≡ [] → Filled b b before before is 0
  filled_start b before is none = record {
    typed = λ js last b1 h.
        subst (λ zs. Fill c b before.next before.rest (inits_from 0 is) (items_of (zs ++ js)) last b1) (sym none) h;
    fails = λ k h. h;
  }

  pub filled_more : (start now next : Body) (before after later : Filling) (is : List code_init.Init) (i : ℕ) (d : code_init.Init)
      → i < length is → FillsOne c now next after later (source.view_init (get_or is i d)) → Filled start now before after is i
      → Filled start next before later is (i + 1)
  filled_more start now next before after later is i d l one h = record {
    typed = λ js last b w.
        subst (λ zs. Fill c start before.next before.rest (inits_from 0 is) (items_of (zs ++ js)) last b) (sym one.items)
        (subst (λ zs. Fill c start before.next before.rest (inits_from 0 is) (items_of zs) last b) (sym (append_assoc after.items
        one.added js))
        (h.typed (one.added ++ js) last b
        (subst (λ zs. Fill c now after.next after.rest zs (items_of (one.added ++ js)) last b) (sym (inits_more is i d l))
        (one.fills (inits_from (i + 1) is) js last b w))));
    fails = λ k w.
        h.fails k
        (subst (λ zs. FailsFill c now after.next after.rest zs k) (sym (inits_more is i d l)) (one.fails (inits_from (i + 1) is) k w));
  }

  pub filled_end : (start now : Body) (before after : Filling) (is : List code_init.Init) (i : ℕ) → length is ≤ i
      → Filled start now before after is i → Fill c start before.next before.rest (inits_from 0 is) (items_of after.items) after.rest now
  filled_end start now before after is i l h =
      subst (λ zs. Fill c start before.next before.rest (inits_from 0 is) (items_of zs) after.rest now) (append-nil after.items)
      (h.typed [] after.rest now
      (subst (λ zs. Fill c now after.next after.rest (source.inits_of (map source.view_init zs)) (items_of []) after.rest now)
      (sym (drop_all i is l)) (typing.no_items now after.next after.rest)))

  pub filled_fails : (start now : Body) (before after : Filling) (is : List code_init.Init) (i : ℕ) (d : code_init.Init) (f : code.Cause)
      → i < length is → FailsBy f (FailsOne c now after (source.view_init (get_or is i d))) → Filled start now before after is i
      → FailsBy f (FailsFill c start before.next before.rest (inits_from 0 is))
  filled_fails start now before after is i d f l told h =
      fails_weaker f _ _ (λ k x.
      h.fails k (subst (λ zs. FailsFill c now after.next after.rest zs k) (sym (inits_more is i d l)) (x (inits_from (i + 1) is)))) told
