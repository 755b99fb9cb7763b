-- A left side is one pattern at most, and none where it fails.
use Rattle.std.proofs.Common.{◌≡◌, ℕ, List, length, Option, None, Some, IsSome, refl, sym, ap, subst, ◌∙◌}
use Rattle.limbo_types.specs.Types as ty
use Rattle.limbo_types.specs.Types.{Ty, Tys}
use Rattle.limbo_tree.specs.Exprs as tree
use Rattle.limbo_typed.specs.Typed.{At, Local, Pattern, ToPlace, ToNothing, ToParts, Patterns, NoPatterns, MorePatterns}
use Rattle.limbo_scope.specs.declared.meaning.Meaning.{Meaning}
use Rattle.limbo_scope.specs.Scopes.{declared_here}
use Rattle.limbo_context.specs.Context.{Body, with_variable}
use Rattle.limbo_causes.specs.Causes.{Cause}
use Rattle.limbo_defining.specs.Defining as def
use Rattle.limbo_defining.specs.Defining.{IsFree, IsLeft, AreMany, parts_of, Defines, DefineEach, FailsDefine, FailsDefineSome}
use Rattle.limbo_defining.specs.Parts.{DefinesPart, stays, declares}
use Rattle.limbo_defining.specs.Laws.{OneDefinition, FailsOrDefines}

-- ---- by the form of a left side

pub from_name : (b : Body) (n : List ℕ) (t : Ty) (q : Pattern) (b' : Body) → Defines b (tree.Name n) t q b'
    → (ToPlace (At t (Local (length b.variables))) ≡ q) × (with_variable n t b ≡ b') × IsFree n b
from_name _ _ _ _ _ (def.name b n t f) = (refl, refl, f)

pub from_group : (b : Body) (es : tree.Exprs) (t : Ty) (q : Pattern) (b' : Body) → Defines b (tree.Group es) t q b'
    → (ts : Tys) × (ps : Patterns) × (t ≡ ty.Tuple ts) × (ToParts ps ≡ q) × DefineEach b es ts ps b'
from_group _ _ _ _ _ (def.parts b b' e f es ts ps h) = (ts, ps, refl, refl, h)

from_nil : (b : Body) (t : Ty) (q : Pattern) (b' : Body) → Defines b tree.Nil t q b' → ⊥
from_nil b t q b' h = elim h [ ]

from_none : (b : Body) (qs : Patterns) (b' : Body) → DefineEach b tree.NoExprs ty.NoTys qs b' → (NoPatterns ≡ qs) × (b ≡ b')
from_none _ _ _ (def.no_more b) = (refl, refl)

pub from_more : (b : Body) (e : tree.Expr) (es : tree.Exprs) (t : Ty) (ts : Tys) (qs : Patterns) (b'' : Body)
    → DefineEach b (tree.MoreExprs e es) (ty.MoreTys t ts) qs b''
    → (p : Pattern) × (ps : Patterns) × (b' : Body) × (MorePatterns p ps ≡ qs) × DefinesPart b e t p b' × DefineEach b' es ts ps b''
from_more _ _ _ _ _ _ _ (def.nowhere b b' t es ts ps h) = (ToNothing, ps, b, refl, stays refl refl refl, h)
from_more _ _ _ _ _ _ _ (def.and_more b b' b'' e t p es ts ps d h) = (p, ps, b', refl, declares d, h)

no_nil : (b : Body) (e : tree.Expr) (t : Ty) (q : Pattern) (b' : Body) → Defines b e t q b' → e ≡ tree.Nil → ⊥
no_nil b e t q b' h is = from_nil b t q b' (subst (λ (z : tree.Expr). Defines b z t q b') is h)

nil_part : (b : Body) (e : tree.Expr) (t : Ty) (p : Pattern) (b' : Body) → e ≡ tree.Nil → DefinesPart b e t p b' → (ToNothing ≡ p) × (b' ≡ b)
nil_part b e t p b' is (stays x y z) = (sym y, z)
nil_part b e t p b' is (declares d) = absurd (no_nil b e t p b' d is)

declared_part : (b : Body) (e : tree.Expr) (t : Ty) (q : Pattern) (b' : Body) → (e ≡ tree.Nil → ⊥) → DefinesPart b e t q b' → Defines b e t q b'
declared_part b e t q b' never (stays x y z) = absurd (never x)
declared_part b e t q b' never (declares d) = d

same_parts : (ts us : Tys) → ty.Tuple ts ≡ ty.Tuple us → ts ≡ us
same_parts ts us e = cc

-- ---- one at most

mutual
  pub one : OneDefinition
  one _ _ _ _ q _ b'' (def.name b n t f) y = let g = from_name b n t q b'' y in (g.0, g.1)
  one _ _ _ _ q _ b'' (def.parts b b' e f es ts ps h) y =
      let all = tree.MoreExprs e (tree.MoreExprs f es) in
      let g = from_group b all (ty.Tuple ts) q b'' y in
      let r = one_each b all ts ps g.1 b' b'' h (subst (λ (z : Tys). DefineEach b all z g.1 b'') (sym (same_parts ts g.0 g.2)) g.4) in
      (ap ToParts r.0 ∙ g.3, r.1)

  one_each : (b : Body) (es : tree.Exprs) (ts : Tys) (ps qs : Patterns) (b' b'' : Body) → DefineEach b es ts ps b' → DefineEach b es ts qs b''
      → (ps ≡ qs) × (b' ≡ b'')
  one_each _ _ _ _ qs _ b'' (def.no_more b) y = from_none b qs b'' y
  one_each _ _ _ _ qs _ c (def.nowhere b b' t es ts ps h) y =
      let g = from_more b tree.Nil es t ts qs c y in
      let n = nil_part b tree.Nil t g.0 g.2 refl g.4 in
      let r = one_each b es ts ps g.1 b' c h (subst (λ (z : Body). DefineEach z es ts g.1 c) n.1 g.5) in
      (ap (λ (z : Patterns). MorePatterns ToNothing z) r.0 ∙ ap (λ (z : Pattern). MorePatterns z g.1) n.0 ∙ g.3, r.1)
  one_each _ _ _ _ qs _ c (def.and_more b b' b'' e t p es ts ps d h) y =
      let g = from_more b e es t ts qs c y in
      let r = one b e t p g.0 b' g.2 d (declared_part b e t g.0 g.2 (no_nil b e t p b' d) g.4) in
      let s = one_each b' es ts ps g.1 b'' c h (subst (λ (z : Body). DefineEach z es ts g.1 c) (sym r.1) g.5) in
      (ap (λ (z : Patterns). MorePatterns p z) s.0 ∙ ap (λ (z : Pattern). MorePatterns z g.1) r.0 ∙ g.3, s.1)

-- ---- none where it fails

left_defined : (b : Body) (e : tree.Expr) (t : Ty) (p : Pattern) (b' : Body) → Defines b e t p b' → IsLeft e
left_defined _ _ _ _ _ (def.name b n t f) = tt
left_defined _ _ _ _ _ (def.parts b b' e f es ts ps h) = tt

many_defined : (b : Body) (es : tree.Exprs) (ts : Tys) (ps : Patterns) (b' : Body) → DefineEach b es ts ps b' → AreMany es ts
many_defined _ _ _ _ _ (def.no_more b) = tt
many_defined _ _ _ _ _ (def.nowhere b b' t es ts ps h) = many_defined b es ts ps b' h
many_defined _ _ _ _ _ (def.and_more b b' b'' e t p es ts ps d h) = many_defined b' es ts ps b'' h

not_some : (o : Option Meaning) → IsSome o → o ≡ None → ⊥
not_some None s e = cc
not_some (Some m) s e = cc

mutual
  pub never_both : FailsOrDefines
  never_both _ _ _ p b' _ (def.taken b n t s) y = not_some (declared_here n b.scopes) s (from_name b n t p b' y).2
  never_both _ _ _ p b' _ (def.no_name b e t never) y = never (left_defined b e t p b' y)
  never_both _ _ _ p b' _ (def.other_parts b e f es t never) y =
      let all = tree.MoreExprs e (tree.MoreExprs f es) in
      let g = from_group b all t p b' y in
      never (subst (λ (z : Ty). parts_of all z) (sym g.2) (many_defined b all g.0 g.1 b' g.4))
  never_both _ _ _ p b' _ (def.a_part b e f es ts k m x) y =
      let all = tree.MoreExprs e (tree.MoreExprs f es) in
      let g = from_group b all (ty.Tuple ts) p b' y in
      never_each b all ts g.1 b' k x (subst (λ (z : Tys). DefineEach b all z g.1 b') (sym (same_parts ts g.0 g.2)) g.4)

  never_each : (b : Body) (es : tree.Exprs) (ts : Tys) (ps : Patterns) (b' : Body) (k : Cause) → FailsDefineSome b es ts k
      → DefineEach b es ts ps b' → ⊥
  never_each _ _ _ qs c _ (def.behind_nil b t es ts k x) y =
      let g = from_more b tree.Nil es t ts qs c y in
      never_each b es ts g.1 c k x (subst (λ (z : Body). DefineEach z es ts g.1 c) (nil_part b tree.Nil t g.0 g.2 refl g.4).1 g.5)
  never_each _ _ _ qs c _ (def.this b e t es ts k n x) y =
      let g = from_more b e es t ts qs c y in
      never_both b e t g.0 g.2 k x (declared_part b e t g.0 g.2 n g.4)
  never_each _ _ _ qs c _ (def.behind b b' e t p es ts k d x) y =
      let g = from_more b e es t ts qs c y in
      let r = one b e t p g.0 b' g.2 d (declared_part b e t g.0 g.2 (no_nil b e t p b' d) g.4) in
      never_each b' es ts g.1 c k x (subst (λ (z : Body). DefineEach z es ts g.1 c) (sym r.1) g.5)
