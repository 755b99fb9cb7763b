-- Variables that `:=` declares (Limbo Language Reference, declarations).
use Rattle.std.specs.Prelude.{◌≡◌, ℕ, List, length, None, IsSome}
use Rattle.limbo_types.specs.Types.{Ty, Tys, Tuple, NoTys, MoreTys}
use Rattle.limbo_tree.specs.Exprs as tree
use Rattle.limbo_typed.specs.Typed.{At, Local, Pattern, ToPlace, ToNothing, ToParts, Patterns, NoPatterns, MorePatterns}
use Rattle.limbo_scope.specs.Scopes.{declared_here}
use Rattle.limbo_refusals.specs.Refusals as refusals
use Rattle.limbo_context.specs.Context.{Body, with_variable}
use Rattle.limbo_causes.specs.Causes.{Cause, Twice, Refused}

abbrev pub IsFree : List ℕ → Body → Type 0
IsFree n b = declared_here n b.scopes ≡ None

-- The left side declares variables for a value of this type, one after the other, and is this pattern: a name, or in a tuple names,
-- tuples and `nil`.
mutual
  pub data Defines : Body → tree.Expr → Ty → Pattern → Body → Type 0 where
    name : (b : Body) (n : List ℕ) (t : Ty) → IsFree n b
        → Defines b (tree.Name n) t (ToPlace (At t (Local (length b.variables)))) (with_variable n t b)
    parts : (b b' : Body) (e f : tree.Expr) (es : tree.Exprs) (ts : Tys) (ps : Patterns)
        → DefineEach b (tree.MoreExprs e (tree.MoreExprs f es)) ts ps b'
        → Defines b (tree.Group (tree.MoreExprs e (tree.MoreExprs f es))) (Tuple ts) (ToParts ps) b'

  pub data DefineEach : Body → tree.Exprs → Tys → Patterns → Body → Type 0 where
    no_more : (b : Body) → DefineEach b tree.NoExprs NoTys NoPatterns b
    nowhere : (b b' : Body) (t : Ty) (es : tree.Exprs) (ts : Tys) (ps : Patterns) → DefineEach b es ts ps b'
        → DefineEach b (tree.MoreExprs tree.Nil es) (MoreTys t ts) (MorePatterns ToNothing ps) b'
    and_more : (b b' b'' : Body) (e : tree.Expr) (t : Ty) (p : Pattern) (es : tree.Exprs) (ts : Tys) (ps : Patterns)
        → Defines b e t p b' → DefineEach b' es ts ps b'' → DefineEach b (tree.MoreExprs e es) (MoreTys t ts) (MorePatterns p ps) b''

-- A left side is a name, or several in parentheses.
abbrev pub IsLeft : tree.Expr → Type 0
IsLeft (tree.Name n) = Unit {0}
IsLeft (tree.Group (tree.MoreExprs e (tree.MoreExprs f es))) = Unit {0}
IsLeft _ = ⊥

-- so many expressions and types
abbrev pub AreMany : tree.Exprs → Tys → Type 0
AreMany tree.NoExprs NoTys = Unit {0}
AreMany (tree.MoreExprs e es) (MoreTys t ts) = AreMany es ts
AreMany es ts = ⊥

abbrev pub parts_of : tree.Exprs → Ty → Type 0
parts_of es (Tuple ts) = AreMany es ts
parts_of es t = ⊥

-- Why it declares none: a name that the innermost scope declares already; something else than names; a value of another type than a
-- tuple of so many parts.
mutual
  pub data FailsDefine : Body → tree.Expr → Ty → Cause → Type 0 where
    taken : (b : Body) (n : List ℕ) (t : Ty) → IsSome (declared_here n b.scopes) → FailsDefine b (tree.Name n) t Twice
    no_name : (b : Body) (e : tree.Expr) (t : Ty) → (IsLeft e → ⊥) → FailsDefine b e t (Refused refusals.NotPlace)
    other_parts : (b : Body) (e f : tree.Expr) (es : tree.Exprs) (t : Ty) → (parts_of (tree.MoreExprs e (tree.MoreExprs f es)) t → ⊥)
        → FailsDefine b (tree.Group (tree.MoreExprs e (tree.MoreExprs f es))) t (Refused (refusals.Clash t t))
    a_part : (b : Body) (e f : tree.Expr) (es : tree.Exprs) (ts : Tys) (k : Cause)
        → AreMany (tree.MoreExprs e (tree.MoreExprs f es)) ts → FailsDefineSome b (tree.MoreExprs e (tree.MoreExprs f es)) ts k
        → FailsDefine b (tree.Group (tree.MoreExprs e (tree.MoreExprs f es))) (Tuple ts) k

  pub data FailsDefineSome : Body → tree.Exprs → Tys → Cause → Type 0 where
    behind_nil : (b : Body) (t : Ty) (es : tree.Exprs) (ts : Tys) (k : Cause) → FailsDefineSome b es ts k
        → FailsDefineSome b (tree.MoreExprs tree.Nil es) (MoreTys t ts) k
    this : (b : Body) (e : tree.Expr) (t : Ty) (es : tree.Exprs) (ts : Tys) (k : Cause) → (e ≡ tree.Nil → ⊥) → FailsDefine b e t k
        → FailsDefineSome b (tree.MoreExprs e es) (MoreTys t ts) k
    behind : (b b' : Body) (e : tree.Expr) (t : Ty) (p : Pattern) (es : tree.Exprs) (ts : Tys) (k : Cause) → Defines b e t p b'
        → FailsDefineSome b' es ts k → FailsDefineSome b (tree.MoreExprs e es) (MoreTys t ts) k
