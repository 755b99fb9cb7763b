-- Where the checking of a body has come to (Limbo Language Reference, scope).
use Rattle.std.specs.Prelude.{◌≡◌, ℕ, suc, ◌++◌, List, [], ◌∷◌, length, map}
use Rattle.limbo_tree.specs.Exprs as tree
use Rattle.limbo_types.specs.Types.{Ty}
use Rattle.limbo_typed.specs.Typed.{Expr}
use Rattle.limbo_scope.specs.declared.meaning.Meaning.{Meaning}
use Rattle.limbo_scope.specs.declared.meaning.Meaning.TheVariants as meaning
use Rattle.limbo_scope.specs.Scopes.{entered, left}
use Rattle.limbo_scope.specs.Laws.{declared_all}
use Rattle.limbo_declarations.specs.Names.{AreOnce}
use Rattle.limbo_typing.specs.limbo_defining.Defining.{IsFree}
use Rattle.limbo_context.specs.Context.{Context, Body}
use Rattle.limbo_typed.specs.Sound.{Each}
use Rattle.limbo_typing.specs.Typing.{HasValue}

-- The lists that names lead to, which grow by what a body declares; what names mean there, and the variables so far; how many handlers
-- the function has so far.
pub record Point : Type 0 where
  pub context : Context
  pub body : Body
  pub catches : ℕ

abbrev pub with_body : Body → Point → Point
with_body b p = record { context = p.context; body = b; catches = p.catches }

-- A scope begins, and ends.
abbrev pub enter : Point → Point
enter p = with_body (record { scopes = entered p.body.scopes; variables = p.body.variables }) p

abbrev pub leave : Point → Point
leave p = with_body (record { scopes = left p.body.scopes; variables = p.body.variables }) p

-- An expression has this value where the checking has come to, and it goes on there.
pub record ValueAt (p : Point) (e : tree.Expr) (x : Expr) (q : Point) : Type 0 where
  pub behind : Body
  pub has : HasValue p.context p.body e x behind
  pub goes_on : q ≡ with_body behind p

-- ---- names

-- Names that may be declared: the innermost scope declares none of them, and none stands twice.
abbrev pub AreNew : List (List ℕ) → Body → Type 0
AreNew names b = Each (λ n. IsFree n b) names × AreOnce names

-- names in a row, which mean a kind by numbers in a row, from this one on
abbrev pub meaning_from : (ℕ → Meaning) → ℕ → List (List ℕ) → List (List ℕ × Meaning)
meaning_from means n [] = []
meaning_from means n (name ∷ names) = (name, means n) ∷ meaning_from means (suc n) names

abbrev pub with_names : (ℕ → Meaning) → ℕ → List (List ℕ) → Body → Body
with_names means n names b = record { scopes = declared_all (meaning_from means n names) b.scopes; variables = b.variables }

-- the same with a list of the context, to which the names lead
abbrev pub leading : Context → (ℕ → Meaning) → ℕ → List (List ℕ) → Point → Point
leading c means n names p = record { context = c; body = with_names means n names p.body; catches = p.catches }

-- ---- variables

-- numbers in a row, one for each name
abbrev pub numbers : ℕ → List (List ℕ) → List ℕ
numbers n [] = []
numbers n (name ∷ names) = n ∷ numbers (suc n) names

abbrev pub next_numbers : List (List ℕ) → Point → List ℕ
next_numbers names p = numbers (length p.body.variables) names

abbrev pub with_variables : List (List ℕ) → Ty → Point → Point
with_variables names t p =
    with_body
    (record {
      scopes = declared_all (meaning_from meaning.Variable (length p.body.variables) names) p.body.scopes;
      variables = p.body.variables ++ map (λ n. record { name = n; ty = t }) names;
    })
    p
